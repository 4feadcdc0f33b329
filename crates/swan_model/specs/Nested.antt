-- How the tasks of a script lie in each other. In serial order a child runs whole at the step that spawns it.
use Rattle.std.specs.Prelude.{◌≡◌, ℕ, ◌<◌, ◌&&◌, true, Option, Some, List, [], ◌∷◌, ◌++◌, IsTrue, length, slice_get}
use Rattle.swan_model.specs.declared.script.Entry.{Entry}
use Rattle.swan_model.specs.declared.script.Script.{Script}
use Rattle.swan_model.specs.Granted.{is_spawn}
use Rattle.swan_model.specs.SerialTime.{Progress, Reading, is_of, is_done, places_from, times}

-- the time at which a task spawns its child of this number, where it does
abbrev pub spawn_time : Script → List ℕ → ℕ → Option ℕ
spawn_time s path child = slice_get (places_from (λ entry. is_of path entry && is_spawn entry.deed) 0 s.entries) child

-- at this time the task of a path, or one below it, has an entry
pub record IsEntryUnder (s : Script) (path : List ℕ) (t : ℕ) : Type 0 where
  pub entry : Entry
  pub stands : slice_get s.entries t ≡ Some entry
  pub rest : List ℕ
  pub under : entry.path ≡ path ++ rest

-- at this time the task of a path has an entry
pub record IsEntryOf (s : Script) (path : List ℕ) (t : ℕ) : Type 0 where
  pub entry : Entry
  pub stands : slice_get s.entries t ≡ Some entry
  pub own : entry.path ≡ path

-- at this time the task of a path has an entry that ends it
pub record IsEndOf (s : Script) (path : List ℕ) (t : ℕ) : Type 0 where
  pub entry : Entry
  pub stands : slice_get s.entries t ≡ Some entry
  pub own : entry.path ≡ path
  pub ends : entry.ends ≡ true

-- Each child runs whole at the step that spawns it: its entries, and those below it, come after its spawn,
-- and before the next entry that its parent has.
pub record IsNested (s : Script) : Type 0 where
  pub after : (path : List ℕ) (child spawn t : ℕ) → spawn_time s path child ≡ Some spawn → IsEntryUnder s (path ++ child ∷ []) t → spawn < t
  pub whole : (path : List ℕ) (child spawn t u : ℕ) → spawn_time s path child ≡ Some spawn → IsEntryUnder s (path ++ child ∷ []) t
      → IsEntryOf s path u → spawn < u → t < u

-- a frame of the reading, at this index of its list, that has an entry left
pub record IsLeft (s : Script) (r : Reading) (index : ℕ) (frame : Progress) : Type 0 where
  pub stands : slice_get r.frames index ≡ Some frame
  pub left : frame.done < length (times s frame.path)

-- a child of the script, by the path of its parent and its number there, whose spawn is done
pub record IsSpawned (s : Script) (r : Reading) (path : List ℕ) (child : ℕ) : Type 0 where
  pub spawn : ℕ
  pub known : spawn_time s path child ≡ Some spawn
  pub done : IsTrue (is_done s r spawn)

-- a reading whose frames are different tasks, and in which the spawn of each child is done
pub record HasTasks (s : Script) (r : Reading) : Type 0 where
  pub different : (i j : ℕ) (frame other : Progress) → slice_get r.frames i ≡ Some frame → slice_get r.frames j ≡ Some other
      → frame.path ≡ other.path → i ≡ j
  pub spawned : (i : ℕ) (frame : Progress) (path : List ℕ) (child : ℕ) → slice_get r.frames i ≡ Some frame
      → frame.path ≡ path ++ child ∷ [] → IsSpawned s r path child
