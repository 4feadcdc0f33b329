-- What holds of the script of every plan: each task runs in the serial order, and within its rights. What is said
-- of a run out of order is said for every lawful script.
use Rattle.std.specs.Prelude.{◌≡◌, ◌⊎◌, ℕ, ◌+◌, ◌≤◌, true, false, Some, [], ◌∷◌, ◌++◌, List, IsTrue, length, slice_get}
use Rattle.swan_model.specs.declared.origin.Origin.{Origin}
use Rattle.swan_model.specs.declared.script.Deed.TheVariants.{Pop, Quiet}
use Rattle.swan_model.specs.declared.script.Entry.{Entry}
use Rattle.swan_model.specs.declared.script.Script.{Script}
use Rattle.swan_model.specs.Granted.{child_path, holds, is_spawn, is_within}
use Rattle.swan_model.specs.Nested.{IsEntryUnder, IsEndOf, IsNested}
use Rattle.swan_model.specs.Told.{count, taken}

-- Whose entry comes after the entry n: after a spawn the child's, after the end of a task its parent's, and
-- else one of the same task.
pub data IsNextPath (s : Script) (n : ℕ) (entry : Entry) (path : List ℕ) : Type 0 where
  of_child : is_spawn entry.deed ≡ true → entry.ends ≡ false → path ≡ child_path s entry.path n → IsNextPath s n entry path
  of_parent : is_spawn entry.deed ≡ false → entry.ends ≡ true → (child : ℕ) → entry.path ≡ path ++ child ∷ [] → IsNextPath s n entry path
  of_same : is_spawn entry.deed ≡ false → entry.ends ≡ false → path ≡ entry.path → IsNextPath s n entry path

pub record IsLawful (s : Script) : Type 0 where
  -- the first entry is one of the root
  pub first : (entry : Entry) → slice_get s.entries 0 ≡ Some entry → entry.path ≡ []
  pub next : (n : ℕ) (entry other : Entry) → slice_get s.entries n ≡ Some entry → slice_get s.entries (n + 1) ≡ Some other
      → IsNextPath s n entry other.path
  -- the root ends with the last entry
  pub last : (n : ℕ) → length s.entries ≡ n + 1 → IsEndOf s [] n
  -- there is an entry
  pub some : 1 ≤ length s.entries
  -- after its end a task has no entry, and nor have those below it
  pub over : (path : List ℕ) (end t : ℕ) → IsEndOf s path end → IsEntryUnder s path t → t ≤ end
  -- each child runs whole at its spawn
  pub nested : IsNested s
  -- a task ends by an entry that does nothing to others: by a pop only where the queue is empty
  pub ending : (n : ℕ) (entry : Entry) → slice_get s.entries n ≡ Some entry → entry.ends ≡ true
      → (entry.deed ≡ Quiet) ⊎ ((queue : Origin) × (entry.deed ≡ Pop queue) × (taken s queue n ≡ count s queue n))
  -- each deed is within what its task holds
  pub within : (n : ℕ) (entry : Entry) → slice_get s.entries n ≡ Some entry → IsTrue (is_within (holds s entry.path n) entry.deed)
