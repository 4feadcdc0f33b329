-- Rights, counted from a script alone: what each task holds before an entry, and what a deed needs.
use Rattle.std.specs.Prelude.{ℕ, zero, suc, ◌+◌, ◌&&◌, nat_eq, Bool, true, false, List, [], ◌∷◌, ◌++◌, length, take, filter, if◌then◌else◌, slice_get}
use Rattle.std.specs.Cmp.Lexicographic.{pointwise}
use Rattle.std.specs.List.{list_any, list_all}
use Rattle.std.specs.Option.{option_map_or}
use Rattle.swan_model.specs.declared.origin.Origin.{Origin}
use Rattle.swan_model.specs.declared.origin.Origin.TheVariants.{Root, Step}
use Rattle.swan_model.specs.declared.rights.Mode.{Mode}
use Rattle.swan_model.specs.declared.rights.Mode.TheVariants.{In, Out, InOut, Push, Pop, PushPop}
use Rattle.swan_model.specs.declared.script.Deed.{Deed}
use Rattle.swan_model.specs.declared.script.Deed.TheVariants as deed
use Rattle.swan_model.specs.declared.script.Entry.{Entry}
use Rattle.swan_model.specs.declared.script.OriginGive.{OriginGive}
use Rattle.swan_model.specs.declared.script.Script.{Script}
use Rattle.swan_model.specs.Rights.{allows}
use Rattle.swan_model.specs.SerialTime.{is_of}
use Rattle.swan_model.specs.Told.{is_same}

-- this many root queues or objects, from an index on, by this mode
abbrev pub roots_from : Mode → ℕ → ℕ → List OriginGive
roots_from mode i zero = []
roots_from mode i (suc many) = (record { origin = Root i; mode = mode }) ∷ roots_from mode (i + 1) many

-- What the root holds, as far as a script tells: the modes of the plan's queues aren't in it, so push and pop are counted on each,
-- also where the plan gives the root only one of them; and read and write on each root object.
abbrev pub root_holds : Script → List OriginGive
root_holds s = roots_from PushPop 0 (length s.queues) ++ roots_from InOut 0 (length s.objects)

abbrev pub is_spawn : Deed → Bool
is_spawn (deed.Spawn gives) = true
is_spawn _ = false

-- how many children a task has spawned before the entry n
abbrev pub children_before : Script → List ℕ → ℕ → ℕ
children_before s path n = length (filter (λ entry. is_of path entry && is_spawn entry.deed) (take n s.entries))

-- the path of the child that the entry n makes, where it is a spawn of the task with this path
abbrev pub child_path : Script → List ℕ → ℕ → List ℕ
child_path s parent n = parent ++ children_before s parent n ∷ []

-- What the deed of the entry n adds to what a task holds, which may be the one whose step it is, or the
-- child that it makes. A maker holds both rights on what it made, and a child holds its gives.
abbrev pub granted : (is_own is_child : Bool) → ℕ → Deed → List OriginGive
granted is_own is_child n deed.MakeQueue = if is_own then (record { origin = Step n; mode = PushPop }) ∷ [] else []
granted is_own is_child n (deed.MakeObject value) = if is_own then (record { origin = Step n; mode = InOut }) ∷ [] else []
granted is_own is_child n (deed.Spawn gives) = if is_child then gives else []
granted is_own is_child n _ = []

abbrev pub granted_by : Script → List ℕ → ℕ → Entry → List OriginGive
granted_by s path n entry =
    granted (is_of path entry) (pointwise nat_eq (child_path s entry.path n) path) n entry.deed

-- what the task with this path holds before the entry n, counted so
abbrev pub holds : Script → List ℕ → ℕ → List OriginGive
holds s path zero = if pointwise nat_eq path [] then root_holds s else []
holds s path (suc n) = holds s path n ++ option_map_or (granted_by s path n) (slice_get s.entries n) []

-- whether one who holds this may use by this mode what this origin made
abbrev pub may_use : List OriginGive → Mode → Origin → Bool
may_use held mode origin = list_any (λ has. allows has.mode mode && is_same has.origin origin) held

-- whether one who holds this may give it so
abbrev pub may_give : List OriginGive → OriginGive → Bool
may_give held give = may_use held give.mode give.origin

-- whether a deed is within what its task holds
abbrev pub is_within : List OriginGive → Deed → Bool
is_within held (deed.Push queue value) = may_use held Push queue
is_within held (deed.Pop queue) = may_use held Pop queue
is_within held (deed.Test queue) = may_use held Pop queue
is_within held (deed.Read object) = may_use held In object
is_within held (deed.Write object value) = may_use held Out object
is_within held (deed.Spawn gives) = list_all (may_give held) gives
is_within held _ = true
