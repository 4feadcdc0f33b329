-- What a script tells of its queues and objects before an entry, from its entries alone: what was pushed to
-- a queue and how much of it was popped, and the value of an object. Entries count from 0 on, so n entries
-- stand before the entry n.
use Rattle.std.specs.Prelude.{ℕ, zero, suc, ◌+◌, ◌&&◌, ◌==◌, nat_lt, Bool, true, false, Option, Some, None, List, [], ◌++◌, length, take, drop, filter_map, if◌then◌else◌, slice_get, unwrap_or}
use Rattle.std.specs.List.{list_any}
use Rattle.std.specs.Option.{option_map, option_map_or}
use Rattle.swan_model.specs.declared.origin.Origin.{Origin}
use Rattle.swan_model.specs.declared.origin.Origin.TheVariants.{Root, Step}
use Rattle.swan_model.specs.declared.rights.Mode.{Mode}
use Rattle.swan_model.specs.declared.rights.Mode.TheVariants.{Out}
use Rattle.swan_model.specs.declared.script.Deed.{Deed}
use Rattle.swan_model.specs.declared.script.Deed.TheVariants as deed
use Rattle.swan_model.specs.declared.script.Entry.{Entry}
use Rattle.swan_model.specs.declared.script.OriginGive.{OriginGive}
use Rattle.swan_model.specs.declared.script.Script.{Script}
use Rattle.swan_model.specs.declared.value.Kind.{Kind}
use Rattle.swan_model.specs.declared.value.Value.{Value}
use Rattle.swan_model.specs.Values.{kind_of, zero_of}

-- whether two origins are the same
abbrev pub is_same : Origin → Origin → Bool
is_same (Root i) (Root j) = i == j
is_same (Step m) (Step n) = m == n
is_same _ _ = false

-- what the entry n does; past the last one there is nothing
abbrev pub deed_at : Script → ℕ → Deed
deed_at s n = option_map_or (λ entry. entry.deed) (slice_get s.entries n) deed.Quiet

-- the items with which a queue begins; one that a step made begins with none
abbrev pub first_items : Script → Origin → List Value
first_items s (Root i) = unwrap_or (slice_get s.queues i) []
first_items s (Step n) = []

-- what a deed pushes to this queue
abbrev pub pushed_by : Origin → Deed → Option Value
pushed_by queue (deed.Push origin value) = if is_same origin queue then Some value else None
pushed_by queue _ = None

-- what these entries push to this queue
abbrev pub pushed : Origin → List Entry → List Value
pushed queue entries = filter_map (λ entry. pushed_by queue entry.deed) entries

-- all that ever stands in a queue, in order: its first items and then what is pushed to it
abbrev pub pushes : Script → Origin → List Value
pushes s queue = first_items s queue ++ pushed queue s.entries

-- how many of them were in the queue before the entry n, or were pushed to it by then, those that have left it too
abbrev pub count : Script → Origin → ℕ → ℕ
count s queue n = length (first_items s queue) + length (pushed queue (take n s.entries))

-- whether a deed is a pop of this queue
abbrev pub is_pop_of : Origin → Deed → Bool
is_pop_of queue (deed.Pop origin) = is_same origin queue
is_pop_of queue _ = false

-- How many items left a queue before the entry n: one at each pop that finds an item. A pop that finds none
-- takes none.
abbrev pub taken : Script → Origin → ℕ → ℕ
taken s queue zero = 0
taken s queue (suc n) =
    if is_pop_of queue (deed_at s n) && nat_lt (taken s queue n) (count s queue n) then taken s queue n + 1
    else taken s queue n

-- the items that stand in a queue before the entry n
abbrev pub items : Script → Origin → ℕ → List Value
items s queue n = drop (taken s queue n) (take (count s queue n) (pushes s queue))

-- the object that a deed makes, by its value
abbrev pub made : Deed → Option Value
made (deed.MakeObject value) = Some value
made _ = None

-- The value with which an object begins. (`Root i` is the plan's object i here, and its queue i where queues
-- are spoken of.) There is none where the origin isn't that of an object.
abbrev pub first_value : Script → Origin → Option Value
first_value s (Root i) = slice_get s.objects i
first_value s (Step n) = made (deed_at s n)

abbrev pub is_out : Mode → Bool
is_out Out = true
is_out _ = false

-- whether this object is given by Out
abbrev pub is_given_out : Origin → OriginGive → Bool
is_given_out object give = is_out give.mode && is_same give.origin object

-- What a deed makes of the value of an object of this kind: what it writes; or the zero of the kind, where a
-- child is given the object by Out.
abbrev pub changed_by : Origin → Kind → Deed → Value → Value
changed_by object kind (deed.Write origin written) value = if is_same origin object then written else value
changed_by object kind (deed.Spawn gives) value =
    if list_any (is_given_out object) gives then zero_of kind else value
changed_by object kind _ value = value

-- The value before the entry n of an object with this first value. Its kind is that of its first value,
-- whatever is written later.
abbrev pub cell_from : Script → Origin → Value → ℕ → Value
cell_from s object first zero = first
cell_from s object first (suc n) = changed_by object (kind_of first) (deed_at s n) (cell_from s object first n)

-- The value of an object before the entry n, and none where the origin isn't that of an object. (Before the entry
-- that makes it, it has its first value; no contract speaks of it there.)
abbrev pub cell : Script → Origin → ℕ → Option Value
cell s object n = option_map (λ first. cell_from s object first n) (first_value s object)
