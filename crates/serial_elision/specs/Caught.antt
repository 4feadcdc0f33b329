-- How many of a task's children failed, told by faults and by the script. A script doesn't tell a fault from an end, so the
-- children that failed are counted by faults; which children count is told by the script.
use Rattle.std.specs.Prelude.{ℕ, zero, suc, ◌+◌, ◌&&◌, nat_eq, nat_le, Bool, true, false, List, [], ◌∷◌, ◌++◌, if◌then◌else◌}
use Rattle.std.specs.Cmp.Lexicographic.{pointwise}
use Rattle.std.specs.List.{list_any}
use Rattle.swan_model.specs.declared.fault.Fault.{Fault}
use Rattle.swan_model.specs.declared.script.Deed.{Deed}
use Rattle.swan_model.specs.declared.script.Deed.TheVariants as deed
use Rattle.swan_model.specs.declared.script.Script.{Script}
use Rattle.swan_model.specs.Granted.{is_spawn}
use Rattle.swan_model.specs.SerialState.{Activation}
use Rattle.swan_model.specs.SerialTime.{time}
use Rattle.swan_model.specs.Told.{deed_at}

-- whether the task of this path ended by one of these faults
abbrev pub has_failed : List Fault → List ℕ → Bool
has_failed faults path = list_any (λ fault. pointwise nat_eq fault.path path) faults

-- how many of a task's children ended by one of these faults, of those from one number up to, without, another
abbrev pub failed_children : List Fault → (path : List ℕ) → (from to : ℕ) → ℕ
failed_children faults path from zero = 0
failed_children faults path from (suc i) =
    if nat_le from i && has_failed faults (path ++ i ∷ []) then failed_children faults path from i + 1
    else failed_children faults path from i

abbrev pub is_sync : Deed → Bool
is_sync deed.Sync = true
is_sync _ = false

-- how many children a task has spawned before its step k
abbrev pub children_by : Script → (path : List ℕ) → (k : ℕ) → ℕ
children_by s path zero = 0
children_by s path (suc k) =
    if is_spawn (deed_at s (time s path k)) then children_by s path k + 1 else children_by s path k

-- and how many of them before the last Sync that comes before its step k; none where no Sync does
abbrev pub children_by_sync : Script → (path : List ℕ) → (k : ℕ) → ℕ
children_by_sync s path zero = 0
children_by_sync s path (suc k) =
    if is_sync (deed_at s (time s path k)) then children_by s path k else children_by_sync s path k

-- a parent once its child has ended, where the faults are these: it has one more failed child where the child failed
abbrev pub once_ended : {L : Type 0} → List Fault → (parent child : Activation L) → Activation L
once_ended faults parent child =
    record parent { failed = if has_failed faults child.path then parent.failed + 1 else parent.failed }
