-- What a check has found out so far, and what its steps answer.
use Rattle.std.specs.Prelude.{ℕ, List, Option, Result, Ok, Err, ◌≡◌}
use Rattle.std.specs.BTreeMap.{BTreeMap, get_by}
use Rattle.std.specs.Borrow.{Bor}
use Rattle.std.specs.Cmp.Lexicographic.{slice_cmp}
use Rattle.std.specs.Option.{option_copied}
use Rattle.std.specs.Ordering.{nat_cmp}
use Rattle.job_reader.specs.declared.fault.JobKind.{JobKind}
use Rattle.privilege_check.specs.Names.{Before}
use Rattle.privilege_check.specs.declared.checker.Checker.{Checker}
use Rattle.privilege_check.specs.declared.refusal.CheckLine.{CheckLine}
use Rattle.privilege_check.specs.declared.refusal.CheckLine.TheVariants as refusal

-- what a map has at a name
abbrev pub by_name : {A : Type 0} → BTreeMap (Bor (List ℕ)) A → List ℕ → Option A
by_name map name = get_by (λ key. slice_cmp nat_cmp name key.now) map

-- what the lines before say, as the maps of a check have it
abbrev pub before_of : Checker → Before
before_of checker =
    record {
      top = by_name checker.top;
      open_task = option_copied checker.open_task;
      own = by_name checker.own;
      tasks = by_name checker.tasks;
    }

-- what a function answered is this, unless memory ran out
abbrev pub IsFaultAs : {A : Type 0} → CheckLine → Result A JobKind → Type 0
IsFaultAs (refusal.Refused k) wanted = wanted ≡ Err k
IsFaultAs refusal.NoMemory wanted = Unit {0}

abbrev pub IsCheckedAs : {A : Type 0} → Result A CheckLine → Result A JobKind → Type 0
IsCheckedAs (Ok a) wanted = wanted ≡ Ok a
IsCheckedAs (Err refused) wanted = IsFaultAs refused wanted
