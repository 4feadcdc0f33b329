use Rattle.std.proofs.Common.{◌≡◌, drop, false}
use Rattle.std.specs.Map.{lookup}
use Rattle.std.specs.Str.{bytes_eq}
use Rattle.privilege_check.specs.Checking.{by_name}
use Rattle.privilege_check.specs.Spawns.{is_lent_twice, lent}
use Rattle.privilege_check.proofs.lent.is_lent_twice.Given as goal

abbrev pub invariant-loop-index : goal.invariant-loop-index
invariant-loop-index l =
    let later = lent (drop l.index l.takes) (drop l.index l.args) in
    record {
      once : is_lent_twice later ≡ false;
      known : by_name l.lent ≡ (λ name. lookup (bytes_eq name) later);
    }
