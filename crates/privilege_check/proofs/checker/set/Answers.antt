use Rattle.std.proofs.Common.{Some, ap, ◌∙◌}
use Rattle.std.specs.Map.{update}
use Rattle.std.specs.Str.{bytes_eq}
use Rattle.std.proofs.Math.Path.{fun_ext}
use Rattle.std.proofs.lemmas.Map.Text.{btree_map_updates_str}
use Rattle.privilege_check.specs.Checking.{by_name}
use Rattle.privilege_check.proofs.checker.set.Goals as goal

pub returns : goal.returns
returns g c =
    fun_ext (btree_map_updates_str c.as_str.result.now c.args.names.now c.insert.new.self (Some c.args.value) c.in_ok-insert.ensures.updates)
    ∙ ap (λ name. update bytes_eq (by_name c.args.names.now) name (Some c.args.value)) c.as_str.ensures
