use Rattle.std.proofs.Common.{Some}
use Rattle.std.proofs.Math.Path.{fun_ext}
use Rattle.std.proofs.lemmas.Map.Text.{btree_map_updates_str}
use Rattle.privilege_check.proofs.lent.lend.Goals as goal

pub returns-clause-lent : goal.returns-clause-lent
returns-clause-lent c =
    fun_ext (btree_map_updates_str c.args.name.now c.args.lent.now c.insert.new.self (Some c.args.mode) c.in_ok-insert.ensures.updates)
