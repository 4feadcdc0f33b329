use Rattle.std.proofs.Common.{rules, ◌≡◌, ◌<◌, ◌≤◌, length, IfSome, ap, subst, sym, arith}
use Rattle.job_body.specs.Names.{slot}
use Rattle.job_body.specs.declared.name_table.TheConstants.{NAMES_MOST}
use Rattle.job_body.proofs.FewNames.{slot_few}
use Rattle.job_body.proofs.name_table.NameTable.place.Goals as goal

pub returns-clause-few : goal.returns-clause-few
returns-clause-few c =
    let found : c.copied.result ≡ slot c.args.self.now c.args.name.now = search rules in
    let few : length c.args.self.now ≤ NAMES_MOST = omega (arith, c.self.invariant.few, ap length c.self.view_is) in
    subst (λ found. IfSome found (λ place. place < NAMES_MOST)) (sym found) (slot_few c.args.self.now c.args.name.now few)
