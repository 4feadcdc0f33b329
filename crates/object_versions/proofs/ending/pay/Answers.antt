use Rattle.std.proofs.Common.{sym, ap, ◌∙◌}
use Rattle.swan_model.specs.Versions.{settled}
use Rattle.object_versions.specs.Store.{version_at}
use Rattle.object_versions.proofs.Settling.{settling_next, debt_reads, debt_there, debt_still_there, reads_no_owing}
use Rattle.object_versions.proofs.Referred.{settled_there}
use Rattle.object_versions.proofs.ending.pay.Goals as goal

pub value_at-requires : goal.value_at-requires
value_at-requires c =
    let began = c.requires.began in
    let reads = debt_reads _ _ _ _ _ _ _ _ _ began.3 c.requires.owes in
    settled_there c.args.nodes.now c.args.debt.present reads.0 reads.1

pub unreachable-requires : goal.unreachable-requires
unreachable-requires c =
    let began = c.requires.began in
    let reads = debt_reads _ _ _ _ _ _ _ _ _ began.3 c.requires.owes in
    reads_no_owing c.args.nodes.now c.args.debt.present reads.0 c.in-Err.field-0 reads.1 c.in-Err.ensures.err

pub overwrite-requires : goal.overwrite-requires
overwrite-requires c = debt_there _ _ _ _ _ _ _ _ _ c.requires.began.3 c.requires.owes

pub release-requires : goal.release-requires
release-requires c = debt_still_there _ _ _ _ _ _ _ _ _ c.requires.began.3 c.requires.owes _ _ c.overwrite.ensures

pub returns-clause-settling : goal.returns-clause-settling
returns-clause-settling c = λ before start made begun.
    let debt = c.requires.owes in
    settling_next _ _ _ _ _ made c.args.frame c.args.debt.place debt.has c.args.debt.owed _ begun.whole debt.stands debt.owes c.overwrite.ensures
    (c.forget_owed.ensures.set debt.has debt.stands) c.forget_owed.ensures.sorted c.release.ensures before start begun
    (ap (version_at c.args.nodes.now) debt.has_present ∙ c.in-Ok.ensures.ok ∙ ap settled (sym c.in_ok-value-in-Ok.ensures))
