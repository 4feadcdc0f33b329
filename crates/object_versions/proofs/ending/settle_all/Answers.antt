use Rattle.std.proofs.Common.{arith}
use Rattle.object_versions.proofs.Debts.{one_debt_less, paid_below}
use Rattle.object_versions.proofs.ending.settle_all.Goals as goal

pub loop-debt-smaller : goal.loop-debt-smaller
loop-debt-smaller c =
    let debt = c.in-Some.ensures.owes in
    let less = one_debt_less c.loop-debt.places.entries c.pay.new.places.entries c.args.frame c.in-Some.debt.place c.in-Some.debt.owed debt.has debt.stands debt.owes
    (c.in_ok-pay.ensures.paid debt.has debt.stands) in
    omega (arith, less)

pub loop-debt-preserved : goal.loop-debt-preserved
loop-debt-preserved c =
    let debt = c.in-Some.ensures.owes in (
      paid_below c.loop-debt.places.entries c.pay.new.places.entries c.args.frame c.in-Some.debt.place c.in-Some.debt.owed debt.has debt.stands debt.owes
          (c.in_ok-pay.ensures.paid debt.has debt.stands) c.in-Some.ensures.below,
      λ made begun. c.in_ok-pay.ensures.settling c.args.places.now.entries c.args.nodes.now made (c.loop-debt.invariant.1 made begun),
    )
