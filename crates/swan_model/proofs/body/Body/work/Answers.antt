use Rattle.swan_model.proofs.Working.{one-more}
use Rattle.swan_model.proofs.body.Body.work.Goals as goal

pub loop-works-preserved : goal.loop-works-preserved
loop-works-preserved g c =
    one-more (g.Self.Body.next c.args.self.now) c.args.local c.args.answer c.args.fuel c.loop-works.works c.loop-works.local c.loop-works.told c.in_ok-moved.moved c.in_ok-moved.ask c.loop-works.invariant c.in_ok-moved.ensures c.in-Work.is
