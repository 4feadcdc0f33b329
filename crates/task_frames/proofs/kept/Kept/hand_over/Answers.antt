use Rattle.std.proofs.Common.{length, sym, subst}
use Rattle.queues.specs.Asks.{IsOnTurn}
use Rattle.task_frames.specs.Cores.{KeptView}
use Rattle.task_frames.specs.Giving.{AreMade, GivesObjects}
use Rattle.task_frames.proofs.kept.Kept.hand_over.Goals as goal

pub spawn-requires-clause-turn : goal.spawn-requires-clause-turn
spawn-requires-clause-turn g c = subst (λ (k : KeptView). IsOnTurn k.name k.state c.args.parent) (sym c.self.view_is) c.requires.turn

pub returns-clause-made : goal.returns-clause-made
returns-clause-made g c =
    subst (λ (k : KeptView). (may : GivesObjects k.versions c.args.parent c.args.child c.args.gives.now)
    → AreMade may.s may.r k.versions c.give_objects.new.versions may.giver c.args.child c.args.gives.now (length c.args.gives.now)) c.self.view_is c.in_ok-give_objects.ensures.made
