use Rattle.std.proofs.Common.{IsSome, sym, subst}
use Rattle.task_frames.proofs.kept.Kept.leave.Goals as goal
use Rattle.task_frames.specs.Cores.{KeptView}
use Rattle.task_frames.specs.Records.{live_at}
use Rattle.queues.specs.Asks.{IsOnTurn}

pub finish-requires-2-clause-turn : goal.finish-requires-2-clause-turn
finish-requires-2-clause-turn g c = subst (λ (k : KeptView). IsOnTurn k.name k.state c.args.number) (sym c.self.view_is) c.requires.turn

pub leave-requires : goal.leave-requires
leave-requires g c = record { live = subst (λ (k : KeptView). IsSome (live_at k.live c.args.number)) (sym c.self.view_is) c.requires.live }
