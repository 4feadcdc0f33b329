use Rattle.std.proofs.Common.{IsSome, sym, subst}
use Rattle.task_frames.specs.Cores.{KeptView}
use Rattle.task_frames.specs.Records.{live_at}
use Rattle.task_frames.proofs.kept.Kept.note_child.Goals as goal

pub come_to-requires : goal.come_to-requires
come_to-requires g c = record { live = subst (λ (k : KeptView). IsSome (live_at k.live c.args.parent)) (sym c.self.view_is) c.requires.live }
