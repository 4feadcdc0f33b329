use Rattle.std.proofs.Common.{IsSome, sym, subst}
use Rattle.task_frames.specs.Cores.{KeptView}
use Rattle.task_frames.specs.Records.{holding_too, live_at}
use Rattle.task_frames.proofs.Lives.{mapped-some}
use Rattle.task_frames.proofs.kept.Kept.note_place.Goals as goal

pub hold-requires : goal.hold-requires
hold-requires g c = record { live = subst (λ (k : KeptView). IsSome (live_at k.live c.args.number)) (sym c.self.view_is) c.requires.live }

pub come_to-requires : goal.come_to-requires
come_to-requires g c =
    let live = subst (λ (k : KeptView). IsSome (live_at k.live c.args.number)) (sym c.self.view_is) c.requires.live in
    record { live = subst IsSome (sym c.in_ok-hold.ensures.changed) (mapped-some (holding_too c.args.holding) (live_at c.self.inside.live c.args.number) live) }
