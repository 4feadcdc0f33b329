use Rattle.std.proofs.Common.{◌≡◌, ◌<◌, Some, inl, refl, sym, subst, ◌∙◌, IsSome}
use Rattle.swan_model.specs.Values.{COUNT_MOST}
use Rattle.queues.specs.Asks.{IsOnTurn, MayJoin}
use Rattle.serial_elision.proofs.AskSteps.{syncs}
use Rattle.task_frames.specs.Records.{HasNoLiveChild, IsLiveChild, IsOldestChild, LiveFrame, live_at, synced_at}
use Rattle.task_frames.proofs.Asked.{noted-by, steps-few}
use Rattle.task_frames.proofs.Firsts.{waits-oldest}
use Rattle.task_frames.proofs.Given.{over, same-state}
use Rattle.task_frames.proofs.Goings.{is-asking, live-here}
use Rattle.task_frames.proofs.Syncing.{synced-so}
use Rattle.task_frames.proofs.Tried.{join-so, on-turn-so}
use Rattle.task_frames.proofs.kept.Kept.sync.Goals as goal

pub returns-in-Some-clause-step : goal.returns-in-Some-clause-step
returns-in-Some-clause-step g c =
    let has = c.requires.has in
    waits-oldest g.B.Body _ _ has _ c.asks.result c.in-Some.child refl c.asks.ensures
    (over (λ k n. IsOldestChild k.live n c.in-Some.child) _ _ _ _ (sym c.self.view_is) (sym c.number-number.ensures) c.in-Some.ensures.oldest)
    (inl (syncs g.B.Body c.args.mid.task.plan c.args.mid.task.path c.args.mid.task.done has.is.alone.top c.args.mid.local has.is.plan.lists (is-asking g.B.Body _ _ _ has c.requires.begun)).deed)

pub sync-requires-clause-may : goal.sync-requires-clause-may
sync-requires-clause-may g c =
    over (λ k n. MayJoin k.state n) _ _ _ _ c.self.view_is c.number-number.ensures
    (join-so g.B.Body _ _ c.requires.has c.requires.begun (over (λ k n. (m : _) → ¬ IsLiveChild k.live n m) _ _ _ _ (sym c.self.view_is) (sym c.number-number.ensures) c.in_default.ensures.none))

pub sync-requires-clause-turn : goal.sync-requires-clause-turn
sync-requires-clause-turn g c =
    over (λ k n. IsOnTurn k.name k.state n) _ _ _ _ c.self.view_is c.number-number.ensures
    (on-turn-so g.B.Body _ _ c.requires.has c.requires.begun (over (λ k n. (m : _) → ¬ IsLiveChild k.live n m) _ _ _ _ (sym c.self.view_is) (sym c.number-number.ensures) c.in_default.ensures.none))

pub note_sync-failed-requires-clause-few : goal.note_sync-failed-requires-clause-few
note_sync-failed-requires-clause-few g c κs within = subst (λ k. k < COUNT_MOST) (sym c.done.ensures) (steps-few g.B.Body _ _ _ c.requires.has)

pub note_sync-failed-requires-clause-live : goal.note_sync-failed-requires-clause-live
note_sync-failed-requires-clause-live g c κs within =
    over (λ k n. IsSome (live_at k.live n)) _ _ _ _ c.self.view_is c.number-number.ensures (live-here g.B.Body _ _ c.requires.has)

pub is_told-frame-requires-after_bounds : goal.is_told-frame-requires-after_bounds
is_told-frame-requires-after_bounds g c κs within = steps-few g.B.Body _ _ _ c.requires.has

pub returns-clause-step : goal.returns-clause-step
returns-clause-step g c =
    let has = c.requires.has in
    let same = same-state _ _ _ _ c.sync.ensures.same.0 c.sync.ensures.same.1 c.sync.ensures.after ∙ c.self.view_is in
    let noted = noted-by synced_at c.args.self.now _ c.note_sync-failed.new.self _ _ _ _ same c.number-number.ensures c.done.ensures c.note_sync-failed.ensures.same c.note_sync-failed.ensures.live in
    synced-so g.B.Body c.args.self.now c.args.mid has (over (λ k n. HasNoLiveChild k.live n) _ _ _ _ (sym c.self.view_is) (sym c.number-number.ensures) c.in_default.ensures.none) c.requires.begun
    (syncs g.B.Body c.args.mid.task.plan c.args.mid.task.path c.args.mid.task.done has.is.alone.top c.args.mid.local has.is.plan.lists (is-asking g.B.Body _ _ _ has c.requires.begun))
    c.note_sync-failed.new.self c.is_told-frame.result c.note_sync-failed.result
    (over (λ k n. (frame : LiveFrame) → live_at k.live n ≡ Some frame → c.note_sync-failed.result ≡ frame.failed) _ _ _ _ (sym same) (sym c.number-number.ensures) c.note_sync-failed.ensures.failed)
    c.is_told-frame.ensures noted.1 noted.0
