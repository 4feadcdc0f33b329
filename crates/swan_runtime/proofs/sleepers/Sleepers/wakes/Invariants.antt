use Rattle.std.proofs.Common.{◌≡◌, ◌≢◌, ℕ, ◌+◌, ◌-◌, ◌<◌, ◌≤◌, List, Some, slice_index_or, vec_len}
use Rattle.swan_model.specs.declared.plan.Plan.{Plan}
use Rattle.task_frames.specs.Resumes.{ends_of}
use Rattle.swan_runtime.specs.Beds.{HasSameNotes, NoneAwaits}
use Rattle.swan_runtime.specs.Shared.{AreOfRun, AreSleepersOfRun}
use Rattle.swan_runtime.proofs.sleepers.Sleepers.wakes.Given as goal

abbrev pub invariant-loop-place : goal.invariant-loop-place
invariant-loop-place g l =
    (l.place ≤ vec_len l.self.at_push)
    × ((plan : Plan g.row.B.Denot g.row.B-Local.Denot) (run : List ℕ) → AreSleepersOfRun (ends_of g.Q.Ends.LocalEnds) plan run l.fn.self → AreSleepersOfRun (ends_of g.Q.Ends.LocalEnds) plan run l.self)
    × ((plan : Plan g.row.B.Denot g.row.B-Local.Denot) (run : List ℕ) → AreSleepersOfRun (ends_of g.Q.Ends.LocalEnds) plan run l.fn.self
    → AreOfRun (ends_of g.Q.Ends.LocalEnds) plan run l.fn.ready.items → AreOfRun (ends_of g.Q.Ends.LocalEnds) plan run l.ready.items)
    × ((other : ℕ) → NoneAwaits other (Some l.fn.self) → NoneAwaits other (Some l.self)) × HasSameNotes l.fn.self l.self
    × ((k : ℕ) (d : _) → k < l.place → (slice_index_or l.self.at_push.items k d).queue ≢ l.queue)
    × (vec_len l.ready + vec_len l.self.at_push ≡ vec_len l.fn.ready + vec_len l.fn.self.at_push)
    × (l.self.at_end ≡ l.fn.self.at_end) × (l.queue ≡ l.fn.queue)

abbrev pub decreases-loop-place : goal.decreases-loop-place
decreases-loop-place g l = vec_len l.self.at_push - l.place
