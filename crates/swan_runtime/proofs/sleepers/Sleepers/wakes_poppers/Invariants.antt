use Rattle.std.proofs.Common.{◌≡◌, ℕ, ◌+◌, List, Some, vec_len}
use Rattle.swan_model.specs.declared.plan.Plan.{Plan}
use Rattle.task_frames.specs.Resumes.{ends_of}
use Rattle.swan_runtime.specs.Beds.{HasSameNotes, NoneAwaits}
use Rattle.swan_runtime.specs.Shared.{AreOfRun, AreSleepersOfRun}
use Rattle.swan_runtime.proofs.sleepers.Sleepers.wakes_poppers.Given as goal

abbrev pub invariant-loop-popper : goal.invariant-loop-popper
invariant-loop-popper g l =
    ((plan : Plan g.row.B.Denot g.row.B-Local.Denot) (run : List ℕ) → AreSleepersOfRun (ends_of g.Q.Ends.LocalEnds) plan run l.fn.self → AreSleepersOfRun (ends_of g.Q.Ends.LocalEnds) plan run l.self)
    × ((plan : Plan g.row.B.Denot g.row.B-Local.Denot) (run : List ℕ) → AreSleepersOfRun (ends_of g.Q.Ends.LocalEnds) plan run l.fn.self
    → AreOfRun (ends_of g.Q.Ends.LocalEnds) plan run l.fn.ready.items → AreOfRun (ends_of g.Q.Ends.LocalEnds) plan run l.ready.items)
    × ((other : ℕ) → NoneAwaits other (Some l.fn.self) → NoneAwaits other (Some l.self)) × HasSameNotes l.fn.self l.self
    × (vec_len l.ready + vec_len l.self.at_push ≡ vec_len l.fn.ready + vec_len l.fn.self.at_push)
    × (l.self.at_end ≡ l.fn.self.at_end)

abbrev pub decreases-loop-popper : goal.decreases-loop-popper
decreases-loop-popper g l = vec_len l.self.at_push
