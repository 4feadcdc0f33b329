-- Frames that may come to a core.
use Rattle.std.proofs.Common.{◌≡◌, ℕ, ◌+◌, ◌<◌, List, [], ◌∷◌, ◌++◌, ◌∙◌, Result, Ok, Err, IfOk, drop, length, slice_index_or, subst, sym, take}
use Rattle.std.proofs.lemmas.List.Elements.{All-append, All-cons, All-drop, All-nil, All-same, All-take, All-weaker}
use Rattle.task_frames.specs.Cores.{CoreView}
use Rattle.task_frames.specs.Frames.{FrameView}
use Rattle.task_frames.specs.Resumes.{EndsOf, IsGivenBy, IsOpened, IsResumed}
use Rattle.task_frames.specs.declared.resumed.Resumed.{Resumed}
use Rattle.task_frames.specs.declared.resumed.Resumed.TheVariants as resumed
use Rattle.swan_model.specs.declared.body.Body.{Ghosts}
use Rattle.core_tests.specs.Pools.{CameSo, MayAllCome, MayCome}

-- what a core gives may come to it
pub given-comes : {B L E : Type 0} (of : EndsOf E) (core : CoreView B L) (frame : FrameView B L E) → IsGivenBy of core frame → MayCome of.run core frame
given-comes of core frame given = record { plan = given.plan; run_is = given.run }

-- the root of an opened run, alone, may come to its core
pub alone-comes : {B L E : Type 0} (of : EndsOf E) (core : CoreView B L) (root : FrameView B L E) (frames : List (FrameView B L E))
    → IsOpened of core root → frames ≡ root ∷ [] → MayAllCome of.run core frames
alone-comes of core root frames opened is =
    let may = MayCome of.run core in
    All-same may frames (root ∷ []) is (All-cons may root [] (given-comes of core root opened.given) (All-nil may))

-- a frame that may come to a core may do so alone
pub one-comes : {B L E : Type 0} (run : E → List ℕ) (core : CoreView B L) (frame : FrameView B L E) (frames : List (FrameView B L E))
    → MayCome run core frame → frames ≡ frame ∷ [] → MayAllCome run core frames
one-comes run core frame frames comes is =
    let may = MayCome run core in
    All-same may frames (frame ∷ []) is (All-cons may frame [] comes (All-nil may))

-- what may come to a core may come to another one of the same plan and the same run
module _ {B L E : Type 0} (run : E → List ℕ) (core after : CoreView B L) (plan : after.plan ≡ core.plan) (run-is : after.run ≡ core.run) where
  pub still-comes : (frame : FrameView B L E) → MayCome run core frame → MayCome run after frame
  still-comes frame may = record { plan = may.plan ∙ sym plan; run_is = may.run_is ∙ sym run-is }

  pub all-still-come : (frames : List (FrameView B L E)) → MayAllCome run core frames → MayAllCome run after frames
  all-still-come frames may = All-weaker (MayCome run core) (MayCome run after) still-comes frames may

  -- so may those that are answered
  pub answered-still-come : {F X : Type 0} (of : F → List (FrameView B L E)) (result : Result F X) → IfOk result (λ frames. MayAllCome run core (of frames))
      → IfOk result (λ frames. MayAllCome run after (of frames))
  answered-still-come of (Ok frames) may = all-still-come (of frames) may
  answered-still-come of (Err other) may = may

-- so may each frame that came of one that was resumed
pub came-so : {B Q L E : Type 0} (G : Ghosts B L) (of : EndsOf E) (core after : CoreView B L) (frame : FrameView B L E) (result : Resumed B Q L E)
    → after.plan ≡ core.plan → after.run ≡ core.run → MayCome of.run core frame → IsResumed G of core after frame result → CameSo of.run after result
came-so G of core after frame (resumed.Runs next steps) plan run may is = given-comes of after next is.1
came-so G of core after frame (resumed.Spawned parent new steps) plan run may is = (given-comes of after parent is.1, given-comes of after new is.2)
came-so G of core after frame (resumed.Waits same waited) plan run may is = given-comes of after same is.0
came-so G of core after frame (resumed.Ended steps) plan run may is = tt
came-so G of core after frame (resumed.Strange same foreign) plan run may is =
    subst (MayCome of.run after) (sym is.0) (still-comes of.run core after plan run frame may)
came-so G of core after frame resumed.NoMemory plan run may is = tt

-- those that may come without one of them
pub others-come : {B L E : Type 0} (run : E → List ℕ) (core : CoreView B L) (frames others : List (FrameView B L E)) (index : ℕ)
    → MayAllCome run core frames → others ≡ take index frames ++ drop (index + 1) frames → MayAllCome run core others
others-come run core frames others index all is =
    let may = MayCome run core in
    All-same may others _ is (All-append may _ _ (All-take may index frames all) (All-drop may (index + 1) frames all))

-- one of those that may come
pub taken-comes : {B L E : Type 0} (run : E → List ℕ) (core : CoreView B L) (frames : List (FrameView B L E)) (index : ℕ) (frame : FrameView B L E)
    → MayAllCome run core frames → index < length frames → frame ≡ slice_index_or frames index frame → MayCome run core frame
taken-comes run core frames index frame all less is = subst (MayCome run core) (sym is) (all index frame less)
