-- How many turns a run on a stack takes, that each takes a step, and how many frames stand there.
use Rattle.std.proofs.Common.{◌≡◌, ◌≢◌, ◌⊎◌, inl, inr, ℕ, zero, suc, ◌+◌, ◌*◌, ◌≤◌, ◌<◌, true, Option, Some, List, [], ◌∷◌, ◌++◌, length, refl, sym, ap, subst, arith, length-append}
use Rattle.std.proofs.lemmas.Option.{slice_get_within}
use Rattle.std.specs.Prelude.{is_some, slice_get}
use Rattle.swan_model.specs.declared.body.Body.{Ghosts}
use Rattle.swan_model.specs.declared.path.TheConstants.{PATH_MOST}
use Rattle.swan_model.specs.declared.script.Script.{Script}
use Rattle.swan_model.proofs.Elements.{before_more, last_more, some_of}
use Rattle.swan_model.proofs.Lists.{some_within}
use Rattle.task_frames.specs.declared.resumed.Resumed.{Resumed}
use Rattle.task_frames.specs.declared.resumed.Resumed.TheVariants as resumed
use Rattle.task_frames.specs.Cores.{CoreView}
use Rattle.task_frames.specs.Earliest.{has_stepped}
use Rattle.task_frames.specs.Frames.{FrameView, IsAnyFrame, TaskView}
use Rattle.task_frames.specs.Going.{Counts, IsSameFrame}
use Rattle.task_frames.specs.Resumes.{EndsOf, IsResumed}
use Rattle.swan_runtime.specs.Stacks.{AreStacked, IsStack, fuel_of, turns_left}
use Rattle.swan_runtime.specs.Turns.{AreAnyFrames, AreStackTurns, IsTopResumed, IsTurn, at_start, one_more, with_resumed}
use Rattle.swan_runtime.proofs.Depth.{few-parts}
use Rattle.swan_runtime.proofs.Spending.{HasFuel, fuel-is, left-more}
use Rattle.swan_runtime.proofs.Stacking.{top-given}
use Rattle.swan_runtime.proofs.Turning.{fewer-runs, fewer-spawns, never-strange, never-waits, opened-stack, stack-ends, stack-runs, stack-spawns}

-- ---- what a turn leaves

module _ {B L E : Type 0} (Q : Type 0) (G : Ghosts B L) (name : E → Option Script) (of : EndsOf E) (counts : E → Counts) where
  abbrev Frame : Type 0
  Frame = FrameView B L E

  -- a stack, and fewer turns left than before
  record IsFewer (after : CoreView B L) (then stack : List Frame) : Type 0 where
    stands : IsStack of after then
    fewer : turns_left then < turns_left stack

  module _ (before after : CoreView B L) (below : List Frame) (top moved : Frame) (is : IsStack of before (below ++ top ∷ []))
      (frames : AreAnyFrames G name of (below ++ top ∷ [])) (steps : ℕ) (done : moved.task.done ≡ top.task.done + steps)
      (own : IsSameFrame name of.run of.ends counts top moved) (moved-frame : IsAnyFrame G name of.ends moved) (whole : is_some moved.stage ≡ true)
      (plan : after.plan ≡ before.plan) (run : after.run ≡ before.run) where
    top-fuel : HasFuel G top.task (fuel_of top.task.fuel top.stage)
    top-fuel = fuel-is G name of.ends top (top-given of before below top is.stacked).whole (frames (length below) top (last_more below top))

    by-answer : (result : Resumed B Q L E) → IsResumed G of before after moved result → result ≢ resumed.NoMemory → AreAnyFrames G name of (with_resumed below result)
        → IsFewer after (with_resumed below result) (below ++ top ∷ [])
    by-answer (resumed.Runs next counted) answered lasts then = record {
      stands = stack-runs G name of.run of.ends counts before below top moved is own after plan run answered.4 next answered.1 answered.2;
      fewer = fewer-runs G name of.run of.ends counts below top moved own steps done top-fuel next answered.2
          (fuel-is G name of.ends next answered.1.whole (then (length below) next (last_more below next)));
    }
    by-answer (resumed.Spawned parent child counted) answered lasts then = record {
      stands = stack-spawns G name of.run of.ends counts before below top moved is own after plan run parent child answered.1 answered.2 answered.3 answered.4 answered.6 answered.7;
      fewer = fewer-spawns G name of.run of.ends counts below top moved own steps done top-fuel parent child answered.3 answered.4 answered.5
          (fuel-is G name of.ends moved whole moved-frame)
          (fuel-is G name of.ends parent answered.1.whole (then (length below) parent (before_more (below ++ parent ∷ []) child (length below) parent (last_more below parent))))
          (fuel-is G name of.ends child answered.2.whole (then (length (below ++ parent ∷ [])) child (last_more (below ++ parent ∷ []) child)));
    }
    by-answer (resumed.Waits same waited) answered lasts then =
        absurd (never-waits G name of.run of.ends counts before below top moved is own after plan run answered.3 same waited.wait answered.0 answered.1 answered.2)
    by-answer (resumed.Ended counted) answered lasts then =
        let now = some_of after.kept answered.1 in
        record {
          stands = stack-ends G name of.run of.ends counts before below top moved is own after plan run now.0 now.1 answered.4 answered.5;
          fewer = let more = left-more below top in omega (arith, more);
        }
    by-answer (resumed.Strange same foreign) answered lasts then = absurd (never-strange G name of.run of.ends counts before below top moved is own answered.3)
    by-answer resumed.NoMemory answered lasts then = absurd (lasts refl)

  turn-leaves : (before after : CoreView B L) (stack then : List Frame) → IsStack of before stack → AreAnyFrames G name of stack → IsTurn Q G name of counts before stack after then
      → IsFewer after then stack
  turn-leaves before after stack then is frames turn =
      let it = turn.resumed_is in
      let here = subst (IsStack of before) it.is is in
      let are = subst (AreAnyFrames G name of) it.is frames in
      let left = by-answer before after it.below it.top it.moved here are it.steps it.done it.own it.frame it.whole it.plan it.run
      turn.answer it.answered turn.lasts (subst (AreAnyFrames G name of) turn.then_is turn.frames) in
      subst (λ x. IsFewer after x stack) (sym turn.then_is) (subst (IsFewer after (with_resumed it.below turn.answer)) (sym it.is) left)

  -- ---- that a step is taken

  top-steps : (before after : CoreView B L) (below : List Frame) (top moved : Frame) → IsStack of before (below ++ top ∷ []) → IsSameFrame name of.run of.ends counts top moved
      → after.plan ≡ before.plan → after.run ≡ before.run → (answer : Resumed B Q L E) → IsResumed G of before after moved answer
      → (has_stepped answer ≡ true) ⊎ (answer ≡ resumed.NoMemory)
  top-steps before after below top moved is own plan run (resumed.Runs next counted) answered = inl refl
  top-steps before after below top moved is own plan run (resumed.Spawned parent child counted) answered = inl refl
  top-steps before after below top moved is own plan run (resumed.Waits same waited) answered =
      absurd (never-waits G name of.run of.ends counts before below top moved is own after plan run answered.3 same waited.wait answered.0 answered.1 answered.2)
  top-steps before after below top moved is own plan run (resumed.Ended counted) answered = inl refl
  top-steps before after below top moved is own plan run (resumed.Strange same foreign) answered =
      absurd (never-strange G name of.run of.ends counts before below top moved is own answered.3)
  top-steps before after below top moved is own plan run resumed.NoMemory answered = inr refl

  pub each-steps : (before after : CoreView B L) (stack : List Frame) (answer : Resumed B Q L E) → IsStack of before stack
      → IsTopResumed Q G name of counts before stack after answer → (has_stepped answer ≡ true) ⊎ (answer ≡ resumed.NoMemory)
  each-steps before after stack answer is it =
      top-steps before after it.below it.top it.moved (subst (IsStack of before) it.is is) it.own it.plan it.run answer it.answered

  -- ---- after several

  pub record AreLeft (opened : CoreView B L) (turns : ℕ) (core : CoreView B L) (stack : List Frame) : Type 0 where
    pub stands : IsStack of core stack
    pub frames : AreAnyFrames G name of stack
    pub few : turns + turns_left stack ≤ 2 * opened.plan.fuel + 1

  alone : (root frame : Frame) (index : ℕ) → IsAnyFrame G name of.ends root → slice_get (root ∷ []) index ≡ Some frame → IsAnyFrame G name of.ends frame
  alone root frame zero is there = let same : root ≡ frame = cc in subst (IsAnyFrame G name of.ends) same is
  alone root frame (suc index) is there = absurd (cc)

  pub are-left : (opened : CoreView B L) (turns : ℕ) (core : CoreView B L) (stack : List Frame) → AreStackTurns Q G name of counts opened turns core stack → AreLeft opened turns core stack
  are-left opened _ _ _ (at_start root is frame) = record {
    stands = opened-stack of opened root is;
    frames = λ index it there. alone root it index frame there;
    few =
        let stage : fuel_of root.task.fuel root.stage ≡ root.task.fuel = ap (fuel_of root.task.fuel) is.begins in
        let fuel : root.task.fuel ≡ opened.plan.fuel = ap (λ (t : TaskView B L). t.fuel) is.task in
        omega (arith, stage, fuel);
  }
  are-left opened _ _ _ (one_more turns before after stack then so_far turn) =
      let left = are-left opened turns before stack so_far in
      let next = turn-leaves before after stack then left.stands left.frames turn in
      record {
        stands = next.stands;
        frames = turn.frames;
        few = let less = next.fewer in let few = left.few in omega (arith, less, few);
      }

  -- ---- how many stand there

  deep : (core : CoreView B L) (stack : List Frame) → AreStacked of core stack → (index : ℕ) (frame : Frame) → slice_get stack index ≡ Some frame → index ≤ length frame.task.path
  deep core stack are zero frame there = omega arith
  deep core stack are (suc index) frame there =
      let within = slice_get_within stack (suc index) frame there in
      let under = some_within stack index (omega (arith, within)) in
      let above = are.nested index (suc index) under.0 frame (omega arith) under.1 there in
      let less = deep core stack are index under.0 under.1 in
      let long : length frame.task.path ≡ length (under.0.task.path ++ above.child ∷ above.rest) = ap length above.is in
      omega (arith, less, long, length-append under.0.task.path (above.child ∷ above.rest))

  pub few-frames : (core : CoreView B L) (stack : List Frame) → IsStack of core stack → AreAnyFrames G name of stack → length stack ≤ PATH_MOST + 1
  few-frames core [] is frames = omega arith
  few-frames core (first ∷ rest) is frames =
      let last = some_within (first ∷ rest) (length rest) (omega arith) in
      let given = is.stacked.given (length rest) last.0 last.1 in
      let stage = some_of last.0.stage given.whole in
      let frame = frames (length rest) last.0 last.1 stage.0 stage.1 in
      let parts = few-parts G last.0.task.plan last.0.task.path last.0.task.done frame.alone.top frame.alone.stands in
      let far = deep core (first ∷ rest) is.stacked (length rest) last.0 last.1 in
      omega (arith, parts, far)
