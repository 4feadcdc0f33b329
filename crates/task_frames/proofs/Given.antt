-- Frames that the core gives, and those that stay as they are meanwhile.
use Rattle.std.proofs.Common.{◌≡◌, ℕ, List, Option, Some, sym, ap, subst, ◌∙◌}
use Rattle.swan_model.specs.declared.body.Body.{Ghosts}
use Rattle.swan_model.specs.declared.script.Script.{Script}
use Rattle.swan_model.specs.QueueState.{ActiveFrame, QueueState, active}
use Rattle.queues.specs.Asks.{LentEnds, OnNext}
use Rattle.task_frames.specs.Cores.{FrameAtCoreView, HasIt, IsCore, IsGiven, IsOf, KeptView}
use Rattle.task_frames.specs.Frames.{TaskView}
use Rattle.task_frames.specs.Resumes.{OthersStay}

module _ {B L : Type 0} (G : Ghosts B L) (before after : KeptView) (IsOther : ℕ → Type 0) (stay : OthersStay before after IsOther) where
  pub of-stays : (task : TaskView B L) → IsOther task.number → IsOf before task → IsOf after task
  of-stays task other of =
      record { frame = of.frame; live = stay.live task.number other ∙ of.live; path = of.path; done = of.done; holdings = of.holdings }

  -- a frame that was given before
  pub given-stays : (task : TaskView B L) (ends : LentEnds) → IsOther task.number → IsGiven before task ends → IsGiven after task ends
  given-stays task ends other given = record {
    of = of-stays task other given.of;
    lent = record {
      frame = given.lent.frame;
      live = stay.active_are task.number other ∙ given.lent.live;
      lent = given.lent.lent;
      has = given.lent.has;
      own = given.lent.own;
      deeds = given.lent.deeds;
      list = given.lent.list;
    };
  }

  -- a frame that is at the core
  pub has-stays : (frame : FrameAtCoreView B L) → IsOther frame.task.number → IsCore G frame.task.plan after → HasIt G before frame → HasIt G after frame
  has-stays frame other core has = record {
    core = core;
    is = has.is;
    of = of-stays frame.task other has.of;
    back = λ own live. has.back own (sym (stay.active_are frame.task.number other) ∙ live);
  }

-- the same, where the queues have the same name and run, and this state
pub with-state : (kept : KeptView) (name : Option Script) (run : List ℕ) (state then_state : QueueState) → name ≡ kept.name → run ≡ kept.run → state ≡ then_state
    → ◌≡◌ {A = KeptView} (record kept { name = name; run = run; state = state }) (record kept { state = then_state })
with-state kept name run state then_state same_name same_run same_state =
    ap {B = KeptView} (λ x. record kept { name = x; run = run; state = state }) same_name
    ∙ ap {B = KeptView} (λ x. record kept { run = x; state = state }) same_run
    ∙ ap {B = KeptView} (λ x. record kept { state = x }) same_state

-- what holds of the next queue deed of an active frame, where it holds of each script and frame
pub on-next : (name : Option Script) (state : QueueState) (number : ℕ) (Says : Script → ActiveFrame → Type 0)
    → ((s : Script) (own : ActiveFrame) → name ≡ Some s → active state number ≡ Some own → Says s own) → OnNext name state number Says
on-next name state number Says holds = λ s is own live. holds s own is live

-- what holds of what is kept and of a number holds of what is the same
pub over : (P : KeptView → ℕ → Type 0) (kept other : KeptView) (n m : ℕ) → kept ≡ other → n ≡ m → P other m → P kept n
over P kept other n m same number holds = subst (λ k. P k n) (sym same) (subst (P other) (sym number) holds)

pub same-state : (kept : KeptView) (name : Option Script) (run : List ℕ) (state : QueueState) → name ≡ kept.name → run ≡ kept.run → state ≡ kept.state
    → ◌≡◌ {A = KeptView} (record kept { name = name; run = run; state = state }) kept
same-state kept name run state same_name same_run is = with-state kept name run state kept.state same_name same_run is
