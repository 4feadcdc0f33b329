-- A root that pushes many items to one queue.
use Rattle.std.proofs.Common.{◌≡◌, ℕ, ◌+◌, ◌<◌, ◌&&◌, true, Some, None, refl, ap, subst, sym, ◌∙◌, [], ◌∷◌}
use Rattle.swan_model.specs.declared.rights.Mode.TheVariants.{Push, PushPop}
use Rattle.swan_model.specs.QueueState.{ActiveFrame, QueueState, active, after_create, after_deed, holds_queue, new_state, root_frame, with_deed}
use Rattle.swan_model.specs.Values.{COUNT_MOST}
use Rattle.queues.specs.Asks.{MayUse}
use Rattle.queues.specs.Tells.{with_active}
use Rattle.queues.proofs.ActiveAfter.{one_changed}
use Rattle.queue_tests.specs.Allowed.{has_space, may_make}

-- frame 0 pushes to queue 0, and has done so many deeds
pub record IsPushing (state : QueueState) (count : ℕ) : Type 0 where
  pub frame : ActiveFrame
  pub live : active state 0 ≡ Some frame
  pub back : frame.lent ≡ None
  pub held : holds_queue frame 0 Push ≡ true
  pub deeds : frame.deeds ≡ count

pub may_push : (state : QueueState) (deeds : ℕ) → IsPushing state deeds → deeds < COUNT_MOST → MayUse state 0 0 Push
may_push state deeds is room = record {
  act = record { frame = is.frame; may = record { live = is.live; back = is.back }; room = subst (λ n. n < COUNT_MOST) (sym is.deeds) room };
  held = is.held;
}

pub pushed_once : (state : QueueState) (deeds : ℕ) → IsPushing state deeds → IsPushing (after_deed state 0) (deeds + 1)
pushed_once state deeds is = record {
  frame = with_deed is.frame;
  live = (one_changed state 0 with_deed (λ f. refl) is.frame is.live).changed;
  back = is.back;
  held = is.held;
  deeds = ap (λ n. n + 1) is.deeds;
}

-- new hyperqueues allow frame 0 to make a queue, and have space for it
pub may_make_new : (state : QueueState) → state ≡ new_state → may_make state 0 && has_space state ≡ true
may_make_new state is = ap (λ s. may_make s 0 && has_space s) is

first_made : IsPushing (after_create new_state root_frame) 1
first_made = record {
  frame = record { number = 0; parent = None; path = []; children = 0; deeds = 1; rights = (record { queue = 0; mode = PushPop }) ∷ []; lent = None };
  live = refl;
  back = refl;
  held = refl;
  deeds = refl;
}

pub pushing_new : (state now : QueueState) → state ≡ new_state → now ≡ with_active (after_create state) state (active state 0) → IsPushing now 1
pushing_new state now is made =
    subst (λ s. IsPushing s 1) (sym (made ∙ ap (λ s. with_active (after_create s) s (active s 0)) is)) first_made
