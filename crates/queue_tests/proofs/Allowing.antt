-- Where these conditions hold, a state allows the call.
use Rattle.std.proofs.Common.{◌≡◌, ℕ, ◌<◌, Bool, true, ◌&&◌, ◌==◌, not, ltb, Option, Some, None, List, [], ◌∷◌, length, refl, sym, ap, ◌∙◌, is_none, slice_get}
use Rattle.std.specs.List.{list_any}
use Rattle.std.proofs.lemmas.Bool.{and_parts, eqb-true, ltb-true, false≢true, not-true, eq-eqb}
use Rattle.std.proofs.lemmas.Map.Keys.{any_passes_from_place}
use Rattle.swan_model.specs.declared.path.TheConstants.{PATH_MOST}
use Rattle.swan_model.specs.declared.rights.Mode.{Mode}
use Rattle.swan_model.specs.declared.rights.Mode.TheVariants.{Pop}
use Rattle.swan_model.specs.QueueState.{ActiveFrame, IsActiveChild, IsOfRoot, IsUntouched, QueueMaker, MayGive, planned, made_by, QueueRight, QueueState, active, holds_queue, CHILDREN_MOST, QUEUES_MOST}
use Rattle.swan_model.specs.Values.{COUNT_MOST}
use Rattle.swan_model.specs.Rights.{is_queue_mode}
use Rattle.queues.specs.Asks.{HasRoom, IsRestLeft, MayDo, MayJoin, MayLook, MaySpawn, MayUse}
use Rattle.swan_model.proofs.Elements.{found_is, none_is}
use Rattle.queue_tests.specs.Allowed.{acts, has_room, has_space, is_rest_left, is_of, is_of_root, is_untouched, may_give, may_join, may_make, may_spawn, may_use}

record Acts (found : Option ActiveFrame) (test : ActiveFrame → Bool) : Type 0 where
  frame : ActiveFrame
  live : found ≡ Some frame
  back : frame.lent ≡ None
  holds : test frame ≡ true

acting : (found : Option ActiveFrame) (test : ActiveFrame → Bool) → acts found test ≡ true → Acts found test
acting None test e = absurd (false≢true e)
acting (Some frame) test e = record {
  frame = frame;
  live = refl;
  back = none_is frame.lent (and_parts (is_none frame.lent) (test frame) e).0;
  holds = (and_parts (is_none frame.lent) (test frame) e).1;
}

pub made_by_test : (state : QueueState) (number : ℕ) → may_make state number && has_space state ≡ true → MayDo state number
made_by_test state number e =
    let is = acting (active state number) has_room (and_parts (may_make state number) (has_space state) e).0 in
    record { frame = is.frame; may = record { live = is.live; back = is.back }; room = ltb-true is.frame.deeds COUNT_MOST is.holds }

pub made_by_room : (state : QueueState) (number : ℕ) → may_make state number ≡ true
    → (frame : ActiveFrame) × (active state number ≡ Some frame) × (frame.deeds < COUNT_MOST)
made_by_room state number e =
    let is = acting (active state number) has_room e in
    (is.frame, is.live, ltb-true is.frame.deeds COUNT_MOST is.holds)

pub lent_by_test : (state : QueueState) (number : ℕ) → may_make state number ≡ true
    → (frame : ActiveFrame) × (active state number ≡ Some frame) × (frame.lent ≡ None)
lent_by_test state number e =
    let is = acting (active state number) has_room e in
    (is.frame, is.live, is.back)

-- where another condition and this one hold, there is room
pub room_by_test : (state : QueueState) (other : Bool) → other && has_space state ≡ true → HasRoom state
room_by_test state other e = ltb-true (length state.makers) QUEUES_MOST (and_parts other (has_space state) e).1

pub used_by_test : (state : QueueState) (number queue : ℕ) (mode : Mode) → may_use state number queue mode ≡ true → MayUse state number queue mode
used_by_test state number queue mode e =
    let is = acting (active state number) (λ frame. has_room frame && holds_queue frame queue mode) e in
    record {
      act = record { frame = is.frame; may = record { live = is.live; back = is.back }; room = ltb-true is.frame.deeds COUNT_MOST (and_parts (has_room is.frame) (holds_queue is.frame queue mode) is.holds).0 };
      held = (and_parts (has_room is.frame) (holds_queue is.frame queue mode) is.holds).1;
    }

pub looked_by_test : (state : QueueState) (number queue : ℕ) → may_use state number queue Pop ≡ true → MayLook state number queue
looked_by_test state number queue e =
    let is = used_by_test state number queue Pop e in
    record { frame = is.act.frame; may = is.act.may; held = is.held }

given_by_test : (frame : ActiveFrame) (gives : List QueueRight) → may_give frame gives ≡ true → MayGive frame gives
given_by_test frame [] e = tt
given_by_test frame (give ∷ gives) e =
    let held = holds_queue frame give.queue give.mode in
    let of_queues = is_queue_mode give.mode in
    let again = list_any (λ (other : QueueRight). other.queue == give.queue) gives in
    let more = (and_parts held (of_queues && (not again && may_give frame gives)) e).1 in
    let most = (and_parts of_queues (not again && may_give frame gives) more).1 in (
      (and_parts held (of_queues && (not again && may_give frame gives)) e).0,
      (and_parts of_queues (not again && may_give frame gives) more).0,
      not-true again (and_parts (not again) (may_give frame gives) most).0,
      given_by_test frame gives (and_parts (not again) (may_give frame gives) most).1,
    )

pub spawned_by_test : (state : QueueState) (parent child : ℕ) (gives : List QueueRight) → may_spawn state parent child gives ≡ true → MaySpawn state parent child gives
spawned_by_test state parent child gives e =
    let is = acting (active state parent) (λ frame. has_room frame && (ltb state.latest child
    && (may_give frame gives && (ltb (length frame.path) PATH_MOST && ltb frame.children CHILDREN_MOST)))) e in
    let newest = ltb state.latest child in
    let given = may_give is.frame gives in
    let depth = ltb (length is.frame.path) PATH_MOST in
    let few = ltb is.frame.children CHILDREN_MOST in
    let more = (and_parts (has_room is.frame) (newest && (given && (depth && few))) is.holds).1 in
    let most = (and_parts newest (given && (depth && few)) more).1 in
    let last = (and_parts given (depth && few) most).1 in
    record {
      act = record { frame = is.frame; may = record { live = is.live; back = is.back }; room = ltb-true is.frame.deeds COUNT_MOST (and_parts (has_room is.frame) (newest && (given && (depth && few))) is.holds).0 };
      newest = ltb-true state.latest child (and_parts newest (given && (depth && few)) more).0;
      lawful = given_by_test is.frame gives (and_parts given (depth && few) most).0;
      depth = ltb-true (length is.frame.path) PATH_MOST (and_parts depth few last).0;
      few = ltb-true is.frame.children CHILDREN_MOST (and_parts depth few last).1;
    }

child_stands : (state : QueueState) (number child : ℕ) → IsActiveChild state number child
    → list_any (λ (other : ActiveFrame). is_of number other.parent) state.frames ≡ true
child_stands state number child is =
    let found = found_is (λ (f : ActiveFrame). f.number == child) state.frames is.frame is.live in
    any_passes_from_place (λ (other : ActiveFrame). is_of number other.parent) state.frames found.index is.frame found.stands
    (ap (is_of number) is.of ∙ eq-eqb number number refl)

pub joined_by_test : (state : QueueState) (number : ℕ) → may_join state number ≡ true → MayJoin state number
joined_by_test state number e =
    let some = list_any (λ (other : ActiveFrame). is_of number other.parent) state.frames in
    let is = acting (active state number) (λ frame. not some) e in
    record {
      frame = is.frame;
      may = record { live = is.live; back = is.back };
      alone = λ child of. false≢true (sym (not-true some is.holds) ∙ child_stands state number child of);
    }

root_by_test : (maker : Option QueueMaker) → is_of_root maker ≡ true → IsOfRoot maker
root_by_test None e = absurd (false≢true e)
root_by_test (Some (planned index)) e = tt
root_by_test (Some (made_by [] deeds)) e = refl
root_by_test (Some (made_by (step ∷ path) deeds)) e = absurd (false≢true e)

pub left_by_test : (state : QueueState) (queue : ℕ) → is_rest_left state queue ≡ true → IsRestLeft state queue
left_by_test state queue e =
    let known = ltb queue (length state.makers) in
    let of = is_of_root (slice_get state.makers queue) in
    let over = is_none (active state 0) in
    let more = (and_parts known (of && over) e).1 in
    record {
      known = ltb-true queue (length state.makers) (and_parts known (of && over) e).0;
      made = root_by_test (slice_get state.makers queue) (and_parts of over more).0;
      over = none_is (active state 0) (and_parts of over more).1;
    }

pub untouched_by_test : (state : QueueState) → is_untouched state && has_space state ≡ true → IsUntouched state
untouched_by_test state e =
    let is = acting (active state 0) (λ root. (root.deeds == 0) && (root.children == 0)) (and_parts (is_untouched state) (has_space state) e).0 in
    let both = and_parts (is.frame.deeds == 0) (is.frame.children == 0) is.holds in
    record { root = is.frame; live = is.live; deeds = eqb-true is.frame.deeds 0 both.0; children = eqb-true is.frame.children 0 both.1; back = is.back }
