-- Which frames may lend their ends.
use Rattle.std.proofs.Common.{◌≡◌, ◌≢◌, ℕ, ◌<◌, true, Some, None, List, refl, sym, ap, subst, ◌∙◌}
use Rattle.swan_model.specs.QueueState.{ActiveFrame, LentEnd, QueueState, active, after_lend, new_state, root_frame}
use Rattle.swan_model.specs.Values.{COUNT_MOST}
use Rattle.queues.specs.Asks.{LentEnds}
use Rattle.queues.proofs.ActiveAfter.{one_goes_on}
use Rattle.queue_tests.specs.Allowed.{may_make}
use Rattle.queue_tests.proofs.Allowing.{lent_by_test, made_by_room}

-- a frame of this number is active and has its ends
abbrev pub MayLend : QueueState → ℕ → Type 0
MayLend state number = (frame : ActiveFrame) × (active state number ≡ Some frame) × (frame.lent ≡ None)

pub root_lends : (state : QueueState) → state ≡ new_state → MayLend state 0
root_lends state is = subst (λ s. MayLend s 0) (sym is) (root_frame, refl, refl)

-- a frame may lend its ends beside another one whose ends are lent
pub lent_beside : (state now : QueueState) (one two : ℕ) (frame : ActiveFrame) (ends : List LentEnd) → active state one ≡ Some frame → one ≢ two → may_make state two ≡ true
    → now ≡ after_lend state frame ends → MayLend now two
lent_beside state now one two frame ends live apart may is =
    let found = lent_by_test state two may in
    let lend : ActiveFrame → ActiveFrame = λ f. record f { lent = Some (record { deeds = frame.deeds; ends = ends }) } in
    let same = (one_goes_on state one frame lend (λ f. refl) live).others two (λ own. apart (sym own)) in
    subst (λ s. MayLend s two) (sym is) (found.0, same ∙ found.1, found.2)

-- a frame that may make a queue in one state may in an equal one
pub makes_where_equal : (state other : QueueState) (number : ℕ) → state ≡ other → may_make other number ≡ true → may_make state number ≡ true
makes_where_equal state other number is may = ap (λ s. may_make s number) is ∙ may

-- the ends that such a frame was just lent have room for one more deed
pub deeds_left : (state : QueueState) (number : ℕ) (ends : LentEnds) → may_make state number ≡ true
    → ((frame : ActiveFrame) → active state number ≡ Some frame
    → ends ≡ record { frame = number; path = frame.path; before = frame.deeds; deeds = frame.deeds; list = ends.list })
    → ends.deeds < COUNT_MOST
deeds_left state number ends may are =
    let is = made_by_room state number may in
    subst (λ k. k < COUNT_MOST) (sym (ap (λ (e : LentEnds). e.deeds) (are is.0 is.1))) is.2
