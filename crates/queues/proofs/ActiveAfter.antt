-- The active frames after a call: the frame that made it is changed, and all others are as they were.
use Rattle.std.proofs.Common.{◌≡◌, ◌≢◌, ℕ, ◌+◌, Bool, true, false, cond, not, nat_eq, List, map, Option, Some, None, refl, sym, ap, subst, ◌∙◌, ◌≤◌}
use Rattle.std.proofs.lemmas.Bool.{eq-eqb, ne_eqb}
use Rattle.std.specs.Option.{option_map}
use Rattle.swan_model.specs.QueueState.{ActiveFrame, QueueRight, QueueState, active, after_finish, after_spawn, frame_after_change, changing, child_of, with_deed}
use Rattle.swan_model.proofs.Elements.{find_map, found_last, found_unless}
use Rattle.pop_order.specs.OneChange.{IsOnlyChange}
use Rattle.queues.proofs.FramesChanged.{find_others, find_gone}
use Rattle.queues.proofs.Frames.{active_number}

-- a change that leaves the numbers of frames
abbrev pub KeepsNumber : (ActiveFrame → ActiveFrame) → Type 0
KeepsNumber change = (frame : ActiveFrame) → (change frame).number ≡ frame.number

-- a change that leaves which task a frame is, and takes back no child
pub record KeepsTask (change : ActiveFrame → ActiveFrame) : Type 0 where
  pub number : KeepsNumber change
  pub parent : (frame : ActiveFrame) → (change frame).parent ≡ frame.parent
  pub path : (frame : ActiveFrame) → (change frame).path ≡ frame.path
  pub children : (frame : ActiveFrame) → frame.children ≤ (change frame).children

module _ (state : QueueState) (n : ℕ) (change : ActiveFrame → ActiveFrame) (keeps : KeepsNumber change) where
  same_number : (frame : ActiveFrame) → (frame_after_change n change frame).number ≡ frame.number
  same_number frame = by (nat_eq frame.number n) where
    by : (b : Bool) → (cond b (change frame) frame).number ≡ frame.number
    by true = keeps frame
    by false = refl

  pub active_changed : (m : ℕ) → active (changing state n change) m ≡ option_map (frame_after_change n change) (active state m)
  active_changed m =
      find_map (λ (frame : ActiveFrame). nat_eq frame.number m) (frame_after_change n change) (λ frame. ap (λ k. nat_eq k m) (same_number frame)) state.frames

  others_changed : (m : ℕ) → m ≢ n → active (changing state n change) m ≡ active state m
  others_changed m differ = active_changed m ∙ by (active state m) refl where
    by : (found : Option ActiveFrame) → active state m ≡ found → option_map (frame_after_change n change) found ≡ found
    by None is = refl
    by (Some frame) is =
        let other = ne_eqb frame.number n (λ same. differ (sym (active_number state m frame is) ∙ same)) in
        ap (λ b. Some (cond b (change frame) frame)) other

  own_changed : (frame : ActiveFrame) → active state n ≡ Some frame → active (changing state n change) n ≡ Some (change frame)
  own_changed frame live =
      active_changed n ∙ ap (option_map (frame_after_change n change)) live
      ∙ ap (λ b. Some (cond b (change frame) frame)) (eq-eqb frame.number n (active_number state n frame live))

  pub one_changed : (frame : ActiveFrame) → active state n ≡ Some frame → IsOnlyChange (active state) (active (changing state n change)) n (Some (change frame))
  one_changed frame live = record { changed = own_changed frame live; others = others_changed }

-- a frame that is changed by its own number
pub one_goes_on : (state : QueueState) (n : ℕ) (frame : ActiveFrame) (change : ActiveFrame → ActiveFrame) → KeepsNumber change → active state n ≡ Some frame
    → IsOnlyChange (active state) (active (changing state frame.number change)) n (Some (change frame))
one_goes_on state n frame change keeps live =
    subst (λ k. IsOnlyChange (active state) (active (changing state k change)) n (Some (change frame))) (sym (active_number state n frame live)) (one_changed state n change keeps frame live)

-- without the frame of one number
pub one_gone : (state : QueueState) (n : ℕ) → IsOnlyChange (active state) (active (after_finish state n)) n None
one_gone state n = record { changed = by (active (after_finish state n) n) refl; others = λ m differ. find_others state.frames n m differ } where
  by : (o : Option ActiveFrame) → active (after_finish state n) n ≡ o → o ≡ None
  by None e = refl
  by (Some frame) e = absurd (find_gone state.frames n frame e)

-- a parent with one child more, which it spawned by one deed more
abbrev pub one_child_more : ActiveFrame → ActiveFrame
one_child_more frame = with_deed (record frame { children = frame.children + 1 })

-- after a spawn, of a child that isn't active yet
module _ (state : QueueState) (n child : ℕ) (frame : ActiveFrame) (gives : List QueueRight) (live : active state n ≡ Some frame) (new : active state child ≡ None) where
  apart : n ≢ child
  apart same = let none : Some frame ≡ None = sym live ∙ ap (active state) same ∙ new in absurd (cc)

  pub others_spawned : (m : ℕ) → m ≢ n → m ≢ child → active (after_spawn state frame child gives) m ≡ active state m
  others_spawned m differ not =
      found_unless (λ (f : ActiveFrame). nat_eq f.number m) (map (frame_after_change frame.number one_child_more) state.frames) (child_of frame child gives) (ne_eqb child m (λ same. not (sym same)))
      ∙ (one_goes_on state n frame one_child_more (λ f. refl) live).others m differ

  pub parent_spawned : active (after_spawn state frame child gives) n ≡ Some (one_child_more frame)
  parent_spawned =
      found_unless (λ (f : ActiveFrame). nat_eq f.number n) (map (frame_after_change frame.number one_child_more) state.frames) (child_of frame child gives) (ne_eqb child n (λ same. apart (sym same)))
      ∙ (one_goes_on state n frame one_child_more (λ f. refl) live).changed

  pub child_spawned : active (after_spawn state frame child gives) child ≡ Some (child_of frame child gives)
  child_spawned =
      found_last (λ (f : ActiveFrame). nat_eq f.number child) (map (frame_after_change frame.number one_child_more) state.frames) (child_of frame child gives)
      (active_changed state frame.number one_child_more (λ f. refl) child ∙ ap (option_map (frame_after_change frame.number one_child_more)) new) (eq-eqb child child refl)
