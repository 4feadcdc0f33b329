-- Frames of a record that were given so before a call and after it, whatever failed meanwhile.
use Rattle.std.proofs.Common.{◌≡◌, ◌≢◌, inl, inr, ℕ, Option, None, Some, IsSome, refl, sym, ap, ◌∙◌}
use Rattle.std.proofs.lemmas.Bool.{cases_eq}
use Rattle.std.proofs.lemmas.Option.{same_Some}
use Rattle.std.specs.Option.{ForSome, option_map}
use Rattle.task_frames.specs.Cores.{CoreView}
use Rattle.task_frames.specs.Records.{AreGivenSo, HasOneFailed, IsOnlyLive, LiveFrame, NumberedFrames, as_given, live_at, with_failed_child}
use Rattle.task_frames.specs.Resumes.{OthersKept, OthersKeptAtEnd, OthersStayAsGiven}

-- the frame that one of them was before
pub record WasGiven (before : NumberedFrames) (number : ℕ) (frame : LiveFrame) : Type 0 where
  pub was : LiveFrame
  pub live : live_at before number ≡ Some was
  pub same : as_given was ≡ as_given frame

pub was-given : (before after : NumberedFrames) (number : ℕ) (frame : LiveFrame) → option_map as_given (live_at after number) ≡ option_map as_given (live_at before number) → live_at after number ≡ Some frame
    → WasGiven before number frame
was-given before after number frame same at = by (live_at before number) refl (sym same ∙ ap (option_map as_given) at) where
  by : (found : Option LiveFrame) → live_at before number ≡ found → option_map as_given found ≡ Some (as_given frame) → WasGiven before number frame
  by None none is = absurd (cc)
  by (Some was) there is = record { was = was; live = there; same = same_Some (as_given was) (as_given frame) is }

-- nobody is there where nobody was
pub none-given : (before after : NumberedFrames) (number : ℕ) → option_map as_given (live_at after number) ≡ option_map as_given (live_at before number) → live_at after number ≡ None → live_at before number ≡ None
none-given before after number same none = by (live_at before number) (sym same ∙ ap (option_map as_given) none) where
  by : (found : Option LiveFrame) → option_map as_given found ≡ None → found ≡ None
  by None is = refl
  by (Some was) is = absurd (cc)

-- where one child more failed, each is given as before
pub one-failed-given : (before after : NumberedFrames) (parent : Option ℕ) → HasOneFailed before after parent → AreGivenSo before after
one-failed-given before after None is = λ number. ap (λ fs. option_map as_given (live_at fs number)) is
one-failed-given before after (Some parent) only = λ number. elim (cases_eq number parent) [
  | inl own ↦
      ap (λ m. option_map as_given (live_at after m)) own ∙ ap (option_map as_given) only.changed ∙ by (live_at before parent)
      ∙ ap (λ m. option_map as_given (live_at before m)) (sym own)
  | inr other ↦ ap (option_map as_given) (only.others number other)
]
  where
    by : (found : Option LiveFrame) → option_map as_given (option_map with_failed_child found) ≡ option_map as_given found
    by None = refl
    by (Some frame) = refl

-- and all but the one above are as before
pub one-failed-others : (before after : NumberedFrames) (parent : Option ℕ) → HasOneFailed before after parent → (other : ℕ) → parent ≢ Some other → live_at after other ≡ live_at before other
one-failed-others before after None is other differs = ap (λ fs. live_at fs other) is
one-failed-others before after (Some parent) only other differs = only.others other (λ same. differs (ap Some (sym same)))

-- where one frame is changed, each other one is given as before
pub others-given : (before after : NumberedFrames) (number : ℕ) (frame : Option LiveFrame) → IsOnlyLive before after number frame → (other : ℕ) → other ≢ number
    → option_map as_given (live_at after other) ≡ option_map as_given (live_at before other)
others-given before after number frame only other differs = ap (option_map as_given) (only.others other differs)

-- and who is there is there still
pub some-given : (before after : NumberedFrames) (number : ℕ) → option_map as_given (live_at after number) ≡ option_map as_given (live_at before number) → IsSome (live_at before number) → IsSome (live_at after number)
some-given before after number same there = by (live_at after number) (live_at before number) same there where
  by : (now was : Option LiveFrame) → option_map as_given now ≡ option_map as_given was → IsSome was → IsSome now
  by (Some frame) was is some = refl
  by None None is some = some
  by None (Some frame) is some = absurd (cc)

-- ---- frames that a step left alone

-- they are in the record as they were given
abbrev pub OthersKeptAsGiven : {B L : Type 0} → (before after : CoreView B L) → (ℕ → Type 0) → Type 0
OthersKeptAsGiven before after IsOther = ForSome before.kept (λ kept. ForSome after.kept (λ now. OthersStayAsGiven kept now IsOther))

pub kept-given : {B L : Type 0} (before after : CoreView B L) (IsOther : ℕ → Type 0) → OthersKept before after IsOther → OthersKeptAsGiven before after IsOther
kept-given before after IsOther stay = λ kept is now its.
    let others = stay kept is now its in
    record { live = λ other is_other. ap (option_map as_given) (others.live other is_other); active_are = others.active_are }

-- and so they are where one has ended
pub ended-given : {B L : Type 0} (before after : CoreView B L) (number : ℕ) → OthersKeptAtEnd before after number → OthersKeptAsGiven before after (λ other. other ≢ number)
ended-given before after number stay = λ kept is now its. (stay kept is now its).0
