-- What objects have at a frame stays right as frames go on: a version is right at a later point where nothing between
-- changes the object, and a version that a frame owes is right whatever else is done.
use Rattle.std.proofs.Common.{◌≡◌, ◌≢◌, ◌⊎◌, inl, inr, ℕ, ◌+◌, ◌≤◌, nat_eq, Bool, true, false, Some, [], ◌∷◌, ◌++◌, refl, sym, ap, subst, ◌∙◌, arith}
use Rattle.std.proofs.lemmas.Bool.{eqb-true, eqb-false}
use Rattle.std.specs.Prelude.{slice_get}
use Rattle.swan_model.specs.declared.origin.Origin.{Origin}
use Rattle.swan_model.specs.declared.origin.Origin.TheVariants.{Root, Step}
use Rattle.swan_model.specs.declared.rights.Mode.{Mode}
use Rattle.swan_model.specs.declared.script.Deed.{Deed}
use Rattle.swan_model.specs.declared.script.Script.{Script}
use Rattle.swan_model.specs.Granted.{holds, is_spawn, may_use}
use Rattle.swan_model.specs.Lawful.{IsLawful}
use Rattle.swan_model.specs.Readings.{end_time, next_deed, one_more}
use Rattle.swan_model.specs.SerialTime.{Progress, Reading, frame_of, point, time}
use Rattle.swan_model.specs.Told.{cell}
use Rattle.swan_model.specs.Versions.{Version, settled, owed, Placed, VersionState}
use Rattle.swan_model.specs.VersionsFollow.{ObjectsFollow, FollowsAt, IsVersionAt}
use Rattle.swan_model.proofs.MovedFrames.{IsMoved, frame_number, other_stays, own_moves, path_kept}
use Rattle.swan_model.proofs.ScriptCells.{cell_unchanged}
use Rattle.swan_model.proofs.ScriptDeeds.{is_change_of}
use Rattle.swan_model.proofs.ScriptRights.{held_later}
use Rattle.swan_model.proofs.ScriptSteps.{does_now, moved}
use Rattle.object_versions.proofs.Differ.{owed_same}

-- the frame of a number was the same task before
pub record IsSameTask (r : Reading) (number : ℕ) (now : Progress) : Type 0 where
  pub was : Progress
  pub stood : frame_of r number ≡ Some was
  pub path : was.path ≡ now.path

pub same_task : (r : Reading) (n number : ℕ) (now : Progress) → IsMoved r n number now → IsSameTask r number now
same_task r n number now m = record { was = m.was; stood = m.stood; path = sym (ap (λ f. f.path) m.moved ∙ path_kept n m.was) }

pub version_moves : (s : Script) (r after : Reading) (origin : Origin) (t later : ℕ) (version : Version) → t ≤ later → cell s origin later ≡ cell s origin t
    → ((number : ℕ) (now : Progress) → version ≡ owed number → frame_of after number ≡ Some now → IsSameTask r number now)
    → IsVersionAt s r origin t version → IsVersionAt s after origin later version
version_moves s r after origin t later (settled value) late same back is = same ∙ is
version_moves s r after origin t later (owed number) late same back is = λ owing known.
    let b = back number owing refl known in
    let at = is b.was b.stood in
    let early : end_time s owing.path ≤ t = subst (λ path. end_time s path ≤ t) b.path at.0 in
    (omega (arith, early, late), ap (λ path. cell s origin (end_time s path)) (sym b.path) ∙ at.1 ∙ sym same)

-- a frame that owes a version of this object, the present one or the given one
abbrev pub Owes : Placed → ℕ → Type 0
Owes object number = (object.present ≡ owed number) ⊎ (object.given ≡ Some number)

-- the given version stays right, and so does who owes the present one, whatever the frame itself does
pub given_stays : (s : Script) (r after : Reading) (was now : Progress) (object : Placed) (origin : Origin) → now.path ≡ was.path
    → ((number : ℕ) (owing : Progress) → Owes object number → frame_of after number ≡ Some owing → IsSameTask r number owing)
    → FollowsAt s r was object origin → (number : ℕ) → object.given ≡ Some number → IsVersionAt s after origin (time s now.path 0) (owed number)
given_stays s r after was now object origin path back is number given =
    let begins : time s now.path 0 ≡ time s was.path 0 = ap (λ p. time s p 0) path in
    subst (λ t. IsVersionAt s after origin t (owed number)) (sym begins)
    (version_moves s r after origin (time s was.path 0) (time s was.path 0) (owed number) (omega arith) refl
    (λ other owing owes. back other owing (inr (given ∙ ap Some (owed_same number other owes))))
    (is.given number given))

pub owed_by_same : (s : Script) (r after : Reading) (was now : Progress) (object : Placed) (origin : Origin) → now.path ≡ was.path
    → ((number : ℕ) (owing : Progress) → Owes object number → frame_of after number ≡ Some owing → IsSameTask r number owing)
    → FollowsAt s r was object origin → (number : ℕ) (owing : Progress) → object.present ≡ owed number → frame_of after number ≡ Some owing
    → (object.given ≡ Some number) ⊎ ((index : ℕ) × (owing.path ≡ now.path ++ index ∷ []))
owed_by_same s r after was now object origin path back is number owing owes known =
    let b = back number owing (inl owes) known in
    elim (is.owed_by number b.was owes b.stood) [
      | inl given ↦ inl given
      | inr child ↦ inr (child.0, sym b.path ∙ child.1 ∙ ap (λ p. p ++ child.0 ∷ []) (sym path))
    ]

-- what a task may use it may use later
pub held_on : (s : Script) (was now : Progress) (mode : Mode) (origin : Origin) → now.path ≡ was.path → point s was ≤ point s now
    → may_use (holds s was.path (point s was)) mode origin ≡ true → may_use (holds s now.path (point s now)) mode origin ≡ true
held_on s was now mode origin path later held =
    ap (λ p. may_use (holds s p (point s now)) mode origin) path ∙ held_later s was.path (point s was) (point s now) mode origin held later

pub at_moves : (s : Script) (r after : Reading) (was now : Progress) (object : Placed) (origin : Origin) → now.path ≡ was.path → point s was ≤ point s now
    → cell s origin (point s now) ≡ cell s origin (point s was)
    → ((number : ℕ) (owing : Progress) → Owes object number → frame_of after number ≡ Some owing → IsSameTask r number owing)
    → FollowsAt s r was object origin → FollowsAt s after now object origin
at_moves s r after was now object origin path later same back is = record {
  present = version_moves s r after origin (point s was) (point s now) object.present later same (λ number owing owes. back number owing (inl owes)) is.present;
  given = given_stays s r after was now object origin path back is;
  owed_by = owed_by_same s r after was now object origin path back is;
  held = held_on s was now object.mode origin path later is.held;
  first = is.first;
  begins = is.begins;
  kind = is.kind;
}

-- ---- as one frame does an entry that isn't a spawn

-- a frame that moved is the one that acts, one time later; or it is as it was
pub record IsActing (s : Script) (frame : Progress) (now : Progress) : Type 0 where
  pub path : now.path ≡ frame.path
  pub point : point s now ≡ point s frame + 1

pub acting : (s : Script) (r : Reading) → IsLawful s → (n : ℕ) (frame : Progress) (does : Deed) → frame_of r n ≡ Some frame → next_deed s frame ≡ Some does → is_spawn does ≡ false
    → (now : Progress) → IsMoved r n n now → IsActing s frame now
acting s r lawful n frame does known next other now m =
    let same : m.was ≡ frame = let e : Some m.was ≡ Some frame = sym m.stood ∙ known in cc in
    let number = frame_number r.frames n frame known in
    let e : now ≡ record frame { done = frame.done + 1 } = m.moved ∙ ap (one_more n) same ∙ own_moves n frame number in
    record {
      path = ap (λ f. f.path) e;
      point = ap (point s) e ∙ moved s lawful frame does next other;
    }

pub resting : (r : Reading) (n number : ℕ) (now : Progress) → number ≢ n → (m : IsMoved r n number now) → now ≡ m.was
resting r n number now apart m =
    let own = frame_number r.frames number m.was m.stood in
    m.moved ∙ other_stays n m.was (λ e. apart (sym own ∙ e))

pub at_gone : (s : Script) (r after : Reading) → IsLawful s → (n : ℕ) (frame : Progress) (does : Deed) → frame_of r n ≡ Some frame → next_deed s frame ≡ Some does
    → is_spawn does ≡ false → ((number : ℕ) (now : Progress) → frame_of after number ≡ Some now → IsMoved r n number now)
    → (number : ℕ) (now : Progress) (object : Placed) (origin : Origin) (m : IsMoved r n number now) → (number ≡ n → is_change_of origin does ≡ false)
    → FollowsAt s r m.was object origin → FollowsAt s after now object origin
at_gone s r after lawful n frame does known next other back number now object origin m keeps is =
    by (nat_eq number n) refl
  where
    tasks : (k : ℕ) (owing : Progress) → Owes object k → frame_of after k ≡ Some owing → IsSameTask r k owing
    tasks k owing owes stands = same_task r n k owing (back k owing stands)

    by : (b : Bool) → nat_eq number n ≡ b → FollowsAt s after now object origin
    by true same =
        let e : number ≡ n = eqb-true number n same in
        let self : m.was ≡ frame = let f : Some m.was ≡ Some frame = sym m.stood ∙ ap (frame_of r) e ∙ known in cc in
        let own : IsMoved r n n now = record { was = m.was; stood = ap (frame_of r) (sym e) ∙ m.stood; moved = m.moved } in
        let act = acting s r lawful n frame does known next other now own in
        let at = act.point in
        let from : point s m.was ≡ point s frame = ap (point s) self in
        at_moves s r after m.was now object origin (act.path ∙ sym (ap (λ f. f.path) self)) (omega arith)
        (ap (cell s origin) act.point
        ∙ cell_unchanged s origin (point s frame) (ap (is_change_of origin) (does_now s frame does next) ∙ keeps e)
        ∙ ap (cell s origin) (sym from))
        tasks is
    by false differ =
        let e = resting r n number now (eqb-false number n differ) m in
        at_moves s r after m.was now object origin (ap (λ f. f.path) e) (subst (λ f. point s m.was ≤ point s f) (sym e) (omega arith)) (ap (λ f. cell s origin (point s f)) e) tasks is

-- ---- which object an origin is

pub one_object : (s : Script) (r : Reading) (state : VersionState) → ObjectsFollow s r state → (a b : ℕ) (origin : Origin) → slice_get r.objects a ≡ Some origin
    → slice_get r.objects b ≡ Some origin → a ≡ b
one_object s r state follows a b (Root i) is also = follows.roots a i is ∙ sym (follows.roots b i also)
one_object s r state follows a b (Step n) is also = follows.different a b n is also
