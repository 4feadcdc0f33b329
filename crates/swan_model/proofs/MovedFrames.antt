-- The frames of a reading once one of them has done one more entry: each is the same task as before, none has gone back,
-- and what is done stays done.
use Rattle.std.proofs.Common.{◌≡◌, ◌≢◌, ◌⊎◌, inl, inr, ℕ, ◌+◌, ◌-◌, ◌≤◌, nat_eq, nat_lt, Bool, true, false, cond, Option, None, Some, List, [], ◌∷◌, ◌++◌, length, map, refl, sym, ap, ◌∙◌, arith}
use Rattle.std.proofs.lemmas.Bool.{eqb-true, ne_eqb, ltb-true, ltb-false, and_from, and_parts, lt-ltb, or_left}
use Rattle.std.proofs.lemmas.Bool.Decides.{nat_tests}
use Rattle.std.proofs.lemmas.List.Folds.{list_any-append}
use Rattle.std.proofs.lemmas.Option.{none-some}
use Rattle.std.specs.List.{list_any}
use Rattle.std.specs.Prelude.{slice_get, find}
use Rattle.std.specs.Option.{option_map, option_map_or}
use Rattle.swan_model.specs.declared.script.Script.{Script}
use Rattle.swan_model.specs.declared.script.Entry.{Entry}
use Rattle.swan_model.specs.Granted.{child_path}
use Rattle.swan_model.specs.Readings.{gone_on, one_more, reading_after_spawn}
use Rattle.swan_model.specs.SerialTime.{Progress, Reading, frame_of, point, time, times, is_done, is_of, is_past}
use Rattle.swan_model.proofs.ScriptSteps.{point_rises}
use Rattle.swan_model.proofs.Elements.{any_changed, find_map, found_is, found_before, found_cases, option_cases}

-- ---- one frame

pub number_kept : (n : ℕ) (frame : Progress) → (one_more n frame).number ≡ frame.number
number_kept n frame = by (nat_eq frame.number n) where
  by : (b : Bool) → (cond b (record frame { done = frame.done + 1 }) frame).number ≡ frame.number
  by true = refl
  by false = refl

pub path_kept : (n : ℕ) (frame : Progress) → (one_more n frame).path ≡ frame.path
path_kept n frame = by (nat_eq frame.number n) where
  by : (b : Bool) → (cond b (record frame { done = frame.done + 1 }) frame).path ≡ frame.path
  by true = refl
  by false = refl

pub own_moves : (n : ℕ) (frame : Progress) → frame.number ≡ n → one_more n frame ≡ record frame { done = frame.done + 1 }
own_moves n frame e =
    let same : nat_eq frame.number n ≡ true = grind (arith, nat_tests) in
    ap (λ b. cond b (record frame { done = frame.done + 1 }) frame) same

pub other_stays : (n : ℕ) (frame : Progress) → frame.number ≢ n → one_more n frame ≡ frame
other_stays n frame apart = ap (λ b. cond b (record frame { done = frame.done + 1 }) frame) (ne_eqb frame.number n apart)

-- its point doesn't go back
pub later_point : (s : Script) (frame : Progress) → point s frame ≤ point s (record frame { done = frame.done + 1 })
later_point s frame = by (nat_lt frame.done (length (times s frame.path))) refl where
  by : (b : Bool) → nat_lt frame.done (length (times s frame.path)) ≡ b → point s frame ≤ point s (record frame { done = frame.done + 1 })
  by true is =
      let left = ltb-true frame.done (length (times s frame.path)) is in
      let rises = point_rises s frame.path frame (record frame { done = frame.done + 1 }) refl refl (omega arith) (omega arith) in
      omega arith
  by false is =
      let none = ltb-false frame.done (length (times s frame.path)) is in
      let over : nat_lt (frame.done + 1) (length (times s frame.path)) ≡ false = grind (arith, nat_tests) in
      let after : ℕ = time s frame.path (length (times s frame.path) - 1) + 1 in
      let was : point s frame ≡ after = ap (λ b. cond b (time s frame.path frame.done) after) is in
      let now : point s (record frame { done = frame.done + 1 }) ≡ after = ap (λ b. cond b (time s frame.path (frame.done + 1)) after) over in
      omega arith

pub point_goes : (s : Script) (n : ℕ) (frame : Progress) → point s frame ≤ point s (one_more n frame)
point_goes s n frame = by (nat_eq frame.number n) where
  by : (b : Bool) → point s frame ≤ point s (cond b (record frame { done = frame.done + 1 }) frame)
  by true = later_point s frame
  by false = omega arith

-- ---- the frame of a number

pub frame_number : (frames : List Progress) (number : ℕ) (frame : Progress) → find (λ f. nat_eq f.number number) frames ≡ Some frame → frame.number ≡ number
frame_number frames number frame is = eqb-true frame.number number (found_is (λ (f : Progress). nat_eq f.number number) frames frame is).passes

-- a frame stands somewhere in the list
pub record IsIn (frames : List Progress) (frame : Progress) : Type 0 where
  pub index : ℕ
  pub stands : slice_get frames index ≡ Some frame

pub frame_in : (frames : List Progress) (number : ℕ) (frame : Progress) → find (λ f. nat_eq f.number number) frames ≡ Some frame → IsIn frames frame
frame_in frames number frame is =
    let found = found_is (λ (f : Progress). nat_eq f.number number) frames frame is in
    record { index = found.index; stands = found.stands }

find_gone : (n : ℕ) (frames : List Progress) (number : ℕ)
    → find (λ f. nat_eq f.number number) (map (one_more n) frames) ≡ option_map (one_more n) (find (λ f. nat_eq f.number number) frames)
find_gone n frames number = find_map (λ (f : Progress). nat_eq f.number number) (one_more n) (λ f. ap (λ k. nat_eq k number) (number_kept n f)) frames

-- a frame is what it was, moved on if it is the one that acts
pub record IsMoved (r : Reading) (n number : ℕ) (now : Progress) : Type 0 where
  pub was : Progress
  pub stood : frame_of r number ≡ Some was
  pub moved : now ≡ one_more n was

back_by : (n number : ℕ) (r : Reading) (found : Option Progress) (now : Progress) → frame_of r number ≡ found → option_map (one_more n) found ≡ Some now → IsMoved r n number now
back_by n number r None now is gone = absurd (cc)
back_by n number r (Some was) now is gone = record { was = was; stood = is; moved = let e : now ≡ one_more n was = cc in e }

pub gone_back : (r : Reading) (n number : ℕ) (now : Progress) → frame_of (gone_on r n) number ≡ Some now → IsMoved r n number now
gone_back r n number now is = back_by n number r (frame_of r number) now refl (sym (find_gone n r.frames number) ∙ is)

pub gone_there : (r : Reading) (n number : ℕ) (was : Progress) → frame_of r number ≡ Some was → frame_of (gone_on r n) number ≡ Some (one_more n was)
gone_there r n number was is = find_gone n r.frames number ∙ ap (option_map (one_more n)) is

-- the child that a spawn brings
abbrev pub child_progress : Script → Progress → ℕ → Progress
child_progress s parent child = record { number = child; path = child_path s parent.path (point s parent); done = 0 }

-- a frame is the new child
pub record IsChild (s : Script) (r : Reading) (parent : Progress) (child number : ℕ) (now : Progress) : Type 0 where
  pub unread : frame_of r number ≡ None
  pub same : number ≡ child
  pub is : now ≡ child_progress s parent child

pub spawned_back : (s : Script) (r : Reading) (parent : Progress) (child number : ℕ) (now : Progress) → frame_of (reading_after_spawn s r parent child) number ≡ Some now
    → IsMoved r parent.number number now ⊎ IsChild s r parent child number now
spawned_back s r parent child number now is =
    elim (found_cases (λ (f : Progress). nat_eq f.number number) (map (one_more parent.number) r.frames) (child_progress s parent child) now is) [
      | inl was ↦ inl (gone_back r parent.number number now was)
      | inr new ↦ inr (record { unread = unread new.0; same = sym (eqb-true child number new.1); is = sym new.2 })
    ]
  where
    unread : frame_of (gone_on r parent.number) number ≡ None → frame_of r number ≡ None
    unread none = elim (option_cases (frame_of r number)) [
      | inl is ↦ is
      | inr was ↦ absurd (none-some (one_more parent.number was.0) (sym none ∙ gone_there r parent.number number was.0 was.1))
    ]

pub spawned_there : (s : Script) (r : Reading) (parent : Progress) (child number : ℕ) (was : Progress) → frame_of r number ≡ Some was
    → frame_of (reading_after_spawn s r parent child) number ≡ Some (one_more parent.number was)
spawned_there s r parent child number was is =
    found_before (λ (f : Progress). nat_eq f.number number) (map (one_more parent.number) r.frames) (child_progress s parent child) (one_more parent.number was)
    (gone_there r parent.number number was is)

-- ---- what is done stays done

past_stays : (s : Script) (t : ℕ) (entry : Entry) (n : ℕ) (frame : Progress) → is_past s t entry frame ≡ true → is_past s t entry (one_more n frame) ≡ true
past_stays s t entry n frame is =
    let both = and_parts (is_of frame.path entry) (nat_lt t (point s frame)) is in
    let before = ltb-true t (point s frame) both.1 in
    let goes = point_goes s n frame in
    and_from (is_of (one_more n frame).path entry) (nat_lt t (point s (one_more n frame)))
    (ap (λ path. is_of path entry) (path_kept n frame) ∙ both.0)
    (lt-ltb t (point s (one_more n frame)) (omega arith))

pub done_stays : (s : Script) (r : Reading) (n t : ℕ) → is_done s r t ≡ true → is_done s (gone_on r n) t ≡ true
done_stays s r n t is = by (slice_get s.entries t) is where
  by : (o : Option Entry) → option_map_or (λ entry. list_any (is_past s t entry) r.frames) o false ≡ true
      → option_map_or (λ entry. list_any (is_past s t entry) (map (one_more n) r.frames)) o false ≡ true
  by None none = none
  by (Some entry) any = any_changed (is_past s t entry) (is_past s t entry) (one_more n) (past_stays s t entry n) r.frames any

pub done_spawned : (s : Script) (r : Reading) (parent : Progress) (child t : ℕ) → is_done s r t ≡ true → is_done s (reading_after_spawn s r parent child) t ≡ true
done_spawned s r parent child t is = by (slice_get s.entries t) (done_stays s r parent.number t is) where
  by : (o : Option Entry) → option_map_or (λ entry. list_any (is_past s t entry) (map (one_more parent.number) r.frames)) o false ≡ true
      → option_map_or (λ entry. list_any (is_past s t entry) (map (one_more parent.number) r.frames ++ child_progress s parent child ∷ [])) o false ≡ true
  by None none = none
  by (Some entry) any =
      list_any-append (is_past s t entry) (map (one_more parent.number) r.frames) (child_progress s parent child ∷ [])
      ∙ or_left (list_any (is_past s t entry) (map (one_more parent.number) r.frames)) (list_any (is_past s t entry) (child_progress s parent child ∷ [])) any
