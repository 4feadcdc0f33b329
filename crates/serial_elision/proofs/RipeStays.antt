-- What is ripe stays ripe as other frames go on.
use Rattle.std.proofs.Common.{◌≡◌, ℕ, suc, ◌<◌, inl, inr, Bool, true, false, ◌&&◌, nat_eq, nat_lt, cond, List, [], ◌∷◌, ◌++◌, length, map, Option, Some, None, refl, sym, ap, subst, ◌∙◌, append_assoc, arith}
use Rattle.std.proofs.lemmas.Bool.{and_from, and_parts, cases_lt, lt-ltb, ltb-true, or_cases, or_left, or_right}
use Rattle.std.proofs.lemmas.List.{append-nil}
use Rattle.std.specs.List.{list_all}
use Rattle.std.specs.Option.{option_map_or}
use Rattle.std.specs.Prelude.{filter, not, slice_get}
use Rattle.swan_model.specs.declared.origin.Origin.{Origin}
use Rattle.swan_model.specs.declared.origin.Origin.TheVariants.{Step}
use Rattle.swan_model.specs.declared.rights.Mode.TheVariants.{Push}
use Rattle.swan_model.specs.declared.script.Entry.{Entry}
use Rattle.swan_model.specs.declared.script.Script.{Script}
use Rattle.swan_model.specs.Granted.{holds, may_use}
use Rattle.swan_model.specs.Lawful.{IsLawful}
use Rattle.swan_model.specs.Nested.{HasTasks, IsEntryUnder}
use Rattle.swan_model.specs.Readings.{gone_on, one_more}
use Rattle.swan_model.specs.Ripe.{is_push_to, is_ripe, may_push_too, push_time}
use Rattle.swan_model.specs.SerialTime.{Progress, Reading, is_done, point, times}
use Rattle.swan_model.specs.Told.{first_items, taken}
use Rattle.serial_elision.specs.Laws.{AreFramesOf}
use Rattle.serial_elision.proofs.MadeAbove.{made_above}
use Rattle.swan_model.proofs.Places.{placed}
use Rattle.swan_model.proofs.Points.{past_above, same_frame, done_by}
use Rattle.swan_model.proofs.TaskEntries.{point_own}
use Rattle.serial_elision.proofs.PointsRise.{further, held_further, point_stays}
use Rattle.swan_model.proofs.ScriptDeeds.{push-right}
use Rattle.swan_model.proofs.MovedFrames.{done_stays, later_point}

-- ---- lists

-- what all that pass one test pass too
pub all-first : {X : Type 0} (passes test : X → Bool) (x : X) (xs : List X) → list_all test (filter passes (x ∷ xs)) ≡ true → (passes x ≡ true → test x ≡ true) × (list_all test (filter passes xs) ≡ true)
all-first passes test x xs is = by (passes x) is where
  by : (b : Bool) → list_all test (cond b (x ∷ filter passes xs) (filter passes xs)) ≡ true → (b ≡ true → test x ≡ true) × (list_all test (filter passes xs) ≡ true)
  by true all = let both = and_parts (test x) (list_all test (filter passes xs)) all in (λ yes. both.0, both.1)
  by false all = (λ yes. absurd (cc), all)

pub all-more : {X : Type 0} (passes test : X → Bool) (x : X) (xs : List X) → (passes x ≡ true → test x ≡ true) → list_all test (filter passes xs) ≡ true → list_all test (filter passes (x ∷ xs)) ≡ true
all-more passes test x xs first rest = by (passes x) first where
  by : (b : Bool) → (b ≡ true → test x ≡ true) → list_all test (cond b (x ∷ filter passes xs) (filter passes xs)) ≡ true
  by true is = and_from (test x) (list_all test (filter passes xs)) (is refl) rest
  by false is = rest

-- ---- no queue is pushed to that is still to be made

-- an entry of the task of a frame, or of one below it, that is done comes before the frame's point
pub done_under : (s : Script) (r : Reading) → IsLawful s → HasTasks s r → (index : ℕ) (frame : Progress) → slice_get r.frames index ≡ Some frame → frame.done < length (times s frame.path) → (t : ℕ) (entry : Entry) (rest : List ℕ) → slice_get s.entries t ≡ Some entry → is_done s r t ≡ true → entry.path ≡ frame.path ++ rest → t < point s frame
done_under s r lawful tasks index frame stands left t entry [] at done under =
    let by = done_by s r t entry at done in
    let own : by.frame.path ≡ frame.path = by.own ∙ under ∙ append-nil frame.path in
    let same : by.frame ≡ frame = same_frame s r tasks by.index index by.frame frame by.stands stands own in
    subst (λ f. t < point s f) same by.past
done_under s r lawful tasks index frame stands left t entry (child ∷ rest) at done under =
    let by = done_by s r t entry at done in
    let past = past_above s r tasks (length rest) frame.path rest child by.index by.frame refl by.stands (by.own ∙ under) in
    let same : past.parent ≡ frame = same_frame s r tasks past.index index past.parent frame past.stands stands past.own in
    let spawned : past.spawn < point s frame = subst (λ f. past.spawn < point s f) same past.past in
    let below : IsEntryUnder s (frame.path ++ child ∷ []) t = record { entry = entry; stands = at; rest = rest; under = under ∙ sym (append_assoc frame.path (child ∷ []) rest) } in
    lawful.nested.whole frame.path child past.spawn t (point s frame) past.known below (point_own s frame left) spawned

-- the entry of this time pushes to the queue
pub record IsPushAt (s : Script) (queue : Origin) (t : ℕ) : Type 0 where
  pub entry : Entry
  pub stands : slice_get s.entries t ≡ Some entry
  pub pushes : is_push_to queue entry.deed ≡ true

pub push-at : (s : Script) (queue : Origin) (index t : ℕ) → push_time s queue index ≡ Some t → IsPushAt s queue t
push-at s queue index t is =
    let found = placed (λ entry. is_push_to queue entry.deed) 0 s.entries _ t is in
    let here : found.i ≡ t = omega (arith, found.is) in
    record { entry = found.entry; stands = ap (slice_get s.entries) (sym here) ∙ found.stands; pushes = found.passes }

-- where a push to a queue is done, the queue isn't one that a frame makes by its next entry
made-already : (s : Script) (r : Reading) → IsLawful s → HasTasks s r → (index : ℕ) (frame : Progress) → slice_get r.frames index ≡ Some frame → frame.done < length (times s frame.path) → (queue : Origin) (t : ℕ) → IsPushAt s queue t → is_done s r t ≡ true → queue ≡ Step (point s frame) → ⊥
made-already s r lawful tasks index frame stands left queue t push done made =
    let n = point s frame in
    let held = holds s push.entry.path t in
    let may : may_use held Push (Step n) ≡ true = subst (λ o. may_use held Push o ≡ true) made (push-right queue held push.entry.deed push.pushes (lawful.within t push.entry push.stands)) in
    let above = made_above s lawful t push.entry.path Push n may in
    let own = point_own s frame left in
    let same : Some above.entry ≡ Some own.entry = sym above.stands ∙ own.stands in
    let maker : above.entry.path ≡ frame.path = let e : above.entry ≡ own.entry = cc in ap (λ (x : Entry). x.path) e ∙ own.own in
    let early = done_under s r lawful tasks index frame stands left t push.entry above.rest push.stands done (above.under ∙ ap (λ p. p ++ above.rest) maker) in
    omega (arith, above.earlier, early)

-- ---- what is ripe stays ripe

module _ (s : Script) (r : Reading) (lawful : IsLawful s) (tasks : HasTasks s r) (frame : Progress) (queue : Origin) (t : ℕ) (push : IsPushAt s queue t) (done : is_done s r t ≡ true) where
  abbrev Before : Progress → Type 0
  Before other = may_push_too s frame queue other ≡ true → nat_lt t (point s other) ≡ true

  before-further : (index : ℕ) (other : Progress) → slice_get r.frames index ≡ Some other → Before other → Before (further other)
  before-further index other stands before may =
      let both = and_parts (not (nat_eq other.number frame.number)) (may_use (holds s other.path (point s (further other))) Push queue) may in
      let late = λ (was : may_use (holds s other.path (point s other)) Push queue ≡ true).
      ltb-true t (point s other) (before (and_from (not (nat_eq other.number frame.number)) (may_use (holds s other.path (point s other)) Push queue) both.0 was)) in
      elim (cases_lt other.done (length (times s other.path))) [
        | inl left ↦ elim (held_further s lawful other Push queue left both.1) [
          | inl was ↦ lt-ltb t (point s (further other)) (omega (arith, late was, later_point s other))
          | inr made ↦ absurd (made-already s r lawful tasks index other stands left queue t push done made)
        ]
        | inr over ↦
            let e = point_stays s other over in
            let was = subst (λ n. may_use (holds s other.path n) Push queue ≡ true) e both.1 in
            lt-ltb t (point s (further other)) (omega (arith, late was, e))
      ]

  before-more : (number index : ℕ) (other : Progress) → slice_get r.frames index ≡ Some other → Before other → Before (one_more number other)
  before-more number index other stands before = by (nat_eq other.number number) where
    by : (b : Bool) → Before (cond b (further other) other)
    by false = before
    by true = before-further index other stands before

  pub all_stay : (number : ℕ) (active : List Progress) → ((i : ℕ) (other : Progress) → slice_get active i ≡ Some other → (j : ℕ) × (slice_get r.frames j ≡ Some other)) → list_all (λ other. nat_lt t (point s other)) (filter (may_push_too s frame queue) active) ≡ true → list_all (λ other. nat_lt t (point s other)) (filter (may_push_too s frame queue) (map (one_more number) active)) ≡ true
  all_stay number [] each is = refl
  all_stay number (other ∷ active) each is =
      let parts = all-first (may_push_too s frame queue) (λ x. nat_lt t (point s x)) other active is in
      let here = each 0 other refl in
      all-more (may_push_too s frame queue) (λ x. nat_lt t (point s x)) (one_more number other) (map (one_more number) active)
      (before-more number here.0 other here.1 parts.0)
      (all_stay number active (λ i x stands. each (suc i) x stands) parts.1)

pushed-stays : (s : Script) (r : Reading) (active : List Progress) (frame : Progress) (queue : Origin) (number index : ℕ) → IsLawful s → HasTasks s r → AreFramesOf r active → (found : Option ℕ) → push_time s queue index ≡ found
    → option_map_or (λ t. is_done s r t && list_all (λ other. nat_lt t (point s other)) (filter (may_push_too s frame queue) active)) found false ≡ true
    → option_map_or (λ t. is_done s (gone_on r number) t && list_all (λ other. nat_lt t (point s other)) (filter (may_push_too s frame queue) (map (one_more number) active))) found false ≡ true
pushed-stays s r active frame queue number index lawful tasks are None at is = absurd (cc)
pushed-stays s r active frame queue number index lawful tasks are (Some t) at is =
    let both = and_parts (is_done s r t) (list_all (λ other. nat_lt t (point s other)) (filter (may_push_too s frame queue) active)) is in
    and_from (is_done s (gone_on r number) t) (list_all (λ other. nat_lt t (point s other)) (filter (may_push_too s frame queue) (map (one_more number) active)))
    (done_stays s r number t both.0)
    (all_stay s r lawful tasks frame queue t (push-at s queue index t at) both.0 number active are.each both.1)

pub ripe_stays : (s : Script) (r : Reading) (active : List Progress) (frame : Progress) (queue : Origin) (number : ℕ) → IsLawful s → HasTasks s r → AreFramesOf r active → is_ripe s r active frame queue ≡ true → is_ripe s (gone_on r number) (map (one_more number) active) frame queue ≡ true
ripe_stays s r active frame queue number lawful tasks are is =
    let index = taken s queue (point s frame) in
    let first = nat_lt index (length (first_items s queue)) in
    let before = option_map_or (λ t. is_done s r t && list_all (λ other. nat_lt t (point s other)) (filter (may_push_too s frame queue) active)) (push_time s queue index) false in
    let after = option_map_or (λ t. is_done s (gone_on r number) t && list_all (λ other. nat_lt t (point s other)) (filter (may_push_too s frame queue) (map (one_more number) active))) (push_time s queue index) false in
    elim (or_cases first before is) [
      | inl early ↦ or_left first after early
      | inr pushed ↦ or_right first after (pushed-stays s r active frame queue number index lawful tasks are (push_time s queue index) refl pushed)
    ]
