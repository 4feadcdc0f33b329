-- What a lawful script tells of how much stands in a queue, and how much was popped, from one time to another.
use Rattle.std.proofs.Common.{◌≡◌, ℕ, zero, suc, ◌+◌, ◌-◌, ◌<◌, ◌≤◌, inl, inr, Bool, true, false, ◌&&◌, nat_lt, cond, List, [], ◌∷◌, Option, Some, None, length, take, refl, sym, ap, ◌∙◌, length-append, arith}
use Rattle.std.proofs.lemmas.Bool.{and_from, and_right, cases_lt, le-ltb, lt-ltb, ltb-true}
use Rattle.std.proofs.lemmas.List.{take_all}
use Rattle.std.specs.List.{cons_option}
use Rattle.std.specs.Option.{option_map_or}
use Rattle.std.specs.Prelude.{filter, slice_get}
use Rattle.swan_model.specs.declared.origin.Origin.{Origin}
use Rattle.swan_model.specs.declared.origin.Origin.TheVariants.{Step}
use Rattle.swan_model.specs.declared.rights.Mode.TheVariants.{Push, Pop}
use Rattle.swan_model.specs.declared.script.Deed.{Deed}
use Rattle.swan_model.specs.declared.script.Deed.TheVariants as deed
use Rattle.swan_model.specs.declared.script.Entry.{Entry}
use Rattle.swan_model.specs.declared.script.OriginGive.{OriginGive}
use Rattle.swan_model.specs.declared.script.Script.{Script}
use Rattle.swan_model.specs.declared.value.Value.{Value}
use Rattle.swan_model.specs.Granted.{child_path, may_use}
use Rattle.swan_model.specs.Lawful.{IsLawful}
use Rattle.swan_model.specs.Readings.{end_time, next_deed}
use Rattle.swan_model.specs.Ripe.{is_push_to, push_time}
use Rattle.swan_model.specs.SerialTime.{Progress, places_from, point}
use Rattle.swan_model.specs.Told.{count, deed_at, first_items, is_pop_of, is_same, pushed, pushed_by, pushes, taken}
use Rattle.swan_model.proofs.Origins.{is_same-self}
use Rattle.swan_model.proofs.Places.{passing, passing-more, passing-none, passing-rises, passing-same, passing-stays, place_of, placed}
use Rattle.swan_model.proofs.ScriptDeeds.{not_before, not_through, pop_needs, push_needs}
use Rattle.swan_model.proofs.ScriptRights.{is_older}
use Rattle.swan_model.proofs.ScriptSteps.{deed_is, spawn_moves}
use Rattle.swan_model.proofs.Lists.{get-after}
use Rattle.swan_model.proofs.Elements.{one_if}

-- whether an entry is a push to this queue
abbrev pub is_push : Origin → Entry → Bool
is_push queue entry = is_push_to queue entry.deed

-- ---- the pushes are the entries that push

pub more-pushed : (queue : Origin) (d : Deed) (items : List Value) (entry : Entry) (entries : List Entry) → length items ≡ length entries → length (cons_option (pushed_by queue d) items) ≡ length (cond (is_push_to queue d) (entry ∷ entries) entries)
more-pushed queue (deed.Push origin value) items entry entries same = by (is_same origin queue) where
  by : (b : Bool) → length (cons_option (cond b (Some value) None) items) ≡ length (cond b (entry ∷ entries) entries)
  by true = omega (arith, same)
  by false = same
more-pushed queue deed.MakeQueue items entry entries same = same
more-pushed queue (deed.MakeObject value) items entry entries same = same
more-pushed queue (deed.Spawn gives) items entry entries same = same
more-pushed queue (deed.Pop origin) items entry entries same = same
more-pushed queue (deed.Test origin) items entry entries same = same
more-pushed queue (deed.Read object) items entry entries same = same
more-pushed queue (deed.Write object value) items entry entries same = same
more-pushed queue deed.Sync items entry entries same = same
more-pushed queue deed.Quiet items entry entries same = same

many-pushed : (queue : Origin) (entries : List Entry) → length (pushed queue entries) ≡ length (filter (is_push queue) entries)
many-pushed queue [] = refl
many-pushed queue (entry ∷ entries) =
    more-pushed queue entry.deed (pushed queue entries) entry (filter (is_push queue) entries) (many-pushed queue entries)

-- the item of an entry that pushes stands after those that were pushed before
item-at : (queue : Origin) (entries : List Entry) (n : ℕ) (entry : Entry) (value : Value) → slice_get entries n ≡ Some entry → pushed_by queue entry.deed ≡ Some value → slice_get (pushed queue entries) (length (pushed queue (take n entries))) ≡ Some value
item-at queue [] n entry value is pushes = absurd (cc)
item-at queue (x ∷ entries) zero entry value is pushes =
    let same : x ≡ entry = cc in
    ap (λ o. slice_get (cons_option o (pushed queue entries)) 0) (ap (λ (e : Entry). pushed_by queue e.deed) same ∙ pushes)
item-at queue (x ∷ entries) (suc n) entry value is pushes =
    by (pushed_by queue x.deed) ∙ item-at queue entries n entry value is pushes
  where
    by : (o : Option Value) → slice_get (cons_option o (pushed queue entries)) (length (cons_option o (pushed queue (take n entries)))) ≡ slice_get (pushed queue entries) (length (pushed queue (take n entries)))
    by None = refl
    by (Some first) = refl

-- what is done at a time is done by an entry, where it isn't nothing
entry-at : (s : Script) (t : ℕ) (d : Deed) → deed_at s t ≡ d → (d ≡ deed.Quiet → ⊥) → (entry : Entry) × (slice_get s.entries t ≡ Some entry) × (entry.deed ≡ d)
entry-at s t d does not = by (slice_get s.entries t) refl where
  by : (found : Option Entry) → slice_get s.entries t ≡ found → (entry : Entry) × (slice_get s.entries t ≡ Some entry) × (entry.deed ≡ d)
  by None stands = absurd (not (sym does ∙ ap (λ o. option_map_or (λ (e : Entry). e.deed) o deed.Quiet) stands))
  by (Some entry) stands = (entry, stands, sym (deed_is s t entry stands) ∙ does)

module _ (s : Script) (queue : Origin) where
  -- how many stand in a queue is how many did first, and how many entries were pushes
  counted : (n : ℕ) → count s queue n ≡ length (first_items s queue) + passing (is_push queue) n s.entries
  counted n = omega (arith, many-pushed queue (take n s.entries))

  pub count_mono : (n m : ℕ) → n ≤ m → count s queue n ≤ count s queue m
  count_mono n m less = omega (arith, counted n, counted m, passing-rises (is_push queue) s.entries n m less)

  -- there are never more than all that ever stand there
  pub count_le : (n : ℕ) → count s queue n ≤ length (pushes s queue)
  count_le n =
      let all = take_all (n + length s.entries) s.entries (omega arith) in
      let whole : passing (is_push queue) (n + length s.entries) s.entries ≡ length (filter (is_push queue) s.entries) = ap (λ es. length (filter (is_push queue) es)) all in
      omega (arith, counted n, passing-rises (is_push queue) s.entries n (n + length s.entries) (omega arith), whole, many-pushed queue s.entries, length-append (first_items s queue) (pushed queue s.entries))

  -- a push adds an item, and this item stands there
  pub count_rises : (t : ℕ) (value : Value) → deed_at s t ≡ deed.Push queue value → (count s queue (t + 1) ≡ count s queue t + 1) × (slice_get (pushes s queue) (count s queue t) ≡ Some value)
  count_rises t value does =
      let at = entry-at s t (deed.Push queue value) does (λ is. absurd (cc)) in
      let pushes_it : is_push queue at.0 ≡ true = ap (is_push_to queue) at.2 ∙ is_same-self queue in
      let one : one_if (is_push queue at.0) ≡ 1 = ap one_if pushes_it in
      let next : t + 1 ≡ suc t = omega arith in
      let later : count s queue (t + 1) ≡ count s queue (suc t) = ap (count s queue) next in
      let item : pushed_by queue at.0.deed ≡ Some value = ap (pushed_by queue) at.2 ∙ ap (λ b. cond b (Some value) None) (is_same-self queue) in (
        omega (arith, later, counted (suc t), counted t, passing-more (is_push queue) s.entries t at.0 at.1, one),
        get-after (first_items s queue) (pushed queue s.entries) (length (pushed queue (take t s.entries))) ∙ item-at queue s.entries t at.0 value at.1 item,
      )

  pub count_kept : (t : ℕ) → is_push_to queue (deed_at s t) ≡ false → count s queue (t + 1) ≡ count s queue t
  count_kept t not =
      let next : t + 1 ≡ suc t = omega arith in
      let later : count s queue (t + 1) ≡ count s queue (suc t) = ap (count s queue) next in
      omega (arith, later, counted (suc t), counted t, passing-same (is_push queue) s.entries t (λ entry stands. ap (is_push_to queue) (sym (deed_is s t entry stands)) ∙ not))

  -- so it is over several entries
  pub count_over : (n m : ℕ) → n ≤ m → ((v : ℕ) → n ≤ v → v < m → is_push_to queue (deed_at s v) ≡ false) → count s queue m ≡ count s queue n
  count_over n m less none =
      omega (arith, counted n, counted m, passing-stays (is_push queue) s.entries n m less (λ v entry from below stands. ap (is_push_to queue) (sym (deed_is s v entry stands)) ∙ none v from below))

  -- ---- pops

  taken-next : (t : ℕ) → (taken s queue t ≤ taken s queue (suc t)) × (taken s queue t ≤ count s queue t → taken s queue (suc t) ≤ count s queue t)
  taken-next t = by (is_pop_of queue (deed_at s t)) (nat_lt (taken s queue t) (count s queue t)) refl where
    by : (pops some : Bool) → nat_lt (taken s queue t) (count s queue t) ≡ some → (taken s queue t ≤ cond (pops && some) (taken s queue t + 1) (taken s queue t)) × (taken s queue t ≤ count s queue t → cond (pops && some) (taken s queue t + 1) (taken s queue t) ≤ count s queue t)
    by true true is = let less = ltb-true (taken s queue t) (count s queue t) is in (omega arith, λ before. omega arith)
    by true false is = (omega arith, λ before. before)
    by false some is = (omega arith, λ before. before)

  -- no more are popped than stand there
  pub taken_le : (n : ℕ) → taken s queue n ≤ count s queue n
  taken_le zero = omega arith
  taken_le (suc n) = omega (arith, (taken-next n).1 (taken_le n), count_mono n (suc n) (omega arith))

  pub taken_mono : (n m : ℕ) → n ≤ m → taken s queue n ≤ taken s queue m
  taken_mono n zero less =
      let e : n ≡ zero = omega arith in
      let same : taken s queue n ≡ taken s queue zero = ap (taken s queue) e in
      omega (arith, same)
  taken_mono n (suc m) less = elim (cases_lt m n) [
    | inl past ↦
        let e : n ≡ suc m = omega arith in
        let same : taken s queue n ≡ taken s queue (suc m) = ap (taken s queue) e in
        omega (arith, same)
    | inr before ↦ omega (arith, taken_mono n m before, (taken-next m).0)
  ]

  next-kept : (t : ℕ) → is_pop_of queue (deed_at s t) ≡ false → taken s queue (suc t) ≡ taken s queue t
  next-kept t not = ap (λ b. cond (b && nat_lt (taken s queue t) (count s queue t)) (taken s queue t + 1) (taken s queue t)) not

  pub taken_kept : (t : ℕ) → is_pop_of queue (deed_at s t) ≡ false → taken s queue (t + 1) ≡ taken s queue t
  taken_kept t not =
      let next : t + 1 ≡ suc t = omega arith in
      ap (taken s queue) next ∙ next-kept t not

  -- a pop takes an item where one stands there, and none where none does
  pub taken_rises : (t : ℕ) → deed_at s t ≡ deed.Pop queue → taken s queue t < count s queue t → taken s queue (t + 1) ≡ taken s queue t + 1
  taken_rises t does some =
      let next : t + 1 ≡ suc t = omega arith in
      let pops : is_pop_of queue (deed_at s t) ≡ true = ap (is_pop_of queue) does ∙ is_same-self queue in
      let both = and_from (is_pop_of queue (deed_at s t)) (nat_lt (taken s queue t) (count s queue t)) pops (lt-ltb (taken s queue t) (count s queue t) some) in
      ap (taken s queue) next ∙ ap (λ b. cond b (taken s queue t + 1) (taken s queue t)) both

  pub taken_none : (t : ℕ) → count s queue t ≤ taken s queue t → taken s queue (t + 1) ≡ taken s queue t
  taken_none t none =
      let next : t + 1 ≡ suc t = omega arith in
      let neither = and_right (is_pop_of queue (deed_at s t)) (nat_lt (taken s queue t) (count s queue t)) (le-ltb (taken s queue t) (count s queue t) none) in
      ap (taken s queue) next ∙ ap (λ b. cond b (taken s queue t + 1) (taken s queue t)) neither

  -- over several entries of which none is a pop nothing is taken
  pub taken_over : (n m : ℕ) → n ≤ m → ((v : ℕ) → n ≤ v → v < m → is_pop_of queue (deed_at s v) ≡ false) → taken s queue m ≡ taken s queue n
  taken_over n zero less none =
      let e : zero ≡ n = omega arith in
      ap (taken s queue) e
  taken_over n (suc m) less none = elim (cases_lt m n) [
    | inl past ↦
        let e : suc m ≡ n = omega arith in
        ap (taken s queue) e
    | inr before ↦
        next-kept m (none m before (omega arith))
        ∙ taken_over n m before (λ v from below. none v from (omega arith))
  ]

  -- ---- the time of a push

  placed-push : (index t : ℕ) → length (first_items s queue) ≤ index → push_time s queue index ≡ Some t → (entry : Entry) × (slice_get s.entries t ≡ Some entry) × (is_push queue entry ≡ true) × (count s queue t ≡ index)
  placed-push index t past is =
      let found = placed (is_push queue) 0 s.entries (index - length (first_items s queue)) t is in
      let here : found.i ≡ t = omega (arith, found.is) in
      let before : passing (is_push queue) t s.entries ≡ index - length (first_items s queue) = ap (λ i. passing (is_push queue) i s.entries) (sym here) ∙ found.before in
      (found.entry, ap (slice_get s.entries) (sym here) ∙ found.stands, found.passes, omega (arith, counted t, before))

  -- as many stand there before the push of an item as its index says
  pub push_index : (index t : ℕ) → length (first_items s queue) ≤ index → push_time s queue index ≡ Some t → count s queue t ≡ index
  push_index index t past is = (placed-push index t past is).3

  -- up to then there are no more, and after it there are
  pub push_before : (index t n : ℕ) → length (first_items s queue) ≤ index → push_time s queue index ≡ Some t → count s queue n ≤ index → n ≤ t
  push_before index t n past is few = elim (cases_lt t n) [
    | inl later ↦
        let at = placed-push index t past is in
        let one : one_if (is_push queue at.0) ≡ 1 = ap one_if at.2 in
        absurd (omega (arith, few, at.3, counted t, counted (suc t), passing-more (is_push queue) s.entries t at.0 at.1, one, count_mono (suc t) n (omega arith)))
    | inr early ↦ early
  ]

  pub push_after : (index t n : ℕ) → length (first_items s queue) ≤ index → push_time s queue index ≡ Some t → index < count s queue n → t < n
  push_after index t n past is many = elim (cases_lt t n) [
    | inl later ↦ later
    | inr early ↦ absurd (omega (arith, many, push_index index t past is, count_mono n t early))
  ]

  -- and each push is that of the item whose index is how many stood there before
  pub push_time_at : (t : ℕ) (value : Value) → deed_at s t ≡ deed.Push queue value → push_time s queue (count s queue t) ≡ Some t
  push_time_at t value does =
      let at = entry-at s t (deed.Push queue value) does (λ is. absurd (cc)) in
      let pushes_it : is_push queue at.0 ≡ true = ap (is_push_to queue) at.2 ∙ is_same-self queue in
      let index : count s queue t - length (first_items s queue) ≡ passing (is_push queue) t s.entries = omega (arith, counted t) in
      let zero_t : 0 + t ≡ t = omega arith in
      ap (slice_get (places_from (is_push queue) 0 s.entries)) index ∙ place_of (is_push queue) 0 s.entries t at.0 at.1 pushes_it ∙ ap Some zero_t

module _ (s : Script) (lawful : IsLawful s) where
  -- where a queue is made nothing stands in it yet
  pub count_made : (t : ℕ) → deed_at s t ≡ deed.MakeQueue → (count s (Step t) (t + 1) ≡ 0) × (taken s (Step t) (t + 1) ≡ 0)
  count_made t does =
      let none = count_over s (Step t) 0 (t + 1) (omega arith)
      (λ v from before. not_before s lawful (is_push_to (Step t)) Push (Step t) (push_needs (Step t)) v (le-ltb t v (omega arith))) in
      let empty : count s (Step t) (t + 1) ≡ 0 = omega (arith, none, counted s (Step t) 0, passing-none (is_push (Step t)) s.entries 0 (λ i e less is. absurd (omega arith))) in
      (empty, omega (arith, taken_le s (Step t) (t + 1), empty))

  module _ (p : Progress) (gives : List OriginGive) (next : next_deed s p ≡ Some (deed.Spawn gives)) (queue : Origin) (old : is_older queue (point s p) ≡ true) where
    -- through a spawn whose gives lack push nothing is pushed
    pub count_through : may_use gives Push queue ≡ false → count s queue (end_time s (child_path s p.path (point s p))) ≡ count s queue (point s p)
    count_through lacks =
        let long = (spawn_moves s lawful p gives next).long in
        count_over s queue (point s p) (end_time s (child_path s p.path (point s p))) (omega arith)
        (λ v from before. not_through s lawful (is_push_to queue) Push queue (push_needs queue) p gives next old lacks v from before)

    -- and through one whose gives lack pop nothing is popped
    pub taken_through : may_use gives Pop queue ≡ false → taken s queue (end_time s (child_path s p.path (point s p))) ≡ taken s queue (point s p)
    taken_through lacks =
        let long = (spawn_moves s lawful p gives next).long in
        taken_over s queue (point s p) (end_time s (child_path s p.path (point s p))) (omega arith)
        (λ v from before. not_through s lawful (is_pop_of queue) Pop queue (pop_needs queue) p gives next old lacks v from before)
