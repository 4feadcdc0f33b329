-- Each step on a ring's words keeps the ring.
use Rattle.std.proofs.Common.{◌≡◌, ◌≢◌, ℕ, zero, suc, ◌+◌, ◌%◌, ◌<◌, ◌≤◌, true, false, true≢false, List, [], ◌∷◌, ◌++◌, length, set, get_or, sym, refl, ap, ◌∙◌, subst, ⊎_elim, arith, length-set, mod-lt, ◌*◌, map, replicate, max}
use Rattle.std.proofs.Math.Nat.{add-mul-mod_self_right}
use Rattle.std.proofs.lemmas.Option.{same_Some}
use Rattle.std.specs.Prelude.{Option, Some, None}
use Rattle.std.specs.Option.{ForSome}
use mathlib.Core.Logic.{dite}
use mathlib.Core.Option.{Option as Maybe, none, some, some-ne-none}
use native.Mathlib.Decide.{ℕ_discrete, dec_le}
use lib.ListN.{get_elem?}
use Rattle.atomic_table.specs.Table.{State, Me, Act, step, keeps, takes, gives, rest, homes_after, carried_after, Valid, Allows, Splits, Joins, opening}
use Rattle.swan_model.proofs.Tables.{all_set, only_one}
use Rattle.atomic_table.proofs.Lists.{at_set, at_snoc, set_here, set_else, one_turn}
use Rattle.ring_segments.specs.declared.rule.SeatView.{SeatView}
use Rattle.ring_segments.specs.Ends.{first_told}
use Rattle.ring_segments.specs.Words.{words_of, idle_view, opening_view, producer_of, consumer_of, note_view, sealed_of, last_note_view, spent, view_after_learn, view_after_look, view_after_miss, RingState, SeatKnows, AreCounts, AreSlots, IsRing, saw_head, put, took, Bounds, saw_tail, heard, reached}

module _ {V : Type 0} where
  at_end : (l : List V) (a b : V) (j : ℕ) → get_elem? l j ≢ some b → get_elem? (l ++ a ∷ []) j ≡ some b → j ≡ length l
  at_end [] a b zero n e = refl
  at_end [] a b (suc j) n e = absurd (some-ne-none b (sym e))
  at_end (x ∷ xs) a b zero n e = absurd (n e)
  at_end (x ∷ xs) a b (suc j) n e = ap suc (at_end xs a b j n e)

module _ {E O : Type 0} (index : E → ℕ) (of : E → O) (HasRoom : O → ℕ → Type 0) (owner : O) (size : ℕ) where
  abbrev Rule : State (Option E) (SeatView O) → Type 0
  Rule = IsRing index of HasRoom owner size

  abbrev Counts : RingState → Type 0
  Counts = AreCounts index of HasRoom owner size

  abbrev Slots : RingState → List (Maybe (Option E)) → Type 0
  Slots = AreSlots index of HasRoom owner size

  -- what `Allows` asks, at these words
  abbrev Can : ℕ → Me (Option E) (SeatView O) → ℕ → (ℕ → ℕ) → (ℕ → Me (Option E) (SeatView O) → Type 0) → List (Maybe (Option E)) → List (SeatView O) → List ℕ → Type 0
  Can id me i f then hs vs ws = (w : SeatView O) × (a : Act (Option E)) × Valid hs me.1 a
      × Rule record { words = set ws i (f (get_or ws i 0)); homes = homes_after hs me.1 a; views = set vs id w } × then (get_or ws i 0) (w, carried_after me.1 a)

  -- a ring at these slots and views
  record Here (p : RingState) (hs : List (Maybe (Option E))) (vs : List (SeatView O)) : Type 0 where
    counts : Counts p
    slots : Slots p hs
    each : (j : ℕ) (v : SeatView O) → get_elem? vs j ≡ some v → SeatKnows owner p j v

  allows : (slots id : ℕ) (me : Me (Option E) (SeatView O)) (i : ℕ) (f : ℕ → ℕ) (then : ℕ → Me (Option E) (SeatView O) → Type 0)
      → ((p : RingState) (hs : List (Maybe (Option E))) (vs : List (SeatView O)) → Here p hs vs → slots ≡ size → get_elem? vs id ≡ some me.0 → Can id me i f then hs vs (words_of p.head p.tail))
      → Allows Rule slots id me i f then
  allows slots id me i f then go s r len at _ =
      subst (Can id me i f then s.homes s.views) (sym r.words)
      (go r.at s.homes s.views (record { counts = r.counts; slots = r.slots; each = r.each }) (sym len ∙ r.slots.count) at)

  -- two numbers less than one turn apart have two places
  apart : (i j : ℕ) → i ≢ j → i ≤ j → j < i + size → i % size ≢ j % size
  apart i j ne le lt e = ne (one_turn i j size le lt e)

  wraps : (n : ℕ) → n % size ≡ (n + size) % size
  wraps n = let e : n + 1 * size ≡ n + size = omega arith in sym (add-mul-mod_self_right n 1 size) ∙ ap (λ (k : ℕ). k % size) e

  -- the seat's view changes in what the ring doesn't ask of it
  only_view : (p : RingState) (hs : List (Maybe (Option E))) (vs : List (SeatView O)) (id : ℕ) (w : SeatView O) (ws : List ℕ) → ws ≡ words_of p.head p.tail → Here p hs vs → SeatKnows owner p id w
      → Rule record { words = ws; homes = hs; views = set vs id w }
  only_view p hs vs id w ws is g mine = record {
    at = p;
    words = is;
    counts = g.counts;
    slots = g.slots;
    each = all_set (SeatKnows owner p) vs id w mine (λ j u _ e. g.each j u e);
  }

  -- a slot is out: the others are as they were
  slots_without_free : (p : RingState) (hs : List (Maybe (Option E))) → Counts p → Slots p hs → p.putting ≡ false → p.tail < p.head + size → (k : ℕ) → k ≡ p.tail % size → Slots (record p { putting = true }) (set hs k none)
  slots_without_free p hs c s idle some_room k is = let order = c.order in let room = c.room in let still : p.putting ≡ true → ⊥ = λ t. true≢false (sym t ∙ idle) in record {
    count = length-set hs k none ∙ s.count;
    full = λ i a b n. let f = s.full i a b n in (f.0, set_else hs k (i % size) none (λ e. apart i p.tail (λ h. omega arith) (omega arith) (omega arith) (e ∙ is)) ∙ f.1, f.2, f.3);
    free = λ i a b n. let f = s.free i a b (λ t. still t.0) in let ne : p.tail ≢ i = λ h. n (refl, sym h) in (f.0, set_else hs k (i % size) none (λ e. apart p.tail i ne a (omega arith) (sym (e ∙ is))) ∙ f.1);
  }

  slots_with_item : (p : RingState) (hs : List (Maybe (Option E))) → Counts p → Slots p hs → p.tail < p.head + size → (k : ℕ) → k ≡ p.tail % size → (e : E) → index e ≡ p.tail → of e ≡ owner → (new : ℕ) → new ≡ p.tail + 1
      → Slots (record p { putting = false; tail = new }) (set hs k (some (Some e)))
  slots_with_item p hs c s some_room k is e at_index its new next = let order = c.order in record {
    count = length-set hs k (some (Some e)) ∙ s.count;
    full = λ i a b n. dite (ℕ_discrete i p.tail)
        (λ here. (
          e,
          ap (λ (j : ℕ). get_elem? (set hs j (some (Some e))) (i % size)) (is ∙ ap (λ (j : ℕ). j % size) (sym here)) ∙ set_here hs (i % size) (some (Some e)) (subst (λ (z : ℕ). i % size < z) (sym s.count) (mod-lt i c.some_size)),
          at_index ∙ sym here,
          its,
        ))
        (λ ne. let f = s.full i a (omega arith) n in (f.0, set_else hs k (i % size) (some (Some e)) (λ q. apart i p.tail ne (omega arith) (omega arith) (q ∙ is)) ∙ f.1, f.2, f.3));
    free = λ i a b n. let ne : p.tail ≢ i = λ h. absurd (omega arith) in let f = s.free i (omega arith) b (λ t. ne (sym t.1)) in (f.0, set_else hs k (i % size) (some (Some e)) (λ q. apart p.tail i ne (omega arith) (omega arith) (sym (q ∙ is))) ∙ f.1);
  }

  slots_without_item : (p : RingState) (hs : List (Maybe (Option E))) → Counts p → Slots p hs → p.taking ≡ false → p.head < p.tail → (k : ℕ) → k ≡ p.head % size → Slots (record p { taking = true }) (set hs k none)
  slots_without_item p hs c s idle some_item k is = let room = c.room in let still : p.taking ≡ true → ⊥ = λ t. true≢false (sym t ∙ idle) in record {
    count = length-set hs k none ∙ s.count;
    full = λ i a b n. let f = s.full i a b (λ t. still t.0) in let ne : p.head ≢ i = λ h. n (refl, sym h) in (f.0, set_else hs k (i % size) none (λ q. apart p.head i ne a (omega arith) (sym (q ∙ is))) ∙ f.1, f.2, f.3);
    free = λ i a b n. let f = s.free i a b n in (f.0, set_else hs k (i % size) none (λ q. apart p.head i (λ h. absurd (omega arith)) (omega arith) (omega arith) (sym (q ∙ is))) ∙ f.1);
  }

  slots_with_free : (p : RingState) (hs : List (Maybe (Option E))) → Counts p → Slots p hs → p.head < p.tail → (k : ℕ) → k ≡ p.head % size → (new : ℕ) → new ≡ p.head + 1 → Slots (record p { taking = false; head = new }) (set hs k (some None))
  slots_with_free p hs c s some_item k is new next = let room = c.room in record {
    count = length-set hs k (some None) ∙ s.count;
    full = λ i a b n. let f = s.full i (omega arith) b (λ t. let e = t.1 in absurd (omega arith)) in (f.0, set_else hs k (i % size) (some None) (λ q. apart p.head i (λ h. absurd (omega arith)) (omega arith) (omega arith) (sym (q ∙ is))) ∙ f.1, f.2, f.3);
    free = λ i a b n. dite (ℕ_discrete i (p.head + size))
        (λ here. (
          None,
          ap (λ (j : ℕ). get_elem? (set hs j (some None)) (i % size)) (is ∙ (wraps p.head ∙ ap (λ (j : ℕ). j % size) (sym here))) ∙ set_here hs (i % size) (some None) (subst (λ (z : ℕ). i % size < z) (sym s.count) (mod-lt i c.some_size)),
        ))
        (λ ne. let f = s.free i a (omega arith) n in (f.0, set_else hs k (i % size) (some None) (λ q. apart p.head i (λ h. absurd (omega arith)) (omega arith) (omega arith) (sym (q ∙ is))) ∙ f.1));
  }

  -- ---- the producer's steps

  pub looks_head : (slots id : ℕ) (v : SeatView O) (c : List (ℕ × Option E)) → v.pushes ≡ true → v.putting ≡ false → Allows Rule slots id (v, c) 0 (λ n. n) (saw_head (step slots 0 0 0 none) (v, c))
  looks_head slots id v c may idle = allows slots id (v, c) 0 (λ n. n) (saw_head (step slots 0 0 0 none) (v, c)) (λ p hs vs g len at. let all = g.each id v at in let mine = all.0 may in let same = mine.1 in
      let order = g.counts.order in let room = g.counts.room in let rested : p.putting ≡ false = sym mine.2 ∙ idle in
      dite (dec_le (p.head + size) p.tail)
      (λ full. let w : SeatView O = record v { looks = v.looks + 1; misses = v.misses + 1; found = p.head } in (
        w,
        keeps,
        tt,
        only_view p hs vs id w (words_of p.head p.tail) refl g ((λ m. let h = all.0 m in (h.0, h.1, h.2, h.3, h.4, omega arith)), all.1, all.2, all.3),
        (omega arith, (λ l. absurd (omega arith)), (λ _. (omega arith, refl)), mine.5),
      ))
      (λ some_room. let w : SeatView O = record v { putting = true; looks = v.looks + 1; found = p.head } in let x = g.slots.free p.tail (omega arith) (omega arith) (λ t. true≢false (sym t.0 ∙ rested)) in
      let k : v.pushed % slots ≡ p.tail % size = ap (λ (n : ℕ × ℕ). n.0 % n.1) (λ i. (same i, len i)) in let q : RingState = record p { putting = true } in (
        w,
        takes (v.pushed % slots) x.0,
        ap (get_elem? hs) k ∙ x.1,
        record {
          at = q;
          words = refl;
          counts = record { some_size = g.counts.some_size; order = order; room = room; puts = λ _. omega arith; takes = g.counts.takes; inside = g.counts.inside };
          slots = slots_without_free p hs g.counts g.slots rested (omega arith) (v.pushed % slots) k;
          each = all_set (SeatKnows owner q) vs id w ((λ m. let h = all.0 m in (h.0, h.1, refl, h.3, h.4, omega arith)), all.1, all.2, all.3) (λ j u ne e. let h = g.each j u e in ((λ m. absurd (ne ((h.0 m).0 ∙ sym mine.0))), h.1, h.2, h.3));
        },
        (omega arith, (λ _. (x.0, refl)), (λ l. absurd (omega arith)), mine.5),
      )))

  -- what is known of all pushes is said of a ring with no push to come
  not_all : (a : Option ℕ) (p : RingState) (n : ℕ) → p.sealed ≡ false → ForSome a (λ m. (m ≡ p.tail) × (p.sealed ≡ true)) → ForSome a (λ m. (m ≡ n) × (p.sealed ≡ true))
  not_all a p n unsealed f m e = absurd (true≢false (sym (f m e).1 ∙ unsealed))

  -- the item goes into the slot that the producer took, and the tail goes on
  pub puts_in : (slots id : ℕ) (me : Me (Option E) (SeatView O)) (v : SeatView O) (e : E) (c : List (ℕ × Option E)) (new : ℕ) → me ≡ (v, (v.pushed % slots, Some e) ∷ c) → v.pushes ≡ true → v.putting ≡ true → v.sealed ≡ false
      → index e ≡ v.pushed → v.owner ≡ Some (of e) → HasRoom (of e) new → new ≡ v.pushed + 1 → Allows Rule slots id me 8 (λ _. new) (λ _. put (step slots 8 new 0 none) me new)
  puts_in slots id me v e c new is may busy unsealed at_index its inside next = subst (λ (m : Me (Option E) (SeatView O)). Allows Rule slots id m 8 (λ _. new) (λ _. put (step slots 8 new 0 none) m new)) (sym is)
      (allows slots id (v, (v.pushed % slots, Some e) ∷ c) 8 (λ _. new) (λ _. put (step slots 8 new 0 none) (v, (v.pushed % slots, Some e) ∷ c) new) (λ p hs vs g len at. let all = g.each id v at in let mine = all.0 may in let same = mine.1 in
      let order = g.counts.order in let room = g.counts.puts (sym mine.2 ∙ busy) in let still : p.sealed ≡ false = sym mine.3 ∙ unsealed in let owns : of e ≡ owner = same_Some (of e) owner (sym its ∙ mine.4) in
      let w : SeatView O = record v { putting = false; pushed = v.pushed + 1 } in let q : RingState = record p { putting = false; tail = new } in
      let k : v.pushed % slots ≡ p.tail % size = ap (λ (n : ℕ × ℕ). n.0 % n.1) (λ i. (same i, len i)) in (
        w,
        gives,
        tt,
        record {
          at = q;
          words = refl;
          counts = record { some_size = g.counts.some_size; order = omega arith; room = omega arith; puts = λ b. absurd (true≢false (sym b)); takes = λ b. let h = g.counts.takes b in omega arith; inside = subst (λ (o : O). HasRoom o new) owns inside };
          slots = slots_with_item p hs g.counts g.slots room (v.pushed % slots) k e (at_index ∙ same) owns new (omega arith);
          each = all_set (SeatKnows owner q) vs id w ((λ m. let h = all.0 m in (h.0, sym next, refl, h.3, h.4, h.5)), all.1, omega (arith, all.2, same, next), not_all v.all p new still all.3)
              (λ j u ne e'. let h = g.each j u e' in ((λ m. absurd (ne ((h.0 m).0 ∙ sym mine.0))), h.1, omega (arith, h.2, same, next), not_all u.all p new still h.3));
        },
        refl,
      )))

  -- ---- the consumer's steps

  -- what a consumer finds at the tail
  bounds : (p : RingState) (hs : List (Maybe (Option E))) (vs : List (SeatView O)) (id : ℕ) (v : SeatView O) → Here p hs vs → get_elem? vs id ≡ some v → v.pops ≡ true → Bounds HasRoom v p.tail
  bounds p hs vs id v g at may = let all = g.each id v at in let mine = all.1 may in let same = mine.1 in let order = g.counts.order in
      (omega arith, all.2, (λ n e. (all.3 n e).0), λ o e. subst (λ (x : O). HasRoom x p.tail) (same_Some owner o (sym mine.3 ∙ e)) g.counts.inside)

  -- and what its view is then
  knows_looked : (p : RingState) (id : ℕ) (v : SeatView O) → SeatKnows owner p id v → SeatKnows owner p id (view_after_look v p.tail)
  knows_looked p id v f = (f.0, f.1, omega arith, f.3)

  pub looks_tail : (slots id : ℕ) (v : SeatView O) (c : List (ℕ × Option E)) → v.pops ≡ true → Allows Rule slots id (v, c) 8 (λ n. n) (saw_tail HasRoom (step slots 8 0 0 none) (v, c))
  looks_tail slots id v c may = allows slots id (v, c) 8 (λ n. n) (saw_tail HasRoom (step slots 8 0 0 none) (v, c)) (λ p hs vs g len at. let all = g.each id v at in
      dite (dec_le p.tail v.popped)
      (λ empty. let w : SeatView O = view_after_miss v p.tail in (w, keeps, tt, only_view p hs vs id w (words_of p.head p.tail) refl g (knows_looked p id v all), (bounds p hs vs id v g at may, (λ l. absurd (omega arith)), λ _. refl)))
      (λ some_item. let w : SeatView O = view_after_look v p.tail in (w, keeps, tt, only_view p hs vs id w (words_of p.head p.tail) refl g (knows_looked p id v all), (bounds p hs vs id v g at may, (λ _. refl), λ l. absurd (omega arith)))))

  pub hears : (slots id : ℕ) (v : SeatView O) (c : List (ℕ × Option E)) → v.pops ≡ true → Allows Rule slots id (v, c) 8 (λ n. n) (heard HasRoom (step slots 8 0 0 none) (v, c))
  hears slots id v c may = allows slots id (v, c) 8 (λ n. n) (heard HasRoom (step slots 8 0 0 none) (v, c)) (λ p hs vs g len at. let w : SeatView O = record v { looks = v.looks + 1 } in
      (w, keeps, tt, only_view p hs vs id w (words_of p.head p.tail) refl g (g.each id v at), (bounds p hs vs id v g at may, refl)))

  pub reaches : (slots id : ℕ) (v : SeatView O) (c : List (ℕ × Option E)) → v.pops ≡ true → v.taking ≡ false → Allows Rule slots id (v, c) 8 (λ n. n) (reached HasRoom index of (step slots 8 0 0 none) (v, c))
  reaches slots id v c may idle = allows slots id (v, c) 8 (λ n. n) (reached HasRoom index of (step slots 8 0 0 none) (v, c)) (λ p hs vs g len at. let all = g.each id v at in let mine = all.1 may in let same = mine.1 in
      let order = g.counts.order in let room = g.counts.room in let rested : p.taking ≡ false = sym mine.2 ∙ idle in
      dite (dec_le p.tail v.popped)
      (λ empty. let w : SeatView O = view_after_miss v p.tail in (w, keeps, tt, only_view p hs vs id w (words_of p.head p.tail) refl g (knows_looked p id v all), (bounds p hs vs id v g at may, (λ l. absurd (omega arith)), λ _. refl)))
      (λ some_item. let w : SeatView O = record (view_after_look v p.tail) { taking = true } in let x = g.slots.full p.head (omega arith) (omega arith) (λ t. true≢false (sym t.0 ∙ rested)) in
      let k : v.popped % slots ≡ p.head % size = ap (λ (n : ℕ × ℕ). n.0 % n.1) (λ i. (same i, len i)) in let q : RingState = record p { taking = true } in (
        w,
        takes (v.popped % slots) (Some x.0),
        ap (get_elem? hs) k ∙ x.1,
        record {
          at = q;
          words = refl;
          counts = record { some_size = g.counts.some_size; order = order; room = room; puts = g.counts.puts; takes = λ _. omega arith; inside = g.counts.inside };
          slots = slots_without_item p hs g.counts g.slots rested (omega arith) (v.popped % slots) k;
          each = all_set (SeatKnows owner q) vs id w (all.0, (λ m. let h = all.1 m in (h.0, h.1, refl, h.3)), omega arith, all.3) (λ j u ne e. let h = g.each j u e in (h.0, (λ m. absurd (ne ((h.1 m).0 ∙ sym mine.0))), h.2, h.3));
        },
        (bounds p hs vs id v g at may, (λ _. (x.0, refl, x.2 ∙ sym same, mine.3 ∙ ap Some (sym x.3))), λ l. absurd (omega arith)),
      )))

  -- the empty slot goes back, and the head goes on
  pub takes_out : (slots id : ℕ) (me : Me (Option E) (SeatView O)) (v : SeatView O) (c : List (ℕ × Option E)) (new : ℕ) → me ≡ (v, (v.popped % slots, None) ∷ c) → v.pops ≡ true → v.taking ≡ true → new ≡ v.popped + 1
      → Allows Rule slots id me 0 (λ _. new) (λ _. took (step slots 0 new 0 none) me new)
  takes_out slots id me v c new is may busy next = subst (λ (m : Me (Option E) (SeatView O)). Allows Rule slots id m 0 (λ _. new) (λ _. took (step slots 0 new 0 none) m new)) (sym is)
      (allows slots id (v, (v.popped % slots, None) ∷ c) 0 (λ _. new) (λ _. took (step slots 0 new 0 none) (v, (v.popped % slots, None) ∷ c) new) (λ p hs vs g len at. let all = g.each id v at in let mine = all.1 may in let same = mine.1 in
      let room = g.counts.room in let some_item = g.counts.takes (sym mine.2 ∙ busy) in
      let w : SeatView O = record v { taking = false; popped = v.popped + 1 } in let q : RingState = record p { taking = false; head = new } in
      let k : v.popped % slots ≡ p.head % size = ap (λ (n : ℕ × ℕ). n.0 % n.1) (λ i. (same i, len i)) in (
        w,
        gives,
        tt,
        record {
          at = q;
          words = refl;
          counts = record { some_size = g.counts.some_size; order = omega arith; room = omega arith; puts = λ b. let h = g.counts.puts b in omega arith; takes = λ b. absurd (true≢false (sym b)); inside = g.counts.inside };
          slots = slots_with_free p hs g.counts g.slots some_item (v.popped % slots) k new (omega arith);
          each = all_set (SeatKnows owner q) vs id w ((λ m. let h = all.0 m in let less = h.5 in (h.0, h.1, h.2, h.3, h.4, omega arith)), (λ m. let h = all.1 m in (h.0, sym next, refl, h.3)), all.2, all.3) (λ j u ne e. let h = g.each j u e in ((λ m. let k = h.0 m in let less = k.5 in (k.0, k.1, k.2, k.3, k.4, omega arith)), (λ m. absurd (ne ((h.1 m).0 ∙ sym mine.0))), h.2, h.3));
        },
        refl,
      )))

  -- ---- seats

  pub splits : (id : ℕ) (v : SeatView O) → v.pushes ≡ true → v.pops ≡ true → Splits Rule id v (producer_of v) (consumer_of v)
  splits id v a b s r at = let l : SeatView O = producer_of v in let o : SeatView O = consumer_of v in let mine = r.each id v at in let vs : List (SeatView O) = set s.views id l in
      let q : RingState = record r.at { reader = length vs } in
      let F : ℕ → SeatView O → Type 0 = λ j u. SeatKnows owner q j u × (u.pops ≢ true) in
      let old : (j : ℕ) (u : SeatView O) → get_elem? vs j ≡ some u → F j u = all_set F s.views id l ((mine.0, (λ p. absurd (true≢false (sym p))), mine.2, mine.3), λ p. true≢false (sym p))
      (λ j u ne e. let h = r.each j u e in let no : u.pops ≢ true = λ p. ne ((h.1 p).0 ∙ sym (mine.1 b).0) in ((h.0, (λ p. absurd (no p)), h.2, h.3), no)) in record {
        at = q;
        words = r.words;
        counts = record { some_size = r.counts.some_size; order = r.counts.order; room = r.counts.room; puts = r.counts.puts; takes = r.counts.takes; inside = r.counts.inside };
        slots = record { count = r.slots.count; full = r.slots.full; free = r.slots.free };
        each = λ j u e. ⊎_elim (λ x. (old j u x).0)
            (λ (is : o ≡ u). let t = subst (λ (y : SeatView O). (y.popped ≡ q.head) × (y.taking ≡ q.taking) × (y.owner ≡ Some owner)) is ((mine.1 b).1, (mine.1 b).2, (mine.1 b).3) in (
              (λ p. absurd (true≢false (sym (ap (λ (y : SeatView O). y.pushes) is ∙ p)))),
              (λ p. (at_end vs o u j (λ x. (old j u x).1 p) e, t.0, t.1, t.2)),
              subst (λ (y : SeatView O). y.known ≤ q.tail) is mine.2,
              subst (λ (y : SeatView O). ForSome y.all (λ n. (n ≡ q.tail) × (q.sealed ≡ true))) is mine.3,
            ))
            (at_snoc vs o u j e);
      }

  -- the seat of no end knows this where it is so
  knows_idle : (p : RingState) (j n : ℕ) (a : Option ℕ) → n ≤ p.tail → ForSome a (λ m. (m ≡ p.tail) × (p.sealed ≡ true)) → SeatKnows owner p j (idle_view n a)
  knows_idle p j n a le f = ((λ p. absurd (true≢false (sym p))), (λ p. absurd (true≢false (sym p))), le, f)

  pub notes : (id : ℕ) (v : SeatView O) → v.pushes ≡ true → Splits Rule id v v (note_view v)
  notes id v may s r at = let o : SeatView O = note_view v in let mine = r.each id v at in record {
    at = r.at;
    words = r.words;
    counts = r.counts;
    slots = r.slots;
    each = λ j u e. ⊎_elim (all_set (SeatKnows owner r.at) s.views id v mine (λ j u _ e. r.each j u e) j u)
        (λ (is : o ≡ u). subst (SeatKnows owner r.at j) is (let same = (mine.0 may).1 in knows_idle r.at j v.pushed None (omega arith) (λ m e. absurd (cc)))) (at_snoc (set s.views id v) o u j e);
  }

  pub last_notes : (id : ℕ) (v : SeatView O) → v.pushes ≡ true → Splits Rule id v (sealed_of v) (last_note_view v)
  last_notes id v may s r at = let l : SeatView O = sealed_of v in let o : SeatView O = last_note_view v in let mine = r.each id v at in let same = (mine.0 may).1 in
      let q : RingState = record r.at { sealed = true } in record {
        at = q;
        words = r.words;
        counts = record { some_size = r.counts.some_size; order = r.counts.order; room = r.counts.room; puts = r.counts.puts; takes = r.counts.takes; inside = r.counts.inside };
        slots = record { count = r.slots.count; full = r.slots.full; free = r.slots.free };
        each = λ j u e. ⊎_elim
            (all_set (SeatKnows owner q) s.views id l ((λ m. let h = mine.0 m in (h.0, h.1, h.2, refl, h.4, h.5)), mine.1, mine.2, λ n e. ((mine.3 n e).0, refl))
            (λ j u ne e. let h = r.each j u e in ((λ m. absurd (ne ((h.0 m).0 ∙ sym (mine.0 may).0))), h.1, h.2, λ n e. ((h.3 n e).0, refl))) j u)
            (λ (is : o ≡ u). subst (SeatKnows owner q j) is (knows_idle q j v.pushed (Some v.pushed) (omega arith) (λ m e. (sym (same_Some v.pushed m e) ∙ same, refl)))) (at_snoc (set s.views id l) o u j e);
      }

  least : (a b c : ℕ) → a ≤ c → b ≤ c → max a b ≤ c
  least a b c p q = omega arith

  both_told : (P : ℕ → Type 0) (a b : Option ℕ) → ForSome a P → ForSome b P → ForSome (first_told a b) P
  both_told P (Some n) b f g = f
  both_told P None b f g = g

  pub learns : (id : ℕ) (v : SeatView O) (other : ℕ) (u : SeatView O) → Joins Rule id v other u (view_after_learn v u) spent
  learns id v other u s r at apart at' = let w : SeatView O = view_after_learn v u in let mine = r.each id v at in
      let was : get_elem? s.views other ≡ some u = ⊎_elim (λ x. absurd (apart x.0)) (λ x. x.1) (at_set s.views id other w u at') in let theirs = r.each other u was in
      let now = all_set (SeatKnows owner r.at) s.views id w (mine.0, mine.1, least v.known u.known r.at.tail mine.2 theirs.2, both_told (λ m. (m ≡ r.at.tail) × (r.at.sealed ≡ true)) u.all v.all theirs.3 mine.3) (λ j y _ e. r.each j y e) in record {
        at = r.at;
        words = r.words;
        counts = r.counts;
        slots = r.slots;
        each = all_set (SeatKnows owner r.at) (set s.views id w) other spent (knows_idle r.at other 0 None (omega arith) (λ m e. absurd (cc))) (λ j y _ e. now j y e);
      }

  -- ---- the start

  abbrev nones : ℕ → List (Option E)
  nones n = replicate n None

  all_at_home : (n i : ℕ) → i < n → get_elem? (map some (nones n)) i ≡ some (some None)
  all_at_home zero i l = absurd (omega arith)
  all_at_home (suc n) zero l = refl
  all_at_home (suc n) (suc i) l = all_at_home n i (omega arith)

  that_many : (n : ℕ) → length (map some (nones n)) ≡ n
  that_many zero = refl
  that_many (suc n) = ap suc (that_many n)

  pub opens : 0 < size → HasRoom owner 0 → Rule (opening (words_of 0 0) (replicate size None) (opening_view owner))
  opens some_size inside = let p : RingState = record { head = 0; tail = 0; writer = 0; reader = 0; putting = false; taking = false; sealed = false } in record {
    at = p;
    words = refl;
    counts = record { some_size = some_size; order = omega arith; room = omega arith; puts = λ b. absurd (true≢false (sym b)); takes = λ b. absurd (true≢false (sym b)); inside = inside };
    slots = record { count = that_many size; full = λ i a b _. absurd (omega arith); free = λ i a b _. (None, all_at_home size (i % size) (mod-lt i some_size)) };
    each = λ j u e. let o = only_one (opening_view owner) j u e in subst (SeatKnows owner p j) o.1 ((λ _. (o.0, refl, refl, refl, refl, omega arith)), (λ _. (o.0, refl, refl, refl)), omega arith, λ m e. absurd (cc));
  }

pub carried : {X : Type 0} (l c : List (ℕ × X)) (k k' : ℕ) (x : X) → l ≡ (k, x) ∷ c → k ≡ k' → l ≡ (k', x) ∷ rest l
carried l c k k' x e f = e ∙ (λ i. (f i, x) ∷ sym (ap rest e) i)

pub carries : {X V : Type 0} (m : V × List (ℕ × X)) (v : V) (c : List (ℕ × X)) (k k' : ℕ) (x : X) → m ≡ (v, (k, x) ∷ c) → k ≡ k' → m ≡ (v, (k', x) ∷ c)
carries m v c k k' x e f = e ∙ (λ i. (v, (f i, x) ∷ c))

pub same_place : (a b n m : ℕ) → a ≡ b → n ≡ m → a % n ≡ b % m
same_place a b n m p q = λ i. p i % q i
