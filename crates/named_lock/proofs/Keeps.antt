-- Each step keeps the rule.
use Rattle.std.proofs.Common.{◌≡◌, ◌≢◌, ℕ, zero, suc, ◌+◌, ◌<◌, ◌≤◌, eqb, Bool, true, false, true≢false, ◌||◌, List, [], ◌∷◌, ◌++◌, length, set, get_or, sym, refl, ap, ◌∙◌, subst, inl, inr, ⊎_elim, ◌⊎◌, arith}
use Rattle.std.specs.Prelude.{Option, Some, None}
use Rattle.std.proofs.lemmas.Bool.{or_cases, or_left, or_right}
use Rattle.named_lock.specs.declared.seat.LockSeat.{LockSeat}
use Rattle.named_lock.specs.declared.sign.Sign.TheVariants.{Done, Stopped}
use Rattle.named_lock.specs.declared.lock.NamedLock.{NamedLock}
use Rattle.named_lock.specs.Seats.{any_saw_done, is_done, is_stopped, IsNewSeatOf, view_after_sign, lock_id, lock_name, Sits}
use mathlib.Core.Logic.{dite}
use mathlib.Core.Option.{Option as Maybe, none, some, some-ne-none, some-injective}
use native.Mathlib.Decide.{ℕ_discrete}
use lib.ListN.{get_elem?}
use prog.Atomic.{either}
use Rattle.atomic_table.specs.Table.{State, Me, Act, step, keeps, takes, gives, homes_after, carried_after, Valid, Allows, Splits, Joins, opening}
use Rattle.swan_model.proofs.Tables.{all_set, only_one}
use Rattle.atomic_table.proofs.Lists.{at_set, at_snoc, at_longer, set_here, set_else, exchanged}
use Rattle.atomic_table.specs.declared.shared.Seat.{Seat}
use Rattle.named_lock.specs.declared.rule.View.{View}
use Rattle.named_lock.specs.Rule.{lock_words, sign_of, sign_after_stop, seated, spent, rest_of, one_of, view_after_join, total, IsTrueView, IsLock, IsRuled, took, closed, gave, finished, stopped, looked}

-- the sign of a word
done_is : (k : ℕ) → is_done (sign_of k) ≡ true → k ≡ 1
done_is zero e = absurd (true≢false (sym e))
done_is (suc zero) e = refl
done_is (suc (suc k)) e = absurd (true≢false (sym e))

stopped_is : (k : ℕ) → k ≤ 2 → is_stopped (sign_of k) ≡ true → k ≡ 2
stopped_is zero m e = absurd (true≢false (sym e))
stopped_is (suc zero) m e = absurd (true≢false (sym e))
stopped_is (suc (suc k)) m e = omega arith

stopped_as : (k : ℕ) → k ≢ 0 → sign_after_stop k ≡ sign_of k
stopped_as zero e = absurd (e refl)
stopped_as (suc k) e = refl

module _ {N : Type 0} where
  abbrev All : (ℕ → View N → Type 0) → List (View N) → Type 0
  All F views = (j : ℕ) (v : View N) → get_elem? views j ≡ some v → F j v

  total_set : (l : List (View N)) (i : ℕ) (v w : View N) → get_elem? l i ≡ some v → total (set l i w) + v.parts ≡ total l + w.parts
  total_set [] i v w e = absurd (some-ne-none v (sym e))
  total_set (x ∷ xs) zero v w e = let p : x.parts ≡ v.parts = ap (λ (y : View N). y.parts) (some-injective x v e) in omega arith
  total_set (x ∷ xs) (suc i) v w e = let h = total_set xs i v w e in omega arith

  total_snoc : (l : List (View N)) (w : View N) → total (l ++ w ∷ []) ≡ total l + w.parts
  total_snoc [] w = omega arith
  total_snoc (x ∷ xs) w = let h = total_snoc xs w in omega arith

  total_one : (l : List (View N)) (i : ℕ) (v : View N) → get_elem? l i ≡ some v → v.parts ≤ total l
  total_one [] i v e = absurd (some-ne-none v (sym e))
  total_one (x ∷ xs) zero v e = let p : x.parts ≡ v.parts = ap (λ (y : View N). y.parts) (some-injective x v e) in omega arith
  total_one (x ∷ xs) (suc i) v e = let h = total_one xs i v e in omega arith

  total_two : (l : List (View N)) (i j : ℕ) (v u : View N) → i ≢ j → get_elem? l i ≡ some v → get_elem? l j ≡ some u → v.parts + u.parts ≤ total l
  total_two [] i j v u n e f = absurd (some-ne-none v (sym e))
  total_two (x ∷ xs) zero zero v u n e f = absurd (n refl)
  total_two (x ∷ xs) zero (suc j) v u n e f = let p : x.parts ≡ v.parts = ap (λ (y : View N). y.parts) (some-injective x v e) in let h = total_one xs j u f in omega arith
  total_two (x ∷ xs) (suc i) zero v u n e f = let p : x.parts ≡ u.parts = ap (λ (y : View N). y.parts) (some-injective x u f) in let h = total_one xs i v e in omega arith
  total_two (x ∷ xs) (suc i) (suc j) v u n e f = let h = total_two xs i j v u (λ q. n (ap suc q)) e f in omega arith

  inside : (l : List (View N)) (i : ℕ) (a : View N) → get_elem? l i ≡ some a → i < length l
  inside [] i a e = absurd (some-ne-none a (sym e))
  inside (x ∷ xs) zero a e = omega arith
  inside (x ∷ xs) (suc i) a e = let h = inside xs i a e in omega arith

  -- the holder goes on holding where another seat's view changes, or its own does and holds
  still : (views : List (View N)) (holder id : ℕ) (v w : View N) → get_elem? views id ≡ some v → (v.holding ≡ true → w.holding ≡ true)
      → (u : View N) × (get_elem? views holder ≡ some u) × (u.holding ≡ true) → (u : View N) × (get_elem? (set views id w) holder ≡ some u) × (u.holding ≡ true)
  still views holder id v w at goes h = dite (ℕ_discrete holder id)
      (λ e. let same : v ≡ h.0 = some-injective v h.0 (sym at ∙ (sym (ap (get_elem? views) e) ∙ h.1)) in
      (w, ap (get_elem? (set views id w)) e ∙ set_here views id w (inside views id v at), goes (ap (λ (y : View N). y.holding) same ∙ h.2)))
      (λ ne. (h.0, set_else views id holder w ne ∙ h.1, h.2))

module _ {S N : Type 0} where
  -- what `Allows` asks, at a table of two words and one slot
  abbrev Can : (State (Option S) (View N) → Type 0) → ℕ → Me (Option S) (View N) → ℕ → (ℕ → ℕ) → (ℕ → Me (Option S) (View N) → Type 0) → List ℕ → List (Maybe (Option S)) → List (View N) → Type 0
  Can holds id me i f then ws hs vs = (w : View N) × (a : Act (Option S)) × Valid hs me.1 a
      × holds record { words = set ws i (f (get_or ws i 0)); homes = homes_after hs me.1 a; views = set vs id w } × then (get_or ws i 0) (w, carried_after me.1 a)

module _ {S N : Type 0} (name : S → N) (done : S → Bool) (n : N) (seats : ℕ) where
  abbrev Rule : State (Option S) (View N) → Type 0
  Rule = IsRuled name done n seats

  abbrev G : ℕ → ℕ → Maybe (Option S) → List (View N) → Type 0
  G = IsLock name done n seats

  allows : (slots id : ℕ) (me : Me (Option S) (View N)) (i : ℕ) (f : ℕ → ℕ) (then : ℕ → Me (Option S) (View N) → Type 0)
      → ((word sign : ℕ) (home : Maybe (Option S)) (vs : List (View N)) → G word sign home vs → get_elem? vs id ≡ some me.0 → Can Rule id me i f then (lock_words word sign) (home ∷ []) vs)
      → Allows Rule slots id me i f then
  allows slots id me i f then go s r _ at _ = subst (λ (ws : List ℕ). Can Rule id me i f then ws s.homes s.views) (sym r.3)
      (subst (λ (hs : List (Maybe (Option S))). Can Rule id me i f then (lock_words r.0 r.1) hs s.views) (sym r.4) (go r.0 r.1 r.2 s.views r.5 at))

  -- the seats other than id know what they knew
  others : (word sign word' sign' id holder : ℕ) (views : List (View N)) → (word ≢ 0 → word' ≢ 0) → (sign ≡ 1 → sign' ≡ 1) → (sign ≡ 2 → sign' ≡ 2) → ((u : View N) (j : ℕ) → j ≢ id → get_elem? views j ≡ some u → u.holding ≡ true → sign' ≡ 1 → sign ≡ 1)
      → ((j : ℕ) (u : View N) → get_elem? views j ≡ some u → IsTrueView word sign n holder j u) → (j : ℕ) (u : View N) → j ≢ id → get_elem? views j ≡ some u → IsTrueView word' sign' n holder j u
  others word sign word' sign' id holder views more stays ends back fits j u ne at = let f = fits j u at in
      (f.0, (λ h. let g = f.1 h in (g.0, g.1, more g.2, λ e. g.3 (back u j ne at h e))), (λ s. stays (f.2 s)), λ s. ends (f.3 s))

  takes_free : (id : ℕ) (v : View N) (c : List (ℕ × Option S)) (sign : ℕ) (home : Maybe (Option S)) (vs : List (View N)) → 0 < v.parts → G 0 sign home vs → get_elem? vs id ≡ some v
      → (w : View N) × (a : Act (Option S)) × Valid (home ∷ []) c a × Rule record { words = lock_words 1 sign; homes = homes_after (home ∷ []) c a; views = set vs id w } × took name done (step 1 8 0 1 none) (v, c) 0 (w, carried_after c a)
  takes_free id v c sign home vs part g at = let free = g.free refl in let x : S = free.0 in let mine = g.each id v at in
      let w : View N = record v { holding = true; owes_done = done x; holds = v.holds + 1 } in (
        w,
        takes 0 (Some x),
        ap some free.1,
        (
          1,
          sign,
          none,
          refl,
          refl,
          record {
            holder = id;
            small = g.small;
            sum = let t = total_set vs id v w at in let s = g.sum in omega arith;
            free = λ z. absurd (omega arith);
            taken = λ _. (w, set_here vs id w (omega (arith, inside vs id v at)), refl);
            each = all_set (IsTrueView 1 sign n id) vs id w (mine.0, (λ _. (refl, part, (λ z. omega arith), free.3)), mine.2, mine.3)
                (λ j u ne e. let f = g.each j u e in (f.0, (λ h. absurd ((f.1 h).2 refl)), f.2, f.3));
          },
        ),
        ((λ _. (x, refl, mine.0 part ∙ ap Some (sym free.2), λ s. free.3 (mine.2 s))), λ z. absurd (z refl)),
      )

  loses : (id : ℕ) (v : View N) (c : List (ℕ × Option S)) (word sign : ℕ) (home : Maybe (Option S)) (vs : List (View N)) → word ≢ 0 → v.holding ≡ false → G word sign home vs → get_elem? vs id ≡ some v
      → (w : View N) × (a : Act (Option S)) × Valid (home ∷ []) c a × Rule record { words = lock_words word sign; homes = homes_after (home ∷ []) c a; views = set vs id w } × took name done (step 1 8 0 1 none) (v, c) word (w, carried_after c a)
  loses id v c word sign home vs busy idle g at = let mine = g.each id v at in let w : View N = record v { lost = v.lost + 1 } in (
    w,
    keeps,
    tt,
    (
      word,
      sign,
      home,
      refl,
      refl,
      record {
        holder = g.holder;
        small = g.small;
        sum = let t = total_set vs id v w at in let s = g.sum in omega arith;
        free = g.free;
        taken = λ z. still vs g.holder id v w at (λ h. h) (g.taken z);
        each = all_set (IsTrueView word sign n g.holder) vs id w (mine.0, mine.1, mine.2, mine.3) (λ j u _ e. g.each j u e);
      },
    ),
    ((λ z. absurd (busy z)), λ _. refl),
  )

  pub takes_word : (slots id : ℕ) (v : View N) (c : List (ℕ × Option S)) → v.holding ≡ false → 0 < v.parts → Allows Rule slots id (v, c) 8 (λ k. either (eqb k 0) 1 k) (took name done (step slots 8 0 1 none) (v, c))
  takes_word slots id v c idle part = allows slots id (v, c) 8 _ (took name done (step slots 8 0 1 none) (v, c)) (λ word sign home vs g at.
      exchanged word 0 1 (λ x. (w : View N) × (a : Act (Option S)) × Valid (home ∷ []) c a × Rule record { words = lock_words x sign; homes = homes_after (home ∷ []) c a; views = set vs id w } × took name done (step slots 8 0 1 none) (v, c) word (w, carried_after c a))
      (λ z. subst (λ (q : ℕ). (w : View N) × (a : Act (Option S)) × Valid (home ∷ []) c a × Rule record { words = lock_words 1 sign; homes = homes_after (home ∷ []) c a; views = set vs id w } × took name done (step slots 8 0 1 none) (v, c) q (w, carried_after c a)) (sym z)
      (takes_free id v c sign home vs part (subst (λ (q : ℕ). G q sign home vs) z g) at))
      (λ busy. loses id v c word sign home vs busy idle g at))

  -- the seat with every part finds the state in its slot
  pub closes : (slots id : ℕ) (v : View N) (c : List (ℕ × Option S)) → v.holding ≡ false → 0 < v.parts → v.parts ≡ seats → Allows Rule slots id (v, c) 8 (λ k. either (eqb k 0) 1 k) (closed name done (step slots 8 0 1 none) (v, c))
  closes slots id v c idle part every = allows slots id (v, c) 8 _ (closed name done (step slots 8 0 1 none) (v, c)) (λ word sign home vs g at.
      exchanged word 0 1 (λ x. (w : View N) × (a : Act (Option S)) × Valid (home ∷ []) c a × Rule record { words = lock_words x sign; homes = homes_after (home ∷ []) c a; views = set vs id w } × closed name done (step slots 8 0 1 none) (v, c) word (w, carried_after c a))
      (λ z. subst (λ (q : ℕ). (w : View N) × (a : Act (Option S)) × Valid (home ∷ []) c a × Rule record { words = lock_words 1 sign; homes = homes_after (home ∷ []) c a; views = set vs id w } × closed name done (step slots 8 0 1 none) (v, c) q (w, carried_after c a)) (sym z)
      (let t = takes_free id v c sign home vs part (subst (λ (q : ℕ). G q sign home vs) z g) at in (t.0, t.1, t.2, t.3, (refl, t.4))))
      (λ busy. let h = g.taken busy in let theirs = (g.each g.holder h.0 h.1).1 h.2 in let s = g.sum in
      absurd (dite (ℕ_discrete id g.holder)
      (λ e. true≢false (sym h.2 ∙ (ap (λ (y : View N). y.holding) (some-injective h.0 v (sym h.1 ∙ (sym (ap (get_elem? vs) e) ∙ at))) ∙ idle)))
      (λ ne. let t = total_two vs id g.holder v h.0 ne at h.1 in let p = theirs.1 in omega arith))))

  abbrev name_of : N → Option N → N
  name_of d (Some k) = k
  name_of d None = d

  pub gives_back : (slots id : ℕ) (v : View N) (x : S) (c : List (ℕ × Option S)) → v.holding ≡ true → v.name ≡ Some (name x) → (v.owes_done ≡ true → done x ≡ true)
      → Allows Rule slots id (v, (0, Some x) ∷ c) 8 (λ _. 0) (λ _. gave (step slots 8 0 0 none) (v, (0, Some x) ∷ c) 0)
  gives_back slots id v x c holds named owes = allows slots id (v, (0, Some x) ∷ c) 8 _ (λ _. gave (step slots 8 0 0 none) (v, (0, Some x) ∷ c) 0) (λ word sign home vs g at. let mine = g.each id v at in let h = mine.1 holds in
      let w : View N = record v { holding = false; owes_done = false } in (
        w,
        gives,
        tt,
        (
          0,
          sign,
          some (Some x),
          refl,
          refl,
          record {
            holder = g.holder;
            small = g.small;
            sum = let t = total_set vs id v w at in let s = g.sum in omega arith;
            free = λ _. (x, refl, ap (name_of n) (sym named ∙ mine.0 h.1), λ e. owes (h.3 e));
            taken = λ z. absurd (z refl);
            each = all_set (IsTrueView 0 sign n g.holder) vs id w (mine.0, (λ z. absurd (true≢false (sym z))), mine.2, mine.3)
                (λ j u ne e. let f = g.each j u e in (f.0, (λ z. absurd (ne ((f.1 z).0 ∙ sym h.0))), f.2, f.3));
          },
        ),
        refl,
      ))

  pub gives_from : (slots id : ℕ) (me : Me (Option S) (View N)) (v : View N) (x : S) (c : List (ℕ × Option S)) → me ≡ (v, (0, Some x) ∷ c) → v.holding ≡ true → v.name ≡ Some n → name x ≡ n → (v.owes_done ≡ true → done x ≡ true)
      → Allows Rule slots id me 8 (λ _. 0) (λ _. gave (step slots 8 0 0 none) me 0)
  gives_from slots id me v x c is holds named same owes = subst (λ (m : Me (Option S) (View N)). Allows Rule slots id m 8 (λ _. 0) (λ _. gave (step slots 8 0 0 none) m 0)) (sym is)
      (gives_back slots id v x c holds (named ∙ ap Some (sym same)) owes)

  -- a step on the sign alone, after which it is sign'
  signs : (id word sign sign' : ℕ) (v w : View N) (home : Maybe (Option S)) (vs : List (View N)) → G word sign home vs → get_elem? vs id ≡ some v → sign' ≤ 2 → (sign ≡ 1 → sign' ≡ 1) → (sign ≡ 2 → sign' ≡ 2) → (sign' ≡ 1 → (sign ≡ 1) ⊎ (v.holding ≡ true))
      → w.parts ≡ v.parts → w.name ≡ v.name → w.holding ≡ v.holding → (w.holding ≡ true → sign' ≡ 1 → w.owes_done ≡ true) → (w.saw_done ≡ true → sign' ≡ 1) → (w.saw_stopped ≡ true → sign' ≡ 2)
      → Rule record { words = lock_words word sign'; homes = home ∷ []; views = set vs id w }
  signs id word sign sign' v w home vs g at small stays ends back parts named same owes saw met = let mine = g.each id v at in (
    word,
    sign',
    home,
    refl,
    refl,
    record {
      holder = g.holder;
      small = small;
      sum = let t = total_set vs id v w at in let s = g.sum in omega arith;
      free = λ z. let f = g.free z in (f.0, f.1, f.2, λ e. ⊎_elim f.3 (λ h. absurd ((mine.1 h).2 z)) (back e));
      taken = λ z. still vs g.holder id v w at (λ h. same ∙ h) (g.taken z);
      each = all_set (IsTrueView word sign' n g.holder) vs id w ((λ p. named ∙ mine.0 (omega arith)), (λ h. let f = mine.1 (sym same ∙ h) in (f.0, omega (arith, f.1), f.2, owes h)), saw, met)
          (λ j u ne e. let f = g.each j u e in
          (f.0, (λ h. let k = f.1 h in (k.0, k.1, k.2, λ e'. ⊎_elim k.3 (λ m. absurd (ne (k.0 ∙ sym (mine.1 m).0))) (back e'))), (λ z. stays (f.2 z)), λ z. ends (f.3 z)));
    },
  )

  -- a step on the sign, which the seat meets as it leaves it
  meets : (id word sign sign' : ℕ) (v : View N) (w : View N) (home : Maybe (Option S)) (vs : List (View N)) → IsLock name done n seats word sign home vs → get_elem? vs id ≡ some v → sign' ≤ 2 → (sign ≡ 1 → sign' ≡ 1) → (sign ≡ 2 → sign' ≡ 2) → (sign' ≡ 1 → (sign ≡ 1) ⊎ (v.holding ≡ true))
      → w.parts ≡ v.parts → w.name ≡ v.name → w.holding ≡ v.holding → (w.holding ≡ true → sign' ≡ 1 → w.owes_done ≡ true) → w.saw_done ≡ (v.saw_done || is_done (sign_of sign')) → w.saw_stopped ≡ (v.saw_stopped || is_stopped (sign_of sign'))
      → Rule record { words = lock_words word sign'; homes = home ∷ []; views = set vs id w }
  meets id word sign sign' v w home vs g at small stays ends back parts named same owes saw met =
      signs id word sign sign' v w home vs g at small stays ends back parts named same owes
      (λ h. ⊎_elim (λ before. stays ((g.each id v at).2 before)) (done_is sign') (or_cases v.saw_done (is_done (sign_of sign')) (sym saw ∙ h)))
      (λ h. ⊎_elim (λ before. ends ((g.each id v at).3 before)) (stopped_is sign' small) (or_cases v.saw_stopped (is_stopped (sign_of sign')) (sym met ∙ h)))

  pub finishes : (slots id : ℕ) (v : View N) (c : List (ℕ × Option S)) → v.holding ≡ true → Allows Rule slots id (v, c) 16 (λ k. either (eqb k 0) 1 k) (finished (step slots 16 0 1 none) (v, c))
  finishes slots id v c holds = allows slots id (v, c) 16 _ (finished (step slots 16 0 1 none) (v, c)) (λ word sign home vs g at.
      exchanged sign 0 1 (λ x. (w : View N) × (a : Act (Option S)) × Valid (home ∷ []) c a × Rule record { words = lock_words word x; homes = homes_after (home ∷ []) c a; views = set vs id w } × finished (step slots 16 0 1 none) (v, c) sign (w, carried_after c a))
      (λ z. let w : View N = record (view_after_sign v Done) { owes_done = true } in
      (w, keeps, tt, meets id word sign 1 v w home vs g at (omega arith) (λ _. refl) (λ e. absurd (omega arith)) (λ _. inr holds) refl refl refl (λ _ _. refl) refl refl, ((λ _. refl), λ l. absurd (omega arith))))
      (λ nz. dite (ℕ_discrete sign 1)
      (λ one. let w : View N = record (view_after_sign v Done) { owes_done = true } in
      (w, keeps, tt, meets id word sign sign v w home vs g at g.small (λ e. e) (λ e. e) inl refl refl refl (λ _ _. refl) (ap (λ k. v.saw_done || is_done (sign_of k)) (sym one)) (ap (λ k. v.saw_stopped || is_stopped (sign_of k)) (sym one)), ((λ _. refl), λ l. absurd (omega arith))))
      (λ other. let w : View N = record (view_after_sign v Stopped) { owes_done = true } in let m = g.small in let two : sign ≡ 2 = omega arith in
      (w, keeps, tt, meets id word sign sign v w home vs g at m (λ e. e) (λ e. e) inl refl refl refl (λ _ _. refl) (ap (λ k. v.saw_done || is_done (sign_of k)) (sym two)) (ap (λ k. v.saw_stopped || is_stopped (sign_of k)) (sym two)), ((λ l. absurd (omega arith)), λ _. refl)))))

  pub stops : (slots id : ℕ) (v : View N) (c : List (ℕ × Option S)) → Allows Rule slots id (v, c) 16 (λ k. either (eqb k 0) 2 k) (stopped (step slots 16 0 2 none) (v, c))
  stops slots id v c = allows slots id (v, c) 16 _ (stopped (step slots 16 0 2 none) (v, c)) (λ word sign home vs g at. let mine = g.each id v at in let w : View N = record (view_after_sign v (sign_after_stop sign)) { stops = v.stops + 1 } in
      exchanged sign 0 2 (λ x. (w : View N) × (a : Act (Option S)) × Valid (home ∷ []) c a × Rule record { words = lock_words word x; homes = homes_after (home ∷ []) c a; views = set vs id w } × stopped (step slots 16 0 2 none) (v, c) sign (w, carried_after c a))
      (λ z. (w, keeps, tt, meets id word sign 2 v w home vs g at (omega arith) (λ e. absurd (omega arith)) (λ _. refl) (λ e. absurd (omega arith)) refl refl refl (λ _ e. absurd (omega arith)) (ap (λ k. v.saw_done || is_done (sign_after_stop k)) z) (ap (λ k. v.saw_stopped || is_stopped (sign_after_stop k)) z), refl))
      (λ nz. (w, keeps, tt, meets id word sign sign v w home vs g at g.small (λ e. e) (λ e. e) inl refl refl refl (λ h. (mine.1 h).3) (ap (λ k. v.saw_done || is_done k) (stopped_as sign nz)) (ap (λ k. v.saw_stopped || is_stopped k) (stopped_as sign nz)), refl)))

  pub looks : (slots id : ℕ) (v : View N) (c : List (ℕ × Option S)) → Allows Rule slots id (v, c) 16 (λ k. k) (looked (step slots 16 0 0 none) (v, c))
  looks slots id v c = allows slots id (v, c) 16 _ (looked (step slots 16 0 0 none) (v, c)) (λ word sign home vs g at. let mine = g.each id v at in let w : View N = view_after_sign v (sign_of sign) in
      (w, keeps, tt, meets id word sign sign v w home vs g at g.small (λ e. e) (λ e. e) inl refl refl refl (λ h. (mine.1 h).3) refl refl, (g.small, refl, mine.2, mine.3)))

  pub splits : (id : ℕ) (v : View N) → v.holding ≡ false → 0 < v.parts → Splits Rule id v (rest_of v) (one_of v)
  splits id v idle part s r at = let g = r.5 in let l : View N = rest_of v in let o : View N = one_of v in let mine = g.each id v at in let F = IsTrueView r.0 r.1 n g.holder in
      let left : All F (set s.views id l) = all_set F s.views id l ((λ _. mine.0 part), (λ h. absurd (true≢false (sym h ∙ idle))), mine.2, mine.3) (λ j u _ e. g.each j u e) in (
        r.0,
        r.1,
        r.2,
        r.3,
        r.4,
        record {
          holder = g.holder;
          small = g.small;
          sum = let t = total_set s.views id v l at in let k = g.sum in let m = total_snoc (set s.views id l) o in omega arith;
          free = g.free;
          taken = λ z. let t = still s.views g.holder id v l at (λ h. h) (g.taken z) in (t.0, at_longer (set s.views id l) (o ∷ []) g.holder t.0 t.1, t.2);
          each = λ j u e. ⊎_elim (left j u) (λ (is : o ≡ u). subst (F j) is ((λ _. mine.0 part), (λ h. absurd (true≢false (sym h))), mine.2, mine.3)) (at_snoc (set s.views id l) o u j e);
        },
      )

  pub joins : (id : ℕ) (v : View N) (other : ℕ) (u : View N) → v.holding ≡ false → u.holding ≡ false → 0 < v.parts → Joins Rule id v other u (view_after_join v u) spent
  joins id v other u idle idle' part s r at apart at' = let g = r.5 in let b : View N = view_after_join v u in let mine = g.each id v at in let F = IsTrueView r.0 r.1 n g.holder in
      let was : get_elem? s.views other ≡ some u = ⊎_elim (λ x. absurd (apart x.0)) (λ x. x.1) (at_set s.views id other b u at') in let theirs = g.each other u was in
      let now : All F (set s.views id b) = all_set F s.views id b ((λ _. mine.0 part), (λ h. absurd (true≢false (sym h ∙ idle))), (λ h. ⊎_elim mine.2 theirs.2 (or_cases v.saw_done u.saw_done h)), λ h. ⊎_elim mine.3 theirs.3 (or_cases v.saw_stopped u.saw_stopped h)) (λ j y _ e. g.each j y e) in (
        r.0,
        r.1,
        r.2,
        r.3,
        r.4,
        record {
          holder = g.holder;
          small = g.small;
          sum = let t = total_set s.views id v b at in let t' = total_set (set s.views id b) other u spent at' in let k = g.sum in omega arith;
          free = g.free;
          taken = λ z. still (set s.views id b) g.holder other u spent at' (λ h. absurd (true≢false (sym h ∙ idle'))) (still s.views g.holder id v b at (λ h. h) (g.taken z));
          each = all_set F (set s.views id b) other spent ((λ p. absurd (omega arith)), (λ h. absurd (true≢false (sym h))), (λ h. absurd (true≢false (sym h))), λ h. absurd (true≢false (sym h))) (λ j y _ e. now j y e);
        },
      )

  pub opens : (x : S) → name x ≡ n → Rule (opening (lock_words 0 0) (Some x ∷ []) (seated seats n))
  opens x is = (
    0,
    0,
    some (Some x),
    refl,
    refl,
    record {
      holder = 0;
      small = omega arith;
      sum = omega arith;
      free = λ _. (x, refl, is, λ e. absurd (omega arith));
      taken = λ z. absurd (z refl);
      each = λ j u e. subst (IsTrueView 0 0 n 0 j) (only_one (seated seats n) j u e).1 ((λ _. refl), (λ h. absurd (true≢false (sym h))), (λ h. absurd (true≢false (sym h))), λ h. absurd (true≢false (sym h)));
    },
  )

  pub opens_with : (xs : List (Option S)) (x : S) → xs ≡ Some x ∷ [] → name x ≡ n → Rule (opening (lock_words 0 0) xs (seated seats n))
  opens_with xs x e is = subst (λ (ys : List (Option S)). Rule (opening (lock_words 0 0) ys (seated seats n))) (sym e) (opens x is)

  pub splits_seated : (id k : ℕ) (me : Me (Option S) (View N)) → me ≡ (seated k n, []) → 0 < k → Splits Rule id me.0 (rest_of me.0) (one_of me.0)
  splits_seated id k me e part = subst (λ (m : Me (Option S) (View N)). Splits Rule id m.0 (rest_of m.0) (one_of m.0)) (sym e) (splits id (seated k n) refl part)

module _ {S N : Type 0} where
  saw_ends : (xs : List (LockSeat S N)) (x : LockSeat S N) → any_saw_done (xs ++ x ∷ []) ≡ true → (any_saw_done xs ≡ true) ⊎ (x.seat.me.0.saw_done ≡ true)
  saw_ends [] x e = inr (⊎_elim (λ h. h) (λ h. absurd (true≢false (sym h))) (or_cases x.seat.me.0.saw_done false e))
  saw_ends (y ∷ ys) x e = ⊎_elim (λ h. inl (or_left y.seat.me.0.saw_done (any_saw_done ys) h)) (λ h. ⊎_elim (λ a. inl (or_right y.seat.me.0.saw_done (any_saw_done ys) a)) inr (saw_ends ys x h)) (or_cases y.seat.me.0.saw_done (any_saw_done (ys ++ x ∷ [])) e)

  pub saw_pop : (ys xs : List (LockSeat S N)) (x : LockSeat S N) → ys ≡ xs ++ x ∷ [] → any_saw_done ys ≡ true → (any_saw_done xs ≡ true) ⊎ (x.seat.me.0.saw_done ≡ true)
  saw_pop ys xs x e h = saw_ends xs x (ap any_saw_done (sym e) ∙ h)

module _ {S N : Type 0} where
  -- a seat that took in another
  pub joins_sits : (table : _) (n : N) (s t : Seat (Option S) (View N)) (v w : View N) (c : List (ℕ × Option S)) → Sits table n v.parts false s → t.table_id ≡ s.table_id → t.me ≡ (view_after_join s.me.0 w, s.me.1) → Sits table n t.me.0.parts false t
  joins_sits table n s t v w c h same is = (same ∙ h.0, refl, ap (λ m. m.0.name) is ∙ h.2, ap (λ m. m.0.holding) is ∙ h.3, ap (λ m. m.1) is ∙ h.4)

module _ {S N : Type 0} where
  -- a seat that was cut off, or is what is left, and has done nothing
  pub new_seat : (lock : NamedLock S N) (seat : LockSeat S N) → seat.seat.table_id ≡ lock_id lock → seat.seat.me ≡ (seated 1 (lock_name lock), []) → IsNewSeatOf lock seat
  new_seat lock seat table me = (
    (table, ap (λ m. m.0.parts) me, ap (λ m. m.0.name) me, ap (λ m. m.0.holding) me, ap (λ m. m.1) me),
    ap (λ m. m.0) me,
  )
