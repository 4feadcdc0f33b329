-- The steps of the way to the first earlier pusher.
use Rattle.std.proofs.Common.{◌≡◌, ◌≢◌, ℕ, suc, zero, ◌+◌, ◌<◌, ◌≤◌, Bool, true, false, Option, Some, None, List, refl, sym, subst, ◌∙◌, ◌⊎◌, inl, inr, arith}
use Rattle.std.proofs.lemmas.Bool.{cases_eq, cases_lt, false≢true}
use Rattle.swan_model.specs.declared.rights.Mode.TheVariants.{Push}
use Rattle.pop_order.specs.Children.{ChildEntry, has, IsOldest}
use Rattle.pop_order.specs.Frames.{TurnFrame, Frames, frame_at, lets_use}
use Rattle.pop_order.specs.NumberPairs.{NumberPair, has_pair, IsNext}
use Rattle.pop_order.specs.Order.{IsChild, IsAtOrBelow, at, below, ComesBefore, inside, aside}
use Rattle.pop_order.specs.Turns.{IsHolder}
use Rattle.pop_order.specs.Kept.{AreBelowParents, HasHolders, HasGivers}
use Rattle.pop_order.specs.Walk.{IsLed, here, further, IsFirstUnder, IsFirstOf, IsFirstEarlier, IsSooner, late, second, taken}
use Rattle.pop_order.proofs.Before.{one_is_first, before_before}
use Rattle.pop_order.proofs.Lineage.{below_below, le_below}
use Rattle.swan_model.proofs.Elements.{one_answer}

-- ---- down from a giver

-- The pushers that a giver leads to are led to by the node too, or all at or below the node comes before them.
pub record IsDown (frames : Frames) (set : List ChildEntry) (queue giver node : ℕ) : Type 0 where
  pub known : (node ≡ giver) ⊎ IsHolder frames queue Push node
  pub first : (other : ℕ) → IsLed set queue giver other → other ≢ giver
      → IsLed set queue node other ⊎ ((n : ℕ) → IsAtOrBelow frames node n → ComesBefore frames n other)

module _ (set : List ChildEntry) (queue : ℕ) where
  -- the child through which a frame leads to another one
  led_through : (top n : ℕ) → IsLed set queue top n → n ≢ top → (c : ℕ) × (has set top queue c ≡ true) × IsLed set queue c n
  led_through top n here apart = absurd (apart refl)
  led_through top n (further parent _ h q) apart = elim (cases_eq parent top) [
    | inl same ↦ (n, let P : ℕ → Type 0 = λ k. has set k queue n ≡ true in subst P same h, here)
    | inr differ ↦ let up = led_through top parent q differ in (up.0, up.1, further parent n h up.2)
  ]

module _ (frames : Frames) (queue : ℕ) (set : List ChildEntry) (rising : AreBelowParents frames) (pushes : HasHolders frames Push queue set) where
  led_below : (top n : ℕ) → IsLed set queue top n → IsAtOrBelow frames top n
  led_below top n here = at
  led_below top n (further parent _ h q) = below parent n (pushes.holders parent n h).0 (led_below top parent q)

  pub down_start : (giver : ℕ) → IsDown frames set queue giver giver
  down_start giver = record { known = inl refl; first = λ other led apart. inl led }

  pub down : (giver node oldest : ℕ) → IsOldest set node queue oldest → IsDown frames set queue giver node → IsDown frames set queue giver oldest
  down giver node oldest is d =
      let child = (pushes.holders node oldest is.known).0 in
      let step : IsAtOrBelow frames node oldest = below node oldest child at in
      record {
        known = inr (pushes.holders node oldest is.known).1;
        first = λ other led apart. elim (d.first other led apart) [
          | inl up ↦ elim (cases_eq other node) [
            | inl same ↦ inr (λ n deep. let P : ℕ → Type 0 = λ k. ComesBefore frames n k in
                subst P (sym same) (inside (λ e. omega (arith, le_below frames rising oldest n deep, rising node oldest child)) (below_below frames node oldest n step deep)))
            | inr differ ↦ let c = led_through set queue node other up differ in elim (cases_eq oldest c.0) [
              | inl same ↦ inl (let P : ℕ → Type 0 = λ k. IsLed set queue k other in subst P (sym same) c.2)
              | inr next ↦ inr (λ n deep. aside node oldest c.0 child (pushes.holders node c.0 c.1).0 (omega (arith, is.least c.0 c.1)) deep (led_below c.0 other c.2))
            ]
          ]
          | inr all ↦ inr (λ n deep. all n (below_below frames node oldest n step deep))
        ];
      }

  -- where no child pushes, the frame itself is the first
  pub at_last : (giver node child : ℕ) → has set giver queue child ≡ true → ((c : ℕ) → has set node queue c ≡ false) → IsDown frames set queue giver node
      → IsFirstUnder frames set queue giver node
  at_last giver node child gave none d = record {
    pushes = elim d.known [
      | inl same ↦ absurd (let P : ℕ → Type 0 = λ k. has set k queue child ≡ true in false≢true (sym (none child) ∙ subst P (sym same) gave))
      | inr holder ↦ holder
    ];
    first = λ other led apart differ. elim (d.first other led apart) [
      | inl up ↦ let c = led_through set queue node other up differ in absurd (false≢true (sym (none c.0) ∙ c.1))
      | inr all ↦ all node at
    ];
  }

-- ---- from giver to giver

-- a pusher to which a giver leads whose number is lower than one
pub record IsSeen (set : List ChildEntry) (givers : List NumberPair) (queue from number : ℕ) : Type 0 where
  pub giver : ℕ
  pub known : has_pair givers queue giver ≡ true
  pub before : giver < from
  pub led : IsLed set queue giver number
  pub younger : giver < number

module _ (frames : Frames) (queue : ℕ) where
  by_held : (n : ℕ) (f : TurnFrame) (b : Bool) → frame_at frames n ≡ Some f → lets_use f.holdings queue Push ≡ b → IsHolder frames queue Push n ⊎ (IsHolder frames queue Push n → ⊥)
  by_held n f true active e = inl (record { frame = f; active = active; held = e })
  by_held n f false active e = inr (λ holder.
      let P : TurnFrame → Type 0 = λ g. lets_use g.holdings queue Push ≡ true in
      false≢true (sym e ∙ subst P (one_answer (frame_at frames n) holder.frame f holder.active active) holder.held))

  by_frame : (n : ℕ) (found : Option TurnFrame) → frame_at frames n ≡ found → IsHolder frames queue Push n ⊎ (IsHolder frames queue Push n → ⊥)
  by_frame n None e = inr (λ holder. let never : None ≡ Some holder.frame = sym e ∙ holder.active in cc)
  by_frame n (Some f) e = by_held n f (lets_use f.holdings queue Push) e refl

  pushes_or_not : (n : ℕ) → IsHolder frames queue Push n ⊎ (IsHolder frames queue Push n → ⊥)
  pushes_or_not n = by_frame n (frame_at frames n) refl

module _ (frames : Frames) (queue : ℕ) (set : List ChildEntry) (givers : List NumberPair) (rising : AreBelowParents frames)
    (pushes : HasHolders frames Push queue set) (kept : HasGivers frames queue set givers) where
  -- some giver leads to each pusher
  led_to : (most n : ℕ) → n < most → IsHolder frames queue Push n
      → (m : ℕ) × (has_pair givers queue m ≡ true) × IsLed set queue m n × (m < n)
  led_to zero n lt holder = absurd (omega arith)
  led_to (suc most) n lt holder =
      let p = holder.frame.parent in
      let child : IsChild frames p n = record { frame = holder.frame; active = holder.active; of = refl } in
      let known = pushes.all p n child holder in
      elim (pushes_or_not frames queue p) [
        | inl above ↦
            let up = led_to most p (omega (arith, rising p n child)) above in
            (up.0, up.1, further p n known up.2, omega (arith, up.3, rising p n child))
        | inr never ↦ (p, kept.all p n known never, further p n known here, rising p n child)
      ]

  all_seen : (from n : ℕ) → ((m : ℕ) → from ≤ m → has_pair givers queue m ≡ false) → IsHolder frames queue Push n → IsSeen set givers queue from n
  all_seen from n none holder =
      let by = led_to (n + 1) n (omega arith) holder in
      record {
        giver = by.0;
        known = by.1;
        before = elim (cases_lt by.0 from) [ inl lt ↦ lt | inr ge ↦ absurd (false≢true (sym (none by.0 (omega arith)) ∙ by.1)) ];
        led = by.2;
        younger = by.3;
      }

  module _ (frame : ℕ) where
    pub none_seen : IsFirstOf frames queue frame (IsSeen set givers queue 0) None
    none_seen other seen before = omega (arith, seen.before)

    -- once all givers were seen, what is found is the first of all
    pub at_end : (from : ℕ) (found : Option ℕ) → ((m : ℕ) → from ≤ m → has_pair givers queue m ≡ false)
        → IsFirstOf frames queue frame (IsSeen set givers queue from) found → IsFirstEarlier frames queue frame found
    at_end from None none found = λ other pusher. found other (all_seen from other none pusher.0) pusher.1
    at_end from (Some number) none found = (found.0, λ other differ pusher. found.1 other (all_seen from other none pusher.0) differ pusher.1)

    module _ (from giver n : ℕ) (next : IsNext givers queue from giver) (under : IsFirstUnder frames set queue giver n) where
      -- what is seen was seen before, or the first below this giver comes before it
      seen_or_here : (other : ℕ) → IsSeen set givers queue (giver + 1) other → IsSeen set givers queue from other ⊎ (other ≢ n → ComesBefore frames n other)
      seen_or_here other seen = elim (cases_lt seen.giver from) [
        | inl lt ↦ inl (record { giver = seen.giver; known = seen.known; before = lt; led = seen.led; younger = seen.younger })
        | inr ge ↦
            let same : seen.giver ≡ giver = omega (arith, seen.before, next.least seen.giver (omega arith) seen.known) in
            let P : ℕ → Type 0 = λ k. IsLed set queue k other in
            inr (λ differ. under.first other (subst P same seen.led) (λ e. omega (arith, seen.younger)) differ)
      ]

      not_late : (other : ℕ) → ¬ ComesBefore frames n frame → (other ≢ n → ComesBefore frames n other) → ¬ ComesBefore frames other frame
      not_late other never first before = elim (cases_eq other n) [
        | inl same ↦ never (let P : ℕ → Type 0 = λ k. ComesBefore frames k frame in subst P same before)
        | inr differ ↦ never (before_before frames rising n other frame (first differ) before)
      ]

      as_found : (found : Option ℕ) → ¬ ComesBefore frames n frame → IsFirstOf frames queue frame (IsSeen set givers queue from) found
          → IsFirstOf frames queue frame (IsSeen set givers queue (giver + 1)) found
      as_found None never found = λ other seen before. elim (seen_or_here other seen) [
        | inl old ↦ found other old before
        | inr first ↦ not_late other never first before
      ]
      as_found (Some number) never found = (
        found.0,
        λ other seen differ before. elim (seen_or_here other seen) [
          | inl old ↦ found.1 other old differ before
          | inr first ↦ absurd (not_late other never first before)
        ],
      )

      as_second : (number : ℕ) → ComesBefore frames number n → IsFirstOf frames queue frame (IsSeen set givers queue from) (Some number)
          → IsFirstOf frames queue frame (IsSeen set givers queue (giver + 1)) (Some number)
      as_second number sooner found = (
        found.0,
        λ other seen differ before. elim (seen_or_here other seen) [
          | inl old ↦ found.1 other old differ before
          | inr first ↦ elim (cases_eq other n) [
            | inl same ↦ let P : ℕ → Type 0 = λ k. ComesBefore frames number k in subst P (sym same) sooner
            | inr apart ↦ before_before frames rising number n other sooner (first apart)
          ]
        ],
      )

      -- a frame that is found and doesn't come before this one comes after it
      before_found : (number : ℕ) → ComesBefore frames n frame → ComesBefore frames number frame → ¬ ComesBefore frames number n
          → n ≢ number → ComesBefore frames n number
      before_found number before other never apart = elim (one_is_first frames n number frame apart before other) [ inl first ↦ first | inr last ↦ absurd (never last) ]

      as_taken : (found : Option ℕ) → ComesBefore frames n frame → ((first : ℕ) → found ≡ Some first → ¬ ComesBefore frames first n)
          → IsFirstOf frames queue frame (IsSeen set givers queue from) found → (other : ℕ) → IsSeen set givers queue from other → other ≢ n
          → ComesBefore frames other frame → ComesBefore frames n other
      as_taken None before never found other seen differ earlier = absurd (found other seen earlier)
      as_taken (Some number) before never found other seen differ earlier = elim (cases_eq n number) [
        | inl same ↦
            let P : ℕ → Type 0 = λ k. ComesBefore frames k other in
            subst P (sym same) (found.1 other seen (λ e. differ (e ∙ sym same)) earlier)
        | inr apart ↦
            let first = before_found number before found.0.1 (never number refl) apart in
            elim (cases_eq other number) [
              | inl same ↦ let P : ℕ → Type 0 = λ k. ComesBefore frames n k in subst P (sym same) first
              | inr other_one ↦ before_before frames rising n number other first (found.1 other seen other_one earlier)
            ]
      ]

      pub one_more : (found kept : Option ℕ) → IsSooner frames frame found n kept → IsFirstOf frames queue frame (IsSeen set givers queue from) found
          → IsFirstOf frames queue frame (IsSeen set givers queue (giver + 1)) kept
      one_more found kept (late never same) first =
          let P : Option ℕ → Type 0 = λ x. IsFirstOf frames queue frame (IsSeen set givers queue (giver + 1)) x in
          subst P (sym same) (as_found found never first)
      one_more found kept (second number before is sooner same) first =
          let P : Option ℕ → Type 0 = λ x. IsFirstOf frames queue frame (IsSeen set givers queue (giver + 1)) x in
          let Q : Option ℕ → Type 0 = λ x. IsFirstOf frames queue frame (IsSeen set givers queue from) x in
          subst P (sym (same ∙ is)) (as_second number sooner (subst Q is first))
      one_more found kept (taken before never same) first =
          let P : Option ℕ → Type 0 = λ x. IsFirstOf frames queue frame (IsSeen set givers queue (giver + 1)) x in
          subst P (sym same) (
            (under.pushes, before),
            λ other seen differ earlier. elim (seen_or_here other seen) [
              | inl old ↦ as_taken found before never first other old differ earlier
              | inr is_first ↦ is_first differ
            ],
          )
