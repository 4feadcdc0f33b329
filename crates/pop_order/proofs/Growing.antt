-- What stays right of the sets when a child was given a queue.
use Rattle.std.proofs.Common.{◌≡◌, ◌≢◌, ℕ, true, false, Some, List, refl, sym, ap, subst, ◌∙◌, ◌⊎◌, inl, inr}
use Rattle.std.proofs.lemmas.Bool.{cases_eq, false≢true}
use Rattle.swan_model.specs.Rights.{allows}
use Rattle.swan_model.specs.SerialState.{Holding}
use Rattle.swan_model.specs.declared.rights.Mode.{Mode}
use Rattle.swan_model.specs.declared.rights.Mode.TheVariants.{Push}
use Rattle.pop_order.specs.Children.{ChildEntry, has, IsWith, IsSameFor}
use Rattle.pop_order.specs.Frames.{TurnFrame, Frames, frame_at, lets_use}
use Rattle.pop_order.specs.Order.{IsChild}
use Rattle.pop_order.specs.Turns.{IsHolder}
use Rattle.pop_order.specs.Kept.{HasHolders, HasGivers}
use Rattle.pop_order.specs.NumberPairs.{NumberPair, has_pair}
use Rattle.pop_order.specs.Steps.{IsGrown, IsGiverNoted, needless, noted}
use Rattle.pop_order.proofs.Changes.{came_in, still_in, in_after, giver_in, giver_still, giver_after}
use Rattle.swan_model.proofs.Elements.{one_answer}

-- ---- another set with the same children

pub same_givers : (frames : Frames) (queue : ℕ) (set other : List ChildEntry) (givers now : List NumberPair) → IsSameFor queue set other
    → ((n : ℕ) → has_pair now queue n ≡ has_pair givers queue n) → HasGivers frames queue set givers → HasGivers frames queue other now
same_givers frames queue set other givers now same still kept = record {
  gave = λ n k. let child = kept.gave n (sym (still n) ∙ k) in (child.0, same n child.0 ∙ child.1);
  apart = λ n k. kept.apart n (sym (still n) ∙ k);
  all = λ n c h never. still n ∙ kept.all n c (sym (same n c) ∙ h) never;
}

pub same_holders : (frames : Frames) (mode : Mode) (queue : ℕ) (set other : List ChildEntry) → IsSameFor queue set other → HasHolders frames mode queue set → HasHolders frames mode queue other
same_holders frames mode queue set other same holders = record {
  holders = λ p c h. holders.holders p c (sym (same p c) ∙ h);
  all = λ p c child holder. same p c ∙ holders.all p c child holder;
}

module _ (before after : Frames) (parent child : ℕ) (holding : Holding) (grown : IsGrown before after parent child holding) where
  child_after : (p n : ℕ) → IsChild before p n → IsChild after p n
  child_after p n is = elim (cases_eq n child) [
    | inl same ↦
        let P : ℕ → Type 0 = λ k. IsChild before p k in
        let one = grown.was_of p (subst P same is) in
        let Q : ℕ → Type 0 = λ k. frame_at after k ≡ Some grown.frame in
        record { frame = grown.frame; active = subst Q (sym same) grown.one.changed; of = grown.of ∙ sym one }
    | inr apart ↦ record { frame = is.frame; active = grown.one.others n apart ∙ is.active; of = is.of }
  ]

  child_before : (p n : ℕ) → n ≢ child → IsChild after p n → IsChild before p n
  child_before p n apart is = record { frame = is.frame; active = sym (grown.one.others n apart) ∙ is.active; of = is.of }

  holder_after : (q : ℕ) (m : Mode) (n : ℕ) → IsHolder before q m n → IsHolder after q m n
  holder_after q m n is = elim (cases_eq n child) [
    | inl same ↦
        let P : ℕ → Type 0 = λ k. IsHolder before q m k in
        let Q : ℕ → Type 0 = λ k. frame_at after k ≡ Some grown.frame in
        record { frame = grown.frame; active = subst Q (sym same) grown.one.changed; held = grown.still q m (subst P same is) }
    | inr apart ↦ record { frame = is.frame; active = grown.one.others n apart ∙ is.active; held = is.held }
  ]

  holder_before : (q : ℕ) (m : Mode) (n : ℕ) → n ≢ child → IsHolder after q m n → IsHolder before q m n
  holder_before q m n apart is = record { frame = is.frame; active = sym (grown.one.others n apart) ∙ is.active; held = is.held }

  its_parent : (p : ℕ) → IsChild after p child → p ≡ parent
  its_parent p is =
      sym is.of ∙ ap (λ (f : TurnFrame). f.parent) (one_answer (frame_at after child) is.frame grown.frame is.active grown.one.changed) ∙ grown.of

  -- what the child holds, it held before or was given now
  its_queues : (q : ℕ) (m : Mode) → IsHolder after q m child → IsHolder before q m child ⊎ ((holding.number ≡ q) × (allows holding.mode m ≡ true))
  its_queues q m is =
      let P : TurnFrame → Type 0 = λ f. lets_use f.holdings q m ≡ true in
      grown.held q m (subst P (one_answer (frame_at after child) is.frame grown.frame is.active grown.one.changed) is.held)

  was_child : (q : ℕ) (m : Mode) → IsHolder before q m child → IsChild before parent child
  was_child q m is =
      record { frame = is.frame; active = is.active; of = grown.was_of is.frame.parent (record { frame = is.frame; active = is.active; of = refl }) }

  child_now : IsChild after parent child
  child_now = record { frame = grown.frame; active = grown.one.changed; of = grown.of }

  pub holders_with : (m : Mode) (q : ℕ) (set more : List ChildEntry) → HasHolders before m q set → allows holding.mode m ≡ true
      → IsWith set parent holding.number child more → HasHolders after m q more
  holders_with m q set more holders allowed change = record {
    holders = λ p c h. elim (in_after set more parent holding.number child change p q c h) [
      | inl same ↦
          let P : ℕ → Type 0 = λ k. IsChild after k c × IsHolder after q m c in
          let Q : ℕ → Type 0 = λ k. IsChild after parent k × IsHolder after q m k in
          let R : ℕ → Type 0 = λ k. IsHolder after k m child in
          subst P same.parents (subst Q same.children (
            child_now,
            subst R same.queues (record { frame = grown.frame; active = grown.one.changed; held = grown.new m allowed }),
          ))
      | inr was ↦ let h = holders.holders p c was in (child_after p c h.0, holder_after q m c h.1)
    ];
    all = λ p c is holder. elim (cases_eq c child) [
      | inl same ↦
          let P : ℕ → Type 0 = λ k. IsChild after p k in
          let Q : ℕ → Type 0 = λ k. IsHolder after q m k in
          let S : ℕ → Type 0 = λ k. has more k q child ≡ true in
          let T : ℕ → Type 0 = λ k. has more p q k ≡ true in
          let known : has more parent q child ≡ true = elim (its_queues q m (subst Q same holder)) [
            | inl was ↦ still_in set more parent holding.number child change parent q child (holders.all parent child (was_child q m was) was)
            | inr now ↦ let R : ℕ → Type 0 = λ k. has more parent k child ≡ true in
                subst R now.0 (came_in set more parent holding.number child change)
          ] in
          subst T (sym same) (subst S (sym (its_parent p (subst P same is))) known)
      | inr apart ↦ still_in set more parent holding.number child change p q c (holders.all p c (child_before p c apart is) (holder_before q m c apart holder))
    ];
  }

  pub holders_kept : (m : Mode) (q : ℕ) (set : List ChildEntry) → HasHolders before m q set → allows holding.mode m ≡ false → HasHolders after m q set
  holders_kept m q set holders refused = record {
    holders = λ p c h. let h = holders.holders p c h in (child_after p c h.0, holder_after q m c h.1);
    all = λ p c is holder. elim (cases_eq c child) [
      | inl same ↦
          let P : ℕ → Type 0 = λ k. IsChild after p k in
          let Q : ℕ → Type 0 = λ k. IsHolder after q m k in
          let S : ℕ → Type 0 = λ k. has set k q child ≡ true in
          let T : ℕ → Type 0 = λ k. has set p q k ≡ true in
          let known : has set parent q child ≡ true = elim (its_queues q m (subst Q same holder)) [
            | inl was ↦ holders.all parent child (was_child q m was) was
            | inr now ↦ absurd (false≢true (sym refused ∙ now.1))
          ] in
          subst T (sym same) (subst S (sym (its_parent p (subst P same is))) known)
      | inr apart ↦ holders.all p c (child_before p c apart is) (holder_before q m c apart holder)
    ];
  }

  -- the child had no children, and has none
  not_above : (q n c : ℕ) (set : List ChildEntry) → HasHolders before Push q set → has set n q c ≡ true → n ≢ child
  not_above q n c set pushes h same =
      grown.childless c (let P : ℕ → Type 0 = λ k. IsChild before k c in subst P same (pushes.holders n c h).0)

  module _ (q : ℕ) (set more : List ChildEntry) (pushes : HasHolders before Push q set) (now_pushes : HasHolders after Push q more) where
    grew : (n c : ℕ) → has set n q c ≡ true → has more n q c ≡ true
    grew n c h = let was = pushes.holders n c h in now_pushes.all n c (child_after n c was.0) (holder_after q Push c was.1)

    -- an entry of the pushers was there, or is that of the child, which may push
    entry_from : (n c : ℕ) → has more n q c ≡ true → (has set n q c ≡ true) ⊎ ((holding.number ≡ q) × (allows holding.mode Push ≡ true) × (n ≡ parent))
    entry_from n c h = let is = now_pushes.holders n c h in elim (cases_eq c child) [
      | inl same ↦
          let P : ℕ → Type 0 = λ k. IsChild after n k in
          let Q : ℕ → Type 0 = λ k. IsHolder after q Push k in
          let S : ℕ → Type 0 = λ k. has set k q child ≡ true in
          let T : ℕ → Type 0 = λ k. has set n q k ≡ true in
          let one = its_parent n (subst P same is.0) in
          elim (its_queues q Push (subst Q same is.1)) [
            | inl was ↦ inl (subst T (sym same) (subst S (sym one) (pushes.all parent child (was_child q Push was) was)))
            | inr now ↦ inr (now.0, now.1, one)
          ]
      | inr apart ↦ inl (pushes.all n c (child_before n c apart is.0) (holder_before q Push c apart is.1))
    ]

    still_apart : (n c : ℕ) → has set n q c ≡ true → ¬ IsHolder before q Push n → ¬ IsHolder after q Push n
    still_apart n c h never holder = never (holder_before q Push n (not_above q n c set pushes h) holder)

    pub givers_noted : (givers now : List NumberPair) → HasGivers before q set givers → IsGiverNoted after parent holding givers now → HasGivers after q more now
    givers_noted givers now kept (needless need same) =
        let P : List NumberPair → Type 0 = λ m. HasGivers after q more m in
        subst P (sym same) (record {
          gave = λ n k. let c = kept.gave n k in (c.0, grew n c.0 c.1);
          apart = λ n k. let c = kept.gave n k in still_apart n c.0 c.1 (kept.apart n k);
          all = λ n c h never. elim (entry_from n c h) [
            | inl was ↦ kept.all n c was (λ holder. never (holder_after q Push n holder))
            | inr own ↦
                let Q : ℕ → Type 0 = λ k. IsHolder after k Push parent in
                let R : ℕ → Type 0 = λ k. IsHolder after q Push k in
                absurd (never (subst R (sym own.2) (subst Q own.0 (need own.1))))
          ];
        })
    givers_noted givers now kept (noted may never change) = record {
      gave = λ n k. elim (giver_after givers now holding.number parent change q n k) [
        | inl same ↦
            let S : ℕ → Type 0 = λ k. (c : ℕ) × (has more k q c ≡ true) in
            let H : ℕ → Type 0 = λ k. IsHolder after k Push child in
            subst S same.1 (
              child,
              now_pushes.all parent child child_now
                  (subst H same.0 (record { frame = grown.frame; active = grown.one.changed; held = grown.new Push may })),
            )
        | inr was ↦ let c = kept.gave n was in (c.0, grew n c.0 c.1)
      ];
      apart = λ n k. elim (giver_after givers now holding.number parent change q n k) [
        | inl same ↦
            let Q : ℕ → Type 0 = λ k. ¬ IsHolder after k Push n in
            let R : ℕ → Type 0 = λ k. ¬ IsHolder after holding.number Push k in
            subst Q same.0 (subst R same.1 never)
        | inr was ↦ let c = kept.gave n was in still_apart n c.0 c.1 (kept.apart n was)
      ];
      all = λ n c h apart. elim (entry_from n c h) [
        | inl was ↦ giver_still givers now holding.number parent change q n (kept.all n c was (λ holder. apart (holder_after q Push n holder)))
        | inr own ↦
            let Q : ℕ → Type 0 = λ k. has_pair now k n ≡ true in
            let R : ℕ → Type 0 = λ k. has_pair now holding.number k ≡ true in
            subst Q own.0 (subst R (sym own.2) (giver_in givers now holding.number parent change))
      ];
    }
