-- What stays right of the sets when a child was given back.
use Rattle.std.proofs.Common.{◌≡◌, ◌≢◌, ℕ, true, List, refl, sym, subst, ◌∙◌, inl, inr}
use Rattle.std.proofs.lemmas.Bool.{cases_eq, false≢true}
use Rattle.swan_model.specs.declared.rights.Mode.{Mode}
use Rattle.swan_model.specs.declared.rights.Mode.TheVariants.{Push}
use Rattle.pop_order.specs.Children.{ChildEntry, has, IsWithout}
use Rattle.pop_order.specs.Frames.{Frames}
use Rattle.pop_order.specs.Order.{IsChild}
use Rattle.pop_order.specs.Turns.{IsHolder}
use Rattle.pop_order.specs.Kept.{HasHolders, HasGivers}
use Rattle.pop_order.specs.Givers.{IsGiverSettled, stays, goes}
use Rattle.pop_order.specs.NumberPairs.{NumberPair, has_pair}
use Rattle.pop_order.specs.Steps.{IsShrunk}
use Rattle.pop_order.proofs.Changes.{IsSame, was_in, is_another, stays_in, giver_was, giver_gone, giver_stays}
use Rattle.pop_order.proofs.Lineage.{same_parent}
use Rattle.pop_order.proofs.Meeting.{none_or_some}

module _ (before after : Frames) (parent child : ℕ) (shrunk : IsShrunk before after parent child) where
  not_child : (p n : ℕ) → IsChild after p n → n ≢ child
  not_child p n is same = none_or_some shrunk.one.changed (let P : ℕ → Type 0 = λ k. IsChild after p k in subst P same is)

  child_after : (p n : ℕ) → n ≢ child → IsChild before p n → IsChild after p n
  child_after p n apart is = record { frame = is.frame; active = shrunk.one.others n apart ∙ is.active; of = is.of }

  child_before : (p n : ℕ) → IsChild after p n → IsChild before p n
  child_before p n is = record { frame = is.frame; active = sym (shrunk.one.others n (not_child p n is)) ∙ is.active; of = is.of }

  holder_after : (q : ℕ) (m : Mode) (n : ℕ) → n ≢ child → IsHolder before q m n → IsHolder after q m n
  holder_after q m n apart is = record { frame = is.frame; active = shrunk.one.others n apart ∙ is.active; held = is.held }

  holder_before : (q : ℕ) (m : Mode) (n : ℕ) → IsHolder after q m n → IsHolder before q m n
  holder_before q m n is =
      let as_child : IsChild after is.frame.parent n = record { frame = is.frame; active = is.active; of = refl } in
      record { frame = is.frame; active = sym (shrunk.one.others n (not_child is.frame.parent n as_child)) ∙ is.active; held = is.held }

  -- an entry of the child is the one that names its parent
  its_entry : (p q c : ℕ) → c ≡ child → IsChild before p c → IsSame parent q child p q c
  its_entry p q c same is =
      let P : ℕ → Type 0 = λ k. IsChild before p k in
      record { parents = same_parent before shrunk.was (subst P same is); queues = refl; children = sym same }

  pub holders_without : (m : Mode) (q : ℕ) (set fewer : List ChildEntry) → HasHolders before m q set → IsWithout set parent q child fewer → HasHolders after m q fewer
  holders_without m q set fewer holders change = record {
    holders = λ p c h.
        let was = holders.holders p c (was_in set fewer parent q child change p q c h) in
        let apart : c ≢ child = λ same. is_another set fewer parent q child change p q c h (its_entry p q c same was.0) in
        (child_after p c apart was.0, holder_after q m c apart was.1);
    all = λ p c is holder.
        stays_in set fewer parent q child change p q c (λ same. not_child p c is (sym same.children))
        (holders.all p c (child_before p c is) (holder_before q m c holder));
  }

  pub holders_again : (m : Mode) (q : ℕ) (set fewer : List ChildEntry) → HasHolders after m q set → IsWithout set parent q child fewer → HasHolders after m q fewer
  holders_again m q set fewer holders change = record {
    holders = λ p c h. holders.holders p c (was_in set fewer parent q child change p q c h);
    all = λ p c is holder.
        stays_in set fewer parent q child change p q c (λ same. not_child p c is (sym same.children)) (holders.all p c is holder);
  }

  pub holders_untouched : (m : Mode) (q : ℕ) (set : List ChildEntry) → HasHolders before m q set → (IsHolder before q m child → ⊥) → HasHolders after m q set
  holders_untouched m q set holders never = record {
    holders = λ p c h.
        let was = holders.holders p c h in
        let apart : c ≢ child = λ same. never (let P : ℕ → Type 0 = λ k. IsHolder before q m k in subst P same was.1) in
        (child_after p c apart was.0, holder_after q m c apart was.1);
    all = λ p c is holder. holders.all p c (child_before p c is) (holder_before q m c holder);
  }

  -- the child had no children
  not_above : (q n c : ℕ) (set : List ChildEntry) → HasHolders before Push q set → has set n q c ≡ true → n ≢ child
  not_above q n c set pushes h same =
      shrunk.childless c (let P : ℕ → Type 0 = λ k. IsChild before k c in subst P same (pushes.holders n c h).0)

  module _ (q : ℕ) (set : List ChildEntry) (pushes : HasHolders before Push q set) where
    was_apart : (n c : ℕ) → has set n q c ≡ true → ¬ IsHolder after q Push n → ¬ IsHolder before q Push n
    was_apart n c h never holder = never (holder_after q Push n (not_above q n c set pushes h) holder)

    pub givers_untouched : (givers : List NumberPair) → HasGivers before q set givers → HasGivers after q set givers
    givers_untouched givers kept = record {
      gave = kept.gave;
      apart = λ n k holder. kept.apart n k (holder_before q Push n holder);
      all = λ n c h never. kept.all n c h (was_apart n c h never);
    }

  module _ (q : ℕ) (set fewer : List ChildEntry) (givers now : List NumberPair) (now_pushes : HasHolders after Push q fewer) where
    -- the givers after the child went out, for what they were before
    pub givers_without : HasHolders before Push q set → IsGiverSettled fewer parent q givers now → HasGivers before q set givers → HasGivers after q fewer now
    givers_without pushes settled kept = by settled where
      fewer_was : (n c : ℕ) → has fewer n q c ≡ true → has set n q c ≡ true
      fewer_was n c h = let is = now_pushes.holders n c h in pushes.all n c (child_before n c is.0) (holder_before q Push c is.1)

      left_of : (n : ℕ) → has_pair givers q n ≡ true → n ≢ parent → (c : ℕ) × (has fewer n q c ≡ true)
      left_of n k apart =
          let c = kept.gave n k in
          let was = pushes.holders n c.0 c.1 in
          let other : c.0 ≢ child = λ same.
          apart (same_parent before (let P : ℕ → Type 0 = λ k. IsChild before n k in subst P same was.0) shrunk.was) in
          (c.0, now_pushes.all n c.0 (child_after n c.0 other was.0) (holder_after q Push c.0 other was.1))

      known : (n c : ℕ) → has fewer n q c ≡ true → ¬ IsHolder after q Push n → has_pair givers q n ≡ true
      known n c h never = kept.all n c (fewer_was n c h) (was_apart q set pushes n c (fewer_was n c h) never)

      by : IsGiverSettled fewer parent q givers now → HasGivers after q fewer now
      by (stays c h same) =
          let P : List NumberPair → Type 0 = λ m. HasGivers after q fewer m in
          subst P (sym same) (record {
            gave = λ n k. elim (cases_eq n parent) [
              | inl e ↦ let S : ℕ → Type 0 = λ k. (c : ℕ) × (has fewer k q c ≡ true) in subst S (sym e) (c, h)
              | inr apart ↦ left_of n k apart
            ];
            apart = λ n k holder. kept.apart n k (holder_before q Push n holder);
            all = known;
          })
      by (goes none change) = record {
        gave = λ n k. left_of n (giver_was givers now q parent change q n k)
            (λ e. giver_gone givers now q parent change (let S : ℕ → Type 0 = λ k. has_pair now q k ≡ true in subst S e k));
        apart = λ n k holder. kept.apart n (giver_was givers now q parent change q n k) (holder_before q Push n holder);
        all = λ n c h never. giver_stays givers now q parent change q n
            (λ e. false≢true (sym (none c) ∙ (let S : ℕ → Type 0 = λ k. has fewer k q c ≡ true in subst S e h))) (known n c h never);
      }

    -- the same where the child was out already
    pub givers_again : HasHolders after Push q set → IsGiverSettled fewer parent q givers now → HasGivers after q set givers → HasGivers after q fewer now
    givers_again pushes settled kept = by settled where
      fewer_is : (n c : ℕ) → has fewer n q c ≡ true → has set n q c ≡ true
      fewer_is n c h = let is = now_pushes.holders n c h in pushes.all n c is.0 is.1

      left_of : (n : ℕ) → has_pair givers q n ≡ true → (c : ℕ) × (has fewer n q c ≡ true)
      left_of n k = let c = kept.gave n k in let is = pushes.holders n c.0 c.1 in (c.0, now_pushes.all n c.0 is.0 is.1)

      by : IsGiverSettled fewer parent q givers now → HasGivers after q fewer now
      by (stays c h same) =
          let P : List NumberPair → Type 0 = λ m. HasGivers after q fewer m in
          subst P (sym same) (record {
            gave = left_of;
            apart = kept.apart;
            all = λ n c h never. kept.all n c (fewer_is n c h) never;
          })
      by (goes none change) = record {
        gave = λ n k. left_of n (giver_was givers now q parent change q n k);
        apart = λ n k. kept.apart n (giver_was givers now q parent change q n k);
        all = λ n c h never. giver_stays givers now q parent change q n
            (λ e. false≢true (sym (none c) ∙ (let S : ℕ → Type 0 = λ k. has fewer k q c ≡ true in subst S e h)))
            (kept.all n c (fewer_is n c h) never);
      }
