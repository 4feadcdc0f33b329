-- What is taken from the front of a chain.
use Rattle.std.proofs.Common.{◌≡◌, ◌≢◌, ℕ, Bool, true, false, ◌==◌, Option, None, Some, List, [], ◌∷◌, drop, refl, sym, ap, subst, ◌∙◌, inl, inr, rules}
use Rattle.std.proofs.lemmas.Bool.{cases_eq, eq-eqb}
use Rattle.std.specs.Prelude.{slice_get, slice_set, if◌then◌else◌}
use Rattle.slab.specs.Slab.{Slab, get, Updates}
use Rattle.swan_model.specs.declared.value.Value.{Value}
use Rattle.queues.specs.Chunks.{Chunk, Chunks, is_spent, without_spent, without_first}
use Rattle.queue_book.specs.Chains.{Link, chunk_of, is_among, IsChain, IsFront, AreChained, in_line}
use Rattle.queue_book.specs.declared.chains.Front.TheVariants as front
use Rattle.swan_model.proofs.Elements.{set_cases, one_answer}
use Rattle.queue_book.proofs.ChainKept.{chain_same, in_chain, apart_from}

-- where a queue has no node, it has no chunk
pub no_chunks : (nodes : Slab Link) (queue : ℕ) (keys : List ℕ) (chunks : Chunks) → IsChain nodes queue None keys chunks → chunks ≡ []
no_chunks nodes queue [] [] is = refl
no_chunks nodes queue (k ∷ keys) [] is = absurd is
no_chunks nodes queue [] (chunk ∷ chunks) is = absurd is
no_chunks nodes queue (k ∷ keys) (chunk ∷ chunks) is = let never : None ≡ Some k = is.1 in absurd (cc)

-- the first node of a queue, and the chunks behind it
pub record HasFirst (nodes : Slab Link) (queue key : ℕ) (link : Link) (chunks : Chunks) : Type 0 where
  pub rest : Chunks
  pub are : chunks ≡ chunk_of link ∷ rest
  pub mine : link.queue ≡ queue
  pub keys : List ℕ
  pub behind : IsChain nodes queue link.next keys rest
  pub apart : is_among key keys ≡ false

pub first_of : (nodes : Slab Link) (queue key : ℕ) (link : Link) (keys : List ℕ) (chunks : Chunks) → get nodes key ≡ Some link
    → IsChain nodes queue (Some key) keys chunks → HasFirst nodes queue key link chunks
first_of nodes queue key link [] [] stands is = let never : Some key ≡ None = is in absurd (cc)
first_of nodes queue key link (k ∷ keys) [] stands is = absurd is
first_of nodes queue key link [] (chunk ∷ chunks) stands is = absurd is
first_of nodes queue key link (k ∷ keys) (chunk ∷ chunks) stands (l, at, at_k, mine, chunk_is, apart, rest) =
    let at_key : Some key ≡ Some k = at in
    let key_is : key ≡ k = cc in
    let same : l ≡ link = one_answer (get nodes key) l link (ap (λ n. get nodes n) key_is ∙ at_k) stands in
    let P : Link → Type 0 = λ m. IsChain nodes queue m.next keys chunks in
    record {
      rest = chunks;
      are = ap (λ (c : Chunk). c ∷ chunks) (chunk_is ∙ ap chunk_of same);
      mine = ap (λ (m : Link). m.queue) (sym same) ∙ mine;
      keys = keys;
      behind = subst P same rest;
      apart = ap (λ n. is_among n keys) key_is ∙ apart;
    }

-- something stands at the head
pub head_stands : (nodes : Slab Link) (queue key : ℕ) (keys : List ℕ) (chunks : Chunks) → IsChain nodes queue (Some key) keys chunks → (link : Link) × (get nodes key ≡ Some link)
head_stands nodes queue key [] [] is = let never : Some key ≡ None = is in absurd (cc)
head_stands nodes queue key (k ∷ keys) [] is = absurd is
head_stands nodes queue key [] (chunk ∷ chunks) is = absurd is
head_stands nodes queue key (k ∷ keys) (chunk ∷ chunks) is =
    let at_key : Some key ≡ Some k = is.1 in
    let key_is : key ≡ k = cc in
    (is.0, ap (λ n. get nodes n) key_is ∙ is.2)

-- ---- what stands at the front

-- an item, an owner without items, or a spent chunk
pub front_item : (link : Link) (rest : Chunks) → link.items ≢ [] → IsFront (chunk_of link ∷ rest) front.Item × (without_spent (chunk_of link ∷ rest) ≡ chunk_of link ∷ rest)
front_item link rest some = (some, ap (λ b. if b then without_spent rest else chunk_of link ∷ rest) (not_spent link.owner link.items some)) where
  not_spent : (owner : Option ℕ) (items : List Value) → items ≢ [] → is_spent (record { owner = owner; items = items }) ≡ false
  not_spent owner [] none = absurd (none refl)
  not_spent None (item ∷ items) none = refl
  not_spent (Some n) (item ∷ items) none = refl

pub front_open : (link : Link) (rest : Chunks) (owner : ℕ) → link.items ≡ [] → link.owner ≡ Some owner
    → IsFront (chunk_of link ∷ rest) (front.Open owner) × (without_spent (chunk_of link ∷ rest) ≡ chunk_of link ∷ rest)
front_open link rest owner none owned =
    let P : Option ℕ → Type 0 = λ o. is_spent (record { owner = o; items = link.items }) ≡ false in
    ((owned, none), ap (λ b. if b then without_spent rest else chunk_of link ∷ rest) (subst P (sym owned) (open_is owner link.items))) where
      open_is : (n : ℕ) (items : List Value) → is_spent (record { owner = Some n; items = items }) ≡ false
      open_is n [] = refl
      open_is n (item ∷ items) = refl

pub front_spent : (link : Link) → link.items ≡ [] → link.owner ≡ None → is_spent (chunk_of link) ≡ true
front_spent link none unowned =
    let P : Option ℕ → Type 0 = λ o. is_spent (record { owner = o; items = link.items }) ≡ true in
    let Q : List Value → Type 0 = λ items. is_spent (record { owner = None; items = items }) ≡ true in
    subst P (sym unowned) (subst Q (sym none) refl)

module _ (at : ℕ → ℕ → Option ℕ) (heads : List (Option ℕ)) (nodes : Slab Link) (lines : ℕ → Chunks) (is : AreChained at heads nodes lines) (queue : ℕ) where
  pub empty_line : slice_get heads queue ≡ Some None → lines queue ≡ []
  empty_line has = let one = is.chains queue None has in no_chunks nodes queue one.0 (lines queue) one.1

  pub first_stands : (key : ℕ) → slice_get heads queue ≡ Some (Some key) → (link : Link) × (get nodes key ≡ Some link)
  first_stands key has = let one = is.chains queue (Some key) has in head_stands nodes queue key one.0 (lines queue) one.1

  pub first_chunk : (key : ℕ) (link : Link) → slice_get heads queue ≡ Some (Some key) → get nodes key ≡ Some link → HasFirst nodes queue key link (lines queue)
  first_chunk key link has stands = let one = is.chains queue (Some key) has in first_of nodes queue key link one.0 (lines queue) stands one.1

  -- a queue of which no frame has a chunk has no owners
  pub unowned : ((number : ℕ) → at number queue ≡ None) → (key : ℕ) (link : Link) → slice_get heads queue ≡ Some (Some key) → get nodes key ≡ Some link → link.owner ≡ None
  unowned none key link has stands = by_owner link.owner refl where
    by_owner : (o : Option ℕ) → link.owner ≡ o → o ≡ None
    by_owner None e = refl
    by_owner (Some n) e =
        let first = first_chunk key link has stands in
        let never : None ≡ Some key = sym (none n) ∙ ap (λ q. at n q) (sym first.mine) ∙ is.placed key n link stands e in
        absurd (cc)

  module _ (after : Slab Link) (key : ℕ) (link : Link) (has : slice_get heads queue ≡ Some (Some key)) (stands : get nodes key ≡ Some link) where
    -- nodes of other queues are other nodes
    elsewhere : (q : ℕ) (head : Option ℕ) (keys : List ℕ) (chunks : Chunks) → q ≢ queue → IsChain nodes q head keys chunks → (k : ℕ) → is_among k keys ≡ true → k ≢ key
    elsewhere q head keys chunks other chain k among e =
        let there = in_chain nodes q head keys chunks k chain among in
        let same : there.0 ≡ link = one_answer (get nodes key) there.0 link (ap (λ j. get nodes j) (sym e) ∙ there.1) stands in
        other (sym there.2 ∙ ap (λ (m : Link). m.queue) same ∙ (first_chunk key link has stands).mine)

    pub chained_drop_first : Updates nodes after key None → link.owner ≡ None
        → AreChained at (slice_set heads queue link.next) after (in_line queue (λ chunks. drop 1 chunks) lines)
    chained_drop_first updates unowned = record {
      chains = λ q head now_has.
          let P : Bool → Type 0 = λ b. (keys : List ℕ) × IsChain after q head keys (if b then drop 1 (lines q) else lines q) in
          elim (set_cases heads queue (Some key) link.next q head has now_has) [
            | inl here ↦
                let first = first_chunk key link has stands in
                let b_is : (q == queue) ≡ true = ap (λ n. n == queue) here.0 ∙ eq-eqb queue queue refl in
                let behind : IsChain after queue link.next first.keys first.rest =
                chain_same nodes after queue link.next first.keys first.rest (λ k among. updates.others k (apart_from key k first.keys first.apart among)) first.behind in
                let Q : ℕ → Type 0 = λ n. IsChain after n link.next first.keys first.rest in
                let R : Option ℕ → Type 0 = λ h. IsChain after q h first.keys first.rest in
                let line : first.rest ≡ drop 1 (lines q) = sym (ap (λ (c : Chunks). drop 1 c) (ap lines here.0 ∙ first.are)) in
                let S : Chunks → Type 0 = λ c. IsChain after q head first.keys c in
                subst P (sym b_is) (first.keys, subst S line (subst R (sym here.1) (subst Q (sym here.0) behind)))
            | inr old ↦
                let one = is.chains q head old.1 in
                let b_is : (q == queue) ≡ false = let ne : q ≢ queue = old.0 in search rules in
                subst P (sym b_is) (one.0, chain_same nodes after q head one.0 (lines q) (λ k among. updates.others k (elsewhere q head one.0 (lines q) old.0 one.1 k among)) one.1)
          ];
      owned = λ n q k e.
          let old = is.owned n q k e in (
            old.0,
            updates.others k (λ here.
                let same : old.0 ≡ link = one_answer (get nodes key) old.0 link (ap (λ j. get nodes j) (sym here) ∙ old.1) stands in
                let never : None ≡ Some n = sym unowned ∙ ap (λ (m : Link). m.owner) (sym same) ∙ old.2 in
                cc) ∙ old.1,
            old.2,
            old.3,
          );
      placed = λ k n l at_k owner. elim (cases_eq k key) [
        | inl here ↦ let never : None ≡ Some l = sym updates.changed ∙ ap (λ j. get after j) (sym here) ∙ at_k in absurd (cc)
        | inr apart ↦ is.placed k n l (sym (updates.others k apart) ∙ at_k) owner
      ];
    }

    pub chained_take_first : Updates nodes after key (Some (record link { items = drop 1 link.items }))
        → AreChained at heads after (in_line queue without_first lines)
    chained_take_first updates =
        let new : Link = record link { items = drop 1 link.items } in
        record {
          chains = λ q head now_has.
              let P : Bool → Type 0 = λ b. (keys : List ℕ) × IsChain after q head keys (if b then without_first (lines q) else lines q) in
              elim (cases_eq q queue) [
                | inl here ↦
                    let first = first_chunk key link has stands in
                    let b_is : (q == queue) ≡ true = ap (λ n. n == queue) here ∙ eq-eqb queue queue refl in
                    let head_is : Some head ≡ Some (Some key) = sym now_has ∙ ap (λ n. slice_get heads n) here ∙ has in
                    let h_is : Some key ≡ head = cc in
                    let behind : IsChain after queue link.next first.keys first.rest =
                    chain_same nodes after queue link.next first.keys first.rest (λ k among. updates.others k (apart_from key k first.keys first.apart among)) first.behind in
                    let whole : IsChain after queue (Some key) (key ∷ first.keys) (chunk_of new ∷ first.rest) =
                    (new, refl, updates.changed, first.mine, refl, first.apart, behind) in
                    let Q : ℕ → Type 0 = λ n. IsChain after n (Some key) (key ∷ first.keys) (chunk_of new ∷ first.rest) in
                    let R : Option ℕ → Type 0 = λ h. IsChain after q h (key ∷ first.keys) (chunk_of new ∷ first.rest) in
                    let line : chunk_of new ∷ first.rest ≡ without_first (lines q) = sym (ap without_first (ap lines here ∙ first.are)) in
                    let S : Chunks → Type 0 = λ c. IsChain after q head (key ∷ first.keys) c in
                    subst P (sym b_is) (key ∷ first.keys, subst S line (subst R h_is (subst Q (sym here) whole)))
                | inr other ↦
                    let one = is.chains q head now_has in
                    let b_is : (q == queue) ≡ false = search rules in
                    subst P (sym b_is) (one.0, chain_same nodes after q head one.0 (lines q) (λ k among. updates.others k (elsewhere q head one.0 (lines q) other one.1 k among)) one.1)
              ];
          owned = λ n q k e.
              let old = is.owned n q k e in
              elim (cases_eq k key) [
                | inl here ↦
                    let same : old.0 ≡ link = one_answer (get nodes key) old.0 link (ap (λ j. get nodes j) (sym here) ∙ old.1) stands in
                    (new, ap (λ j. get after j) here ∙ updates.changed, ap (λ (l : Link). l.owner) (sym same) ∙ old.2, ap (λ (l : Link). l.queue) (sym same) ∙ old.3)
                | inr apart ↦ (old.0, updates.others k apart ∙ old.1, old.2, old.3)
              ];
          placed = λ k n l at_k owner.
              elim (cases_eq k key) [
                | inl here ↦
                    let same : l ≡ new = one_answer (get after key) l new (ap (λ j. get after j) (sym here) ∙ at_k) updates.changed in
                    let before = is.placed k n link (ap (λ j. get nodes j) here ∙ stands) (ap (λ (m : Link). m.owner) (sym same) ∙ owner) in
                    ap (λ (m : Link). at n m.queue) same ∙ before
                | inr apart ↦ is.placed k n l (sym (updates.others k apart) ∙ at_k) owner
              ];
        }
