-- What a new queue, and a spawn, make of the chains.
use Rattle.std.proofs.Common.{◌≡◌, ◌≢◌, ℕ, ◌<◌, Bool, true, false, ◌==◌, ◌&&◌, cond, Option, None, Some, List, [], ◌∷◌, ◌++◌, length, refl, sym, ap, subst, ◌∙◌, ◌⊎◌, inl, inr, arith, rules}
use Rattle.std.proofs.lemmas.Bool.{cases_eq, cases_Bool, false≢true, and_from, and_parts, eqb-true, eq-eqb, or_cases, or_left, or_right}
use Rattle.std.proofs.lemmas.Option.{slice_get_within}
use Rattle.std.specs.Prelude.{if◌then◌else◌}
use Rattle.slab.specs.Slab.{Slab, get, Updates}
use Rattle.swan_model.specs.declared.value.Value.{Value}
use Rattle.queues.specs.Chunks.{Chunk, Chunks, own, is_owned, after_hand_on}
use Rattle.queues.proofs.MatchOwners.{owned_is}
use Rattle.queue_book.specs.Chains.{Link, chunk_of, is_among, IsChain, AreChained, in_line, put_at}
use Rattle.swan_model.proofs.Elements.{more_cases, one_answer}
use Rattle.queue_book.proofs.ChainKept.{chain_same, in_chain, owned_so}
use Rattle.queue_book.proofs.ChainChanges.{put_same, put_other}

not_both : (o : Option Link) (link : Link) → o ≡ None → o ≡ Some link → ⊥
not_both o link none some = let never : None ≡ Some link = sym none ∙ some in cc

-- a key at which nothing stands is in no chain
vacant_apart : (nodes : Slab Link) (queue : ℕ) (head : Option ℕ) (keys : List ℕ) (chunks : Chunks) (key : ℕ) → get nodes key ≡ None
    → IsChain nodes queue head keys chunks → is_among key keys ≡ false
vacant_apart nodes queue head keys chunks key vacant is =
    elim (cases_Bool (is_among key keys)) [
      | inl among ↦ let there = in_chain nodes queue head keys chunks key is among in absurd (not_both (get nodes key) there.0 vacant there.1)
      | inr apart ↦ apart
    ]

not_among : (key other : ℕ) (keys : List ℕ) → (other ≡ key → ⊥) → is_among key keys ≡ false → is_among key (other ∷ keys) ≡ false
not_among key other keys ne apart =
    elim (cases_Bool (is_among key (other ∷ keys))) [
      | inl among ↦ elim (or_cases (other == key) (is_among key keys) among) [
        | inl same ↦ absurd (ne (eqb-true other key same))
        | inr there ↦ absurd (false≢true (sym apart ∙ there))
      ]
      | inr fine ↦ fine
    ]

-- ---- a new queue

module _ (at : ℕ → ℕ → Option ℕ) (heads : List (Option ℕ)) (nodes : Slab Link) (lines : ℕ → Chunks) (is : AreChained at heads nodes lines)
    (after : Slab Link) (key owner : ℕ) (items : List Value) (vacant : get nodes key ≡ None)
    (updates : Updates nodes after key (Some (record { queue = length heads; owner = Some owner; items = items; next = None })))
    (chunkless : at owner (length heads) ≡ None) where
  abbrev made : Link
  made = record { queue = length heads; owner = Some owner; items = items; next = None }

  new_chain : (q : ℕ) → q ≡ length heads → IsChain after q (Some key) (key ∷ []) (own owner items ∷ [])
  new_chain q same = (record { queue = length heads; owner = Some owner; items = items; next = None }, refl, updates.changed, sym same, refl, refl, refl)

  old_apart : (k : ℕ) (link : Link) → get nodes k ≡ Some link → k ≢ key
  old_apart k link stands e = not_both (get nodes key) link vacant (ap (λ n. get nodes n) (sym e) ∙ stands)

  pub chained_make : AreChained (put_at owner (length heads) (Some key) at) (heads ++ Some key ∷ []) after (in_line (length heads) (λ old. own owner items ∷ []) lines)
  chained_make = record {
    chains = λ q head has.
        let P : Bool → Type 0 = λ b. (keys : List ℕ) × IsChain after q head keys (if b then (own owner items ∷ []) else lines q) in
        elim (more_cases heads (Some key) q head has) [
          | inl old ↦
              let one = is.chains q head old in
              let apart : q ≢ length heads = λ e. let within : q < length heads = slice_get_within heads q head old in omega arith in
              let b_is : (q == length heads) ≡ false = search rules in
              subst P (sym b_is) (
                one.0,
                chain_same nodes after q head one.0 (lines q) (λ k among.
                    let there = in_chain nodes q head one.0 (lines q) k one.1 among in
                    updates.others k (old_apart k there.0 there.1)) one.1,
              )
          | inr new ↦
              let b_is : (q == length heads) ≡ true = ap (λ n. n == length heads) new.0 ∙ eq-eqb (length heads) (length heads) refl in
              let Q : Option ℕ → Type 0 = λ h. IsChain after q h (key ∷ []) (own owner items ∷ []) in
              subst P (sym b_is) (key ∷ [], subst Q (sym new.1) (new_chain q new.0))
        ];
    owned = λ n q k e.
        elim (cases_Bool ((n == owner) && (q == length heads))) [
          | inl here ↦
              let both = and_parts _ _ here in
              let n_is = eqb-true n owner both.0 in
              let q_is = eqb-true q (length heads) both.1 in
              let P : ℕ → Type 0 = λ a. put_at owner (length heads) (Some key) at a q ≡ Some k in
              let Q : ℕ → Type 0 = λ b. put_at owner (length heads) (Some key) at owner b ≡ Some k in
              let found : Some key ≡ Some k = sym (put_same owner (length heads) (Some key) at) ∙ subst Q q_is (subst P n_is e) in
              let k_is : key ≡ k = cc in
              (made, ap (λ j. get after j) (sym k_is) ∙ updates.changed, ap Some (sym n_is), sym q_is)
          | inr there ↦
              let was : at n q ≡ Some k = sym (put_other owner (length heads) (Some key) at n q (λ n_is q_is.
              false≢true (sym there ∙ and_from _ _ (ap (λ a. a == owner) n_is ∙ eq-eqb owner owner refl) (ap (λ b. b == length heads) q_is ∙ eq-eqb (length heads) (length heads) refl)))) ∙ e in
              let old = is.owned n q k was in
              (old.0, updates.others k (old_apart k old.0 old.1) ∙ old.1, old.2, old.3)
        ];
    placed = λ k n l at_k is_owner.
        elim (cases_eq k key) [
          | inl here ↦
              let same : l ≡ made = one_answer (get after key) l made (ap (λ j. get after j) (sym here) ∙ at_k) updates.changed in
              let n_is : n ≡ owner = one_answer (Some owner) n owner (ap (λ (m : Link). m.owner) (sym same) ∙ is_owner) refl in
              ap (λ (m : Link). put_at owner (length heads) (Some key) at n m.queue) same ∙ ap (λ a. put_at owner (length heads) (Some key) at a (length heads)) n_is
              ∙ put_same owner (length heads) (Some key) at ∙ ap Some (sym here)
          | inr apart ↦
              let was = is.placed k n l (sym (updates.others k apart) ∙ at_k) is_owner in
              put_other owner (length heads) (Some key) at n l.queue (λ n_is q_is.
              let never : None ≡ Some k = sym chunkless ∙ ap (λ b. at owner b) (sym q_is) ∙ ap (λ a. at a l.queue) (sym n_is) ∙ was in
              cc) ∙ was
        ];
  }

-- ---- a spawn

-- A frame's own node goes to its child, and a new one of its own comes right behind.
pub record IsHandedOn (nodes after : Slab Link) (key new parent child : ℕ) (link : Link) : Type 0 where
  pub stands : get nodes key ≡ Some link
  pub vacant : get nodes new ≡ None
  pub first : get after key ≡ Some (record link { owner = Some child; next = Some new })
  pub behind : get after new ≡ Some (record { queue = link.queue; owner = Some parent; items = []; next = link.next })
  pub others : (j : ℕ) → j ≢ key → j ≢ new → get after j ≡ get nodes j

-- the chain after that: its keys are the old ones and the new one
pub record HasHandedOn (nodes after : Slab Link) (queue : ℕ) (head : Option ℕ) (old : List ℕ) (new : ℕ) (chunks : Chunks) : Type 0 where
  pub keys : List ℕ
  pub is : IsChain after queue head keys chunks
  pub all : (j : ℕ) → is_among j keys ≡ true → (is_among j old ≡ true) ⊎ (j ≡ new)

module _ (nodes after : Slab Link) (queue key new parent child : ℕ) (link : Link) (is : IsHandedOn nodes after key new parent child link)
    (owner : link.owner ≡ Some parent) (mine : link.queue ≡ queue)
    (sole : (j : ℕ) (other : Link) → get nodes j ≡ Some other → other.queue ≡ queue → other.owner ≡ Some parent → j ≡ key) where
  not_new : (j : ℕ) (l : Link) → get nodes j ≡ Some l → j ≢ new
  not_new j l stands e = not_both (get nodes new) l is.vacant (ap (λ n. get nodes n) (sym e) ∙ stands)

  pub chain_handed_on : (head : Option ℕ) (keys : List ℕ) (chunks : Chunks) → IsChain nodes queue head keys chunks
      → HasHandedOn nodes after queue head keys new (after_hand_on parent child chunks)
  chain_handed_on head [] [] e = record { keys = []; is = e; all = λ j among. inl among }
  chain_handed_on head (k ∷ keys) [] e = absurd e
  chain_handed_on head [] (chunk ∷ chunks) e = absurd e
  chain_handed_on head (k ∷ keys) (chunk ∷ chunks) (l, at, stands, l_mine, chunk_is, apart, rest) =
      at_first (is_owned parent chunk) refl (chain_handed_on l.next keys chunks rest) where
        at_first : (b : Bool) → is_owned parent chunk ≡ b → HasHandedOn nodes after queue l.next keys new (after_hand_on parent child chunks)
            → HasHandedOn nodes after queue head (k ∷ keys) new (cond b (own child chunk.items ∷ own parent [] ∷ chunks) (chunk ∷ after_hand_on parent child chunks))
        at_first true owns later =
            let l_owner : l.owner ≡ Some parent = ap (λ (c : Chunk). c.owner) (sym chunk_is) ∙ owned_is parent chunk owns in
            let here : k ≡ key = sole k l stands l_mine l_owner in
            let same : l ≡ link = one_answer (get nodes key) l link (ap (λ n. get nodes n) (sym here) ∙ stands) is.stands in
            let new_apart : is_among new keys ≡ false = vacant_apart nodes queue l.next keys chunks new is.vacant rest in
            let apart_key : is_among key keys ≡ false = ap (λ n. is_among n keys) (sym here) ∙ apart in
            let items_are : own child chunk.items ≡ chunk_of (record link { owner = Some child; next = Some new }) =
            ap (λ (c : Chunk). own child c.items) (chunk_is ∙ ap chunk_of same) in
            let kept : (j : ℕ) → is_among j keys ≡ true → get after j ≡ get nodes j = λ j among.
            is.others j (λ e. let P : ℕ → Type 0 = λ n. is_among n keys ≡ true in false≢true (sym apart_key ∙ subst P e among))
            (λ e. let P : ℕ → Type 0 = λ n. is_among n keys ≡ true in false≢true (sym new_apart ∙ subst P e among)) in
            let P : Option ℕ → Type 0 = λ h. IsChain after queue h keys chunks in
            record {
              keys = k ∷ new ∷ keys;
              is = (
                record link { owner = Some child; next = Some new },
                at,
                ap (λ n. get after n) here ∙ is.first,
                mine,
                items_are,
                not_among k new keys (λ e. not_new k l stands (sym e)) apart,
                (
                  record { queue = link.queue; owner = Some parent; items = []; next = link.next },
                  refl,
                  is.behind,
                  mine,
                  refl,
                  new_apart,
                  subst P (ap (λ (m : Link). m.next) same) (chain_same nodes after queue l.next keys chunks kept rest),
                ),
              );
              all = λ j among. elim (or_cases (k == j) (is_among j (new ∷ keys)) among) [
                | inl first ↦ inl (or_left _ _ first)
                | inr more ↦ elim (or_cases (new == j) (is_among j keys) more) [
                  | inl second ↦ inr (sym (eqb-true new j second))
                  | inr old ↦ inl (or_right _ _ old)
                ]
              ];
            }
        at_first false not_owns later =
            let ne : k ≢ key = λ e.
            let same : l ≡ link = one_answer (get nodes key) l link (ap (λ n. get nodes n) (sym e) ∙ stands) is.stands in
            false≢true (sym not_owns ∙ owned_so parent chunk.owner (ap (λ (c : Chunk). c.owner) chunk_is ∙ ap (λ (m : Link). m.owner) same ∙ owner)) in
            record {
              keys = k ∷ later.keys;
              is = (
                l,
                at,
                is.others k ne (not_new k l stands) ∙ stands,
                l_mine,
                chunk_is,
                elim (cases_Bool (is_among k later.keys)) [
                  | inl among ↦ elim (later.all k among) [
                    | inl old ↦ absurd (false≢true (sym apart ∙ old))
                    | inr is_new ↦ absurd (not_new k l stands is_new)
                  ]
                  | inr not_among ↦ not_among
                ],
                later.is,
              );
              all = λ j among. elim (or_cases (k == j) (is_among j later.keys) among) [
                | inl first ↦ inl (or_left _ _ first)
                | inr more ↦ elim (later.all j more) [ inl old ↦ inl (or_right _ _ old) | inr is_new ↦ inr is_new ]
              ];
            }

module _ (at : ℕ → ℕ → Option ℕ) (heads : List (Option ℕ)) (nodes after : Slab Link) (lines : ℕ → Chunks) (is : AreChained at heads nodes lines)
    (queue key new parent child : ℕ) (link : Link) (handed : IsHandedOn nodes after key new parent child link) (mine : at parent queue ≡ Some key)
    (chunkless : at child queue ≡ None) (two : parent ≢ child) where
  abbrev then_at : ℕ → ℕ → Option ℕ
  then_at = put_at parent queue (Some new) (put_at child queue (Some key) at)

  own_is : (link.owner ≡ Some parent) × (link.queue ≡ queue)
  own_is =
      let known = is.owned parent queue key mine in
      let same : known.0 ≡ link = one_answer (get nodes key) known.0 link known.1 handed.stands in
      (ap (λ (l : Link). l.owner) (sym same) ∙ known.2, ap (λ (l : Link). l.queue) (sym same) ∙ known.3)

  sole_parent : (j : ℕ) (other : Link) → get nodes j ≡ Some other → other.queue ≡ queue → other.owner ≡ Some parent → j ≡ key
  sole_parent j other stands of owner =
      let P : ℕ → Type 0 = λ q. at parent q ≡ Some j in
      one_answer (at parent queue) j key (subst P of (is.placed j parent other stands owner)) mine

  at_parent : then_at parent queue ≡ Some new
  at_parent = put_same parent queue (Some new) (put_at child queue (Some key) at)

  at_child : then_at child queue ≡ Some key
  at_child = put_other parent queue (Some new) (put_at child queue (Some key) at) child queue (λ e same. two (sym e)) ∙ put_same child queue (Some key) at

  at_others : (n q : ℕ) → (n ≡ parent → q ≡ queue → ⊥) → (n ≡ child → q ≡ queue → ⊥) → then_at n q ≡ at n q
  at_others n q not_parent not_child =
      put_other parent queue (Some new) (put_at child queue (Some key) at) n q not_parent ∙ put_other child queue (Some key) at n q not_child

  pub chained_hand_on : AreChained then_at heads after (in_line queue (after_hand_on parent child) lines)
  chained_hand_on = record {
    chains = λ q head has.
        let one = is.chains q head has in
        let P : Bool → Type 0 = λ b. (keys : List ℕ) × IsChain after q head keys (if b then after_hand_on parent child (lines q) else lines q) in
        elim (cases_eq q queue) [
          | inl same ↦
              let b_is : (q == queue) ≡ true = ap (λ n. n == queue) same ∙ eq-eqb queue queue refl in
              let Q : ℕ → Type 0 = λ n. IsChain nodes n head one.0 (lines q) → (keys : List ℕ) × IsChain after n head keys (after_hand_on parent child (lines q)) in
              subst P (sym b_is) (subst Q (sym same) (λ chain.
              let done = chain_handed_on nodes after queue key new parent child link handed own_is.0 own_is.1 sole_parent head one.0 (lines q) chain in
              (done.keys, done.is)) one.1)
          | inr other ↦
              let b_is : (q == queue) ≡ false = search rules in
              subst P (sym b_is) (
                one.0,
                chain_same nodes after q head one.0 (lines q) (λ k among.
                    let there = in_chain nodes q head one.0 (lines q) k one.1 among in
                    handed.others k (λ e.
                    let same : there.0 ≡ link = one_answer (get nodes key) there.0 link (ap (λ j. get nodes j) (sym e) ∙ there.1) handed.stands in
                    other (sym there.2 ∙ ap (λ (m : Link). m.queue) same ∙ own_is.1))
                    (λ e. not_both (get nodes new) there.0 handed.vacant (ap (λ j. get nodes j) (sym e) ∙ there.1))) one.1,
              )
        ];
    owned = λ n q k e. at_owner n q k e (cases_eq n parent) (cases_eq n child) (cases_eq q queue);
    placed = λ k n l at_k is_owner. at_key k n l at_k is_owner (cases_eq k key) (cases_eq k new);
  } where
    elsewhere : (n q k : ℕ) → then_at n q ≡ Some k → (n ≡ parent → q ≡ queue → ⊥) → (n ≡ child → q ≡ queue → ⊥)
        → (l : Link) × (get after k ≡ Some l) × (l.owner ≡ Some n) × (l.queue ≡ q)
    elsewhere n q k e not_parent not_child =
        let old = is.owned n q k (sym (at_others n q not_parent not_child) ∙ e) in
        let not_key : k ≢ key = λ here.
        let same : old.0 ≡ link = one_answer (get nodes key) old.0 link (ap (λ j. get nodes j) (sym here) ∙ old.1) handed.stands in
        not_parent (one_answer link.owner n parent (ap (λ (m : Link). m.owner) (sym same) ∙ old.2) own_is.0) (sym old.3 ∙ ap (λ (m : Link). m.queue) same ∙ own_is.1) in
        let not_new : k ≢ new = λ here. not_both (get nodes new) old.0 handed.vacant (ap (λ j. get nodes j) (sym here) ∙ old.1) in
        (old.0, handed.others k not_key not_new ∙ old.1, old.2, old.3)

    at_owner : (n q k : ℕ) → then_at n q ≡ Some k → (n ≡ parent) ⊎ (n ≢ parent) → (n ≡ child) ⊎ (n ≢ child) → (q ≡ queue) ⊎ (q ≢ queue)
        → (l : Link) × (get after k ≡ Some l) × (l.owner ≡ Some n) × (l.queue ≡ q)
    at_owner n q k e (inl is_parent) c (inl same) =
        let Q : ℕ → Type 0 = λ b. then_at n b ≡ Some k in
        let P : ℕ → Type 0 = λ a. then_at a queue ≡ Some k in
        let k_is : new ≡ k = one_answer (Some new) new k refl (sym at_parent ∙ subst P is_parent (subst Q same e)) in
        (record { queue = link.queue; owner = Some parent; items = []; next = link.next }, ap (λ j. get after j) (sym k_is) ∙ handed.behind, ap Some (sym is_parent), own_is.1 ∙ sym same)
    at_owner n q k e (inr not_parent) (inl is_child) (inl same) =
        let Q : ℕ → Type 0 = λ b. then_at n b ≡ Some k in
        let P : ℕ → Type 0 = λ a. then_at a queue ≡ Some k in
        let k_is : key ≡ k = one_answer (Some key) key k refl (sym at_child ∙ subst P is_child (subst Q same e)) in
        (record link { owner = Some child; next = Some new }, ap (λ j. get after j) (sym k_is) ∙ handed.first, ap Some (sym is_child), own_is.1 ∙ sym same)
    at_owner n q k e (inr not_parent) (inr not_child) qs = elsewhere n q k e (λ is_parent same. not_parent is_parent) (λ is_child same. not_child is_child)
    at_owner n q k e ps cs (inr other) = elsewhere n q k e (λ is_parent same. other same) (λ is_child same. other same)

    at_key : (k n : ℕ) (l : Link) → get after k ≡ Some l → l.owner ≡ Some n → (k ≡ key) ⊎ (k ≢ key) → (k ≡ new) ⊎ (k ≢ new) → then_at n l.queue ≡ Some k
    at_key k n l at_k is_owner (inl here) ns =
        let first : Link = record link { owner = Some child; next = Some new } in
        let same : l ≡ first = one_answer (get after key) l first (ap (λ j. get after j) (sym here) ∙ at_k) handed.first in
        let n_is : n ≡ child = one_answer (Some child) n child (ap (λ (m : Link). m.owner) (sym same) ∙ is_owner) refl in
        ap (λ (m : Link). then_at n m.queue) same ∙ ap (λ q. then_at n q) own_is.1 ∙ ap (λ a. then_at a queue) n_is ∙ at_child ∙ ap Some (sym here)
    at_key k n l at_k is_owner (inr not_key) (inl here) =
        let behind : Link = record { queue = link.queue; owner = Some parent; items = []; next = link.next } in
        let same : l ≡ behind = one_answer (get after new) l behind (ap (λ j. get after j) (sym here) ∙ at_k) handed.behind in
        let n_is : n ≡ parent = one_answer (Some parent) n parent (ap (λ (m : Link). m.owner) (sym same) ∙ is_owner) refl in
        ap (λ (m : Link). then_at n m.queue) same ∙ ap (λ q. then_at n q) own_is.1 ∙ ap (λ a. then_at a queue) n_is ∙ at_parent ∙ ap Some (sym here)
    at_key k n l at_k is_owner (inr not_key) (inr not_new) =
        let was = is.placed k n l (sym (handed.others k not_key not_new) ∙ at_k) is_owner in
        at_others n l.queue
        (λ is_parent same. not_key (one_answer (at parent queue) k key (ap (λ q. at parent q) (sym same) ∙ ap (λ a. at a l.queue) (sym is_parent) ∙ was) mine))
        (λ is_child same. let never : None ≡ Some k = sym chunkless ∙ ap (λ q. at child q) (sym same) ∙ ap (λ a. at a l.queue) (sym is_child) ∙ was in cc)
        ∙ was
