-- What a push and the end of a frame make of the chains.
use Rattle.std.proofs.Common.{◌≡◌, ◌≢◌, ℕ, Bool, true, false, ◌==◌, Option, None, Some, List, [], ◌∷◌, ◌++◌, refl, sym, ap, subst, ◌∙◌, inl, inr}
use Rattle.std.proofs.lemmas.Bool.{cases_eq, eqb-true, eq-eqb}
use Rattle.std.specs.Prelude.{if◌then◌else◌}
use Rattle.slab.specs.Slab.{Slab, get, Updates}
use Rattle.swan_model.specs.declared.value.Value.{Value}
use Rattle.queues.specs.Chunks.{Chunk, Chunks, with_item, after_close}
use Rattle.queue_book.specs.Chains.{Link, chunk_of, IsChain, AreChained, in_line, put_at}
use Rattle.queue_book.proofs.ChainKept.{IsOwnLinkChanged, pushed_is, closed_is, line_changed}
use Rattle.swan_model.proofs.Elements.{one_answer}

-- the same chunks and nodes, said in another way
pub chained_same : (at now_at : ℕ → ℕ → Option ℕ) (heads : List (Option ℕ)) (nodes : Slab Link) (lines others : ℕ → Chunks)
    → ((number queue : ℕ) → now_at number queue ≡ at number queue) → ((queue : ℕ) → others queue ≡ lines queue)
    → AreChained at heads nodes lines → AreChained now_at heads nodes others
chained_same at now_at heads nodes lines others same_at same_lines is = record {
  chains = λ queue head has.
      let one = is.chains queue head has in
      let P : Chunks → Type 0 = λ chunks. IsChain nodes queue head one.0 chunks in
      (one.0, subst P (sym (same_lines queue)) one.1);
  owned = λ number queue key e. is.owned number queue key (sym (same_at number queue) ∙ e);
  placed = λ key number link stands owner. same_at number link.queue ∙ is.placed key number link stands owner;
}

-- ---- where own chunks stand

pub put_same : (number queue : ℕ) (key : Option ℕ) (at : ℕ → ℕ → Option ℕ) → put_at number queue key at number queue ≡ key
put_same number queue key at =
    let inner : (if queue == queue then key else at number queue) ≡ key = ap (λ b. if b then key else at number queue) (eq-eqb queue queue refl) in
    ap (λ b. if b then (if queue == queue then key else at number queue) else at number queue) (eq-eqb number number refl) ∙ inner

pub none_put : (number queue : ℕ) (at : ℕ → ℕ → Option ℕ) (key : ℕ) → put_at number queue None at number queue ≡ Some key → ⊥
none_put number queue at key e = let never : None ≡ Some key = sym (put_same number queue None at) ∙ e in cc

pub put_other : (number queue : ℕ) (key : Option ℕ) (at : ℕ → ℕ → Option ℕ) (n q : ℕ) → (n ≡ number → q ≡ queue → ⊥) → put_at number queue key at n q ≡ at n q
put_other number queue key at n q other = by_number (n == number) refl where
  by_queue : n ≡ number → (b : Bool) → (q == queue) ≡ b → (if b then key else at n q) ≡ at n q
  by_queue same true e = absurd (other same (eqb-true q queue e))
  by_queue same false e = refl

  by_number : (b : Bool) → (n == number) ≡ b → (if b then (if q == queue then key else at n q) else at n q) ≡ at n q
  by_number true e = by_queue (eqb-true n number e) (q == queue) refl
  by_number false e = refl

-- what isn't the new one was there before
pub put_back : (number queue : ℕ) (key : Option ℕ) (at : ℕ → ℕ → Option ℕ) (n q k : ℕ) → put_at number queue key at n q ≡ Some k → key ≢ Some k → at n q ≡ Some k
put_back number queue key at n q k e ne = by_number (n == number) refl e where
  by_queue : (b : Bool) → (if b then key else at n q) ≡ Some k → at n q ≡ Some k
  by_queue true h = absurd (ne h)
  by_queue false h = h

  by_number : (b : Bool) → (n == number) ≡ b → (if b then (if q == queue then key else at n q) else at n q) ≡ Some k → at n q ≡ Some k
  by_number true same h = by_queue (q == queue) h
  by_number false same h = h

module _ (at : ℕ → ℕ → Option ℕ) (heads : List (Option ℕ)) (nodes : Slab Link) (lines : ℕ → Chunks) (is : AreChained at heads nodes lines)
    (number queue key : ℕ) (mine : at number queue ≡ Some key) where
  sole_own : (j : ℕ) (other : Link) → get nodes j ≡ Some other → other.queue ≡ queue → other.owner ≡ Some number → j ≡ key
  sole_own j other stands of owner =
      let P : ℕ → Type 0 = λ q. at number q ≡ Some j in
      one_answer (at number queue) j key (subst P of (is.placed j number other stands owner)) mine

  change_of : (after : Slab Link) (link new : Link) (change : Chunk → Chunk) → get nodes key ≡ Some link → Updates nodes after key (Some new)
      → new.queue ≡ link.queue → new.next ≡ link.next → chunk_of new ≡ change (chunk_of link) → IsOwnLinkChanged nodes after queue number key link new change
  change_of after link new change stands updates same_queue same_next changed =
      let known = is.owned number queue key mine in
      let same : known.0 ≡ link = one_answer (get nodes key) known.0 link known.1 stands in
      record {
        stands = stands;
        owner = ap (λ (l : Link). l.owner) (sym same) ∙ known.2;
        mine = ap (λ (l : Link). l.queue) (sym same) ∙ known.3;
        updates = updates;
        same_queue = same_queue;
        same_next = same_next;
        changed = changed;
        sole = sole_own;
      }

  pub chained_push : (after : Slab Link) (link : Link) (item : Value) → get nodes key ≡ Some link
      → Updates nodes after key (Some (record link { items = link.items ++ item ∷ [] }))
      → AreChained at heads after (in_line queue (with_item number item) lines)
  chained_push after link item stands updates =
      let new : Link = record link { items = link.items ++ item ∷ [] } in
      let change : Chunk → Chunk = λ chunk. record chunk { items = chunk.items ++ item ∷ [] } in
      let changed = change_of after link new change stands updates refl refl refl in
      record {
        chains = λ q head has.
            let one = line_changed nodes after queue number key link new change changed heads lines is.chains q head has in
            let P : Chunks → Type 0 = λ chunks. IsChain after q head one.0 chunks in
            (one.0, subst P (ap (λ (c : Chunks). if q == queue then c else lines q) (pushed_is number item (lines q))) one.1);
        owned = λ n q k e.
            let old = is.owned n q k e in
            elim (cases_eq k key) [
              | inl here ↦
                  let same : old.0 ≡ link = one_answer (get nodes key) old.0 link (ap (λ j. get nodes j) (sym here) ∙ old.1) stands in
                  (new, ap (λ j. get after j) here ∙ updates.changed, ap (λ (l : Link). l.owner) (sym same) ∙ old.2, ap (λ (l : Link). l.queue) (sym same) ∙ old.3)
              | inr apart ↦ (old.0, updates.others k apart ∙ old.1, old.2, old.3)
            ];
        placed = λ k n l at_k owner.
            elim (cases_eq k key) [
              | inl here ↦
                  let same : l ≡ new = one_answer (get after key) l new (ap (λ j. get after j) (sym here) ∙ at_k) updates.changed in
                  let before = is.placed k n link (ap (λ j. get nodes j) here ∙ stands) (ap (λ (m : Link). m.owner) (sym same) ∙ owner) in
                  ap (λ (m : Link). at n m.queue) same ∙ before
              | inr apart ↦ is.placed k n l (sym (updates.others k apart) ∙ at_k) owner
            ];
      }

  pub chained_close : (after : Slab Link) (link : Link) → get nodes key ≡ Some link → Updates nodes after key (Some (record link { owner = None }))
      → AreChained (put_at number queue None at) heads after (in_line queue (after_close number) lines)
  chained_close after link stands updates =
      let new : Link = record link { owner = None } in
      let change : Chunk → Chunk = λ chunk. record chunk { owner = None } in
      let changed = change_of after link new change stands updates refl refl refl in
      record {
        chains = λ q head has.
            let one = line_changed nodes after queue number key link new change changed heads lines is.chains q head has in
            let P : Chunks → Type 0 = λ chunks. IsChain after q head one.0 chunks in
            (one.0, subst P (ap (λ (c : Chunks). if q == queue then c else lines q) (closed_is number (lines q))) one.1);
        owned = λ n q k e.
            let was = put_back number queue None at n q k e (λ (never : None ≡ Some k). cc) in
            let old = is.owned n q k was in
            let apart : k ≢ key = λ here.
            let same : old.0 ≡ link = one_answer (get nodes key) old.0 link (ap (λ j. get nodes j) (sym here) ∙ old.1) stands in
            let n_is : n ≡ number = one_answer link.owner n number (ap (λ (l : Link). l.owner) (sym same) ∙ old.2) changed.owner in
            let q_is : q ≡ queue = sym old.3 ∙ ap (λ (l : Link). l.queue) same ∙ changed.mine in
            let P : ℕ → ℕ → Type 0 = λ a b. put_at number queue None at a b ≡ Some k in
            let Q : ℕ → Type 0 = λ a. P a q in
            let R : ℕ → Type 0 = λ b. P number b in
            none_put number queue at k (subst R q_is (subst Q n_is e)) in
            (old.0, updates.others k apart ∙ old.1, old.2, old.3);
        placed = λ k n l at_k owner.
            elim (cases_eq k key) [
              | inl here ↦
                  let same : l ≡ new = one_answer (get after key) l new (ap (λ j. get after j) (sym here) ∙ at_k) updates.changed in
                  let never : None ≡ Some n = ap (λ (m : Link). m.owner) (sym same) ∙ owner in
                  cc
              | inr apart ↦
                  let was = is.placed k n l (sym (updates.others k apart) ∙ at_k) owner in
                  put_other number queue None at n l.queue (λ n_is q_is.
                  let P : ℕ → ℕ → Type 0 = λ a b. at a b ≡ Some k in
                  let Q : ℕ → Type 0 = λ a. P a l.queue in
                  let R : ℕ → Type 0 = λ b. P number b in
                  apart (one_answer (at number queue) k key (subst R q_is (subst Q n_is was)) mine)) ∙ was
            ];
      }
