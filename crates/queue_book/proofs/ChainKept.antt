-- What a change of one node makes of the chains.
use Rattle.std.proofs.Common.{◌≡◌, ◌≢◌, ℕ, ◌<◌, Bool, true, false, ◌==◌, cond, Option, None, Some, List, [], ◌∷◌, ◌++◌, length, refl, sym, ap, subst, ◌∙◌, inl, inr}
use Rattle.std.proofs.lemmas.Bool.{cases_lt, false≢true, eqb-true, eq-eqb, or_cases, or_left, or_right}
use Rattle.std.proofs.lemmas.List.{get_or_past, get_or-set_other, get_or-set_same}
use Rattle.std.specs.Option.{option_map_or}
use Rattle.std.specs.Prelude.{slice_get, if◌then◌else◌}
use Rattle.slab.specs.Slab.{Slab, get, with_value, Updates}
use Rattle.swan_model.specs.declared.value.Value.{Value}
use Rattle.queues.specs.Chunks.{Chunk, Chunks, is_owned, with_item, after_close}
use Rattle.queues.proofs.MatchOwners.{owned_is}
use Rattle.queue_book.specs.Chains.{Link, chunk_of, is_among, IsChain, in_line}
use Rattle.swan_model.proofs.Elements.{one_answer}

-- what is written to a node that stands
pub updates_with : (nodes : Slab Link) (key : ℕ) (link new : Link) → get nodes key ≡ Some link → Updates nodes (with_value nodes key new) key (Some new)
updates_with nodes key link new stands =
    let within : key < length nodes.slots = elim (cases_lt key (length nodes.slots)) [
      | inl less ↦ less
      | inr past ↦ let never : None ≡ Some link = sym (get_or_past nodes.slots key None past) ∙ stands in absurd (cc)
    ] in
    record {
      changed = get_or-set_same nodes.slots key (Some new) None within;
      others = λ other ne. get_or-set_other nodes.slots key other (Some new) None ne;
    }

-- nodes that are the same at the keys of a chain
pub chain_same : (nodes after : Slab Link) (queue : ℕ) (head : Option ℕ) (keys : List ℕ) (chunks : Chunks)
    → ((key : ℕ) → is_among key keys ≡ true → get after key ≡ get nodes key)
    → IsChain nodes queue head keys chunks → IsChain after queue head keys chunks
chain_same nodes after queue head [] [] same is = is
chain_same nodes after queue head (key ∷ keys) (chunk ∷ chunks) same (link, at, stands, mine, chunk_is, apart, rest) = (
  link,
  at,
  same key (or_left _ _ (eq-eqb key key refl)) ∙ stands,
  mine,
  chunk_is,
  apart,
  chain_same nodes after queue link.next keys chunks (λ k in_keys. same k (or_right _ _ in_keys)) rest,
)
chain_same nodes after queue head [] (chunk ∷ chunks) same is = absurd is
chain_same nodes after queue head (key ∷ keys) [] same is = absurd is

-- ---- a change of the first chunk that a frame owns

abbrev pub at_owned : ℕ → (Chunk → Chunk) → Chunks → Chunks
at_owned number change [] = []
at_owned number change (chunk ∷ chunks) =
    if is_owned number chunk then change chunk ∷ chunks else chunk ∷ at_owned number change chunks

pub pushed_is : (number : ℕ) (item : Value) (chunks : Chunks) → at_owned number (λ chunk. record chunk { items = chunk.items ++ item ∷ [] }) chunks ≡ with_item number item chunks
pushed_is number item [] = refl
pushed_is number item (chunk ∷ chunks) =
    ap (λ rest. if is_owned number chunk then record chunk { items = chunk.items ++ item ∷ [] } ∷ chunks else chunk ∷ rest) (pushed_is number item chunks)

pub closed_is : (number : ℕ) (chunks : Chunks) → at_owned number (λ chunk. record chunk { owner = None }) chunks ≡ after_close number chunks
closed_is number [] = refl
closed_is number (chunk ∷ chunks) =
    ap (λ rest. if is_owned number chunk then record chunk { owner = None } ∷ chunks else chunk ∷ rest) (closed_is number chunks)

-- whose chunk it is
pub owned_so : (number : ℕ) (owner : Option ℕ) → owner ≡ Some number → option_map_or (λ owner. owner == number) owner false ≡ true
owned_so number owner e = let P : Option ℕ → Type 0 = λ o. option_map_or (λ owner. owner == number) o false ≡ true in subst P (sym e) (eq-eqb number number refl)

-- what stands at the keys of a chain
pub in_chain : (nodes : Slab Link) (queue : ℕ) (head : Option ℕ) (keys : List ℕ) (chunks : Chunks) (key : ℕ)
    → IsChain nodes queue head keys chunks → is_among key keys ≡ true → (link : Link) × (get nodes key ≡ Some link) × (link.queue ≡ queue)
in_chain nodes queue head [] chunks key is none = absurd (false≢true none)
in_chain nodes queue head (k ∷ keys) [] key is among = absurd is
in_chain nodes queue head (k ∷ keys) (chunk ∷ chunks) key (link, at, stands, mine, chunk_is, apart, rest) among =
    elim (or_cases (k == key) (is_among key keys) among) [
      | inl here ↦ (link, ap (λ n. get nodes n) (sym (eqb-true k key here)) ∙ stands, mine)
      | inr there ↦ in_chain nodes queue link.next keys chunks key rest there
    ]

-- another key than those of a chain
pub apart_from : (key other : ℕ) (keys : List ℕ) → is_among key keys ≡ false → is_among other keys ≡ true → other ≢ key
apart_from key other keys apart among e =
    let P : ℕ → Type 0 = λ n. is_among n keys ≡ true in
    false≢true (sym apart ∙ subst P e among)

-- The node of a frame's own chunk of a queue, and what is made of it.
pub record IsOwnLinkChanged (nodes after : Slab Link) (queue number key : ℕ) (link new : Link) (change : Chunk → Chunk) : Type 0 where
  pub stands : get nodes key ≡ Some link
  pub owner : link.owner ≡ Some number
  pub mine : link.queue ≡ queue
  pub updates : Updates nodes after key (Some new)
  pub same_queue : new.queue ≡ link.queue
  pub same_next : new.next ≡ link.next
  pub changed : chunk_of new ≡ change (chunk_of link)
  -- it has one own chunk there
  pub sole : (j : ℕ) (other : Link) → get nodes j ≡ Some other → other.queue ≡ queue → other.owner ≡ Some number → j ≡ key

module _ (nodes after : Slab Link) (queue number key : ℕ) (link new : Link) (change : Chunk → Chunk) (is : IsOwnLinkChanged nodes after queue number key link new change) where
  pub chain_changed : (head : Option ℕ) (keys : List ℕ) (chunks : Chunks) → IsChain nodes queue head keys chunks
      → IsChain after queue head keys (at_owned number change chunks)
  chain_changed head [] [] e = e
  chain_changed head (k ∷ keys) [] e = absurd e
  chain_changed head [] (chunk ∷ chunks) e = absurd e
  chain_changed head (k ∷ keys) (chunk ∷ chunks) (l, at, stands, mine, chunk_is, apart, rest) = at_first (is_owned number chunk) refl (chain_changed l.next keys chunks rest) where
    kept : (j : ℕ) → j ≢ key → get after j ≡ get nodes j
    kept j ne = is.updates.others j ne

    at_first : (b : Bool) → is_owned number chunk ≡ b → IsChain after queue l.next keys (at_owned number change chunks)
        → IsChain after queue head (k ∷ keys) (cond b (change chunk ∷ chunks) (chunk ∷ at_owned number change chunks))
    at_first true owns later =
        let l_owner : l.owner ≡ Some number = ap (λ (c : Chunk). c.owner) (sym chunk_is) ∙ owned_is number chunk owns in
        let here : k ≡ key = is.sole k l stands mine l_owner in
        let same : l ≡ link = one_answer (get nodes key) l link (ap (λ n. get nodes n) (sym here) ∙ stands) is.stands in
        let next : new.next ≡ l.next = is.same_next ∙ ap (λ (m : Link). m.next) (sym same) in
        let apart_key : is_among key keys ≡ false = ap (λ n. is_among n keys) (sym here) ∙ apart in
        let P : Option ℕ → Type 0 = λ h. IsChain after queue h keys chunks in (
          new,
          at,
          ap (λ n. get after n) here ∙ is.updates.changed,
          is.same_queue ∙ is.mine,
          ap change (chunk_is ∙ ap chunk_of same) ∙ sym is.changed,
          apart,
          subst P (sym next) (chain_same nodes after queue l.next keys chunks (λ j among. kept j (apart_from key j keys apart_key among)) rest),
        )
    at_first false not_owns later =
        let ne : k ≢ key = λ e.
        let same : l ≡ link = one_answer (get nodes key) l link (ap (λ n. get nodes n) (sym e) ∙ stands) is.stands in
        false≢true (sym not_owns ∙ owned_so number chunk.owner (ap (λ (c : Chunk). c.owner) chunk_is ∙ ap (λ (m : Link). m.owner) same ∙ is.owner)) in
        (l, at, kept k ne ∙ stands, mine, chunk_is, apart, later)

  pub line_changed : (heads : List (Option ℕ)) (lines : ℕ → Chunks)
      → ((q : ℕ) (head : Option ℕ) → slice_get heads q ≡ Some head → (keys : List ℕ) × IsChain nodes q head keys (lines q))
      → (q : ℕ) (head : Option ℕ) → slice_get heads q ≡ Some head → (keys : List ℕ) × IsChain after q head keys (in_line queue (at_owned number change) lines q)
  line_changed heads lines chains q head has = at_line (q == queue) refl where
    keys : List ℕ
    keys = (chains q head has).0

    at_line : (b : Bool) → (q == queue) ≡ b → (keys : List ℕ) × IsChain after q head keys (cond b (at_owned number change (lines q)) (lines q))
    at_line true here =
        let e : queue ≡ q = sym (eqb-true q queue here) in
        let P : ℕ → Type 0 = λ n. IsChain nodes n head keys (lines q) → IsChain after n head keys (at_owned number change (lines q)) in
        (keys, subst P e (chain_changed head keys (lines q)) (chains q head has).1)
    at_line false not_here = (
      keys,
      chain_same nodes after q head keys (lines q) (λ j among. is.updates.others j (λ e.
          let there = in_chain nodes q head keys (lines q) j (chains q head has).1 among in
          let same : there.0 ≡ link = one_answer (get nodes key) there.0 link (ap (λ n. get nodes n) (sym e) ∙ there.1) is.stands in
          let is_queue : q ≡ queue = sym there.2 ∙ ap (λ (m : Link). m.queue) same ∙ is.mine in
          let P : ℕ → Type 0 = λ n. (n == queue) ≡ false in
          false≢true (sym (subst P is_queue not_here) ∙ eq-eqb queue queue refl))) (chains q head has).1,
    )
