-- A walk along a chain: it has no more nodes than there are, and what it meets first.
use Rattle.std.proofs.Common.{◌≡◌, ℕ, cond, zero, suc, ◌+◌, ◌≤◌, Option, None, Some, List, [], ◌∷◌, length, refl, sym, ap, subst, ◌∙◌, arith, get_or, set}
use Rattle.std.proofs.lemmas.List.{get_or-set_other}
use Rattle.std.proofs.lemmas.List.Sums.{sum_by-cons}
use Rattle.std.specs.Prelude.{count_by, is_some}
use Rattle.slab.specs.Slab.{Slab, get, slab_len}
use Rattle.queues.specs.Chunks.{Chunks}
use Rattle.queue_book.specs.Chains.{Link, chunk_of, IsChain}
use Rattle.queue_book.specs.Fronts.{first_open, open_or}
use Rattle.queue_book.specs.declared.live_frames.LiveFrames.{LiveFrames}
use Rattle.queue_book.proofs.ChainKept.{chain_same, apart_from}
use Rattle.queue_book.proofs.ChainFronts.{HasFirst, first_of, head_stands, no_chunks}

-- one value fewer
count_without : (slots : List (Option Link)) (key : ℕ) (link : Link) → get_or slots key None ≡ Some link → count_by is_some (set slots key None) + 1 ≡ count_by is_some slots
count_without [] key link stands = let never : None ≡ Some link = stands in absurd (cc)
count_without (slot ∷ slots) zero link stands =
    let P : Option Link → Type 0 = λ o. count_by is_some (None ∷ slots) + 1 ≡ count_by is_some (o ∷ slots) in
    let none = sum_by-cons (λ o. cond (is_some o) 1 0) None slots in
    let some = sum_by-cons (λ o. cond (is_some o) 1 0) (Some link) slots in
    subst P (sym stands) (omega (arith, none, some))
count_without (slot ∷ slots) (suc key) link stands =
    let rest = count_without slots key link stands in
    let now = sum_by-cons (λ o. cond (is_some o) 1 0) slot (set slots key None) in
    let was = sum_by-cons (λ o. cond (is_some o) 1 0) slot slots in
    omega (arith, rest, now, was)

abbrev without : Slab Link → ℕ → Slab Link
without nodes key = record nodes { slots = set nodes.slots key None }

without_one : (nodes : Slab Link) (key : ℕ) (link : Link) → get nodes key ≡ Some link → slab_len (without nodes key) + 1 ≡ slab_len nodes
without_one nodes key link stands = count_without nodes.slots key link stands

-- The keys of a chain are no more than the nodes.
pub chain_few : (nodes : Slab Link) (queue : ℕ) (head : Option ℕ) (keys : List ℕ) (chunks : Chunks) → IsChain nodes queue head keys chunks → length chunks ≤ slab_len nodes
chain_few nodes queue head [] [] is = omega arith
chain_few nodes queue head (k ∷ keys) [] is = absurd is
chain_few nodes queue head [] (chunk ∷ chunks) is = absurd is
chain_few nodes queue head (k ∷ keys) (chunk ∷ chunks) (l, at, stands, mine, chunk_is, apart, rest) =
    let fewer = without_one nodes k l stands in
    let behind : IsChain (without nodes k) queue l.next keys chunks =
    chain_same nodes (without nodes k) queue l.next keys chunks
    (λ j among. get_or-set_other nodes.slots k j None None (apart_from k j keys apart among)) rest in
    let most = chain_few (without nodes k) queue l.next keys chunks behind in
    omega (arith, fewer, most)

-- What is left of a walk: a chain from here on, that has as few chunks, and meets the same.
pub record IsWalked (frames : LiveFrames) (nodes : Slab Link) (frame queue turns : ℕ) (line : Chunks) (next : Option ℕ) : Type 0 where
  pub keys : List ℕ
  pub rest : Chunks
  pub chain : IsChain nodes queue next keys rest
  pub few : length rest + turns ≤ slab_len nodes
  pub same : first_open frames frame queue line ≡ first_open frames frame queue rest

module _ (frames : LiveFrames) (nodes : Slab Link) (frame queue : ℕ) where
  pub walk_starts : (head : Option ℕ) (keys : List ℕ) (line : Chunks) → IsChain nodes queue head keys line → IsWalked frames nodes frame queue 0 line head
  walk_starts head keys line is = record {
    keys = keys;
    rest = line;
    chain = is;
    few = let most = chain_few nodes queue head keys line is in omega (arith, most);
    same = refl;
  }

  -- where there is no node left
  pub walk_ends : (turns : ℕ) (line : Chunks) → IsWalked frames nodes frame queue turns line None → first_open frames frame queue line ≡ None
  walk_ends turns line is = is.same ∙ ap (first_open frames frame queue) (no_chunks nodes queue is.keys is.rest is.chain)

  -- something stands at a key
  pub walk_stands : (turns : ℕ) (line : Chunks) (key : ℕ) → IsWalked frames nodes frame queue turns line (Some key) → (link : Link) × (get nodes key ≡ Some link)
  walk_stands turns line key is = head_stands nodes queue key is.keys is.rest is.chain

  module _ (turns : ℕ) (line : Chunks) (key : ℕ) (link : Link) (stands : get nodes key ≡ Some link) (is : IsWalked frames nodes frame queue turns line (Some key)) where
    first : HasFirst nodes queue key link is.rest
    first = first_of nodes queue key link is.keys is.rest stands is.chain

    -- what the walk meets at it
    pub walk_meets : (found : Option ℕ) → ((rest : Option ℕ) → open_or frames frame queue link.owner rest ≡ found) → first_open frames frame queue line ≡ found
    walk_meets found meets = is.same ∙ ap (first_open frames frame queue) first.are ∙ meets (first_open frames frame queue first.rest)

    pub walk_goes_on : ((rest : Option ℕ) → open_or frames frame queue link.owner rest ≡ rest) → IsWalked frames nodes frame queue (turns + 1) line link.next
    walk_goes_on meets = record {
      keys = first.keys;
      rest = first.rest;
      chain = first.behind;
      few = let few = is.few in let many : length is.rest ≡ length (chunk_of link ∷ first.rest) = ap length first.are in omega (arith, few, many);
      same = is.same ∙ ap (first_open frames frame queue) first.are ∙ meets (first_open frames frame queue first.rest);
    }
