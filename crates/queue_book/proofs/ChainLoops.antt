-- What holds while chunks are dropped from the front of a queue.
use Rattle.std.proofs.Common.{◌≡◌, ◌≢◌, ℕ, Bool, true, false, ◌==◌, Option, ◌+◌, List, ◌∷◌, ◌++◌, drop, length, refl, sym, ap, subst, ◌∙◌, append_assoc, rules, arith}
use Rattle.std.proofs.lemmas.Bool.{false≢true, eqb-true, eq-eqb}
use Rattle.std.specs.Prelude.{if◌then◌else◌}
use Rattle.queues.specs.Chunks.{is_spent, Chunk, Chunks, without_spent, items_in}
use Rattle.queue_book.specs.Chains.{chunk_of, in_line, Link, AreChained}
use Rattle.slab.specs.Slab.{Slab, slab_len}
use Rattle.swan_model.specs.declared.value.Value.{Value}

-- some chunks of a queue are gone, with their nodes, and all other queues are as they were
pub record AreLeft (at : ℕ → ℕ → Option ℕ) (lines : ℕ → Chunks) (queue : ℕ) (start : Slab Link) (heads : List (Option ℕ)) (nodes : Slab Link) : Type 0 where
  pub now : ℕ → Chunks
  pub kept : AreChained at heads nodes now
  pub others : (q : ℕ) → q ≢ queue → now q ≡ lines q
  pub counts : slab_len nodes + length (lines queue) ≡ slab_len start + length (now queue)

-- spent chunks at the front are gone
pub record AreTrimmed (at : ℕ → ℕ → Option ℕ) (lines : ℕ → Chunks) (queue : ℕ) (start : Slab Link) (heads : List (Option ℕ)) (nodes : Slab Link) : Type 0 where
  pub left : AreLeft at lines queue start heads nodes
  pub same : without_spent (left.now queue) ≡ without_spent (lines queue)

-- the items of those that are gone were moved
pub record AreMoved (at : ℕ → ℕ → Option ℕ) (lines : ℕ → Chunks) (queue : ℕ) (start : Slab Link) (heads : List (Option ℕ)) (nodes : Slab Link) (items : List Value) : Type 0 where
  pub left : AreLeft at lines queue start heads nodes
  pub moved : items ++ items_in (left.now queue) ≡ items_in (lines queue)

pub line_same : (queue : ℕ) (change : Chunks → Chunks) (lines : ℕ → Chunks) → in_line queue change lines queue ≡ change (lines queue)
line_same queue change lines = ap (λ b. if b then change (lines queue) else lines queue) (eq-eqb queue queue refl)

pub line_other : (queue : ℕ) (change : Chunks → Chunks) (lines : ℕ → Chunks) (q : ℕ) → q ≢ queue → in_line queue change lines q ≡ lines q
line_other queue change lines q other =
    let e : (q == queue) ≡ false = search rules in
    ap (λ b. if b then change (lines q) else lines q) e

-- one queue's chunks are those, and the others are as before
pub line_is : (queue : ℕ) (change : Chunks → Chunks) (lines now : ℕ → Chunks) → now queue ≡ change (lines queue) → ((q : ℕ) → q ≢ queue → now q ≡ lines q)
    → (q : ℕ) → in_line queue change lines q ≡ now q
line_is queue change lines now same others q = at_line (q == queue) refl where
  at_line : (b : Bool) → (q == queue) ≡ b → (if b then change (lines q) else lines q) ≡ now q
  at_line true e = let here : q ≡ queue = eqb-true q queue e in ap (λ n. change (lines n)) here ∙ sym same ∙ ap now (sym here)
  at_line false e = sym (others q (λ here. let P : ℕ → Type 0 = λ n. (n == queue) ≡ false in false≢true (sym (subst P here e) ∙ eq-eqb queue queue refl)))

module _ (at : ℕ → ℕ → Option ℕ) (lines : ℕ → Chunks) (queue : ℕ) (start : Slab Link) (heads after : List (Option ℕ)) (nodes then_nodes : Slab Link)
    (fewer : slab_len then_nodes + 1 ≡ slab_len nodes) where
  pub counts_drop : (left : AreLeft at lines queue start heads nodes) (chunk : Chunk) (rest : Chunks) → left.now queue ≡ chunk ∷ rest
      → slab_len then_nodes + length (lines queue) ≡ slab_len start + length (in_line queue (λ chunks. drop 1 chunks) left.now queue)
  counts_drop left chunk rest are =
      let one : length (chunk ∷ rest) ≡ length rest + 1 = grind (arith) in
      let was : length (left.now queue) ≡ length rest + 1 = ap (λ (cs : Chunks). length cs) are ∙ one in
      let is : length (in_line queue (λ chunks. drop 1 chunks) left.now queue) ≡ length rest =
      ap (λ (cs : Chunks). length cs) (line_same queue (λ chunks. drop 1 chunks) left.now ∙ ap (λ (cs : Chunks). drop 1 cs) are) in
      let before = left.counts in
      omega arith

  -- one more is gone
  abbrev pub left_drop : (left : AreLeft at lines queue start heads nodes) (chunk : Chunk) (rest : Chunks) → left.now queue ≡ chunk ∷ rest
      → AreChained at after then_nodes (in_line queue (λ chunks. drop 1 chunks) left.now) → AreLeft at lines queue start after then_nodes
  left_drop left chunk rest are kept = record {
    now = in_line queue (λ chunks. drop 1 chunks) left.now;
    kept = kept;
    others = λ q other. line_other queue (λ chunks. drop 1 chunks) left.now q other ∙ left.others q other;
    counts = counts_drop left chunk rest are;
  }

  pub trimmed_drop : (was : AreTrimmed at lines queue start heads nodes) (chunk : Chunk) (rest : Chunks) → was.left.now queue ≡ chunk ∷ rest → is_spent chunk ≡ true
      → AreChained at after then_nodes (in_line queue (λ chunks. drop 1 chunks) was.left.now) → AreTrimmed at lines queue start after then_nodes
  trimmed_drop was chunk rest are spent kept = record {
    left = left_drop was.left chunk rest are kept;
    same =
        ap without_spent (line_same queue (λ chunks. drop 1 chunks) was.left.now ∙ ap (λ (cs : Chunks). drop 1 cs) are)
        ∙ sym (ap (λ b. if b then without_spent rest else chunk ∷ rest) spent) ∙ sym (ap without_spent are) ∙ was.same;
  }

  pub moved_drop : (items moved : List Value) (was : AreMoved at lines queue start heads nodes items) (link : Link) → was.left.now queue ≡ chunk_of link ∷ drop 1 (was.left.now queue)
      → moved ≡ items ++ link.items
      → AreChained at after then_nodes (in_line queue (λ chunks. drop 1 chunks) was.left.now) → AreMoved at lines queue start after then_nodes moved
  moved_drop items moved was link are is_moved kept = record {
    left = left_drop was.left (chunk_of link) (drop 1 (was.left.now queue)) are kept;
    moved =
        ap (λ (cs : Chunks). moved ++ items_in cs) (line_same queue (λ chunks. drop 1 chunks) was.left.now)
        ∙ ap (λ (vs : List Value). vs ++ items_in (drop 1 (was.left.now queue))) is_moved
        ∙ append_assoc items link.items (items_in (drop 1 (was.left.now queue)))
        ∙ ap (λ (cs : Chunks). items ++ items_in cs) (sym are) ∙ was.moved;
  }

module _ (at : ℕ → ℕ → Option ℕ) (lines : ℕ → Chunks) (queue : ℕ) (heads : List (Option ℕ)) (nodes : Slab Link) where
  abbrev pub left_none : AreChained at heads nodes lines → AreLeft at lines queue nodes heads nodes
  left_none is = record { now = lines; kept = is; others = λ q other. refl; counts = refl }
