-- How the chunks of queues stand in memory: each in a node, which has the queue's number and the key of the next one.
use Rattle.std.specs.Prelude.{◌≡◌, ◌≢◌, ℕ, ◌==◌, Bool, false, Option, Some, None, List, [], ◌∷◌, if◌then◌else◌, slice_get}
use Rattle.std.specs.List.{list_any}
use Rattle.slab.specs.Slab.{Slab, get}
use Rattle.swan_model.specs.declared.value.Value.{Value}
use Rattle.queues.specs.Chunks.{Chunk, Chunks}
use Rattle.queue_book.specs.declared.chains.Front.{Front}
use Rattle.queue_book.specs.declared.chains.Front.TheVariants as front

-- a node, in plain form
pub record Link : Type 0 where
  pub queue : ℕ
  pub owner : Option ℕ
  pub items : List Value
  pub next : Option ℕ

abbrev pub chunk_of : Link → Chunk
chunk_of link = record { owner = link.owner; items = link.items }

-- a key is one of these
abbrev pub is_among : ℕ → List ℕ → Bool
is_among key keys = list_any (λ other. other == key) keys

-- The chunks stand in the nodes of these keys, from the head on; all are of this queue, and no node stands twice.
abbrev pub IsChain : Slab Link → (queue : ℕ) → (head : Option ℕ) → List ℕ → Chunks → Type 0
IsChain nodes queue head [] [] = head ≡ None
IsChain nodes queue head (key ∷ keys) (chunk ∷ chunks) =
    (link : Link) × (head ≡ Some key) × (get nodes key ≡ Some link) × (link.queue ≡ queue) × (chunk ≡ chunk_of link)
    × (is_among key keys ≡ false) × IsChain nodes queue link.next keys chunks
IsChain nodes queue head [] (chunk ∷ chunks) = ⊥
IsChain nodes queue head (key ∷ keys) [] = ⊥

-- The chunks of each queue stand in a chain. What each frame has as its own chunk's node, by the frame's number and the
-- queue's, are exactly the nodes with that owner.
pub record AreChained (at : ℕ → ℕ → Option ℕ) (heads : List (Option ℕ)) (nodes : Slab Link) (lines : ℕ → Chunks) : Type 0 where
  pub chains : (queue : ℕ) (head : Option ℕ) → slice_get heads queue ≡ Some head → (keys : List ℕ) × IsChain nodes queue head keys (lines queue)
  pub owned : (number queue key : ℕ) → at number queue ≡ Some key → (link : Link) × (get nodes key ≡ Some link) × (link.owner ≡ Some number) × (link.queue ≡ queue)
  pub placed : (key number : ℕ) (link : Link) → get nodes key ≡ Some link → link.owner ≡ Some number → at number link.queue ≡ Some key

-- the same chunks but those of one queue
abbrev pub in_line : ℕ → (Chunks → Chunks) → (ℕ → Chunks) → ℕ → Chunks
in_line queue change lines other = if other == queue then change (lines other) else lines other

-- the same nodes but a frame's for one queue
abbrev pub put_at : (number queue : ℕ) → Option ℕ → (ℕ → ℕ → Option ℕ) → ℕ → ℕ → Option ℕ
put_at number queue key at other line = if other == number then (if line == queue then key else at other line) else at other line

-- what stands at the front
abbrev pub IsFront : Chunks → Front → Type 0
IsFront [] front.Over = Unit {0}
IsFront (chunk ∷ chunks) front.Item = chunk.items ≢ []
IsFront (chunk ∷ chunks) (front.Open owner) = (chunk.owner ≡ Some owner) × (chunk.items ≡ [])
IsFront [] front.Item = ⊥
IsFront [] (front.Open owner) = ⊥
IsFront (chunk ∷ chunks) front.Over = ⊥

-- the first item of the first chunk
abbrev pub first_item : Chunks → Option Value
first_item [] = None
first_item (chunk ∷ chunks) = slice_get chunk.items 0
