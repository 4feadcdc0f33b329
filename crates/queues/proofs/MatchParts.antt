-- What a match says of the first chunk, and of a chunk further on.
use Rattle.std.proofs.Common.{◌≡◌, ℕ, zero, suc, ◌<◌, ◌≤◌, inl, inr, true, false, cond, List, [], ◌∷◌, ◌++◌, length, Option, Some, None, refl, sym, ap, subst, ◌∙◌, arith}
use Rattle.std.proofs.lemmas.Option.{same_Some}
use Rattle.std.proofs.lemmas.Bool.{cases_lt}
use Rattle.std.specs.Option.{option_and_then}
use Rattle.std.specs.Prelude.{slice_get}
use Rattle.swan_model.specs.declared.origin.Origin.{Origin}
use Rattle.swan_model.specs.declared.rights.Mode.TheVariants.{Pop}
use Rattle.swan_model.specs.declared.script.Script.{Script}
use Rattle.swan_model.specs.Nested.{IsEntryOf}
use Rattle.swan_model.specs.QueueFollows.{count_at, queue_point, queue_time, queue_times, taken_at}
use Rattle.swan_model.specs.QueueState.{ActiveFrame, QueueState, active, holds_queue}
use Rattle.swan_model.specs.Readings.{end_time}
use Rattle.swan_model.specs.Told.{pushes, taken}
use Rattle.swan_model.proofs.ScriptCounts.{count_mono}
use Rattle.queues.specs.Chunks.{Chunk, Chunks, HasItems, HasTaken, IsOwner, ends_at, goes_on_at, goes_on_popping, owner_of, pops_at}
use Rattle.queues.specs.Chunks.HasItems.{chunk as items_chunk}
use Rattle.queues.specs.Chunks.HasTaken.{chunk as taken_chunk}
use Rattle.queues.proofs.Between.{deed_left, own_last, point_left, point_over}
use Rattle.queues.proofs.Segments.{segment}

-- a task's point among queues is not after its end
pub point_within : (s : Script) (path : List ℕ) (deeds : ℕ) → queue_point s path deeds ≤ end_time s path
point_within s path deeds = elim (cases_lt deeds (length (queue_times s path))) [
  | inl left ↦
      let at = deed_left s path deeds left in
      let own : IsEntryOf s path (queue_time s path deeds) = record { entry = at.entry; stands = at.stands; own = at.own } in
      omega (arith, point_left s path deeds left, own_last s path (queue_time s path deeds) own)
  | inr none ↦ omega (arith, point_over s path deeds none)
]

-- the active frame that owns a chunk
pub record HasOwner (state : QueueState) (chunk : Chunk) (frame : ActiveFrame) : Type 0 where
  pub number : ℕ
  pub owns : chunk.owner ≡ Some number
  pub live : active state number ≡ Some frame

pub owner_is : (state : QueueState) (chunk : Chunk) (frame : ActiveFrame) → owner_of state chunk ≡ Some frame → HasOwner state chunk frame
owner_is state chunk frame is = by chunk.owner refl is where
  by : (o : Option ℕ) → chunk.owner ≡ o → option_and_then (active state) o ≡ Some frame → HasOwner state chunk frame
  by None owns is = absurd (cc)
  by (Some number) owns is = record { number = number; owns = owns; live = is }

pub owner_at : (state : QueueState) (chunk : Chunk) (number : ℕ) (frame : ActiveFrame) → chunk.owner ≡ Some number → active state number ≡ Some frame → owner_of state chunk ≡ Some frame
owner_at state chunk number frame owns live = ap (option_and_then (active state)) owns ∙ live

-- an active frame owns the chunk at this index
pub record OwnsAt (state : QueueState) (chunks : Chunks) (index : ℕ) (frame : ActiveFrame) : Type 0 where
  pub chunk : Chunk
  pub stands : slice_get chunks index ≡ Some chunk
  pub owner : owner_of state chunk ≡ Some frame

pub owns_at : (state : QueueState) (chunks : Chunks) (index number : ℕ) (frame : ActiveFrame) → IsOwner state chunks index number → active state number ≡ Some frame → OwnsAt state chunks index frame
owns_at state chunks index number frame is live =
    record { chunk = is.chunk; stands = is.stands; owner = owner_at state is.chunk number frame is.owns live }

pub owns_first : (state : QueueState) (first : Chunk) (chunks : Chunks) (frame : ActiveFrame) → OwnsAt state (first ∷ chunks) 0 frame → owner_of state first ≡ Some frame
owns_first state first chunks frame is =
    let same : first ≡ is.chunk = same_Some first is.chunk is.stands in
    ap (owner_of state) same ∙ is.owner

pub owns_rest : (state : QueueState) (first : Chunk) (chunks : Chunks) (index : ℕ) (frame : ActiveFrame) → OwnsAt state (first ∷ chunks) (suc index) frame → OwnsAt state chunks index frame
owns_rest state first chunks index frame is = record { chunk = is.chunk; stands = is.stands; owner = is.owner }

-- no owner before this index may pop the queue
abbrev pub NonePops : QueueState → ℕ → Chunks → ℕ → Type 0
NonePops state queue chunks index =
    (before n : ℕ) (frame : ActiveFrame) → before < index → IsOwner state chunks before n → active state n ≡ Some frame → holds_queue frame queue Pop ≡ false

module _ (s : Script) (state : QueueState) (number : ℕ) (queue : Origin) (end : ℕ) where
  -- what stands in the first chunk
  pub record ItemsFrom (first : Chunk) (chunks : Chunks) (at : ℕ) : Type 0 where
    pub upto : ℕ
    pub order : at ≤ upto
    pub within : upto ≤ length (pushes s queue)
    pub content : first.items ≡ segment at upto (pushes s queue)
    pub ends : ends_at s queue (owner_of state first) upto
    pub rest : HasItems s state queue end chunks (goes_on_at s queue (owner_of state first) upto)

  pub items_from : (first : Chunk) (chunks : Chunks) (at : ℕ) → HasItems s state queue end (first ∷ chunks) at → ItemsFrom first chunks at
  items_from _ _ _ (items_chunk first chunks at upto order within content ends rest) =
      record { upto = upto; order = order; within = within; content = content; ends = ends; rest = rest }

  pub record TakenFrom (first : Chunk) (chunks : Chunks) (at : ℕ) : Type 0 where
    pub pops : pops_at s number queue (owner_of state first) at
    pub rest : HasTaken s state number queue end chunks (goes_on_popping s number queue (owner_of state first) at)

  pub taken_from : (first : Chunk) (chunks : Chunks) (at : ℕ) → HasTaken s state number queue end (first ∷ chunks) at → TakenFrom first chunks at
  taken_from _ _ _ (taken_chunk first chunks at pops rest) = record { pops = pops; rest = rest }

  -- a chunk that nobody owns tells nothing of what is taken
  pub taken_left_out : (before after : Chunks) (gone : Chunk) (at : ℕ) → gone.owner ≡ None → HasTaken s state number queue end (before ++ gone ∷ after) at → HasTaken s state number queue end (before ++ after) at
  taken_left_out [] after gone at none has =
      subst (λ (o : Option ℕ). HasTaken s state number queue end after (goes_on_popping s number queue (option_and_then (active state) o) at)) none (taken_from gone after at has).rest
  taken_left_out (chunk ∷ before) after gone at none has =
      let parts = taken_from chunk (before ++ gone ∷ after) at has in
      taken_chunk chunk (before ++ after) at parts.pops (taken_left_out before after gone (goes_on_popping s number queue (owner_of state chunk) at) none parts.rest)

  -- a chunk ends where its owner's point is
  pub upto_is : (owner : Option ActiveFrame) (frame : ActiveFrame) (upto : ℕ) → owner ≡ Some frame → ends_at s queue owner upto → upto ≡ count_at s frame queue
  upto_is owner frame upto is ends = subst (λ o. ends_at s queue o upto) is ends

  goes_up : (owner : Option ActiveFrame) (upto : ℕ) → ends_at s queue owner upto → upto ≤ goes_on_at s queue owner upto
  goes_up None upto ends = omega arith
  goes_up (Some frame) upto ends = omega (arith, ends, count_mono s queue (queue_point s frame.path frame.deeds) (end_time s frame.path) (point_within s frame.path frame.deeds))

  -- no chunk further on ends before the first begins
  pub begins_before : (chunks : Chunks) (at index : ℕ) (frame : ActiveFrame) → HasItems s state queue end chunks at → OwnsAt state chunks index frame → at ≤ count_at s frame queue
  begins_before [] at index frame has own = absurd (cc (own.stands))
  begins_before (first ∷ chunks) at zero frame has own =
      let parts = items_from first chunks at has in
      let here = upto_is (owner_of state first) frame parts.upto (owns_first state first chunks frame own) parts.ends in
      omega (arith, here, parts.order)
  begins_before (first ∷ chunks) at (suc index) frame has own =
      let parts = items_from first chunks at has in
      let later = begins_before chunks (goes_on_at s queue (owner_of state first) parts.upto) index frame parts.rest (owns_rest state first chunks index frame own) in
      omega (arith, parts.order, goes_up (owner_of state first) parts.upto parts.ends, later)

  -- nor before the first ends
  pub ends_before : (first : Chunk) (chunks : Chunks) (at index : ℕ) (frame : ActiveFrame) (parts : ItemsFrom first chunks at) → OwnsAt state (first ∷ chunks) index frame → parts.upto ≤ count_at s frame queue
  ends_before first chunks at zero frame parts own =
      let here = upto_is (owner_of state first) frame parts.upto (owns_first state first chunks frame own) parts.ends in
      omega (arith, here)
  ends_before first chunks at (suc index) frame parts own =
      let later = begins_before chunks (goes_on_at s queue (owner_of state first) parts.upto) index frame parts.rest (owns_rest state first chunks index frame own) in
      omega (arith, goes_up (owner_of state first) parts.upto parts.ends, later)

  -- an owner that may not pop leaves what was popped
  pub pops_on : (owner : Option ActiveFrame) (at : ℕ) → ((frame : ActiveFrame) → owner ≡ Some frame → holds_queue frame number Pop ≡ false) → goes_on_popping s number queue owner at ≡ at
  pops_on None at none = refl
  pops_on (Some frame) at none = ap (λ b. cond b (taken s queue (end_time s frame.path)) at) (none frame refl)

  pub first_pops_none : (first : Chunk) (chunks : Chunks) (index : ℕ) → NonePops state number (first ∷ chunks) (suc index) → (frame : ActiveFrame) → owner_of state first ≡ Some frame → holds_queue frame number Pop ≡ false
  first_pops_none first chunks index none frame is =
      let owner = owner_is state first frame is in
      none 0 owner.number frame (omega arith) (record { chunk = first; stands = refl; owns = owner.owns }) owner.live

  pub rest_pops_none : (first : Chunk) (chunks : Chunks) (index : ℕ) → NonePops state number (first ∷ chunks) (suc index) → NonePops state number chunks index
  rest_pops_none first chunks index none before n frame less own live =
      none (suc before) n frame (omega arith) (record { chunk = own.chunk; stands = own.stands; owns = own.owns }) live

  -- so as much has left the queue as by the point of the first that may pop it
  pub left_is : (chunks : Chunks) (at index : ℕ) (frame : ActiveFrame) → HasTaken s state number queue end chunks at → OwnsAt state chunks index frame → NonePops state number chunks index
      → holds_queue frame number Pop ≡ true → at ≡ taken_at s frame queue
  left_is [] at index frame has own none pops = absurd (cc (own.stands))
  left_is (first ∷ chunks) at zero frame has own none pops =
      let parts = taken_from first chunks at has in
      let mine : pops_at s number queue (Some frame) at = subst (λ o. pops_at s number queue o at) (owns_first state first chunks frame own) parts.pops in
      mine pops
  left_is (first ∷ chunks) at (suc index) frame has own none pops =
      let parts = taken_from first chunks at has in
      let further = left_is chunks (goes_on_popping s number queue (owner_of state first) at) index frame parts.rest (owns_rest state first chunks index frame own) (rest_pops_none first chunks index none) pops in
      sym (pops_on (owner_of state first) at (first_pops_none first chunks index none)) ∙ further
