-- One frame acts, and only its own chunk of a queue is altered: all the others match as before.
use Rattle.std.proofs.Common.{◌≡◌, inl, inr, ℕ, suc, true, false, nat_eq, [], ◌∷◌, Option, Some, None, refl, sym, ap, subst, ◌∙◌, append-nil, arith}
use Rattle.std.proofs.lemmas.Bool.{both_ways, cases_Bool, cases_order, eq-eqb, eqb-true}
use Rattle.std.specs.Option.{option_and_then, option_map_or}
use Rattle.std.specs.Prelude.{slice_get}
use Rattle.swan_model.specs.declared.origin.Origin.{Origin}
use Rattle.swan_model.specs.declared.script.Script.{Script}
use Rattle.swan_model.specs.PathOrder.{comes_before}
use Rattle.swan_model.specs.QueueState.{ActiveFrame, QueueState, active}
use Rattle.queues.specs.Chunks.{Chunk, Chunks, HasItems, HasOwners, HasTaken, IsOwner, ends_at, goes_on_at, goes_on_popping, is_owned, owner_of, pops_at}
use Rattle.queues.specs.Chunks.HasItems.{over as items_over, chunk as items_chunk}
use Rattle.queues.specs.Chunks.HasTaken.{over as taken_over, chunk as taken_chunk}
use Rattle.pop_order.specs.OneChange.{IsOnlyChange}
use Rattle.swan_model.proofs.PathOrder.{not_before-under}
use Rattle.queues.proofs.MatchParts.{ItemsFrom, TakenFrom, owner_at}
use Rattle.queues.proofs.MatchSame.{AreSame, Tell, counts_itself, items_same, pops_itself, taken_same, tell_equal}

pub owned_is : (n : ℕ) (chunk : Chunk) → is_owned n chunk ≡ true → chunk.owner ≡ Some n
owned_is n chunk is = by chunk.owner is where
  by : (owner : Option ℕ) → option_map_or (λ m. nat_eq m n) owner false ≡ true → owner ≡ Some n
  by None is = absurd (cc)
  by (Some m) is = ap Some (eqb-true m n is)

pub is_owner : (n : ℕ) (chunk : Chunk) → chunk.owner ≡ Some n → is_owned n chunk ≡ true
is_owner n chunk owns = ap (λ o. option_map_or (λ m. nat_eq m n) o false) owns ∙ eq-eqb n n refl

owner_cases : (n : ℕ) (owner : Option ℕ) → (owner ≡ Some n → ⊥) → ((m : ℕ) → owner ≡ Some m → m ≡ n → ⊥)
owner_cases n owner not m is same = not (is ∙ ap Some same)

-- no two chunks are this frame's
abbrev pub IsOnce : ℕ → Chunks → Type 0
IsOnce n chunks = (i j : ℕ) (a b : Chunk) → slice_get chunks i ≡ Some a → slice_get chunks j ≡ Some b → a.owner ≡ Some n → b.owner ≡ Some n → i ≡ j

-- the owners of the chunks that aren't this frame's are as they were
abbrev pub OtherOwnersStay : QueueState → QueueState → ℕ → Chunks → Type 0
OtherOwnersStay state after n chunks = (index : ℕ) (chunk : Chunk) → slice_get chunks index ≡ Some chunk → (chunk.owner ≡ Some n → ⊥) → owner_of after chunk ≡ owner_of state chunk

pub other_owners : (state after : QueueState) (n : ℕ) (now : Option ActiveFrame) (chunks : Chunks) → IsOnlyChange (active state) (active after) n now → OtherOwnersStay state after n chunks
other_owners state after n now chunks one index chunk stands not = by chunk.owner (owner_cases n chunk.owner not) where
  by : (owner : Option ℕ) → ((m : ℕ) → owner ≡ Some m → m ≡ n → ⊥) → option_and_then (active after) owner ≡ option_and_then (active state) owner
  by None differ = refl
  by (Some m) differ = one.others m (differ m refl)

-- an active frame owns one chunk of a queue at most
pub owns_once : (state : QueueState) (queue : ℕ) (chunks : Chunks) (n : ℕ) → HasOwners state queue chunks → IsOnce n chunks
owns_once state queue chunks n has i j a b first second owns too =
    let one : IsOwner state chunks i n = record { chunk = a; stands = first; owns = owns } in
    let two : IsOwner state chunks j n = record { chunk = b; stands = second; owns = too } in
    let frame = has.owners i n one in
    let never : comes_before frame.0.path frame.0.path ≡ true → ⊥ =
    λ is. not_before-under frame.0.path [] (ap (comes_before frame.0.path) (append-nil frame.0.path) ∙ is) in
    elim (cases_order i j) [
      | inl same ↦ same
      | inr apart ↦ elim apart [
        | inl before ↦ absurd (never (has.order i j n n frame.0 frame.0 before one two frame.1 frame.1))
        | inr after ↦ absurd (never (has.order j i n n frame.0 frame.0 after two one frame.1 frame.1))
      ]
    ]

-- Where the frame's own chunk is as it was too, each owner tells the same.
module _ (state after : QueueState) (n : ℕ) (chunks : Chunks) (others : OtherOwnersStay state after n chunks) (Same : ActiveFrame → ActiveFrame → Type 0) (itself : (a : ActiveFrame) → Same a a) where
  pub none_changed : ((index : ℕ) → IsOwner state chunks index n → ⊥) → AreSame state after Same chunks
  none_changed not index chunk stands =
      tell_equal Same itself (owner_of state chunk) (owner_of after chunk) (others index chunk stands (λ owns. not index (record { chunk = chunk; stands = stands; owns = owns })))

  pub own_same : (frame later : ActiveFrame) → active state n ≡ Some frame → active after n ≡ Some later → Same frame later → AreSame state after Same chunks
  own_same frame later live now same index chunk stands = elim (cases_Bool (is_owned n chunk)) [
    | inl mine ↦
        let owns = owned_is n chunk mine in
        subst (λ a. Tell Same a (owner_of after chunk)) (sym (owner_at state chunk n frame owns live)) (subst (Tell Same (Some frame)) (sym (owner_at after chunk n later owns now)) same)
    | inr other ↦
        tell_equal Same itself (owner_of state chunk) (owner_of after chunk) (others index chunk stands (λ owns. both_ways (is_owned n chunk) other (is_owner n chunk owns)))
  ]

-- what is made of the first chunk that a frame owns, and of the chunks behind it
pub record Alters (n : ℕ) (alter : Chunks → Chunks) (make : Chunk → Chunks → Chunks) : Type 0 where
  pub none : alter [] ≡ []
  pub mine : (first : Chunk) (chunks : Chunks) → is_owned n first ≡ true → alter (first ∷ chunks) ≡ make first chunks
  pub other : (first : Chunk) (chunks : Chunks) → is_owned n first ≡ false → alter (first ∷ chunks) ≡ first ∷ alter chunks

module _ (s : Script) (state after : QueueState) (number : ℕ) (queue : Origin) (end n : ℕ) (alter : Chunks → Chunks) (make : Chunk → Chunks → Chunks) (alters : Alters n alter make) where
  rest_others : (first : Chunk) (chunks : Chunks) → OtherOwnersStay state after n (first ∷ chunks) → OtherOwnersStay state after n chunks
  rest_others first chunks others index chunk stands not = others (suc index) chunk stands not

  rest_once : (first : Chunk) (chunks : Chunks) → IsOnce n (first ∷ chunks) → IsOnce n chunks
  rest_once first chunks once i j a b one two owns too = let same = once (suc i) (suc j) a b one two owns too in omega arith

  -- behind the frame's chunk stand those of others
  behind : (Same : ActiveFrame → ActiveFrame → Type 0) → ((a : ActiveFrame) → Same a a) → (first : Chunk) (chunks : Chunks) → OtherOwnersStay state after n (first ∷ chunks) → IsOnce n (first ∷ chunks) → first.owner ≡ Some n
      → AreSame state after Same chunks
  behind Same itself first chunks others once owns =
      none_changed state after n chunks (rest_others first chunks others) Same itself (λ index is. let same = once 0 (suc index) first is.chunk refl is.stands owns is.owns in absurd (omega arith))

  not_mine : (first : Chunk) (chunks : Chunks) → OtherOwnersStay state after n (first ∷ chunks) → is_owned n first ≡ false → owner_of after first ≡ owner_of state first
  not_mine first chunks others other = others 0 first refl (λ owns. both_ways (is_owned n first) other (is_owner n first owns))

  pub items_altered : (chunks : Chunks) (at : ℕ) → HasItems s state queue end chunks at → OtherOwnersStay state after n chunks → IsOnce n chunks
      → ((first : Chunk) (rest : Chunks) (at : ℕ) → first.owner ≡ Some n → (parts : ItemsFrom s state number queue end first rest at)
      → HasItems s after queue end rest (goes_on_at s queue (owner_of state first) parts.upto) → HasItems s after queue end (make first rest) at)
      → HasItems s after queue end (alter chunks) at
  items_altered _ _ (items_over at is) others once step = subst (λ c. HasItems s after queue end c at) (sym alters.none) (items_over at is)
  items_altered _ _ (items_chunk first chunks at upto order within content ends rest) others once step = elim (cases_Bool (is_owned n first)) [
    | inl mine ↦
        let owns = owned_is n first mine in
        let next = goes_on_at s queue (owner_of state first) upto in
        let parts : ItemsFrom s state number queue end first chunks at = record { upto = upto; order = order; within = within; content = content; ends = ends; rest = rest } in
        let rest_too = items_same s queue state after end chunks next rest (behind _ (counts_itself s queue) first chunks others once owns) in
        subst (λ c. HasItems s after queue end c at) (sym (alters.mine first chunks mine)) (step first chunks at owns parts rest_too)
    | inr other ↦
        let same = not_mine first chunks others other in
        let next = goes_on_at s queue (owner_of state first) upto in
        let further = items_altered chunks next rest (rest_others first chunks others) (rest_once first chunks once) step in
        let on : HasItems s after queue end (alter chunks) (goes_on_at s queue (owner_of after first) upto) = subst (λ o. HasItems s after queue end (alter chunks) (goes_on_at s queue o upto)) (sym same) further in
        subst (λ c. HasItems s after queue end c at) (sym (alters.other first chunks other))
        (items_chunk first (alter chunks) at upto order within content (subst (λ o. ends_at s queue o upto) (sym same) ends) on)
  ]

  pub taken_altered : (chunks : Chunks) (at : ℕ) → HasTaken s state number queue end chunks at → OtherOwnersStay state after n chunks → IsOnce n chunks
      → ((first : Chunk) (rest : Chunks) (at : ℕ) → first.owner ≡ Some n → (parts : TakenFrom s state number queue end first rest at)
      → HasTaken s after number queue end rest (goes_on_popping s number queue (owner_of state first) at) → HasTaken s after number queue end (make first rest) at)
      → HasTaken s after number queue end (alter chunks) at
  taken_altered _ _ (taken_over at is) others once step = subst (λ c. HasTaken s after number queue end c at) (sym alters.none) (taken_over at is)
  taken_altered _ _ (taken_chunk first chunks at pops rest) others once step = elim (cases_Bool (is_owned n first)) [
    | inl mine ↦
        let owns = owned_is n first mine in
        let next = goes_on_popping s number queue (owner_of state first) at in
        let parts : TakenFrom s state number queue end first chunks at = record { pops = pops; rest = rest } in
        let rest_too = taken_same s number queue state after end chunks next rest (behind _ (pops_itself s number queue) first chunks others once owns) in
        subst (λ c. HasTaken s after number queue end c at) (sym (alters.mine first chunks mine)) (step first chunks at owns parts rest_too)
    | inr other ↦
        let same = not_mine first chunks others other in
        let next = goes_on_popping s number queue (owner_of state first) at in
        let further = taken_altered chunks next rest (rest_others first chunks others) (rest_once first chunks once) step in
        let on : HasTaken s after number queue end (alter chunks) (goes_on_popping s number queue (owner_of after first) at) = subst (λ o. HasTaken s after number queue end (alter chunks) (goes_on_popping s number queue o at)) (sym same) further in
        subst (λ c. HasTaken s after number queue end c at) (sym (alters.other first chunks other))
        (taken_chunk first (alter chunks) at (subst (λ o. pops_at s number queue o at) (sym same) pops) on)
  ]
