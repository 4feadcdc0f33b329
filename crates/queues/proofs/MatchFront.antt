-- What stands at the front of the chunks of a queue that match the script, and what that tells a frame which may pop it.
use Rattle.std.proofs.Common.{◌≡◌, ◌≢◌, ℕ, ◌≤◌, inl, inr, Bool, true, false, ◌&&◌, not, cond, nat_eq, nat_lt, List, [], ◌∷◌, filter, length, Option, Some, None, refl, sym, ap, subst, ◌∙◌, arith}
use Rattle.std.proofs.lemmas.Bool.{and_from, and_right, cases_Bool, false_from_ne_true, le-ltb, ltb-true, ne_eqb, not_from_false, or_from}
use Rattle.std.specs.List.{list_all}
use Rattle.std.specs.Option.{option_map_or}
use Rattle.std.specs.Prelude.{slice_get}
use Rattle.swan_model.specs.declared.origin.Origin.{Origin}
use Rattle.swan_model.specs.declared.rights.Mode.TheVariants.{Pop, Push}
use Rattle.swan_model.specs.declared.script.Script.{Script}
use Rattle.swan_model.specs.declared.value.Value.{Value}
use Rattle.swan_model.specs.QueueFollows.{count_at, is_done_among, is_ripe_among, active_may_push_too, next_item, queue_point, taken_at}
use Rattle.swan_model.specs.QueueState.{ActiveFrame, QueueState, active, holds_queue}
use Rattle.swan_model.specs.Ripe.{push_time}
use Rattle.swan_model.specs.Told.{first_items, pushes}
use Rattle.swan_model.proofs.ScriptCounts.{push_before}
use Rattle.queues.specs.Chunks.{Chunk, Chunks, HasItems, HasTaken, IsOwner, Matches, goes_on_at, is_spent, owner_of, without_spent}
use Rattle.queues.specs.Tells.{FindsItem, FindsNone}
use Rattle.swan_model.proofs.Elements.{filtered_each, found_is}
use Rattle.queues.proofs.MatchParts.{NonePops, OwnsAt, ends_before, items_from, left_is, owner_at, owns_at, taken_left_out, upto_is}
use Rattle.queues.proofs.Segments.{segment_empty, segment_first}
use Rattle.queues.proofs.Frames.{active_number}

spent_parts : (chunk : Chunk) → is_spent chunk ≡ true → (chunk.owner ≡ None) × (chunk.items ≡ [])
spent_parts chunk is = by chunk.owner chunk.items is where
  by : (owner : Option ℕ) (items : List Value) → is_spent (record { owner = owner; items = items }) ≡ true → (owner ≡ None) × (items ≡ [])
  by None [] is = (refl, refl)
  by None (item ∷ items) is = absurd (cc)
  by (Some number) [] is = absurd (cc)
  by (Some number) (item ∷ items) is = absurd (cc)

module _ (s : Script) (state : QueueState) (number : ℕ) (queue : Origin) (end : ℕ) where
  items_trimmed : (chunks : Chunks) (at : ℕ) → HasItems s state queue end chunks at → HasItems s state queue end (without_spent chunks) at
  items_trimmed [] at has = has
  items_trimmed (first ∷ chunks) at has = elim (cases_Bool (is_spent first)) [
    | inl spent ↦
        let both = spent_parts first spent in
        let parts = items_from s state number queue end first chunks at has in
        let none : owner_of state first ≡ None = owned_by both.0 in
        let same : parts.upto ≡ at = segment_empty (pushes s queue) at parts.upto parts.order parts.within (sym both.1 ∙ parts.content) in
        let on : goes_on_at s queue (owner_of state first) parts.upto ≡ at = ap (λ o. goes_on_at s queue o parts.upto) none ∙ same in
        let rest = items_trimmed chunks (goes_on_at s queue (owner_of state first) parts.upto) parts.rest in
        let here : HasItems s state queue end (without_spent chunks) at = subst (HasItems s state queue end (without_spent chunks)) on rest in
        subst (λ b. HasItems s state queue end (cond b (without_spent chunks) (first ∷ chunks)) at) (sym spent) here
    | inr stays ↦ subst (λ b. HasItems s state queue end (cond b (without_spent chunks) (first ∷ chunks)) at) (sym stays) has
  ]
    where
      owned_by : first.owner ≡ None → owner_of state first ≡ None
      owned_by none = ap (λ o. owner_of state (record { owner = o; items = first.items })) none

  taken_trimmed : (chunks : Chunks) (at : ℕ) → HasTaken s state number queue end chunks at → HasTaken s state number queue end (without_spent chunks) at
  taken_trimmed [] at has = has
  taken_trimmed (first ∷ chunks) at has = elim (cases_Bool (is_spent first)) [
    | inl spent ↦
        let here = taken_trimmed chunks at (taken_left_out s state number queue end [] chunks first at (spent_parts first spent).0 has) in
        subst (λ b. HasTaken s state number queue end (cond b (without_spent chunks) (first ∷ chunks)) at) (sym spent) here
    | inr stays ↦ subst (λ b. HasTaken s state number queue end (cond b (without_spent chunks) (first ∷ chunks)) at) (sym stays) has
  ]

  -- Without the spent chunks at the front the others match too.
  pub matches_trimmed : (chunks : Chunks) → Matches s state number queue end chunks → Matches s state number queue end (without_spent chunks)
  matches_trimmed chunks matches =
      record { left = matches.left; items = items_trimmed chunks matches.left matches.items; taken = taken_trimmed chunks matches.left matches.taken }

  -- Where the first chunk is the frame's own and has no item, the frame finds none.
  pub is_empty : (first : Chunk) (chunks : Chunks) → Matches s state number queue end (first ∷ chunks) → (n : ℕ) (frame : ActiveFrame) → active state n ≡ Some frame → holds_queue frame number Pop ≡ true
      → first.owner ≡ Some n → first.items ≡ [] → FindsNone frame s queue
  is_empty first chunks matches n frame live pops mine empty =
      let is = owner_at state first n frame mine live in
      let at : OwnsAt state (first ∷ chunks) 0 frame = record { chunk = first; stands = refl; owner = is } in
      let left = left_is s state number queue end (first ∷ chunks) matches.left 0 frame matches.taken at (λ before m other less. absurd (omega arith)) pops in
      let parts = items_from s state number queue end first chunks matches.left matches.items in
      let same = segment_empty (pushes s queue) matches.left parts.upto parts.order parts.within (sym empty ∙ parts.content) in
      let here = upto_is s state number queue end (owner_of state first) frame parts.upto is parts.ends in
      omega (arith, left, same, here)

  module _ (first : Chunk) (chunks : Chunks) (matches : Matches s state number queue end (first ∷ chunks)) (index n : ℕ) (frame : ActiveFrame)
      (owner : IsOwner state (first ∷ chunks) index n) (live : active state n ≡ Some frame) (pops : holds_queue frame number Pop ≡ true) (none : NonePops state number (first ∷ chunks) index) where
    own : OwnsAt state (first ∷ chunks) index frame
    own = owns_at state (first ∷ chunks) index n frame owner live

    -- as many items have left the queue as by the frame's point
    pub as_left : matches.left ≡ taken_at s frame queue
    as_left = left_is s state number queue end (first ∷ chunks) matches.left index frame matches.taken own none pops

    -- Where the first chunk has an item, the frame finds it.
    pub holds_now : (value : Value) → slice_get first.items 0 ≡ Some value → (next_item s frame queue ≡ Some value) × FindsItem frame s queue
    holds_now value is =
        let parts = items_from s state number queue end first chunks matches.left matches.items in
        let here = segment_first (pushes s queue) matches.left parts.upto value (ap (λ items. slice_get items 0) (sym parts.content) ∙ is) in
        let before = ends_before s state number queue end first chunks matches.left index frame parts own in
        let left = as_left in
        let order = here.0 in
        (ap (slice_get (pushes s queue)) (sym left) ∙ here.1, omega (arith, left, order, before))

    -- Where it is another one's, who may push, and has none, the next item isn't ripe.
    module _ (m : ℕ) (other : ActiveFrame) (theirs : first.owner ≡ Some m) (active_too : active state m ≡ Some other) (differ : m ≢ n) (may_push : holds_queue other number Push ≡ true) (empty : first.items ≡ []) where
      there : count_at s other queue ≡ taken_at s frame queue
      there =
          let parts = items_from s state number queue end first chunks matches.left matches.items in
          let same = segment_empty (pushes s queue) matches.left parts.upto parts.order parts.within (sym empty ∙ parts.content) in
          let here = upto_is s state number queue end (owner_of state first) other parts.upto (owner_at state first m other theirs active_too) parts.ends in
          omega (arith, as_left, same, here)

      few : length (first_items s queue) ≤ taken_at s frame queue
      few = omega (arith, there)

      other_too : active_may_push_too frame number other ≡ true
      other_too =
          let one = active_number state n frame live in
          let two = active_number state m other active_too in
          and_from (not (nat_eq other.number frame.number)) (holds_queue other number Push)
          (not_from_false (nat_eq other.number frame.number) (ne_eqb other.number frame.number (λ same. differ (sym two ∙ same ∙ one)))) may_push

      not_before : (t : ℕ) → push_time s queue (taken_at s frame queue) ≡ Some t
          → list_all (λ (f : ActiveFrame). nat_lt t (queue_point s f.path f.deeds)) (filter (active_may_push_too frame number) state.frames) ≡ false
      not_before t is = false_from_ne_true (list_all (λ (f : ActiveFrame). nat_lt t (queue_point s f.path f.deeds)) (filter (active_may_push_too frame number) state.frames)) (λ all.
          let found = found_is (λ (f : ActiveFrame). nat_eq f.number m) state.frames other active_too in
          let later = ltb-true t (queue_point s other.path other.deeds)
          (filtered_each (active_may_push_too frame number) (λ (f : ActiveFrame). nat_lt t (queue_point s f.path f.deeds)) state.frames found.index other all found.stands other_too) in
          let early = push_before s queue (taken_at s frame queue) t (queue_point s other.path other.deeds) few is (omega (arith, there)) in
          omega (arith, later, early))

      pub not_ripe : is_ripe_among s state frame number queue ≡ false
      not_ripe = or_from (nat_lt (taken_at s frame queue) (length (first_items s queue))) (after (push_time s queue (taken_at s frame queue)))
          (le-ltb (taken_at s frame queue) (length (first_items s queue)) few) (by (push_time s queue (taken_at s frame queue)) refl)
        where
          others : List ActiveFrame
          others = filter (active_may_push_too frame number) state.frames

          after : Option ℕ → Bool
          after found = option_map_or (λ t. is_done_among s state t && list_all (λ (f : ActiveFrame). nat_lt t (queue_point s f.path f.deeds)) others) found false

          by : (found : Option ℕ) → push_time s queue (taken_at s frame queue) ≡ found → after found ≡ false
          by None is = refl
          by (Some t) is = and_right (is_done_among s state t) (list_all (λ (f : ActiveFrame). nat_lt t (queue_point s f.path f.deeds)) others) (not_before t is)
