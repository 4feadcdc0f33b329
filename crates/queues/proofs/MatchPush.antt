-- A push adds its item to the chunk of the frame that pushes.
use Rattle.std.proofs.Common.{◌≡◌, ℕ, ◌+◌, cond, [], ◌∷◌, ◌++◌, Some, refl, sym, ap, subst, ◌∙◌, arith}
use Rattle.std.specs.Prelude.{slice_get}
use Rattle.swan_model.specs.declared.origin.Origin.{Origin}
use Rattle.swan_model.specs.declared.rights.Mode.TheVariants.{Pop}
use Rattle.swan_model.specs.declared.script.Deed.TheVariants as deed
use Rattle.swan_model.specs.declared.script.Script.{Script}
use Rattle.swan_model.specs.declared.value.Value.{Value}
use Rattle.swan_model.specs.Lawful.{IsLawful}
use Rattle.swan_model.specs.QueueFollows.{count_at, next_queue_deed, queue_point}
use Rattle.swan_model.specs.QueueState.{ActiveFrame, QueueState, active, holds_queue}
use Rattle.swan_model.specs.Readings.{end_time}
use Rattle.swan_model.specs.Told.{count, pushes, taken}
use Rattle.swan_model.proofs.ScriptCounts.{count_le, count_rises}
use Rattle.queues.specs.Chunks.{Chunk, Chunks, HasItems, HasTaken, Matches, ends_at, goes_on_at, goes_on_popping, owner_of, pops_at, with_item}
use Rattle.queues.specs.Chunks.HasItems.{chunk as items_chunk}
use Rattle.queues.specs.Chunks.HasTaken.{chunk as taken_chunk}
use Rattle.queues.proofs.MatchOwners.{Alters, OtherOwnersStay, IsOnce, items_altered, taken_altered}
use Rattle.queues.proofs.MatchParts.{ItemsFrom, TakenFrom, owner_at, upto_is}
use Rattle.queues.proofs.MatchSame.{PopsSame}
use Rattle.queues.proofs.Segments.{segment_more}
use Rattle.queues.proofs.MatchDeed.{HasDone, counts_later, does, pops_stay}

abbrev pushed_to : Value → Chunk → Chunks → Chunks
pushed_to value first rest = record { owner = first.owner; items = first.items ++ value ∷ [] } ∷ rest

module _ (s : Script) (lawful : IsLawful s) (state after : QueueState) (number : ℕ) (queue : Origin) (end n : ℕ) (chunks : Chunks) (matches : Matches s state number queue end chunks)
    (others : OtherOwnersStay state after n chunks) (frame later : ActiveFrame) (live : active state n ≡ Some frame) (now : active after n ≡ Some later) (done : HasDone number frame later) where
  module _ (once : IsOnce n chunks) (value : Value) (next : next_queue_deed s frame.path frame.deeds ≡ Some (deed.Push queue value)) where
    pushes_there : Alters n (with_item n value) (pushed_to value)
    pushes_there =
        record {
          none = refl;
          mine = λ first rest mine. ap (λ b. cond b (pushed_to value first rest) (first ∷ with_item n value rest)) mine;
          other = λ first rest other. ap (λ b. cond b (pushed_to value first rest) (first ∷ with_item n value rest)) other;
        }

    items_pushed : (first : Chunk) (rest : Chunks) (at : ℕ) → first.owner ≡ Some n → (parts : ItemsFrom s state number queue end first rest at)
        → HasItems s after queue end rest (goes_on_at s queue (owner_of state first) parts.upto) → HasItems s after queue end (pushed_to value first rest) at
    items_pushed first rest at owns parts on =
        let t = queue_point s frame.path frame.deeds in
        let was = owner_at state first n frame owns live in
        let is : owner_of after first ≡ Some later = owner_at after first n later owns now in
        let here : parts.upto ≡ count s queue t = upto_is s state number queue end (owner_of state first) frame parts.upto was parts.ends in
        let rises = count_rises s queue t value (does s lawful number queue frame later done (deed.Push queue value) next refl) in
        let counts = counts_later s lawful number queue frame later done (deed.Push queue value) next refl in
        let stands : slice_get (pushes s queue) parts.upto ≡ Some value = ap (slice_get (pushes s queue)) here ∙ rises.1 in
        let upto : parts.upto + 1 ≡ count_at s later queue = omega (arith, here, counts, rises.0) in
        let goes : goes_on_at s queue (owner_of state first) parts.upto ≡ goes_on_at s queue (owner_of after first) (parts.upto + 1) =
        ap (λ o. goes_on_at s queue o parts.upto) was ∙ ap (λ p. count s queue (end_time s p)) (sym done.path) ∙ sym (ap (λ o. goes_on_at s queue o (parts.upto + 1)) is) in
        items_chunk (record { owner = first.owner; items = first.items ++ value ∷ [] }) rest at (parts.upto + 1) (omega (arith, parts.order))
        (omega (arith, upto, count_le s queue (queue_point s later.path later.deeds)))
        (ap (λ items. items ++ value ∷ []) parts.content ∙ sym (segment_more (pushes s queue) at parts.upto value parts.order stands))
        (subst (λ o. ends_at s queue o (parts.upto + 1)) (sym is) upto)
        (subst (HasItems s after queue end rest) goes on)

    same_takes : PopsSame s number queue frame later
    same_takes = pops_stay s lawful number queue frame later done (deed.Push queue value) next refl (λ is. absurd (cc))

    taken_pushed : (first : Chunk) (rest : Chunks) (at : ℕ) → first.owner ≡ Some n → (parts : TakenFrom s state number queue end first rest at)
        → HasTaken s after number queue end rest (goes_on_popping s number queue (owner_of state first) at) → HasTaken s after number queue end (pushed_to value first rest) at
    taken_pushed first rest at owns parts on =
        let was = owner_at state first n frame owns live in
        let is : owner_of after first ≡ Some later = owner_at after first n later owns now in
        let mine : pops_at s number queue (Some frame) at = subst (λ o. pops_at s number queue o at) was parts.pops in
        let pops : pops_at s number queue (Some later) at = λ may. mine (sym same_takes.pops ∙ may) ∙ sym same_takes.takes in
        let goes : goes_on_popping s number queue (owner_of state first) at ≡ goes_on_popping s number queue (owner_of after first) at =
        ap (λ o. goes_on_popping s number queue o at) was
        ∙ ap (λ p. cond (holds_queue frame number Pop) (taken s queue (end_time s p)) at) (sym done.path)
        ∙ ap (λ may. cond may (taken s queue (end_time s later.path)) at) (sym same_takes.pops)
        ∙ sym (ap (λ o. goes_on_popping s number queue o at) is) in
        taken_chunk (record { owner = first.owner; items = first.items ++ value ∷ [] }) rest at
        (subst (λ o. pops_at s number queue o at) (sym is) pops)
        (subst (HasTaken s after number queue end rest) goes on)

    -- A push adds its item to the frame's own chunk.
    pub matches_pushed : Matches s after number queue end (with_item n value chunks)
    matches_pushed =
        record {
          left = matches.left;
          items = items_altered s state after number queue end n (with_item n value) (pushed_to value) pushes_there chunks matches.left matches.items others once items_pushed;
          taken = taken_altered s state after number queue end n (with_item n value) (pushed_to value) pushes_there chunks matches.left matches.taken others once taken_pushed;
        }
