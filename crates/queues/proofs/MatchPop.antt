-- A pop takes the first item of the first chunk.
use Rattle.std.proofs.Common.{◌≡◌, ℕ, zero, suc, ◌+◌, true, false, cond, [], ◌∷◌, drop, Option, Some, None, refl, sym, ap, subst, ◌∙◌, arith}
use Rattle.std.proofs.lemmas.Option.{same_Some}
use Rattle.std.specs.Prelude.{slice_get}
use Rattle.swan_model.specs.declared.origin.Origin.{Origin}
use Rattle.swan_model.specs.declared.rights.Mode.TheVariants.{Pop}
use Rattle.swan_model.specs.declared.script.Deed.TheVariants as deed
use Rattle.swan_model.specs.declared.script.Script.{Script}
use Rattle.swan_model.specs.declared.value.Value.{Value}
use Rattle.swan_model.specs.Lawful.{IsLawful}
use Rattle.swan_model.specs.QueueFollows.{next_queue_deed, queue_point, taken_at}
use Rattle.swan_model.specs.QueueState.{ActiveFrame, QueueState, active, holds_queue}
use Rattle.swan_model.specs.Readings.{end_time}
use Rattle.swan_model.specs.Told.{pushes, taken}
use Rattle.swan_model.proofs.ScriptCounts.{taken_rises}
use Rattle.queues.specs.Chunks.{Chunk, Chunks, HasItems, HasTaken, IsOwner, Matches, goes_on_popping, owner_of, pops_at, without_first}
use Rattle.queues.specs.Chunks.HasItems.{chunk as items_chunk}
use Rattle.queues.specs.Chunks.HasTaken.{chunk as taken_chunk}
use Rattle.queues.proofs.MatchDeed.{HasDone, counts_stay, does, takes_later}
use Rattle.queues.proofs.MatchFront.{as_left, holds_now}
use Rattle.queues.proofs.MatchOwners.{OtherOwnersStay, IsOnce, none_changed, own_same}
use Rattle.queues.proofs.MatchParts.{NonePops, first_pops_none, items_from, owner_at, pops_on, rest_pops_none, taken_from}
use Rattle.queues.proofs.MatchSame.{CountsSame, counts_itself, items_same, pops_itself, PopsSame, taken_same}
use Rattle.queues.proofs.Segments.{segment_first, segment_rest}

module _ (s : Script) (state after : QueueState) (number : ℕ) (queue : Origin) (end n : ℕ) (frame later : ActiveFrame) (live : active state n ≡ Some frame) (now : active after n ≡ Some later)
    (path : later.path ≡ frame.path) (may : holds_queue later number Pop ≡ holds_queue frame number Pop) (pops : holds_queue frame number Pop ≡ true) where
  -- Where the first owner that may pop goes on, behind its chunk as much was popped as before, and up to it as much as by
  -- its point then.
  pub taken_moved : (chunks : Chunks) (at to index : ℕ) → HasTaken s state number queue end chunks at → OtherOwnersStay state after n chunks → IsOnce n chunks → IsOwner state chunks index n → NonePops state number chunks index
      → taken_at s later queue ≡ to → HasTaken s after number queue end chunks to
  taken_moved [] at to index has others once own none is_at = absurd (cc (own.stands))
  taken_moved (first ∷ chunks) at to zero has others once own none is_at =
      let parts = taken_from s state number queue end first chunks at has in
      let owns : first.owner ≡ Some n = ap (λ (c : Chunk). c.owner) (same_Some first own.chunk own.stands) ∙ own.owns in
      let was = owner_at state first n frame owns live in
      let is : owner_of after first ≡ Some later = owner_at after first n later owns now in
      let behind = none_changed state after n chunks (λ index chunk stands not. others (suc index) chunk stands not) (PopsSame s number queue) (pops_itself s number queue)
      (λ index too. let same = once 0 (suc index) first too.chunk refl too.stands owns too.owns in absurd (omega arith)) in
      let rest = taken_same s number queue state after end chunks (goes_on_popping s number queue (owner_of state first) at) parts.rest behind in
      let goes : goes_on_popping s number queue (owner_of state first) at ≡ goes_on_popping s number queue (owner_of after first) to =
      ap (λ o. goes_on_popping s number queue o at) was
      ∙ ap (λ b. cond b (taken s queue (end_time s frame.path)) at) pops
      ∙ ap (λ p. taken s queue (end_time s p)) (sym path)
      ∙ sym (ap (λ b. cond b (taken s queue (end_time s later.path)) to) (may ∙ pops))
      ∙ sym (ap (λ o. goes_on_popping s number queue o to) is) in
      taken_chunk first chunks to (subst (λ o. pops_at s number queue o to) (sym is) (λ is_popper. sym is_at))
      (subst (HasTaken s after number queue end chunks) goes rest)
  taken_moved (first ∷ chunks) at to (suc index) has others once own none is_at =
      let parts = taken_from s state number queue end first chunks at has in
      let same : owner_of after first ≡ owner_of state first = others 0 first refl (λ owns. let here = once 0 (suc index) first own.chunk refl own.stands owns own.owns in absurd (omega arith)) in
      let never = first_pops_none s state number queue end first chunks index none in
      let on = pops_on s state number queue end (owner_of state first) at never in
      let rest : HasTaken s state number queue end chunks at = subst (HasTaken s state number queue end chunks) on parts.rest in
      let further = taken_moved chunks at to index rest (λ i chunk stands not. others (suc i) chunk stands not)
      (λ i j a b one two mine too. let here = once (suc i) (suc j) a b one two mine too in omega arith)
      (record { chunk = own.chunk; stands = own.stands; owns = own.owns }) (rest_pops_none s state number queue end first chunks index none) is_at in
      let goes = pops_on s state number queue end (owner_of after first) to (λ f is. never f (sym same ∙ is)) in
      taken_chunk first chunks to (subst (λ o. pops_at s number queue o to) (sym same) (none_there (owner_of state first) never))
      (subst (HasTaken s after number queue end chunks) (sym goes) further)
    where
      none_there : (owner : Option ActiveFrame) → ((f : ActiveFrame) → owner ≡ Some f → holds_queue f number Pop ≡ false) → pops_at s number queue owner to
      none_there None never = tt
      none_there (Some f) never = λ is_popper. let both : true ≡ false = sym is_popper ∙ never f refl in absurd (cc)

module _ (s : Script) (lawful : IsLawful s) (state after : QueueState) (number : ℕ) (queue : Origin) (end n : ℕ)
    (frame later : ActiveFrame) (live : active state n ≡ Some frame) (now : active after n ≡ Some later) (done : HasDone number frame later)
    (pops : holds_queue frame number Pop ≡ true) (next : next_queue_deed s frame.path frame.deeds ≡ Some (deed.Pop queue)) where
  module _ (first : Chunk) (chunks : Chunks) (matches : Matches s state number queue end (first ∷ chunks)) (others : OtherOwnersStay state after n (first ∷ chunks)) (once : IsOnce n (first ∷ chunks)) (index : ℕ)
      (owner : IsOwner state (first ∷ chunks) index n) (none : NonePops state number (first ∷ chunks) index) (value : Value) (is : slice_get first.items 0 ≡ Some value) where
    more_taken : taken_at s later queue ≡ matches.left + 1
    more_taken =
        let finds = (holds_now s state number queue end first chunks matches index n frame owner live pops none value is).1 in
        let left = as_left s state number queue end first chunks matches index n frame owner live pops none in
        let rises = taken_rises s queue (queue_point s frame.path frame.deeds) (does s lawful number queue frame later done (deed.Pop queue) next refl) finds in
        let takes = takes_later s lawful number queue frame later done (deed.Pop queue) next refl in
        omega (arith, left, rises, takes)

    fewer : HasItems s after queue end (without_first (first ∷ chunks)) (matches.left + 1)
    fewer =
        let counts = own_same state after n (first ∷ chunks) others (CountsSame s queue) (counts_itself s queue) frame later live now (counts_stay s lawful number queue frame later done (deed.Pop queue) next refl refl) in
        let parts = items_from s after number queue end first chunks matches.left (items_same s queue state after end (first ∷ chunks) matches.left matches.items counts) in
        let here = segment_first (pushes s queue) matches.left parts.upto value (ap (λ items. slice_get items 0) (sym parts.content) ∙ is) in
        let order = here.0 in
        items_chunk (record { owner = first.owner; items = drop 1 first.items }) chunks (matches.left + 1) parts.upto (omega arith) parts.within
        (ap (drop 1) parts.content ∙ segment_rest (pushes s queue) matches.left parts.upto order) parts.ends parts.rest

    -- So the chunks match without that item.
    pub matches_popped : Matches s after number queue end (without_first (first ∷ chunks))
    matches_popped =
        let parts = taken_from s after number queue end first chunks (matches.left + 1) (taken_moved s state after number queue end n frame later live now done.path done.pops pops (first ∷ chunks) matches.left (matches.left + 1) index matches.taken others once owner none more_taken) in
        record { left = matches.left + 1; items = fewer; taken = taken_chunk (record { owner = first.owner; items = drop 1 first.items }) chunks (matches.left + 1) parts.pops parts.rest }
