-- The end of a frame closes its chunk of each queue.
use Rattle.std.proofs.Common.{◌≡◌, ℕ, ◌<◌, Bool, true, false, cond, ◌∷◌, length, Some, None, refl, sym, ap, subst, ◌∙◌}
use Rattle.swan_model.specs.declared.origin.Origin.{Origin}
use Rattle.swan_model.specs.declared.rights.Mode.TheVariants.{Pop}
use Rattle.swan_model.specs.declared.script.Script.{Script}
use Rattle.swan_model.specs.Lawful.{IsLawful}
use Rattle.swan_model.specs.QueueFollows.{count_at, next_queue_deed, taken_at}
use Rattle.swan_model.specs.QueueState.{ActiveFrame, QueueState, active, holds_queue}
use Rattle.swan_model.specs.Readings.{end_time}
use Rattle.swan_model.specs.SerialTime.{times}
use Rattle.swan_model.specs.Told.{taken}
use Rattle.queues.specs.Chunks.{Chunk, Chunks, HasItems, HasTaken, Matches, after_close, goes_on_at, goes_on_popping, owner_of, pops_at}
use Rattle.queues.specs.Chunks.HasItems.{chunk as items_chunk}
use Rattle.queues.specs.Chunks.HasTaken.{chunk as taken_chunk}
use Rattle.queues.proofs.MatchOwners.{Alters, OtherOwnersStay, IsOnce, items_altered, taken_altered}
use Rattle.queues.proofs.MatchParts.{ItemsFrom, TakenFrom, owner_at, upto_is}
use Rattle.queues.proofs.QueuePoints.{ended_counts}

abbrev left_by : Chunk → Chunks → Chunks
left_by first rest = record { owner = None; items = first.items } ∷ rest

closes : (n : ℕ) → Alters n (after_close n) left_by
closes n =
    record {
      none = refl;
      mine = λ first rest mine. ap (λ b. cond b (left_by first rest) (first ∷ after_close n rest)) mine;
      other = λ first rest other. ap (λ b. cond b (left_by first rest) (first ∷ after_close n rest)) other;
    }

module _ (s : Script) (lawful : IsLawful s) (state after : QueueState) (number : ℕ) (queue : Origin) (end n : ℕ) (frame : ActiveFrame) (live : active state n ≡ Some frame)
    (over : next_queue_deed s frame.path frame.deeds ≡ None) (some : 0 < length (times s frame.path)) where
  items_closed : (first : Chunk) (rest : Chunks) (at : ℕ) → first.owner ≡ Some n → (parts : ItemsFrom s state number queue end first rest at)
      → HasItems s after queue end rest (goes_on_at s queue (owner_of state first) parts.upto) → HasItems s after queue end (left_by first rest) at
  items_closed first rest at owns parts on =
      let was = owner_at state first n frame owns live in
      let here : parts.upto ≡ count_at s frame queue = upto_is s state number queue end (owner_of state first) frame parts.upto was parts.ends in
      let goes : goes_on_at s queue (owner_of state first) parts.upto ≡ parts.upto =
      ap (λ o. goes_on_at s queue o parts.upto) was ∙ sym (ended_counts s lawful queue frame.path frame.deeds over some).counts ∙ sym here in
      items_chunk (record { owner = None; items = first.items }) rest at parts.upto parts.order parts.within parts.content tt
      (subst (HasItems s after queue end rest) goes on)

  taken_closed : (first : Chunk) (rest : Chunks) (at : ℕ) → first.owner ≡ Some n → (parts : TakenFrom s state number queue end first rest at)
      → HasTaken s after number queue end rest (goes_on_popping s number queue (owner_of state first) at) → HasTaken s after number queue end (left_by first rest) at
  taken_closed first rest at owns parts on =
      let was = owner_at state first n frame owns live in
      let mine : pops_at s number queue (Some frame) at = subst (λ o. pops_at s number queue o at) was parts.pops in
      let goes : goes_on_popping s number queue (owner_of state first) at ≡ at =
      ap (λ o. goes_on_popping s number queue o at) was ∙ by (holds_queue frame number Pop) mine in
      taken_chunk (record { owner = None; items = first.items }) rest at tt
      (subst (HasTaken s after number queue end rest) goes on)
    where
      by : (b : Bool) → (b ≡ true → at ≡ taken_at s frame queue) → cond b (taken s queue (end_time s frame.path)) at ≡ at
      by true mine = sym (ended_counts s lawful queue frame.path frame.deeds over some).takes ∙ sym (mine refl)
      by false mine = refl

  module _ (chunks : Chunks) (others : OtherOwnersStay state after n chunks) (once : IsOnce n chunks) where
    -- what is taken, apart from items
    pub taken_finish : (at : ℕ) → HasTaken s state number queue end chunks at → HasTaken s after number queue end (after_close n chunks) at
    taken_finish at has = taken_altered s state after number queue end n (after_close n) left_by (closes n) chunks at has others once taken_closed

    pub matches_closed : Matches s state number queue end chunks → Matches s after number queue end (after_close n chunks)
    matches_closed matches =
        record {
          left = matches.left;
          items = items_altered s state after number queue end n (after_close n) left_by (closes n) chunks matches.left matches.items others once items_closed;
          taken = taken_finish matches.left matches.taken;
        }
