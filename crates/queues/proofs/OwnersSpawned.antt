-- The chunks of a queue stay owned by those who have it, in serial order, where a frame is spawned.
use Rattle.std.proofs.Common.{◌≡◌, ◌⊎◌, inl, inr, ℕ, true, false, List, [], ◌∷◌, length, refl, sym, ap, ◌∙◌, arith}
use Rattle.std.proofs.lemmas.Bool.{cases_lt, false≢true}
use Rattle.swan_model.specs.PathOrder.{comes_before}
use Rattle.swan_model.specs.QueueState.{ActiveFrame, QueueRight, QueueState, active, after_spawn, frame_after_change, child_of}
use Rattle.swan_model.proofs.PathOrder.{before-below, before-parent}
use Rattle.queues.specs.Asks.{MaySpawn}
use Rattle.queues.specs.Chunks.{Chunks, after_hand_on, HasOwners}
use Rattle.queues.specs.Tree.{IsTree, has_queue}
use Rattle.queues.proofs.ActiveAfter.{one_child_more}
use Rattle.queues.proofs.TreeCalls.{child_newest, parent_changed, tree_between, with_one_more}
use Rattle.queues.proofs.ChunkOwners.{handed_child, handed_still, handed_was, IsFirstOf}
use Rattle.queues.proofs.Gives.{gives_had}
use Rattle.queues.proofs.QueueHolders.{added_new, added_still, added_was, before_child, changed_still, changed_was}
use Rattle.queues.proofs.Owners.{has_owners, IsHolder, ordered_owners, ordered_same, owner_at, owns_one}
use Rattle.queues.proofs.OwnersHanded.{IsBorn, ordered_handed}
use Rattle.swan_model.proofs.Elements.{one_answer}

module _ (state : QueueState) (p child : ℕ) (gives : List QueueRight) (q : ℕ) (tree : IsTree state) (may : MaySpawn state p child gives) where
  abbrev parent : ActiveFrame
  parent = may.act.frame

  abbrev after : QueueState
  after = after_spawn state parent child gives

  abbrev new : ActiveFrame
  new = child_of parent child gives

  -- who has the queue had it, or is the child
  spawned_was : (number : ℕ) (path : List ℕ) → IsHolder after q number path
      → IsHolder state q number path ⊎ ((number ≡ child) × (has_queue new q ≡ true) × (path ≡ new.path))
  spawned_was number path now =
      elim (added_was (with_one_more state parent) (one_child_more parent) new parent.children (tree_between state tree p child gives parent may.act.may may.newest may.lawful)
      (child_newest state tree p child gives parent may.act.may may.newest may.lawful) q number path now) [
        | inl old ↦ inl (changed_was state (with_one_more state parent) (frame_after_change parent.number one_child_more) parent.number tree
            (parent_changed state tree p child gives parent may.act.may may.newest may.lawful) q (cases_lt q (length state.makers)) number path old)
        | inr own ↦ inr own
      ]

  spawned_still : (number : ℕ) (path : List ℕ) → IsHolder state q number path → IsHolder after q number path
  spawned_still number path old =
      added_still (with_one_more state parent) (one_child_more parent) new parent.children (tree_between state tree p child gives parent may.act.may may.newest may.lawful)
      (child_newest state tree p child gives parent may.act.may may.newest may.lawful) q number path
      (changed_still state (with_one_more state parent) (frame_after_change parent.number one_child_more) parent.number tree
      (parent_changed state tree p child gives parent may.act.may may.newest may.lawful) q number path old)

  -- where the child gets the queue, it comes in before its parent
  child_born : has_queue new q ≡ true → IsBorn (IsHolder state q) (IsHolder after q) p child parent.path new.path
  child_born has = record {
    from = record { frame = parent; live = may.act.may.live; has = gives_had parent gives may.lawful q has; is = refl };
    born = added_new (with_one_more state parent) (one_child_more parent) new parent.children (tree_between state tree p child gives parent may.act.may may.newest may.lawful)
        (child_newest state tree p child gives parent may.act.may may.newest may.lawful) q has;
    was = λ number path now. elim (spawned_was number path now) [ inl old ↦ inl old | inr own ↦ inr (own.0, own.2) ];
    still = spawned_still;
    new = λ path old.
        let upto = tree.latest child old.frame old.live in
        let least = may.newest in
        absurd (omega arith);
    first = λ path old.
        let one = one_answer (active state p) old.frame parent old.live may.act.may.live in
        ap (comes_before new.path) (sym old.is ∙ ap (λ (f : ActiveFrame). f.path) one) ∙ before-parent parent.path parent.children;
    later = λ number path old later. before-below parent.path path (parent.children ∷ []) later;
    earlier = λ number path old earlier.
        let before : comes_before old.frame.path parent.path ≡ true = ap (λ o. comes_before o parent.path) old.is ∙ earlier in
        ap (λ o. comes_before o new.path) (sym old.is)
        ∙ before_child state tree p child gives parent may.act.may may.newest may.lawful number old.frame old.live before;
  }

  pub spawn_given : (chunks : Chunks) → has_queue new q ≡ true → HasOwners state q chunks → HasOwners after q (after_hand_on p child chunks)
  spawn_given chunks has owners =
      let ordered = ordered_owners state q chunks owners in
      let born = child_born has in
      let place = ordered.all p parent.path born.from in
      let first : IsFirstOf (owner_at chunks) p place.0 = record {
        owns = place.1;
        first = λ other there. let one = owns_one (IsHolder state q) (owner_at chunks) ordered place.0 other p place.1 there in omega arith;
      } in
      has_owners after q (after_hand_on p child chunks)
      (ordered_handed (IsHolder state q) (IsHolder after q) (owner_at chunks) (owner_at (after_hand_on p child chunks)) p child parent.path new.path place.0 ordered born place.1
      (handed_was p child chunks place.0 first) (handed_child p child chunks place.0 place.1) (handed_still p child chunks))

  pub spawn_kept : (chunks : Chunks) → has_queue new q ≡ false → HasOwners state q chunks → HasOwners after q chunks
  spawn_kept chunks hasnt owners =
      has_owners after q chunks
      (ordered_same (IsHolder state q) (owner_at chunks) (ordered_owners state q chunks owners) (IsHolder after q) (owner_at chunks)
      (λ number path now. elim (spawned_was number path now) [ inl old ↦ old | inr own ↦ absurd (false≢true (sym hasnt ∙ own.1)) ])
      spawned_still (λ index. refl))
