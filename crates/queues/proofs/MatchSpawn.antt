-- A spawn: the child goes on in the chunk of its parent, and the parent gets an empty one behind it.
use Rattle.std.proofs.Common.{◌≡◌, inl, inr, ℕ, ◌+◌, Bool, true, false, cond, List, [], ◌∷◌, ◌++◌, Option, Some, None, refl, sym, ap, subst, ◌∙◌, arith}
use Rattle.std.proofs.lemmas.Option.{same_Some}
use Rattle.std.proofs.lemmas.Bool.{both_ways, cases_Bool, false_from_ne_true}
use Rattle.std.specs.List.{list_any}
use Rattle.std.specs.Prelude.{◌==◌}
use Rattle.swan_model.specs.declared.origin.Origin.{Origin}
use Rattle.swan_model.specs.declared.rights.Mode.{Mode}
use Rattle.swan_model.specs.declared.rights.Mode.TheVariants.{Pop, Push}
use Rattle.swan_model.specs.declared.script.Deed.TheVariants as deed
use Rattle.swan_model.specs.declared.script.Script.{Script}
use Rattle.swan_model.specs.Granted.{child_path, may_use}
use Rattle.swan_model.specs.Lawful.{IsLawful}
use Rattle.swan_model.specs.Nested.{IsEntryOf}
use Rattle.swan_model.specs.QueueFollows.{NextSpawnGivesQueues, QueuesFollow, count_at, queue_origin, queue_point, taken_at}
use Rattle.swan_model.specs.QueueState.{ActiveFrame, MayGive, QueueRight, QueueState, active, after_spawn, child_of, holds_queue, with_deed}
use Rattle.swan_model.specs.Readings.{end_time}
use Rattle.swan_model.specs.Rights.{is_queue_mode}
use Rattle.swan_model.specs.Ripe.{is_push_to}
use Rattle.swan_model.specs.SerialTime.{point}
use Rattle.swan_model.specs.Told.{count, is_pop_of, pushes, taken}
use Rattle.swan_model.proofs.ScriptCounts.{count_kept, count_le, count_through, taken_kept, taken_through}
use Rattle.swan_model.proofs.ScriptRights.{held_older, is_older}
use Rattle.queues.specs.Chunks.{Chunk, Chunks, HasItems, HasOwners, HasTaken, IsOwner, Matches, ends_at, goes_on_at, goes_on_popping, after_hand_on, own, owner_of, pops_at}
use Rattle.queues.specs.Chunks.HasItems.{chunk as items_chunk}
use Rattle.queues.specs.Chunks.HasTaken.{chunk as taken_chunk}
use Rattle.queues.specs.Tree.{IsTree, has_queue}
use Rattle.queues.proofs.ActiveAfter.{child_spawned, others_spawned, parent_spawned}
use Rattle.queues.proofs.Frames.{has_held, some_mode}
use Rattle.queues.proofs.Given.{child_rights}
use Rattle.queues.proofs.Gives.{gives_held}
use Rattle.queues.proofs.Lineage.{spawns_by}
use Rattle.queues.proofs.MatchOwners.{Alters, OtherOwnersStay, items_altered, owns_once, taken_altered}
use Rattle.queues.proofs.MatchParts.{ItemsFrom, TakenFrom, owner_at, upto_is}
use Rattle.queues.proofs.MatchDeed.{matches_told, matches_unowned, taken_told, taken_unowned}
use Rattle.queues.proofs.MatchSame.{PopsSame}
use Rattle.queues.proofs.QueuePoints.{IsNextDeed, coming, coming_deed, coming_point, next_is, spawned_counts}
use Rattle.queues.proofs.Segments.{segment_none}

abbrev handed : (parent child : ℕ) → Chunk → Chunks → Chunks
handed parent child first rest = own child first.items ∷ own parent [] ∷ rest

hands_on : (parent child : ℕ) → Alters parent (after_hand_on parent child) (handed parent child)
hands_on parent child =
    record {
      none = refl;
      mine = λ first rest mine. ap (λ b. cond b (handed parent child first rest) (first ∷ after_hand_on parent child rest)) mine;
      other = λ first rest other. ap (λ b. cond b (handed parent child first rest) (first ∷ after_hand_on parent child rest)) other;
    }

module _ (s : Script) (lawful : IsLawful s) (state : QueueState) (follows : QueuesFollow s state) (tree : IsTree state) (number : ℕ) (queue : Origin) (made : queue_origin s state number ≡ Some queue)
    (n c : ℕ) (frame : ActiveFrame) (gives : List QueueRight) (live : active state n ≡ Some frame) (new : active state c ≡ None) (may : MayGive frame gives) (spawn : NextSpawnGivesQueues s state frame gives) where
  abbrev t : ℕ
  t = queue_point s frame.path frame.deeds

  abbrev child : ActiveFrame
  child = child_of frame c gives

  abbrev later : ActiveFrame
  later = with_deed (record frame { children = frame.children + 1 })

  coming_spawn : IsNextDeed s frame.path frame.deeds (deed.Spawn spawn.all)
  coming_spawn = next_is s frame.path frame.deeds (deed.Spawn spawn.all) spawn.next

  -- the child's path
  child_is : child.path ≡ child_path s frame.path t
  child_is = ap (λ k. frame.path ++ k ∷ []) ((follows.tasks n frame live).children ∙ spawns_by s frame.path frame.deeds t coming_spawn.at.before)

  -- by the child's first point as much was pushed and popped as by the parent's point
  pub counts_child : count_at s child queue ≡ count_at s frame queue
  counts_child =
      ap (λ p. count s queue (queue_point s p 0)) child_is
      ∙ (spawned_counts s lawful queue frame.path frame.deeds spawn.all spawn.next).0.counts
      ∙ count_kept s queue t (ap (is_push_to queue) coming_spawn.does)

  pub takes_child : taken_at s child queue ≡ taken_at s frame queue
  takes_child =
      ap (λ p. taken s queue (queue_point s p 0)) child_is
      ∙ (spawned_counts s lawful queue frame.path frame.deeds spawn.all spawn.next).0.takes
      ∙ taken_kept s queue t (ap (is_pop_of queue) coming_spawn.does)

  -- and by the parent's next point as much as by the child's end
  pub counts_parent : count_at s later queue ≡ count s queue (end_time s child.path)
  counts_parent = (spawned_counts s lawful queue frame.path frame.deeds spawn.all spawn.next).1.counts ∙ ap (λ p. count s queue (end_time s p)) (sym child_is)

  pub takes_parent : taken_at s later queue ≡ taken s queue (end_time s child.path)
  takes_parent = (spawned_counts s lawful queue frame.path frame.deeds spawn.all spawn.next).1.takes ∙ ap (λ p. taken s queue (end_time s p)) (sym child_is)

  -- what the child may do with the queue is what the script gives it
  child_may : (mode : Mode) → is_queue_mode mode ≡ true → holds_queue child number mode ≡ may_use spawn.all mode queue
  child_may mode queues = child_rights s state follows number mode gives spawn.all queue spawn.queues queues made

  module _ (has : has_queue frame number ≡ true) where
    -- who has a queue has it from a deed before
    older : is_older queue t ≡ true
    older =
        let some = some_mode frame.rights number has in
        let queues = tree.modes n number frame some.0 live some.1 in
        held_older s lawful frame.path t some.0 queue (sym ((follows.tasks n frame live).rights number some.0 queue queues made) ∙ some.1)

    own_entry : IsEntryOf s frame.path t
    own_entry = record { entry = coming_spawn.at.entry; stands = coming_spawn.at.stands; own = coming_spawn.at.own }

    here : point s (coming s frame.path t) ≡ t
    here = coming_point s frame.path t own_entry

    -- a child that may not pop takes nothing, and one that may not push adds nothing
    pub takes_through : holds_queue child number Pop ≡ false → taken s queue (end_time s child.path) ≡ taken_at s frame queue
    takes_through not =
        let lacks = sym (child_may Pop refl) ∙ not in
        let through = taken_through s lawful (coming s frame.path t) spawn.all (coming_deed s frame.path t own_entry ∙ ap Some coming_spawn.does) queue (ap (is_older queue) here ∙ older) lacks in
        ap (λ p. taken s queue (end_time s p)) child_is ∙ subst (λ k. taken s queue (end_time s (child_path s frame.path k)) ≡ taken s queue k) here through

    pub counts_through : holds_queue child number Push ≡ false → count s queue (end_time s child.path) ≡ count_at s frame queue
    counts_through not =
        let lacks = sym (child_may Push refl) ∙ not in
        let through = count_through s lawful (coming s frame.path t) spawn.all (coming_deed s frame.path t own_entry ∙ ap Some coming_spawn.does) queue (ap (is_older queue) here ∙ older) lacks in
        ap (λ p. count s queue (end_time s p)) child_is ∙ subst (λ k. count s queue (end_time s (child_path s frame.path k)) ≡ count s queue k) here through

    module _ (end : ℕ) where
      items_handed : (first : Chunk) (rest : Chunks) (at : ℕ) → first.owner ≡ Some n → (parts : ItemsFrom s state number queue end first rest at)
          → HasItems s (after_spawn state frame c gives) queue end rest (goes_on_at s queue (owner_of state first) parts.upto) → HasItems s (after_spawn state frame c gives) queue end (handed n c first rest) at
      items_handed first rest at owns parts on =
          let after = after_spawn state frame c gives in
          let next = count s queue (end_time s child.path) in
          let was = owner_at state first n frame owns live in
          let parent : owner_of after (own n []) ≡ Some later = parent_spawned state n c frame gives live new in
          let its : owner_of after (own c first.items) ≡ Some child = child_spawned state n c frame gives live new in
          let upto : parts.upto ≡ count_at s child queue = upto_is s state number queue end (owner_of state first) frame parts.upto was parts.ends ∙ sym counts_child in
          let on_same : goes_on_at s queue (owner_of state first) parts.upto ≡ goes_on_at s queue (owner_of after (own n [])) next =
          ap (λ o. goes_on_at s queue o parts.upto) was ∙ sym (ap (λ o. goes_on_at s queue o next) parent) in
          let behind : HasItems s after queue end (own n [] ∷ rest) next =
          items_chunk (own n []) rest next next (omega arith) (count_le s queue (end_time s child.path)) (sym (segment_none (pushes s queue) next next refl))
          (subst (λ o. ends_at s queue o next) (sym parent) (sym counts_parent)) (subst (HasItems s after queue end rest) on_same on) in
          items_chunk (own c first.items) (own n [] ∷ rest) at parts.upto parts.order parts.within parts.content
          (subst (λ o. ends_at s queue o parts.upto) (sym its) upto)
          (subst (λ o. HasItems s after queue end (own n [] ∷ rest) (goes_on_at s queue o parts.upto)) (sym its) behind)

      -- how much was popped when the child ends
      popped_behind : (at : ℕ) → (holds_queue frame number Pop ≡ true → at ≡ taken_at s frame queue) → holds_queue frame number Pop ≡ true → goes_on_popping s number queue (Some child) at ≡ taken_at s later queue
      popped_behind at mine pops = by (holds_queue child number Pop) refl ∙ sym takes_parent where
        by : (b : Bool) → holds_queue child number Pop ≡ b → cond b (taken s queue (end_time s child.path)) at ≡ taken s queue (end_time s child.path)
        by true too = refl
        by false not = mine pops ∙ sym (takes_through not)

      on_behind : (at : ℕ) → goes_on_popping s number queue (Some frame) at ≡ goes_on_popping s number queue (Some later) (goes_on_popping s number queue (Some child) at)
      on_behind at = by (holds_queue frame number Pop) refl (holds_queue child number Pop) refl where
        by : (b : Bool) → holds_queue frame number Pop ≡ b → (d : Bool) → holds_queue child number Pop ≡ d
            → cond b (taken s queue (end_time s frame.path)) at ≡ cond b (taken s queue (end_time s frame.path)) (cond d (taken s queue (end_time s child.path)) at)
        by true pops d too = refl
        by false none false not = refl
        by false none true too = absurd (both_ways (holds_queue frame number Pop) none (gives_held frame gives may number Pop too))

      taken_handed : (first : Chunk) (rest : Chunks) (at : ℕ) → first.owner ≡ Some n → (parts : TakenFrom s state number queue end first rest at)
          → HasTaken s (after_spawn state frame c gives) number queue end rest (goes_on_popping s number queue (owner_of state first) at) → HasTaken s (after_spawn state frame c gives) number queue end (handed n c first rest) at
      taken_handed first rest at owns parts on =
          let after = after_spawn state frame c gives in
          let next = goes_on_popping s number queue (Some child) at in
          let was = owner_at state first n frame owns live in
          let parent : owner_of after (own n []) ≡ Some later = parent_spawned state n c frame gives live new in
          let its : owner_of after (own c first.items) ≡ Some child = child_spawned state n c frame gives live new in
          let mine : pops_at s number queue (Some frame) at = subst (λ o. pops_at s number queue o at) was parts.pops in
          let pops : pops_at s number queue (Some child) at = λ too. mine (gives_held frame gives may number Pop too) ∙ sym takes_child in
          let on_same : goes_on_popping s number queue (owner_of state first) at ≡ goes_on_popping s number queue (owner_of after (own n [])) next =
          ap (λ o. goes_on_popping s number queue o at) was ∙ on_behind at ∙ sym (ap (λ o. goes_on_popping s number queue o next) parent) in
          let behind : HasTaken s after number queue end (own n [] ∷ rest) next =
          taken_chunk (own n []) rest next (subst (λ o. pops_at s number queue o next) (sym parent) (popped_behind at mine)) (subst (HasTaken s after number queue end rest) on_same on) in
          taken_chunk (own c first.items) (own n [] ∷ rest) at (subst (λ o. pops_at s number queue o at) (sym its) pops)
          (subst (λ o. HasTaken s after number queue end (own n [] ∷ rest) (goes_on_popping s number queue o at)) (sym its) behind)

  module _ (end : ℕ) (chunks : Chunks) (owners : HasOwners state number chunks) where
    others : OtherOwnersStay state (after_spawn state frame c gives) n chunks
    others index chunk stands not = by chunk.owner refl where
      by : (owner : Option ℕ) → chunk.owner ≡ owner → owner_of (after_spawn state frame c gives) (record { owner = owner; items = chunk.items }) ≡ owner_of state (record { owner = owner; items = chunk.items })
      by None is = refl
      by (Some m) is =
          let owner = owners.owners index m (record { chunk = chunk; stands = stands; owns = is }) in
          others_spawned state n c frame gives live new m (λ same. not (is ∙ ap Some same)) (λ same. let none : Some owner.0 ≡ None = sym owner.1 ∙ ap (active state) same ∙ new in absurd (cc))

    -- what is taken, apart from items
    pub taken_spawn : has_queue frame number ≡ true → (at : ℕ) → HasTaken s state number queue end chunks at → HasTaken s (after_spawn state frame c gives) number queue end (after_hand_on n c chunks) at
    taken_spawn has at taken =
        taken_altered s state (after_spawn state frame c gives) number queue end n (after_hand_on n c) (handed n c) (hands_on n c) chunks at taken others
        (owns_once state number chunks n owners) (taken_handed has end)

    -- Where the child is given the queue, it takes over the parent's chunk.
    pub matches_spawn : Matches s state number queue end chunks → has_queue frame number ≡ true → Matches s (after_spawn state frame c gives) number queue end (after_hand_on n c chunks)
    matches_spawn matches has =
        let after = after_spawn state frame c gives in
        let once = owns_once state number chunks n owners in
        record {
          left = matches.left;
          items = items_altered s state after number queue end n (after_hand_on n c) (handed n c) (hands_on n c) chunks matches.left matches.items others once (items_handed has end);
          taken = taken_spawn has matches.left matches.taken;
        }

    -- Where it isn't given the queue, the chunks stay.
    module _ (lacks : list_any (λ (right : QueueRight). right.queue == number) gives ≡ false) where
      lacks_all : (mode : Mode) → holds_queue child number mode ≡ false
      lacks_all mode = false_from_ne_true (holds_queue child number mode) (λ held. both_ways (has_queue child number) lacks (has_held child number mode held))

      same_takes : has_queue frame number ≡ true → PopsSame s number queue frame later
      same_takes has = record { path = refl; takes = takes_parent ∙ takes_through has (lacks_all Pop); pops = refl }

      has_chunk : has_queue frame number ≡ false → (index : ℕ) → IsOwner state chunks index n → ⊥
      has_chunk none index is =
          let owner = owners.owners index n is in
          let same : owner.0 ≡ frame = same_Some owner.0 frame (sym owner.1 ∙ live) in
          both_ways (has_queue frame number) none (ap (λ f. has_queue f number) (sym same) ∙ owner.2)

      pub taken_spawn_other : (at : ℕ) → HasTaken s state number queue end chunks at → HasTaken s (after_spawn state frame c gives) number queue end chunks at
      taken_spawn_other at taken = elim (cases_Bool (has_queue frame number)) [
        | inl has ↦ taken_told s state (after_spawn state frame c gives) number queue end n chunks at taken others frame later live (parent_spawned state n c frame gives live new) (same_takes has)
        | inr none ↦ taken_unowned s state (after_spawn state frame c gives) number queue end n chunks at taken others (has_chunk none)
      ]

      pub matches_spawn_other : Matches s state number queue end chunks → Matches s (after_spawn state frame c gives) number queue end chunks
      matches_spawn_other matches = elim (cases_Bool (has_queue frame number)) [
        | inl has ↦
            matches_told s lawful state (after_spawn state frame c gives) number queue end n chunks matches others frame later live (parent_spawned state n c frame gives live new)
            (record { path = refl; counts = counts_parent ∙ counts_through has (lacks_all Push) }) (same_takes has)
        | inr none ↦ matches_unowned s state (after_spawn state frame c gives) number queue end n chunks matches others (has_chunk none)
      ]
