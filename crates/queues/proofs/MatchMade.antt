-- The chunk of a queue that is new.
use Rattle.std.proofs.Common.{◌≡◌, ℕ, ◌+◌, true, cond, List, [], ◌∷◌, ◌++◌, length, Some, refl, sym, ap, subst, ◌∙◌, arith}
use Rattle.std.specs.Prelude.{slice_get, unwrap_or}
use Rattle.swan_model.specs.declared.origin.Origin.{Origin}
use Rattle.swan_model.specs.declared.origin.Origin.TheVariants.{Root, Step}
use Rattle.swan_model.specs.declared.rights.Mode.TheVariants.{Pop}
use Rattle.swan_model.specs.declared.script.Deed.TheVariants as deed
use Rattle.swan_model.specs.declared.script.Script.{Script}
use Rattle.swan_model.specs.declared.value.Value.{Value}
use Rattle.swan_model.specs.Lawful.{IsLawful}
use Rattle.swan_model.specs.Nested.{IsEntryOf}
use Rattle.swan_model.specs.QueueFollows.{count_at, next_queue_deed, queue_point, queue_time, taken_at}
use Rattle.swan_model.specs.QueueState.{ActiveFrame, QueueState, active, after_create, after_create_root, holds_queue, with_deed, with_made}
use Rattle.swan_model.specs.Readings.{end_time}
use Rattle.swan_model.specs.Told.{count, deed_at, first_items, pushed, pushes, taken}
use Rattle.swan_model.proofs.Lists.{some_within}
use Rattle.swan_model.proofs.Places.{passing-none}
use Rattle.swan_model.proofs.ScriptCounts.{count_le, count_made}
use Rattle.queues.specs.Chunks.{HasTaken, Matches, goes_on_at, goes_on_popping, ends_at, own, owner_of, pops_at}
use Rattle.queues.specs.Chunks.HasItems.{over as items_over, chunk as items_chunk}
use Rattle.queues.specs.Chunks.HasTaken.{over as taken_over, chunk as taken_chunk}
use Rattle.queues.proofs.ActiveAfter.{one_changed, one_goes_on}
use Rattle.queues.proofs.Between.{Comes, is_queue_deed_of, point_left, to_queue_point}
use Rattle.queues.proofs.Making.{holds_made}
use Rattle.queues.proofs.QueuePoints.{IsSame, moved_counts, next_is, still_same}
use Rattle.queues.proofs.Segments.{segment, segment_front, segment_none}

module _ (s : Script) (state : QueueState) (number : ℕ) (queue : Origin) (n : ℕ) (frame : ActiveFrame) (first : List Value) (live : active state n ≡ Some frame) where
  -- the only chunk of a queue, of its maker, from which nothing was popped yet
  pub first_taken : 0 ≡ taken_at s frame queue → holds_queue frame number Pop ≡ true → HasTaken s state number queue (end_time s frame.path) (own n first ∷ []) 0
  first_taken none pops =
      let end = end_time s frame.path in
      let popped : goes_on_popping s number queue (owner_of state (own n first)) 0 ≡ taken s queue end =
      ap (λ o. goes_on_popping s number queue o 0) live ∙ ap (λ b. cond b (taken s queue end) 0) pops in
      taken_chunk (own n first) [] 0 (subst (λ o. pops_at s number queue o 0) (sym live) (λ may. none))
      (taken_over (goes_on_popping s number queue (owner_of state (own n first)) 0) popped)

  pub first_chunk : (upto : ℕ) → upto ≡ count_at s frame queue → 0 ≡ taken_at s frame queue → first ≡ segment 0 upto (pushes s queue) → holds_queue frame number Pop ≡ true
      → Matches s state number queue (end_time s frame.path) (own n first ∷ [])
  first_chunk upto counts none content pops =
      let end = end_time s frame.path in
      let on : goes_on_at s queue (owner_of state (own n first)) upto ≡ count s queue end = ap (λ o. goes_on_at s queue o upto) live in
      record {
        left = 0;
        items = items_chunk (own n first) [] 0 upto (omega arith) (omega (arith, counts, count_le s queue (queue_point s frame.path frame.deeds))) content
            (subst (λ o. ends_at s queue o upto) (sym live) counts) (items_over (goes_on_at s queue (owner_of state (own n first)) upto) on);
        taken = first_taken none pops;
      }

module _ (s : Script) (lawful : IsLawful s) where
  -- by the root's first point nothing was pushed, and nothing popped
  root_still : (queue : Origin) → IsSame s queue (queue_point s [] 0) 0
  root_still queue =
      let some = lawful.some in
      let first = some_within s.entries 0 (omega (arith, some)) in
      let own_first : IsEntryOf s [] 0 = record { entry = first.0; stands = first.1; own = lawful.first first.0 first.1 } in
      let comes : Comes s [] 0 0 = record { own = own_first; before = passing-none (is_queue_deed_of []) s.entries 0 (λ i e before stands. absurd (omega arith)) } in
      still_same s queue [] 0 (queue_point s [] 0) (to_queue_point s lawful [] 0 0 comes)

  count_first : (queue : Origin) → count s queue 0 ≡ length (first_items s queue)
  count_first queue =
      let none : count s queue 0 ≡ length (first_items s queue) + length (pushed queue []) = refl in
      omega (arith, none)

  root_point : (root : ActiveFrame) (queue : ℕ) → root.path ≡ [] → root.deeds ≡ 0 → queue_point s (with_made queue root).path (with_made queue root).deeds ≡ queue_point s [] 0
  root_point root queue path deeds = ap (λ p. queue_point s p root.deeds) path ∙ ap (queue_point s []) deeds

  -- From a root queue nothing was popped when it is made.
  pub taken_root : (state : QueueState) (root : ActiveFrame) (items : List Value) → active state 0 ≡ Some root → root.path ≡ [] → root.deeds ≡ 0
      → HasTaken s (after_create_root state) (length state.makers) (Root (length state.makers)) (end_time s []) (own 0 items ∷ []) 0
  taken_root state root items live path deeds =
      let i = length state.makers in
      let later = with_made i root in
      let none : taken_at s later (Root i) ≡ 0 = ap (taken s (Root i)) (root_point root i path deeds) ∙ (root_still (Root i)).takes in
      subst (λ p. HasTaken s (after_create_root state) i (Root i) (end_time s p) (own 0 items ∷ []) 0) path
      (first_taken s (after_create_root state) i (Root i) 0 later items (one_changed state 0 (with_made i) (λ f. refl) root live).changed (sym none) (holds_made root i Pop refl))

  -- A root queue begins with its first items, in a chunk of the root.
  pub matches_root : (state : QueueState) (root : ActiveFrame) (first : List Value) → active state 0 ≡ Some root → root.path ≡ [] → root.deeds ≡ 0 → slice_get s.queues (length state.makers) ≡ Some first
      → Matches s (after_create_root state) (length state.makers) (Root (length state.makers)) (end_time s []) (own 0 first ∷ [])
  matches_root state root first live path deeds plan =
      let i = length state.makers in
      let queue = Root i in
      let later = with_made i root in
      let now : active (after_create_root state) 0 ≡ Some later = (one_changed state 0 (with_made i) (λ f. refl) root live).changed in
      let items : first_items s queue ≡ first = ap (λ o. unwrap_or o []) plan in
      let point = root_point root i path deeds in
      let still = root_still queue in
      let counts : count_at s later queue ≡ length first = ap (count s queue) point ∙ still.counts ∙ count_first queue ∙ ap length items in
      let none : taken_at s later queue ≡ 0 = ap (taken s queue) point ∙ still.takes in
      let content : segment 0 (length first) (pushes s queue) ≡ first = ap (λ xs. segment 0 (length first) (xs ++ pushed queue s.entries)) items ∙ segment_front first (pushed queue s.entries) in
      subst (λ p. Matches s (after_create_root state) i queue (end_time s p) (own 0 first ∷ [])) path
      (first_chunk s (after_create_root state) i queue 0 later first now (length first) (sym counts) (sym none) (sym content) (holds_made root i Pop refl))

  -- by the maker's next point nothing was pushed to a queue, and nothing popped
  record IsMadeNow (state : QueueState) (n : ℕ) (frame : ActiveFrame) : Type 0 where
    pub now : active (after_create state frame) n ≡ Some (with_deed (with_made (length state.makers) frame))
    pub counts : count_at s (with_deed (with_made (length state.makers) frame)) (Step (queue_time s frame.path frame.deeds)) ≡ 0
    pub takes : taken_at s (with_deed (with_made (length state.makers) frame)) (Step (queue_time s frame.path frame.deeds)) ≡ 0

  made_now : (state : QueueState) (n : ℕ) (frame : ActiveFrame) → active state n ≡ Some frame → next_queue_deed s frame.path frame.deeds ≡ Some deed.MakeQueue → IsMadeNow state n frame
  made_now state n frame live next =
      let i = length state.makers in
      let t = queue_time s frame.path frame.deeds in
      let queue = Step t in
      let is = next_is s frame.path frame.deeds deed.MakeQueue next in
      let here : queue_point s frame.path frame.deeds ≡ t = point_left s frame.path frame.deeds is.left in
      let made = count_made s lawful t (ap (deed_at s) (sym here) ∙ is.does) in
      let moved = moved_counts s lawful queue frame.path frame.deeds deed.MakeQueue next refl in
      record {
        now = (one_goes_on state n frame (λ f. with_deed (with_made i f)) (λ f. refl) live).changed;
        counts = moved.counts ∙ ap (λ k. count s queue (k + 1)) here ∙ made.0;
        takes = moved.takes ∙ ap (λ k. taken s queue (k + 1)) here ∙ made.1;
      }

  -- From a queue that a step made nothing was popped yet.
  pub taken_create : (state : QueueState) (n : ℕ) (frame : ActiveFrame) (items : List Value) → active state n ≡ Some frame → next_queue_deed s frame.path frame.deeds ≡ Some deed.MakeQueue
      → HasTaken s (after_create state frame) (length state.makers) (Step (queue_time s frame.path frame.deeds)) (end_time s frame.path) (own n items ∷ []) 0
  taken_create state n frame items live next =
      let i = length state.makers in
      let made = made_now state n frame live next in
      first_taken s (after_create state frame) i (Step (queue_time s frame.path frame.deeds)) n (with_deed (with_made i frame)) items made.now (sym made.takes) (holds_made frame i Pop refl)

  -- A queue that a step made begins empty, in a chunk of its maker.
  pub matches_create : (state : QueueState) (n : ℕ) (frame : ActiveFrame) → active state n ≡ Some frame → next_queue_deed s frame.path frame.deeds ≡ Some deed.MakeQueue
      → Matches s (after_create state frame) (length state.makers) (Step (queue_time s frame.path frame.deeds)) (end_time s frame.path) (own n [] ∷ [])
  matches_create state n frame live next =
      let i = length state.makers in
      let queue = Step (queue_time s frame.path frame.deeds) in
      let made = made_now state n frame live next in
      first_chunk s (after_create state frame) i queue n (with_deed (with_made i frame)) [] made.now 0 (sym made.counts) (sym made.takes) (sym (segment_none (pushes s queue) 0 0 refl)) (holds_made frame i Pop refl)
