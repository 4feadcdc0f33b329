-- The spawn of a child leaves hyperqueues that follow.
use Rattle.queues.proofs.ActiveAfter.{KeepsTask, one_child_more}
use Rattle.std.proofs.Common.{◌≡◌, inl, inr, ℕ, ◌+◌, ◌<◌, ◌≤◌, Bool, true, false, nat_eq, nat_lt, cond, List, [], ◌∷◌, ◌++◌, length, Some, None, refl, sym, ap, subst, ◌∙◌, append_assoc, arith}
use Rattle.std.proofs.lemmas.Bool.{cases_lt, eq-eqb, false_from_ne_true, or_left}
use Rattle.std.specs.Cmp.Lexicographic.{pointwise}
use Rattle.std.specs.Option.{option_map}
use Rattle.std.specs.Prelude.{not, slice_get}
use Rattle.swan_model.specs.declared.origin.Origin.{Origin}
use Rattle.swan_model.specs.declared.rights.Mode.{Mode}
use Rattle.swan_model.specs.declared.script.Deed.TheVariants as deed
use Rattle.swan_model.specs.declared.script.Entry.{Entry}
use Rattle.swan_model.specs.declared.script.OriginGive.{OriginGive}
use Rattle.swan_model.specs.declared.script.Script.{Script}
use Rattle.swan_model.specs.Granted.{child_path, children_before, granted, granted_by, holds, is_spawn, may_use}
use Rattle.swan_model.specs.Lawful.{IsLawful}
use Rattle.swan_model.specs.Nested.{IsEntryOf, IsEntryUnder}
use Rattle.swan_model.specs.PathOrder.{is_under}
use Rattle.swan_model.specs.QueueFollows.{IsChildOf, NextSpawnGivesQueues, IsTask, QueuesFollow, is_reached, queue_point, queue_time}
use Rattle.swan_model.specs.QueueState.{ActiveFrame, made_by, QueueRight, QueueState, active, after_spawn, frame_after_change, changing, child_of}
use Rattle.swan_model.specs.Readings.{end_time}
use Rattle.swan_model.specs.Rights.{is_queue_mode}
use Rattle.swan_model.specs.SerialTime.{is_of, times}
use Rattle.swan_model.specs.Told.{deed_at}
use Rattle.swan_model.proofs.Paths.{not_below-itself, same_path}
use Rattle.swan_model.proofs.ScriptRights.{child_holds}
use Rattle.swan_model.proofs.ScriptSteps.{deed_is, one_entry}
use Rattle.swan_model.proofs.Uses.{granted-none}
use Rattle.queues.proofs.Between.{IsQueueDeed, IsStill, to_queue_point}
use Rattle.queues.proofs.Changing.{active_new, changed_follows, done_is, now_is, path_kept, task_on, was}
use Rattle.queues.proofs.Done.{reached_under}
use Rattle.swan_model.proofs.Elements.{all_each, found_is, one_if}
use Rattle.queues.proofs.Given.{child_made, child_rights}
use Rattle.queues.proofs.Growing.{grown_follows}
use Rattle.queues.proofs.Kept.{GrantsNone, still_grants, use_kept}
use Rattle.queues.proofs.Lineage.{child_spawned, children_are}
use Rattle.queues.proofs.Moving.{children_next, point_next}
use Rattle.queues.proofs.QueuePoints.{IsNextDeed, at_own, child_comes, coming, coming_deed, coming_point, next_is, parent_comes, spawn_at}
use Rattle.queues.proofs.Under.{under_from, under_rest}

-- no entry below a child makes the child's parent
not_child : (parent rest : List ℕ) (k n : ℕ) → ((parent ++ k ∷ []) ++ rest) ++ n ∷ [] ≡ parent → ⊥
not_child parent rest k n is =
    not_below-itself parent (rest ++ n ∷ []) k
    (sym is ∙ append_assoc (parent ++ k ∷ []) rest (n ∷ []) ∙ append_assoc parent (k ∷ []) (rest ++ n ∷ []))

module _ (s : Script) (lawful : IsLawful s) (path : List ℕ) (t : ℕ) (gives : List OriginGive) (own : IsEntryOf s path t) (does : deed_at s t ≡ deed.Spawn gives) where
  abbrev number : ℕ
  number = children_before s path t

  abbrev child : List ℕ
  child = child_path s path t

  -- the child holds its gives
  gives_held : holds s child (t + 1) ≡ gives
  gives_held =
      let moved = coming_deed s path t own ∙ ap Some does in
      subst (λ k. holds s (child_path s path k) (k + 1) ≡ gives) (coming_point s path t own) (child_holds s lawful (coming s path t) gives moved)

  -- the entries from a spawn to the child's end grant the parent nothing
  spawn_grants : (v : ℕ) (entry : Entry) → t ≤ v → v < end_time s child → slice_get s.entries v ≡ Some entry → granted_by s path v entry ≡ []
  spawn_grants v entry from before stands = elim (cases_lt t v) [
    | inl later ↦
        let under = (spawn_at s lawful path t gives own does).under v later before in
        let below : entry.path ≡ child ++ under.rest = ap (λ (e : Entry). e.path) (one_entry s v entry under.entry stands under.stands) ∙ under.under in
        granted-none (is_of path entry) (pointwise nat_eq (child_path s entry.path v) path) v entry.deed
        (false_from_ne_true (is_of path entry) (λ is.
        not_below-itself path under.rest number (sym (same_path entry.path path is) ∙ below ∙ append_assoc path (number ∷ []) under.rest)))
        (λ spawns. false_from_ne_true (pointwise nat_eq (child_path s entry.path v) path) (λ is.
        let k = children_before s entry.path v in
        not_child path under.rest number k (ap (λ q. q ++ k ∷ []) (sym below) ∙ same_path (child_path s entry.path v) path is)))
    | inr at ↦
        let same : t ≡ v = omega (arith, from, at) in
        let one = one_entry s t entry own.entry (ap (slice_get s.entries) same ∙ stands) own.stands in
        let mine : entry.path ≡ path = ap (λ (e : Entry). e.path) one ∙ own.own in
        let spawns : entry.deed ≡ deed.Spawn gives = ap (λ (e : Entry). e.deed) one ∙ sym (deed_is s t own.entry own.stands) ∙ does in
        let none : pointwise nat_eq (child_path s entry.path v) path ≡ false = false_from_ne_true (pointwise nat_eq (child_path s entry.path v) path) (λ is.
        let k = children_before s entry.path v in
        not_below-itself path [] k (sym (same_path (child_path s entry.path v) path is) ∙ ap (λ q. q ++ k ∷ []) mine)) in
        ap (granted (is_of path entry) (pointwise nat_eq (child_path s entry.path v) path) v) spawns
        ∙ ap (λ b. cond b gives []) none
  ]

  pub parent_grants : (deeds : ℕ) (mode : Mode) (origin : Origin) → is_queue_mode mode ≡ true → IsNextDeed s path deeds (deed.Spawn gives) → queue_point s path deeds ≡ t → GrantsNone s path mode origin t (queue_point s path (deeds + 1))
  parent_grants deeds mode origin queues next here =
      let at = spawn_at s lawful path t gives own does in
      let comes = parent_comes s lawful path deeds t gives (subst (IsQueueDeed s path deeds) here next.at) does in
      let still = to_queue_point s lawful path (deeds + 1) (end_time s child) comes in
      let rest = still_grants s path mode origin (end_time s child) (queue_point s path (deeds + 1)) still queues in
      record {
        order = omega (arith, at.long, still.order);
        none = λ v entry from before stands. elim (cases_lt v (end_time s child)) [
          | inl within ↦ ap (λ g. may_use g mode origin) (spawn_grants v entry from within stands)
          | inr past ↦ rest.none v entry past before stands
        ];
      }

module _ (s : Script) (lawful : IsLawful s) (state : QueueState) (follows : QueuesFollow s state) (parent : ActiveFrame) (live : active state parent.number ≡ Some parent) (rights : List QueueRight) (spawn : NextSpawnGivesQueues s state parent rights) where
  abbrev at_time : ℕ
  at_time = queue_point s parent.path parent.deeds

  next_spawn : IsNextDeed s parent.path parent.deeds (deed.Spawn spawn.all)
  next_spawn = next_is s parent.path parent.deeds (deed.Spawn spawn.all) spawn.next

  own_spawn : IsEntryOf s parent.path at_time
  own_spawn = at_own s parent.path parent.deeds at_time next_spawn.at

  abbrev the_child : List ℕ
  the_child = child_path s parent.path at_time

  -- the child's number is how many children the parent had
  child_is : the_child ≡ parent.path ++ parent.children ∷ []
  child_is =
      let task = follows.tasks parent.number parent live in
      let many = task.children ∙ children_are s lawful parent.path parent.deeds task.some task.deeds in
      ap (λ k. parent.path ++ k ∷ []) (sym many)

  -- ---- the parent, once the child is spawned

  abbrev after_parent : QueueState
  after_parent = changing state parent.number one_child_more

  parent_task : IsTask s after_parent (one_child_more parent)
  parent_task =
      let task = follows.tasks parent.number parent live in
      let one : one_if (is_spawn (deed_at s at_time)) ≡ 1 = ap one_if (ap is_spawn next_spawn.does) in
      let many = children_next s lawful parent.path parent.deeds at_time next_spawn.at in
      record {
        some = task.some;
        deeds = omega (arith, next_spawn.left);
        children = omega (arith, task.children, many, one);
        rights = λ queue mode origin queues made.
            let grants = parent_grants s lawful parent.path at_time spawn.all own_spawn next_spawn.does parent.deeds mode origin queues next_spawn refl in
            task.rights queue mode origin queues made ∙ sym (use_kept s parent.path mode origin at_time (queue_point s parent.path (parent.deeds + 1)) grants);
        made = task.made;
      }

  one_change : KeepsTask one_child_more
  one_change = record { number = λ f. refl; parent = λ f. refl; path = λ f. refl; children = λ f. omega arith }

  later_point : at_time ≤ queue_point s parent.path (parent.deeds + 1)
  later_point = point_next s parent.path parent.deeds at_time next_spawn.at

  parent_follows : QueuesFollow s after_parent
  parent_follows =
      changed_follows s state follows after_parent parent.number one_child_more parent live one_change refl later_point parent_task
      (λ n other at apart. task_on s state after_parent other (λ queue. refl) (omega arith) (follows.tasks n other at))
      (λ queue maker at. inl at) follows.once

  -- ---- the child

  module _ (child_number : ℕ) (free : active state child_number ≡ None) where
    abbrev new_child : ActiveFrame
    new_child = child_of parent child_number rights

    child_still : IsStill s the_child (at_time + 1) (queue_point s the_child 0)
    child_still = to_queue_point s lawful the_child 0 (at_time + 1) (child_comes s lawful parent.path at_time spawn.all own_spawn next_spawn.does)

    child_may : (mode : Mode) (origin : Origin) → is_queue_mode mode ≡ true → may_use (holds s the_child (queue_point s the_child 0)) mode origin ≡ may_use spawn.all mode origin
    child_may mode origin queues =
        use_kept s the_child mode origin (at_time + 1) (queue_point s the_child 0) (still_grants s the_child mode origin (at_time + 1) (queue_point s the_child 0) child_still queues)
        ∙ ap (λ h. may_use h mode origin) (gives_held s lawful parent.path at_time spawn.all own_spawn next_spawn.does)

    child_task : IsTask s after_parent new_child
    child_task =
        let at = spawn_at s lawful parent.path at_time spawn.all own_spawn next_spawn.does in
        record {
          some = subst (λ q. 0 < length (times s q)) child_is at.some;
          deeds = omega arith;
          children = refl;
          rights = λ queue mode origin queues made.
              child_rights s state follows queue mode rights spawn.all origin spawn.queues queues made
              ∙ sym (child_may mode origin queues)
              ∙ ap (λ q. may_use (holds s q (queue_point s q 0)) mode origin) child_is;
          made = λ queue mode queues holds. child_made s state follows queue mode rights spawn.all spawn.queues holds;
        }

    child_below : IsChildOf after_parent new_child parent.number
    child_below =
        record {
          above = frame_after_change parent.number one_child_more parent;
          live = now_is s state follows after_parent parent.number one_child_more parent live one_change refl later_point parent.number parent live;
          index = parent.children;
          path = ap (λ q. q ++ parent.children ∷ []) (sym (path_kept s state follows after_parent parent.number one_child_more parent live one_change refl later_point parent (frame_after_change parent.number one_child_more parent) refl));
          spawned = more (nat_eq parent.number parent.number) (eq-eqb parent.number parent.number refl);
        }
      where
        more : (b : Bool) → b ≡ true → parent.children < (cond b (one_child_more parent) parent).children
        more true is = omega arith
        more false is = absurd (cc)

    -- no other frame is this child
    child_apart : (n : ℕ) (other : ActiveFrame) → active after_parent n ≡ Some other → other.path ≡ new_child.path → ⊥
    child_apart n other at same =
        let old = was s state follows after_parent parent.number one_child_more parent live one_change refl later_point n other at in
        let path = path_kept s state follows after_parent parent.number one_child_more parent live one_change refl later_point old.old other old.becomes in
        let less = child_spawned s lawful state follows 0 n parent.number old.old parent parent.children [] refl old.before live (sym path ∙ same) in
        omega (arith, less)

    -- no queue that is made is made by the child, or below it
    child_reached : (queue : ℕ) (path : List ℕ) (deeds : ℕ) (entry : Entry) → slice_get state.makers queue ≡ Some (made_by path deeds) → slice_get s.entries (queue_time s path deeds) ≡ Some entry → is_reached s (queue_time s path deeds) entry.path new_child ≡ true
    child_reached queue path deeds entry at stands =
        let t = queue_time s path deeds in
        or_left (not (is_under new_child.path entry.path)) (nat_lt t (queue_point s new_child.path 0))
        (ap not (false_from_ne_true (is_under new_child.path entry.path) (λ under.
        let rest = under_rest new_child.path entry.path under in
        let here : IsEntryUnder s the_child t = record { entry = entry; stands = stands; rest = rest.0; under = rest.1 ∙ ap (λ q. q ++ rest.0) (sym child_is) } in
        let after = ((spawn_at s lawful parent.path at_time spawn.all own_spawn next_spawn.does).all t here).0 in
        let done = done_is s state t (follows.queues queue (made_by path deeds) at).2 in
        let whole : done.entry.path ≡ parent.path ++ (parent.children ∷ rest.0) =
        ap (λ (e : Entry). e.path) (one_entry s t done.entry entry done.stands stands) ∙ rest.1 ∙ append_assoc parent.path (parent.children ∷ []) rest.0 in
        let above : is_under parent.path done.entry.path ≡ true = ap (is_under parent.path) whole ∙ under_from parent.path (parent.children ∷ rest.0) in
        let found = found_is (λ (f : ActiveFrame). nat_eq f.number parent.number) state.frames parent live in
        let before = reached_under s parent done.entry.path t above (all_each (is_reached s t done.entry.path) state.frames found.index parent done.reached found.stands) in
        omega (arith, before, after))))

    free_after : active after_parent child_number ≡ None
    free_after = active_new s state follows after_parent parent.number one_child_more parent live one_change refl later_point child_number ∙ ap (option_map (frame_after_change parent.number one_child_more)) free

    spawned : QueuesFollow s (after_spawn state parent child_number rights)
    spawned = grown_follows s after_parent parent_follows new_child child_number free_after parent.number refl child_below child_task child_apart child_reached

pub spawned_follows : (s : Script) → IsLawful s → (state : QueueState) → QueuesFollow s state → (number child : ℕ) (parent : ActiveFrame) (rights : List QueueRight) → active state number ≡ Some parent → active state child ≡ None
    → NextSpawnGivesQueues s state parent rights → QueuesFollow s (after_spawn state parent child rights)
spawned_follows s lawful state follows number child parent rights live free spawn =
    let found = found_is (λ (f : ActiveFrame). nat_eq f.number number) state.frames parent live in
    spawned s lawful state follows parent (follows.known found.index parent found.stands) rights spawn child free
