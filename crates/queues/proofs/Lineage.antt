-- Active frames below others: their spawns are done.
use Rattle.std.proofs.Common.{◌≡◌, inl, inr, ℕ, zero, suc, ◌+◌, ◌-◌, ◌<◌, ◌≤◌, Bool, true, false, cond, List, [], ◌∷◌, ◌++◌, length, take, Some, refl, sym, ap, subst, ◌∙◌, append_assoc, arith, take_all}
use Rattle.std.proofs.lemmas.Bool.{and_parts, cases_eq, cases_lt, false_from_ne_true}
use Rattle.std.proofs.lemmas.List.{same_from_push}
use Rattle.std.proofs.lemmas.Option.{slice_get-get_or, slice_get_within, same_Some}
use Rattle.std.specs.Prelude.{◌&&◌, slice_index, filter}
use Rattle.swan_model.specs.declared.script.Entry.{Entry}
use Rattle.swan_model.specs.declared.script.Script.{Script}
use Rattle.swan_model.specs.Granted.{child_path, children_before, is_spawn}
use Rattle.swan_model.specs.Readings.{end_time}
use Rattle.swan_model.specs.Lawful.{IsLawful}
use Rattle.swan_model.specs.Nested.{spawn_time, IsEntryOf, IsEntryUnder}
use Rattle.swan_model.specs.QueueFollows.{IsChildOf, QueuesFollow, queue_point, queue_time, queue_times}
use Rattle.swan_model.specs.QueueState.{ActiveFrame, QueueState, active}
use Rattle.swan_model.specs.SerialTime.{is_of, is_queue_deed, places_from, time, times}
use Rattle.swan_model.specs.Told.{deed_at}
use Rattle.swan_model.proofs.Lists.{last_of}
use Rattle.swan_model.proofs.Paths.{same_path, not_root}
use Rattle.swan_model.proofs.Places.{passing, passing-rises, passing-stays, placed}
use Rattle.swan_model.proofs.ScriptSteps.{deed_is}
use Rattle.swan_model.proofs.TaskEntries.{is_spawn_of}
use Rattle.queues.proofs.Between.{deed_left, deeds_before, is_queue_deed_of, no_spawn, own_last, point_left, point_over, queue_point-own, last_own}
use Rattle.swan_model.proofs.Elements.{taken_stands}
use Rattle.queues.proofs.Places.{Tells, both_places, places-many, places-take}
use Rattle.queues.proofs.QueuePoints.{spawn-gives, spawn_at}

-- ---- how many children a task has spawned

abbrev pub is_spawn_time : Script → ℕ → Bool
is_spawn_time s t = is_spawn (deed_at s t)

places-same : (one other : Entry → Bool) → ((e : Entry) → one e ≡ other e) → (n : ℕ) (es : List Entry) → places_from one n es ≡ places_from other n es
places-same one other same n [] = refl
places-same one other same n (e ∷ es) =
    ap (λ b. cond b (n ∷ places_from one (n + 1) es) (places_from one (n + 1) es)) (same e)
    ∙ ap (λ xs. cond (other e) (n ∷ xs) xs) (places-same one other same (n + 1) es)

spawns-are : (path : List ℕ) (e : Entry) → (is_queue_deed_of path e && is_spawn e.deed) ≡ is_spawn_of path e
spawns-are path e = by (is_of path e) (is_queue_deed e.deed) (is_spawn e.deed) (no_spawn e.deed)
  where
    by : (own deed spawn : Bool) → (deed ≡ false → spawn ≡ false) → ((own && deed) && spawn) ≡ (own && spawn)
    by false deed spawn only = refl
    by true true spawn only = refl
    by true false spawn only = sym (only refl)

module _ (s : Script) where
  -- the spawns among the queue deeds of the first entries
  spawns_among : (path : List ℕ) (t : ℕ) → length (filter (is_spawn_time s) (places_from (is_queue_deed_of path) 0 (take t s.entries))) ≡ children_before s path t
  spawns_among path t =
      let tells : Tells (is_spawn_time s) (λ (e : Entry). is_spawn e.deed) 0 (take t s.entries) =
      λ i e stands.
      let zero_i : 0 + i ≡ i = omega arith in
      ap (is_spawn_time s) zero_i ∙ ap is_spawn (deed_is s i e (taken_stands t s.entries i e stands).1) in
      ap length (sym (both_places (is_queue_deed_of path) (λ (e : Entry). is_spawn e.deed) (is_spawn_time s) 0 (take t s.entries) tells))
      ∙ ap length (places-same (λ e. is_queue_deed_of path e && is_spawn e.deed) (is_spawn_of path) (spawns-are path) 0 (take t s.entries))
      ∙ places-many (is_spawn_of path) 0 (take t s.entries)

  -- the spawns among a task's first queue deeds
  pub spawns_by : (path : List ℕ) (deeds t : ℕ) → deeds_before s path t ≡ deeds → length (filter (is_spawn_time s) (take deeds (queue_times s path))) ≡ children_before s path t
  spawns_by path deeds t before =
      ap (λ k. length (filter (is_spawn_time s) (take k (queue_times s path)))) (sym before)
      ∙ ap (λ xs. length (filter (is_spawn_time s) xs)) (places-take (is_queue_deed_of path) 0 s.entries t)
      ∙ spawns_among path t

  -- the child of a number that is among those which a task has spawned by a time is spawned before it
  pub spawn_before : (path : List ℕ) (child u : ℕ) → child < children_before s path u → (spawn : ℕ) × (spawn_time s path child ≡ Some spawn) × (spawn < u)
  spawn_before path child u less =
      let test = is_spawn_of path in
      let most : children_before s path u ≤ length (places_from test 0 s.entries) =
      let whole = places-many test 0 s.entries in
      let rise = passing-rises test s.entries u (u + length s.entries) (omega arith) in
      let all : passing test (u + length s.entries) s.entries ≡ length (filter test s.entries) = ap (λ es. length (filter test es)) (take_all (u + length s.entries) s.entries (omega arith)) in
      omega (arith, whole, rise, all) in
      let spawn = slice_index (places_from test 0 s.entries) child in
      let known = slice_get-get_or (places_from test 0 s.entries) child 0 (omega (arith, less, most)) in
      let found = placed test 0 s.entries child spawn known in
      let here : found.i ≡ spawn = omega (arith, found.is) in
      let count : children_before s path spawn ≡ child = ap (λ i. passing test i s.entries) (sym here) ∙ found.before in (
        spawn,
        known,
        elim (cases_lt spawn u) [
          | inl before ↦ before
          | inr past ↦
              let rise = passing-rises test s.entries u spawn past in
              absurd (omega (arith, rise, count, less))
        ],
      )

module _ (s : Script) (lawful : IsLawful s) where
  -- where a task has no queue deed left, none of its spawns stands at its last entry or after
  spawns_over : (path : List ℕ) → 0 < length (times s path) → (many : ℕ) → length s.entries ≡ many → children_before s path (time s path (length (times s path) - 1)) ≡ children_before s path many
  spawns_over path some many all =
      let z = time s path (length (times s path) - 1) in
      let own = last_own s path some in
      let within = slice_get_within s.entries z own.entry own.stands in
      sym (passing-stays (is_spawn_of path) s.entries z many (omega (arith, within, all)) (λ i e from before stands.
      false_from_ne_true (is_spawn_of path e) (λ passes.
      let both = and_parts (is_of path e) (is_spawn e.deed) passes in
      let here : IsEntryOf s path i = record { entry = e; stands = stands; own = same_path e.path path both.0 } in
      let gives = spawn-gives e.deed both.1 in
      let at = spawn_at s lawful path i gives.0 here (deed_is s i e stands ∙ gives.1) in
      let late = own_last s path (end_time s (child_path s path i)) at.next in
      omega (arith, late, at.long, from))))

  -- an active frame has spawned as many children as its task did before the frame's point among queues
  pub children_are : (path : List ℕ) (deeds : ℕ) → 0 < length (times s path) → deeds ≤ length (queue_times s path) → length (filter (is_spawn_time s) (take deeds (queue_times s path))) ≡ children_before s path (queue_point s path deeds)
  children_are path deeds some within = elim (cases_lt deeds (length (queue_times s path))) [
    | inl left ↦
        let at = deed_left s path deeds left in
        spawns_by s path deeds (queue_time s path deeds) at.before ∙ ap (children_before s path) (sym (point_left s path deeds left))
    | inr none ↦
        let all : deeds_before s path (length s.entries) ≡ deeds =
        let whole = places-many (is_queue_deed_of path) 0 s.entries in
        let same : deeds_before s path (length s.entries) ≡ length (filter (is_queue_deed_of path) s.entries) = ap (λ es. length (filter (is_queue_deed_of path) es)) (take_all (length s.entries) s.entries (omega arith)) in
        omega (arith, whole, same, none, within) in
        spawns_by s path deeds (length s.entries) all
        ∙ sym (spawns_over path some (length s.entries) refl)
        ∙ ap (children_before s path) (sym (point_over s path deeds none))
  ]

  module _ (state : QueueState) (follows : QueuesFollow s state) where
    -- the spawn of a child that an active frame has spawned stands before the frame's point among queues
    pub spawned_before : (number : ℕ) (frame : ActiveFrame) (child : ℕ) → active state number ≡ Some frame → child < frame.children → (spawn : ℕ) × (spawn_time s frame.path child ≡ Some spawn) × (spawn < queue_point s frame.path frame.deeds)
    spawned_before number frame child live less =
        let task = follows.tasks number frame live in
        let many = task.children ∙ children_are frame.path frame.deeds task.some task.deeds in
        spawn_before s frame.path child (queue_point s frame.path frame.deeds) (omega (arith, less, many))

    -- an active frame that isn't the root has a parent that is active
    record HasParent (frame : ActiveFrame) : Type 0 where
      pub parent : ℕ
      pub of : IsChildOf state frame parent

    has_parent : (number : ℕ) (frame : ActiveFrame) → active state number ≡ Some frame → (frame.path ≡ [] → ⊥) → HasParent frame
    has_parent number frame live below = elim (cases_eq number 0) [
      | inl root ↦
          let at : active state 0 ≡ Some frame = ap (active state) (sym root) ∙ live in
          absurd (below (follows.root frame at).0)
      | inr other ↦
          let parent = follows.others number frame live other in
          record { parent = parent.0; of = follows.children number parent.0 frame live parent.1 }
    ]

    -- an active frame below another one is below a child that this one has spawned
    pub child_spawned : (many number top : ℕ) (frame above : ActiveFrame) (child : ℕ) (rest : List ℕ) → length rest ≡ many → active state number ≡ Some frame → active state top ≡ Some above → frame.path ≡ above.path ++ child ∷ rest → child < above.children
    child_spawned many number top frame above child [] long live there is =
        let parent = has_parent number frame live (λ root. not_root above.path [] child (sym is ∙ root)) in
        let both = same_from_push parent.of.above.path above.path parent.of.index child (sym parent.of.path ∙ is) in
        let same : parent.parent ≡ top = follows.different parent.parent top parent.of.above above parent.of.live there both.0 in
        let frames : parent.of.above ≡ above = same_Some parent.of.above above (sym parent.of.live ∙ ap (active state) same ∙ there) in
        let spawned : parent.of.index < above.children = subst (λ (f : ActiveFrame). parent.of.index < f.children) frames parent.of.spawned in
        omega (arith, spawned, both.1)
    child_spawned zero number top frame above child (x ∷ xs) long live there is = absurd (omega arith)
    child_spawned (suc many) number top frame above child (x ∷ xs) long live there is =
        let parent = has_parent number frame live (λ root. not_root above.path (x ∷ xs) child (sym is ∙ root)) in
        let last = last_of x xs in
        let named : parent.of.above.path ++ parent.of.index ∷ [] ≡ (above.path ++ child ∷ last.front) ++ last.last ∷ [] =
        sym parent.of.path ∙ is ∙ ap (λ q. above.path ++ child ∷ q) last.is ∙ sym (append_assoc above.path (child ∷ last.front) (last.last ∷ [])) in
        let both = same_from_push parent.of.above.path (above.path ++ child ∷ last.front) parent.of.index last.last named in
        child_spawned many parent.parent top parent.of.above above child last.front (omega (arith, last.shorter)) parent.of.live there both.0

    -- So all entries of such a frame, and below it, stand before the point among queues of a frame above it.
    pub entries_before : (number top : ℕ) (frame above : ActiveFrame) (child : ℕ) (rest : List ℕ) → active state number ≡ Some frame → active state top ≡ Some above → frame.path ≡ above.path ++ child ∷ rest
        → (v : ℕ) → IsEntryUnder s frame.path v → v < queue_point s above.path above.deeds
    entries_before number top frame above child rest live there is v under =
        let less = child_spawned (length rest) number top frame above child rest refl live there is in
        let spawn = spawned_before top above child there less in
        let here : IsEntryUnder s (above.path ++ child ∷ []) v =
        record {
          entry = under.entry;
          stands = under.stands;
          rest = rest ++ under.rest;
          under = under.under ∙ ap (λ q. q ++ under.rest) is ∙ append_assoc above.path (child ∷ rest) under.rest ∙ sym (append_assoc above.path (child ∷ []) (rest ++ under.rest));
        } in
        lawful.nested.whole above.path child spawn.0 v (queue_point s above.path above.deeds) spawn.1 here (queue_point-own s above.path above.deeds (follows.tasks top above there).some) spawn.2
