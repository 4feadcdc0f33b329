-- What one queue deed makes of a task's point among queues: what was pushed to each queue by then, and what was taken.
use Rattle.std.proofs.Common.{◌≡◌, ◌⊎◌, ℕ, zero, suc, ◌+◌, ◌-◌, ◌<◌, ◌≤◌, inl, inr, Bool, true, false, nat_lt, cond, List, [], ◌∷◌, length, Some, None, refl, sym, ap, subst, ◌∙◌, arith, append_assoc}
use Rattle.std.proofs.lemmas.Bool.{and_parts, both_ways, cases_Bool, cases_lt, false_from_ne_true, lt-ltb, ltb-true}
use Rattle.std.proofs.lemmas.Option.{slice_get_within, cond_some}
use Rattle.std.specs.Prelude.{slice_get}
use Rattle.swan_model.specs.declared.origin.Origin.{Origin}
use Rattle.swan_model.specs.declared.script.Deed.{Deed}
use Rattle.swan_model.specs.declared.script.Deed.TheVariants as deed
use Rattle.swan_model.specs.declared.script.Entry.{Entry}
use Rattle.swan_model.specs.declared.script.OriginGive.{OriginGive}
use Rattle.swan_model.specs.declared.script.Script.{Script}
use Rattle.swan_model.specs.Granted.{child_path, children_before, is_spawn}
use Rattle.swan_model.specs.Lawful.{IsLawful, IsNextPath, of_child, of_parent, of_same}
use Rattle.swan_model.specs.Nested.{IsEntryOf, IsEntryUnder, spawn_time}
use Rattle.swan_model.specs.QueueFollows.{next_queue_deed, queue_point, queue_time, queue_times}
use Rattle.swan_model.specs.Readings.{end_time, next_deed}
use Rattle.swan_model.specs.Ripe.{is_push_to}
use Rattle.swan_model.specs.SerialTime.{Progress, is_of, is_queue_deed, point, time, times}
use Rattle.swan_model.specs.Told.{count, deed_at, is_pop_of, is_same, taken}
use Rattle.swan_model.proofs.Lists.{some_within}
use Rattle.swan_model.proofs.Origins.{is_same-equal}
use Rattle.swan_model.proofs.Paths.{not_below-itself, same_path}
use Rattle.swan_model.proofs.Places.{passing, passing-none, passing-rises, passing-stays}
use Rattle.swan_model.proofs.ScriptCounts.{count_kept, taken_kept, taken_none}
use Rattle.swan_model.proofs.ScriptSteps.{at_next, deed_is, one_entry, own_under, spawn_moves}
use Rattle.swan_model.proofs.TaskEntries.{own_place, point_at, point_over, point_own, some_own}
use Rattle.queues.proofs.Between.{Comes, IsQueueDeed, IsStill, deed-more, deed_left, is_queue_deed_of, last_own, next_own, own_last, point_left, point_over as queue_point-over, to_queue_point}

-- what was pushed to each queue before two times, and what was taken, is the same
pub record IsSame (s : Script) (queue : Origin) (n m : ℕ) : Type 0 where
  pub counts : count s queue n ≡ count s queue m
  pub takes : taken s queue n ≡ taken s queue m

pub same-self : (s : Script) (queue : Origin) (n : ℕ) → IsSame s queue n n
same-self s queue n = record { counts = refl; takes = refl }

pub same-through : (s : Script) (queue : Origin) (a b c : ℕ) → IsSame s queue a b → IsSame s queue b c → IsSame s queue a c
same-through s queue a b c one two = record { counts = one.counts ∙ two.counts; takes = one.takes ∙ two.takes }

pub same-back : (s : Script) (queue : Origin) (a b : ℕ) → IsSame s queue a b → IsSame s queue b a
same-back s queue a b one = record { counts = sym one.counts; takes = sym one.takes }

quiet-parts : (queue : Origin) (d : Deed) → is_queue_deed d ≡ false → (is_push_to queue d ≡ false) × (is_pop_of queue d ≡ false)
quiet-parts queue (deed.Spawn gives) quiet = absurd (cc)
quiet-parts queue deed.MakeQueue quiet = absurd (cc)
quiet-parts queue (deed.MakeObject value) quiet = (refl, refl)
quiet-parts queue (deed.Push origin value) quiet = absurd (cc)
quiet-parts queue (deed.Pop origin) quiet = absurd (cc)
quiet-parts queue (deed.Test origin) quiet = absurd (cc)
quiet-parts queue (deed.Read object) quiet = (refl, refl)
quiet-parts queue (deed.Write object value) quiet = (refl, refl)
quiet-parts queue deed.Sync quiet = (refl, refl)
quiet-parts queue deed.Quiet quiet = (refl, refl)

-- A deed that isn't a queue deed leaves all queues.
quiet-same : (s : Script) (queue : Origin) (t : ℕ) → is_queue_deed (deed_at s t) ≡ false → IsSame s queue (t + 1) t
quiet-same s queue t quiet =
    let both = quiet-parts queue (deed_at s t) quiet in
    record { counts = count_kept s queue t both.0; takes = taken_kept s queue t both.1 }

-- And so does the pop of an empty queue.
empty-same : (s : Script) (queue popped : Origin) (t : ℕ) → deed_at s t ≡ deed.Pop popped → taken s popped t ≡ count s popped t → IsSame s queue (t + 1) t
empty-same s queue popped t pop none =
    record {
      counts = count_kept s queue t (ap (is_push_to queue) pop);
      takes = elim (cases_Bool (is_same popped queue)) [
        | inl same ↦
            let all : taken s queue t ≡ count s queue t = subst (λ q. taken s q t ≡ count s q t) (is_same-equal popped queue same) none in
            taken_none s queue t (omega (arith, all))
        | inr other ↦ taken_kept s queue t (ap (is_pop_of queue) pop ∙ other)
      ];
    }

module _ (s : Script) where
  still_same-by : (queue : Origin) (path : List ℕ) (n m : ℕ) → IsStill s path n m → (many v : ℕ) → v ≡ n + many → v ≤ m → IsSame s queue v n
  still_same-by queue path n m still zero v is within =
      let same : n ≡ v = omega (arith, is) in
      subst (λ k. IsSame s queue k n) same (same-self s queue n)
  still_same-by queue path n m still (suc many) v is within =
      let before = n + many in
      let rest = still_same-by queue path n m still many before refl (omega (arith, is, within)) in
      let one = quiet-same s queue before (still.quiet before (omega arith) (omega (arith, is, within))) in
      let same : before + 1 ≡ v = omega (arith, is) in
      subst (λ k. IsSame s queue k n) same (same-through s queue (before + 1) before n one rest)

  -- no queue hears of what a task does up to its point among queues
  pub still_same : (queue : Origin) (path : List ℕ) (n m : ℕ) → IsStill s path n m → IsSame s queue m n
  still_same queue path n m still = still_same-by queue path n m still (m - n) m (omega (arith, still.order)) (omega arith)

none-parts : (b : Bool) (does : Deed) → cond b (Some does) None ≡ None → b ≡ false
none-parts true does is = absurd (cc)
none-parts false does is = refl

-- the next queue deed of a task
pub record IsNextDeed (s : Script) (path : List ℕ) (deeds : ℕ) (d : Deed) : Type 0 where
  pub left : deeds < length (queue_times s path)
  pub at : IsQueueDeed s path deeds (queue_point s path deeds)
  pub does : deed_at s (queue_point s path deeds) ≡ d

pub next_is : (s : Script) (path : List ℕ) (deeds : ℕ) (d : Deed) → next_queue_deed s path deeds ≡ Some d → IsNextDeed s path deeds d
next_is s path deeds d next =
    let both = cond_some (nat_lt deeds (length (queue_times s path))) (deed_at s (queue_time s path deeds)) d next in
    let left = ltb-true deeds (length (queue_times s path)) both.0 in
    let here = sym (point_left s path deeds left) in
    record { left = left; at = subst (IsQueueDeed s path deeds) here (deed_left s path deeds left); does = ap (deed_at s) (sym here) ∙ both.1 }

pub none_left : (s : Script) (path : List ℕ) (deeds : ℕ) → next_queue_deed s path deeds ≡ None → length (queue_times s path) ≤ deeds
none_left s path deeds next =
    let no = none-parts (nat_lt deeds (length (queue_times s path))) (deed_at s (queue_time s path deeds)) next in
    elim (cases_lt deeds (length (queue_times s path))) [
      | inl less ↦ absurd (both_ways (nat_lt deeds (length (queue_times s path))) no (lt-ltb deeds (length (queue_times s path)) less))
      | inr none ↦ none
    ]

pub at_own : (s : Script) (path : List ℕ) (deeds t : ℕ) → IsQueueDeed s path deeds t → IsEntryOf s path t
at_own s path deeds t at = record { entry = at.entry; stands = at.stands; own = at.own }

-- the spawn of a child by a task, as the next entry of a frame that has come so far
abbrev pub coming : Script → List ℕ → ℕ → Progress
coming s path t = record { number = 0; path = path; done = passing (is_of path) t s.entries }

pub coming_point : (s : Script) (path : List ℕ) (t : ℕ) → IsEntryOf s path t → point s (coming s path t) ≡ t
coming_point s path t own = point_at s (coming s path t) t (own_place s path t own)

pub coming_deed : (s : Script) (path : List ℕ) (t : ℕ) → IsEntryOf s path t → next_deed s (coming s path t) ≡ Some (deed_at s t)
coming_deed s path t own =
    let k = passing (is_of path) t s.entries in
    let within = slice_get_within (times s path) k t (own_place s path t own) in
    ap (λ b. cond b (Some (deed_at s (point s (coming s path t)))) None) (lt-ltb k (length (times s path)) within)
    ∙ ap (λ u. Some (deed_at s u)) (coming_point s path t own)

-- A task spawns a child at this time.
pub record IsSpawnAt (s : Script) (path : List ℕ) (t : ℕ) (child : List ℕ) : Type 0 where
  -- the child's first entry comes next
  pub first : IsEntryOf s child (t + 1)
  pub some : 0 < length (times s child)
  -- after the child comes the task's next entry
  pub next : IsEntryOf s path (end_time s child)
  pub long : t + 1 < end_time s child
  -- the entries between are those of the child and of tasks below it, and they stand nowhere else
  pub under : (v : ℕ) → t < v → v < end_time s child → IsEntryUnder s child v
  pub all : (v : ℕ) → IsEntryUnder s child v → (t < v) × (v < end_time s child)
  pub known : spawn_time s path (children_before s path t) ≡ Some t

pub spawn-gives : (d : Deed) → is_spawn d ≡ true → (gives : List OriginGive) × (d ≡ deed.Spawn gives)
spawn-gives (deed.Spawn gives) is = (gives, refl)
spawn-gives deed.MakeQueue is = absurd (cc)
spawn-gives (deed.MakeObject value) is = absurd (cc)
spawn-gives (deed.Push queue value) is = absurd (cc)
spawn-gives (deed.Pop queue) is = absurd (cc)
spawn-gives (deed.Test queue) is = absurd (cc)
spawn-gives (deed.Read object) is = absurd (cc)
spawn-gives (deed.Write object value) is = absurd (cc)
spawn-gives deed.Sync is = absurd (cc)
spawn-gives deed.Quiet is = absurd (cc)

module _ (s : Script) (lawful : IsLawful s) where
  spawn-parts : (p : Progress) (gives : List OriginGive) → next_deed s p ≡ Some (deed.Spawn gives) → IsSpawnAt s p.path (point s p) (child_path s p.path (point s p))
  spawn-parts p gives next =
      let child = child_path s p.path (point s p) in
      let moves = spawn_moves s lawful p gives next in
      let step = at_next s p (deed.Spawn gives) next in
      let after : Progress = record p { done = p.done + 1 } in
      let first : Progress = record { number = 0; path = child; done = 0 } in
      let left : p.done + 1 < length (times s p.path) = elim (cases_lt (p.done + 1) (length (times s p.path))) [
        | inl less ↦ less
        | inr none ↦
            let over = point_over s after none in
            let index : length (times s p.path) - 1 ≡ p.done = omega (arith, step.left, none) in
            let last : time s p.path (length (times s p.path) - 1) ≡ time s p.path p.done = ap (time s p.path) index in
            absurd (omega (arith, over, last, step.at, moves.ends, moves.long))
      ] in
      record {
        first = subst (IsEntryOf s child) (moves.starts 0) (point_own s first moves.some);
        some = moves.some;
        next = subst (IsEntryOf s p.path) moves.ends (point_own s after left);
        long = moves.long;
        under = λ v from before.
            let here = moves.stands v before in
            let rest = moves.under v here.0 from before here.1 in
            record { entry = here.0; stands = here.1; rest = rest.0; under = rest.1 };
        all = λ v under. moves.all v under.entry under.rest under.stands under.under;
        known = moves.known;
      }

  pub spawn_at : (path : List ℕ) (t : ℕ) (gives : List OriginGive) → IsEntryOf s path t → deed_at s t ≡ deed.Spawn gives → IsSpawnAt s path t (child_path s path t)
  spawn_at path t gives own does =
      subst (λ k. IsSpawnAt s path k (child_path s path k)) (coming_point s path t own)
      (spawn-parts (coming s path t) gives (coming_deed s path t own ∙ ap Some does))

  -- the last entry of a task ends it
  pub last-ends : (path : List ℕ) (z : ℕ) (own : IsEntryOf s path z) → ((v : ℕ) → IsEntryOf s path v → v ≤ z) → own.entry.ends ≡ true
  last-ends path z own last = elim (cases_Bool own.entry.ends) [
    | inl ends ↦ ends
    | inr on ↦ elim (cases_Bool (is_spawn own.entry.deed)) [
      | inl spawns ↦
          let gives = spawn-gives own.entry.deed spawns in
          let at = spawn_at path z gives.0 own (deed_is s z own.entry own.stands ∙ gives.1) in
          let late = last (end_time s (child_path s path z)) at.next in
          absurd (omega (arith, late, at.long))
      | inr still ↦ elim (cases_lt (z + 1) (length s.entries)) [
        | inl more ↦
            let other = some_within s.entries (z + 1) more in
            absurd (goes-on on still other.0 other.1 (lawful.next z own.entry other.0 own.stands other.1))
        | inr none ↦
            let within = slice_get_within s.entries z own.entry own.stands in
            let end = lawful.last z (omega (arith, none, within)) in
            ap (λ (e : Entry). e.ends) (one_entry s z own.entry end.entry own.stands end.stands) ∙ end.ends
      ]
    ]
  ]
    where
      goes-on : own.entry.ends ≡ false → is_spawn own.entry.deed ≡ false → (other : Entry) → slice_get s.entries (z + 1) ≡ Some other → IsNextPath s z own.entry other.path → ⊥
      goes-on on still other stands (of_child spawns stays is) = both_ways (is_spawn own.entry.deed) still spawns
      goes-on on still other stands (of_parent quiet ends child is) = both_ways own.entry.ends on ends
      goes-on on still other stands (of_same quiet stays is) =
          let late = last (z + 1) (record { entry = other; stands = stands; own = is ∙ own.own }) in
          omega (arith, late)

  -- by nothing that others see, or by the pop of an empty queue
  pub last_makes_none : (path : List ℕ) (t : ℕ) → IsEntryOf s path t → time s path (length (times s path) - 1) ≡ t → deed_at s t ≡ deed.MakeQueue → ⊥
  last_makes_none path t own last makes =
      let entry_does = deed_is s t own.entry own.stands in
      elim (lawful.ending t own.entry own.stands (last-ends path t own (λ v there. let late = own_last s path v there in omega (arith, late, last)))) [
        | inl quiet ↦ let both : deed.MakeQueue ≡ deed.Quiet = sym makes ∙ entry_does ∙ quiet in absurd (cc)
        | inr pop ↦ let both : deed.MakeQueue ≡ deed.Pop pop.0 = sym makes ∙ entry_does ∙ pop.1 in absurd (cc)
      ]

  -- and leaves all queues
  pub last_same : (queue : Origin) (path : List ℕ) → 0 < length (times s path) → IsSame s queue (time s path (length (times s path) - 1) + 1) (time s path (length (times s path) - 1))
  last_same queue path some =
      let z = time s path (length (times s path) - 1) in
      let own = last_own s path some in
      let does = deed_is s z own.entry own.stands in
      elim (lawful.ending z own.entry own.stands (last-ends path z own (own_last s path))) [
        | inl quiet ↦ quiet-same s queue z (ap is_queue_deed (does ∙ quiet))
        | inr pop ↦ empty-same s queue pop.0 z (does ∙ pop.1) pop.2
      ]

  -- ---- from one queue deed to the next

  -- a queue deed that is the last entry of its task, where the point among queues stays
  pub record IsLastDeed (path : List ℕ) (deeds t : ℕ) : Type 0 where
    pub last : time s path (length (times s path) - 1) ≡ t
    pub here : queue_point s path (deeds + 1) ≡ t

  -- after a queue deed that is no spawn comes the next entry, if the task has one
  pub goes_to : (path : List ℕ) (deeds t : ℕ) → IsQueueDeed s path deeds t → is_spawn (deed_at s t) ≡ false → IsStill s path (t + 1) (queue_point s path (deeds + 1)) ⊎ IsLastDeed path deeds t
  goes_to path deeds t at quiet =
      let own = at_own s path deeds t at in
      let z = time s path (length (times s path) - 1) in
      elim (cases_lt t z) [
        | inl less ↦
            let more = deed-more s path t own at.deed in
            let comes : Comes s path (deeds + 1) (t + 1) = record { own = next_own s lawful path t z own quiet less (last_own s path (some_own s path t own)); before = omega (arith, more, at.before) } in
            inl (to_queue_point s lawful path (deeds + 1) (t + 1) comes)
        | inr none ↦
            let last = own_last s path t own in
            let here : z ≡ t = omega (arith, last, none) in
            let over : length (queue_times s path) ≤ deeds + 1 = elim (cases_lt (deeds + 1) (length (queue_times s path))) [
              | inl left ↦
                  let next = deed_left s path (deeds + 1) left in
                  let late = own_last s path (queue_time s path (deeds + 1)) (at_own s path (deeds + 1) (queue_time s path (deeds + 1)) next) in
                  let rise = passing-rises (is_queue_deed_of path) s.entries (queue_time s path (deeds + 1)) t (omega (arith, late, here)) in
                  absurd (omega (arith, rise, next.before, at.before))
              | inr over ↦ over
            ] in
            inr (record { last = here; here = queue_point-over s path (deeds + 1) over ∙ here })
      ]

  after-deed : (queue : Origin) (path : List ℕ) (deeds t : ℕ) → IsQueueDeed s path deeds t → is_spawn (deed_at s t) ≡ false → IsSame s queue (queue_point s path (deeds + 1)) (t + 1)
  after-deed queue path deeds t at quiet = elim (goes_to path deeds t at quiet) [
    | inl still ↦ still_same s queue path (t + 1) (queue_point s path (deeds + 1)) still
    | inr over ↦
        let z = time s path (length (times s path) - 1) in
        let same : IsSame s queue z (z + 1) = same-back s queue (z + 1) z (last_same queue path (some_own s path t (at_own s path deeds t at))) in
        let moved : IsSame s queue t (t + 1) = subst (λ k. IsSame s queue k (k + 1)) over.last same in
        subst (λ k. IsSame s queue k (t + 1)) (sym over.here) moved
  ]

  -- What a queue deed that is no spawn makes: the next point among queues is as if it came right after.
  pub moved_counts : (queue : Origin) (path : List ℕ) (deeds : ℕ) (d : Deed) → next_queue_deed s path deeds ≡ Some d → is_spawn d ≡ false → IsSame s queue (queue_point s path (deeds + 1)) (queue_point s path deeds + 1)
  moved_counts queue path deeds d next quiet =
      let deed = next_is s path deeds d next in
      after-deed queue path deeds (queue_point s path deeds) deed.at (ap is_spawn deed.does ∙ quiet)

  -- the point of a new child
  pub child_comes : (path : List ℕ) (t : ℕ) (gives : List OriginGive) → IsEntryOf s path t → deed_at s t ≡ deed.Spawn gives → Comes s (child_path s path t) 0 (t + 1)
  child_comes path t gives own does =
      let child = child_path s path t in
      let at = spawn_at path t gives own does in
      record {
        own = at.first;
        before = passing-none (is_queue_deed_of child) s.entries (t + 1) (λ i e before stands.
            false_from_ne_true (is_queue_deed_of child e) (λ passes.
            let both = and_parts (is_of child e) (is_queue_deed e.deed) passes in
            let late = at.all i (own_under s child i (record { entry = e; stands = stands; own = same_path e.path child both.0 })) in
            omega (arith, before, late.0)));
      }

  -- the point of the parent after the child
  pub parent_comes : (path : List ℕ) (deeds t : ℕ) (gives : List OriginGive) → IsQueueDeed s path deeds t → deed_at s t ≡ deed.Spawn gives → Comes s path (deeds + 1) (end_time s (child_path s path t))
  parent_comes path deeds t gives deed does =
      let child = child_path s path t in
      let own = at_own s path deeds t deed in
      let at = spawn_at path t gives own does in
      let one_on : t + 1 ≡ suc t = omega arith in
      let more = deed-more s path t own deed.deed in
      let stays = passing-stays (is_queue_deed_of path) s.entries (t + 1) (end_time s child) (omega (arith, at.long)) (λ i e from before stands.
      false_from_ne_true (is_queue_deed_of path e) (λ passes.
      let both = and_parts (is_of path e) (is_queue_deed e.deed) passes in
      let under = at.under i (omega (arith, from)) before in
      let same : under.entry.path ≡ e.path = ap (λ (x : Entry). x.path) (one_entry s i under.entry e under.stands stands) in
      not_below-itself path under.rest (children_before s path t)
      (sym (same_path e.path path both.0) ∙ sym same ∙ under.under ∙ append_assoc path (children_before s path t ∷ []) under.rest))) in
      record { own = at.next; before = omega (arith, stays, more, deed.before) }

  -- What a spawn makes: the child begins right after it, and the parent goes on after the child's end.
  pub spawned_counts : (queue : Origin) (path : List ℕ) (deeds : ℕ) (gives : List OriginGive) → next_queue_deed s path deeds ≡ Some (deed.Spawn gives)
      → let t = queue_point s path deeds in let child = child_path s path t in IsSame s queue (queue_point s child 0) (t + 1) × IsSame s queue (queue_point s path (deeds + 1)) (end_time s child)
  spawned_counts queue path deeds gives next =
      let deed = next_is s path deeds (deed.Spawn gives) next in
      let t = queue_point s path deeds in
      let child = child_path s path t in
      let one = to_queue_point s lawful child 0 (t + 1) (child_comes path t gives (at_own s path deeds t deed.at) deed.does) in
      let two = to_queue_point s lawful path (deeds + 1) (end_time s child) (parent_comes path deeds t gives deed.at deed.does) in (
        still_same s queue child (t + 1) (queue_point s child 0) one,
        still_same s queue path (end_time s child) (queue_point s path (deeds + 1)) two,
      )

  -- and the end of a task, where it has no queue deed left
  pub ended_counts : (queue : Origin) (path : List ℕ) (deeds : ℕ) → next_queue_deed s path deeds ≡ None → 0 < length (times s path) → IsSame s queue (queue_point s path deeds) (end_time s path)
  ended_counts queue path deeds next some =
      let z = time s path (length (times s path) - 1) in
      subst (λ k. IsSame s queue k (z + 1)) (sym (queue_point-over s path deeds (none_left s path deeds next))) (same-back s queue (z + 1) z (last_same queue path some))
