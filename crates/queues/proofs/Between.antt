-- From a point of a task to its point among queues there are only entries of the task, and no queue hears of them.
use Rattle.std.proofs.Common.{◌≡◌, ℕ, zero, suc, ◌+◌, ◌-◌, ◌<◌, ◌≤◌, inl, inr, Bool, true, false, nat_eq, cond, List, length, Some, refl, sym, ap, subst, ◌∙◌, arith}
use Rattle.std.proofs.lemmas.Bool.{and_parts, and_from, both_ways, cases_lt, false_from_ne_true, le-ltb, lt-ltb}
use Rattle.std.proofs.lemmas.Option.{get_or_from_slice_get, slice_get-get_or, slice_get_within}
use Rattle.std.specs.Cmp.Lexicographic.{pointwise}
use Rattle.std.specs.Prelude.{◌&&◌, slice_get}
use Rattle.swan_model.specs.declared.script.Deed.{Deed}
use Rattle.swan_model.specs.declared.script.Deed.TheVariants as deed
use Rattle.swan_model.specs.declared.script.Entry.{Entry}
use Rattle.swan_model.specs.declared.script.Script.{Script}
use Rattle.swan_model.specs.Granted.{is_spawn}
use Rattle.swan_model.specs.Lawful.{IsLawful, IsNextPath, of_child, of_parent, of_same}
use Rattle.swan_model.specs.Nested.{IsEntryOf, IsEndOf}
use Rattle.swan_model.specs.QueueFollows.{queue_point, queue_time, queue_times}
use Rattle.swan_model.specs.SerialTime.{is_of, is_queue_deed, time, times}
use Rattle.swan_model.specs.Told.{deed_at}
use Rattle.swan_model.proofs.Lists.{some_within}
use Rattle.swan_model.proofs.Paths.{same_path, path_is-itself}
use Rattle.swan_model.proofs.Places.{passing, passing-more, passing-rises, place_of, placed}
use Rattle.swan_model.proofs.ScriptSteps.{deed_is, own_under}
use Rattle.swan_model.proofs.TaskEntries.{own_before, own_place}
use Rattle.swan_model.proofs.Times.{times_rise}
use Rattle.swan_model.proofs.Elements.{one_if}

-- whether an entry is a queue deed of the task with this path
abbrev pub is_queue_deed_of : List ℕ → Entry → Bool
is_queue_deed_of path entry = is_of path entry && is_queue_deed entry.deed

-- how many queue deeds of a task stand before the entry n
abbrev pub deeds_before : Script → List ℕ → ℕ → ℕ
deeds_before s path n = passing (is_queue_deed_of path) n s.entries

-- a spawn is a queue deed
pub no_spawn : (d : Deed) → is_queue_deed d ≡ false → is_spawn d ≡ false
no_spawn (deed.Spawn gives) quiet = absurd (cc)
no_spawn deed.MakeQueue quiet = refl
no_spawn (deed.MakeObject value) quiet = refl
no_spawn (deed.Push queue value) quiet = refl
no_spawn (deed.Pop queue) quiet = refl
no_spawn (deed.Test queue) quiet = refl
no_spawn (deed.Read object) quiet = refl
no_spawn (deed.Write object value) quiet = refl
no_spawn deed.Sync quiet = refl
no_spawn deed.Quiet quiet = refl

module _ (s : Script) where
  pub own_is : (path : List ℕ) (entry : Entry) → entry.path ≡ path → is_of path entry ≡ true
  own_is path entry own = ap (λ p. pointwise nat_eq p path) own ∙ path_is-itself path

  -- no entry of a task comes after its last one
  pub own_last : (path : List ℕ) (v : ℕ) → IsEntryOf s path v → v ≤ time s path (length (times s path) - 1)
  own_last path v own =
      let k = passing (is_of path) v s.entries in
      let at = own_place s path v own in
      let within = slice_get_within (times s path) k v at in
      let here : time s path k ≡ v = get_or_from_slice_get (times s path) k v 0 at in
      elim (cases_lt k (length (times s path) - 1)) [
        | inl less ↦
            let rise = times_rise s path k (length (times s path) - 1) less (omega (arith, within)) in
            omega (arith, rise, here)
        | inr last ↦
            let same : k ≡ length (times s path) - 1 = omega (arith, within, last) in
            let there : time s path k ≡ time s path (length (times s path) - 1) = ap (time s path) same in
            omega (arith, here, there)
      ]

  pub last_own : (path : List ℕ) → 0 < length (times s path) → IsEntryOf s path (time s path (length (times s path) - 1))
  last_own path some =
      let k = length (times s path) - 1 in
      (own_before s path k (time s path k) (slice_get-get_or (times s path) k 0 (omega arith))).0

  -- the time of a queue deed of a task that has so many earlier ones
  pub record IsQueueDeed (path : List ℕ) (deeds t : ℕ) : Type 0 where
    pub entry : Entry
    pub stands : slice_get s.entries t ≡ Some entry
    pub own : entry.path ≡ path
    pub deed : is_queue_deed (deed_at s t) ≡ true
    pub before : deeds_before s path t ≡ deeds

  pub deed_left : (path : List ℕ) (deeds : ℕ) → deeds < length (queue_times s path) → IsQueueDeed path deeds (queue_time s path deeds)
  deed_left path deeds left =
      let t = queue_time s path deeds in
      let found = placed (is_queue_deed_of path) 0 s.entries deeds t (slice_get-get_or (queue_times s path) deeds 0 left) in
      let here : found.i ≡ t = omega (arith, found.is) in
      let both = and_parts (is_of path found.entry) (is_queue_deed found.entry.deed) found.passes in
      let stands : slice_get s.entries t ≡ Some found.entry = ap (slice_get s.entries) (sym here) ∙ found.stands in
      record {
        entry = found.entry;
        stands = stands;
        own = same_path found.entry.path path both.0;
        deed = ap is_queue_deed (deed_is s t found.entry stands) ∙ both.1;
        before = ap (λ i. deeds_before s path i) (sym here) ∙ found.before;
      }

  pub point_left : (path : List ℕ) (deeds : ℕ) → deeds < length (queue_times s path) → queue_point s path deeds ≡ queue_time s path deeds
  point_left path deeds left =
      ap (λ b. cond b (queue_time s path deeds) (time s path (length (times s path) - 1))) (lt-ltb deeds (length (queue_times s path)) left)

  pub point_over : (path : List ℕ) (deeds : ℕ) → length (queue_times s path) ≤ deeds → queue_point s path deeds ≡ time s path (length (times s path) - 1)
  point_over path deeds none =
      ap (λ b. cond b (queue_time s path deeds) (time s path (length (times s path) - 1))) (le-ltb deeds (length (queue_times s path)) none)

  -- the point among queues is the time of an entry of the task
  pub queue_point-own : (path : List ℕ) (deeds : ℕ) → 0 < length (times s path) → IsEntryOf s path (queue_point s path deeds)
  queue_point-own path deeds some = elim (cases_lt deeds (length (queue_times s path))) [
    | inl left ↦
        let at = deed_left path deeds left in
        let own : IsEntryOf s path (queue_time s path deeds) = record { entry = at.entry; stands = at.stands; own = at.own } in
        subst (IsEntryOf s path) (sym (point_left path deeds left)) own
    | inr none ↦ subst (IsEntryOf s path) (sym (point_over path deeds none)) (last_own path some)
  ]

  -- a queue deed of a task counts as one more of them
  pub deed-more : (path : List ℕ) (t : ℕ) → IsEntryOf s path t → is_queue_deed (deed_at s t) ≡ true → deeds_before s path (t + 1) ≡ deeds_before s path t + 1
  deed-more path t own deed =
      let does : is_queue_deed own.entry.deed ≡ true = ap is_queue_deed (sym (deed_is s t own.entry own.stands)) ∙ deed in
      let yes = and_from (is_of path own.entry) (is_queue_deed own.entry.deed) (own_is path own.entry own.own) does in
      let one : one_if (is_queue_deed_of path own.entry) ≡ 1 = ap one_if yes in
      let one_on : t + 1 ≡ suc t = omega arith in
      let next : deeds_before s path (t + 1) ≡ deeds_before s path (suc t) = ap (deeds_before s path) one_on in
      omega (arith, next, passing-more (is_queue_deed_of path) s.entries t own.entry own.stands, one)

  -- and stands among them after those before it
  pub deed-place : (path : List ℕ) (t : ℕ) → IsEntryOf s path t → is_queue_deed (deed_at s t) ≡ true → slice_get (queue_times s path) (deeds_before s path t) ≡ Some t
  deed-place path t own deed =
      let does : is_queue_deed own.entry.deed ≡ true = ap is_queue_deed (sym (deed_is s t own.entry own.stands)) ∙ deed in
      let yes = and_from (is_of path own.entry) (is_queue_deed own.entry.deed) (own_is path own.entry own.own) does in
      let zero_t : 0 + t ≡ t = omega arith in
      place_of (is_queue_deed_of path) 0 s.entries t own.entry own.stands yes ∙ ap Some zero_t

  -- At this time a task has an entry, and so many of its queue deeds stand before.
  pub record Comes (path : List ℕ) (deeds n : ℕ) : Type 0 where
    pub own : IsEntryOf s path n
    pub before : deeds_before s path n ≡ deeds

  -- From one time to another all entries are those of a task, and none before the last is a queue deed.
  pub record IsStill (path : List ℕ) (n m : ℕ) : Type 0 where
    pub order : n ≤ m
    pub own : (v : ℕ) → n ≤ v → v ≤ m → IsEntryOf s path v
    pub quiet : (v : ℕ) → n ≤ v → v < m → is_queue_deed (deed_at s v) ≡ false

module _ (s : Script) (lawful : IsLawful s) where
  -- after an entry of a task that is no spawn comes one of the same task, as long as it has one left
  pub next_own : (path : List ℕ) (v u : ℕ) → IsEntryOf s path v → is_spawn (deed_at s v) ≡ false → v < u → IsEntryOf s path u → IsEntryOf s path (v + 1)
  next_own path v u here quiet later there =
      let within = slice_get_within s.entries u there.entry there.stands in
      let more = some_within s.entries (v + 1) (omega (arith, within)) in
      by more.0 more.1 (lawful.next v here.entry more.0 here.stands more.1)
    where
      by : (other : Entry) → slice_get s.entries (v + 1) ≡ Some other → IsNextPath s v here.entry other.path → IsEntryOf s path (v + 1)
      by other stands (of_child spawns stays is) =
          let still : is_spawn here.entry.deed ≡ false = ap is_spawn (sym (deed_is s v here.entry here.stands)) ∙ quiet in
          absurd (both_ways (is_spawn here.entry.deed) still spawns)
      by other stands (of_parent still ends child is) =
          let end : IsEndOf s path v = record { entry = here.entry; stands = here.stands; own = here.own; ends = ends } in
          let late = lawful.over path v u end (own_under s path u there) in
          absurd (omega (arith, late, later))
      by other stands (of_same still stays is) = record { entry = other; stands = stands; own = is ∙ here.own }

  still_own : (path : List ℕ) (n m : ℕ) → IsEntryOf s path n → IsEntryOf s path m → ((v : ℕ) → n ≤ v → v < m → IsEntryOf s path v → is_queue_deed (deed_at s v) ≡ false) → (many v : ℕ) → v ≡ n + many → v ≤ m → IsEntryOf s path v
  still_own path n m from to quiet zero v is within =
      let same : n ≡ v = omega (arith, is) in
      subst (IsEntryOf s path) same from
  still_own path n m from to quiet (suc many) v is within =
      let before = n + many in
      let here = still_own path n m from to quiet many before refl (omega (arith, is, within)) in
      let next = next_own path before m here (no_spawn (deed_at s before) (quiet before (omega arith) (omega (arith, is, within)) here)) (omega (arith, is, within)) to in
      let same : before + 1 ≡ v = omega (arith, is) in
      subst (IsEntryOf s path) same next

  -- where a task comes to a later entry by no queue deed, all entries between are its own
  pub still_between : (path : List ℕ) (n m : ℕ) → n ≤ m → IsEntryOf s path n → IsEntryOf s path m → ((v : ℕ) → n ≤ v → v < m → IsEntryOf s path v → is_queue_deed (deed_at s v) ≡ false) → IsStill s path n m
  still_between path n m order from to quiet =
      let all : (v : ℕ) → n ≤ v → v ≤ m → IsEntryOf s path v = λ v after within. still_own path n m from to quiet (v - n) v (omega (arith, after)) within in
      record { order = order; own = all; quiet = λ v after before. quiet v after before (all v after (omega (arith, before))) }

  pub to_deed : (path : List ℕ) (deeds n t : ℕ) → Comes s path deeds n → IsQueueDeed s path deeds t → IsStill s path n t
  to_deed path deeds n t comes at =
      let to : IsEntryOf s path t = record { entry = at.entry; stands = at.stands; own = at.own } in
      let order : n ≤ t = elim (cases_lt t n) [
        | inl past ↦
            let more = deed-more s path t to at.deed in
            let rise = passing-rises (is_queue_deed_of path) s.entries (t + 1) n (omega (arith, past)) in
            absurd (omega (arith, more, rise, comes.before, at.before))
        | inr before ↦ before
      ] in
      still_between path n t order comes.own to
      (λ v after before own. false_from_ne_true (is_queue_deed (deed_at s v)) (λ deed.
      let more = deed-more s path v own deed in
      let first = passing-rises (is_queue_deed_of path) s.entries n v after in
      let last = passing-rises (is_queue_deed_of path) s.entries (v + 1) t (omega (arith, before)) in
      omega (arith, more, first, last, comes.before, at.before)))

  to_last : (path : List ℕ) (deeds n : ℕ) → Comes s path deeds n → length (queue_times s path) ≤ deeds → IsStill s path n (time s path (length (times s path) - 1))
  to_last path deeds n comes none =
      let z = time s path (length (times s path) - 1) in
      let within = slice_get_within (times s path) (passing (is_of path) n s.entries) n (own_place s path n comes.own) in
      let some : 0 < length (times s path) = omega (arith, within) in
      still_between path n z (own_last s path n comes.own) comes.own (last_own s path some)
      (λ v after before own. false_from_ne_true (is_queue_deed (deed_at s v)) (λ deed.
      let first = passing-rises (is_queue_deed_of path) s.entries n v after in
      let place = slice_get_within (queue_times s path) (deeds_before s path v) v (deed-place s path v own deed) in
      omega (arith, first, place, comes.before, none)))

  -- So it is from where a task comes to its point among queues.
  pub to_queue_point : (path : List ℕ) (deeds n : ℕ) → Comes s path deeds n → IsStill s path n (queue_point s path deeds)
  to_queue_point path deeds n comes = elim (cases_lt deeds (length (queue_times s path))) [
    | inl left ↦ subst (IsStill s path n) (sym (point_left s path deeds left)) (to_deed path deeds n (queue_time s path deeds) comes (deed_left s path deeds left))
    | inr none ↦ subst (IsStill s path n) (sym (point_over s path deeds none)) (to_last path deeds n comes none)
  ]
