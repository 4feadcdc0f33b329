-- The entries of a task: its spawns, and the entry at its point.
use Rattle.std.proofs.Common.{◌≡◌, ℕ, suc, ◌+◌, ◌-◌, ◌<◌, ◌≤◌, inl, inr, Bool, true, false, ◌&&◌, nat_eq, cond, List, Some, length, sym, ap, ◌∙◌, arith}
use Rattle.std.proofs.lemmas.Bool.{and_parts, and_from, cases_lt, false_from_ne_true, le-ltb, lt-ltb}
use Rattle.std.proofs.lemmas.Option.{get_or_from_slice_get, slice_get-get_or, slice_get_within}
use Rattle.std.specs.Cmp.Lexicographic.{pointwise}
use Rattle.std.specs.Prelude.{slice_get}
use Rattle.swan_model.specs.declared.script.Entry.{Entry}
use Rattle.swan_model.specs.declared.script.Script.{Script}
use Rattle.swan_model.specs.Granted.{children_before, is_spawn}
use Rattle.swan_model.specs.Nested.{spawn_time, IsEntryOf}
use Rattle.swan_model.specs.Readings.{end_time}
use Rattle.swan_model.specs.SerialTime.{Progress, is_of, times, time, point}
use Rattle.swan_model.proofs.Paths.{same_path, path_is-itself}
use Rattle.swan_model.proofs.Places.{passing, passing-more, passing-none, passing-stays, place_of, placed}
use Rattle.swan_model.proofs.Times.{times_rise}
use Rattle.swan_model.proofs.Elements.{one_if}

-- whether an entry is a spawn of the task with this path
abbrev pub is_spawn_of : List ℕ → Entry → Bool
is_spawn_of path entry = is_of path entry && is_spawn entry.deed

-- a spawn is that of its parent's next child
pub spawn_is_next : (s : Script) (n : ℕ) (entry : Entry) → slice_get s.entries n ≡ Some entry → is_spawn entry.deed ≡ true → spawn_time s entry.path (children_before s entry.path n) ≡ Some n
spawn_is_next s n entry is spawns =
    let yes = and_from (is_of entry.path entry) (is_spawn entry.deed) (path_is-itself entry.path) spawns in
    let zero_n : 0 + n ≡ n = omega arith in
    place_of (is_spawn_of entry.path) 0 s.entries n entry is yes ∙ ap Some zero_n

module _ (s : Script) where
  -- the spawn of a child is an entry of its parent
  pub spawn_own : (path : List ℕ) (child spawn : ℕ) → spawn_time s path child ≡ Some spawn → IsEntryOf s path spawn
  spawn_own path child spawn is =
      let found = placed (is_spawn_of path) 0 s.entries child spawn is in
      let here : found.i ≡ spawn = omega (arith, found.is) in
      let both = and_parts (is_of path found.entry) (is_spawn found.entry.deed) found.passes in
      record { entry = found.entry; stands = ap (slice_get s.entries) (sym here) ∙ found.stands; own = same_path found.entry.path path both.0 }

  pub point_is : (frame : Progress) → frame.done < length (times s frame.path) → point s frame ≡ time s frame.path frame.done
  point_is frame left =
      ap (λ b. cond b (time s frame.path frame.done) (time s frame.path (length (times s frame.path) - 1) + 1))
      (lt-ltb frame.done (length (times s frame.path)) left)

  -- at its point a frame that has an entry left has its next entry
  pub point_own : (frame : Progress) → frame.done < length (times s frame.path) → IsEntryOf s frame.path (point s frame)
  point_own frame left =
      let t = time s frame.path frame.done in
      let found = placed (is_of frame.path) 0 s.entries frame.done t (slice_get-get_or (times s frame.path) frame.done 0 left) in
      let here : found.i ≡ point s frame = omega (arith, found.is, point_is frame left) in
      record { entry = found.entry; stands = ap (slice_get s.entries) (sym here) ∙ found.stands; own = same_path found.entry.path frame.path found.passes }

  -- where the point of a frame is that has an entry left
  pub point_at : (frame : Progress) (t : ℕ) → slice_get (times s frame.path) frame.done ≡ Some t → point s frame ≡ t
  point_at frame t is =
      point_is frame (slice_get_within (times s frame.path) frame.done t is)
      ∙ get_or_from_slice_get (times s frame.path) frame.done t 0 is

  -- and where it is once it has none left
  pub point_over : (frame : Progress) → length (times s frame.path) ≤ frame.done → point s frame ≡ end_time s frame.path
  point_over frame none =
      ap (λ b. cond b (time s frame.path frame.done) (time s frame.path (length (times s frame.path) - 1) + 1))
      (le-ltb frame.done (length (times s frame.path)) none)

  -- an entry of a task stands among the task's
  pub own_place : (path : List ℕ) (t : ℕ) → IsEntryOf s path t → slice_get (times s path) (passing (is_of path) t s.entries) ≡ Some t
  own_place path t own =
      let yes : is_of path own.entry ≡ true = ap (λ p. pointwise nat_eq p path) own.own ∙ path_is-itself path in
      let zero_t : 0 + t ≡ t = omega arith in
      place_of (is_of path) 0 s.entries t own.entry own.stands yes ∙ ap Some zero_t

  -- who has an entry has some
  pub some_own : (path : List ℕ) (t : ℕ) → IsEntryOf s path t → 0 < length (times s path)
  some_own path t own =
      let within = slice_get_within (times s path) (passing (is_of path) t s.entries) t (own_place path t own) in
      omega (arith, within)

  -- as many entries of the task stand before it
  pub own_before : (path : List ℕ) (k t : ℕ) → slice_get (times s path) k ≡ Some t → IsEntryOf s path t × (passing (is_of path) t s.entries ≡ k)
  own_before path k t is =
      let found = placed (is_of path) 0 s.entries k t is in
      let here : found.i ≡ t = omega (arith, found.is) in (
        record { entry = found.entry; stands = ap (slice_get s.entries) (sym here) ∙ found.stands; own = same_path found.entry.path path found.passes },
        ap (λ i. passing (is_of path) i s.entries) (sym here) ∙ found.before,
      )

  -- the next entry of a task after one, where none of it stands between
  pub next_time : (path : List ℕ) (k t u : ℕ) → slice_get (times s path) k ≡ Some t → IsEntryOf s path u → t < u → ((v : ℕ) → t < v → v < u → IsEntryOf s path v → ⊥) → slice_get (times s path) (k + 1) ≡ Some u
  next_time path k t u is own later none =
      let at = own_before path k t is in
      let fails : (i : ℕ) (e : Entry) → suc t ≤ i → i < u → slice_get s.entries i ≡ Some e → is_of path e ≡ false =
      λ i e from below stands. false_from_ne_true (is_of path e) (λ yes. none i (omega arith) below (record { entry = e; stands = stands; own = same_path e.path path yes })) in
      let yes : is_of path at.0.entry ≡ true = ap (λ p. pointwise nat_eq p path) at.0.own ∙ path_is-itself path in
      let one : one_if (is_of path at.0.entry) ≡ 1 = ap one_if yes in
      let before : passing (is_of path) u s.entries ≡ k + 1 =
      omega (arith, passing-stays (is_of path) s.entries (suc t) u (omega arith) fails, passing-more (is_of path) s.entries t at.0.entry at.0.stands, one, at.1) in
      ap (slice_get (times s path)) (sym before) ∙ own_place path u own

  -- the first entry of a task
  pub first_time : (path : List ℕ) (u : ℕ) → IsEntryOf s path u → ((v : ℕ) → v < u → IsEntryOf s path v → ⊥) → slice_get (times s path) 0 ≡ Some u
  first_time path u own none =
      let fails : (i : ℕ) (e : Entry) → i < u → slice_get s.entries i ≡ Some e → is_of path e ≡ false =
      λ i e below stands. false_from_ne_true (is_of path e) (λ yes. none i below (record { entry = e; stands = stands; own = same_path e.path path yes })) in
      ap (slice_get (times s path)) (sym (passing-none (is_of path) s.entries u fails)) ∙ own_place path u own

  -- its last one
  pub last_time : (path : List ℕ) (k end : ℕ) → slice_get (times s path) k ≡ Some end → ((v : ℕ) → IsEntryOf s path v → v ≤ end) → length (times s path) ≡ k + 1
  last_time path k end is last =
      let within = slice_get_within (times s path) k end is in
      elim (cases_lt (k + 1) (length (times s path))) [
        | inl more ↦
            let found = slice_get-get_or (times s path) (k + 1) 0 more in
            let own = own_before path (k + 1) (time s path (k + 1)) found in
            let late = last (time s path (k + 1)) own.0 in
            let rise = times_rise s path k (k + 1) (omega arith) more in
            let here : time s path k ≡ end = get_or_from_slice_get (times s path) k end 0 is in
            absurd (omega (arith, late, rise, here))
        | inr none ↦ omega (arith, within)
      ]

  pub end_at : (path : List ℕ) (end : ℕ) → IsEntryOf s path end → ((v : ℕ) → IsEntryOf s path v → v ≤ end) → end_time s path ≡ end + 1
  end_at path end own last =
      let k = passing (is_of path) end s.entries in
      let at = own_place path end own in
      let many = last_time path k end at last in
      let index : length (times s path) - 1 ≡ k = omega (arith, many) in
      let here : time s path (length (times s path) - 1) ≡ end =
      ap (time s path) index ∙ get_or_from_slice_get (times s path) k end 0 at in
      ap (λ t. t + 1) here
