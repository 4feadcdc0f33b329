-- A reading has no more frames than its script has entries, and the root: each other frame is a task that one entry spawned.
use Rattle.std.proofs.Common.{◌≡◌, ◌≢◌, inl, inr, ℕ, ◌+◌, ◌<◌, ◌≤◌, List, [], ◌∷◌, ◌++◌, Option, None, Some, length, map, refl, sym, ap, subst, ◌∙◌, arith}
use Rattle.std.proofs.lemmas.Bool.{cases_order}
use Rattle.std.proofs.lemmas.Bool.Decides.{Decides-eqb}
use Rattle.std.proofs.lemmas.List.{length-map}
use Rattle.std.proofs.lemmas.Map.Made.{IsDistinct-from_AllPairs}
use Rattle.std.proofs.lemmas.Map.Steps.{length-le_from_distinct_below}
use Rattle.std.proofs.lemmas.Option.{get_or_from_slice_get, same_Some, slice_get-map, slice_get_within}
use Rattle.std.specs.List.{AllPairs}
use Rattle.std.specs.Option.{option_map, option_map_or}
use Rattle.std.specs.Prelude.{slice_get}
use Rattle.swan_model.specs.declared.body.Body.{Ghosts}
use Rattle.swan_model.specs.declared.plan.Plan.{Plan}
use Rattle.swan_model.specs.declared.plan.TheConstants.{FUEL_MOST}
use Rattle.swan_model.specs.declared.script.Script.{Script}
use Rattle.swan_model.specs.Nested.{HasTasks, spawn_time}
use Rattle.swan_model.specs.Script.{script}
use Rattle.swan_model.specs.SerialTime.{Progress, Reading}
use Rattle.swan_model.proofs.Lists.{last_of, some_within}
use Rattle.swan_model.proofs.Points.{spawns_rise}
use Rattle.swan_model.proofs.TaskEntries.{spawn_own}
use Rattle.swan_model.specs.Values.{COUNT_MOST}
use Rattle.swan_model.proofs.Elements.{any_number}
use Rattle.swan_model.proofs.ScriptLength.{le_script}

-- numbers that are each less than a bound, no two the same, are at most so many
few-numbers : (numbers : List ℕ) (bound : ℕ) → ((i q : ℕ) → slice_get numbers i ≡ Some q → q < bound) → ((i j q : ℕ) → slice_get numbers i ≡ Some q → slice_get numbers j ≡ Some q → i ≡ j) → length numbers ≤ bound
few-numbers numbers bound below once =
    let apart : AllPairs (λ x y. x ≢ y) numbers = λ i j d less within same.
    let a = some_within numbers i (omega (arith, less, within)) in
    let b = some_within numbers j within in
    let equal : a.0 ≡ b.0 = sym (get_or_from_slice_get numbers i a.0 d a.1) ∙ same ∙ get_or_from_slice_get numbers j b.0 d b.1 in
    let here = once i j b.0 (a.1 ∙ ap Some equal) b.1 in
    omega (arith, here, less) in
    length-le_from_distinct_below numbers bound (IsDistinct-from_AllPairs Decides-eqb numbers apart) (λ q is. let found = any_number q numbers is in below found.0 q found.1)

module _ (s : Script) where
  -- the number of a task: none for the root, and one more than the time of its spawn for another one
  abbrev number_of : List ℕ → ℕ
  number_of [] = 0
  number_of (part ∷ parts) = let last = last_of part parts in option_map_or (λ t. t + 1) (spawn_time s last.front last.last) 0

  -- the root, or a task that was spawned
  data HasNumber (path : List ℕ) (q : ℕ) : Type 0 where
    top : path ≡ [] → q ≡ 0 → HasNumber path q
    child : (front : List ℕ) (index spawn : ℕ) → path ≡ front ++ index ∷ [] → spawn_time s front index ≡ Some spawn → q ≡ spawn + 1 → HasNumber path q

  module _ (r : Reading) (tasks : HasTasks s r) where
    numbered-path : (i : ℕ) (p : Progress) (path : List ℕ) → slice_get r.frames i ≡ Some p → p.path ≡ path → HasNumber path (number_of path)
    numbered-path i p [] at own = top refl refl
    numbered-path i p (part ∷ parts) at own =
        let last = last_of part parts in
        let spawn = tasks.spawned i p last.front last.last at (own ∙ last.is) in
        child last.front last.last spawn.spawn last.is spawn.known (ap (λ o. option_map_or (λ t. t + 1) o 0) spawn.known)

    spawn-within : (front : List ℕ) (index spawn : ℕ) → spawn_time s front index ≡ Some spawn → spawn < length s.entries
    spawn-within front index spawn known = let own = spawn_own s front index spawn known in slice_get_within s.entries spawn own.entry own.stands

    number-below : (path : List ℕ) (q : ℕ) → HasNumber path q → q < length s.entries + 1
    number-below path q (top is none) = omega (arith, none)
    number-below path q (child front index spawn is known number) = omega (arith, number, spawn-within front index spawn known)

    -- two tasks of one number are the same
    same-task : (path other : List ℕ) (q : ℕ) → HasNumber path q → HasNumber other q → path ≡ other
    same-task path other q (top is none) (top is_too none_too) = is ∙ sym is_too
    same-task path other q (top is none) (child front index spawn is_too known number) = absurd (omega (arith, none, number))
    same-task path other q (child front index spawn is known number) (top is_too none) = absurd (omega (arith, none, number))
    same-task path other q (child front index spawn is known number) (child before at time is_too known_too number_too) =
        let same : spawn ≡ time = omega (arith, number, number_too) in
        let one = spawn_own s front index spawn known in
        let two = spawn_own s before at time known_too in
        let entries : one.entry ≡ two.entry = same_Some one.entry two.entry (sym one.stands ∙ ap (slice_get s.entries) same ∙ two.stands) in
        let fronts : front ≡ before = sym one.own ∙ ap (λ e. e.path) entries ∙ two.own in
        let there : spawn_time s front at ≡ Some time = ap (λ q. spawn_time s q at) fronts ∙ known_too in
        let indices : index ≡ at = elim (cases_order index at) [
          | inl is ↦ is
          | inr differ ↦ elim differ [
            | inl less ↦ let rise = spawns_rise s front index at spawn time less known there in absurd (omega (arith, rise, same))
            | inr more ↦ let rise = spawns_rise s front at index time spawn more there known in absurd (omega (arith, rise, same))
          ]
        ] in
        is ∙ ap (λ f. f ++ index ∷ []) fronts ∙ ap (λ k. before ++ k ∷ []) indices ∙ sym is_too

    record IsNumbered (i q : ℕ) : Type 0 where
      pub frame : Progress
      pub stands : slice_get r.frames i ≡ Some frame
      pub has : HasNumber frame.path q

    numbered : (i q : ℕ) → slice_get (map (λ (p : Progress). number_of p.path) r.frames) i ≡ Some q → IsNumbered i q
    numbered i q at = by (slice_get r.frames i) refl (sym (slice_get-map (λ (p : Progress). number_of p.path) r.frames i) ∙ at) where
      by : (found : Option Progress) → slice_get r.frames i ≡ found → option_map (λ (p : Progress). number_of p.path) found ≡ Some q → IsNumbered i q
      by None none is = absurd (cc)
      by (Some p) here is = record { frame = p; stands = here; has = subst (HasNumber p.path) (same_Some (number_of p.path) q is) (numbered-path i p p.path here refl) }

    pub few-frames : length r.frames ≤ length s.entries + 1
    few-frames =
        let numbers = map (λ (p : Progress). number_of p.path) r.frames in
        let many = length-map r.frames (λ (p : Progress). number_of p.path) in
        let most = few-numbers numbers (length s.entries + 1)
        (λ i q at. let it = numbered i q at in number-below it.frame.path q it.has)
        (λ i j q one two.
        let a = numbered i q one in
        let b = numbered j q two in
        tasks.different i j a.frame b.frame a.stands b.stands (same-task a.frame.path b.frame.path q a.has b.has)) in
        omega (arith, many, most)

-- one more frame of a plan's run has a number
pub room-for-frame : {B L : Type 0} (G : Ghosts B L) (plan : Plan B L) (r : Reading) (frames : ℕ) → plan.fuel ≤ FUEL_MOST → HasTasks (script G plan) r → length r.frames ≡ frames → frames + 1 < COUNT_MOST
room-for-frame G plan r frames fuel tasks count = omega (arith, fuel, count, few-frames (script G plan) r tasks, le_script G plan)
