-- Tasks below another one, and the spawns that lead to them.
use Rattle.std.proofs.Common.{◌≡◌, ℕ, zero, suc, ◌+◌, ◌<◌, Bool, true, false, nat_eq, cond, List, [], ◌∷◌, ◌++◌, Some, refl, sym, ap, ◌∙◌, append_assoc, arith}
use Rattle.std.proofs.lemmas.Bool.{eqb-true}
use Rattle.std.proofs.lemmas.List.{same_from_push}
use Rattle.std.proofs.lemmas.Option.{slice_get_within}
use Rattle.std.specs.Prelude.{slice_get}
use Rattle.swan_model.specs.declared.script.Entry.{Entry}
use Rattle.swan_model.specs.declared.script.Script.{Script}
use Rattle.swan_model.specs.Granted.{children_before}
use Rattle.swan_model.specs.Lawful.{IsLawful, IsNextPath, of_child, of_parent, of_same}
use Rattle.swan_model.specs.Nested.{spawn_time}
use Rattle.swan_model.specs.PathOrder.{is_under}
use Rattle.swan_model.proofs.Lists.{last_of, some_within}
use Rattle.swan_model.proofs.Paths.{same_part, not_root}
use Rattle.swan_model.proofs.TaskEntries.{spawn_is_next}

-- a path that is under another one goes on from it
pub under_rest : (top path : List ℕ) → is_under top path ≡ true → (rest : List ℕ) × (path ≡ top ++ rest)
under_rest [] path is = (path, refl)
under_rest (part ∷ parts) [] is = absurd (cc)
under_rest (part ∷ parts) (other ∷ others) is = by (nat_eq part other) refl is (λ under. under_rest parts others under)
  where
    by : (b : Bool) → nat_eq part other ≡ b → cond b (is_under parts others) false ≡ true → (is_under parts others ≡ true → (rest : List ℕ) × (others ≡ parts ++ rest)) → (rest : List ℕ) × (other ∷ others ≡ (part ∷ parts) ++ rest)
    by true same is go =
        let first : part ≡ other = eqb-true part other same in
        let further = go is in
        let rest : others ≡ parts ++ further.0 = further.1 in
        (further.0, let both : other ∷ others ≡ part ∷ (parts ++ further.0) = cc in both)
    by false differ is go = absurd (cc)

pub under_from : (top rest : List ℕ) → is_under top (top ++ rest) ≡ true
under_from [] rest = refl
under_from (part ∷ parts) rest = ap (λ b. cond b (is_under parts (parts ++ rest)) false) (same_part part) ∙ under_from parts rest

-- the spawn of the child that a task is, or is below
pub record IsLedTo (s : Script) (front : List ℕ) (child t : ℕ) : Type 0 where
  pub spawn : ℕ
  pub known : spawn_time s front child ≡ Some spawn
  pub before : spawn < t

later : (s : Script) (front : List ℕ) (child n : ℕ) → IsLedTo s front child n → IsLedTo s front child (suc n)
later s front child n led = record { spawn = led.spawn; known = led.known; before = omega (arith, led.before) }

module _ (s : Script) (lawful : IsLawful s) where
  -- Before each entry of a task stands the spawn of the task, and of each task above it.
  pub led_to : (t : ℕ) (entry : Entry) (front : List ℕ) (child : ℕ) (rest : List ℕ) → slice_get s.entries t ≡ Some entry → entry.path ≡ front ++ child ∷ rest → IsLedTo s front child t
  led_to zero entry front child rest stands is =
      absurd (not_root front rest child (sym is ∙ lawful.first entry stands))
  led_to (suc n) entry front child rest stands is =
      let within = slice_get_within s.entries (suc n) entry stands in
      let before = some_within s.entries n (omega (arith, within)) in
      let one : n + 1 ≡ suc n = omega arith in
      let here : slice_get s.entries (n + 1) ≡ Some entry = ap (slice_get s.entries) one ∙ stands in
      by before.0 before.1 (lawful.next n before.0 entry before.1 here) rest is (λ more path. led_to n before.0 front child more before.1 path)
    where
      by : (other : Entry) → slice_get s.entries n ≡ Some other → IsNextPath s n other entry.path → (rest : List ℕ) → entry.path ≡ front ++ child ∷ rest
          → ((more : List ℕ) → other.path ≡ front ++ child ∷ more → IsLedTo s front child n) → IsLedTo s front child (suc n)
      by other at (of_child spawns stays path) [] is before =
          let k = children_before s other.path n in
          let both = same_from_push other.path front k child (sym path ∙ is) in
          let known : spawn_time s front child ≡ Some n =
          ap (λ q. spawn_time s q child) (sym both.0) ∙ ap (spawn_time s other.path) (sym both.1) ∙ spawn_is_next s n other at spawns in
          record { spawn = n; known = known; before = omega arith }
      by other at (of_child spawns stays path) (y ∷ ys) is before =
          let k = children_before s other.path n in
          let last = last_of y ys in
          let named : other.path ++ k ∷ [] ≡ (front ++ child ∷ last.front) ++ last.last ∷ [] =
          sym path ∙ is ∙ ap (λ q. front ++ child ∷ q) last.is ∙ sym (append_assoc front (child ∷ last.front) (last.last ∷ [])) in
          let both = same_from_push other.path (front ++ child ∷ last.front) k last.last named in
          later s front child n (before last.front both.0)
      by other at (of_parent quiet ends last path) rest is before =
          later s front child n (before (rest ++ last ∷ []) (path ∙ ap (λ q. q ++ last ∷ []) is ∙ append_assoc front (child ∷ rest) (last ∷ [])))
      by other at (of_same quiet stays path) rest is before = later s front child n (before rest (sym path ∙ is))
