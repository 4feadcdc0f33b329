-- What is ripe stays ripe as another frame spawns a child, and as others end.
use Rattle.std.proofs.Common.{◌≡◌, ◌≢◌, ℕ, inl, inr, Bool, true, false, ◌&&◌, nat_eq, nat_lt, List, [], ◌∷◌, ◌++◌, length, map, Option, Some, None, refl, arith}
use Rattle.std.proofs.lemmas.Bool.{and_from, and_parts, lt-ltb, ltb-true, ne_eqb, not_from_false, or_cases, or_left, or_right}
use Rattle.std.specs.List.{list_all}
use Rattle.std.specs.Option.{option_map_or}
use Rattle.std.specs.Prelude.{filter, not, slice_get}
use Rattle.swan_model.specs.declared.origin.Origin.{Origin}
use Rattle.swan_model.specs.declared.rights.Mode.TheVariants.{Push}
use Rattle.swan_model.specs.declared.script.Deed.TheVariants as deed
use Rattle.swan_model.specs.declared.script.OriginGive.{OriginGive}
use Rattle.swan_model.specs.declared.script.Script.{Script}
use Rattle.swan_model.specs.Granted.{holds, may_use}
use Rattle.swan_model.specs.Lawful.{IsLawful}
use Rattle.swan_model.specs.Nested.{HasTasks}
use Rattle.swan_model.specs.Readings.{next_deed, one_more, reading_after_spawn}
use Rattle.swan_model.specs.Ripe.{is_ripe, may_push_too, push_time}
use Rattle.swan_model.specs.SerialTime.{Progress, Reading, is_done, point}
use Rattle.swan_model.specs.Told.{first_items, taken}
use Rattle.serial_elision.specs.Laws.{AreFramesOf}
use Rattle.serial_elision.proofs.ChildFirst.{IsSpawning, spawning, child_pushes}
use Rattle.serial_elision.proofs.RipeStays.{all-first, all-more, all_stay, push-at}
use Rattle.swan_model.proofs.Elements.{filtered_each, filtered_from}
use Rattle.swan_model.proofs.MovedFrames.{done_spawned, child_progress}

all-push : {X : Type 0} (passes test : X → Bool) (xs : List X) (x : X) → list_all test (filter passes xs) ≡ true → (passes x ≡ true → test x ≡ true) → list_all test (filter passes (xs ++ x ∷ [])) ≡ true
all-push passes test [] x is last = all-more passes test x [] last refl
all-push passes test (y ∷ xs) x is last =
    let parts = all-first passes test y xs is in
    all-more passes test y (xs ++ x ∷ []) parts.0 (all-push passes test xs x parts.1 last)

-- the frames once the parent has done its spawn
abbrev with_child : Script → List Progress → Progress → ℕ → List Progress
with_child s frames parent number = map (one_more parent.number) frames ++ child_progress s parent number ∷ []

-- the child can't push before what is ripe, since its parent couldn't
child-later : (s : Script) → IsLawful s → (active : List Progress) (frame parent : Progress) (queue : Origin) (gives : List OriginGive) (number t i : ℕ) → slice_get active i ≡ Some parent → IsSpawning s parent gives → parent.number ≢ frame.number
    → list_all (λ other. nat_lt t (point s other)) (filter (may_push_too s frame queue) active) ≡ true
    → may_push_too s frame queue (child_progress s parent number) ≡ true → nat_lt t (point s (child_progress s parent number)) ≡ true
child-later s lawful active frame parent queue gives number t i stands now apart all may =
    let child = child_progress s parent number in
    let both = and_parts (not (nat_eq number frame.number)) (may_use (holds s child.path (point s child)) Push queue) may in
    let from = child_pushes s lawful parent gives number now queue both.1 in
    let other : not (nat_eq parent.number frame.number) ≡ true = not_from_false (nat_eq parent.number frame.number) (ne_eqb parent.number frame.number apart) in
    let also = and_from (not (nat_eq parent.number frame.number)) (may_use (holds s parent.path (point s parent)) Push queue) other from.0 in
    let before = ltb-true t (point s parent) (filtered_each (may_push_too s frame queue) (λ x. nat_lt t (point s x)) active i parent all stands also) in
    lt-ltb t (point s child) (omega (arith, before, from.1))

module _ (s : Script) (r : Reading) (active : List Progress) (frame : Progress) (queue : Origin) (parent : Progress) (gives : List OriginGive) (number i : ℕ) where
  after-spawn : IsLawful s → HasTasks s r → AreFramesOf r active → slice_get active i ≡ Some parent → IsSpawning s parent gives → parent.number ≢ frame.number → (index : ℕ) (found : Option ℕ) → push_time s queue index ≡ found
      → option_map_or (λ t. is_done s r t && list_all (λ other. nat_lt t (point s other)) (filter (may_push_too s frame queue) active)) found false ≡ true
      → option_map_or (λ t. is_done s (reading_after_spawn s r parent number) t && list_all (λ other. nat_lt t (point s other)) (filter (may_push_too s frame queue) (with_child s active parent number))) found false ≡ true
  after-spawn lawful tasks are stands now apart index None at is = absurd (cc)
  after-spawn lawful tasks are stands now apart index (Some t) at is =
      let all = list_all (λ (other : Progress). nat_lt t (point s other)) (filter (may_push_too s frame queue) active) in
      let both = and_parts (is_done s r t) all is in
      let kept = all_stay s r lawful tasks frame queue t (push-at s queue index t at) both.0 parent.number active are.each both.1 in
      let last = child-later s lawful active frame parent queue gives number t i stands now apart both.1 in
      and_from (is_done s (reading_after_spawn s r parent number) t) (list_all (λ other. nat_lt t (point s other)) (filter (may_push_too s frame queue) (with_child s active parent number)))
      (done_spawned s r parent number t both.0)
      (all-push (may_push_too s frame queue) (λ x. nat_lt t (point s x)) (map (one_more parent.number) active) (child_progress s parent number) kept last)

  pub ripe_spawns : IsLawful s → HasTasks s r → AreFramesOf r active → slice_get active i ≡ Some parent → next_deed s parent ≡ Some (deed.Spawn gives) → parent.number ≢ frame.number → is_ripe s r active frame queue ≡ true → is_ripe s (reading_after_spawn s r parent number) (with_child s active parent number) frame queue ≡ true
  ripe_spawns lawful tasks are stands next apart is =
      let index = taken s queue (point s frame) in
      let first = nat_lt index (length (first_items s queue)) in
      let before = option_map_or (λ t. is_done s r t && list_all (λ other. nat_lt t (point s other)) (filter (may_push_too s frame queue) active)) (push_time s queue index) false in
      let after = option_map_or (λ t. is_done s (reading_after_spawn s r parent number) t && list_all (λ other. nat_lt t (point s other)) (filter (may_push_too s frame queue) (with_child s active parent number))) (push_time s queue index) false in
      elim (or_cases first before is) [
        | inl early ↦ or_left first after early
        | inr pushed ↦ or_right first after (after-spawn lawful tasks are stands (spawning s parent gives next) apart index (push_time s queue index) refl pushed)
      ]

-- ---- fewer frames

fewer-later : (s : Script) (r : Reading) (active fewer : List Progress) (frame : Progress) (queue : Origin) → ((i : ℕ) (other : Progress) → slice_get fewer i ≡ Some other → (j : ℕ) × (slice_get active j ≡ Some other)) → (found : Option ℕ)
    → option_map_or (λ t. is_done s r t && list_all (λ other. nat_lt t (point s other)) (filter (may_push_too s frame queue) active)) found false ≡ true
    → option_map_or (λ t. is_done s r t && list_all (λ other. nat_lt t (point s other)) (filter (may_push_too s frame queue) fewer)) found false ≡ true
fewer-later s r active fewer frame queue among None is = absurd (cc)
fewer-later s r active fewer frame queue among (Some t) is =
    let passes = may_push_too s frame queue in
    let test : Progress → Bool = λ other. nat_lt t (point s other) in
    let both = and_parts (is_done s r t) (list_all test (filter passes active)) is in
    and_from (is_done s r t) (list_all test (filter passes fewer)) both.0
    (filtered_from passes test fewer (λ i other stands ok. let at = among i other stands in filtered_each passes test active at.0 other both.1 at.1 ok))

-- what is ripe among these frames is so among fewer of them
pub ripe_fewer : (s : Script) (r : Reading) (active fewer : List Progress) (frame : Progress) (queue : Origin) → ((i : ℕ) (other : Progress) → slice_get fewer i ≡ Some other → (j : ℕ) × (slice_get active j ≡ Some other)) → is_ripe s r active frame queue ≡ true → is_ripe s r fewer frame queue ≡ true
ripe_fewer s r active fewer frame queue among is =
    let index = taken s queue (point s frame) in
    let first = nat_lt index (length (first_items s queue)) in
    let before = option_map_or (λ t. is_done s r t && list_all (λ other. nat_lt t (point s other)) (filter (may_push_too s frame queue) active)) (push_time s queue index) false in
    let after = option_map_or (λ t. is_done s r t && list_all (λ other. nat_lt t (point s other)) (filter (may_push_too s frame queue) fewer)) (push_time s queue index) false in
    elim (or_cases first before is) [
      | inl early ↦ or_left first after early
      | inr pushed ↦ or_right first after (fewer-later s r active fewer frame queue among (push_time s queue index) pushed)
    ]
