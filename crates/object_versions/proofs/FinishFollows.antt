-- A frame that ends: all its entries are done, so what it has is what its task leaves, and that is what it owes.
use Rattle.std.proofs.Common.{◌≡◌, ◌≢◌, inl, inr, ℕ, ◌<◌, nat_eq, Bool, true, false, cond, Option, None, Some, length, refl, sym, ap, subst, ◌∙◌, arith}
use Rattle.std.proofs.lemmas.Bool.{eq-eqb, eqb-true, eqb-false, ne_eqb}
use Rattle.std.specs.Prelude.{slice_get, unwrap_or}
use Rattle.swan_model.specs.declared.origin.Origin.{Origin}
use Rattle.swan_model.specs.declared.origin.Origin.TheVariants.{Root}
use Rattle.swan_model.specs.declared.script.Script.{Script}
use Rattle.swan_model.specs.declared.value.Value.{Value}
use Rattle.swan_model.specs.Readings.{end_time}
use Rattle.swan_model.specs.SerialTime.{Progress, Reading, frame_of, point, times}
use Rattle.swan_model.specs.Told.{cell}
use Rattle.swan_model.specs.Versions.{Version, settled, owed, Placed, VersionState, IsSettled, placed_at, objects_after_finish, left_by, settle, settle_placed, still_owing}
use Rattle.swan_model.specs.VersionsFollow.{ObjectsFollow, FollowsAt, IsVersionAt}
use Rattle.swan_model.proofs.TaskEntries.{point_over}
use Rattle.object_versions.specs.Following.{MayWrite}
use Rattle.object_versions.proofs.FinishPlaces.{after_kept, leaves_from, sorted_kept, still_kept}
use Rattle.object_versions.proofs.Moves.{Owes}
use Rattle.object_versions.proofs.Differ.{settled_not-owed}

-- who still owes what a frame was given to read
pub still_given : (n frame : ℕ) (given : Option ℕ) → still_owing n given ≡ Some frame → (given ≡ Some frame) × (frame ≢ n)
still_given n frame None is = absurd (cc)
still_given n frame (Some other) is = by (nat_eq other n) refl is where
  by : (b : Bool) → nat_eq other n ≡ b → cond b None (Some other) ≡ Some frame → (Some other ≡ Some frame) × (frame ≢ n)
  by true same e = absurd (cc)
  by false differ e = (e, let one : other ≡ frame = cc in λ f. eqb-false other n differ (one ∙ f))

pub owing_other : (n other : ℕ) → other ≢ n → still_owing n (Some other) ≡ Some other
owing_other n other apart = ap (λ b. cond b None (Some other)) (ne_eqb other n apart)

module _ (s : Script) (r : Reading) (state : VersionState) (n : ℕ) (ended : Progress) (all_settled : IsSettled state n) (follows : ObjectsFollow s r state)
    (known : frame_of r n ≡ Some ended) (all : ended.done ≡ length (times s ended.path)) where
  -- what a version that the frame owes becomes
  pub record IsRight (object : ℕ) (origin : Origin) : Type 0 where
    pub value : Value
    pub leaves : left_by state n object ≡ Some (settled value)
    pub right : slice_get r.objects object ≡ Some origin → cell s origin (end_time s ended.path) ≡ Some value

  pub right : (number place : ℕ) (object : Placed) (origin : Origin) → placed_at state number place ≡ Some object → Owes object n → IsRight object.object origin
  right number place object origin stands owes =
      let own = follows.owing number place n object stands owes in
      let from = leaves_from state n object.object own.0 own.1 follows.sorted own.2 own.3 own.4 in
      let value = all_settled.values from.place from.has from.stands in
      record {
        value = value.0;
        leaves = from.leaves ∙ ap Some value.1;
        right = λ made.
            let has = follows.follows n from.place ended from.has origin known from.stands (ap (slice_get r.objects) from.same ∙ made) in
            let present : IsVersionAt s r origin (point s ended) (settled value.0) = subst (IsVersionAt s r origin (point s ended)) value.1 has.present in
            ap (cell s origin) (sym (point_over s ended (omega (arith, all)))) ∙ present;
      }

  -- how a version is settled
  pub settled_by : (object : ℕ) (version : Version) (value : Value) → version ≡ owed n → left_by state n object ≡ Some (settled value) → settle state n object version ≡ settled value
  settled_by object version value owes leaves =
      ap (settle state n object) owes
      ∙ ap (λ b. cond b (unwrap_or (left_by state n object) (owed n)) (owed n)) (eq-eqb n n refl)
      ∙ ap (λ o. unwrap_or o (owed n)) leaves

  pub other_stays : (object other : ℕ) → other ≢ n → settle state n object (owed other) ≡ owed other
  other_stays object other apart = ap (λ b. cond b (unwrap_or (left_by state n object) (owed other)) (owed other)) (ne_eqb other n apart)

  pub settle_at : (number place : ℕ) (object : Placed) (origin : Origin) (t : ℕ) (version : Version) → placed_at state number place ≡ Some object
      → slice_get r.objects object.object ≡ Some origin → (version ≡ owed n → Owes object n) → IsVersionAt s r origin t version → IsVersionAt s r origin t (settle state n object.object version)
  settle_at number place object origin t (settled value) stands made is at = at
  settle_at number place object origin t (owed other) stands made is at = by (nat_eq other n) refl where
    by : (b : Bool) → nat_eq other n ≡ b → IsVersionAt s r origin t (settle state n object.object (owed other))
    by true same =
        let own : other ≡ n = eqb-true other n same in
        let owes : owed other ≡ owed n = ap owed own in
        let to = right number place object origin stands (is owes) in
        let then : IsVersionAt s r origin t (owed n) = subst (IsVersionAt s r origin t) owes at in
        subst (IsVersionAt s r origin t) (sym (settled_by object.object (owed other) to.value owes to.leaves))
        (sym (then ended known).1 ∙ to.right made)
    by false differ = subst (IsVersionAt s r origin t) (sym (other_stays object.object other (eqb-false other n differ))) at

  -- what is still owed was owed before, by another frame
  pub still_owed : (number place frame : ℕ) (object : Placed) (version : Version) → placed_at state number place ≡ Some object → (version ≡ owed n → Owes object n)
      → settle state n object.object version ≡ owed frame → (version ≡ owed frame) × (frame ≢ n)
  still_owed number place frame object (settled value) stands is owes = absurd (settled_not-owed value frame owes)
  still_owed number place frame object (owed other) stands is owes = by (nat_eq other n) refl where
    by : (b : Bool) → nat_eq other n ≡ b → (owed other ≡ owed frame) × (frame ≢ n)
    by true same =
        let own : other ≡ n = eqb-true other n same in
        let owed_own : owed other ≡ owed n = ap owed own in
        let to = right number place object (Root 0) stands (is owed_own) in
        absurd (settled_not-owed to.value frame (sym (settled_by object.object (owed other) to.value owed_own to.leaves) ∙ owes))
    by false differ =
        let apart : other ≢ n = eqb-false other n differ in
        let e : owed other ≡ owed frame = sym (other_stays object.object other apart) ∙ owes in
        let same : other ≡ frame = cc in
        (e, λ f. apart (same ∙ f))

  follows_kept : (number place : ℕ) (frame : Progress) (has : Placed) (origin : Origin) → frame_of r number ≡ Some frame → placed_at (objects_after_finish state n) number place ≡ Some has
      → slice_get r.objects has.object ≡ Some origin → FollowsAt s r frame has origin
  follows_kept number place frame has origin is stands made =
      let kept = after_kept state n number place has stands in
      let number_too : slice_get r.objects kept.was.object ≡ Some origin = ap (λ o. slice_get r.objects o.object) (sym kept.now) ∙ made in
      let was = follows.follows number place frame kept.was origin is kept.stood number_too in
      let then : FollowsAt s r frame (settle_placed state n kept.was) origin = record {
        present = settle_at number place kept.was origin (point s frame) kept.was.present kept.stood number_too (λ owes. inl owes) was.present;
        given = λ other is. was.given other (still_given n other kept.was.given is).0;
        owed_by = λ other owing owes there.
            let before = still_owed number place other kept.was kept.was.present kept.stood (λ owes. inl owes) owes in
            elim (was.owed_by other owing before.0 there) [
              | inl given ↦ inl (ap (still_owing n) given ∙ owing_other n other before.1)
              | inr child ↦ inr child
            ];
        held = was.held;
        first = was.first;
        begins = was.begins;
        kind = was.kind;
      } in
      subst (λ o. FollowsAt s r frame o origin) (sym kept.now) then

  pub owed_before : (number place frame : ℕ) (object : Placed) → placed_at state number place ≡ Some object → Owes (settle_placed state n object) frame → (Owes object frame) × (frame ≢ n)
  owed_before number place frame object stands owes = elim owes [
    | inl present ↦
        let was = still_owed number place frame object object.present stands (λ owes. inl owes) present in
        (inl was.0, was.1)
    | inr given ↦
        let was = still_given n frame object.given given in
        (inr was.0, was.1)
  ]

  owing_kept : (number place frame : ℕ) (has : Placed) → placed_at (objects_after_finish state n) number place ≡ Some has → Owes has frame
      → MayWrite (objects_after_finish state n) frame has.object
  owing_kept number place frame has stands owes =
      let kept = after_kept state n number place has stands in
      let was = owed_before number place frame kept.was kept.stood (subst (λ o. Owes o frame) kept.now owes) in
      let own = follows.owing number place frame kept.was kept.stood was.0 in
      (own.0, settle_placed state n own.1, still_kept state n frame own.0 own.1 own.2 was.1, own.3 ∙ sym (ap (λ o. o.object) kept.now), own.4)

  pub finish_follows : ObjectsFollow s r (objects_after_finish state n)
  finish_follows = record {
    tasks = follows.tasks;
    root = follows.root;
    objects = follows.objects;
    roots = follows.roots;
    made = follows.made;
    different = follows.different;
    follows = follows_kept;
    known = λ number place has stands.
        let kept = after_kept state n number place has stands in
        subst (λ k. k < state.made) (sym (ap (λ o. o.object) kept.now)) (follows.known number place kept.was kept.stood);
    sorted = sorted_kept state n follows.sorted;
    alone = λ number place other a b is also apart same.
        let x = after_kept state n number place a is in
        let y = after_kept state n number other b also in
        let both = follows.alone number place other x.was y.was x.stood y.stood apart (sym (ap (λ o. o.object) x.now) ∙ same ∙ ap (λ o. o.object) y.now) in
        (ap (λ o. o.mode) x.now ∙ both.0, ap (λ o. o.mode) y.now ∙ both.1);
    owing = owing_kept;
  }
