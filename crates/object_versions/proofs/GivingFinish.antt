-- Another frame ends while a child is being given its objects.
use Rattle.std.proofs.Common.{◌≡◌, ◌≢◌, inl, inr, ℕ, cond, Option, None, Some, List, length, refl, sym, ap, subst, ◌∙◌}
use Rattle.std.proofs.lemmas.Bool.{cases_eq, eq-eqb}
use Rattle.std.specs.Prelude.{slice_get}
use Rattle.swan_model.specs.declared.origin.Origin.{Origin}
use Rattle.swan_model.specs.declared.rights.Mode.{Mode}
use Rattle.swan_model.specs.declared.rights.Mode.TheVariants.{In, Out, InOut, Push, Pop, PushPop}
use Rattle.swan_model.specs.declared.script.Script.{Script}
use Rattle.swan_model.specs.SerialTime.{Progress, Reading, frame_of, point, times}
use Rattle.swan_model.specs.Versions.{Version, settled, owed, Placed, VersionState, IsSettled, owing, placed_at, objects_after_finish, settle, settle_placed, still_owing}
use Rattle.swan_model.specs.VersionsFollow.{Access, Begins, ObjectsFollow, IsGiving, IsVersionAt}
use Rattle.object_versions.proofs.FinishFollows.{other_stays, still_owed, owing_other, right, settle_at, settled_by, still_given}
use Rattle.object_versions.proofs.FinishPlaces.{after_kept, still_kept}
use Rattle.object_versions.proofs.GivingKept.{IsAboveKept, IsBelowKept, IsUngiven, giving_kept}

owing_own : (n other : ℕ) → other ≡ n → still_owing n (Some other) ≡ None
owing_own n other same = ap (λ b. cond b None (Some other)) (eq-eqb other n same)

finish_ungiven : (old : VersionState) (n child : ℕ) → IsUngiven old child → IsUngiven (objects_after_finish old n) child
finish_ungiven old n child ungiven = λ number place has stands given.
    let kept = after_kept old n number place has stands in
    ungiven number place kept.was kept.stood (still_given n child kept.was.given (sym (ap (λ (o : Placed). o.given) kept.now) ∙ given)).0

module _ (s : Script) (r : Reading) (state : VersionState) (n : ℕ) (ended : Progress) (all_settled : IsSettled state n) (follows : ObjectsFollow s r state)
    (known : frame_of r n ≡ Some ended) (all : ended.done ≡ length (times s ended.path)) where
  -- what a child begins with that may read
  abbrev BeginsLent : Origin → ℕ → Version → Option ℕ → Type 0
  BeginsLent origin t version given = IsVersionAt s r origin t version × (given ≡ owing version)

  given_kept : (number place : ℕ) (object : Placed) (origin : Origin) (version : Version) → placed_at state number place ≡ Some object → object.present ≡ version
      → still_owing n (owing version) ≡ owing (settle state n object.object version)
  given_kept number place object origin (settled value) stands is = refl
  given_kept number place object origin (owed other) stands is = elim (cases_eq other n) [
    | inl own ↦
        let to = right s r state n ended all_settled follows known all number place object origin stands (inl (is ∙ ap owed own)) in
        owing_own n other own ∙ ap owing (sym (settled_by s r state n ended all_settled follows known all object.object (owed other) to.value (ap owed own) to.leaves))
    | inr apart ↦ owing_other n other apart ∙ ap owing (sym (other_stays s r state n ended all_settled follows known all object.object other apart))
  ]

  lent_kept : (number place : ℕ) (object : Placed) (origin : Origin) (t : ℕ) (version : Version) (given : Option ℕ) → placed_at state number place ≡ Some object
      → slice_get r.objects object.object ≡ Some origin → object.present ≡ version → BeginsLent origin t version given
      → BeginsLent origin t (settle state n object.object version) (still_owing n given)
  lent_kept number place object origin t version given stands made is at = (
    settle_at s r state n ended all_settled follows known all number place object origin t version stands made (λ owes. inl (is ∙ owes)) at.0,
    ap (still_owing n) at.1 ∙ given_kept number place object origin version stands is,
  )

  begins_still : (place child : ℕ) (object : Placed) (origin : Origin) (t : ℕ) → placed_at state child place ≡ Some object → slice_get r.objects object.object ≡ Some origin
      → (mode : Mode) → Begins s r origin t mode object → Begins s r origin t mode (settle_placed state n object)
  begins_still place child object origin t stands made Out is = (ap (settle state n object.object) is.0, ap (still_owing n) is.1)
  begins_still place child object origin t stands made In is = lent_kept child place object origin t object.present object.given stands made refl is
  begins_still place child object origin t stands made InOut is = lent_kept child place object origin t object.present object.given stands made refl is
  begins_still place child object origin t stands made Push is = lent_kept child place object origin t object.present object.given stands made refl is
  begins_still place child object origin t stands made Pop is = lent_kept child place object origin t object.present object.given stands made refl is
  begins_still place child object origin t stands made PushPop is = lent_kept child place object origin t object.present object.given stands made refl is

  owes_before : (child number place : ℕ) (has : Placed) → placed_at (objects_after_finish state n) number place ≡ Some has → has.present ≡ owed child
      → (was : Placed) × (placed_at state number place ≡ Some was) × (was.present ≡ owed child)
  owes_before child number place has stands owes =
      let kept = after_kept state n number place has stands in
      let was = still_owed s r state n ended all_settled follows known all number place child kept.was kept.was.present kept.stood (λ owes. inl owes)
      (sym (ap (λ (o : Placed). o.present) kept.now) ∙ owes) in
      (kept.was, kept.stood, was.0)

  above : (giver child : ℕ) → n ≢ giver → n ≢ child → (place : ℕ) (was : Placed) → placed_at state giver place ≡ Some was → IsAboveKept (objects_after_finish state n) giver place child was
  above giver child not_giver not_child place was is = record {
    now = settle_placed state n was;
    stands = still_kept state n giver place was is (λ e. not_giver (sym e));
    object = refl;
    kind = refl;
    mode = refl;
    owes = λ owes. ap (settle state n was.object) owes ∙ other_stays s r state n ended all_settled follows known all was.object child (λ e. not_child (sym e));
  }

  below : (child t : ℕ) → n ≢ child → (place : ℕ) (was : Placed) → placed_at state child place ≡ Some was → IsBelowKept s r r (objects_after_finish state n) child place t was
  below child t not_child place was is = record {
    now = settle_placed state n was;
    stands = still_kept state n child place was is (λ e. not_child (sym e));
    object = refl;
    kind = refl;
    mode = refl;
    begins = λ origin mode made. begins_still place child was origin t is made mode;
  }

-- a frame ended
pub finish_giving : (old now : VersionState) (n : ℕ) → IsSettled old n → now ≡ objects_after_finish old n
    → (s : Script) (r : Reading) (ended giver : Progress) (child : ℕ) (made left : List Access) → frame_of r n ≡ Some ended → ended.done ≡ length (times s ended.path)
    → n ≢ giver.number → n ≢ child → IsGiving s r old giver child made left → ObjectsFollow s r now → IsGiving s r now giver child made left
finish_giving old now n all is = λ s r ended giver child made left known done not_giver not_child giving follows.
    subst (λ state. IsGiving s r state giver child made left) (sym is)
    (giving_kept s r r old (objects_after_finish old n) giver child (λ object origin has. has)
    (above s r old n ended all giving.follows known done giver.number child not_giver not_child)
    (below s r old n ended all giving.follows known done child (point s giver) not_child)
    made left giving (subst (ObjectsFollow s r) is follows) giving.unread
    (λ place object stands. let kept = after_kept old n child place object stands in (kept.was, kept.stood))
    (owes_before s r old n ended all giving.follows known done child)
    (finish_ungiven old n child giving.ungiven))
