-- What contracts see once a frame has ended.
use Rattle.std.proofs.Common.{◌≡◌, ℕ, zero, suc, ◌<◌, Bool, true, false, cond, not, ◌==◌, ◌||◌, Option, None, Some, List, [], ◌∷◌, map, filter, slice_get, refl, sym, ap, ◌∙◌, subst, arith}
use Rattle.std.proofs.lemmas.Bool.{eqb-true, eq-eqb}
use Rattle.std.proofs.lemmas.Bool.Decides.{nat_tests}
use Rattle.std.specs.Option.{unwrap_or}
use Rattle.slab.specs.Slab.{Slab}
use Rattle.swan_model.specs.declared.value.Value.{Value}
use Rattle.swan_model.specs.Versions.{Version, settled, owed, owing, Placed, Places, VersionState, settle, settle_placed, still_owing, left_by, stays, objects_after_finish}
use Rattle.object_versions.specs.declared.node.Node.{Node}
use Rattle.object_versions.specs.declared.placed_object.PlacedObject.{PlacedObject}
use Rattle.object_versions.specs.Store.{PlaceEntries, place_at, version_at, object_at, given_of, placed_of, seen, versions_of, uses}
use Rattle.object_versions.specs.Whole.{IsFit}
use Rattle.object_versions.specs.Ending.{IsSettling, IsAllPaid, is_other, of_others, IsForgetting}
use Rattle.object_versions.proofs.Counts.{uses_at, present_used, given_used}
use Rattle.object_versions.proofs.Listing.{place_of, left_of}
use Rattle.object_versions.proofs.Seeing.{seen_same, seen_some}
use Rattle.object_versions.proofs.Releasing.{all_others, paid_owes_none}

-- two ways to see each item of a list are the same
map_same : {A B C : Type 0} (f : A → C) (g : A → B) (h : B → C) (xs : List A) → ((i : ℕ) (x : A) → slice_get xs i ≡ Some x → f x ≡ h (g x)) → map f xs ≡ map h (map g xs)
map_same f g h [] same = refl
map_same f g h (x ∷ xs) same =
    let first = same zero x refl in
    let rest = map_same f g h xs (λ i y is. same (suc i) y is) in
    λ i. first i ∷ rest i

unsettled : (state : VersionState) (n o : ℕ) (v : Version) → (v ≡ owed n → ⊥) → settle state n o v ≡ v
unsettled state n o (settled v) none = refl
unsettled state n o (owed m) none =
    let test : (m == n) ≡ false = apart (m == n) refl (λ e. none (ap owed e)) in
    ap (λ b. cond b (unwrap_or (left_by state n o) (owed m)) (owed m)) test
  where
    apart : (b : Bool) → (m == n) ≡ b → (m ≡ n → ⊥) → b ≡ false
    apart true is never = absurd (never (grind (arith, nat_tests)))
    apart false is never = refl

module _ (before entries : PlaceEntries) (start now : Slab Node) (made n : ℕ) (begun : IsSettling before entries start now made n) (paid : IsAllPaid entries n) where
  -- no version is owed by the frame any more
  owes_none : (k : ℕ) → 0 < uses k entries → version_at now k ≡ owed n → ⊥
  owes_none = paid_owes_none entries now made n begun.whole paid

  pub not_begun : IsForgetting entries entries now now made n
  not_begun = record { whole = begun.whole; paid = paid; others = refl; same = λ k h. refl }

  abbrev state : VersionState
  state = versions_of before start made

  settled_at : (k o : ℕ) → 0 < uses k entries → object_at start k ≡ o → version_at now k ≡ settle state n o (version_at start k)
  settled_at k o h object =
      let P : ℕ → Type 0 = λ p. version_at now k ≡ settle state n p (version_at start k) in
      subst P object (sym (unsettled state n (object_at start k) (version_at now k) (owes_none k h)) ∙ begun.versions k h)

  -- the frame leaves a value for what it owed
  leaves_value : (k o : ℕ) → 0 < uses k before → object_at start k ≡ o → version_at start k ≡ owed n → (value : Value) × (left_by state n o ≡ Some (settled value))
  leaves_value k o h object is =
      let owing = begun.began.owing k n h is in
      let owes = (begun.began.fits n owing.place owing.has owing.stands).owes k owing.owes in
      let with_value = begun.ready.values owing.place _ (seen_some before start made n owing.place owing.has owing.stands) in (
        with_value.0,
        ap (left_by state n) (sym object ∙ owes.same)
            ∙ left_of before start start made (λ _. 0) n owing.place owing.has with_value.0 begun.began owing.stands owes.may with_value.1,
      )

  -- so nobody owes it then, and who owes another version still does
  owing_settled : (k o : ℕ) → 0 < uses k before → object_at start k ≡ o → (version : Version) → version_at start k ≡ version
      → owing (settle state n o version) ≡ still_owing n (owing version)
  owing_settled k o h object (settled value) is = refl
  owing_settled k o h object (owed m) is = by (m == n) refl where
    by : (b : Bool) → (m == n) ≡ b → owing (cond b (unwrap_or (left_by state n o) (owed m)) (owed m)) ≡ cond b None (Some m)
    by true same =
        let e : m ≡ n = eqb-true m n same in
        let leaves = leaves_value k o h object (is ∙ ap owed e) in
        ap (λ l. owing (unwrap_or l (owed m))) leaves.1
    by false apart = refl

  placed_settled : (frame place : ℕ) (has : PlacedObject) → place_at entries frame place ≡ Some has → placed_of now has ≡ settle_placed state n (placed_of start has)
  placed_settled frame place has stands = together (given has.given refl) where
    fit : IsFit now made frame has
    fit = begun.whole.fits frame place has stands

    given : (o : Option ℕ) → has.given ≡ o → given_of now has.given ≡ still_owing n (given_of start has.given)
    given None is = ap (given_of now) is ∙ sym (ap (λ g. still_owing n (given_of start g)) is)
    given (Some k) is =
        let some : 0 < uses k entries = let most = uses_at entries k frame place has stands in let here = given_used has k is in omega arith in
        let object : object_at start k ≡ has.object = sym (begun.objects k some) ∙ fit.given k is in
        let fewer = begun.fewer k in
        ap (given_of now) is ∙ ap owing (settled_at k has.object some object) ∙ owing_settled k has.object (omega (arith, some, fewer)) object (version_at start k) refl
        ∙ sym (ap (λ g. still_owing n (given_of start g)) is)

    together : given_of now has.given ≡ still_owing n (given_of start has.given) → placed_of now has ≡ settle_placed state n (placed_of start has)
    together e =
        let some : 0 < uses has.present entries = let most = uses_at entries has.present frame place has stands in let here = present_used has in omega arith in
        let present = settled_at has.present has.object some (sym (begun.objects has.present some) ∙ fit.present) in
        λ i. record { object = has.object; kind = has.kind; mode = has.mode; given = e i; present = present i }

  -- one place once the frame has ended
  abbrev ended : (ℕ × ℕ) × Placed → (ℕ × ℕ) × Placed
  ended entry = (entry.0, settle_placed state n entry.1)

  pub seen_settled : map (seen now) entries ≡ map ended (map (seen start) before)
  seen_settled = map_same (seen now) (seen start) ended entries
      (λ i e is. let same = placed_settled e.0.0 e.0.1 e.1 (place_of entries now made (λ _. 0) begun.whole i e is) in λ j. (e.0, same j))
      ∙ ap (λ (seen_so : VersionState). map ended seen_so.places) begun.same

-- ---- which places stay

filter_kept : {A B : Type 0} (p : (ℕ × ℕ) → Bool) (xs : List ((ℕ × ℕ) × A)) (f : (ℕ × ℕ) × A → (ℕ × ℕ) × B) → ((x : (ℕ × ℕ) × A) → (f x).0 ≡ x.0)
    → map f (filter (λ x. p x.0) xs) ≡ filter (λ x. p x.0) (map f xs)
filter_kept p [] f key = refl
filter_kept p (x ∷ xs) f key = by (p x.0) (filter_kept p xs f key) ∙ sym (ap (λ k. cond (p k) (f x ∷ filter (λ y. p y.0) (map f xs)) (filter (λ y. p y.0) (map f xs))) (key x)) where
  by : (b : Bool) → map f (filter (λ y. p y.0) xs) ≡ filter (λ y. p y.0) (map f xs)
      → map f (cond b (x ∷ filter (λ y. p y.0) xs) (filter (λ y. p y.0) xs)) ≡ cond b (f x ∷ filter (λ y. p y.0) (map f xs)) (filter (λ y. p y.0) (map f xs))
  by true rest = ap (λ t. f x ∷ t) rest
  by false rest = rest

all_stay : (n : ℕ) (xs : Places) → (n == 0) ≡ true → filter (stays n) xs ≡ xs
all_stay n [] root = refl
all_stay n (x ∷ xs) root =
    ap (λ b. cond (b || not (x.0.0 == n)) (x ∷ filter (stays n) xs) (filter (stays n) xs)) root ∙ ap (λ t. x ∷ t) (all_stay n xs root)

pub others_stay : (n : ℕ) (xs : Places) → (n == 0) ≡ false → filter (stays n) xs ≡ filter (λ x. is_other n x.0) xs
others_stay n [] other = refl
others_stay n (x ∷ xs) other =
    ap (λ b. cond (b || not (x.0.0 == n)) (x ∷ filter (stays n) xs) (filter (stays n) xs)) other
    ∙ ap (λ t. cond (not (x.0.0 == n)) (x ∷ t) t) (others_stay n xs other)

module _ (before entries : PlaceEntries) (start now : Slab Node) (made n : ℕ) (begun : IsSettling before entries start now made n) (paid : IsAllPaid entries n) where
  abbrev each_ended : Places → Places
  each_ended places = map (λ (entry : (ℕ × ℕ) × Placed). (entry.0, settle_placed (versions_of before start made) n entry.1)) places

  -- the root's places stay
  pub root_finished : n ≡ 0 → versions_of entries now made ≡ objects_after_finish (versions_of before start made) n
  root_finished root =
      let stay = all_stay n (map (seen start) before) (eq-eqb n 0 root) in
      let places : map (seen now) entries ≡ each_ended (filter (stays n) (map (seen start) before)) =
      seen_settled before entries start now made n begun paid ∙ sym (ap each_ended stay) in
      λ i. record { places = places i; made = made }

  -- another frame's are forgotten
  pub frame_finished : (n ≡ 0 → ⊥) → (later : PlaceEntries) (new : Slab Node) → IsForgetting entries later now new made n → ((place : ℕ) → place_at later n place ≡ None)
      → versions_of later new made ≡ objects_after_finish (versions_of before start made) n
  frame_finished other later new forgotten none =
      let left : later ≡ of_others n entries = sym (all_others n later none) ∙ forgotten.others in
      let same = seen_same now new later forgotten.same in
      let stay = others_stay n (map (seen start) before) (is_false (n == 0) refl) in
      let places : map (seen new) later ≡ each_ended (filter (stays n) (map (seen start) before)) =
      same ∙ ap (map (seen now)) left
      ∙ filter_kept {B = Placed} (is_other n) entries (seen now) (λ x. refl)
      ∙ ap (filter (λ x. is_other n x.0)) (seen_settled before entries start now made n begun paid)
      ∙ sym (filter_kept {B = Placed} (is_other n) (map (seen start) before) (λ entry. (entry.0, settle_placed (versions_of before start made) n entry.1)) (λ x. refl))
      ∙ sym (ap each_ended stay) in
      λ i. record { places = places i; made = made }
    where
      is_false : (b : Bool) → (n == 0) ≡ b → b ≡ false
      is_false true is = absurd (other (grind (arith, nat_tests)))
      is_false false is = refl
