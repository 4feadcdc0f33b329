-- A place's references are released, and a frame's places are forgotten.
use Rattle.std.proofs.Common.{◌≡◌, ◌≢◌, ℕ, ◌+◌, ◌<◌, ◌≤◌, Bool, true, false, cond, not, ◌==◌, Option, None, Some, IsSome, [], ◌∷◌, refl, sym, ap, ◌∙◌, subst, arith}
use Rattle.std.proofs.lemmas.Bool.{eq-eqb}
use Rattle.std.proofs.lemmas.Bool.Decides.{nat_tests}
use Rattle.std.proofs.lemmas.Option.{none-some}
use Rattle.std.specs.BTreeMap.{is_at}
use Rattle.std.specs.Map.{remove_entry, keys_of}
use Rattle.std.specs.List.Sorted.{IsStrictlySortedBy}
use Rattle.slab.specs.Slab.{Slab, get, Updates}
use Rattle.swan_model.specs.Versions.{owed, place_cmp}
use Rattle.object_versions.specs.declared.node.Node.{Node}
use Rattle.object_versions.specs.declared.placed_object.PlacedObject.{PlacedObject}
use Rattle.object_versions.specs.Store.{PlaceEntries, place_at, version_at, one, one_of, uses_of, uses, after_release}
use Rattle.object_versions.specs.Whole.{IsWhole}
use Rattle.object_versions.specs.Ending.{IsPaid, IsAllPaid, IsReleased, is_other, of_others, IsForgetting}
use Rattle.object_versions.proofs.Counts.{one_self, one_other, uses_without}
use Rattle.object_versions.proofs.Lookups.{after_removal, equal_at, tied}
use Rattle.object_versions.proofs.Steps.{go_out}
use Rattle.object_versions.proofs.References.{released_whole, released_same}
use Rattle.object_versions.proofs.Referred.{referred_there}

module _ (entries : PlaceEntries) (old new : Slab Node) (made : ℕ) (held later : ℕ → ℕ) (key : ℕ) (change : (node : Node) → get old key ≡ Some node → Updates old new key (after_release node))
    (whole : IsWhole entries old made held) (split : (k : ℕ) → held k ≡ later k + one k key) where
  here : held key ≡ later key + 1
  here = let self = one_self key in let count = split key in omega (arith, self, count)

  others : (k : ℕ) → k ≢ key → later k ≡ held k
  others k apart = let none = one_other k key apart in let count = split k in omega (arith, none, count)

  some : 0 < held key
  some = let count = here in omega (arith, count)

  pub released_one : IsReleased entries old new made later
  released_one = record {
    whole = released_whole entries old new made held later key whole some change here others;
    same = released_same entries old new made held later key whole some change here others;
  }

pub released_at : (entries : PlaceEntries) (old new : Slab Node) (made : ℕ) (held later : ℕ → ℕ) (o : Option ℕ) (key : ℕ) → o ≡ Some key
    → ((node : Node) → get old key ≡ Some node → Updates old new key (after_release node))
    → IsWhole entries old made held → ((k : ℕ) → held k ≡ later k + one_of k o) → IsReleased entries old new made later
released_at entries old new made held later o key is change whole split =
    released_one entries old new made held later key change whole (λ k. split k ∙ ap (λ p. later k + one_of k p) is)

pub first_there : (entries : PlaceEntries) (nodes : Slab Node) (made : ℕ) (has : PlacedObject) → IsWhole entries nodes made (λ k. uses_of k has)
    → (key : ℕ) → Some has.present ≡ Some key → IsSome (get nodes key)
first_there entries nodes made has whole key is =
    let here : one_of key (Some has.present) ≡ one key key = ap (one_of key) is in
    let self = one_self key in
    referred_there entries nodes made (λ k. uses_of k has) key whole (omega (arith, self, here))

pub second_there : (entries : PlaceEntries) (a b : Slab Node) (made : ℕ) (has : PlacedObject)
    → ((held later : ℕ → ℕ) → IsWhole entries a made held → ((k : ℕ) → held k ≡ later k + one k has.present) → IsReleased entries a b made later)
    → IsWhole entries a made (λ k. uses_of k has) → (key : ℕ) → has.given ≡ Some key → IsSome (get b key)
second_there entries a b made has present whole key is =
    let first = present (λ k. uses_of k has) (λ k. one_of k has.given + one_of k has.owes) whole (λ k. omega arith) in
    let self = one_self key in let here : one_of key has.given ≡ one key key = ap (one_of key) is in
    referred_there entries b made (λ k. one_of k has.given + one_of k has.owes) key first.whole (omega (arith, self, here))

-- two in a row, where nothing is owed for the place: its present version, and the given one
pub released_all : (entries : PlaceEntries) (a b c : Slab Node) (made : ℕ) (has : PlacedObject) → IsPaid has
    → ((held later : ℕ → ℕ) → IsWhole entries a made held → ((k : ℕ) → held k ≡ later k + one k has.present) → IsReleased entries a b made later)
    → ((held later : ℕ → ℕ) → IsWhole entries b made held → ((k : ℕ) → held k ≡ later k + one_of k has.given) → IsReleased entries b c made later)
    → IsWhole entries a made (λ k. uses_of k has) → IsReleased entries a c made (λ _. 0)
released_all entries a b c made has paid present given whole =
    let first = present (λ k. uses_of k has) (λ k. one_of k has.given) whole (λ k. let none : one_of k has.owes ≡ 0 = ap (one_of k) paid in omega (arith, none)) in
    let second = given (λ k. one_of k has.given) (λ _. 0) first.whole (λ k. omega arith) in
    record {
      whole = second.whole;
      same = λ k h. second.same k h ∙ first.same k (omega arith);
    }

-- ---- the entries of the other frames

own_is_none : (frame at : ℕ) (k : ℕ × ℕ) → is_at (place_cmp (frame, at)) k ≡ true → is_other frame k ≡ false
own_is_none frame at k same = ap not (eq-eqb k.0 frame (ap (λ (n : ℕ × ℕ). n.0) (sym (equal_at (frame, at) k same))))

pub others_without : (frame at : ℕ) (entries : PlaceEntries) → of_others frame (remove_entry (is_at (place_cmp (frame, at))) entries) ≡ of_others frame entries
others_without frame at [] = refl
others_without frame at (e ∷ es) = by (is_at (place_cmp (frame, at)) e.0) refl (others_without frame at es) where
  keep : (b : Bool) → of_others frame (remove_entry (is_at (place_cmp (frame, at))) es) ≡ of_others frame es
      → cond b (e ∷ of_others frame (remove_entry (is_at (place_cmp (frame, at))) es)) (of_others frame (remove_entry (is_at (place_cmp (frame, at))) es))
      ≡ cond b (e ∷ of_others frame es) (of_others frame es)
  keep true rest = ap (λ t. e ∷ t) rest
  keep false rest = rest

  by : (b : Bool) → is_at (place_cmp (frame, at)) e.0 ≡ b → of_others frame (remove_entry (is_at (place_cmp (frame, at))) es) ≡ of_others frame es
      → of_others frame (cond b es (e ∷ remove_entry (is_at (place_cmp (frame, at))) es)) ≡ of_others frame (e ∷ es)
  by true is rest = sym (ap (λ b. cond b (e ∷ of_others frame es) (of_others frame es)) (own_is_none frame at e.0 is))
  by false is rest = keep (is_other frame e.0) rest

-- where a frame has no place, all entries are of other frames
pub all_others : (frame : ℕ) (entries : PlaceEntries) → ((place : ℕ) → place_at entries frame place ≡ None) → of_others frame entries ≡ entries
all_others frame [] none = refl
all_others frame (e ∷ es) none = by (e.0.0 == frame) refl (all_others frame es (λ place. later place (is_at (place_cmp (frame, place)) e.0) refl (none place))) where
  later : (place : ℕ) (b : Bool) → is_at (place_cmp (frame, place)) e.0 ≡ b → cond b (Some e.1) (place_at es frame place) ≡ None → place_at es frame place ≡ None
  later place true is h = absurd (none-some e.1 (sym h))
  later place false is h = h

  owner : (b : Bool) → (e.0.0 == frame) ≡ b → b ≡ true → e.0.0 ≡ frame
  owner b is true_is = grind (arith, nat_tests)

  by : (b : Bool) → (e.0.0 == frame) ≡ b → of_others frame es ≡ es → cond (not b) (e ∷ of_others frame es) (of_others frame es) ≡ e ∷ es
  by true is rest =
      let own = owner true is refl in
      let key : (frame, e.0.1) ≡ e.0 = λ i. (sym own i, e.0.1) in
      absurd (none-some e.1 (sym (sym (ap (λ b. cond b (Some e.1) (place_at es frame e.0.1)) (ap (λ (k : ℕ × ℕ). is_at (place_cmp k) e.0) key ∙ tied e.0)) ∙ none e.0.1)))
  by false is rest = ap (λ t. e ∷ t) rest

-- ---- one place more is forgotten

-- of a frame that owes nothing no version is owed by it
pub paid_owes_none : (entries : PlaceEntries) (nodes : Slab Node) (made frame : ℕ) → IsWhole entries nodes made (λ _. 0) → IsAllPaid entries frame
    → (k : ℕ) → 0 < uses k entries → version_at nodes k ≡ owed frame → ⊥
paid_owes_none entries nodes made frame whole paid k h is =
    let owing = whole.owing k frame h is in none-some k (sym (paid owing.place owing.has owing.stands) ∙ owing.owes)

-- its versions are still referred to until they are released
pub taken_out : (before now later : PlaceEntries) (old new : Slab Node) (made frame at : ℕ) (has : PlacedObject) → IsForgetting before now old new made frame
    → place_at now frame at ≡ Some has → later ≡ remove_entry (is_at (place_cmp (frame, at))) now → IsStrictlySortedBy place_cmp (keys_of later)
    → IsWhole later new made (λ k. uses_of k has)
taken_out before now later old new made frame at has forgetting stands without sorted =
    let Q : PlaceEntries → Type 0 = λ es. IsStrictlySortedBy place_cmp (keys_of es) in
    let W : PlaceEntries → Type 0 = λ es. IsWhole es new made (λ k. uses_of k has) in
    subst W (sym without)
    (go_out now new made (λ _. 0) (λ k. uses_of k has) frame at has forgetting.whole stands (paid_owes_none now new made frame forgetting.whole forgetting.paid) (λ k. omega arith) (subst Q without sorted))

pub forgot_one : (before now later : PlaceEntries) (old new next : Slab Node) (made frame at : ℕ) (has : PlacedObject) → IsForgetting before now old new made frame
    → place_at now frame at ≡ Some has → later ≡ remove_entry (is_at (place_cmp (frame, at))) now → IsStrictlySortedBy place_cmp (keys_of later)
    → (IsWhole later new made (λ k. uses_of k has) → IsReleased later new next made (λ _. 0)) → IsForgetting before later old next made frame
forgot_one before now later old new next made frame at has forgetting stands without sorted release =
    let left : PlaceEntries = remove_entry (is_at (place_cmp (frame, at))) now in
    let done = release (taken_out before now later old new made frame at has forgetting stands without sorted) in
    let fewer : (k : ℕ) → uses k later ≤ uses k now = λ k.
    let sums = uses_without now k frame at has stands in
    let same : uses k later ≡ uses k left = ap (uses k) without in omega (arith, sums, same) in
    record {
      whole = done.whole;
      paid = λ place other is.
          let gone : place_at left frame place ≡ Some other = ap (λ es. place_at es frame place) (sym without) ∙ is in
          forgetting.paid place other (after_removal now (frame, at) (frame, place) other forgetting.whole.sorted gone).was;
      others = ap (of_others frame) without ∙ others_without frame at now ∙ forgetting.others;
      same = λ k h. let less = fewer k in done.same k (omega arith) ∙ forgetting.same k (omega (arith, less));
    }
