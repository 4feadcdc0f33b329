-- PlaceEntries by index.
use Rattle.std.proofs.Common.{◌≡◌, ℕ, zero, suc, Bool, true, false, cond, ◌&&◌, ◌==◌, Some, List, [], ◌∷◌, map, find, slice_get, refl, sym, ap, ◌∙◌, ⊎_elim}
use Rattle.std.proofs.lemmas.Option.{none-some, same_Some}
use Rattle.std.proofs.lemmas.Bool.{false≢true, cases_eq, and_from, and_parts, eqb-true, eq-eqb}
use Rattle.std.proofs.lemmas.Cmp.{eq_by_cmp_equiv}
use Rattle.std.proofs.lemmas.Map.Entries.{lookup_from_place, place_from_lookup}
use Rattle.std.proofs.lemmas.Map.Keys.{IsDistinct-from_sorted}
use Rattle.std.specs.BTreeMap.{is_at}
use Rattle.std.specs.Map.{keys_of}
use Rattle.std.specs.Option.{option_map}
use Rattle.slab.specs.Slab.{Slab}
use Rattle.swan_model.specs.declared.rights.Mode.TheVariants.{Out}
use Rattle.swan_model.specs.declared.value.Value.{Value}
use Rattle.swan_model.specs.Rights.{allows}
use Rattle.swan_model.specs.Versions.{Version, settled, Placed, place_cmp, may_write, left_by}
use Rattle.object_versions.specs.declared.node.Node.{Node}
use Rattle.object_versions.specs.declared.placed_object.PlacedObject.{PlacedObject}
use Rattle.object_versions.specs.Store.{PlaceEntries, place_at, version_at, seen, versions_of}
use Rattle.object_versions.specs.Whole.{IsWhole}
use Rattle.object_versions.proofs.Lookups.{place_total, equal_at}

-- what stands at an index is what stands at its place
pub place_of : (entries : PlaceEntries) (nodes : Slab Node) (made : ℕ) (held : ℕ → ℕ) → IsWhole entries nodes made held
    → (i : ℕ) (e : (ℕ × ℕ) × PlacedObject) → slice_get entries i ≡ Some e → place_at entries e.0.0 e.0.1 ≡ Some e.1
place_of entries nodes made held whole i e is =
    lookup_from_place (eq_by_cmp_equiv place_total) entries i e.0 e.1 (IsDistinct-from_sorted place_cmp (keys_of entries) whole.sorted) is

-- the first that passes a test, where all that pass it have the same version
pub find_only : {A B : Type 0} (p : B → Bool) (f : B → Version) (g : A → B) (xs : List A) (v : Version)
    → ((i : ℕ) (x : A) → slice_get xs i ≡ Some x → p (g x) ≡ true → f (g x) ≡ v)
    → (i : ℕ) (x : A) → slice_get xs i ≡ Some x → p (g x) ≡ true → option_map f (find p (map g xs)) ≡ Some v
find_only p f g [] v all i x is passes = absurd (none-some x is)
find_only {A} {B} p f g (y ∷ ys) v all zero x is passes = by (p (g y)) refl where
  by : (b : Bool) → p (g y) ≡ b → option_map f (cond b (Some (g y)) (find p (map g ys))) ≡ Some v
  by true e = ap Some (all zero y refl e)
  by false e = absurd (false≢true (sym e ∙ ap (λ z. p (g z)) (same_Some y x is) ∙ passes))
find_only {A} {B} p f g (y ∷ ys) v all (suc i) x is passes = by (p (g y)) refl (find_only p f g ys v (λ j z at. all (suc j) z at) i x is passes) where
  by : (b : Bool) → p (g y) ≡ b → option_map f (find p (map g ys)) ≡ Some v → option_map f (cond b (Some (g y)) (find p (map g ys))) ≡ Some v
  by true e rest = ap Some (all zero y refl e)
  by false e rest = rest

-- what a frame leaves of an object is what it has where it may write it; the places need only be whole with some versions, not with these
pub left_of : (entries : PlaceEntries) (nodes other : Slab Node) (made : ℕ) (held : ℕ → ℕ) (n q : ℕ) (has : PlacedObject) (value : Value) → IsWhole entries other made held
    → place_at entries n q ≡ Some has → allows has.mode Out ≡ true → version_at nodes has.present ≡ settled value
    → left_by (versions_of entries nodes made) n has.object ≡ Some (settled value)
left_of entries nodes other made held n q has value whole stands may is =
    find_only (may_write n has.object) (λ (entry : (ℕ × ℕ) × Placed). entry.1.present) (seen nodes) entries (settled value) all at.0 (at.1, has) at.2 passes
  where
    at : (i : ℕ) × (k : ℕ × ℕ) × (slice_get entries i ≡ Some (k, has)) × (is_at (place_cmp (n, q)) k ≡ true)
    at = place_from_lookup (is_at (place_cmp (n, q))) entries has stands

    passes : may_write n has.object (seen nodes (at.1, has)) ≡ true
    passes =
        let key = equal_at (n, q) at.1 at.3 in
        let first : (n == n) ≡ true = eq-eqb n n refl in
        let second : (has.object == has.object) ≡ true = eq-eqb has.object has.object refl in
        let whole_test : ((n == n) && ((has.object == has.object) && allows has.mode Out)) ≡ true = and_from _ _ first (and_from _ _ second may) in
        ap (λ (k : ℕ × ℕ). may_write n has.object (seen nodes (k, has))) (sym key) ∙ whole_test

    all : (i : ℕ) (e : (ℕ × ℕ) × PlacedObject) → slice_get entries i ≡ Some e → may_write n has.object (seen nodes e) ≡ true → version_at nodes e.1.present ≡ settled value
    all i e there pass =
        let first = and_parts (e.0.0 == n) ((e.1.object == has.object) && allows e.1.mode Out) pass in
        let second = and_parts (e.1.object == has.object) (allows e.1.mode Out) first.1 in
        let owner = eqb-true e.0.0 n first.0 in
        let object = eqb-true e.1.object has.object second.0 in
        let here : place_at entries n e.0.1 ≡ Some e.1 = ap (λ m. place_at entries m e.0.1) (sym owner) ∙ place_of entries other made held whole i e there in
        ⊎_elim
        (λ same. let this : e.1 ≡ has = same_Some e.1 has (sym here ∙ ap (place_at entries n) same ∙ stands) in ap (λ o. version_at nodes o.present) this ∙ is)
        (λ apart. absurd (false≢true (sym (ap (λ m. allows m Out) (whole.alone n e.0.1 q e.1 has here stands apart object).0) ∙ second.1)))
        (cases_eq e.0.1 q)
