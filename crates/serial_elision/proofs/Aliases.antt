-- Places given twice, told from what was seen of each place.
use Rattle.std.proofs.Common.{◌≡◌, ℕ, Bool, true, false, not, ◌&&◌, ◌||◌, List, [], ◌∷◌, Option, Some, None, refl, ap, sym, ◌∙◌, cond, nat_eq, BTreeMap, ◌<◌, ◌+◌, length, drop, get_or, add-one, arith}
use Rattle.std.proofs.Math.Bool.{or-false, or_assoc}
use Rattle.std.proofs.Math.Seq.{drop-cons}
use Rattle.std.specs.List.{list_any}
use Rattle.std.specs.Option.{option_map_or}
use Rattle.std.specs.Ordering.{nat_cmp}
use Rattle.std.specs.BTreeMap.{get, is_at}
use Rattle.std.specs.Map.{lookup}
use Rattle.std.proofs.lemmas.Bool.{eqb-true}
use Rattle.swan_model.specs.declared.rights.Give.{Give}
use Rattle.swan_model.specs.Rights.{clash, is_aliased, is_in}

-- whether a give clashes with what was seen of its place: whether its last give only reads
abbrev pub clashes_place : Bool → Option Bool → Bool
clashes_place reads seen = option_map_or (λ earlier. not (earlier && reads)) seen false

abbrev pub clashes_seen : BTreeMap ℕ Bool → Give → Bool
clashes_seen seen give = clashes_place (is_in give.mode) (get nat_cmp seen give.place)

-- nothing seen clashes with nothing
pub none-seen : (gives : List Give) (seen : BTreeMap ℕ Bool) → seen.entries ≡ [] → list_any (clashes_seen seen) gives ≡ false
none-seen [] seen e = refl
none-seen (give ∷ gives) seen e =
    ap (λ es. clashes_place (is_in give.mode) (lookup (is_at (nat_cmp give.place)) es) || list_any (clashes_seen seen) gives) e
    ∙ none-seen gives seen e

-- Two gives of one place, of which the first one didn't clash: the second one clashes with the first
-- just where it clashes with it or with what was seen before.
same_place : (seen : Option Bool) (first second : Bool) → clashes_place first seen ≡ false → not (first && second) ≡ (clashes_place second seen || not (first && second))
same_place None first second e = refl
same_place (Some earlier) first second e = grind arith

any_place : (same : Bool) (before seen : Option Bool) (first second : Bool) → (same ≡ true → before ≡ seen) → clashes_place first seen ≡ false → clashes_place second (cond same (Some first) before) ≡ (clashes_place second before || (same && not (first && second)))
any_place true before seen first second is e =
    same_place seen first second e ∙ ap (λ s. clashes_place second s || not (first && second)) (sym (is refl))
any_place false before seen first second is e = sym (or-false (clashes_place second before))

or_middle : (a b c d : Bool) → ((a || b) || (c || d)) ≡ ((a || c) || (b || d))
or_middle a b c d = grind arith

list_any-or : {A : Type 0} (p q r : A → Bool) → ((x : A) → r x ≡ (p x || q x)) → (xs : List A) → list_any r xs ≡ (list_any p xs || list_any q xs)
list_any-or p q r each [] = refl
list_any-or p q r each (x ∷ xs) =
    ap (λ b. b || list_any r xs) (each x)
    ∙ ap (λ b. (p x || q x) || b) (list_any-or p q r each xs)
    ∙ or_middle (p x) (q x) (list_any p xs) (list_any q xs)

-- after a give that didn't clash, another one clashes with it or with what was seen before
seen_more : (old new : BTreeMap ℕ Bool) (give : Give) → clashes_seen old give ≡ false → ((q : ℕ) → get nat_cmp new q ≡ cond (nat_eq give.place q) (Some (is_in give.mode)) (get nat_cmp old q)) → (x : Give) → clashes_seen new x ≡ (clashes_seen old x || clash give x)
seen_more old new give e last x =
    let same : nat_eq give.place x.place ≡ true → get nat_cmp old x.place ≡ get nat_cmp old give.place = λ t. ap (get nat_cmp old) (sym (eqb-true give.place x.place t)) in
    ap (clashes_place (is_in x.mode)) (last x.place)
    ∙ any_place (nat_eq give.place x.place) (get nat_cmp old x.place) (get nat_cmp old give.place) (is_in give.mode) (is_in x.mode) same e

-- whether a place stands twice, by the gives that were seen and by the rest of them
abbrev pub IsAliasedFrom : BTreeMap ℕ Bool → List Give → ℕ → Type 0
IsAliasedFrom seen gives i =
    is_aliased gives ≡ (list_any (clashes_seen seen) (drop i gives) || is_aliased (drop i gives))

-- a give that didn't clash is seen
pub aliased_more : (old new : BTreeMap ℕ Bool) (gives : List Give) (i : ℕ) (d : Give) → i < length gives → IsAliasedFrom old gives i → clashes_seen old (get_or gives i d) ≡ false → ((q : ℕ) → get nat_cmp new q ≡ cond (nat_eq (get_or gives i d).place q) (Some (is_in (get_or gives i d).mode)) (get nat_cmp old q)) → IsAliasedFrom new gives (i + 1)
aliased_more old new gives i d within so_far e last =
    let give = get_or gives i d in
    let rest = drop (i + 1) gives in
    let next : drop i gives ≡ give ∷ rest = rw add-one (drop-cons gives i d within) in
    so_far
    ∙ ap (λ later. list_any (clashes_seen old) later || is_aliased later) next
    ∙ ap (λ b. (b || list_any (clashes_seen old) rest) || is_aliased (give ∷ rest)) e
    ∙ sym (or_assoc (list_any (clashes_seen old) rest) (list_any (clash give) rest) (is_aliased rest))
    ∙ ap (λ b. b || is_aliased rest) (sym (list_any-or (clashes_seen old) (clash give) (clashes_seen new) (seen_more old new give e last) rest))

-- a give that clashes
pub aliased_here : (seen : BTreeMap ℕ Bool) (gives : List Give) (i : ℕ) (d : Give) → i < length gives → IsAliasedFrom seen gives i → clashes_seen seen (get_or gives i d) ≡ true → is_aliased gives ≡ true
aliased_here seen gives i d within so_far e =
    let give = get_or gives i d in
    let rest = drop (i + 1) gives in
    let next : drop i gives ≡ give ∷ rest = rw add-one (drop-cons gives i d within) in
    so_far
    ∙ ap (λ later. list_any (clashes_seen seen) later || is_aliased later) next
    ∙ ap (λ b. (b || list_any (clashes_seen seen) rest) || is_aliased (give ∷ rest)) e
