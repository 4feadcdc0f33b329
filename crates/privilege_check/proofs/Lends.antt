-- What a spawn lends, argument by argument from the last one on.
use Rattle.std.proofs.Common.{◌≡◌, Some, refl, sym, ap, ◌∙◌, inl, inr, ℕ, zero, suc, ◌-◌, ◌<◌, ◌≤◌, Bool, true, false, not, ◌&&◌, ◌||◌, cond, List, [], ◌∷◌, length, get_or, drop, drop-cons, arith}
use Rattle.std.specs.List.{list_any}
use Rattle.std.specs.Map.{lookup, update}
use Rattle.std.specs.Str.{bytes_eq}
use Rattle.std.proofs.Math.Path.{fun_ext}
use Rattle.std.proofs.lemmas.Bool.{cases_Bool, or_parts, or_right}
use Rattle.std.proofs.lemmas.Slice.Eq.{bytes_eq-Decides}
use Rattle.swan_model.proofs.Lists.{bytes_eq-sym}
use Rattle.swan_model.specs.Rights.{is_in}
use Rattle.swan_model.specs.declared.rights.Mode.{Mode}
use Rattle.swan_model.specs.declared.value.Kind.{Kind}
use Rattle.job_reader.specs.declared.atom.Atom.{Atom}
use Rattle.job_reader.specs.declared.atom.Atom.TheVariants as atom
use Rattle.privilege_check.specs.Lending.{clashes}
use Rattle.privilege_check.specs.Spawns.{lends_clash, with_gift, is_lent_twice, lent}
use Rattle.privilege_check.specs.declared.declaration.Declaration.{Declaration}
use Rattle.privilege_check.specs.declared.declaration.Declaration.TheVariants.{Variable, Held}

-- one more name at the front of those that are lent from a place on
lent_next : (takes : List Declaration) (args : List Atom) (n : ℕ) (t : Declaration) (a : Atom) (mode : Mode) (k : Kind) (name : List ℕ) → n < length takes → n < length args → get_or takes n t ≡ Held mode k → get_or args n a ≡ atom.Name name → lent (drop n takes) (drop n args) ≡ (name, mode) ∷ lent (drop (suc n) takes) (drop (suc n) args)
lent_next takes args n t a mode k name in_takes in_args is_held is_name =
    rw (drop-cons takes n t in_takes, drop-cons args n a in_args, is_held, is_name) refl

pub lent_more : (takes : List Declaration) (args : List Atom) (i : ℕ) (t : Declaration) (a : Atom) (mode : Mode) (k : Kind) (name : List ℕ) → 0 < i → i ≤ length takes → i ≤ length args → get_or takes (i - 1) t ≡ Held mode k → get_or args (i - 1) a ≡ atom.Name name → lent (drop (i - 1) takes) (drop (i - 1) args) ≡ (name, mode) ∷ lent (drop i takes) (drop i args)
lent_more takes args i t a mode k name above in_takes in_args is_held is_name =
    let next : suc (i - 1) ≡ i = omega arith in
    lent_next takes args (i - 1) t a mode k name (omega arith) (omega arith) is_held is_name
    ∙ ap (λ j. (name, mode) ∷ lent (drop j takes) (drop j args)) next

-- a map after one more name
pub modes_more : (name : List ℕ) (mode : Mode) (gifts more : List (List ℕ × Mode)) → more ≡ (name, mode) ∷ gifts → update bytes_eq (λ q. lookup (bytes_eq q) gifts) name (Some mode) ≡ (λ q. lookup (bytes_eq q) more)
modes_more name mode gifts more is =
    fun_ext (λ q. ap (λ same. cond same (Some mode) (lookup (bytes_eq q) gifts)) (bytes_eq-sym name q) ∙ ap (lookup (bytes_eq q)) (sym is))

-- a name in front of one more argument that clashes no more than the others
head_of : (r s rest : Bool) → (r ≡ true → s ≡ true → rest ≡ false) → (not (r && s) || rest) ≡ not (r && s)
head_of true true rest h = h refl refl
head_of true false rest h = refl
head_of false s rest h = refl

same_reader : (name : List ℕ) (a b : Mode) (gifts : List (List ℕ × Mode)) → is_in a ≡ true → is_in b ≡ true → list_any (lends_clash (name, a)) gifts ≡ list_any (lends_clash (name, b)) gifts
same_reader name a b gifts ha hb =
    ap (λ (r : Bool). list_any (λ (gift : List ℕ × Mode). bytes_eq name gift.0 && not (r && is_in gift.1)) gifts) (ha ∙ sym hb)

-- among names of which none is lent twice, the look-up of one says whether it clashes
pub clash_later : (name : List ℕ) (mode : Mode) (gifts : List (List ℕ × Mode)) → is_lent_twice gifts ≡ false → list_any (lends_clash (name, mode)) gifts ≡ clashes mode (lookup (bytes_eq name) gifts)
clash_later name mode [] once = refl
clash_later name mode ((other, held) ∷ more) once =
    let parts = or_parts (list_any (lends_clash (other, held)) more) (is_lent_twice more) once in
    elim (cases_Bool (bytes_eq name other)) [
      | inl same ↦
          let is : name ≡ other = (bytes_eq-Decides name other).0 same in
          let later : is_in mode ≡ true → is_in held ≡ true → list_any (lends_clash (name, mode)) more ≡ false =
          λ r s. same_reader name mode held more r s ∙ ap (λ n. list_any (lends_clash (n, held)) more) is ∙ parts.0 in
          rw same (head_of (is_in mode) (is_in held) (list_any (lends_clash (name, mode)) more) later)
      | inr apart ↦ rw apart (clash_later name mode more parts.1)
    ]

none_lent : (takes : List Declaration) → lent takes [] ≡ []
none_lent [] = refl
none_lent (t ∷ takes) = refl

front_twice : (t : Declaration) (a : Atom) (gifts : List (List ℕ × Mode)) → is_lent_twice gifts ≡ true → is_lent_twice (with_gift t a gifts) ≡ true
front_twice (Variable k) a gifts twice = twice
front_twice (Held mode k) (atom.Int n) gifts twice = twice
front_twice (Held mode k) (atom.Bytes bytes) gifts twice = twice
front_twice (Held mode k) (atom.Name name) gifts twice = or_right (list_any (lends_clash (name, mode)) gifts) (is_lent_twice gifts) twice

-- what is lent twice from a place on is lent twice
pub lent_twice_from : (n : ℕ) (takes : List Declaration) (args : List Atom) → is_lent_twice (lent (drop n takes) (drop n args)) ≡ true → is_lent_twice (lent takes args) ≡ true
lent_twice_from zero takes args twice = twice
lent_twice_from (suc n) [] args twice = twice
lent_twice_from (suc n) (t ∷ takes) [] twice = rw (none_lent (drop n takes)) at twice
lent_twice_from (suc n) (t ∷ takes) (a ∷ args) twice = front_twice t a (lent takes args) (lent_twice_from n takes args twice)
