-- The serial order of paths.
use Rattle.std.proofs.Common.{◌≡◌, ◌⊎◌, inl, inr, ℕ, ◌<◌, ◌≤◌, Bool, true, false, nat_eq, nat_lt, cond, List, [], ◌∷◌, ◌++◌, refl, sym, ap, ◌∙◌, arith, rules, tests}
use Rattle.std.proofs.lemmas.Bool.{cases_order, eq-eqb, eqb-false, eqb-true, lt-ltb, ltb-false, ltb-true, ne_eqb, false≢true}
use Rattle.swan_model.specs.PathOrder.{comes_before}
use Rattle.swan_model.proofs.Paths.{same_part}

-- whether a path leaves another one towards an older sibling
abbrev pub is_left : List ℕ → List ℕ → Bool
is_left [] path = false
is_left (part ∷ parts) [] = false
is_left (part ∷ parts) (other ∷ others) =
    cond (nat_eq part other) (is_left parts others) (nat_lt part other)

-- where the parts are the same, the rest decides
rest-decides : (same before after last : Bool) → (before ≡ true → after ≡ true) → cond same before last ≡ true → cond same after last ≡ true
rest-decides true before after last then is = then is
rest-decides false before after last then is = is

pub left-before : (path other : List ℕ) → is_left path other ≡ true → comes_before path other ≡ true
left-before [] other is = absurd (cc)
left-before (part ∷ parts) [] is = refl
left-before (part ∷ parts) (other ∷ others) is =
    rest-decides (nat_eq part other) (is_left parts others) (comes_before parts others) (nat_lt part other) (left-before parts others) is

pub left-below_other : (path other below : List ℕ) → is_left path other ≡ true → is_left path (other ++ below) ≡ true
left-below_other [] other below is = absurd (cc)
left-below_other (part ∷ parts) [] below is = absurd (cc)
left-below_other (part ∷ parts) (other ∷ others) below is =
    rest-decides (nat_eq part other) (is_left parts others) (is_left parts (others ++ below)) (nat_lt part other) (left-below_other parts others below) is

pub left-below : (path other below : List ℕ) → is_left path other ≡ true → is_left (path ++ below) other ≡ true
left-below [] other below is = absurd (cc)
left-below (part ∷ parts) [] below is = absurd (cc)
left-below (part ∷ parts) (other ∷ others) below is =
    rest-decides (nat_eq part other) (is_left parts others) (is_left (parts ++ below) others) (nat_lt part other) (left-below parts others below) is

pub before-below : (path other below : List ℕ) → comes_before path other ≡ true → comes_before (path ++ below) other ≡ true
before-below [] other below is = absurd (cc)
before-below (part ∷ parts) [] below is = refl
before-below (part ∷ parts) (other ∷ others) below is =
    rest-decides (nat_eq part other) (comes_before parts others) (comes_before (parts ++ below) others) (nat_lt part other) (before-below parts others below) is

-- a child comes before its parent
pub before-parent : (path : List ℕ) (number : ℕ) → comes_before (path ++ number ∷ []) path ≡ true
before-parent [] number = refl
before-parent (part ∷ parts) number =
    ap (λ same. cond same (comes_before (parts ++ number ∷ []) parts) (nat_lt part part)) (same_part part)
    ∙ before-parent parts number

lower : (number later : ℕ) → number < later → cond (nat_eq number later) false (nat_lt number later) ≡ true
lower number later less = search (rules, tests)

-- a child leaves towards the left of each later one
pub left-sibling : (path : List ℕ) (number later : ℕ) → number < later → is_left (path ++ number ∷ []) (path ++ later ∷ []) ≡ true
left-sibling [] number later less = lower number later less
left-sibling (part ∷ parts) number later less =
    ap (λ same. cond same (is_left (parts ++ number ∷ []) (parts ++ later ∷ [])) (nat_lt part part)) (same_part part)
    ∙ left-sibling parts number later less

-- no path comes before itself or before those below it
pub not_before-under : (path rest : List ℕ) → comes_before path (path ++ rest) ≡ true → ⊥
not_before-under [] rest is = absurd (cc)
not_before-under (part ∷ parts) rest is =
    not_before-under parts rest
    (sym (ap (λ same. cond same (comes_before parts (parts ++ rest)) (nat_lt part part)) (same_part part)) ∙ is)

not_left-nothing : (path : List ℕ) → is_left path [] ≡ true → ⊥
not_left-nothing [] is = absurd (cc)
not_left-nothing (part ∷ parts) is = absurd (cc)

-- no path leaves another one that is above it
pub not_left-above : (path rest : List ℕ) (number : ℕ) → is_left (path ++ number ∷ rest) (path ++ number ∷ []) ≡ true → ⊥
not_left-above [] rest number is =
    not_left-nothing rest
    (sym (ap (λ same. cond same (is_left rest []) (nat_lt number number)) (same_part number)) ∙ is)
not_left-above (part ∷ parts) rest number is =
    not_left-above parts rest number
    (sym (ap (λ same. cond same (is_left (parts ++ number ∷ rest) (parts ++ number ∷ [])) (nat_lt part part)) (same_part part)) ∙ is)

-- how a path comes before another one: it is below it; or both are below one path, and it is so by a lesser
-- number
pub record IsBelow (path other : List ℕ) : Type 0 where
  pub number : ℕ
  pub rest : List ℕ
  pub is : path ≡ other ++ number ∷ rest

pub record IsAside (path other : List ℕ) : Type 0 where
  pub above : List ℕ
  pub number : ℕ
  pub rest : List ℕ
  pub is : path ≡ above ++ number ∷ rest
  pub later : ℕ
  pub more : List ℕ
  pub also : other ≡ above ++ later ∷ more
  pub less : number < later

below-further : (part same : ℕ) (parts others : List ℕ) → part ≡ same → IsBelow parts others → IsBelow (part ∷ parts) (same ∷ others)
below-further part same parts others e below =
    let is : parts ≡ others ++ below.number ∷ below.rest = below.is in
    record { number = below.number; rest = below.rest; is = let both : part ∷ parts ≡ same ∷ (others ++ below.number ∷ below.rest) = cc in both }

aside-further : (part same : ℕ) (parts others : List ℕ) → part ≡ same → IsAside parts others → IsAside (part ∷ parts) (same ∷ others)
aside-further part same parts others e aside =
    let is : parts ≡ aside.above ++ aside.number ∷ aside.rest = aside.is in
    let also : others ≡ aside.above ++ aside.later ∷ aside.more = aside.also in
    record {
      above = same ∷ aside.above;
      number = aside.number;
      rest = aside.rest;
      is = let both : part ∷ parts ≡ same ∷ (aside.above ++ aside.number ∷ aside.rest) = cc in both;
      later = aside.later;
      more = aside.more;
      also = ap (λ p. same ∷ p) also;
      less = aside.less;
    }

how-parts : (equal : Bool) (part other : ℕ) (parts others : List ℕ) → nat_eq part other ≡ equal → (comes_before parts others ≡ true → IsBelow parts others ⊎ IsAside parts others) → cond equal (comes_before parts others) (nat_lt part other) ≡ true → IsBelow (part ∷ parts) (other ∷ others) ⊎ IsAside (part ∷ parts) (other ∷ others)
how-parts true part other parts others same rest is = elim (rest is) [
  | inl below ↦ inl (below-further part other parts others (eqb-true part other same) below)
  | inr aside ↦ inr (aside-further part other parts others (eqb-true part other same) aside)
]
how-parts false part other parts others same rest is =
    inr (record { above = []; number = part; rest = parts; is = refl; later = other; more = others; also = refl; less = ltb-true part other is })

pub how_before : (path other : List ℕ) → comes_before path other ≡ true → IsBelow path other ⊎ IsAside path other
how_before [] other is = absurd (cc)
how_before (part ∷ parts) [] is = inl (record { number = part; rest = parts; is = refl })
how_before (part ∷ parts) (other ∷ others) is =
    how-parts (nat_eq part other) part other parts others refl (how_before parts others) is

either-parts : (equal less : Bool) (part other : ℕ) (parts others : List ℕ) → nat_eq part other ≡ equal → nat_lt part other ≡ less → (parts ≡ others) ⊎ ((comes_before parts others ≡ true) ⊎ (comes_before others parts ≡ true)) → (part ∷ parts ≡ other ∷ others) ⊎ ((comes_before (part ∷ parts) (other ∷ others) ≡ true) ⊎ (comes_before (other ∷ others) (part ∷ parts) ≡ true))
either-parts true less part other parts others same below rest =
    let e : part ≡ other = eqb-true part other same in
    elim rest [
      | inl all ↦ inl (let both : part ∷ parts ≡ other ∷ others = cc in both)
      | inr differ ↦ elim differ [
        | inl before ↦ inr (inl (ap (λ b. cond b (comes_before parts others) (nat_lt part other)) same ∙ before))
        | inr after ↦ inr (inr (ap (λ b. cond b (comes_before others parts) (nat_lt other part)) (eq-eqb other part (sym e)) ∙ after))
      ]
    ]
either-parts false true part other parts others same below rest =
    inr (inl (ap (λ b. cond b (comes_before parts others) (nat_lt part other)) same ∙ below))
either-parts false false part other parts others same below rest =
    let least : other ≤ part = ltb-false part other below in
    let apart : part ≡ other → ⊥ = eqb-false part other same in
    let less : other < part = elim (cases_order other part) [
      | inl equal ↦ absurd (apart (sym equal))
      | inr differ ↦ elim differ [
        | inl early ↦ early
        | inr late ↦ absurd (omega arith)
      ]
    ] in
    inr (inr (ap (λ b. cond b (comes_before others parts) (nat_lt other part)) (ne_eqb other part (λ e. apart (sym e))) ∙ lt-ltb other part less))

-- of two paths one comes before the other, or they are the same
pub either_before : (path other : List ℕ) → (path ≡ other) ⊎ ((comes_before path other ≡ true) ⊎ (comes_before other path ≡ true))
either_before [] [] = inl refl
either_before [] (other ∷ others) = inr (inr refl)
either_before (part ∷ parts) [] = inr (inl refl)
either_before (part ∷ parts) (other ∷ others) =
    either-parts (nat_eq part other) (nat_lt part other) part other parts others refl refl (either_before parts others)

-- the order of paths goes one way
pub before-one_way : (path other : List ℕ) → comes_before path other ≡ true → comes_before other path ≡ false
before-one_way [] other is = absurd (cc)
before-one_way (part ∷ parts) [] is = refl
before-one_way (part ∷ parts) (other ∷ others) is = grind (arith, before-one_way parts others)

pub never_before-both : (path other : List ℕ) → comes_before path other ≡ true → comes_before other path ≡ true → ⊥
never_before-both path other is also = false≢true (sym (before-one_way path other is) ∙ also)

-- where one path is not before another, which is not before a third, it is not before that one
pub before-chain : (path other last : List ℕ) → comes_before path other ≡ false → comes_before other last ≡ false → comes_before path last ≡ false
before-chain [] other last is also = refl
before-chain (part ∷ parts) [] last is also = absurd (cc)
before-chain (part ∷ parts) (other ∷ others) [] is also = absurd (cc)
before-chain (part ∷ parts) (other ∷ others) (end ∷ ends) is also = grind (arith, before-chain parts others ends)

-- a path before another one, which is before a third, is before that one
pub before-through : (path other last : List ℕ) → comes_before path other ≡ true → comes_before other last ≡ true → comes_before path last ≡ true
before-through [] other last is also = absurd (cc)
before-through (part ∷ parts) [] last is also = absurd (cc)
before-through (part ∷ parts) (other ∷ others) [] is also = refl
before-through (part ∷ parts) (other ∷ others) (end ∷ ends) is also = grind (arith, before-through parts others ends)
