-- The place of an entry among those that pass a test: how many such entries stand before it.
use Rattle.std.proofs.Common.{◌≡◌, ℕ, zero, suc, ◌+◌, ◌<◌, ◌≤◌, inl, inr, Bool, true, false, cond, List, [], ◌∷◌, length, take, Some, refl, ◌∙◌, ap, arith}
use Rattle.std.proofs.lemmas.Bool.{cases_lt}
use Rattle.std.specs.Prelude.{slice_get, filter}
use Rattle.swan_model.specs.declared.script.Entry.{Entry}
use Rattle.swan_model.specs.SerialTime.{places_from}
use Rattle.swan_model.proofs.Elements.{filtered_more, first-passes, one_if}

-- how many of the first n entries pass a test
abbrev pub passing : (Entry → Bool) → ℕ → List Entry → ℕ
passing test n es = length (filter test (take n es))

-- one entry more
pub passing-more : (test : Entry → Bool) (es : List Entry) (n : ℕ) (e : Entry) → slice_get es n ≡ Some e → passing test (suc n) es ≡ passing test n es + one_if (test e)
passing-more test es n e is =
    let one : suc n ≡ n + 1 = omega arith in
    ap (λ k. passing test k es) one ∙ filtered_more test es n e is

-- none passes
pub passing-none : (test : Entry → Bool) (es : List Entry) (n : ℕ) → ((i : ℕ) (e : Entry) → i < n → slice_get es i ≡ Some e → test e ≡ false) → passing test n es ≡ 0
passing-none test [] zero fail = refl
passing-none test [] (suc n) fail = refl
passing-none test (x ∷ es) zero fail = refl
passing-none test (x ∷ es) (suc n) fail =
    let here : one_if (test x) ≡ 0 = ap one_if (fail 0 x (omega arith) refl) in
    let rest = passing-none test es n (λ i e less is. fail (suc i) e (omega arith) is) in
    omega (arith, first-passes test x (take n es), here, rest)

-- the entry at a place passes, and so many pass before it
pub record IsPlaced (test : Entry → Bool) (n : ℕ) (es : List Entry) (k t : ℕ) : Type 0 where
  pub i : ℕ
  pub is : t ≡ n + i
  pub entry : Entry
  pub stands : slice_get es i ≡ Some entry
  pub passes : test entry ≡ true
  pub before : passing test i es ≡ k

further : (test : Entry → Bool) (n : ℕ) (e : Entry) (es : List Entry) (j k t : ℕ) → IsPlaced test (n + 1) es j t → k ≡ one_if (test e) + j → IsPlaced test n (e ∷ es) k t
further test n e es j k t later more =
    record {
      i = suc later.i;
      is = omega (arith, later.is);
      entry = later.entry;
      stands = later.stands;
      passes = later.passes;
      before = omega (arith, first-passes test e (take later.i es), later.before);
    }

placed-by : (test : Entry → Bool) (b : Bool) (n : ℕ) (e : Entry) (es : List Entry) (k t : ℕ) → test e ≡ b → ((j : ℕ) → slice_get (places_from test (n + 1) es) j ≡ Some t → IsPlaced test (n + 1) es j t) → slice_get (cond b (n ∷ places_from test (n + 1) es) (places_from test (n + 1) es)) k ≡ Some t → IsPlaced test n (e ∷ es) k t
placed-by test true n e es zero t passes rest is =
    let same : n ≡ t = cc in
    record { i = 0; is = omega arith; entry = e; stands = refl; passes = passes; before = refl }
placed-by test true n e es (suc k) t passes rest is =
    let one : one_if (test e) ≡ 1 = ap one_if passes in
    further test n e es k (suc k) t (rest k is) (omega (arith, one))
placed-by test false n e es k t passes rest is =
    let none : one_if (test e) ≡ 0 = ap one_if passes in
    further test n e es k k t (rest k is) (omega (arith, none))

pub placed : (test : Entry → Bool) (n : ℕ) (es : List Entry) (k t : ℕ) → slice_get (places_from test n es) k ≡ Some t → IsPlaced test n es k t
placed test n [] k t is = absurd (cc)
placed test n (e ∷ es) k t is =
    placed-by test (test e) n e es k t refl (λ j later. placed test (n + 1) es j t later) is

-- more entries have no fewer that pass
passing-next : (test : Entry → Bool) (es : List Entry) (n : ℕ) → passing test n es ≤ passing test (suc n) es
passing-next test [] zero = omega arith
passing-next test [] (suc n) = omega arith
passing-next test (x ∷ es) zero = omega arith
passing-next test (x ∷ es) (suc n) =
    omega (arith, first-passes test x (take (suc n) es), first-passes test x (take n es), passing-next test es n)

pub passing-rises : (test : Entry → Bool) (es : List Entry) (n m : ℕ) → n ≤ m → passing test n es ≤ passing test m es
passing-rises test es n zero less =
    let e : n ≡ zero = omega arith in
    let same : passing test n es ≡ passing test zero es = ap (λ k. passing test k es) e in
    omega (arith, same)
passing-rises test es n (suc m) less = elim (cases_lt m n) [
  | inl past ↦
      let e : n ≡ suc m = omega arith in
      let same : passing test n es ≡ passing test (suc m) es = ap (λ k. passing test k es) e in
      omega (arith, same)
  | inr before ↦ omega (arith, passing-rises test es n m before, passing-next test es m)
]

-- an entry that passes has the place after those that pass before it
pub place_of : (test : Entry → Bool) (n : ℕ) (es : List Entry) (i : ℕ) (e : Entry) → slice_get es i ≡ Some e → test e ≡ true → slice_get (places_from test n es) (passing test i es) ≡ Some (n + i)
place_of test n [] i e is passes = absurd (cc)
place_of test n (x ∷ es) zero e is passes =
    let same : x ≡ e = cc in
    let yes : test x ≡ true = ap test same ∙ passes in
    let last : n ≡ n + 0 = omega arith in
    ap (λ b. slice_get (cond b (n ∷ places_from test (n + 1) es) (places_from test (n + 1) es)) 0) yes ∙ ap Some last
place_of test n (x ∷ es) (suc i) e is passes =
    let last : (n + 1) + i ≡ n + suc i = omega arith in
    by (test x) ∙ place_of test (n + 1) es i e is passes ∙ ap Some last
  where
    by : (b : Bool) → slice_get (cond b (n ∷ places_from test (n + 1) es) (places_from test (n + 1) es)) (length (cond b (x ∷ filter test (take i es)) (filter test (take i es)))) ≡ slice_get (places_from test (n + 1) es) (passing test i es)
    by true = refl
    by false = refl

-- an entry that doesn't pass leaves the count
pub passing-same : (test : Entry → Bool) (es : List Entry) (n : ℕ) → ((e : Entry) → slice_get es n ≡ Some e → test e ≡ false) → passing test (suc n) es ≡ passing test n es
passing-same test [] zero fail = refl
passing-same test [] (suc n) fail = refl
passing-same test (x ∷ es) zero fail =
    let here : one_if (test x) ≡ 0 = ap one_if (fail x refl) in
    omega (arith, first-passes test x [], here)
passing-same test (x ∷ es) (suc n) fail =
    omega (arith, first-passes test x (take (suc n) es), first-passes test x (take n es), passing-same test es n fail)

-- nor do several of them
pub passing-stays : (test : Entry → Bool) (es : List Entry) (n m : ℕ) → n ≤ m → ((i : ℕ) (e : Entry) → n ≤ i → i < m → slice_get es i ≡ Some e → test e ≡ false) → passing test m es ≡ passing test n es
passing-stays test es n zero less fail =
    let e : zero ≡ n = omega arith in
    ap (λ k. passing test k es) e
passing-stays test es n (suc m) less fail = elim (cases_lt m n) [
  | inl past ↦
      let e : suc m ≡ n = omega arith in
      ap (λ k. passing test k es) e
  | inr before ↦
      passing-same test es m (λ e is. fail m e before (omega arith) is)
      ∙ passing-stays test es n m before (λ i e from below is. fail i e from (omega arith) is)
]

-- what passes later stands later
pub placed-rise : (test : Entry → Bool) (n : ℕ) (es : List Entry) (k m t u : ℕ) → k < m → slice_get (places_from test n es) k ≡ Some t → slice_get (places_from test n es) m ≡ Some u → t < u
placed-rise test n es k m t u less is also = elim (cases_lt t u) [
  | inl rise ↦ rise
  | inr fall ↦
      let one = placed test n es k t is in
      let two = placed test n es m u also in
      let more = passing-rises test es two.i one.i (omega (arith, one.is, two.is)) in
      absurd (omega (arith, more, one.before, two.before))
]
