-- The places of entries that pass two tests.
use Rattle.std.proofs.Common.{◌≡◌, ℕ, zero, suc, ◌+◌, Bool, true, false, cond, List, [], ◌∷◌, length, take, Some, refl, sym, ap, ◌∙◌, arith}
use Rattle.std.specs.Prelude.{◌&&◌, slice_get, filter}
use Rattle.swan_model.specs.declared.script.Entry.{Entry}
use Rattle.swan_model.specs.SerialTime.{places_from}
use Rattle.swan_model.proofs.Places.{passing}

-- a test of places tells what another one tells of their entries
abbrev pub Tells : (ℕ → Bool) → (Entry → Bool) → ℕ → List Entry → Type 0
Tells at test n es = (i : ℕ) (e : Entry) → slice_get es i ≡ Some e → at (n + i) ≡ test e

tells-rest : (at : ℕ → Bool) (test : Entry → Bool) (n : ℕ) (e : Entry) (es : List Entry) → Tells at test n (e ∷ es) → Tells at test (n + 1) es
tells-rest at test n e es tells i x is =
    let same : n + 1 + i ≡ n + suc i = omega arith in
    ap at same ∙ tells (suc i) x is

tells-first : (at : ℕ → Bool) (test : Entry → Bool) (n : ℕ) (e : Entry) (es : List Entry) → Tells at test n (e ∷ es) → at n ≡ test e
tells-first at test n e es tells =
    let same : n ≡ n + 0 = omega arith in
    ap at same ∙ tells 0 e refl

-- The places of those that pass both tests are those of the places of the first test at which the other one passes.
pub both_places : (one other : Entry → Bool) (at : ℕ → Bool) (n : ℕ) (es : List Entry) → Tells at other n es → places_from (λ e. one e && other e) n es ≡ filter at (places_from one n es)
both_places one other at n [] tells = refl
both_places one other at n (e ∷ es) tells =
    by (one e) (both_places one other at (n + 1) es (tells-rest at other n e es tells)) (tells-first at other n e es tells)
  where
    by : (b : Bool) → places_from (λ x. one x && other x) (n + 1) es ≡ filter at (places_from one (n + 1) es) → at n ≡ other e → cond (b && other e) (n ∷ places_from (λ x. one x && other x) (n + 1) es) (places_from (λ x. one x && other x) (n + 1) es) ≡ filter at (cond b (n ∷ places_from one (n + 1) es) (places_from one (n + 1) es))
    by false rest here = rest
    by true rest here =
        ap (λ xs. cond (other e) (n ∷ xs) xs) rest
        ∙ ap (λ b. cond b (n ∷ filter at (places_from one (n + 1) es)) (filter at (places_from one (n + 1) es))) (sym here)

-- as many places as entries that pass
pub places-many : (test : Entry → Bool) (n : ℕ) (es : List Entry) → length (places_from test n es) ≡ length (filter test es)
places-many test n [] = refl
places-many test n (e ∷ es) = by (test e) (places-many test (n + 1) es)
  where
    by : (b : Bool) → length (places_from test (n + 1) es) ≡ length (filter test es) → length (cond b (n ∷ places_from test (n + 1) es) (places_from test (n + 1) es)) ≡ length (cond b (e ∷ filter test es) (filter test es))
    by true rest = omega (arith, rest)
    by false rest = rest

-- the places among the first entries are the first places
pub places-take : (test : Entry → Bool) (n : ℕ) (es : List Entry) (t : ℕ) → take (passing test t es) (places_from test n es) ≡ places_from test n (take t es)
places-take test n [] zero = refl
places-take test n [] (suc t) = refl
places-take test n (e ∷ es) zero = refl
places-take test n (e ∷ es) (suc t) = by (test e) (places-take test (n + 1) es t)
  where
    by : (b : Bool) → take (passing test t es) (places_from test (n + 1) es) ≡ places_from test (n + 1) (take t es) → take (length (cond b (e ∷ filter test (take t es)) (filter test (take t es)))) (cond b (n ∷ places_from test (n + 1) es) (places_from test (n + 1) es)) ≡ cond b (n ∷ places_from test (n + 1) (take t es)) (places_from test (n + 1) (take t es))
    by true rest = ap (λ xs. n ∷ xs) rest
    by false rest = rest
