-- Places, seen entry by entry.
use Rattle.std.proofs.Common.{◌≡◌, ◌≢◌, ℕ, Bool, true, false, cond, List, [], ◌∷◌, map, refl, sym, ap, ◌∙◌}
use Rattle.std.specs.Map.{set_value}
use Rattle.std.specs.BTreeMap.{is_at, insert_entry}
use Rattle.std.specs.Ordering.{is_eq, match_ordering}
use Rattle.std.specs.declared.cmp.Ordering.{Ordering}
use Rattle.std.specs.declared.cmp.Ordering.TheVariants.{Less, Equal, Greater}
use Rattle.swan_model.specs.Versions.{place_cmp}
use Rattle.object_versions.proofs.Lookups.{equal_at}

module _ {X Y : Type 0} (g : X → Y) where
  -- each entry with its value seen by g
  abbrev pub each : List ((ℕ × ℕ) × X) → List ((ℕ × ℕ) × Y)
  each es = map (λ e. (e.0, g e.1)) es

  pub each_insert : (es : List ((ℕ × ℕ) × X)) (k : ℕ × ℕ) (v : X) → each (insert_entry place_cmp es k v) ≡ insert_entry place_cmp (each es) k (g v)
  each_insert [] k v = refl
  each_insert (e ∷ es) k v = by (place_cmp k e.0) (each_insert es k v) where
    by : (o : Ordering) → each (insert_entry place_cmp es k v) ≡ insert_entry place_cmp (each es) k (g v)
        → each (match_ordering o ((k, v) ∷ e ∷ es) ((e.0, v) ∷ es) (e ∷ insert_entry place_cmp es k v))
        ≡ match_ordering o ((k, g v) ∷ (e.0, g e.1) ∷ each es) ((e.0, g v) ∷ each es) ((e.0, g e.1) ∷ insert_entry place_cmp (each es) k (g v))
    by Less rest = refl
    by Equal rest = refl
    by Greater rest = ap (λ t. (e.0, g e.1) ∷ t) rest

  pub each_set : (test : ℕ × ℕ → Bool) (es : List ((ℕ × ℕ) × X)) (v : X) → each (set_value test es v) ≡ set_value test (each es) (g v)
  each_set test [] v = refl
  each_set test (e ∷ es) v = by (test e.0) (each_set test es v) where
    by : (b : Bool) → each (set_value test es v) ≡ set_value test (each es) (g v)
        → each (cond b ((e.0, v) ∷ es) (e ∷ set_value test es v)) ≡ cond b ((e.0, g v) ∷ each es) ((e.0, g e.1) ∷ set_value test (each es) (g v))
    by true rest = refl
    by false rest = ap (λ t. (e.0, g e.1) ∷ t) rest

pub push_ordering : {A B : Type 0} (f : A → B) (o : Ordering) (a b c : A) → f (match_ordering o a b c) ≡ match_ordering o (f a) (f b) (f c)
push_ordering f Less a b c = refl
push_ordering f Equal a b c = refl
push_ordering f Greater a b c = refl

pub push_cond : {A B : Type 0} (f : A → B) (t : Bool) (a b : A) → f (cond t a b) ≡ cond t (f a) (f b)
push_cond f true a b = refl
push_cond f false a b = refl

module _ {X : Type 0} (k n : ℕ × ℕ) (v w : X) (apart : n ≢ k) where
  abbrev set : List ((ℕ × ℕ) × X) → List ((ℕ × ℕ) × X)
  set es = set_value (is_at (place_cmp n)) es w

  abbrev come : List ((ℕ × ℕ) × X) → List ((ℕ × ℕ) × X)
  come es = insert_entry place_cmp es k v

  by_cases : (e : (ℕ × ℕ) × X) (es : List ((ℕ × ℕ) × X)) (o : Ordering) (b c : Bool) → place_cmp k e.0 ≡ o → is_at (place_cmp n) e.0 ≡ b
      → is_at (place_cmp n) k ≡ c → set (come es) ≡ come (set es)
      → match_ordering o (cond c ((k, w) ∷ e ∷ es) ((k, v) ∷ cond b ((e.0, w) ∷ es) (e ∷ set es)))
      (cond b ((e.0, w) ∷ es) ((e.0, v) ∷ set es)) (cond b ((e.0, w) ∷ come es) (e ∷ set (come es)))
      ≡ cond b (match_ordering o ((k, v) ∷ (e.0, w) ∷ es) ((e.0, v) ∷ es) ((e.0, w) ∷ come es))
      (match_ordering o ((k, v) ∷ e ∷ set es) ((e.0, v) ∷ set es) (e ∷ come (set es)))
  by_cases e es o b true ordered at there rest = absurd (apart (equal_at n k there))
  by_cases e es Less true false ordered at there rest = refl
  by_cases e es Less false false ordered at there rest = refl
  by_cases e es Equal true false ordered at there rest = absurd (apart (equal_at n e.0 at ∙ sym (equal_at k e.0 (ap is_eq ordered))))
  by_cases e es Equal false false ordered at there rest = refl
  by_cases e es Greater true false ordered at there rest = refl
  by_cases e es Greater false false ordered at there rest = ap (λ t. e ∷ t) rest

  -- an entry comes in and another one is changed, in either order
  pub insert_set : (es : List ((ℕ × ℕ) × X)) → set (come es) ≡ come (set es)
  insert_set [] = by (is_at (place_cmp n) k) refl where
    by : (b : Bool) → is_at (place_cmp n) k ≡ b → cond {A = List ((ℕ × ℕ) × X)} b ((k, w) ∷ []) ((k, v) ∷ []) ≡ (k, v) ∷ []
    by true is = absurd (apart (equal_at n k is))
    by false is = refl
  insert_set (e ∷ es) =
      let first : List ((ℕ × ℕ) × X) = (k, v) ∷ e ∷ es in
      let second : List ((ℕ × ℕ) × X) = (e.0, v) ∷ es in
      let written : List ((ℕ × ℕ) × X) = (e.0, w) ∷ es in
      push_ordering set (place_cmp k e.0) first second (e ∷ come es)
      ∙ by_cases e es (place_cmp k e.0) (is_at (place_cmp n) e.0) (is_at (place_cmp n) k) refl refl refl (insert_set es)
      ∙ sym (push_cond come (is_at (place_cmp n) e.0) written (e ∷ set es))
