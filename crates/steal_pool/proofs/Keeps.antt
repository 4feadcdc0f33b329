-- Each step keeps the rule of a deque.
use Rattle.std.specs.Prelude.{sum_by, slice_index_or, slice_set}
use Rattle.std.proofs.lemmas.List.Sums.{sum_by-set}
use Rattle.std.proofs.Common.{◌≡◌, ◌≢◌, ℕ, zero, suc, ◌+◌, ◌<◌, List, [], ◌∷◌, ◌++◌, length, set, sym, refl, ap, ◌∙◌, subst, ⊎_elim, arith}
use Rattle.std.specs.Prelude.{Option, Some, None}
use mathlib.Core.Option.{some}
use lib.ListN.{get_elem?}
use Rattle.crossbeam_deque.specs.Tasks.{Pushes, Takes, Forks, Finds}
use Rattle.crossbeam_deque.proofs.Lists.{at_set, at_snoc}
use Rattle.swan_model.proofs.Tables.{all_set}
use Rattle.steal_pool.specs.declared.parcel.Parcel.{Parcel}
use Rattle.steal_pool.specs.declared.parcel.Parcel.TheVariants.{Label, Item}
use Rattle.steal_pool.specs.declared.rule.PoolView.{PoolView}
use Rattle.steal_pool.specs.declared.rule.DequeStage.{DequeStage}
use Rattle.steal_pool.specs.declared.rule.DequeStage.TheVariants.{Unnamed, Labelled, Open}
use Rattle.steal_pool.specs.Rule.{at_stage, new_pass, IsAtStage, Single, AllOf, Stands, Pooled, IsTaken, IsLabelled, IsPoolOpened, IsUnchanged}

two-ne : (n : ℕ) → suc (suc n) ≡ suc zero → ⊥
two-ne n e = omega arith

one-ne : (n : ℕ) → zero ≡ suc n → ⊥
one-ne n e = omega arith

module _ {N : Type 0} where
  abbrev Each : (PoolView N → Type 0) → List (PoolView N) → Type 0
  Each P views = (j : ℕ) (v : PoolView N) → get_elem? views j ≡ some v → P v

  set_each : (P : PoolView N → Type 0) (views : List (PoolView N)) (port : ℕ) (w : PoolView N) → P w → Each P views → Each P (set views port w)
  set_each P views port w now h = all_set (λ _. P) views port w now (λ j v apart e. h j v e)

  -- where the worker's own view is the only one, so it is after a step
  set_single : (P : PoolView N → Type 0) (views : List (PoolView N)) (port : ℕ) (v w : PoolView N) → get_elem? views port ≡ some v → Single views → P w → (j : ℕ) (u : PoolView N) → get_elem? (set views port w) j ≡ some u → (j ≡ 0) × P u
  set_single P views port v w at one now j u e = ⊎_elim (λ (t : (j ≡ port) × (w ≡ u)). (t.0 ∙ one port v at, subst P t.1 now)) (λ (t : (j ≢ port) × (get_elem? views j ≡ some u)). absurd (t.0 (one j u t.1 ∙ sym (one port v at)))) (at_set views port j w u e)

module _ {T N : Type 0} (name : T → N) where
  abbrev Rule : List (Parcel T N) → List (PoolView N) → Type 0
  Rule = Pooled name

  all_append : (m : Option N) (xs ys : List (Parcel T N)) → AllOf name m xs → AllOf name m ys → AllOf name m (xs ++ ys)
  all_append m [] ys h k = k
  all_append m (x ∷ xs) ys h k = (h.0, all_append m xs ys h.1 k)

  all_left : (m : Option N) (xs ys : List (Parcel T N)) → AllOf name m (xs ++ ys) → AllOf name m xs
  all_left m [] ys h = tt
  all_left m (x ∷ xs) ys h = (h.0, all_left m xs ys h.1)

  all_right : (m : Option N) (xs ys : List (Parcel T N)) → AllOf name m (xs ++ ys) → AllOf name m ys
  all_right m [] ys h = h
  all_right m (x ∷ xs) ys h = all_right m xs ys h.1

  -- what holds at the stage and the name that one view has
  staged : (v : PoolView N) (items : List (Parcel T N)) (views : List (PoolView N)) (port : ℕ) → Rule items views → get_elem? views port ≡ some v → Each (IsAtStage v.stage v.name) views × Stands name v.stage v.name items views
  staged v items views port h at = let e = h.2 port v at in
      subst (λ (z : DequeStage × Option N). Each (IsAtStage z.0 z.1) views × Stands name z.0 z.1 items views) (λ i. (sym e.0 i, sym e.1 i)) (h.2, h.3)

  labels : (port k : ℕ) (n : N) → Pushes Rule port (at_stage Unnamed None k) (Label n ∷ []) (IsLabelled {T = T} (at_stage Unnamed None k) (Label n ∷ []))
  labels port k n items views h at = let s = staged (at_stage Unnamed None k) items views port h at in let w : PoolView N = at_stage Labelled (Some n) k in
      let one = set_single (IsAtStage Labelled (Some n)) views port (at_stage Unnamed None k) w at s.1.1 (refl, refl) in
      (w, (Labelled, Some n, (λ j v e. (one j v e).1), (n, ap (λ l. l ++ Label n ∷ []) s.1.0, refl, λ j v e. (one j v e).0)), (n, refl, refl))

  cons_append : (x y : Parcel T N) (xs items : List (Parcel T N)) → (x ∷ xs) ++ items ≡ y ∷ [] → items ≡ []
  cons_append x y [] [] e = refl
  cons_append x y [] (z ∷ zs) e = absurd (two-ne (length zs) (ap length e))
  cons_append x y (a ∷ xs) items e = absurd (two-ne (length (xs ++ items)) (ap length e))

  opens : (port k : ℕ) (m : Option N) → Takes Rule port (at_stage Labelled m k) 1 (IsPoolOpened (at_stage Labelled m k))
  opens port k m [] items views some_one at_most h at = absurd (omega arith)
  opens port k m (x ∷ xs) items views some_one at_most h at = let s = staged (at_stage Labelled m k) ((x ∷ xs) ++ items) views port h at in let w : PoolView N = at_stage Open m k in
      let one = set_single (IsAtStage Open m) views port (at_stage Labelled m k) w at s.1.3 (refl, refl) in
      (w, (Open, m, (λ j v e. (one j v e).1), subst (AllOf name m) (sym (cons_append x (Label s.1.0) xs items s.1.1)) tt), refl)

  opens_full : (port k : ℕ) (m : Option N) → Finds Rule port (at_stage Labelled m k) ⊥
  opens_full port k m views h at = let s = staged (at_stage Labelled m k) [] views port h at in absurd (one-ne 0 (ap length s.1.1))

  puts : (port k : ℕ) (m : Option N) (x : T) → m ≡ Some (name x) → Pushes Rule port (at_stage Open m k) (Item x ∷ []) (IsUnchanged (at_stage Open m k) (Item x ∷ []))
  puts port k m x is items views h at = let s = staged (at_stage Open m k) items views port h at in
      (at_stage Open m k, (Open, m, set_each (IsAtStage Open m) views port (at_stage Open m k) (refl, refl) s.0, all_append m items (Item x ∷ []) s.1 (is, tt)), refl)

  takes : (port k : ℕ) (m : Option N) → Takes Rule port (at_stage Open m k) 1 (IsTaken name (at_stage Open m k))
  takes port k m xs items views _ _ h at = let s = staged (at_stage Open m k) (xs ++ items) views port h at in let w : PoolView N = at_stage Open m (k + 1) in
      (w, (Open, m, set_each (IsAtStage Open m) views port w (refl, refl) s.0, all_right m xs items s.1), (refl, all_left m xs items s.1))

  forks : (port k : ℕ) (m : Option N) → Forks Rule port (at_stage Open m k) (at_stage Open m k) (at_stage Open m 0)
  forks port k m items views h at = let s = staged (at_stage Open m k) items views port h at in
      (Open, m, (λ j v e. ⊎_elim (set_each (IsAtStage Open m) views port (at_stage Open m k) (refl, refl) s.0 j v) (λ t. subst (IsAtStage Open m) t (refl, refl)) (at_snoc (set views port (at_stage Open m k)) (at_stage Open m 0) v j e)), s.1)

  -- the same of a view that is at a stage
  pub labels_at : (port k : ℕ) (v : PoolView N) (n : N) → v ≡ at_stage Unnamed None k → Pushes Rule port v (Label n ∷ []) (IsLabelled {T = T} v (Label n ∷ []))
  labels_at port k v n e = subst (λ (u : PoolView N). Pushes Rule port u (Label n ∷ []) (IsLabelled {T = T} u (Label n ∷ []))) (sym e) (labels port k n)

  pub opens_at : (port k : ℕ) (v : PoolView N) (m : Option N) → v ≡ at_stage Labelled m k → Takes Rule port v 1 (IsPoolOpened v)
  opens_at port k v m e = subst (λ (u : PoolView N). Takes Rule port u 1 (IsPoolOpened u)) (sym e) (opens port k m)

  pub opens_full_at : (port k : ℕ) (v : PoolView N) (m : Option N) → v ≡ at_stage Labelled m k → Finds Rule port v ⊥
  opens_full_at port k v m e = subst (λ (u : PoolView N). Finds Rule port u ⊥) (sym e) (opens_full port k m)

  pub puts_at : (port : ℕ) (v : PoolView N) (x : T) → v.stage ≡ Open → v.name ≡ Some (name x) → Pushes Rule port v (Item x ∷ []) (IsUnchanged v (Item x ∷ []))
  puts_at port v x stage named = subst (λ (u : PoolView N). Pushes Rule port u (Item x ∷ []) (IsUnchanged u (Item x ∷ []))) (λ i. record { stage = sym stage i; name = v.name; taken = v.taken }) (puts port v.taken v.name x named)

  pub takes_at : (port : ℕ) (v : PoolView N) → v.stage ≡ Open → Takes Rule port v 1 (IsTaken name v)
  takes_at port v stage = subst (λ (u : PoolView N). Takes Rule port u 1 (IsTaken name u)) (λ i. record { stage = sym stage i; name = v.name; taken = v.taken }) (takes port v.taken v.name)

  pub forks_at : (port : ℕ) (v : PoolView N) → v.stage ≡ Open → Forks Rule port v v (new_pass v)
  forks_at port v stage = subst (λ (u : PoolView N). Forks Rule port u u (new_pass u)) (λ i. record { stage = sym stage i; name = v.name; taken = v.taken }) (forks port v.taken v.name)

  abbrev name_in : N → List (Parcel T N) → N
  name_in d [] = d
  name_in d (Label n ∷ xs) = n
  name_in d (Item x ∷ xs) = d

  pub one_label : (a b : N) → ◌≡◌ {A = List (Parcel T N)} (Label a ∷ []) (Label b ∷ []) → a ≡ b
  one_label a b e = ap (name_in a) e

-- where one of a list is raised, so is the sum
pub raised : {X : Type 0} (f : X → ℕ) (xs : List X) (i n : ℕ) (y d : X) → i < length xs → f y ≡ f (slice_index_or xs i d) + n → sum_by f (slice_set xs i y) ≡ sum_by f xs + n
raised f xs i n y d below more = omega (arith, sum_by-set f xs i y d below, more)

-- where one of a list is as before, so is the sum
pub unraised : {X : Type 0} (f : X → ℕ) (xs : List X) (i : ℕ) (y d : X) → i < length xs → f y ≡ f (slice_index_or xs i d) → sum_by f (slice_set xs i y) ≡ sum_by f xs
unraised f xs i y d below same = omega (arith, sum_by-set f xs i y d below, same)
