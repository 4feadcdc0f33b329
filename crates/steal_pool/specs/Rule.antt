-- What holds of a deque of a pool between any two steps, and what each step tells. A rule of a deque can't be told a name that
-- is known only when it runs, so a deque learns its name from its first parcel, a label. It is Unnamed before the label is put,
-- Labelled while it is there, and Open from then on: then each frame in the deque has the name.
use Rattle.std.specs.Prelude.{◌≡◌, ℕ, ◌+◌, List, [], ◌∷◌, Option, Some}
use mathlib.Core.Option.{some}
use lib.ListN.{get_elem?}
use Rattle.steal_pool.specs.declared.parcel.Parcel.{Parcel}
use Rattle.steal_pool.specs.declared.parcel.Parcel.TheVariants.{Label, Item}
use Rattle.steal_pool.specs.declared.rule.PoolView.{PoolView}
use Rattle.steal_pool.specs.declared.rule.DequeStage.{DequeStage}
use Rattle.steal_pool.specs.declared.rule.DequeStage.TheVariants.{Unnamed, Labelled, Open}

module _ {N : Type 0} where
  abbrev pub at_stage : DequeStage → Option N → ℕ → PoolView N
  at_stage stage name taken = record { stage = stage; name = name; taken = taken }

  -- what the pass of another seat knows at first
  abbrev pub new_pass : PoolView N → PoolView N
  new_pass v = record v { taken = 0 }

  -- after one frame more has left by the steps of this pass
  abbrev pub one_more : PoolView N → PoolView N
  one_more v = record v { taken = v.taken + 1 }

  abbrev pub IsAtStage : DequeStage → Option N → PoolView N → Type 0
  IsAtStage stage name v = (v.stage ≡ stage) × (v.name ≡ name)

  -- the worker's own is the only view
  abbrev pub Single : List (PoolView N) → Type 0
  Single views = (j : ℕ) (v : PoolView N) → get_elem? views j ≡ some v → j ≡ 0

module _ {T N : Type 0} (name : T → N) where
  -- it is a frame, and has this name
  abbrev pub HasName : Option N → Parcel T N → Type 0
  HasName m (Label n) = ⊥
  HasName m (Item x) = m ≡ Some (name x)

  abbrev pub AllOf : Option N → List (Parcel T N) → Type 0
  AllOf m [] = Unit {0}
  AllOf m (x ∷ xs) = HasName m x × AllOf m xs

  -- what is in a deque at a stage
  abbrev pub Stands : DequeStage → Option N → List (Parcel T N) → List (PoolView N) → Type 0
  Stands Unnamed m items views = (items ≡ []) × Single views
  Stands Labelled m items views = (n : N) × (items ≡ Label n ∷ []) × (m ≡ Some n) × Single views
  Stands Open m items views = AllOf m items

  -- all views are at one stage, and know one name
  abbrev pub Pooled : List (Parcel T N) → List (PoolView N) → Type 0
  Pooled items views = (k : DequeStage) × (m : Option N) × ((j : ℕ) (v : PoolView N) → get_elem? views j ≡ some v → IsAtStage k m v) × Stands k m items views

  abbrev pub IsTaken : PoolView N → List (Parcel T N) → PoolView N → Type 0
  IsTaken v xs w = (w ≡ one_more v) × AllOf v.name xs

  -- what a look tells, where an empty deque tells this
  abbrev pub IsSeen : (PoolView N → Type 0) → PoolView N → List (Parcel T N) → Type 0
  IsSeen empty v [] = empty v
  IsSeen empty v (x ∷ xs) = HasName v.name x

module _ {T N : Type 0} where
  abbrev pub IsLabelled : PoolView N → List (Parcel T N) → PoolView N → Type 0
  IsLabelled v xs w = (n : N) × (xs ≡ Label n ∷ []) × (w ≡ record v { stage = Labelled; name = Some n })

  abbrev pub IsPoolOpened : PoolView N → List (Parcel T N) → PoolView N → Type 0
  IsPoolOpened v xs w = w ≡ record v { stage = Open }

  abbrev pub IsUnchanged : PoolView N → List (Parcel T N) → PoolView N → Type 0
  IsUnchanged v xs w = w ≡ v
