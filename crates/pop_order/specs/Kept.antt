-- What is kept beside the frames, so that no call looks at all frames.
use Rattle.std.specs.Prelude.{◌≡◌, ℕ, ◌<◌, true, List}
use Rattle.std.specs.List.Sorted.{IsStrictlySortedBy}
use Rattle.std.specs.Ordering.{nat_cmp}
use Rattle.std.specs.Map.{keys_of}
use Rattle.swan_model.specs.declared.rights.Mode.{Mode}
use Rattle.swan_model.specs.declared.rights.Mode.TheVariants.{Push, Pop}
use Rattle.pop_order.specs.Frames.{Frames}
use Rattle.pop_order.specs.Order.{IsChild}
use Rattle.pop_order.specs.Turns.{IsHolder}
use Rattle.pop_order.specs.Children.{ChildEntry, has}
use Rattle.pop_order.specs.NumberPairs.{NumberPair, has_pair}

-- each frame's parent has a lower number
abbrev pub AreBelowParents : Frames → Type 0
AreBelowParents frames = (parent number : ℕ) → IsChild frames parent number → parent < number

-- a set has exactly the children that may use a queue by a mode
pub record HasHolders (frames : Frames) (mode : Mode) (queue : ℕ) (set : List ChildEntry) : Type 0 where
  pub holders : (parent child : ℕ) → has set parent queue child ≡ true → IsChild frames parent child × IsHolder frames queue mode child
  pub all : (parent child : ℕ) → IsChild frames parent child → IsHolder frames queue mode child → has set parent queue child ≡ true

-- The givers of a queue are exactly the frames that may not push to it and have a child that may.
pub record HasGivers (frames : Frames) (queue : ℕ) (pushers : List ChildEntry) (givers : List NumberPair) : Type 0 where
  pub gave : (number : ℕ) → has_pair givers queue number ≡ true → (child : ℕ) × (has pushers number queue child ≡ true)
  pub apart : (number : ℕ) → has_pair givers queue number ≡ true → ¬ IsHolder frames queue Push number
  pub all : (number child : ℕ) → has pushers number queue child ≡ true → ¬ IsHolder frames queue Push number → has_pair givers queue number ≡ true

-- what the sets have for a queue
pub record IsKeptFor (frames : Frames) (poppers pushers : List ChildEntry) (givers : List NumberPair) (queue : ℕ) : Type 0 where
  pub pops : HasHolders frames Pop queue poppers
  pub pushes : HasHolders frames Push queue pushers
  pub gives : HasGivers frames queue pushers givers

pub record IsKept (frames : Frames) (poppers pushers : List ChildEntry) (givers : List NumberPair) : Type 0 where
  pub sorted : IsStrictlySortedBy nat_cmp (keys_of frames)
  pub below : AreBelowParents frames
  pub sets : (queue : ℕ) → IsKeptFor frames poppers pushers givers queue
