-- What is known on the way to the first earlier pusher: down from each giver, and up from two frames to where
-- their ways meet.
use Rattle.std.specs.Prelude.{◌≡◌, ◌≢◌, ℕ, Bool, true, false, nat_lt, Option, None, Some, List}
use Rattle.swan_model.specs.declared.rights.Mode.TheVariants.{Push}
use Rattle.pop_order.specs.Children.{ChildEntry, has}
use Rattle.pop_order.specs.Frames.{Frames}
use Rattle.pop_order.specs.Order.{ComesBefore}
use Rattle.pop_order.specs.Turns.{IsHolder, IsEarlierPusher}

-- A top leads to a number where the number is its own, or the set has it as a child of one to which the top leads.
pub data IsLed (set : List ChildEntry) (queue top : ℕ) : ℕ → Type 0 where
  here : IsLed set queue top top
  further : (parent number : ℕ) → has set parent queue number ≡ true → IsLed set queue top parent → IsLed set queue top number

-- the first, in serial order, of the pushers that a giver leads to
pub record IsFirstUnder (frames : Frames) (set : List ChildEntry) (queue giver number : ℕ) : Type 0 where
  pub pushes : IsHolder frames queue Push number
  pub first : (other : ℕ) → IsLed set queue giver other → other ≢ giver → other ≢ number → ComesBefore frames number other

-- What is found among some pushers: the first, in serial order, of those that come before a frame.
abbrev pub IsFirstOf : Frames → ℕ → ℕ → (ℕ → Type 0) → Option ℕ → Type 0
IsFirstOf frames queue frame Picks None = (other : ℕ) → Picks other → ¬ ComesBefore frames other frame
IsFirstOf frames queue frame Picks (Some number) =
    IsEarlierPusher frames frame queue number
    × ((other : ℕ) → Picks other → other ≢ number → ComesBefore frames other frame → ComesBefore frames number other)

-- What is found among all: the first earlier pusher.
abbrev pub IsFirstEarlier : Frames → ℕ → ℕ → Option ℕ → Type 0
IsFirstEarlier frames queue frame None = (other : ℕ) → ¬ IsEarlierPusher frames frame queue other
IsFirstEarlier frames queue frame (Some number) =
    IsEarlierPusher frames frame queue number
    × ((other : ℕ) → other ≢ number → IsEarlierPusher frames frame queue other → ComesBefore frames number other)

-- Which is kept of a frame found before and one found now: the one that comes first, of those that come before
-- a frame.
pub data IsSooner (frames : Frames) (frame : ℕ) (found : Option ℕ) (number : ℕ) (kept : Option ℕ) : Type 0 where
  late : ¬ ComesBefore frames number frame → kept ≡ found → IsSooner frames frame found number kept
  second : (first : ℕ) → ComesBefore frames number frame → found ≡ Some first → ComesBefore frames first number → kept ≡ found
      → IsSooner frames frame found number kept
  taken : ComesBefore frames number frame → ((first : ℕ) → found ≡ Some first → ¬ ComesBefore frames first number) → kept ≡ Some number
      → IsSooner frames frame found number kept

-- Which of two frames comes first where their ways up meet, by the child of the meeting frame through which
-- each way came (None for the frame at which they meet): the one below it, and of two below it the one below
-- the older child.
abbrev pub is_older : Option ℕ → Option ℕ → Bool
is_older None right = false
is_older (Some left) None = true
is_older (Some left) (Some right) = nat_lt left right
