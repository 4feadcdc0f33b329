-- The record that a core keeps of its live frames.
use Rattle.std.specs.Prelude.{◌≡◌, ℕ, ◌+◌, ◌<◌, ◌≤◌, true, Option, Some, None, List, [], ◌∷◌, ◌++◌}
use Rattle.std.specs.BTreeMap.{is_at}
use Rattle.std.specs.Map.{lookup, set_value}
use Rattle.std.specs.Option.{option_map}
use Rattle.std.specs.Ordering.{nat_cmp}
use Rattle.swan_model.specs.SerialState.{Holding}
use Rattle.swan_model.specs.Values.{COUNT_MOST}
use Rattle.pop_order.specs.OneChange.{IsOnlyChange}
use Rattle.pop_order.specs.NumberPairs.{NumberPair, has_pair}

-- a live frame, as the core last gave it
pub record LiveFrame : Type 0 where
  -- the frame that spawned it; none for the root
  pub parent : Option ℕ
  pub path : List ℕ
  -- how many of its task's steps were done
  pub done : ℕ
  -- what it held, by place, with the run's numbers of queues and objects
  pub holdings : List Holding
  -- how many of its children ended by a fault since its last Sync, or since it began
  pub failed : ℕ

-- such a frame, as it is given with so many steps done, and with one place more
abbrev pub come_to : ℕ → LiveFrame → LiveFrame
come_to done frame = record frame { done = done }

abbrev pub holding_too : Holding → LiveFrame → LiveFrame
holding_too holding frame = record frame { holdings = frame.holdings ++ holding ∷ [] }

-- once one more of its children failed, and once it has taken a Sync, with so many steps done
abbrev pub with_failed_child : LiveFrame → LiveFrame
with_failed_child frame = record frame { failed = frame.failed + 1 }

abbrev pub synced_at : ℕ → LiveFrame → LiveFrame
synced_at done frame = record frame { done = done; failed = 0 }

-- what was given of it: all but its failed children, which the core counts by itself
abbrev pub as_given : LiveFrame → LiveFrame
as_given frame = record frame { failed = 0 }

-- each behind its number
abbrev pub NumberedFrames : Type 0
NumberedFrames = List (ℕ × LiveFrame)

abbrev pub live_at : NumberedFrames → ℕ → Option LiveFrame
live_at frames number = lookup (is_at (nat_cmp number)) frames

-- the frame that was entered last, where it is live, before the others
abbrev pub with_newest : (number : ℕ) → Option LiveFrame → NumberedFrames → NumberedFrames
with_newest number None older = older
with_newest number (Some frame) older = (number, frame) ∷ older

-- the record, once the frame at a number is given with so many steps done; it is the same where there is none
abbrev pub come_at : NumberedFrames → (number done : ℕ) → Option LiveFrame → NumberedFrames
come_at frames number done None = frames
come_at frames number done (Some frame) = set_value (is_at (nat_cmp number)) frames (come_to done frame)

-- the record has this at this number afterwards, and is the same at each other one
abbrev pub IsOnlyLive : (before after : NumberedFrames) (number : ℕ) → Option LiveFrame → Type 0
IsOnlyLive before after number frame = IsOnlyChange (live_at before) (live_at after) number frame

-- The frame above one that failed has one more failed child, and all others are as before. The root has none above it.
abbrev pub HasOneFailed : (before after : NumberedFrames) → (parent : Option ℕ) → Type 0
HasOneFailed before after None = after ≡ before
HasOneFailed before after (Some parent) = IsOnlyLive before after parent (option_map with_failed_child (live_at before parent))

-- that frame is there, and one more can be counted
abbrev pub HasRoomForOne : NumberedFrames → (parent : Option ℕ) → Type 0
HasRoomForOne frames None = Unit {0}
HasRoomForOne frames (Some parent) = (frame : LiveFrame) × (live_at frames parent ≡ Some frame) × (frame.failed < COUNT_MOST)

-- each frame was given so before and after, whatever failed meanwhile
abbrev pub AreGivenSo : (before after : NumberedFrames) → Type 0
AreGivenSo before after = (number : ℕ) → option_map as_given (live_at after number) ≡ option_map as_given (live_at before number)

-- a live child of a frame
pub record IsLiveChild (frames : NumberedFrames) (parent number : ℕ) : Type 0 where
  pub frame : LiveFrame
  pub live : live_at frames number ≡ Some frame
  pub of : frame.parent ≡ Some parent

-- no live frame is a child of it
abbrev pub HasNoLiveChild : NumberedFrames → ℕ → Type 0
HasNoLiveChild frames parent = (number : ℕ) → ¬ IsLiveChild frames parent number

-- the oldest of them, which is the one of the least number
pub record IsOldestChild (frames : NumberedFrames) (parent number : ℕ) : Type 0 where
  pub child : IsLiveChild frames parent number
  pub least : (other : ℕ) → IsLiveChild frames parent other → number ≤ other

-- A set of pairs has exactly the frames that have a parent, each behind it.
pub record HasChildren (frames : NumberedFrames) (pairs : List NumberPair) : Type 0 where
  pub known : (parent number : ℕ) → has_pair pairs parent number ≡ true → IsLiveChild frames parent number
  pub all : (parent number : ℕ) → IsLiveChild frames parent number → has_pair pairs parent number ≡ true
