-- What the hyperqueues of a run keep of its frames, as contracts see it, and what each call makes of it. Which
-- items they hold isn't part of it: what a call answers is told by the script, at the frame's point.
-- It stands for every name of a run, the free one too. A run out of order makes calls for the deeds of queues
-- alone, so how far a frame has come counts those deeds alone.
use Rattle.std.specs.Prelude.{◌≡◌, ℕ, ◌+◌, ◌<◌, ◌&&◌, ◌==◌, not, Bool, true, false, Option, Some, None, List, [], ◌∷◌, ◌++◌, length, map, filter, find, if◌then◌else◌}
use Rattle.std.specs.List.{list_any}
use Rattle.swan_model.specs.declared.rights.Mode.{Mode}
use Rattle.swan_model.specs.declared.rights.Mode.TheVariants.{Push, Pop, PushPop}
use Rattle.swan_model.specs.PathOrder.{comes_before}
use Rattle.swan_model.specs.Rights.{allows, is_queue_mode}

-- How many queues and objects a run may make, how many children a frame may spawn, and how many places it may have: their
-- numbers have 32 bits.
abbrev pub QUEUES_MOST : ℕ
QUEUES_MOST = 4294967295

abbrev pub OBJECTS_MOST : ℕ
OBJECTS_MOST = 4294967295

abbrev pub CHILDREN_MOST : ℕ
CHILDREN_MOST = 4294967295

abbrev pub PLACES_MOST : ℕ
PLACES_MOST = 4294967295

-- the queue of this number, held by this mode
pub record QueueRight : Type 0 where
  pub queue : ℕ
  pub mode : Mode

-- What made a queue: the plan, where it is the root queue of this index; or the queue deed of the frame with this path
-- that has so many earlier ones.
pub data QueueMaker : Type 0 where
  planned : ℕ → QueueMaker
  made_by : (path : List ℕ) → (deeds : ℕ) → QueueMaker

-- What made a segment of a queue: what made the queue, where it is the first one; or else a push, which is the queue deed of
-- the frame with this path that has so many earlier ones.
pub data SegmentTag : Type 0 where
  first_of : QueueMaker → SegmentTag
  pushed_by : (path : List ℕ) → (deeds : ℕ) → SegmentTag

-- An end that is lent to a running frame, to push to a segment of a queue or to pop from it.
pub record LentEnd : Type 0 where
  pub queue : ℕ
  -- the number that the hyperqueues have for the segment
  pub key : ℕ
  -- which segment it is, in the words of a script
  pub tag : SegmentTag
  pub is_producer : Bool

-- what was recorded when a frame's ends were lent
pub record Lent : Type 0 where
  -- its queue deeds by then
  pub deeds : ℕ
  pub ends : List LentEnd

-- a frame that was spawned and hasn't finished
pub record ActiveFrame : Type 0 where
  pub number : ℕ
  pub parent : Option ℕ
  pub path : List ℕ
  -- how many children it has spawned
  pub children : ℕ
  -- how many queue deeds it has done
  pub deeds : ℕ
  pub rights : List QueueRight
  -- where its ends are lent
  pub lent : Option Lent

pub record QueueState : Type 0 where
  -- in the order of their spawning, the root first
  pub frames : List ActiveFrame
  -- what made each queue, by the queue's number
  pub makers : List QueueMaker
  -- the largest number of a frame so far
  pub latest : ℕ
  -- the queues whose rest was taken
  pub emptied : List ℕ

abbrev pub root_frame : ActiveFrame
root_frame = record { number = 0; parent = None; path = []; children = 0; deeds = 0; rights = []; lent = None }

-- before the first call the root is live and holds nothing
abbrev pub new_state : QueueState
new_state = record { frames = root_frame ∷ []; makers = []; latest = 0; emptied = [] }

-- the active frame of a number
abbrev pub active : QueueState → ℕ → Option ActiveFrame
active state number = find (λ frame. frame.number == number) state.frames

abbrev pub frame_after_change : ℕ → (ActiveFrame → ActiveFrame) → ActiveFrame → ActiveFrame
frame_after_change number change frame = if frame.number == number then change frame else frame

-- the frame of this number changed so
abbrev pub changing : QueueState → ℕ → (ActiveFrame → ActiveFrame) → QueueState
changing state number change = record state { frames = map (frame_after_change number change) state.frames }

-- whether a frame may use a queue by this mode
abbrev pub holds_queue : ActiveFrame → ℕ → Mode → Bool
holds_queue frame queue mode = list_any (λ right. (right.queue == queue) && allows right.mode mode) frame.rights

-- the frame with both rights on a queue that it made
abbrev pub with_made : ℕ → ActiveFrame → ActiveFrame
with_made queue frame =
    record frame { rights = frame.rights ++ (record { queue = queue; mode = PushPop }) ∷ [] }

abbrev pub with_deed : ActiveFrame → ActiveFrame
with_deed frame = record frame { deeds = frame.deeds + 1 }

-- A root queue is made by no deed, and the root holds it.
abbrev pub after_create_root : QueueState → QueueState
after_create_root state =
    let queue = length state.makers in
    record (changing state 0 (with_made queue)) { makers = state.makers ++ planned queue ∷ [] }

-- a queue that an active frame makes by its next queue deed
abbrev pub after_create : QueueState → ActiveFrame → QueueState
after_create state frame =
    let queue = length state.makers in
    record (changing state frame.number (λ f. with_deed (with_made queue f))) { makers = state.makers ++ made_by frame.path frame.deeds ∷ [] }

abbrev pub child_of : ActiveFrame → ℕ → List QueueRight → ActiveFrame
child_of parent number gives = record {
  number = number;
  parent = Some parent.number;
  path = parent.path ++ parent.children ∷ [];
  children = 0;
  deeds = 0;
  rights = gives;
  lent = None;
}

-- a child of this number, which an active frame spawns and gives these queues
abbrev pub after_spawn : QueueState → ActiveFrame → ℕ → List QueueRight → QueueState
after_spawn state parent child gives =
    let one_more : ActiveFrame → ActiveFrame = λ f. with_deed (record f { children = f.children + 1 }) in
    record (changing state parent.number one_more) {
      frames = map (frame_after_change parent.number one_more) state.frames ++ child_of parent child gives ∷ [];
      latest = child;
    }

-- after a push, a pop or a test that was answered
abbrev pub after_deed : QueueState → ℕ → QueueState
after_deed state number = changing state number with_deed

abbrev pub after_lend : QueueState → ActiveFrame → List LentEnd → QueueState
after_lend state frame ends = changing state frame.number (λ f. record f { lent = Some (record { deeds = frame.deeds; ends = ends }) })

-- after ends came back, with which their frame has done so many queue deeds
abbrev pub after_back : QueueState → ℕ → ℕ → QueueState
after_back state number deeds = changing state number (λ f. record f { deeds = deeds; lent = None })

abbrev pub after_finish : QueueState → ℕ → QueueState
after_finish state number = record state { frames = filter (λ frame. not (frame.number == number)) state.frames }

abbrev pub after_take_rest : QueueState → ℕ → QueueState
after_take_rest state queue = record state { emptied = state.emptied ++ queue ∷ [] }

-- ---- what the calls ask for

-- no deed of queues was done, so none but root queues are made
pub record IsUntouched (state : QueueState) : Type 0 where
  pub root : ActiveFrame
  pub live : active state 0 ≡ Some root
  pub deeds : root.deeds ≡ 0
  pub children : root.children ≡ 0
  pub back : root.lent ≡ None

-- an active child of a frame
pub record IsActiveChild (state : QueueState) (parent number : ℕ) : Type 0 where
  pub frame : ActiveFrame
  pub live : active state number ≡ Some frame
  pub of : frame.parent ≡ Some parent

-- an older sibling of a frame that pops a queue which the frame pops
pub record IsOlderPopper (state : QueueState) (frame : ActiveFrame) (number : ℕ) : Type 0 where
  pub older : ActiveFrame
  pub live : active state number ≡ Some older
  pub parent : ℕ
  pub of : frame.parent ≡ Some parent
  pub sibling : older.parent ≡ Some parent
  pub before : number < frame.number
  pub queue : ℕ
  pub pops : holds_queue frame queue Pop ≡ true
  pub pops_too : holds_queue older queue Pop ≡ true

-- a frame has its turn to pop: it has no older sibling that pops what it pops
abbrev pub HasTurn : QueueState → ActiveFrame → Type 0
HasTurn state frame = (older : ℕ) → ¬ IsOlderPopper state frame older

-- a frame that may act: it is active, and its ends are back
pub record MayAct (state : QueueState) (number : ℕ) (frame : ActiveFrame) : Type 0 where
  pub live : active state number ≡ Some frame
  pub back : frame.lent ≡ None

-- each give is of a queue that the frame holds so, and no queue stands twice
abbrev pub MayGive : ActiveFrame → List QueueRight → Type 0
MayGive frame [] = Unit {0}
MayGive frame (give ∷ gives) =
    (holds_queue frame give.queue give.mode ≡ true) × (is_queue_mode give.mode ≡ true)
    × (list_any (λ other. other.queue == give.queue) gives ≡ false) × MayGive frame gives

-- the root made the queue, as the plan or by a step of its own
abbrev pub IsOfRoot : Option QueueMaker → Type 0
IsOfRoot None = ⊥
IsOfRoot (Some (planned index)) = Unit {0}
IsOfRoot (Some (made_by path deeds)) = path ≡ []

-- ---- what a frame has to wait for

-- an active child of a frame that may pop a queue
pub record IsPoppingChild (state : QueueState) (parent queue number : ℕ) : Type 0 where
  pub frame : ActiveFrame
  pub live : active state number ≡ Some frame
  pub of : frame.parent ≡ Some parent
  pub pops : holds_queue frame queue Pop ≡ true

-- an active frame that comes before another in serial order and may push to a queue
pub record IsEarlierPusher (state : QueueState) (frame : ActiveFrame) (queue number : ℕ) : Type 0 where
  pub other : ActiveFrame
  pub live : active state number ≡ Some other
  pub earlier : comes_before other.path frame.path ≡ true
  pub pushes : holds_queue other queue Push ≡ true
