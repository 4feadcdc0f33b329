-- What the laws of the elision and of scripts say: of a step, of the faults, of what a spawn gives, and of readings.
use Rattle.std.specs.Option.{option_map}
use Rattle.std.specs.Prelude.{◌≡◌, ℕ, ◌-◌, ◌<◌, ◌⊎◌, Option, Some, List, [], ◌∷◌, ◌++◌, length, map, IsTrue, IfSome, IsSomeAnd, AllPairs, slice_get}
use Rattle.swan_model.specs.declared.body.Ask.TheVariants.{Spawn}
use Rattle.swan_model.specs.declared.body.Body.{Ghosts}
use Rattle.swan_model.specs.declared.body.Child.{Child}
use Rattle.swan_model.specs.declared.fault.Fault.{Fault}
use Rattle.swan_model.specs.declared.origin.Origin.{Origin}
use Rattle.swan_model.specs.declared.origin.Origin.TheVariants.{Root, Step}
use Rattle.swan_model.specs.declared.rights.Give.{Give}
use Rattle.swan_model.specs.declared.rights.Mode.TheVariants.{Out, Push, Pop}
use Rattle.swan_model.specs.declared.rights.Mode.{Mode}
use Rattle.swan_model.specs.declared.script.Deed.TheVariants as deed
use Rattle.swan_model.specs.declared.script.OriginGive.{OriginGive}
use Rattle.swan_model.specs.declared.script.Script.{Script}
use Rattle.swan_model.specs.declared.value.Value.{Value}
use Rattle.swan_model.specs.Nested.{spawn_time}
use Rattle.swan_model.specs.PathOrder.{comes_before}
use Rattle.swan_model.specs.Script.{origin_at}
use Rattle.swan_model.specs.SerialState.{Holding, Activation, Cell, Queue, Store, State}
use Rattle.swan_model.specs.SerialStep.{number_at, with_failed}
use Rattle.swan_model.specs.SerialTime.{Progress, Reading, is_done, times}
use Rattle.swan_model.specs.Told.{deed_at}

-- what a give is in a script: the object or queue at its place, named by what made it, where the giver holds
-- it so, and the give's mode
abbrev pub named_give : Store → List Holding → Give → Option OriginGive
named_give store holdings give =
    option_map (λ origin. record { origin = origin; mode = give.mode }) (origin_at store holdings give.place give.mode)

module _ {B L : Type 0} (G : Ghosts B L) where
  -- One fault was booked: that of the top activation, where it stood in the program. The activation is gone. Its parent,
  -- where it has one, has one more failed child. All else of the activations below it stays, and so do all objects
  -- and queues.
  pub record EndsByFault (body : B) (before after : State L) : Type 0 where
    pub top : Activation L
    pub fault : Fault
    pub below : List (Activation L)
    pub ended : before.stack ≡ top ∷ below
    pub counted : after.stack ≡ with_failed below
    pub path : fault.path ≡ top.path
    pub place : fault.place ≡ G.place_of body top.local
    pub booked : after.faults ≡ before.faults ++ fault ∷ []
    pub store : after.store ≡ before.store

  -- The next step asks for a child, and to give it this. Each give of the ask is named by what made the
  -- object or queue that the top activation holds at its place.
  pub record AsksToGive (body : B) (s : State L) (gives : List OriginGive) : Type 0 where
    pub top : Activation L
    pub below : List (Activation L)
    pub stack : s.stack ≡ top ∷ below
    pub child : Child L
    pub asks : (G.next body top.local top.answer (top.fuel - 1)).1 ≡ Spawn child
    pub many : length gives ≡ length child.gives
    pub modes : map (λ give. give.mode) gives ≡ map (λ give. give.mode) child.gives
    pub named : map Some gives ≡ map (named_give s.store top.holdings) child.gives

  -- a step books no fault, or one that ends its task
  abbrev pub EndsWhereItFaults : B → State L → State L → Type 0
  EndsWhereItFaults body before after = (after.faults ≡ before.faults) ⊎ EndsByFault body before after

-- each fault comes before all that stand after it; so no task has two
abbrev pub AreInOrder : List Fault → Type 0
AreInOrder faults = AllPairs (λ earlier later. IsTrue (comes_before earlier.path later.path)) faults

-- who holds this may use the object or queue of this number by this mode, at some place
pub record HoldsToUse (holdings : List Holding) (mode : Mode) (number : ℕ) : Type 0 where
  pub place : ℕ
  pub held : number_at holdings place mode ≡ Some number

-- What a step may make of an object: it is of the same origin and kind, and has another value only
-- where the one that took the step may write it.
pub record IsCellAfter (holdings : List Holding) (number : ℕ) (before after : Cell) : Type 0 where
  pub origin : after.origin ≡ before.origin
  pub kind : after.kind ≡ before.kind
  pub value : (after.value ≡ before.value) ⊎ HoldsToUse holdings Out number

-- What a step may make of the items of a queue: nothing; or one item more at the end, by the right to
-- push; or without the first item, by the right to pop.
pub data AreItemsAfter (holdings : List Holding) (number : ℕ) (before after : List Value) : Type 0 where
  stayed : after ≡ before → AreItemsAfter holdings number before after
  pushed : HoldsToUse holdings Push number → (item : Value) → after ≡ before ++ item ∷ [] → AreItemsAfter holdings number before after
  popped : HoldsToUse holdings Pop number → (item : Value) → before ≡ item ∷ after → AreItemsAfter holdings number before after

pub record IsQueueAfter (holdings : List Holding) (number : ℕ) (before after : Queue) : Type 0 where
  pub origin : after.origin ≡ before.origin
  pub items : AreItemsAfter holdings number before.items after.items

-- what stood at each index stands there still, as something that this may have become
abbrev pub EachStill : {A : Type 0} → (ℕ → A → A → Type 0) → List A → List A → Type 0
EachStill IsAfter before after =
    (i : ℕ) → IfSome (slice_get before i) (λ x. IsSomeAnd (slice_get after i) (IsAfter i x))

-- what one who holds this may make of a store in one step
pub record RightsBind (holdings : List Holding) (before after : Store) : Type 0 where
  pub cells : EachStill (IsCellAfter holdings) before.cells after.cells
  pub queues : EachStill (IsQueueAfter holdings) before.queues after.queues

-- what the one whose step is next holds
abbrev pub top_holdings : {L : Type 0} → List (Activation L) → List Holding
top_holdings [] = []
top_holdings (top ∷ below) = top.holdings

-- each of these is a frame of the reading
pub record AreFramesOf (r : Reading) (frames : List Progress) : Type 0 where
  pub each : (i : ℕ) (frame : Progress) → slice_get frames i ≡ Some frame → (j : ℕ) × (slice_get r.frames j ≡ Some frame)

-- These are the frames of the reading that have an entry left, and maybe some that have ended, each of another
-- number. The reading has the root, and each child whose spawn is done.
pub record HasActive (s : Script) (r : Reading) (active : List Progress) : Type 0 where
  pub frames : AreFramesOf r active
  pub left : (i : ℕ) (frame : Progress) → slice_get r.frames i ≡ Some frame → frame.done < length (times s frame.path)
      → (j : ℕ) × (slice_get active j ≡ Some frame)
  pub numbers : (i j : ℕ) (frame other : Progress) → slice_get active i ≡ Some frame → slice_get active j ≡ Some other
      → frame.number ≡ other.number → frame ≡ other
  pub root : (i : ℕ) × (frame : Progress) × (slice_get r.frames i ≡ Some frame) × (frame.path ≡ [])
  pub children : (path : List ℕ) (child spawn : ℕ) → spawn_time s path child ≡ Some spawn → IsTrue (is_done s r spawn)
      → (i : ℕ) × (frame : Progress) × (slice_get r.frames i ≡ Some frame) × (frame.path ≡ path ++ child ∷ [])

-- this made a queue of the script, which is one of the plan's, or one that a step made
abbrev pub IsQueueOf : Script → Origin → Type 0
IsQueueOf s (Root i) = i < length s.queues
IsQueueOf s (Step n) = deed_at s n ≡ deed.MakeQueue

-- and an object
abbrev pub IsObjectOf : Script → Origin → Type 0
IsObjectOf s (Root i) = i < length s.objects
IsObjectOf s (Step n) = (first : Value) × (deed_at s n ≡ deed.MakeObject first)

-- each of these is such an origin, and none stands twice
pub record AreEachOnce (IsOne : Origin → Type 0) (origins : List Origin) : Type 0 where
  pub each : (i : ℕ) (origin : Origin) → slice_get origins i ≡ Some origin → IsOne origin
  pub once : (i j : ℕ) (origin : Origin) → slice_get origins i ≡ Some origin → slice_get origins j ≡ Some origin → i ≡ j
