-- The frames whose turns are kept, as plain data. A frame is one task of a run, and has a number; the
-- numbers rise in the order of spawning.
use Rattle.std.specs.Prelude.{ℕ, Bool, true, false, ◌&&◌, ◌==◌, nat_le, not, Option, None, Some, List, [], ◌∷◌, ◌++◌, IsTrue}
use Rattle.std.specs.List.{list_any, list_all}
use Rattle.std.specs.Map.{lookup, set_value, remove_entry}
use Rattle.std.specs.BTreeMap.{is_at, insert_entry}
use Rattle.std.specs.Ordering.{nat_cmp}
use Rattle.swan_model.specs.Rights.{allows}
use Rattle.swan_model.specs.SerialState.{Holding}
use Rattle.swan_model.specs.declared.rights.Mode.{Mode}

-- an active frame that was given queues
pub record TurnFrame : Type 0 where
  -- the frame that spawned it
  pub parent : ℕ
  -- the queues that it was given, each with how it may use it, in the order of `enlist`
  pub holdings : List Holding
  -- whether the queue views of its popped queues were moved to it
  pub lent : Bool

-- The active frames that were given queues, each behind its number, by rising numbers. The parents make
-- trees of them. A parent that isn't here itself is the top of its tree.
abbrev pub Frames : Type 0
Frames = List (ℕ × TurnFrame)

-- the active frame of a number
abbrev pub frame_at : Frames → ℕ → Option TurnFrame
frame_at frames number = lookup (is_at (nat_cmp number)) frames

-- whether one of the holdings lets use a queue by a mode
abbrev pub lets_use : List Holding → ℕ → Mode → Bool
lets_use holdings queue mode = list_any (λ h. (h.number == queue) && allows h.mode mode) holdings

abbrev pub frames_after_enlist_at : Frames → ℕ → ℕ → Holding → Option TurnFrame → Frames
frames_after_enlist_at frames parent child holding None =
    insert_entry nat_cmp frames child (record { parent = parent; holdings = holding ∷ []; lent = false })
frames_after_enlist_at frames parent child holding (Some frame) =
    set_value (is_at (nat_cmp child)) frames (record frame { holdings = frame.holdings ++ holding ∷ [] })

-- the frames after a child of a parent was given a queue: a new one, or one with a queue more
abbrev pub frames_after_enlist : Frames → ℕ → ℕ → Holding → Frames
frames_after_enlist frames parent child holding = frames_after_enlist_at frames parent child holding (frame_at frames child)

abbrev pub frames_after_lend_at : Frames → ℕ → Option TurnFrame → Frames
frames_after_lend_at frames child None = frames
frames_after_lend_at frames child (Some frame) = set_value (is_at (nat_cmp child)) frames (record frame { lent = true })

-- the frames after the queue views of a child's popped queues were moved to it
abbrev pub frames_after_lend : Frames → ℕ → Frames
frames_after_lend frames child = frames_after_lend_at frames child (frame_at frames child)

-- the frames without a child
abbrev pub without : Frames → ℕ → Frames
without frames child = remove_entry (is_at (nat_cmp child)) frames

-- no number of a frame is past this one
abbrev pub AreUpTo : Frames → ℕ → Type 0
AreUpTo frames number = IsTrue (list_all (λ f. nat_le f.0 number) frames)

-- no frame has this parent
abbrev pub HasNoChild : Frames → ℕ → Type 0
HasNoChild frames parent = IsTrue (list_all (λ f. not (f.1.parent == parent)) frames)

abbrev pub may_get : Option TurnFrame → ℕ → ℕ → Bool
may_get None parent queue = true
may_get (Some frame) parent queue =
    (frame.parent == parent) && (not frame.lent && not (list_any (λ h. h.number == queue) frame.holdings))

-- a child that is there already has this parent, doesn't have the queue, and wasn't lent to
abbrev pub MayBeEnlisted : Frames → ℕ → ℕ → ℕ → Type 0
MayBeEnlisted frames parent child queue = IsTrue (may_get (frame_at frames child) parent queue)
