-- What holds of hyperqueues in plain form.
use Rattle.std.specs.Prelude.{◌≡◌, ℕ, ◌<◌, true, false, Option, Some, List, [], length, slice_get}
use Rattle.slab.specs.Slab.{Slab}
use Rattle.pop_order.specs.Frames.{Frames}
use Rattle.swan_model.specs.declared.script.Script.{Script}
use Rattle.swan_model.specs.Lawful.{IsLawful}
use Rattle.swan_model.specs.QueueFollows.{QueuesFollow, origin_in}
use Rattle.swan_model.specs.QueueState.{QueueMaker, QueueState}
use Rattle.swan_model.specs.Readings.{end_time}
use Rattle.queues.specs.Asks.{is_emptied}
use Rattle.queues.specs.Chunks.{Chunks, HasOwners, Matches}
use Rattle.queue_book.specs.Chains.{Link, AreChained}
use Rattle.queue_book.specs.Live.{AreLive, key_at}
use Rattle.queues.specs.Tree.{SpawnersHaveTurns, IsTree, maker_path, IsInUse}
use Rattle.queues.specs.Turned.{AreTurns}
use Rattle.queue_book.specs.declared.live_frames.LiveFrames.{LiveFrames}

-- The chunks of a queue have their owners, and match the script, until the queue is given up or its rest is taken.
pub record IsLine (name : Option Script) (state : QueueState) (queue : ℕ) (maker : QueueMaker) (chunks : Chunks) : Type 0 where
  pub owners : HasOwners state queue chunks
  pub matches : is_emptied state queue ≡ false → IsInUse state queue maker → (s : Script) → name ≡ Some s → IsLawful s
      → Matches s state queue (origin_in s maker) (end_time s (maker_path maker)) chunks
  pub emptied : is_emptied state queue ≡ true → chunks ≡ []

-- the frames and the chunks, whatever they are kept in
pub record IsPlain (name : Option Script) (state : QueueState) (lines : ℕ → Chunks) : Type 0 where
  pub tree : IsTree state
  pub follows : (s : Script) → name ≡ Some s → IsLawful s → QueuesFollow s state
  pub spawners : (s : Script) → name ≡ Some s → SpawnersHaveTurns state
  pub queues : (queue : ℕ) (maker : QueueMaker) → slice_get state.makers queue ≡ Some maker → IsLine name state queue maker (lines queue)
  -- no rest was taken of a queue that isn't made yet
  pub rests : (queue : ℕ) → is_emptied state queue ≡ true → queue < length state.makers

-- they are kept in these frames, chains and turns
pub record IsBook (name : Option Script) (state : QueueState) (frames : LiveFrames) (heads : List (Option ℕ)) (nodes : Slab Link) (turns : Frames) : Type 0 where
  pub lines : ℕ → Chunks
  pub plain : IsPlain name state lines
  pub live : AreLive state frames
  pub count : length heads ≡ length state.makers
  pub chained : AreChained (key_at frames) heads nodes lines
  pub turned : AreTurns state turns
