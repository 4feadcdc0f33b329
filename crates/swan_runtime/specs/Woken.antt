-- Whom a frame wakes that is tried by the core, and with whom its worker goes on.
use Rattle.std.specs.Prelude.{◌≡◌, ℕ, ◌+◌, ◌++◌, Option, Some, None, List, IfSome, length, option_to_list}
use Rattle.swan_model.specs.declared.body.Body.{Ghosts}
use Rattle.task_frames.specs.declared.resumed.Resumed.{Resumed}
use Rattle.task_frames.specs.declared.resumed.Resumed.TheVariants as resumed
use Rattle.task_frames.specs.Asked.{asked_queue}
use Rattle.task_frames.specs.Cores.{CoreView}
use Rattle.task_frames.specs.Frames.{FrameView}
use Rattle.task_frames.specs.Resumes.{EndsOf, IsResumed}
use Rattle.swan_runtime.specs.Beds.{AreOnlySleepers, HasEntered, HasGoneToBed, NoneAwaits, OnlyWoke, bed_of}
use Rattle.swan_runtime.specs.Shared.{IsOnTop, sleeper_count, sleepers_at}
use Rattle.swan_runtime.specs.declared.asleep.Asleep.{Asleep}

module _ {B Q L E : Type 0} (frame : FrameView B L E) (before after : Asleep B Q L E) (were_ready are_ready : List (FrameView B L E)) (next : Option (FrameView B L E)) where
  -- What the core's answer to this frame makes of those that sleep. After a step that leaves it alone nobody sleeps under it any more until it
  -- pushes to the queue that it asked about; and after its first step nobody does until it pushes at all. After a spawn its child has come in,
  -- and it is ready itself. After its end all are awake that slept under it. And where it has to wait it sleeps itself. Who sleeps no more is ready:
  -- none is lost.
  abbrev pub HasWoken : Resumed B Q L E → Type 0
  HasWoken (resumed.Runs same steps) =
      IfSome (asked_queue frame) (λ queue. NoneAwaits queue (sleepers_at after frame.task.number))
      × (frame.task.done ≡ 0 → (queue : ℕ) → NoneAwaits queue (sleepers_at after frame.task.number))
      × OnlyWoke frame.task.number before after × (next ≡ Some same)
      × (length are_ready + sleeper_count (sleepers_at after frame.task.number) ≡ length were_ready + sleeper_count (sleepers_at before frame.task.number))
  HasWoken (resumed.Spawned parent child steps) =
      HasEntered before after frame.task.number child.task.number child.task.holdings × IsOnTop parent are_ready × (next ≡ Some child)
      × (length are_ready + sleeper_count (sleepers_at after frame.task.number) ≡ length were_ready + sleeper_count (sleepers_at before frame.task.number) + 1)
  HasWoken (resumed.Waits same waited) = HasGoneToBed (bed_of before frame.task.number waited.wait) before after were_ready (are_ready ++ option_to_list next) same waited.wait
  HasWoken (resumed.Ended steps) =
      AreOnlySleepers before after frame.task.number None
      × (length (are_ready ++ option_to_list next) ≡ length were_ready + sleeper_count (sleepers_at before frame.task.number))
  HasWoken (resumed.Strange same foreign) = (after ≡ before) × (are_ready ≡ were_ready) × (next ≡ Some same)
  HasWoken resumed.NoMemory = ⊥

  -- The core was asked for this frame's next step, and so it is with its answer.
  pub record IsWokenBy (G : Ghosts B L) (of : EndsOf E) (core now : CoreView B L) : Type 0 where
    pub answer : Resumed B Q L E
    pub answered : IsResumed G of core now frame answer
    pub woken : HasWoken answer
