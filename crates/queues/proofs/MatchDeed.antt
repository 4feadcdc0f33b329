-- What a deed of a frame makes of the chunks of a queue that match the script.
use Rattle.std.proofs.Common.{◌≡◌, ℕ, ◌+◌, Bool, true, false, Some, refl, ap, ◌∙◌, arith}
use Rattle.swan_model.specs.declared.origin.Origin.{Origin}
use Rattle.swan_model.specs.declared.rights.Mode.TheVariants.{Pop}
use Rattle.swan_model.specs.declared.script.Deed.{Deed}
use Rattle.swan_model.specs.declared.script.Script.{Script}
use Rattle.swan_model.specs.Granted.{is_spawn}
use Rattle.swan_model.specs.Lawful.{IsLawful}
use Rattle.swan_model.specs.QueueFollows.{count_at, next_queue_deed, queue_point, taken_at}
use Rattle.swan_model.specs.QueueState.{ActiveFrame, QueueState, active, holds_queue, with_deed}
use Rattle.swan_model.specs.Ripe.{is_push_to}
use Rattle.swan_model.specs.Told.{count, deed_at, is_pop_of, taken}
use Rattle.swan_model.proofs.ScriptCounts.{count_kept, taken_kept, taken_none}
use Rattle.queues.specs.Chunks.{Chunks, HasTaken, IsOwner, Matches}
use Rattle.queues.proofs.MatchOwners.{OtherOwnersStay, none_changed, own_same}
use Rattle.queues.proofs.MatchSame.{CountsSame, PopsSame, counts_itself, matches_same, pops_itself, taken_same}
use Rattle.queues.proofs.QueuePoints.{moved_counts, next_is}

-- a deed that isn't a spawn, and leaves what stands in this queue
pub record LeavesQueue (s : Script) (frame : ActiveFrame) (queue : Origin) (d : Deed) : Type 0 where
  pub spawns : is_spawn d ≡ false
  pub pushes : is_push_to queue d ≡ false
  pub pops : is_pop_of queue d ≡ true → taken_at s frame queue ≡ count_at s frame queue

-- a frame that has done one more queue deed, where it may pop a queue as before
pub record HasDone (number : ℕ) (frame later : ActiveFrame) : Type 0 where
  pub path : later.path ≡ frame.path
  pub deeds : later.deeds ≡ frame.deeds + 1
  pub pops : holds_queue later number Pop ≡ holds_queue frame number Pop

pub done_deed : (number : ℕ) (frame : ActiveFrame) → HasDone number frame (with_deed frame)
done_deed number frame = record { path = refl; deeds = refl; pops = refl }

-- by the next point as much was pushed to a queue and popped of it as right after the deed
module _ (s : Script) (lawful : IsLawful s) (number : ℕ) (queue : Origin) (frame later : ActiveFrame) (done : HasDone number frame later) where
  point_done : queue_point s later.path later.deeds ≡ queue_point s frame.path (frame.deeds + 1)
  point_done = ap (λ p. queue_point s p later.deeds) done.path ∙ ap (queue_point s frame.path) done.deeds

  module _ (d : Deed) (next : next_queue_deed s frame.path frame.deeds ≡ Some d) (quiet : is_spawn d ≡ false) where
    pub does : deed_at s (queue_point s frame.path frame.deeds) ≡ d
    does = (next_is s frame.path frame.deeds d next).does

    pub counts_later : count_at s later queue ≡ count s queue (queue_point s frame.path frame.deeds + 1)
    counts_later = ap (count s queue) point_done ∙ (moved_counts s lawful queue frame.path frame.deeds d next quiet).counts

    pub takes_later : taken_at s later queue ≡ taken s queue (queue_point s frame.path frame.deeds + 1)
    takes_later = ap (taken s queue) point_done ∙ (moved_counts s lawful queue frame.path frame.deeds d next quiet).takes

    pub counts_stay : is_push_to queue d ≡ false → CountsSame s queue frame later
    counts_stay not =
        record { path = done.path; counts = counts_later ∙ count_kept s queue (queue_point s frame.path frame.deeds) (ap (is_push_to queue) does ∙ not) }

    pub pops_stay : (is_pop_of queue d ≡ true → taken_at s frame queue ≡ count_at s frame queue) → PopsSame s number queue frame later
    pops_stay none =
        record { path = done.path; pops = done.pops; takes = takes_later ∙ by (is_pop_of queue d) refl }
      where
        by : (b : Bool) → is_pop_of queue d ≡ b → taken s queue (queue_point s frame.path frame.deeds + 1) ≡ taken_at s frame queue
        by true pops = let all = none pops in taken_none s queue (queue_point s frame.path frame.deeds) (omega arith)
        by false other = taken_kept s queue (queue_point s frame.path frame.deeds) (ap (is_pop_of queue) does ∙ other)

-- Apart from items: where a frame has no chunk of a queue, its deeds leave what is taken.
module _ (s : Script) (state after : QueueState) (number : ℕ) (queue : Origin) (end n : ℕ) (chunks : Chunks) (at : ℕ) (has : HasTaken s state number queue end chunks at)
    (others : OtherOwnersStay state after n chunks) where
  pub taken_unowned : ((index : ℕ) → IsOwner state chunks index n → ⊥) → HasTaken s after number queue end chunks at
  taken_unowned not = taken_same s number queue state after end chunks at has (none_changed state after n chunks others (PopsSame s number queue) (pops_itself s number queue) not)

  -- and so it is where the frame tells the same as before
  pub taken_told : (frame later : ActiveFrame) → active state n ≡ Some frame → active after n ≡ Some later → PopsSame s number queue frame later → HasTaken s after number queue end chunks at
  taken_told frame later live now same =
      taken_same s number queue state after end chunks at has (own_same state after n chunks others (PopsSame s number queue) (pops_itself s number queue) frame later live now same)

-- Where a frame has no chunk of a queue, its deeds leave the queue.
pub matches_unowned : (s : Script) (state after : QueueState) (number : ℕ) (queue : Origin) (end n : ℕ) (chunks : Chunks) → Matches s state number queue end chunks → OtherOwnersStay state after n chunks
    → ((index : ℕ) → IsOwner state chunks index n → ⊥) → Matches s after number queue end chunks
matches_unowned s state after number queue end n chunks matches others not =
    matches_same s number queue state after end chunks matches
    (none_changed state after n chunks others (CountsSame s queue) (counts_itself s queue) not)
    (none_changed state after n chunks others (PopsSame s number queue) (pops_itself s number queue) not)

module _ (s : Script) (lawful : IsLawful s) (state after : QueueState) (number : ℕ) (queue : Origin) (end n : ℕ) (chunks : Chunks) (matches : Matches s state number queue end chunks)
    (others : OtherOwnersStay state after n chunks) (frame later : ActiveFrame) (live : active state n ≡ Some frame) (now : active after n ≡ Some later) where
  -- where the frame tells the same as before
  pub matches_told : CountsSame s queue frame later → PopsSame s number queue frame later → Matches s after number queue end chunks
  matches_told counts pops =
      matches_same s number queue state after end chunks matches
      (own_same state after n chunks others (CountsSame s queue) (counts_itself s queue) frame later live now counts)
      (own_same state after n chunks others (PopsSame s number queue) (pops_itself s number queue) frame later live now pops)

  module _ (done : HasDone number frame later) where
    -- Deeds that leave a queue leave its chunks.
    pub matches_stay : (d : Deed) → next_queue_deed s frame.path frame.deeds ≡ Some d → LeavesQueue s frame queue d → Matches s after number queue end chunks
    matches_stay d next leaves =
        matches_told (counts_stay s lawful number queue frame later done d next leaves.spawns leaves.pushes)
        (pops_stay s lawful number queue frame later done d next leaves.spawns leaves.pops)
