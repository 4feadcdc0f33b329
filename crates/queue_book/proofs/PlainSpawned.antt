-- A spawn keeps what holds of the frames and the chunks.
use Rattle.std.proofs.Common.{◌≡◌, ℕ, Bool, true, false, Option, Some, None, List, refl, ap}
use Rattle.std.specs.Prelude.{slice_get, if◌then◌else◌}
use Rattle.swan_model.specs.declared.script.Script.{Script}
use Rattle.swan_model.specs.QueueFollows.{origin_in, NextSpawnGivesQueues}
use Rattle.swan_model.specs.QueueState.{QueueMaker, QueueRight, QueueState, active, after_spawn}
use Rattle.swan_model.specs.Readings.{end_time}
use Rattle.queues.specs.Asks.{MaySpawn, IsOnTurn, OnNext}
use Rattle.queues.specs.Chunks.{Chunks, after_hand_on}
use Rattle.queue_book.specs.Handed.{lines_after_gives}
use Rattle.queues.specs.Turned.{gives_queue}
use Rattle.queues.specs.Tree.{maker_path, IsInUse}
use Rattle.queue_book.specs.Whole.{IsLine, IsPlain}
use Rattle.queues.proofs.Gives.{gives_had}
use Rattle.queues.proofs.Match.{matches_spawn, matches_spawn_other, not_active}
use Rattle.queue_book.proofs.PlainSaid.{on_next, origin_of, turn_on}
use Rattle.queues.proofs.Spawning.{spawned_follows}
use Rattle.queues.proofs.TreeSpawners.{spawners_spawn}
use Rattle.queues.proofs.TreeKept.{tree_spawn}
use Rattle.queues.proofs.TreeOwners.{owners_kept_spawn, owners_spawn}

module _ (name : Option Script) (state : QueueState) (lines : ℕ → Chunks) (is : IsPlain name state lines) (p child : ℕ) (gives : List QueueRight) (may : MaySpawn state p child gives)
    (next : OnNext name state p (λ s f. NextSpawnGivesQueues s state f gives)) (turn : IsOnTurn name state p)
    (in_use_before : (q : ℕ) (maker : QueueMaker) → IsInUse (after_spawn state may.act.frame child gives) q maker → IsInUse state q maker) where
  free : active state child ≡ None
  free = not_active state is.tree child may.newest

  spawn_of : (s : Script) → name ≡ Some s → NextSpawnGivesQueues s state may.act.frame gives
  spawn_of s named = on_next name state p (λ t f. NextSpawnGivesQueues t state f gives) s may.act.frame next named may.act.may.live

  line : (q : ℕ) (maker : QueueMaker) → slice_get state.makers q ≡ Some maker → (b : Bool) → gives_queue gives q ≡ b
      → IsLine name (after_spawn state may.act.frame child gives) q maker (if b then after_hand_on p child (lines q) else lines q)
  line q maker made true given =
      let was = is.queues q maker made in
      record {
        owners = owners_spawn state p child gives q (lines q) is.tree may given was.owners;
        matches = λ left in_use s named lawful.
            matches_spawn s lawful state (is.follows s named lawful) is.tree q (origin_in s maker) (origin_of s state q maker made) p child may.act.frame gives may.act.may.live free may.lawful
            (spawn_of s named) (end_time s (maker_path maker)) (lines q) was.owners (was.matches left (in_use_before q maker in_use) s named lawful)
            (gives_had may.act.frame gives may.lawful q given);
        emptied = λ over. ap (after_hand_on p child) (was.emptied over);
      }
  line q maker made false lacks =
      let was = is.queues q maker made in
      record {
        owners = owners_kept_spawn state p child gives q (lines q) is.tree may lacks was.owners;
        matches = λ left in_use s named lawful.
            matches_spawn_other s lawful state (is.follows s named lawful) is.tree q (origin_in s maker) (origin_of s state q maker made) p child may.act.frame gives may.act.may.live free may.lawful
            (spawn_of s named) (end_time s (maker_path maker)) (lines q) was.owners lacks (was.matches left (in_use_before q maker in_use) s named lawful);
        emptied = was.emptied;
      }

  pub plain_spawn : IsPlain name (after_spawn state may.act.frame child gives) (lines_after_gives p child gives lines)
  plain_spawn = record {
    tree = tree_spawn state p child gives is.tree may;
    follows = λ s named lawful. spawned_follows s lawful state (is.follows s named lawful) p child may.act.frame gives may.act.may.live free (spawn_of s named);
    spawners = λ s named. spawners_spawn state p child gives is.tree may (is.spawners s named) (turn_on name state p s may.act.frame turn named may.act.may.live);
    queues = λ q maker made. line q maker made (gives_queue gives q) refl;
    rests = is.rests;
  }
