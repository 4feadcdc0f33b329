-- New hyperqueues, ends that are lent, and ends that come back.
use Rattle.std.proofs.Common.{◌≡◌, ℕ, Option, Some, None, List, [], refl, arith}
use Rattle.std.proofs.lemmas.Bool.{false≢true}
use Rattle.swan_model.specs.declared.script.Script.{Script}
use Rattle.swan_model.specs.QueueFollows.{QueuesFollow, origin_in}
use Rattle.swan_model.specs.QueueState.{ActiveFrame, LentEnd, QueueState, active, after_back, after_lend, new_state}
use Rattle.swan_model.specs.Readings.{end_time}
use Rattle.queues.specs.Chunks.{Chunks}
use Rattle.queue_book.specs.Calls.{no_state}
use Rattle.queues.specs.Tree.{IsTree, maker_path}
use Rattle.queue_book.specs.Whole.{IsPlain}
use Rattle.queues.proofs.SameHolders.{holders_back, holders_lend, in_use_back}
use Rattle.queues.proofs.Calls.{back_follows, lent_follows, new_follows}
use Rattle.queues.proofs.Match.{matches_back, matches_lend}
use Rattle.queues.proofs.TreeSpawners.{spawners_back, spawners_lend, spawners_new}
use Rattle.queues.proofs.TreeKept.{tree_back, tree_lend, tree_new}
use Rattle.queues.proofs.TreeOwners.{owners_kept_back, owners_kept_lend}

pub plain_new : (name : Option Script) → IsPlain name new_state (λ queue. [])
plain_new name = record {
  rests = λ q never. absurd (false≢true never);
  tree = tree_new;
  follows = λ s named lawful. new_follows s lawful;
  spawners = λ s named. spawners_new;
  queues = λ q maker made. let never : None ≡ Some maker = made in absurd (cc);
}

-- without frames there is nothing to keep
none_active : (n : ℕ) (frame : ActiveFrame) → active no_state n ≡ Some frame → ⊥
none_active n frame live = let never : None ≡ Some frame = live in cc

tree_none : IsTree no_state
tree_none = record {
  known = λ index frame at. let never : None ≡ Some frame = at in absurd (cc);
  latest = λ n frame live. absurd (none_active n frame live);
  root = λ frame live. absurd (none_active 0 frame live);
  others = λ n frame live other. absurd (none_active n frame live);
  spawned = λ n parent frame live of. absurd (none_active n frame live);
  older = λ n parent frame live of. absurd (none_active n frame live);
  siblings = λ n other i j a b path live too one two before. absurd (none_active n a live);
  different = λ n other a b live too same. absurd (none_active n a live);
  held = λ n queue frame live has. absurd (none_active n frame live);
  modes = λ n queue frame mode live held. absurd (none_active n frame live);
}

follows_none : (s : Script) → QueuesFollow s no_state
follows_none s = record {
  known = λ index frame at. let never : None ≡ Some frame = at in absurd (cc);
  others = λ n frame live other. absurd (none_active n frame live);
  root = λ frame live. absurd (none_active 0 frame live);
  tasks = λ n frame live. absurd (none_active n frame live);
  children = λ n parent frame live of. absurd (none_active n frame live);
  different = λ n other a b live too same. absurd (none_active n a live);
  queues = λ q maker made. let never : None ≡ Some maker = made in absurd (cc);
  once = λ q other origin one two. let never : None ≡ Some origin = one in absurd (cc);
}

pub plain_none : (name : Option Script) → IsPlain name no_state (λ queue. [])
plain_none name = record {
  rests = λ q never. absurd (false≢true never);
  tree = tree_none;
  follows = λ s named lawful. follows_none s;
  spawners = λ s named. record { turns = λ n frame live some. absurd (none_active n frame live) };
  queues = λ q maker made. let never : None ≡ Some maker = made in absurd (cc);
}

module _ (name : Option Script) (state : QueueState) (lines : ℕ → Chunks) (is : IsPlain name state lines) (n : ℕ) (frame : ActiveFrame) (live : active state n ≡ Some frame) where
  pub plain_lend : (ends : List LentEnd) → IsPlain name (after_lend state frame ends) lines
  plain_lend ends = record {
    rests = is.rests;
    tree = tree_lend state frame ends is.tree;
    follows = λ s named lawful. lent_follows s state (is.follows s named lawful) n frame ends live;
    spawners = λ s named. spawners_lend state frame ends is.tree (is.spawners s named);
    queues = λ q maker made.
        let line = is.queues q maker made in
        record {
          owners = owners_kept_lend state frame ends q (lines q) is.tree line.owners;
          matches = λ left in_use s named lawful.
              matches_lend s lawful state q (origin_in s maker) (end_time s (maker_path maker)) (lines q)
              (line.matches left (in_use_back state (after_lend state frame ends) q maker (holders_lend state n frame live ends) in_use) s named lawful) n frame live ends;
          emptied = line.emptied;
        };
  }

  pub plain_back : IsPlain name (after_back state n frame.deeds) lines
  plain_back = record {
    rests = is.rests;
    tree = tree_back state n frame.deeds is.tree;
    follows = λ s named lawful.
        back_follows s lawful state frame frame.deeds (record { order = omega arith; each = λ k from to. absurd (omega arith) }) (is.follows s named lawful) n live;
    spawners = λ s named. spawners_back state n frame.deeds is.tree (is.spawners s named);
    queues = λ q maker made.
        let line = is.queues q maker made in
        record {
          owners = owners_kept_back state n frame.deeds q (lines q) is.tree line.owners;
          matches = λ left in_use s named lawful.
              matches_back s lawful state q (origin_in s maker) (end_time s (maker_path maker)) (lines q)
              (line.matches left (in_use_back state (after_back state n frame.deeds) q maker (holders_back state n frame live frame.deeds) in_use) s named lawful) n frame live frame.deeds refl;
          emptied = line.emptied;
        };
  }
