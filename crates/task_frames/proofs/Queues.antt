-- What the core keeps of its queues: it stays through each call, as the reading goes on.
use Rattle.std.proofs.Common.{◌≡◌, ◌≢◌, ℕ, ◌+◌, ◌<◌, true, false, List, [], ◌∷◌, ◌++◌, None, Some, length, refl, sym, ap, subst, ◌∙◌, arith}
use Rattle.std.proofs.lemmas.Option.{same_Some}
use Rattle.swan_model.specs.declared.origin.Origin.{Origin}
use Rattle.swan_model.specs.declared.origin.Origin.TheVariants.{Step}
use Rattle.swan_model.specs.declared.script.Deed.{Deed}
use Rattle.swan_model.specs.declared.script.Deed.TheVariants.{MakeQueue, Pop, Spawn}
use Rattle.swan_model.specs.declared.script.OriginGive.{OriginGive}
use Rattle.swan_model.specs.declared.script.Script.{Script}
use Rattle.swan_model.specs.Granted.{children_before, is_spawn}
use Rattle.swan_model.specs.Lawful.{IsLawful}
use Rattle.swan_model.specs.QueueFollows.{AreByEnds, Fits, FitsFrame, NextSpawnGivesQueues, QueuesFollow}
use Rattle.swan_model.specs.QueueState.{ActiveFrame, LentEnd, QueueRight, QueueState, active, after_back, after_create, after_deed, after_finish, after_lend, after_spawn, planned}
use Rattle.swan_model.specs.Readings.{next_deed, reading_after_spawn, with_queue}
use Rattle.swan_model.specs.SerialTime.{Progress, Reading, frame_of, is_queue_deed, point, time, times}
use Rattle.swan_model.specs.Told.{deed_at}
use Rattle.queues.specs.Asks.{MayDo, MayJoin, MaySpawn}
use Rattle.queues.specs.Reads.{deeds_among}
use Rattle.swan_model.specs.Readings.{gone_on_by}
use Rattle.queues.specs.Tree.{IsTree}
use Rattle.swan_model.proofs.Elements.{before_more}
use Rattle.swan_model.proofs.TaskEntries.{point_is}
use Rattle.queues.proofs.Calls.{back_follows, lent_follows, no_making, used_follows}
use Rattle.queues.proofs.Creating.{created_follows}
use Rattle.queues.proofs.Finishing.{finished_follows}
use Rattle.queues.proofs.Fitting.{fits_comes}
use Rattle.queues.proofs.Lineage.{spawns_by}
use Rattle.queues.proofs.Match.{not_active}
use Rattle.queues.proofs.NextDeeds.{next_same}
use Rattle.queues.proofs.ReadingMakes.{back_fits, made_fits}
use Rattle.queues.proofs.Rereading.{deed_fits, finish_fits, fit_of, last_pop-fits, lent_fits, others_fit}
use Rattle.queues.proofs.ReadingSpawns.{spawned_fits}
use Rattle.queues.proofs.Spawning.{spawned_follows}
use Rattle.queues.proofs.TreeKept.{tree_back, tree_create, tree_deed, tree_finish, tree_lend, tree_spawn}
use Rattle.task_frames.specs.Cores.{AreQueues}
use Rattle.task_frames.proofs.CatchUp.{next-is}
use Rattle.task_frames.proofs.GoneOn.{with-child}

-- a frame of a reading, and what its next entry is
abbrev at : (n : ℕ) (path : List ℕ) (k : ℕ) → Progress
at n path k = record { number = n; path = path; done = k }

abbrev pub next-does : (s : Script) (n : ℕ) (path : List ℕ) (k : ℕ) (does : Deed) → k < length (times s path) → deed_at s (time s path k) ≡ does → next_deed s (record { number = n; path = path; done = k }) ≡ Some does
next-does s n path k does left is = next-is s (at n path k) left ∙ ap Some is

module _ (s : Script) (lawful : IsLawful s) (r : Reading) (state : QueueState) (are : AreQueues s r state) (n : ℕ) (path : List ℕ) (k : ℕ)
    (known : frame_of r n ≡ Some (record { number = n; path = path; done = k })) where
  abbrev p : Progress
  p = at n path k

  pub fit-now : (a : ActiveFrame) → active state n ≡ Some a → FitsFrame s a p
  fit-now a live = fit_of s lawful state r are.fit n p known a live

  -- a frame's ends come back, and with them all that it did since it was given
  pub back : (a : ActiveFrame) (many : ℕ) (after : QueueState) → active state n ≡ Some a → k + many < length (times s path)
      → AreByEnds s path a.deeds (deeds_among s path (k + many)) → after ≡ after_back state n (deeds_among s path (k + many))
      → AreQueues s (gone_on_by r n many) after
  back a many after live left by_ends same =
      let d = deeds_among s path (k + many) in
      let fit = fit-now a live in
      let ends : AreByEnds s a.path a.deeds d = subst (λ q. AreByEnds s q a.deeds d) fit.path by_ends in
      let then : FitsFrame s (record a { deeds = d }) (record p { done = k + many }) = record {
        path = fit.path;
        left = subst (λ q. k + many < length (times s q)) fit.path left;
        deeds = ap (λ q. deeds_among s q (k + many)) (sym fit.path);
      } in
      let whole : AreQueues s (gone_on_by r n many) (after_back state n d) = record {
        follow = back_follows s lawful state a d ends are.follow n live;
        fit = back_fits s lawful state r are.fit n d many a p live known ends then;
        tree = tree_back state n d are.tree;
        roots = are.roots;
        whole = are.whole;
      } in
      subst (λ q. AreQueues s (gone_on_by r n many) q) (sym same) whole

  -- an entry that is no deed of queues
  pub others-over : (does : Deed) (objects : List Origin) → deed_at s (time s path k) ≡ does → is_queue_deed does ≡ false → k + 1 < length (times s path)
      → AreQueues s (record (gone_on_by r n 1) { objects = objects }) state
  others-over does objects is quiet more = record {
    follow = are.follow;
    fit = others_fit s lawful state r are.fit n p known does objects (next-does s n path k does (omega (arith, more)) is) quiet more;
    tree = are.tree;
    roots = are.roots;
    whole = are.whole;
  }

  pub others : (does : Deed) → deed_at s (time s path k) ≡ does → is_queue_deed does ≡ false → k + 1 < length (times s path) → AreQueues s (gone_on_by r n 1) state
  others does = others-over does r.objects

  -- a push, a pop or a test
  pub used : (does : Deed) (after : QueueState) → deed_at s (time s path k) ≡ does → is_queue_deed does ≡ true → is_spawn does ≡ false → does ≢ MakeQueue → k + 1 < length (times s path)
      → MayDo state n → after ≡ after_deed state n → AreQueues s (gone_on_by r n 1) after
  used does after is queue still other more act same =
      let next = next-does s n path k does (omega (arith, more)) is in
      let live = act.may.live in
      let whole : AreQueues s (gone_on_by r n 1) (after_deed state n) = record {
        follow = used_follows s lawful state are.follow n act.frame does live (next_same s act.frame p (fit-now act.frame live) does next queue) (no_making does still other);
        fit = deed_fits s lawful state r are.fit n p known does next queue still more;
        tree = tree_deed state n are.tree act;
        roots = are.roots;
        whole = are.whole;
      } in
      subst (λ q. AreQueues s (gone_on_by r n 1) q) (sym same) whole

  -- a queue that is made
  pub created : (act : MayDo state n) (after : QueueState) → deed_at s (time s path k) ≡ MakeQueue → k < length (times s path) → after ≡ after_create state act.frame
      → AreQueues s (with_queue (gone_on_by r n 1) (Step (time s path k))) after
  created act after is left same =
      let next = next-does s n path k MakeQueue left is in
      let live = act.may.live in
      let now : point s p ≡ time s path k = point_is s p left in
      let whole : AreQueues s (with_queue (gone_on_by r n 1) (Step (time s path k))) (after_create state act.frame) = record {
        follow = created_follows s lawful state are.follow n act.frame live (next_same s act.frame p (fit-now act.frame live) MakeQueue next refl);
        fit = subst (λ t. Fits s (after_create state act.frame) (with_queue (gone_on_by r n 1) (Step t))) now (made_fits s lawful state r are.fit p act.frame n live known next);
        tree = tree_create state n are.tree act;
        roots = λ i less. before_more state.makers _ i (planned i) (are.roots i less);
        whole = are.whole;
      } in
      subst (λ q. AreQueues s (with_queue (gone_on_by r n 1) (Step (time s path k))) q) (sym same) whole

  -- the end of a frame, by an entry that is no deed of queues
  pub finished : (does : Deed) (after : QueueState) → deed_at s (time s path k) ≡ does → is_queue_deed does ≡ false → k + 1 ≡ length (times s path)
      → MayJoin state n → after ≡ after_finish state n → AreQueues s (gone_on_by r n 1) after
  finished does after is quiet last may same =
      let whole : AreQueues s (gone_on_by r n 1) (after_finish state n) = record {
        follow = finished_follows s state are.follow n may.alone;
        fit = finish_fits s lawful state r are.fit n p known does (next-does s n path k does (omega (arith, last)) is) quiet last;
        tree = tree_finish state n are.tree may;
        roots = are.roots;
        whole = are.whole;
      } in
      subst (λ q. AreQueues s (gone_on_by r n 1) q) (sym same) whole

  -- and by the pop of an empty queue, which the queues have counted before
  pub finished-dry : (queue : Origin) (after : QueueState) → deed_at s (time s path k) ≡ Pop queue → k + 1 ≡ length (times s path)
      → MayDo state n → MayJoin (after_deed state n) n → after ≡ after_finish (after_deed state n) n → AreQueues s (gone_on_by r n 1) after
  finished-dry queue after is last act may same =
      let next = next-does s n path k (Pop queue) (omega (arith, last)) is in
      let live = act.may.live in
      let popped : QueuesFollow s (after_deed state n) =
      used_follows s lawful state are.follow n act.frame (Pop queue) live (next_same s act.frame p (fit-now act.frame live) (Pop queue) next refl) refl in
      let whole : AreQueues s (gone_on_by r n 1) (after_finish (after_deed state n) n) = record {
        follow = finished_follows s (after_deed state n) popped n may.alone;
        fit = last_pop-fits s lawful state r are.fit n p known queue next last;
        tree = tree_finish (after_deed state n) n (tree_deed state n are.tree act) may;
        roots = are.roots;
        whole = are.whole;
      } in
      subst (λ q. AreQueues s (gone_on_by r n 1) q) (sym same) whole

  -- a spawn
  pub spawned-is : (a : ActiveFrame) (child : ℕ) → active state n ≡ Some a → k < length (times s path)
      → reading_after_spawn s r p child ≡ with-child r n (record { number = child; path = path ++ a.children ∷ []; done = 0 })
  spawned-is a child live left =
      let fit = fit-now a live in
      let count : a.children ≡ children_before s a.path (point s p) =
      (are.follow.tasks n a live).children ∙ spawns_by s a.path a.deeds (point s p) (fits_comes s a p fit).before in
      let many : children_before s path (point s p) ≡ a.children = ap (λ q. children_before s q (point s p)) fit.path ∙ sym count in
      ap {B = Reading} (λ i. with-child r n (record { number = child; path = path ++ i ∷ []; done = 0 })) many

  pub spawned-so : (a : ActiveFrame) (child : ℕ) (gives : List QueueRight) (all : List OriginGive) (after : QueueState) → active state n ≡ Some a
      → deed_at s (time s path k) ≡ Spawn all → k < length (times s path) → frame_of r child ≡ None → MaySpawn state n child gives → NextSpawnGivesQueues s state a gives
      → after ≡ after_spawn state a child gives
      → AreQueues s (with-child r n (record { number = child; path = path ++ a.children ∷ []; done = 0 })) after
  spawned-so a child gives all after live is left unread may next_gives same =
      let next = next-does s n path k (Spawn all) left is in
      let one : may.act.frame ≡ a = same_Some may.act.frame a (sym may.act.may.live ∙ live) in
      let free = not_active state are.tree child may.newest in
      let then = after_spawn state a child gives in
      let whole : AreQueues s (reading_after_spawn s r p child) then = record {
        follow = spawned_follows s lawful state are.follow n child a gives live free next_gives;
        fit = spawned_fits s lawful state are.follow r are.fit n child a p all gives live known free unread next;
        tree = subst (λ f. IsTree (after_spawn state f child gives)) one (tree_spawn state n child gives are.tree may);
        roots = are.roots;
        whole = are.whole;
      } in
      subst (λ q. AreQueues s q after) (spawned-is a child live left) (subst (λ q. AreQueues s (reading_after_spawn s r p child) q) (sym same) whole)

-- ends that are lent
pub lent : (s : Script) (r : Reading) (state : QueueState) → AreQueues s r state → (n : ℕ) (a : ActiveFrame) (list : List LentEnd) (after : QueueState)
    → active state n ≡ Some a → after ≡ after_lend state a list → AreQueues s r after
lent s r state are n a list after live same =
    let whole : AreQueues s r (after_lend state a list) = record {
      follow = lent_follows s state are.follow n a list live;
      fit = lent_fits s state r are.fit a list;
      tree = tree_lend state a list are.tree;
      roots = are.roots;
      whole = are.whole;
    } in
    subst (λ q. AreQueues s r q) (sym same) whole
