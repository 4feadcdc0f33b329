-- A spawn: what the core may ask for it, and what it keeps through it.
use Rattle.std.proofs.Common.{◌≡◌, ◌≢◌, inl, inr, ℕ, ◌+◌, ◌<◌, false, nat_eq, List, [], ◌∷◌, ◌++◌, None, Some, length, map, refl, sym, ap, subst, ◌∙◌, arith}
use Rattle.std.proofs.lemmas.Bool.{eqb-true}
use Rattle.swan_model.specs.declared.body.Body.{Ghosts}
use Rattle.swan_model.specs.declared.body.Child.{Child}
use Rattle.swan_model.specs.declared.fault.Fault.{Fault}
use Rattle.swan_model.specs.declared.path.TheConstants.{PATH_MOST}
use Rattle.swan_model.specs.declared.plan.Plan.{Plan}
use Rattle.swan_model.specs.declared.script.Deed.TheVariants as deed
use Rattle.swan_model.specs.declared.script.Script.{Script}
use Rattle.swan_model.specs.Elision.{outcome}
use Rattle.swan_model.specs.Granted.{children_before}
use Rattle.swan_model.specs.Lawful.{IsLawful}
use Rattle.swan_model.specs.QueueFollows.{NextSpawnGivesQueues}
use Rattle.swan_model.specs.QueueState.{ActiveFrame, HasTurn, QueueState, active, after_spawn}
use Rattle.swan_model.specs.Readings.{reading_after_spawn}
use Rattle.swan_model.specs.Rights.{is_aliased}
use Rattle.swan_model.specs.Script.{script}
use Rattle.swan_model.specs.SerialState.{Activation, Holding}
use Rattle.swan_model.specs.SerialStep.{given, after_next}
use Rattle.swan_model.specs.SerialTime.{Progress, Reading, frame_of, point}
use Rattle.swan_model.specs.TrueFrames.{StandsAt, give_in, gives_at}
use Rattle.swan_model.specs.Versions.{VersionState, placed_at}
use Rattle.swan_model.specs.VersionsFollow.{IsNewFrame, NextSpawnGivesObjects}
use Rattle.swan_model.proofs.Elements.{found_is, option_cases}
use Rattle.swan_model.proofs.TaskEntries.{point_is}
use Rattle.queues.specs.Asks.{MaySpawn}
use Rattle.queues.proofs.Fitting.{fits_comes}
use Rattle.queues.proofs.Lineage.{spawns_by}
use Rattle.serial_elision.specs.Caught.{once_ended}
use Rattle.serial_elision.specs.TaskSteps.{Spawns, child_activation, parent_activation}
use Rattle.serial_elision.proofs.Room.{children-told, room-children}
use Rattle.serial_elision.proofs.Onward.{spawns_next}
use Rattle.serial_elision.proofs.TaskSteps.{spawns_child, top_path}
use Rattle.task_frames.specs.Cores.{HasQueuesOnce, AreBooked, AreFrames, AreObjects, AreQueues}
use Rattle.object_versions.specs.Following.{WaitsForNone}
use Rattle.task_frames.specs.Frames.{IsPlan}
use Rattle.task_frames.specs.Giving.{AreMade, accesses_from, queue_rights}
use Rattle.task_frames.specs.Records.{LiveFrame, NumberedFrames, live_at}
use Rattle.task_frames.proofs.Booked as booked
use Rattle.task_frames.proofs.Giving.{next-gives_objects, spawned-objects}
use Rattle.task_frames.proofs.GoneOn.{with-child}
use Rattle.task_frames.proofs.Live as live_frames
use Rattle.task_frames.proofs.Names.{child-names, gives-held}
use Rattle.task_frames.proofs.Queues.{fit-now, next-does, spawned-is, spawned-so}
use Rattle.task_frames.proofs.QueueUse.{given-once, gives-may, gives-next}
use Rattle.task_frames.proofs.Rights.{known-so, may-do, names-so, next-so}

-- ---- the next frame's number

module _ {B L : Type 0} (G : Ghosts B L) (plan : Plan B L) (r : Reading) (state : QueueState) (live : NumberedFrames) (frames : ℕ) (are : AreFrames G plan r state live frames) where
  -- each frame has a lesser one
  pub lesser-number : (n : ℕ) (p : Progress) → frame_of r n ≡ Some p → n < frames
  lesser-number n p known =
      let it = found_is (λ (q : Progress). nat_eq q.number n) r.frames p known in
      let less = are.known it.index p it.stands in
      let number : p.number ≡ n = eqb-true p.number n it.passes in
      omega (arith, less, number)

  -- so no frame has it yet
  pub next-unread : frame_of r frames ≡ None
  next-unread = elim (option_cases (frame_of r frames)) [
    | inl none ↦ none
    | inr found ↦ let less = lesser-number frames found.0 found.1 in absurd (omega (arith, less))
  ]

  pub next-not_live : live_at live frames ≡ None
  next-not_live = elim (option_cases (live_at live frames)) [
    | inl none ↦ none
    | inr found ↦
        let told = are.told frames found.0 found.1 in
        let less = lesser-number frames (record { number = frames; path = found.0.path; done = found.0.done }) told.progress in
        absurd (omega (arith, less))
  ]

  pub next-some : frames ≢ 0
  next-some root = let less = are.latest in absurd (omega (arith, less, root))

-- ---- a spawn

module _ {B L : Type 0} (G : Ghosts B L) (plan : Plan B L) (sound : IsPlan plan) (lawful : IsLawful (script G plan)) (r : Reading) (state : QueueState) (live : NumberedFrames) (frames : ℕ)
    (queues : AreQueues (script G plan) r state) (are : AreFrames G plan r state live frames)
    (n : ℕ) (f : LiveFrame) (there : live_at live n ≡ Some f) (a : ActiveFrame) (own : active state n ≡ Some a)
    (path : List ℕ) (k : ℕ) (top : Activation L) (path_is : f.path ≡ path) (done_is : f.done ≡ k) (at : StandsAt G plan path k top)
    (local : L) (child : Child L) (spawn : Spawns G plan path k top local child) (hs : List Holding) (given_is : given f.holdings child.gives ≡ Some hs) (alone : is_aliased child.gives ≡ false) where
  abbrev s : Script
  s = script G plan

  abbrev p : Progress
  p = record { number = n; path = path; done = k }

  known : frame_of r n ≡ Some (record { number = n; path = path; done = k })
  known = known-so G plan sound lawful r n f (are.told n f there) path k top path_is done_is at

  names : map (give_in r) f.holdings ≡ gives_at G plan path k top
  names = names-so G plan sound lawful r n f (are.told n f there) path k top path_is done_is at

  -- the child's names, and that no queue stands twice there
  pub child-named : map (give_in r) hs ≡ map Some spawn.gives
  child-named = child-names G plan path k top r f.holdings names local child spawn hs given_is

  pub child-once : HasQueuesOnce hs
  child-once = given-once f.holdings child.gives hs (are.told n f there).once alone given_is

  -- what the queues are asked
  pub spawn-next : NextSpawnGivesQueues s state a (queue_rights hs)
  spawn-next =
      gives-next s lawful state queues.follow n a own r queues.fit.queues spawn.gives
      (next-so G plan sound lawful r n f (are.told n f there) path k top path_is done_is at state queues a own (deed.Spawn spawn.gives) spawn.deed refl) hs child-named

  pub may-spawn : a.lent ≡ None → length path < PATH_MOST → MaySpawn state n frames (queue_rights hs)
  may-spawn back deep = record {
    act = may-do G plan sound lawful r n f (are.told n f there) path k top path_is done_is at state queues a own back;
    newest = are.latest;
    lawful = gives-may s lawful state queues.follow n a own r queues.fit.queues spawn.gives
        (next-so G plan sound lawful r n f (are.told n f there) path k top path_is done_is at state queues a own (deed.Spawn spawn.gives) spawn.deed refl) hs child-named child-once;
    depth = let same = ap length (fit-now s lawful r state queues n path k known a own).path in omega (arith, deep, same);
    few = room-children G plan state n a sound.fuel queues.follow own;
  }

  -- what the objects are asked
  module _ (versions : VersionState) (objects : ℕ) (have : AreObjects s r versions live objects) where
    pub child-new : IsNewFrame r versions frames
    child-new = record { unread = next-unread G plan r state live frames are; bare = bare } where
      bare : (place : ℕ) → placed_at versions frames place ≡ None
      bare place = elim (option_cases (placed_at versions frames place)) [
        | inl none ↦ none
        | inr has ↦ absurd (have.gone frames place has.0 (next-not_live G plan r state live frames are) (next-some G plan r state live frames are) has.1)
      ]

    pub spawn-next_objects : NextSpawnGivesObjects s r versions (record { number = n; path = path; done = k }) (accesses_from 0 child.gives)
    spawn-next_objects =
        next-gives_objects s r versions p f.holdings (have.each n f there) child.gives spawn.gives spawn.many (gives-held G plan path k top r f.holdings names local child spawn)
        (next-does s n path k (deed.Spawn spawn.gives) at.left spawn.deed)

  -- the child's index is the number of children so far, in the run and in the elision
  pub same-children : a.children ≡ top.children
  same-children =
      let fit = fit-now s lawful r state queues n path k known a own in
      (queues.follow.tasks n a own).children ∙ spawns_by s a.path a.deeds (point s p) (fits_comes s a p fit).before
      ∙ ap (λ q. children_before s q (point s p)) (sym fit.path) ∙ ap (children_before s path) (point_is s p at.left) ∙ sym (children-told G plan path k top at)

  -- ---- all that is kept

  abbrev pub new-frame : Progress
  new-frame = record { number = frames; path = path ++ top.children ∷ []; done = 0 }

  -- the parent at its next step, and the child at its first one
  abbrev parent-next : Activation L
  parent-next = once_ended (outcome G plan).faults (parent_activation (after_next top local) child) (child_activation top child spawn.holdings)

  parent-stands : StandsAt G plan path (k + 1) parent-next
  parent-stands = spawns_next G plan path k top at (parent_activation (after_next top local) child) (child_activation top child spawn.holdings) spawn.store spawn.effect

  own-path : top.path ≡ path
  own-path = (top_path G plan path k top at).1

  child-stands : StandsAt G plan (path ++ top.children ∷ []) 0 (child_activation top child spawn.holdings)
  child-stands =
      subst (λ q. StandsAt G plan (q ++ top.children ∷ []) 0 (child_activation top child spawn.holdings)) own-path
      (spawns_child G plan path k top at (parent_activation (after_next top local) child) (child_activation top child spawn.holdings) spawn.store spawn.effect)

  differ : n ≢ frames
  differ same = let less = lesser-number G plan r state live frames are n p known in absurd (omega (arith, less, same))

  reads : reading_after_spawn s r p frames ≡ with-child r n new-frame
  reads = spawned-is s lawful r state queues n path k known a frames own at.left ∙ ap (λ i. with-child r n (record { number = frames; path = path ++ i ∷ []; done = 0 })) same-children

  -- The core's part of queues, of objects, of frames and of faults, once the calls are made and the record has both frames.
  pub record IsAfterSpawn (versions then_versions : VersionState) (then_state : QueueState) (then_live : NumberedFrames) : Type 0 where
    pub state_is : then_state ≡ after_spawn state a frames (queue_rights hs)
    pub made : AreMade s r versions then_versions (record { number = n; path = path; done = k }) frames child.gives (length child.gives)
    pub parent : live_at then_live n ≡ Some (record f { done = k + 1 })
    pub new : live_at then_live frames ≡ Some (record { parent = Some n; path = path ++ top.children ∷ []; done = 0; holdings = hs; failed = 0 })
    pub others : (m : ℕ) → m ≢ n → m ≢ frames → live_at then_live m ≡ live_at live m

  module _ (back : a.lent ≡ None) (deep : length path < PATH_MOST) (versions then_versions : VersionState) (then_state : QueueState) (then_live : NumberedFrames)
      (is : IsAfterSpawn versions then_versions then_state then_live) where
    pub queues-then : AreQueues s (with-child r n new-frame) then_state
    queues-then =
        subst (λ i. AreQueues s (with-child r n (record { number = frames; path = path ++ i ∷ []; done = 0 })) then_state) same-children
        (spawned-so s lawful r state queues n path k known a frames (queue_rights hs) spawn.gives then_state own spawn.deed at.left (next-unread G plan r state live frames are)
        (may-spawn back deep) spawn-next is.state_is)

    pub objects-then : (objects : ℕ) → AreObjects s r versions live objects → WaitsForNone versions n → AreObjects s (with-child r n new-frame) then_versions then_live objects
    objects-then objects have none =
        spawned-objects s lawful r versions then_versions live then_live objects have n path k known f (record { parent = Some n; path = path ++ top.children ∷ []; done = 0; holdings = hs; failed = 0 }) there frames differ
        (next-some G plan r state live frames are) child.gives given_is is.made new-frame reads none is.parent is.new refl is.others

    pub frames-then : HasTurn state a → AreFrames G plan (with-child r n new-frame) then_state then_live (frames + 1)
    frames-then turn =
        live_frames.spawns G plan r state live frames are n f there a own then_live sound.lists queues.tree path k top parent-next (child_activation top child spawn.holdings) top.children hs
        (queue_rights hs) (may-spawn back deep) then_state path_is done_is at parent-stands spawn.names child-stands
        (child-named ∙ sym (sym (ap (λ q. gives_at G plan (q ++ top.children ∷ []) 0 (child_activation top child spawn.holdings)) own-path) ∙ spawn.begins)) child-once turn is.state_is is.parent is.new is.others

    pub booked-then : (faults : List Fault) → AreBooked G plan r faults → AreBooked G plan (with-child r n new-frame) faults
    booked-then faults have =
        booked.spawns G plan r n path k known new-frame faults parent-stands.left (λ same. differ (sym same)) (next-unread G plan r state live frames are) child-stands.left have
