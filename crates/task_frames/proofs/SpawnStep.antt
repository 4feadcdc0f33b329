-- A frame at the core that asks for a child: why the child is refused, and what a spawn leaves.
use Rattle.std.proofs.Common.{◌≡◌, ◌≢◌, ℕ, ◌+◌, ◌-◌, ◌<◌, ◌≤◌, true, false, cond, Option, Some, None, List, [], ◌∷◌, ◌++◌, length, map, refl, sym, ap, subst, ◌∙◌, arith}
use Rattle.std.proofs.lemmas.Option.{same_Some}
use Rattle.std.specs.Option.{option_map}
use Rattle.std.specs.Prelude.{slice_get}
use Rattle.swan_model.specs.declared.body.Answer.TheVariants as answer
use Rattle.swan_model.specs.declared.body.Ask.TheVariants as ask
use Rattle.swan_model.specs.declared.body.Body.{Ghosts}
use Rattle.swan_model.specs.declared.body.Child.{Child}
use Rattle.swan_model.specs.declared.fault.FaultKind.{FaultKind}
use Rattle.swan_model.specs.declared.fault.FaultKind.TheVariants as kind
use Rattle.swan_model.specs.declared.path.TheConstants.{PATH_MOST}
use Rattle.swan_model.specs.declared.plan.Plan.{Plan}
use Rattle.swan_model.specs.declared.plan.TheConstants.{FUEL_MOST}
use Rattle.swan_model.specs.declared.rights.Give.{Give}
use Rattle.swan_model.specs.declared.rights.Mode.{Mode}
use Rattle.swan_model.specs.declared.rights.TheConstants.{GIVES_MOST}
use Rattle.swan_model.specs.declared.script.Deed.TheVariants as deed
use Rattle.swan_model.specs.declared.script.Script.{Script}
use Rattle.swan_model.specs.Elision.{outcome}
use Rattle.swan_model.specs.Granted.{is_spawn}
use Rattle.swan_model.specs.Lawful.{IsLawful}
use Rattle.swan_model.specs.QueueFollows.{NextSpawnGivesQueues}
use Rattle.swan_model.specs.QueueState.{ActiveFrame, QueueState, active, after_spawn, child_of, with_deed}
use Rattle.swan_model.specs.Values.{COUNT_MOST}
use Rattle.swan_model.specs.Rights.{allows, is_aliased}
use Rattle.swan_model.specs.Script.{script}
use Rattle.swan_model.specs.SerialState.{Activation, Holding}
use Rattle.swan_model.specs.SerialStep.{given, given_also, after_next, number_at, used_by}
use Rattle.swan_model.specs.SerialTime.{Progress}
use Rattle.swan_model.specs.TrueFrames.{StandsAt}
use Rattle.queues.specs.Asks.{IsOnTurn, MaySpawn, OnNext}
use Rattle.swan_model.specs.Readings.{gone_on_by}
use Rattle.queues.proofs.ActiveAfter.{child_spawned, others_spawned, parent_spawned}
use Rattle.queues.proofs.Match.{not_active}
use Rattle.serial_elision.specs.Caught.{has_failed, once_ended}
use Rattle.serial_elision.specs.TaskSteps.{IsAsking, Spawns, child_activation, parent_activation}
use Rattle.serial_elision.proofs.Caught.{children-counted}
use Rattle.serial_elision.proofs.AskMakes.{aliased, spawns-child, too-dear, too-deep}
use Rattle.serial_elision.proofs.FewHeld.{given-many}
use Rattle.serial_elision.proofs.Held.{used-at}
use Rattle.serial_elision.proofs.Onward.{spawns_next}
use Rattle.serial_elision.proofs.TaskSteps.{spawns_child, top_path}
use Rattle.task_frames.specs.declared.stage.Stage.TheVariants.{Ready}
use Rattle.task_frames.specs.declared.step.Step.{Step}
use Rattle.task_frames.specs.declared.step.Step.TheVariants as step
use Rattle.task_frames.specs.Cores.{AreBooked, AreCounted, AreFrames, AreObjects, AreQueues, FrameAtCoreView, HasIt, IsAtCore, IsCore, KeptView, MayBegin, Mid, asking}
use Rattle.task_frames.specs.Frames.{TaskView}
use Rattle.task_frames.specs.Giving.{AreMade, GivesObjects, queue_rights}
use Rattle.task_frames.specs.Records.{LiveFrame, come_to, live_at}
use Rattle.task_frames.specs.Resumes.{EndsTaskByFault, IsStep}
use Rattle.task_frames.proofs.Asked.{ends-by}
use Rattle.task_frames.proofs.Booked as booked
use Rattle.task_frames.proofs.Counted as counted
use Rattle.task_frames.proofs.Failing.{never-failed}
use Rattle.task_frames.proofs.FewFrames.{room-for-frame}
use Rattle.task_frames.proofs.Giving.{giving-starts}
use Rattle.task_frames.proofs.GoneOn.{child-spawned, with-child}
use Rattle.task_frames.proofs.Goings.{done-is, known, lawful, own}
use Rattle.task_frames.proofs.Names.{first-given}
use Rattle.task_frames.proofs.Served.{same-mode}
use Rattle.task_frames.proofs.Spawning as spawning

-- ---- what is given by lists of the same modes

abbrev mode_of : Holding → Mode
mode_of h = h.mode

number-too : (xs ys : List Holding) (place : ℕ) (mode : Mode) (number : ℕ) → map mode_of xs ≡ map mode_of ys → number_at xs place mode ≡ Some number → (other : ℕ) × (number_at ys place mode ≡ Some other)
number-too xs ys place mode number same at =
    let used = used-at xs place number mode (slice_get xs place) refl at in
    let it = same-mode xs ys place used.holding same used.stands in
    (it.0.number, ap (used_by mode) it.1 ∙ ap {B = Option ℕ} (λ b. cond b (Some it.0.number) None) (ap (λ m. allows m mode) it.2 ∙ used.allowed))

given-too : (xs ys : List Holding) (gives : List Give) (hs : List Holding) → map mode_of xs ≡ map mode_of ys → given xs gives ≡ Some hs → (ts : List Holding) × (given ys gives ≡ Some ts)
given-too xs ys [] hs same is = ([], refl)
given-too xs ys (give ∷ gives) hs same is =
    let first = first-given xs give gives hs (number_at xs give.place give.mode) (given xs gives) refl refl is in
    let number = number-too xs ys give.place give.mode first.number same first.at in
    let rest = given-too xs ys gives first.rest same first.given_rest in
    let own : Holding = record { mode = give.mode; number = number.0 } in
    (own ∷ rest.0, ap (λ a. given_also give a (given ys gives)) number.1 ∙ ap (given_also give (Some number.0)) rest.1)

given-modes : (xs : List Holding) (gives : List Give) (hs : List Holding) → given xs gives ≡ Some hs → map mode_of hs ≡ map (λ (g : Give). g.mode) gives
given-modes xs [] hs is = let none : [] ≡ hs = same_Some [] hs is in ap (map mode_of) (sym none)
given-modes xs (give ∷ gives) hs is =
    let first = first-given xs give gives hs (number_at xs give.place give.mode) (given xs gives) refl refl is in
    ap (map mode_of) first.list_is ∙ ap {B = List Mode} (λ ms. give.mode ∷ ms) (given-modes xs gives first.rest first.given_rest)

pub given-some : {X : Type 0} (items : X → List Holding) (found : Option X) (held : X) (all : Option (List Holding)) → option_map items found ≡ all → found ≡ Some held → all ≡ Some (items held)
given-some items found held all is some = sym is ∙ ap (option_map items) some

module _ {B L : Type 0} (G : Ghosts B L) (kept : KeptView) (mid : Mid B L) (child : Child L) (has : HasIt G kept (asking mid (ask.Spawn child))) (hs : List Holding)
    (given_is : given mid.task.holdings child.gives ≡ Some hs) where
  abbrev task : TaskView B L
  task = mid.task

  abbrev plan : Plan B L
  plan = mid.task.plan

  abbrev s : Script
  s = script G plan

  abbrev top : Activation L
  top = has.is.alone.top

  asks-so : IsAsking G plan task.path task.done top mid.local (ask.Spawn child)
  asks-so = record { stands = has.is.alone.stands; paid = has.is.alone.stage.0; said = has.is.alone.stage.3 }

  top-given : (ts : List Holding) × (given top.holdings child.gives ≡ Some ts)
  top-given = given-too task.holdings top.holdings child.gives hs has.is.alone.modes given_is

  path-so : top.path ≡ task.path
  path-so = (top_path G plan task.path task.done top has.is.alone.stands).1

  -- ---- why it is refused

  -- told by the frame and by the place that were taken out
  pub ends-so : (at : FrameAtCoreView B L) (place : ℕ) (fault : FaultKind) → at ≡ asking mid (ask.Spawn child) → place ≡ mid.at → EndsTaskByFault G task mid.at fault → EndsTaskByFault G at.task place fault
  ends-so at place fault at_is place_is ends =
      subst (λ (x : FrameAtCoreView B L). EndsTaskByFault G x.task place fault) (sym at_is) (subst (λ k. EndsTaskByFault G task k fault) (sym place_is) ends)

  pub alias-so : is_aliased child.gives ≡ true → EndsTaskByFault G task mid.at kind.Alias
  alias-so twice = ends-by G kept mid (ask.Spawn child) has kind.Alias (aliased G plan task.path task.done top mid.local child asks-so top-given.0 top-given.1 twice)

  module _ (alone : is_aliased child.gives ≡ false) where
    pub depth-so : PATH_MOST ≤ length task.path → EndsTaskByFault G task mid.at kind.Depth
    depth-so deep =
        ends-by G kept mid (ask.Spawn child) has kind.Depth
        (too-deep G plan task.path task.done top mid.local child asks-so top-given.0 top-given.1 alone (omega (arith, deep, ap length path-so)))

    module _ (shallow : length task.path < PATH_MOST) where
      shallow-top : length top.path < PATH_MOST
      shallow-top = omega (arith, shallow, ap length path-so)

      pub fuel-so : task.fuel < child.fuel → EndsTaskByFault G task mid.at kind.Fuel
      fuel-so dear =
          ends-by G kept mid (ask.Spawn child) has kind.Fuel
          (too-dear G plan task.path task.done top mid.local child asks-so top-given.0 top-given.1 alone shallow-top (omega (arith, dear, has.is.alone.stage.1)))

      -- ---- the step

      module _ (cheap : child.fuel ≤ task.fuel) where
        spawn : Spawns G plan task.path task.done top mid.local child
        spawn = spawns-child G plan task.path task.done top mid.local child asks-so top-given.0 top-given.1 alone shallow-top (omega (arith, cheap, has.is.alone.stage.1)) has.is.plan.lists

        abbrev f : LiveFrame
        f = has.of.frame

        record-given : given f.holdings child.gives ≡ Some hs
        record-given = ap (λ xs. given xs child.gives) has.of.holdings ∙ given_is

        abbrev n : ℕ
        n = task.number

        abbrev a : ActiveFrame
        a = (own G kept (asking mid (ask.Spawn child)) has).0

        own-live : active kept.state n ≡ Some a
        own-live = (own G kept (asking mid (ask.Spawn child)) has).1

        back-so : a.lent ≡ None
        back-so = has.back a own-live

        law : IsLawful s
        law = lawful G kept (asking mid (ask.Spawn child)) has

        done-so : f.done ≡ task.done
        done-so = done-is G kept (asking mid (ask.Spawn child)) has

        children-so : task.children ≡ top.children
        children-so = has.is.alone.children

        -- what the queues are asked
        pub may-spawn : MaySpawn kept.state n kept.frames (queue_rights hs)
        may-spawn =
            spawning.may-spawn G plan has.core.sound law kept.reading kept.state kept.live kept.frames has.core.queues has.core.frames n f has.of.live a own-live task.path task.done top has.of.path done-so
            has.is.alone.stands mid.local child spawn hs record-given alone back-so shallow

        pub next-gives : NextSpawnGivesQueues s kept.state a (queue_rights hs)
        next-gives =
            spawning.spawn-next G plan has.core.sound law kept.reading kept.state kept.live kept.frames has.core.queues has.core.frames n f has.of.live a own-live task.path task.done top has.of.path done-so
            has.is.alone.stands mid.local child spawn hs record-given alone

        pub turn-so : MayBegin kept n → IsOnTurn kept.name kept.state n
        turn-so begun = λ z is x live. begun.turn x live

        pub next-so : OnNext kept.name kept.state n (λ z x. NextSpawnGivesQueues z kept.state x (queue_rights hs))
        next-so = λ z is x live.
            subst (λ y. NextSpawnGivesQueues z kept.state y (queue_rights hs)) (same_Some a x (sym own-live ∙ live))
            (subst (λ y. NextSpawnGivesQueues y kept.state a (queue_rights hs)) (same_Some s z (sym has.core.name ∙ is)) next-gives)

        -- what the objects are asked
        abbrev gives-objects : GivesObjects kept.versions n kept.frames child.gives
        gives-objects = record {
          s = s;
          lawful = law;
          r = kept.reading;
          giver = record { number = n; path = task.path; done = task.done };
          own = refl;
          known = known G kept (asking mid (ask.Spawn child)) has;
          held = f.holdings;
          has = has.core.objects.each n f has.of.live;
          differ = λ same. let less = spawning.lesser-number G plan kept.reading kept.state kept.live kept.frames has.core.frames n _ (known G kept (asking mid (ask.Spawn child)) has) in absurd (omega (arith, less, same));
          hs = hs;
          given_is = record-given;
          alone = alone;
          starts = giving-starts s kept.reading kept.versions (record { number = n; path = task.path; done = task.done }) kept.frames child.gives has.core.objects.follow
              (spawning.child-new G plan has.core.sound law kept.reading kept.state kept.live kept.frames has.core.queues has.core.frames n f has.of.live a own-live task.path task.done top has.of.path done-so
              has.is.alone.stands mid.local child spawn hs record-given alone kept.versions kept.objects has.core.objects)
              (spawning.spawn-next_objects G plan has.core.sound law kept.reading kept.state kept.live kept.frames has.core.queues has.core.frames n f has.of.live a own-live task.path task.done top has.of.path done-so
              has.is.alone.stands mid.local child spawn hs record-given alone kept.versions kept.objects has.core.objects);
        }

        pub number-lesser : n < kept.frames
        number-lesser = spawning.lesser-number G plan kept.reading kept.state kept.live kept.frames has.core.frames n _ (known G kept (asking mid (ask.Spawn child)) has)

        pub room-so : kept.frames < COUNT_MOST
        room-so = let room = room-for-frame G plan kept.reading kept.frames has.core.sound.fuel has.core.queues.fit.tasks has.core.frames.count in omega (arith, room)

        pub room-children : task.children < FUEL_MOST
        room-children = let within = has.is.within.spawned in let paid = has.is.alone.stage.0 in omega (arith, within, paid)

        pub child-free : live_at kept.live kept.frames ≡ None
        child-free = spawning.next-not_live G plan kept.reading kept.state kept.live kept.frames has.core.frames

        -- ---- what it leaves

        abbrev pub parent-task : TaskView B L
        parent-task = record task { done = task.done + 1; since = task.done + 1; fuel = task.fuel - child.fuel; children = task.children + 1 }

        abbrev pub child-task : TaskView B L
        child-task = record { plan = plan; number = kept.frames; path = task.path ++ task.children ∷ []; done = 0; since = 0; fuel = child.fuel; holdings = hs; children = 0 }

        abbrev pub new-frame : Progress
        new-frame = record { number = kept.frames; path = task.path ++ task.children ∷ []; done = 0 }

        -- each call is made, and the record has both frames
        pub record IsSpawnMade (after : KeptView) : Type 0 where
          pub made : AreMade s kept.reading kept.versions after.versions (record { number = n; path = task.path; done = task.done }) kept.frames child.gives (length child.gives)
          pub parent : live_at after.live n ≡ Some (record f { done = task.done + 1 })
          pub new : live_at after.live kept.frames ≡ Some (record { parent = Some n; path = task.path ++ task.children ∷ []; done = 0; holdings = hs; failed = 0 })
          pub others : (m : ℕ) → m ≢ n → m ≢ kept.frames → live_at after.live m ≡ live_at kept.live m
          pub rest : after ≡ record kept {
            state = after_spawn kept.state a kept.frames (queue_rights hs);
            versions = after.versions;
            reading = with-child kept.reading n (record { number = kept.frames; path = task.path ++ task.children ∷ []; done = 0 });
            live = after.live;
            frames = kept.frames + 1;
          }

        module _ (few : length child.gives ≤ GIVES_MOST) (begun : MayBegin kept n) (after : KeptView) (is : IsSpawnMade after) where
          abbrev then-state : QueueState
          then-state = after_spawn kept.state a kept.frames (queue_rights hs)

          is-spawned : spawning.IsAfterSpawn G plan has.core.sound law kept.reading kept.state kept.live kept.frames has.core.queues has.core.frames n f has.of.live a own-live task.path task.done top has.of.path done-so
              has.is.alone.stands mid.local child spawn hs record-given alone kept.versions after.versions then-state after.live
          is-spawned = record {
            state_is = refl;
            made = is.made;
            parent = is.parent;
            new = is.new ∙ ap {B = Option LiveFrame} (λ i. Some (record { parent = Some n; path = task.path ++ i ∷ []; done = 0; holdings = hs; failed = 0 })) children-so;
            others = is.others;
          }

          named-frame : record { number = kept.frames; path = task.path ++ top.children ∷ []; done = 0 } ≡ new-frame
          named-frame = ap {B = Progress} (λ i. record { number = kept.frames; path = task.path ++ i ∷ []; done = 0 }) (sym children-so)

          abbrev then-kept : KeptView
          then-kept = record kept {
            state = then-state;
            versions = after.versions;
            reading = with-child kept.reading n new-frame;
            live = after.live;
            frames = kept.frames + 1;
          }

          queues-then : AreQueues s (with-child kept.reading n new-frame) then-state
          queues-then =
              subst (λ p. AreQueues s (with-child kept.reading n p) then-state) named-frame
              (spawning.queues-then G plan has.core.sound law kept.reading kept.state kept.live kept.frames has.core.queues has.core.frames n f has.of.live a own-live task.path task.done top has.of.path done-so
              has.is.alone.stands mid.local child spawn hs record-given alone back-so shallow kept.versions after.versions then-state after.live is-spawned)

          booked-then : AreBooked G plan (with-child kept.reading n new-frame) kept.faults
          booked-then =
              subst (λ p. AreBooked G plan (with-child kept.reading n p) kept.faults) named-frame
              (spawning.booked-then G plan has.core.sound law kept.reading kept.state kept.live kept.frames has.core.queues has.core.frames n f has.of.live a own-live task.path task.done top has.of.path done-so
              has.is.alone.stands mid.local child spawn hs record-given alone back-so shallow kept.versions after.versions then-state after.live is-spawned kept.faults has.core.booked)

          free : active kept.state kept.frames ≡ None
          free = not_active kept.state has.core.queues.tree kept.frames may-spawn.newest

          other-number : kept.frames ≢ n
          other-number same = omega (arith, number-lesser, same)

          child-stands : StandsAt G plan (task.path ++ task.children ∷ []) 0 (child_activation top child spawn.holdings)
          child-stands =
              subst (λ i. StandsAt G plan (task.path ++ i ∷ []) 0 (child_activation top child spawn.holdings)) (sym children-so)
              (subst (λ q. StandsAt G plan (q ++ top.children ∷ []) 0 (child_activation top child spawn.holdings)) path-so
              (spawns_child G plan task.path task.done top has.is.alone.stands (parent_activation (after_next top mid.local) child) (child_activation top child spawn.holdings) spawn.store spawn.effect))

          -- no fault of the child is booked, since it has an entry left
          unfailed : has_failed kept.faults (task.path ++ task.children ∷ []) ≡ false
          unfailed =
              never-failed kept.faults (task.path ++ task.children ∷ [])
              (booked.fresh G plan (with-child kept.reading n new-frame) kept.frames (task.path ++ task.children ∷ []) 0
              (child-spawned kept.reading n new-frame (spawning.next-unread G plan kept.reading kept.state kept.live kept.frames has.core.frames) other-number)
              queues-then.fit.tasks kept.faults booked-then child-stands.left)

          -- and no frame is its child yet
          childless : (m : ℕ) (frame : LiveFrame) → live_at kept.live m ≡ Some frame → frame.parent ≢ Some kept.frames
          childless m frame at is_child =
              let it = has.core.frames.active_is m frame at in
              let above = has.core.queues.follow.children m kept.frames it.0 it.1 (it.2 ∙ is_child) in
              let both : None ≡ Some above.above = sym free ∙ above.live in
              absurd (cc)

          counted-then : AreCounted s after.live kept.faults
          counted-then =
              counted.spawned s kept.live kept.faults has.core.counted after.live n f has.of.live task.path task.done kept.frames
              (record { parent = Some n; path = task.path ++ task.children ∷ []; done = 0; holdings = hs; failed = 0 }) has.of.path done-so (deed.Spawn spawn.gives) spawn.deed refl (λ same. absurd (cc))
              (ap (λ i. task.path ++ i ∷ []) (children-so ∙ children-counted G plan task.path task.done top has.is.alone.stands)) refl refl refl unfailed other-number childless
              is.parent is.new is.others

          core-then : IsCore G plan then-kept
          core-then = record {
            sound = has.core.sound;
            name = has.core.name;
            queues = queues-then;
            objects = subst (λ p. AreObjects s (with-child kept.reading n p) after.versions after.live kept.objects) named-frame
                (spawning.objects-then G plan has.core.sound law kept.reading kept.state kept.live kept.frames has.core.queues has.core.frames n f has.of.live a own-live task.path task.done top has.of.path done-so
                has.is.alone.stands mid.local child spawn hs record-given alone back-so shallow kept.versions after.versions then-state after.live is-spawned kept.objects has.core.objects begun.ready);
            frames = subst (λ p. AreFrames G plan (with-child kept.reading n p) then-state after.live (kept.frames + 1)) named-frame
                (spawning.frames-then G plan has.core.sound law kept.reading kept.state kept.live kept.frames has.core.queues has.core.frames n f has.of.live a own-live task.path task.done top has.of.path done-so
                has.is.alone.stands mid.local child spawn hs record-given alone back-so shallow kept.versions after.versions then-state after.live is-spawned (begun.turn a own-live));
            booked = booked-then;
            counted = counted-then;
          }

          core-after : IsCore G plan after
          core-after = subst (IsCore G plan) (sym is.rest) core-then

          active-after : (m : ℕ) → active after.state m ≡ active then-state m
          active-after m = ap (λ (k : KeptView). active k.state m) is.rest

          parent-at : IsAtCore G (record { task = parent-task; stage = Ready mid.local answer.Nothing })
          parent-at = record {
            plan = has.is.plan;
            alone = record {
              top = once_ended (outcome G plan).faults (parent_activation (after_next top mid.local) child) (child_activation top child spawn.holdings);
              stands = spawns_next G plan task.path task.done top has.is.alone.stands (parent_activation (after_next top mid.local) child) (child_activation top child spawn.holdings) spawn.store spawn.effect;
              stage = (refl, ap (λ k. k - child.fuel) has.is.alone.stage.1, refl);
              modes = has.is.alone.modes;
              children = ap (λ k. k + 1) has.is.alone.children;
            };
            within = record {
              holds = let a = has.is.within.holds in omega (arith, a);
              spawned = let a = has.is.within.spawned in let paid = has.is.alone.stage.0 in omega (arith, a, paid);
            };
            since = refl;
          }

          child-at : IsAtCore G (record { task = child-task; stage = Ready child.local answer.Start })
          child-at = record {
            plan = has.is.plan;
            alone = record {
              top = child_activation top child spawn.holdings;
              stands = child-stands;
              stage = (refl, refl, refl);
              modes = given-modes task.holdings child.gives hs given_is ∙ sym (given-modes top.holdings child.gives spawn.holdings spawn.held);
              children = refl;
            };
            within = record {
              holds = let most = has.is.within.spawned in omega (arith, given-many task.holdings child.gives hs given_is, few, cheap, has.is.alone.stage.1, most);
              spawned = let most = has.is.within.spawned in omega (arith, cheap, has.is.alone.stage.1, most);
            };
            since = refl;
          }

          pub spawned-step : IsStep G kept after task (step.Spawned (record { task = parent-task; stage = Ready mid.local answer.Nothing }) (record { task = child-task; stage = Ready child.local answer.Start }))
          spawned-step = (
            record {
              core = core-after;
              is = parent-at;
              of = record { frame = record f { done = task.done + 1 }; live = is.parent; path = has.of.path; done = refl; holdings = has.of.holdings };
              back = λ x now. ap (λ (y : ActiveFrame). y.lent) (same_Some x (with_deed (record a { children = a.children + 1 })) (sym now ∙ active-after n ∙ parent_spawned kept.state n kept.frames a (queue_rights hs) own-live free)) ∙ back-so;
            },
            record {
              core = core-after;
              is = child-at;
              of = record { frame = record { parent = Some n; path = task.path ++ task.children ∷ []; done = 0; holdings = hs; failed = 0 }; live = is.new; path = refl; done = refl; holdings = refl };
              back = λ x now. ap (λ (y : ActiveFrame). y.lent) (same_Some x (child_of a kept.frames (queue_rights hs)) (sym now ∙ active-after kept.frames ∙ child_spawned kept.state n kept.frames a (queue_rights hs) own-live free));
            },
            refl,
            record { plan = refl; path = refl; done = refl; other = other-number },
            ap is_spawn spawn.deed,
            child-free,
            record {
              live = λ m apart. is.others m apart.0 apart.1;
              active_are = λ m apart. active-after m ∙ others_spawned kept.state n kept.frames a (queue_rights hs) own-live free m apart.0 apart.1;
            },
            begun,
            refl,
            ap (λ (k : KeptView). k.frames) is.rest,
          )

        -- ---- by what the calls answer

        -- the numbers and the holdings that the calls are told
        module _ (m number : ℕ) (held : List Holding) (m_is : m ≡ n) (number_is : number ≡ kept.frames) (held_is : held ≡ hs) where
          pub objects-asked : GivesObjects kept.versions m number child.gives
          objects-asked =
              subst (λ x. GivesObjects kept.versions x number child.gives) (sym m_is) (subst (λ x. GivesObjects kept.versions n x child.gives) (sym number_is) gives-objects)

          pub spawn-asked : MaySpawn kept.state m number (queue_rights held)
          spawn-asked =
              subst (λ x. MaySpawn kept.state x number (queue_rights held)) (sym m_is)
              (subst (λ x. MaySpawn kept.state n x (queue_rights held)) (sym number_is) (subst (λ x. MaySpawn kept.state n kept.frames (queue_rights x)) (sym held_is) may-spawn))

          pub turn-asked : MayBegin kept n → IsOnTurn kept.name kept.state m
          turn-asked begun = subst (IsOnTurn kept.name kept.state) (sym m_is) (turn-so begun)

          pub next-asked : OnNext kept.name kept.state m (λ z x. NextSpawnGivesQueues z kept.state x (queue_rights held))
          next-asked =
              subst (λ y. OnNext kept.name kept.state y (λ z x. NextSpawnGivesQueues z kept.state x (queue_rights held))) (sym m_is)
              (subst (λ y. OnNext kept.name kept.state n (λ z x. NextSpawnGivesQueues z kept.state x (queue_rights y))) (sym held_is) next-so)

        -- what is kept once the child has what it is given
        module _ (handed : KeptView) (same : handed ≡ record kept { name = handed.name; run = handed.run; state = handed.state; versions = handed.versions }) where
          frames-same : handed.frames ≡ kept.frames
          frames-same = ap (λ (k : KeptView). k.frames) same

          pub room-then : handed.frames < COUNT_MOST
          room-then = omega (arith, room-so, frames-same)

          pub rising-then : (m : ℕ) → m ≡ n → m < handed.frames
          rising-then m m_is = omega (arith, number-lesser, m_is, frames-same)

          pub free-then : live_at handed.live handed.frames ≡ None
          free-then = ap (λ (k : KeptView). live_at k.live handed.frames) same ∙ ap (live_at kept.live) frames-same ∙ child-free

        abbrev pub two : (number : ℕ) → List ℕ → Step B L
        two number path = step.Spawned (record { task = parent-task; stage = Ready mid.local answer.Nothing })
            (record { task = record child-task { number = number; path = path }; stage = Ready child.local answer.Start })

        -- Each call is made: the child was given what it is given, and then the record has both.
        pub record AreCalled (handed after : KeptView) (path : List ℕ) (out : Step B L) (m number done : ℕ) (held : List Holding) : Type 0 where
          pub made : (may : GivesObjects kept.versions m number child.gives) → AreMade may.s may.r kept.versions handed.versions may.giver number child.gives (length child.gives)
          pub spawned_state : (x : ActiveFrame) → active kept.state m ≡ Some x → handed.state ≡ after_spawn kept.state x number (queue_rights held)
          pub name : handed.name ≡ kept.name
          pub run : handed.run ≡ kept.run
          pub same : handed ≡ record kept { name = handed.name; run = handed.run; state = handed.state; versions = handed.versions }
          pub path_is : path ≡ task.path ++ task.children ∷ []
          pub parent : live_at after.live m ≡ option_map (come_to (done + 1)) (live_at handed.live m)
          pub new : live_at after.live handed.frames ≡ Some (record { parent = Some m; path = path; done = 0; holdings = hs; failed = 0 })
          pub others : (x : ℕ) → x ≢ m → x ≢ handed.frames → live_at after.live x ≡ live_at handed.live x
          pub noted : after ≡ record handed {
            reading = record handed.reading { frames = (gone_on_by handed.reading m 1).frames ++ (record { number = handed.frames; path = path; done = 0 }) ∷ [] };
            live = after.live;
            frames = handed.frames + 1;
          }
          pub out_is : out ≡ two number path

        module _ (few : length child.gives ≤ GIVES_MOST) (begun : MayBegin kept n) (handed after : KeptView) (path : List ℕ) (out : Step B L) where
          module _ (are : AreCalled handed after path out n kept.frames task.done hs) where
            abbrev given-kept : KeptView
            given-kept = record kept { state = after_spawn kept.state a kept.frames (queue_rights hs); versions = handed.versions }

            handed-is : handed ≡ given-kept
            handed-is =
                are.same
                ∙ ap {B = KeptView} (λ x. record kept { name = x; run = handed.run; state = handed.state; versions = handed.versions }) are.name
                ∙ ap {B = KeptView} (λ x. record kept { run = x; state = handed.state; versions = handed.versions }) are.run
                ∙ ap {B = KeptView} (λ x. record kept { state = x; versions = handed.versions }) (are.spawned_state a own-live)

            abbrev then-noted : KeptView → List ℕ → KeptView
            then-noted h q = record h {
              reading = record h.reading { frames = (gone_on_by h.reading n 1).frames ++ (record { number = h.frames; path = q; done = 0 }) ∷ [] };
              live = after.live;
              frames = h.frames + 1;
            }

            after-is : after ≡ then-noted given-kept (task.path ++ task.children ∷ [])
            after-is = are.noted ∙ ap {B = KeptView} (λ h. then-noted h path) handed-is ∙ ap {B = KeptView} (then-noted given-kept) are.path_is

            live-is : (m : ℕ) → live_at handed.live m ≡ live_at kept.live m
            live-is m = ap (λ (h : KeptView). live_at h.live m) handed-is

            frames-are : handed.frames ≡ kept.frames
            frames-are = ap (λ (h : KeptView). h.frames) handed-is

            is-made : IsSpawnMade (then-noted given-kept (task.path ++ task.children ∷ []))
            is-made = record {
              made = are.made gives-objects;
              parent = are.parent ∙ ap (option_map (come_to (task.done + 1))) (live-is n ∙ has.of.live);
              new = ap (live_at after.live) (sym frames-are) ∙ are.new ∙ ap {B = Option LiveFrame} (λ q. Some (record { parent = Some n; path = q; done = 0; holdings = hs; failed = 0 })) are.path_is;
              others = λ m own_not child_not. are.others m own_not (λ is. child_not (is ∙ frames-are)) ∙ live-is m;
              rest = refl;
            }

            step-made : IsStep G kept after task out
            step-made =
                subst (λ k. IsStep G kept k task out) (sym after-is)
                (subst (IsStep G kept (then-noted given-kept (task.path ++ task.children ∷ [])) task) (sym (are.out_is ∙ ap {B = Step B L} (two kept.frames) are.path_is))
                (spawned-step few begun (then-noted given-kept (task.path ++ task.children ∷ [])) is-made))

          pub step-so : (m number done : ℕ) (held : List Holding) → m ≡ n → number ≡ kept.frames → done ≡ task.done → held ≡ hs → AreCalled handed after path out m number done held → IsStep G kept after task out
          step-so m number done held m_is number_is done_is held_is are =
              step-made
              (subst (λ x. AreCalled handed after path out x kept.frames task.done hs) m_is
              (subst (λ x. AreCalled handed after path out m x task.done hs) number_is
              (subst (λ x. AreCalled handed after path out m number x hs) done_is
              (subst (AreCalled handed after path out m number done) held_is are))))
