-- What the core may ask of its queues and objects for a frame's next step, and what their answers say of it.
use Rattle.std.proofs.Common.{◌≡◌, ℕ, ◌<◌, ◌≤◌, true, false, cond, List, Option, None, Some, map, refl, sym, ap, subst, ◌∙◌, arith}
use Rattle.std.proofs.lemmas.Option.{same_Some}
use Rattle.std.specs.Option.{option_and_then, option_map}
use Rattle.std.specs.Prelude.{slice_get}
use Rattle.swan_model.specs.declared.body.Body.{Ghosts}
use Rattle.swan_model.specs.declared.origin.Origin.{Origin}
use Rattle.swan_model.specs.declared.origin.Origin.TheVariants.{Root, Step}
use Rattle.swan_model.specs.declared.plan.Plan.{Plan}
use Rattle.swan_model.specs.declared.rights.Mode.{Mode}
use Rattle.swan_model.specs.declared.rights.Mode.TheVariants.{Pop, Push}
use Rattle.swan_model.specs.declared.script.Deed.{Deed}
use Rattle.swan_model.specs.declared.script.Deed.TheVariants as deed
use Rattle.swan_model.specs.declared.script.Script.{Script}
use Rattle.swan_model.specs.declared.value.Value.{Value}
use Rattle.swan_model.specs.Granted.{holds, is_within, may_use}
use Rattle.swan_model.specs.Lawful.{IsLawful}
use Rattle.swan_model.specs.QueueFollows.{IsNextAbout, next_item, next_queue_deed, queue_origin, queue_point, taken_at, count_at}
use Rattle.swan_model.specs.QueueState.{ActiveFrame, QueueState, active, holds_queue, OBJECTS_MOST}
use Rattle.swan_model.specs.Rights.{allows, is_queue_mode}
use Rattle.swan_model.specs.Script.{script}
use Rattle.swan_model.specs.SerialState.{Activation}
use Rattle.swan_model.specs.SerialStep.{number_at}
use Rattle.swan_model.specs.SerialTime.{Progress, Reading, frame_of, is_queue_deed, point, time, version}
use Rattle.swan_model.specs.Told.{cell, count, deed_at, pushes, taken}
use Rattle.swan_model.specs.TrueFrames.{StandsAt, give_in, gives_at}
use Rattle.swan_model.specs.Versions.{Placed, VersionState, placed_at}
use Rattle.swan_model.proofs.TaskEntries.{point_is}
use Rattle.queues.specs.Asks.{HasRoom, MayDo, MayLook, MayUse}
use Rattle.queues.specs.Tells.{FindsItem, FindsNone}
use Rattle.queues.proofs.NextDeeds.{next_same}
use Rattle.queues.proofs.QueuePoints.{IsSame, still_same}
use Rattle.queues.proofs.Rereading.{fit_of}
use Rattle.queues.proofs.SerialPoints.{is_read}
use Rattle.serial_elision.specs.Laws.{AreEachOnce, IsObjectOf}
use Rattle.serial_elision.specs.TaskSteps.{MayUseAt}
use Rattle.serial_elision.proofs.FewMade.{few-objects}
use Rattle.serial_elision.proofs.Held.{used-at}
use Rattle.serial_elision.proofs.Room.{room-deeds, room-queues}
use Rattle.serial_elision.proofs.TaskSteps.{stands-one}
use Rattle.task_frames.specs.Cores.{AreObjects, AreQueues, HasObjects, IsAsRead}
use Rattle.task_frames.specs.Frames.{IsPlan}
use Rattle.task_frames.specs.Records.{LiveFrame, NumberedFrames}
use Rattle.task_frames.proofs.Names.{held-number, held-origin, origin_in, use-held}
use Rattle.task_frames.proofs.Queues.{next-does}
use Rattle.task_frames.proofs.QueueUse.{may-use}
use Rattle.swan_model.proofs.Uses.{same_kind}

module _ {B L : Type 0} (G : Ghosts B L) (plan : Plan B L) (sound : IsPlan plan) (lawful : IsLawful (script G plan)) (r : Reading) where
  abbrev s : Script
  s = script G plan

  -- ---- a live frame and its task

  module _ (n : ℕ) (f : LiveFrame) (told : IsAsRead G plan r n f) (path : List ℕ) (k : ℕ) (top : Activation L) (path_is : f.path ≡ path) (done_is : f.done ≡ k) (at : StandsAt G plan path k top) where
    abbrev p : Progress
    p = record { number = n; path = path; done = k }

    -- the reading has it so
    pub known-so : frame_of r n ≡ Some (record { number = n; path = path; done = k })
    known-so =
        told.progress ∙ ap {B = Option Progress} (λ q. Some (record { number = n; path = q; done = f.done })) path_is
        ∙ ap {B = Option Progress} (λ j. Some (record { number = n; path = path; done = j })) done_is

    -- what it holds has the names of what its task holds
    pub names-so : map (give_in r) f.holdings ≡ gives_at G plan path k top
    names-so =
        let here : StandsAt G plan path k told.top = subst (λ q. StandsAt G plan q k told.top) path_is (subst (λ j. StandsAt G plan f.path j told.top) done_is told.stands) in
        told.named ∙ ap (λ q. gives_at G plan q f.done told.top) path_is ∙ ap (λ j. gives_at G plan path j told.top) done_is
        ∙ ap (gives_at G plan path k) (stands-one G plan path k told.top top here at)

    -- what it may use at a place, by the run's number
    pub origin-so : (place number : ℕ) (mode : Mode) (origin : Origin) → MayUseAt G plan path k top place mode origin → number_at f.holdings place mode ≡ Some number → origin_in r mode number ≡ Some origin
    origin-so place number mode origin used_so at_place =
        let held = use-held G plan path k top r f.holdings names-so place mode origin used_so in
        let same : held.holding.number ≡ number = same_Some _ _ (sym (held-number r f.holdings place mode origin held) ∙ at_place) in
        ap (origin_in r mode) (sym same) ∙ held-origin r f.holdings place mode origin held

    -- ---- queues

    module _ (state : QueueState) (are : AreQueues s r state) (a : ActiveFrame) (own : active state n ≡ Some a) where
      pub queue-so : (place number : ℕ) (mode : Mode) (origin : Origin) → MayUseAt G plan path k top place mode origin → number_at f.holdings place mode ≡ Some number → is_queue_mode mode ≡ true
          → queue_origin s state number ≡ Some origin
      queue-so place number mode origin used_so at_place queue =
          sym (are.fit.queues number) ∙ sym (ap (λ b. cond b (slice_get r.queues number) (slice_get r.objects number)) queue) ∙ origin-so place number mode origin used_so at_place

      -- its next step, where it is a deed of queues, is its next one among them
      pub next-so : (does : Deed) → deed_at s (time s path k) ≡ does → is_queue_deed does ≡ true → next_queue_deed s a.path a.deeds ≡ Some does
      next-so does is queue = next_same s a p (fit_of s lawful state r are.fit n p known-so a own) does (next-does s n path k does at.left is) queue

      pub next-about : (about : Origin → Deed) (number : ℕ) (origin : Origin) → queue_origin s state number ≡ Some origin → deed_at s (time s path k) ≡ about origin → is_queue_deed (about origin) ≡ true
          → IsNextAbout about s state a number
      next-about about number origin made is queue = next-so (about origin) is queue ∙ ap (option_map about) (sym made)

      abbrev pub may-do : a.lent ≡ None → MayDo state n
      may-do back = record { frame = a; may = record { live = own; back = back }; room = room-deeds G plan state n a sound.fuel are.follow own }

      held-so : (place number : ℕ) (mode : Mode) (origin : Origin) (does : Deed) → MayUseAt G plan path k top place mode origin → number_at f.holdings place mode ≡ Some number → is_queue_mode mode ≡ true
          → deed_at s (time s path k) ≡ does → is_queue_deed does ≡ true → ((held : _) → is_within held does ≡ may_use held mode origin) → holds_queue a number mode ≡ true
      held-so place number mode origin does used_so at_place kind is queue needs =
          may-use s lawful state are.follow n a own number mode origin does kind (queue-so place number mode origin used_so at_place kind) (next-so does is queue) (needs (holds s a.path (queue_point s a.path a.deeds)))

      pub may-push : (place number : ℕ) (value : Value) (origin : Origin) → MayUseAt G plan path k top place Push origin → number_at f.holdings place Push ≡ Some number
          → deed_at s (time s path k) ≡ deed.Push origin value → a.lent ≡ None → MayUse state n number Push × IsNextAbout (λ o. deed.Push o value) s state a number
      may-push place number value origin used_so at_place is back = (
        record { act = may-do back; held = held-so place number Push origin (deed.Push origin value) used_so at_place refl is refl (λ held. refl) },
        next-about (λ o. deed.Push o value) number origin (queue-so place number Push origin used_so at_place refl) is refl,
      )

      pub may-pop : (place number : ℕ) (origin : Origin) → MayUseAt G plan path k top place Pop origin → number_at f.holdings place Pop ≡ Some number
          → deed_at s (time s path k) ≡ deed.Pop origin → a.lent ≡ None → MayUse state n number Pop × IsNextAbout deed.Pop s state a number
      may-pop place number origin used_so at_place is back = (
        record { act = may-do back; held = held-so place number Pop origin (deed.Pop origin) used_so at_place refl is refl (λ held. refl) },
        next-about deed.Pop number origin (queue-so place number Pop origin used_so at_place refl) is refl,
      )

      pub may-look : (place number : ℕ) (origin : Origin) → MayUseAt G plan path k top place Pop origin → number_at f.holdings place Pop ≡ Some number
          → deed_at s (time s path k) ≡ deed.Pop origin → a.lent ≡ None → MayLook state n number
      may-look place number origin used_so at_place is back = record {
        frame = a;
        may = record { live = own; back = back };
        held = held-so place number Pop origin (deed.Pop origin) used_so at_place refl is refl (λ held. refl);
      }

      pub may-test : (place number : ℕ) (origin : Origin) → MayUseAt G plan path k top place Pop origin → number_at f.holdings place Pop ≡ Some number
          → deed_at s (time s path k) ≡ deed.Test origin → a.lent ≡ None → MayUse state n number Pop × IsNextAbout deed.Test s state a number
      may-test place number origin used_so at_place is back = (
        record { act = may-do back; held = held-so place number Pop origin (deed.Test origin) used_so at_place refl is refl (λ held. refl) },
        next-about deed.Test number origin (queue-so place number Pop origin used_so at_place refl) is refl,
      )

      -- ---- what the answers of queues say of this step

      same-counts : (origin : Origin) → IsSame s origin (queue_point s a.path a.deeds) (point s p)
      same-counts origin = still_same s origin a.path (point s p) (queue_point s a.path a.deeds) (is_read s lawful state r are.fit n a p own known-so).still

      taken-so : (origin : Origin) → taken_at s a origin ≡ taken s origin (time s path k)
      taken-so origin = (same-counts origin).takes ∙ ap (taken s origin) (point_is s p at.left)

      count-so : (origin : Origin) → count_at s a origin ≡ count s origin (time s path k)
      count-so origin = (same-counts origin).counts ∙ ap (count s origin) (point_is s p at.left)

      pub item-left : (origin : Origin) → FindsItem a s origin → taken s origin (time s path k) < count s origin (time s path k)
      item-left origin finds = omega (arith, finds, taken-so origin, count-so origin)

      pub none-left : (origin : Origin) → FindsNone a s origin → count s origin (time s path k) ≤ taken s origin (time s path k)
      none-left origin finds = omega (arith, finds, taken-so origin, count-so origin)

      pub item-so : (origin : Origin) (value : Value) → next_item s a origin ≡ Some value → slice_get (pushes s origin) (taken s origin (time s path k)) ≡ Some value
      item-so origin value is = ap (slice_get (pushes s origin)) (sym (taken-so origin)) ∙ is

      pub room-for-queue : HasRoom state
      room-for-queue = room-queues G plan state sound.lists sound.fuel are.follow

    -- ---- objects

    -- what the frame has at the place of what it may use
    pub record IsObjectAt (versions : VersionState) (place number : ℕ) (mode : Mode) : Type 0 where
      pub object : Placed
      pub stands : placed_at versions n place ≡ Some object
      pub same : object.object ≡ number
      pub may : allows object.mode mode ≡ true

    pub object-at : (versions : VersionState) → HasObjects versions n f.holdings → (place number : ℕ) (mode : Mode) → is_queue_mode mode ≡ false → number_at f.holdings place mode ≡ Some number
        → IsObjectAt versions place number mode
    object-at versions has place number mode kind at_place =
        let used = used-at f.holdings place number mode (slice_get f.holdings place) refl at_place in
        let it = has.each place used.holding used.stands (same_kind used.holding.mode mode used.allowed ∙ kind) in
        record { object = it.object; stands = it.stands; same = it.same ∙ used.same; may = ap (λ m. allows m mode) it.mode ∙ used.allowed }

    -- and which object of the script it is
    pub object-so : (place number : ℕ) (mode : Mode) (origin : Origin) (object : Placed) → is_queue_mode mode ≡ false → MayUseAt G plan path k top place mode origin → number_at f.holdings place mode ≡ Some number
        → object.object ≡ number → slice_get r.objects object.object ≡ Some origin
    object-so place number mode origin object kind used_so at_place same =
        ap (slice_get r.objects) same ∙ sym (ap (λ b. cond b (slice_get r.queues number) (slice_get r.objects number)) kind) ∙ origin-so place number mode origin used_so at_place

    -- the value that is read is the script's at this step
    pub value-so : (object : Placed) (origin : Origin) (value : Value) → slice_get r.objects object.object ≡ Some origin → version s r object.object p ≡ Some value → cell s origin (time s path k) ≡ Some value
    value-so object origin value named is =
        ap (cell s origin) (sym (point_is s p at.left)) ∙ sym (ap (option_and_then (λ o. cell s o (point s p))) named) ∙ is

  -- one more object may be made
  pub room-for-object : (versions : VersionState) (live : NumberedFrames) (objects : ℕ) → AreObjects s r versions live objects → objects < OBJECTS_MOST
  room-for-object versions live objects have =
      omega (arith, few-objects G plan r.objects once, sound.lists.roots, sound.fuel, have.count, have.follow.objects)
    where
      once : AreEachOnce (IsObjectOf s) r.objects
      once = record { each = have.known; once = one } where
        one : (i j : ℕ) (origin : Origin) → slice_get r.objects i ≡ Some origin → slice_get r.objects j ≡ Some origin → i ≡ j
        one i j (Root index) a b = have.follow.roots i index a ∙ sym (have.follow.roots j index b)
        one i j (Step m) a b = have.follow.different i j m a b
