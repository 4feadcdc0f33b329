-- Pushes, pops and tests that a frame's ends can serve: they are the frame's next queue deeds, and the frame goes on with what
-- the ends answer.
use Rattle.std.proofs.Common.{◌≡◌, inl, inr, ℕ, ◌+◌, ◌<◌, Bool, true, false, cond, List, Option, Some, None, length, map, refl, sym, ap, subst, ◌∙◌, arith}
use Rattle.std.proofs.lemmas.Bool.{cases_lt, eqb-true, lt-ltb}
use Rattle.std.proofs.lemmas.Option.{same_Some, slice_get-map}
use Rattle.std.specs.Option.{ForSome, option_map}
use Rattle.std.specs.Prelude.{IsSomeAnd, slice_get, nat_eq, not}
use Rattle.swan_model.specs.declared.body.Answer.{Answer}
use Rattle.swan_model.specs.declared.body.Answer.TheVariants as answer
use Rattle.swan_model.specs.declared.body.Ask.{Ask}
use Rattle.swan_model.specs.declared.body.Ask.TheVariants as ask
use Rattle.swan_model.specs.declared.body.Body.{Ghosts}
use Rattle.swan_model.specs.declared.origin.Origin.{Origin}
use Rattle.swan_model.specs.declared.rights.Mode.{Mode}
use Rattle.swan_model.specs.declared.rights.Mode.TheVariants.{Push, Pop}
use Rattle.swan_model.specs.declared.script.Deed.{Deed}
use Rattle.swan_model.specs.declared.script.Deed.TheVariants as deed
use Rattle.swan_model.specs.declared.script.Script.{Script}
use Rattle.swan_model.specs.declared.value.Value.{Value}
use Rattle.swan_model.specs.Lawful.{IsLawful}
use Rattle.swan_model.specs.QueueFollows.{FitsFrame, next_queue_deed, queue_time}
use Rattle.swan_model.specs.QueueState.{ActiveFrame, LentEnd}
use Rattle.swan_model.specs.Values.{COUNT_MOST}
use Rattle.swan_model.specs.Readings.{next_deed}
use Rattle.swan_model.specs.Rights.{allows, is_queue_mode}
use Rattle.swan_model.specs.Script.{script}
use Rattle.swan_model.specs.SerialState.{Activation, Holding}
use Rattle.swan_model.specs.SerialStep.{number_at}
use Rattle.swan_model.specs.SerialTime.{Progress, is_queue_deed, point, time, times}
use Rattle.swan_model.specs.Told.{count, deed_at, pushes, taken}
use Rattle.swan_model.proofs.TaskEntries.{point_is}
use Rattle.queues.specs.Asks.{LentEnds, is_end_of, with_deeds}
use Rattle.queues.specs.Ends.{HasEnd, HoldsNext, IsItemNext, IsNextPop, IsNextPush, IsNextTest}
use Rattle.queues.proofs.NextDeeds.{next_same}
use Rattle.queues.proofs.ReadingMakes.{deed_time}
use Rattle.serial_elision.specs.TaskSteps.{GoesOn, IsAsking, MayUseAt}
use Rattle.serial_elision.proofs.AskSteps.{pops-none, pops-on, pushes-on, tests-none, tests-some, use-named}
use Rattle.serial_elision.proofs.FewMade.{few-deeds}
use Rattle.serial_elision.proofs.Held.{IsUsed, used-at}
use Rattle.serial_elision.proofs.Lawful.{lawful}
use Rattle.task_frames.specs.declared.stage.Stage.TheVariants.{Asking, Ready}
use Rattle.queues.specs.Reads.{deeds_among}
use Rattle.task_frames.specs.Frames.{IsFrame, TaskView}
use Rattle.task_frames.specs.Going.{IsServedAnswer, IsNextDeed, deeds_of}
use Rattle.task_frames.proofs.Amid.{goes-on, is-asking, with-steps, worked}
use Rattle.swan_model.proofs.Uses.{same_kind}

-- what is said of the value that there is
pub some-and : {X : Type 0} (o : Option X) (P : X → Type 0) (R : Type 0) → IsSomeAnd o P → ((x : X) → o ≡ Some x → P x → R) → R
some-and None P R has gives = absurd has
some-and (Some x) P R has gives = gives x refl has

pub has-some : {X : Type 0} (o : Option X) (P : X → Type 0) → IsSomeAnd o P → (x : X) × (o ≡ Some x)
has-some None P has = absurd has
has-some (Some x) P has = (x, refl)

-- a list whose modes are those of another has a holding by the same mode at each place
pub same-mode : (xs ys : List Holding) (place : ℕ) (h : Holding) → map (λ (x : Holding). x.mode) xs ≡ map (λ (x : Holding). x.mode) ys → slice_get xs place ≡ Some h
    → (g : Holding) × (slice_get ys place ≡ Some g) × (g.mode ≡ h.mode)
same-mode xs ys place h same is = found (slice_get ys place) refl where
  modes : option_map (λ (x : Holding). x.mode) (slice_get ys place) ≡ Some h.mode
  modes = sym (slice_get-map (λ (x : Holding). x.mode) ys place) ∙ ap (λ ms. slice_get ms place) (sym same) ∙ slice_get-map (λ (x : Holding). x.mode) xs place ∙ ap (option_map (λ (x : Holding). x.mode)) is

  found : (o : Option Holding) → slice_get ys place ≡ o → (g : Holding) × (slice_get ys place ≡ Some g) × (g.mode ≡ h.mode)
  found None at = let none : option_map (λ (x : Holding). x.mode) None ≡ Some h.mode = ap (option_map (λ (x : Holding). x.mode)) (sym at) ∙ modes in absurd (cc)
  found (Some g) at = let some : Some g.mode ≡ Some h.mode = ap (option_map (λ (x : Holding). x.mode)) (sym at) ∙ modes in (g, at, same_Some g.mode h.mode some)

both-true : (b c : Bool) → cond b c false ≡ true → b ≡ true
both-true true c is = refl
both-true false c is = absurd (cc)

end-queue : (queue : ℕ) (is_producer : Bool) (end : LentEnd) → is_end_of queue is_producer end ≡ true → end.queue ≡ queue
end-queue queue true end is = eqb-true end.queue queue (both-true (nat_eq end.queue queue) end.is_producer is)
end-queue queue false end is = eqb-true end.queue queue (both-true (nat_eq end.queue queue) (not end.is_producer) is)

module _ {B L : Type 0} (G : Ghosts B L) (task : TaskView B L) (name : Option Script) (ends : LentEnds) (local : L) (asked : Ask L) (before : ℕ)
    (is : IsFrame G task name ends (Asking local asked before)) where
  abbrev s : Script
  s = script G task.plan

  abbrev now : ℕ
  now = time s task.path task.done

  abbrev top : Activation L
  top = is.alone.top

  abbrev progress : Progress
  progress = record { number = task.number; path = task.path; done = task.done }

  -- an active frame as the queues would see it
  abbrev seen : ActiveFrame
  seen = record { number = task.number; parent = None; path = task.path; children = 0; deeds = deeds_among s task.path task.done; rights = List.[]; lent = None }

  fits : FitsFrame s seen progress
  fits = record { path = refl; left = is.alone.stands.left; deeds = refl }

  next-of : (does : Deed) → deed_at s now ≡ does → next_deed s progress ≡ Some does
  next-of does it =
      ap (λ b. cond b (Some (deed_at s (point s progress))) None) (lt-ltb task.done (length (times s task.path)) is.alone.stands.left)
      ∙ ap (λ t. Some (deed_at s t)) (point_is s progress is.alone.stands.left)
      ∙ ap Some it

  -- the frame's next step, where it is a deed of queues, is the next one of its ends
  next-is : (does : Deed) → deed_at s now ≡ does → is_queue_deed does ≡ true → next_queue_deed s ends.path ends.deeds ≡ Some does
  next-is does it queue_deed =
      ap (λ p. next_queue_deed s p ends.deeds) is.lent.path ∙ ap (next_queue_deed s task.path) is.lent.deeds ∙ next_same s seen progress fits does (next-of does it) queue_deed

  -- what the frame may use at a place, by the run's number
  record IsUsable (place number : ℕ) (mode : Mode) : Type 0 where
    pub used : IsUsed task.holdings place number mode
    pub origin : Origin
    pub may : MayUseAt G task.plan task.path task.done top place mode origin

  usable : (place number : ℕ) (mode : Mode) → number_at task.holdings place mode ≡ Some number → IsUsable place number mode
  usable place number mode at =
      let used = used-at task.holdings place number mode (slice_get task.holdings place) refl at in
      let same = same-mode task.holdings top.holdings place used.holding is.alone.modes used.stands in
      let named = use-named G task.plan task.path task.done top is.plan.lists is.alone.stands place same.0 mode same.1 (ap (λ m. allows m mode) same.2 ∙ used.allowed) in
      record { used = used; origin = named.0; may = named.1 }

  -- an end of a queue that the frame holds at a place is one of that queue
  same-queue : (place number : ℕ) (mode : Mode) (has : IsUsable place number mode) → is_queue_mode mode ≡ true
      → (is_producer : Bool) (origin : Origin) → HasEnd s ends number is_producer origin → origin ≡ has.origin
  same-queue place number mode has queue_mode is_producer origin end =
      let h = has.used.holding in
      let kind_is : is_queue_mode h.mode ≡ true = same_kind h.mode mode has.used.allowed ∙ queue_mode in
      let of = is.lent.queues top is.alone.stands end.index place end.end h (record { origin = has.origin; mode = has.may.holding.mode }) end.stands has.used.stands kind_is
      (has.used.same ∙ sym (end-queue number is_producer end.end end.is)) has.may.named in
      same_Some origin has.origin (sym end.of ∙ of)

  next-push : (place number : ℕ) (value : Value) → asked ≡ ask.Push place value → number_at task.holdings place Push ≡ Some number → IsNextPush s ends number value
  next-push place number value asks at origin end =
      let has = usable place number Push at in
      let asking = subst (IsAsking G task.plan task.path task.done top local) asks (is-asking G name task ends local asked before is) in
      let goes = pushes-on G task.plan task.path task.done top local is.plan.lists place value has.origin asking has.may in
      next-is (deed.Push has.origin value) goes.deed refl
      ∙ ap (λ o. Some (deed.Push o value)) (sym (same-queue place number Push has refl true origin end))

  -- the deed of a pop, whether or not an item is left
  pop-deed : (place : ℕ) (origin : Origin) → asked ≡ ask.Pop place → MayUseAt G task.plan task.path task.done top place Pop origin → deed_at s now ≡ deed.Pop origin
  pop-deed place origin asks may =
      let asking = subst (IsAsking G task.plan task.path task.done top local) asks (is-asking G name task ends local asked before is) in
      elim (cases_lt (taken s origin now) (count s origin now)) [
        | inl some ↦
            some-and (slice_get (pushes s origin) (taken s origin now)) (λ value. GoesOn G task.plan task.path task.done top local (answer.Item value) (deed.Pop origin)) (deed_at s now ≡ deed.Pop origin)
            (pops-on G task.plan task.path task.done top local is.plan.lists place origin may asking some) (λ item there goes. goes.deed)
        | inr none ↦ (pops-none G task.plan task.path task.done top local is.plan.lists place origin may asking none).deed
      ]

  next-pop : (place number : ℕ) → asked ≡ ask.Pop place → number_at task.holdings place Pop ≡ Some number → IsNextPop s ends number
  next-pop place number asks at origin end =
      let has = usable place number Pop at in
      next-is (deed.Pop has.origin) (pop-deed place has.origin asks has.may) refl
      ∙ ap (λ (o : Origin). Some (deed.Pop o)) (sym (same-queue place number Pop has refl false origin end))

  -- the deed of a test, whatever it finds
  test-deed : (place : ℕ) (origin : Origin) → asked ≡ ask.Empty place → MayUseAt G task.plan task.path task.done top place Pop origin → deed_at s now ≡ deed.Test origin
  test-deed place origin asks may =
      let asking = subst (IsAsking G task.plan task.path task.done top local) asks (is-asking G name task ends local asked before is) in
      elim (cases_lt (taken s origin now) (count s origin now)) [
        | inl some ↦ (tests-some G task.plan task.path task.done top local is.plan.lists place origin may asking some).deed
        | inr none ↦ (tests-none G task.plan task.path task.done top local is.plan.lists place origin may asking none).deed
      ]

  next-test : (place number : ℕ) → asked ≡ ask.Empty place → number_at task.holdings place Pop ≡ Some number → IsNextTest s ends number
  next-test place number asks at origin end =
      let has = usable place number Pop at in
      next-is (deed.Test has.origin) (test-deed place has.origin asks has.may) refl
      ∙ ap (λ (o : Origin). Some (deed.Test o)) (sym (same-queue place number Pop has refl false origin end))

  pub room : ends.deeds < COUNT_MOST
  room =
      let most = is.plan.fuel in
      let few = few-deeds G task.plan task.path task.done in
      let deeds = is.lent.deeds in
      omega (arith, few, deeds, most)

  -- where the frame's next step is a deed of queues, its ends have the time of that step
  time-is : (does : Deed) → deed_at s now ≡ does → is_queue_deed does ≡ true → queue_time s ends.path ends.deeds ≡ now
  time-is does it queue_deed =
      let deed_here : is_queue_deed (deed_at s (point s progress)) ≡ true = ap (λ t. is_queue_deed (deed_at s t)) (point_is s progress is.alone.stands.left) ∙ ap is_queue_deed it ∙ queue_deed in
      ap (λ p. queue_time s p ends.deeds) is.lent.path ∙ ap (queue_time s task.path) is.lent.deeds ∙ deed_time s seen progress fits deed_here ∙ point_is s progress is.alone.stands.left

  -- the item that the script has for the frame's pop
  item-is : (origin : Origin) (item : Value) → deed_at s now ≡ deed.Pop origin → IsItemNext s ends item
      → (slice_get (pushes s origin) (taken s origin now) ≡ Some item) × (taken s origin now < count s origin now)
  item-is origin item it told =
      subst (λ t. (slice_get (pushes s origin) (taken s origin t) ≡ Some item) × (taken s origin t < count s origin t)) (time-is (deed.Pop origin) it refl) (told origin (next-is (deed.Pop origin) it refl))

  -- the script has an item for the frame's test
  some-is : (origin : Origin) → deed_at s now ≡ deed.Test origin → HoldsNext s ends → taken s origin now < count s origin now
  some-is origin it told = subst (λ t. taken s origin t < count s origin t) (time-is (deed.Test origin) it refl) (told origin (next-is (deed.Test origin) it refl))

  then-pushed : 0 < task.done → (place number : ℕ) (value : Value) → asked ≡ ask.Push place value → number_at task.holdings place Push ≡ Some number
      → IsFrame G (with-steps G name task (task.done + 1) task.fuel) name (with_deeds ends (ends.deeds + 1)) (Ready local answer.Nothing)
  then-pushed begun place number value asks at =
      let has = usable place number Push at in
      let asking = subst (IsAsking G task.plan task.path task.done top local) asks (is-asking G name task ends local asked before is) in
      goes-on G name task ends local asked before is begun answer.Nothing (deed.Push has.origin value) (with_deeds ends (ends.deeds + 1))
      (pushes-on G task.plan task.path task.done top local is.plan.lists place value has.origin asking has.may) refl refl

  then-popped : 0 < task.done → (place number : ℕ) (item : Value) → asked ≡ ask.Pop place → number_at task.holdings place Pop ≡ Some number → ForSome name (λ s. IsLawful s → IsItemNext s ends item)
      → IsFrame G (with-steps G name task (task.done + 1) task.fuel) name (with_deeds ends (ends.deeds + 1)) (Ready local (answer.Item item))
  then-popped begun place number item asks at told =
      let has = usable place number Pop at in
      let asking = subst (IsAsking G task.plan task.path task.done top local) asks (is-asking G name task ends local asked before is) in
      let there = item-is has.origin item (pop-deed place has.origin asks has.may) (told s is.lent.named (lawful G task.plan is.plan.lists)) in
      some-and (slice_get (pushes s has.origin) (taken s has.origin now)) (λ value. GoesOn G task.plan task.path task.done top local (answer.Item value) (deed.Pop has.origin))
      (IsFrame G (with-steps G name task (task.done + 1) task.fuel) name (with_deeds ends (ends.deeds + 1)) (Ready local (answer.Item item)))
      (pops-on G task.plan task.path task.done top local is.plan.lists place has.origin has.may asking there.1)
      (λ value found goes. goes-on G name task ends local asked before is begun (answer.Item item) (deed.Pop has.origin) (with_deeds ends (ends.deeds + 1))
      (subst (λ v. GoesOn G task.plan task.path task.done top local (answer.Item v) (deed.Pop has.origin)) (same_Some value item (sym found ∙ there.0)) goes) refl refl)

  then-tested : 0 < task.done → (place number : ℕ) → asked ≡ ask.Empty place → number_at task.holdings place Pop ≡ Some number → ForSome name (λ s. IsLawful s → HoldsNext s ends)
      → IsFrame G (with-steps G name task (task.done + 1) task.fuel) name (with_deeds ends (ends.deeds + 1)) (Ready local (answer.Flag false))
  then-tested begun place number asks at told =
      let has = usable place number Pop at in
      let asking = subst (IsAsking G task.plan task.path task.done top local) asks (is-asking G name task ends local asked before is) in
      let some = some-is has.origin (test-deed place has.origin asks has.may) (told s is.lent.named (lawful G task.plan is.plan.lists)) in
      goes-on G name task ends local asked before is begun (answer.Flag false) (deed.Test has.origin) (with_deeds ends (ends.deeds + 1))
      (tests-some G task.plan task.path task.done top local is.plan.lists place has.origin has.may asking some) refl refl

-- what the frame asks its ends for is its next queue deed
pub next-ask : {B L : Type 0} (G : Ghosts B L) (task : TaskView B L) (name : Option Script) (ends : LentEnds) (local : L) (asked : Ask L) (before : ℕ)
    → IsFrame G task name ends (Asking local asked before) → IsNextDeed name task.holdings ends asked
next-ask G task name ends local ask.Work before is = tt
next-ask G task name ends local (ask.Read place) before is = tt
next-ask G task name ends local (ask.Write place value) before is = tt
next-ask G task name ends local (ask.Push place value) before is = λ number at s named.
    subst (λ x. IsNextPush x ends number value) (same_Some (script G task.plan) s (sym is.lent.named ∙ named)) (next-push G task name ends local (ask.Push place value) before is place number value refl at)
next-ask G task name ends local (ask.Pop place) before is = λ number at s named.
    subst (λ x. IsNextPop x ends number) (same_Some (script G task.plan) s (sym is.lent.named ∙ named)) (next-pop G task name ends local (ask.Pop place) before is place number refl at)
next-ask G task name ends local (ask.Empty place) before is = λ number at s named.
    subst (λ x. IsNextTest x ends number) (same_Some (script G task.plan) s (sym is.lent.named ∙ named)) (next-test G task name ends local (ask.Empty place) before is place number refl at)
next-ask G task name ends local ask.NewQueue before is = tt
next-ask G task name ends local (ask.NewObject value) before is = tt
next-ask G task name ends local (ask.Spawn child) before is = tt
next-ask G task name ends local ask.Sync before is = tt
next-ask G task name ends local ask.Finish before is = tt
next-ask G task name ends local (ask.Fail trouble) before is = tt

-- and once they have served it, the frame goes on
served-so : {B L : Type 0} (G : Ghosts B L) (task : TaskView B L) (name : Option Script) (ends : LentEnds) (local : L) (asked : Ask L) (before : ℕ) (said : Answer)
    → IsFrame G task name ends (Asking local asked before) → 0 < task.done → IsServedAnswer name task.holdings ends asked said
    → IsFrame G (with-steps G name task (task.done + 1) task.fuel) name (with_deeds ends (ends.deeds + deeds_of asked)) (Ready local said)
served-so G task name ends local ask.Work before said is begun says =
    let none : ends.deeds ≡ ends.deeds + 0 = omega arith in
    subst (λ a. IsFrame G (with-steps G name task (task.done + 1) task.fuel) name (with_deeds ends (ends.deeds + 0)) (Ready local a)) (sym says)
    (subst (λ n. IsFrame G (with-steps G name task (task.done + 1) task.fuel) name (with_deeds ends n) (Ready local answer.Nothing)) none (worked G name task ends local ask.Work before is begun refl))
served-so G task name ends local (ask.Push place value) before said is begun says =
    let number = has-some (number_at task.holdings place Push) _ says.1 in
    subst (λ a. IsFrame G (with-steps G name task (task.done + 1) task.fuel) name (with_deeds ends (ends.deeds + 1)) (Ready local a)) (sym says.0)
    (then-pushed G task name ends local (ask.Push place value) before is begun place number.0 value refl number.1)
served-so G task name ends local (ask.Pop place) before said is begun says =
    let number = has-some (number_at task.holdings place Pop) _ says.1 in
    subst (λ a. IsFrame G (with-steps G name task (task.done + 1) task.fuel) name (with_deeds ends (ends.deeds + 1)) (Ready local a)) (sym says.0.1)
    (then-popped G task name ends local (ask.Pop place) before is begun place number.0 says.0.0 refl number.1 says.0.2)
served-so G task name ends local (ask.Read place) before said is begun says = absurd says
served-so G task name ends local (ask.Write place value) before said is begun says = absurd says
served-so G task name ends local (ask.Empty place) before said is begun says =
    let number = has-some (number_at task.holdings place Pop) _ says.1 in
    subst (λ a. IsFrame G (with-steps G name task (task.done + 1) task.fuel) name (with_deeds ends (ends.deeds + 1)) (Ready local a)) (sym says.0.0)
    (then-tested G task name ends local (ask.Empty place) before is begun place number.0 refl number.1 says.0.1)
served-so G task name ends local ask.NewQueue before said is begun says = absurd says
served-so G task name ends local (ask.NewObject value) before said is begun says = absurd says
served-so G task name ends local (ask.Spawn child) before said is begun says = absurd says
served-so G task name ends local ask.Sync before said is begun says = absurd says
served-so G task name ends local ask.Finish before said is begun says = absurd says
served-so G task name ends local (ask.Fail trouble) before said is begun says = absurd says

module _ {B L : Type 0} (G : Ghosts B L) (task : TaskView B L) (name : Option Script) (ends : LentEnds) (local : L) (asked : Ask L) (before : ℕ) where
  -- whatever ends are the same to contracts
  pub served : (said : Answer) (then_name : Option Script) (then_ends : LentEnds) → IsFrame G task name ends (Asking local asked before) → 0 < task.done → IsServedAnswer name task.holdings ends asked said
      → then_name ≡ name → then_ends ≡ with_deeds ends (ends.deeds + deeds_of asked)
      → IsFrame G (with-steps G name task (task.done + 1) task.fuel) then_name then_ends (Ready local said)
  served said then_name then_ends is begun says named same =
      subst (λ n. IsFrame G (with-steps G name task (task.done + 1) task.fuel) n then_ends (Ready local said)) (sym named)
      (subst (λ e. IsFrame G (with-steps G name task (task.done + 1) task.fuel) name e (Ready local said)) (sym same) (served-so G task name ends local asked before said is begun says))

  pub same-ends : (asked_then : Ask L) (then_name : Option Script) (then_ends : LentEnds) → IsFrame G task name ends (Asking local asked before) → asked_then ≡ asked → then_name ≡ name → then_ends ≡ ends
      → IsFrame G task then_name then_ends (Asking local asked_then before)
  same-ends asked_then then_name then_ends is again named same =
      subst (λ a. IsFrame G task then_name then_ends (Asking local a before)) (sym again)
      (subst (λ n. IsFrame G task n then_ends (Asking local asked before)) (sym named) (subst (λ e. IsFrame G task name e (Asking local asked before)) (sym same) is))
