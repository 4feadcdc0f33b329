-- Steps at the core that read and write objects.
use Rattle.std.proofs.Common.{◌≡◌, ℕ, ◌+◌, true, false, Some, refl, sym, ap, subst, ◌∙◌}
use Rattle.std.proofs.lemmas.Option.{same_Some}
use Rattle.std.specs.Option.{option_map}
use Rattle.std.specs.Prelude.{slice_get}
use Rattle.swan_model.specs.declared.body.Answer.TheVariants as answer
use Rattle.swan_model.specs.declared.body.Ask.{Ask}
use Rattle.swan_model.specs.declared.body.Ask.TheVariants as ask
use Rattle.swan_model.specs.declared.body.Body.{Ghosts}
use Rattle.swan_model.specs.declared.origin.Origin.{Origin}
use Rattle.swan_model.specs.declared.rights.Mode.{Mode}
use Rattle.swan_model.specs.declared.rights.Mode.TheVariants.{In, Out}
use Rattle.swan_model.specs.declared.script.Deed.TheVariants as deed
use Rattle.swan_model.specs.declared.script.Script.{Script}
use Rattle.swan_model.specs.declared.value.Value.{Value}
use Rattle.swan_model.specs.Readings.{gone_on_by}
use Rattle.swan_model.specs.Rights.{allows, is_queue_mode}
use Rattle.swan_model.specs.Script.{script}
use Rattle.swan_model.specs.SerialStep.{number_at}
use Rattle.swan_model.specs.SerialTime.{Progress, Reading, frame_of, time, version}
use Rattle.swan_model.specs.Told.{cell}
use Rattle.swan_model.specs.Versions.{Placed, VersionState, after_write, owed, placed_at}
use Rattle.swan_model.specs.VersionsFollow.{ObjectsFollow}
use Rattle.queues.specs.declared.answers.WaitFor.TheVariants as wait
use Rattle.serial_elision.specs.TaskSteps.{GoesOn, MayUseAt}
use Rattle.serial_elision.proofs.AskSteps.{reads, writes}
use Rattle.task_frames.specs.declared.stage.Stage.TheVariants.{Ready}
use Rattle.task_frames.specs.declared.step.Step.TheVariants as step
use Rattle.task_frames.specs.Cores.{FrameAtCoreView, HasIt, KeptView, MayBegin, Mid, asking, one_on}
use Rattle.task_frames.specs.Records.{IsOnlyLive, come_to, live_at}
use Rattle.task_frames.specs.Resumes.{IsStep, at_read}
use Rattle.task_frames.proofs.Asked.{quiet-so, usable, written-so}
use Rattle.task_frames.proofs.Firsts.{owed-before, waits-so}
use Rattle.task_frames.proofs.Goings.{done-is, is-asking, known, lawful}
use Rattle.task_frames.proofs.Rights as rights
use Rattle.task_frames.proofs.Served.{some-and}

module _ {B L : Type 0} (G : Ghosts B L) (kept : KeptView) (mid : Mid B L) (asks : Ask L) (has : HasIt G kept (asking mid asks)) (place number : ℕ) (mode : Mode) (kind : is_queue_mode mode ≡ false)
    (at : number_at mid.task.holdings place mode ≡ Some number) where
  abbrev pub at-record : number_at has.of.frame.holdings place mode ≡ Some number
  at-record = ap (λ hs. number_at hs place mode) has.of.holdings ∙ at

  abbrev pub found : rights.IsObjectAt G mid.task.plan has.core.sound (lawful G kept (asking mid asks) has) kept.reading mid.task.number has.of.frame
      (has.core.frames.told mid.task.number has.of.frame has.of.live) mid.task.path mid.task.done has.is.alone.top has.of.path (done-is G kept (asking mid asks) has) has.is.alone.stands kept.versions place number mode
  found =
      rights.object-at G mid.task.plan has.core.sound (lawful G kept (asking mid asks) has) kept.reading mid.task.number has.of.frame
      (has.core.frames.told mid.task.number has.of.frame has.of.live) mid.task.path mid.task.done has.is.alone.top has.of.path (done-is G kept (asking mid asks) has) has.is.alone.stands
      kept.versions (has.core.objects.each mid.task.number has.of.frame has.of.live) place number mode kind at-record

  abbrev pub object-there : (object : Placed) × (placed_at kept.versions mid.task.number place ≡ Some object)
  object-there = (found.object, found.stands)

  pub object-may : allows object-there.0.mode mode ≡ true
  object-may = found.may

  pub object-named : (origin : Origin) → MayUseAt G mid.task.plan mid.task.path mid.task.done has.is.alone.top place mode origin → slice_get kept.reading.objects object-there.0.object ≡ Some origin
  object-named origin may =
      rights.object-so G mid.task.plan has.core.sound (lawful G kept (asking mid asks) has) kept.reading mid.task.number has.of.frame
      (has.core.frames.told mid.task.number has.of.frame has.of.live) mid.task.path mid.task.done has.is.alone.top has.of.path (done-is G kept (asking mid asks) has) has.is.alone.stands
      place number mode origin found.object kind may at-record found.same

module _ {B L : Type 0} (G : Ghosts B L) (kept : KeptView) (mid : Mid B L) (place number : ℕ) (has : HasIt G kept (asking mid (ask.Read place))) (at : number_at mid.task.holdings place In ≡ Some number) where
  pub read-runs : (begun : MayBegin kept mid.task.number) (value : Value)
      → ((s : Script) (r : Reading) (reader : Progress) (object : Placed) → ObjectsFollow s r kept.versions → frame_of r mid.task.number ≡ Some reader
      → placed_at kept.versions mid.task.number place ≡ Some object → version s r object.object reader ≡ Some value)
      → (after : KeptView) (next : FrameAtCoreView B L) → next ≡ record { task = one_on mid.task; stage = Ready mid.local (answer.Item value) }
      → IsOnlyLive kept.live after.live mid.task.number (option_map (come_to (mid.task.done + 1)) (live_at kept.live mid.task.number))
      → after ≡ record kept { reading = gone_on_by kept.reading mid.task.number 1; live = after.live } → IsStep G kept after mid.task (step.Runs next)
  read-runs begun value follows after next next_is only after_is =
      let asks = ask.Read place in
      let may = usable G kept mid asks has place number In at in
      let there = object-there G kept mid asks has place number In refl at in
      let named = object-named G kept mid asks has place number In refl at may.0 may.1 in
      let s = script G mid.task.plan in
      let read = follows s kept.reading (record { number = mid.task.number; path = mid.task.path; done = mid.task.done }) there.0 has.core.objects.follow (known G kept (asking mid asks) has) there.1 in
      let value_is : cell s may.0 (time s mid.task.path mid.task.done) ≡ Some value =
      rights.value-so G mid.task.plan has.core.sound (lawful G kept (asking mid asks) has) kept.reading mid.task.number has.of.frame
      (has.core.frames.told mid.task.number has.of.frame has.of.live) mid.task.path mid.task.done has.is.alone.top has.of.path (done-is G kept (asking mid asks) has) has.is.alone.stands
      there.0 may.0 value named read in
      let goes : GoesOn G mid.task.plan mid.task.path mid.task.done has.is.alone.top mid.local (answer.Item value) (deed.Read may.0) =
      some-and (cell s may.0 (time s mid.task.path mid.task.done)) (λ v. GoesOn G mid.task.plan mid.task.path mid.task.done has.is.alone.top mid.local (answer.Item v) (deed.Read may.0))
      (GoesOn G mid.task.plan mid.task.path mid.task.done has.is.alone.top mid.local (answer.Item value) (deed.Read may.0))
      (reads G mid.task.plan mid.task.path mid.task.done has.is.alone.top mid.local has.is.plan.lists place may.0 (is-asking G kept mid asks has begun) may.1)
      (λ v is goes_v. subst (λ x. GoesOn G mid.task.plan mid.task.path mid.task.done has.is.alone.top mid.local (answer.Item x) (deed.Read may.0)) (same_Some v value (sym is ∙ value_is)) goes_v) in
      quiet-so G kept mid asks has begun (answer.Item value) (deed.Read may.0) goes after next next_is only after_is refl refl refl (λ same. absurd (cc))

  pub read-waits : (owing : ℕ) → ((object : Placed) → placed_at kept.versions mid.task.number place ≡ Some object → object.present ≡ owed owing)
      → (after : KeptView) (same : FrameAtCoreView B L) → after ≡ kept → same ≡ asking mid (ask.Read place) → IsStep G kept after mid.task (step.Waits same (wait.Version owing))
  read-waits owing owes after same after_is same_is =
      let there = object-there G kept mid (ask.Read place) has place number In refl at in
      let named = at ∙ ap Some (sym (found G kept mid (ask.Read place) has place number In refl at).same) in
      waits-so G kept (asking mid (ask.Read place)) has after same (wait.Version owing) after_is same_is
      (at_read mid.local place mid.at there.0 refl named there.1 (owes there.0 there.1)) (owed-before G kept (asking mid (ask.Read place)) has owing place there.0 there.1 (owes there.0 there.1))

module _ {B L : Type 0} (G : Ghosts B L) (kept : KeptView) (mid : Mid B L) (place number : ℕ) (value : Value) (has : HasIt G kept (asking mid (ask.Write place value)))
    (at : number_at mid.task.holdings place Out ≡ Some number) where
  pub write-runs : (begun : MayBegin kept mid.task.number) (after : KeptView) (next : FrameAtCoreView B L) → next ≡ record { task = one_on mid.task; stage = Ready mid.local answer.Nothing }
      → IsOnlyLive kept.live after.live mid.task.number (option_map (come_to (mid.task.done + 1)) (live_at kept.live mid.task.number))
      → after ≡ record kept { versions = after_write kept.versions mid.task.number place value; reading = gone_on_by kept.reading mid.task.number 1; live = after.live }
      → IsStep G kept after mid.task (step.Runs next)
  write-runs begun after next next_is only after_is =
      let asks = ask.Write place value in
      let may = usable G kept mid asks has place number Out at in
      let there = object-there G kept mid asks has place number Out refl at in
      written-so G kept mid asks has begun answer.Nothing (deed.Write may.0 value)
      (writes G mid.task.plan mid.task.path mid.task.done has.is.alone.top mid.local has.is.plan.lists place value may.0 (is-asking G kept mid asks has begun) may.1)
      after next next_is only place value may.0 there.0 after_is refl there.1 (object-may G kept mid asks has place number Out refl at) (object-named G kept mid asks has place number Out refl at may.0 may.1)

-- what is kept, once the objects are those after a write
pub written-kept : (kept now : KeptView) (versions : VersionState) (n m place : ℕ) (value : Value) → versions ≡ after_write kept.versions n place value → kept ≡ now → n ≡ m
    → ◌≡◌ {A = KeptView} (record kept { versions = versions }) (record now { versions = after_write now.versions m place value })
written-kept kept now versions n m place value is same number =
    ap {B = KeptView} (λ v. record kept { versions = v }) is
    ∙ ap {B = KeptView} (λ (k : KeptView). record k { versions = after_write k.versions n place value }) same
    ∙ ap {B = KeptView} (λ j. record now { versions = after_write now.versions j place value }) number
