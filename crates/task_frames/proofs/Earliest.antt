-- The earliest of a core's live frames: there is one, and it doesn't wait.
use Rattle.std.proofs.Common.{◌≡◌, ◌≢◌, ◌⊎◌, inl, inr, ℕ, zero, suc, ◌<◌, true, false, nat_eq, None, Some, List, is_none, refl, sym, ap, ◌∙◌, arith}
use Rattle.std.proofs.lemmas.Bool.{cases_eq, cases_lt, false≢true}
use Rattle.std.proofs.lemmas.Option.{same_Some}
use Rattle.std.specs.Option.{ForSome, option_map}
use Rattle.swan_model.specs.declared.body.Body.{Ghosts}
use Rattle.swan_model.specs.declared.plan.Plan.{Plan}
use Rattle.swan_model.specs.declared.script.Script.{Script}
use Rattle.swan_model.specs.Lawful.{IsLawful}
use Rattle.swan_model.specs.Nested.{IsLeft}
use Rattle.swan_model.specs.PathOrder.{comes_before}
use Rattle.swan_model.specs.Script.{script}
use Rattle.swan_model.specs.SerialTime.{Progress, is_earlier}
use Rattle.swan_model.proofs.Elements.{found_is, option_cases, answers_same}
use Rattle.swan_model.proofs.PathOrder.{before-through, either_before, never_before-both}
use Rattle.swan_model.proofs.Points.{before_earlier, earlier_before, same_frame}
use Rattle.queues.specs.declared.answers.WaitFor.{WaitFor}
use Rattle.serial_elision.proofs.Lawful as elision
use Rattle.task_frames.specs.declared.resumed.Resumed.{Resumed}
use Rattle.task_frames.specs.declared.resumed.Resumed.TheVariants as resumed
use Rattle.task_frames.specs.Cores.{CoreView, IsCore, IsCoreView, IsGiven, KeptView, is_over}
use Rattle.task_frames.specs.Earliest.{IsEarliest, has_stepped, progress_of}
use Rattle.task_frames.specs.Frames.{FrameView, TaskView}
use Rattle.task_frames.specs.Records.{LiveFrame, NumberedFrames, come_at, come_to, live_at}
use Rattle.task_frames.specs.Resumes.{EndsOf, IsResumed, IsShownBy, waited_for}
use Rattle.task_frames.proofs.Lives.{come-only}

-- of two different paths one comes before the other
pub one-before : (path other : List ℕ) → path ≢ other → (comes_before path other ≡ true) ⊎ (comes_before other path ≡ true)
one-before path other differ = elim (either_before path other) [
  | inl same ↦ absurd (differ same)
  | inr one ↦ one
]

module _ {B L : Type 0} (G : Ghosts B L) (plan : Plan B L) (kept : KeptView) (core : IsCore G plan kept) where
  abbrev s : Script
  s = script G plan

  lawful : IsLawful s
  lawful = elision.lawful G plan core.sound.lists

  -- each has a next entry
  left : (number : ℕ) (frame : LiveFrame) → live_at kept.live number ≡ Some frame → (i : ℕ) × IsLeft s kept.reading i (progress_of number frame)
  left number frame there =
      let told = core.frames.told number frame there in
      let found = found_is (λ (q : Progress). nat_eq q.number number) kept.reading.frames _ told.progress in
      (found.index, record { stands = found.stands; left = told.stands.left })

  -- the order of paths is that of points
  pub serial-so : (number other : ℕ) (a b : LiveFrame) → live_at kept.live number ≡ Some a → live_at kept.live other ≡ Some b
      → comes_before a.path b.path ≡ is_earlier s (progress_of number a) (progress_of other b)
  serial-so number other a b here there =
      let one = left number a here in
      let two = left other b there in
      answers_same (comes_before a.path b.path) (is_earlier s (progress_of number a) (progress_of other b))
      (before_earlier s kept.reading lawful.nested core.queues.fit.tasks one.0 two.0 (progress_of number a) (progress_of other b) one.1 two.1)
      (earlier_before s kept.reading lawful.nested core.queues.fit.tasks one.0 two.0 (progress_of number a) (progress_of other b) one.1 two.1)

  -- a task has one frame
  same-number : (number other : ℕ) (a b : LiveFrame) → live_at kept.live number ≡ Some a → live_at kept.live other ≡ Some b → a.path ≡ b.path → number ≡ other
  same-number number other a b here there path =
      let one = left number a here in
      let two = left other b there in
      ap (λ (p : Progress). p.number) (same_frame s kept.reading core.queues.fit.tasks one.0 two.0 (progress_of number a) (progress_of other b) one.1.stands two.1.stands path)

  few : (number : ℕ) (frame : LiveFrame) → live_at kept.live number ≡ Some frame → number < kept.frames
  few number frame there = let one = left number frame there in core.frames.known one.0 (progress_of number frame) one.1.stands

  -- the earliest of those with lesser numbers
  record IsFirstBelow (most : ℕ) : Type 0 where
    number : ℕ
    less : number < most
    frame : LiveFrame
    there : live_at kept.live number ≡ Some frame
    first : (other : ℕ) (later : LiveFrame) → other < most → live_at kept.live other ≡ Some later → other ≢ number → comes_before frame.path later.path ≡ true

  abbrev AreNone : ℕ → Type 0
  AreNone most = (number : ℕ) (frame : LiveFrame) → number < most → live_at kept.live number ≡ Some frame → ⊥

  split : (other most : ℕ) → other < suc most → (other < most) ⊎ (other ≡ most)
  split other most less = elim (cases_lt other most) [
    | inl below ↦ inl below
    | inr above ↦ inr (omega (arith, less, above))
  ]

  with-none : (most : ℕ) → live_at kept.live most ≡ None → AreNone most ⊎ IsFirstBelow most → AreNone (suc most) ⊎ IsFirstBelow (suc most)
  with-none most none (inl all) = inl (λ number frame less there. elim (split number most less) [
    | inl below ↦ all number frame below there
    | inr same ↦ let both : None ≡ Some frame = sym none ∙ ap (live_at kept.live) (sym same) ∙ there in absurd (cc)
  ])
  with-none most none (inr is) = inr (record {
    number = is.number;
    less = (let below = is.less in omega (arith, below));
    frame = is.frame;
    there = is.there;
    first = λ other later less there differs. elim (split other most less) [
      | inl below ↦ is.first other later below there differs
      | inr same ↦ let both : None ≡ Some later = sym none ∙ ap (live_at kept.live) (sym same) ∙ there in absurd (cc)
    ];
  })

  with-one : (most : ℕ) (frame : LiveFrame) → live_at kept.live most ≡ Some frame → AreNone most ⊎ IsFirstBelow most → IsFirstBelow (suc most)
  with-one most frame there (inl all) = record {
    number = most;
    less = omega arith;
    frame = frame;
    there = there;
    first = λ other later less its differs. elim (split other most less) [
      | inl below ↦ absurd (all other later below its)
      | inr same ↦ absurd (differs same)
    ];
  }
  with-one most frame there (inr is) = elim (either_before is.frame.path frame.path) [
    | inl same ↦ let below = is.less in let one = same-number is.number most is.frame frame is.there there same in absurd (omega (arith, below, one))
    | inr differ ↦ elim differ [
      | inl before ↦ record {
        number = is.number;
        less = (let below = is.less in omega (arith, below));
        frame = is.frame;
        there = is.there;
        first = λ other later less its differs. elim (split other most less) [
          | inl below ↦ is.first other later below its differs
          | inr same ↦
              let one : frame ≡ later = same_Some frame later (sym there ∙ ap (live_at kept.live) (sym same) ∙ its) in
              ap (λ (x : LiveFrame). comes_before is.frame.path x.path) (sym one) ∙ before
        ];
      }
      | inr after ↦ record {
        number = most;
        less = omega arith;
        frame = frame;
        there = there;
        first = λ other later less its differs. elim (split other most less) [
          | inl below ↦ elim (cases_eq other is.number) [
            | inl same ↦
                let one : is.frame ≡ later = same_Some is.frame later (sym is.there ∙ ap (live_at kept.live) (sym same) ∙ its) in
                ap (λ (x : LiveFrame). comes_before frame.path x.path) (sym one) ∙ after
            | inr apart ↦ before-through frame.path is.frame.path later.path after (is.first other later below its apart)
          ]
          | inr same ↦ absurd (differs same)
        ];
      }
    ]
  ]

  first-below : (most : ℕ) → AreNone most ⊎ IsFirstBelow most
  first-below zero = inl (λ number frame less there. absurd (omega (arith, less)))
  first-below (suc most) = elim (option_cases (live_at kept.live most)) [
    | inl none ↦ with-none most none (first-below most)
    | inr some ↦ inr (with-one most some.0 some.1 (first-below most))
  ]

  -- where the root is live there is an earliest frame
  pub earliest : is_over kept ≡ false → (number : ℕ) × IsEarliest kept.live number
  earliest not_over = elim (option_cases (live_at kept.live 0)) [
    | inl none ↦ absurd (false≢true (sym not_over ∙ ap is_none none))
    | inr root ↦ elim (first-below kept.frames) [
      | inl all ↦ absurd (all 0 root.0 (few 0 root.0 root.1) root.1)
      | inr is ↦ (
        is.number,
        record { frame = is.frame; there = is.there; first = λ other later there differs. is.first other later (few other later there) there differs },
      )
    ]
  ]

module _ {B L E : Type 0} (of : EndsOf E) (kept : KeptView) (frame : FrameView B L E) (given : IsGiven kept frame.task (of.ends frame.ends)) (first : IsEarliest kept.live frame.task.number) where
  abbrev n : ℕ
  n = frame.task.number

  path-is : first.frame.path ≡ frame.task.path
  path-is = ap (λ (x : LiveFrame). x.path) (same_Some first.frame given.of.frame (sym first.there ∙ given.of.live)) ∙ given.of.path

  abbrev then-live : NumberedFrames
  then-live = come_at kept.live n frame.task.done (live_at kept.live n)

  -- no frame comes before it, once it has come in
  none-before : (m : ℕ) (other : LiveFrame) → live_at then-live m ≡ Some other → comes_before other.path frame.task.path ≡ true → ⊥
  none-before m other there before =
      let only = come-only kept.live then-live n frame.task.done (live_at kept.live n) refl refl in
      elim (cases_eq m n) [
        | inl same ↦
            let come : Some (come_to frame.task.done first.frame) ≡ Some other = sym (ap (option_map (come_to frame.task.done)) first.there) ∙ sym only.changed ∙ ap (live_at then-live) (sym same) ∙ there in
            let path : other.path ≡ frame.task.path = ap (λ (x : LiveFrame). x.path) (sym (same_Some (come_to frame.task.done first.frame) other come)) ∙ path-is in
            let itself : comes_before frame.task.path frame.task.path ≡ true = ap (λ q. comes_before q frame.task.path) (sym path) ∙ before in
            never_before-both frame.task.path frame.task.path itself itself
        | inr differs ↦
            let after = first.first m other (sym (only.others m differs) ∙ there) differs in
            never_before-both other.path first.frame.path (ap (comes_before other.path) path-is ∙ before) after
      ]

  module _ (G : Ghosts B L) (before after : CoreView B L) (keeps : before.kept ≡ Some kept) where
    never-waits : (same : FrameView B L E) (wait_for : WaitFor) → same.task.path ≡ frame.task.path → IsShownBy G of before after frame same wait_for → ⊥
    never-waits same wait_for path shown =
        let one : shown.was ≡ kept = same_Some shown.was kept (sym shown.kept_was ∙ keeps) in
        let there : live_at then-live (waited_for wait_for) ≡ Some shown.earlier.frame =
        ap (λ (k : KeptView). live_at (come_at k.live n frame.task.done (live_at k.live n)) (waited_for wait_for)) (sym one) ∙ shown.earlier.live in
        none-before (waited_for wait_for) shown.earlier.frame there (ap (comes_before shown.earlier.frame.path) (sym path) ∙ shown.earlier.earlier)

    pub goes-on : {Q : Type 0} (result : Resumed B Q L E) → IsResumed {Q = Q} G of before after frame result → (has_stepped result ≡ true) ⊎ (result ≡ resumed.NoMemory)
    goes-on (resumed.Runs next steps) is = inl refl
    goes-on (resumed.Spawned parent new steps) is = inl refl
    goes-on (resumed.Waits same waited) is = absurd (never-waits same waited.wait (ap (λ (t : TaskView B L). t.path) is.1) is.2)
    goes-on (resumed.Ended steps) is = inl refl
    goes-on (resumed.Strange same foreign) is = absurd (is.3 kept keeps given)
    goes-on resumed.NoMemory is = inr refl

-- a core that isn't done has an earliest frame
pub core-earliest : {B L : Type 0} (G : Ghosts B L) (core : CoreView B L) → IsCoreView G core → core.is_done ≡ false → ForSome core.kept (λ kept. (number : ℕ) × IsEarliest kept.live number)
core-earliest G core is not_done kept keeps = let has = is kept keeps in earliest G core.plan kept has.0 (sym has.2 ∙ not_done)
