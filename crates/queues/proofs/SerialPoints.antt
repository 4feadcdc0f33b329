-- The points of active frames among queues stand in serial order, as their points do.
use Rattle.std.proofs.Common.{◌≡◌, inl, inr, ℕ, ◌<◌, true, nat_lt, List, [], ◌∷◌, ◌++◌, length, Some, refl, sym, ap, subst, ◌∙◌, append-nil, append_assoc, ◌⊎◌, arith}
use Rattle.std.proofs.lemmas.Option.{same_Some}
use Rattle.std.proofs.lemmas.Bool.{le-ltb, lt-ltb, ltb-true}
use Rattle.std.specs.Prelude.{slice_get}
use Rattle.swan_model.specs.declared.script.Script.{Script}
use Rattle.swan_model.specs.Lawful.{IsLawful}
use Rattle.swan_model.specs.Nested.{HasTasks, IsEntryOf, IsEntryUnder, IsNested}
use Rattle.swan_model.specs.PathOrder.{comes_before}
use Rattle.swan_model.specs.QueueFollows.{Fits, FitsFrame, queue_point}
use Rattle.swan_model.specs.QueueState.{ActiveFrame, QueueState, active}
use Rattle.swan_model.specs.SerialTime.{Progress, Reading, frame_of, is_earlier, point, times}
use Rattle.swan_model.proofs.PathOrder.{IsAside, IsBelow, either_before, how_before, not_before-under}
use Rattle.swan_model.proofs.Points.{past_above, same_frame, spawns_rise}
use Rattle.swan_model.proofs.TaskEntries.{point_own, spawn_own}
use Rattle.queues.proofs.Between.{IsStill}
use Rattle.swan_model.proofs.Elements.{answers_same}
use Rattle.queues.proofs.Fitting.{fits_still}
use Rattle.swan_model.proofs.MovedFrames.{frame_in, frame_number}

-- ---- frames by their numbers

-- ---- where a frame stands

-- At this time a frame of the reading has an entry, and each child of it that it has spawned by its point was spawned
-- before.
pub record StandsAtTime (s : Script) (r : Reading) (progress : Progress) (u : ℕ) : Type 0 where
  pub index : ℕ
  pub stands : slice_get r.frames index ≡ Some progress
  pub own : IsEntryOf s progress.path u
  pub past : (spawn : ℕ) → spawn < point s progress → spawn < u

pub under_at : (s : Script) (r : Reading) (p : Progress) (u : ℕ) (path rest : List ℕ) (child : ℕ) → StandsAtTime s r p u → p.path ≡ path ++ child ∷ rest → IsEntryUnder s (path ++ child ∷ []) u
under_at s r p u path rest child at is =
    record { entry = at.own.entry; stands = at.own.stands; rest = rest; under = at.own.own ∙ is ∙ sym (append_assoc path (child ∷ []) rest) }

module _ (s : Script) (r : Reading) (tasks : HasTasks s r) (nested : IsNested s) where
  below_first : (a b : Progress) (u v : ℕ) → StandsAtTime s r a u → StandsAtTime s r b v → IsBelow a.path b.path → u < v
  below_first a b u v here there below =
      let past = past_above s r tasks (length below.rest) b.path below.rest below.number here.index a refl here.stands below.is in
      let same : past.parent ≡ b = same_frame s r tasks past.index there.index past.parent b past.stands there.stands past.own in
      let done : past.spawn < point s b = subst (λ p. past.spawn < point s p) same past.past in
      nested.whole b.path below.number past.spawn u v past.known (under_at s r a u b.path below.rest below.number here below.is) there.own (there.past past.spawn done)

  aside_first : (a b : Progress) (u v : ℕ) → StandsAtTime s r a u → StandsAtTime s r b v → IsAside a.path b.path → u < v
  aside_first a b u v here there aside =
      let one = past_above s r tasks (length aside.rest) aside.above aside.rest aside.number here.index a refl here.stands aside.is in
      let two = past_above s r tasks (length aside.more) aside.above aside.more aside.later there.index b refl there.stands aside.also in
      let rise = spawns_rise s aside.above aside.number aside.later one.spawn two.spawn aside.less one.known two.known in
      let before = nested.whole aside.above aside.number one.spawn u two.spawn one.known
      (under_at s r a u aside.above aside.rest aside.number here aside.is) (spawn_own s aside.above aside.later two.spawn two.known) rise in
      let after = nested.after aside.above aside.later two.spawn v two.known (under_at s r b v aside.above aside.more aside.later there aside.also) in
      omega (arith, before, after)

  -- who comes before another in serial order stands at an earlier time
  pub stands_before : (a b : Progress) (u v : ℕ) → StandsAtTime s r a u → StandsAtTime s r b v → comes_before a.path b.path ≡ true → u < v
  stands_before a b u v here there is = elim (how_before a.path b.path is) [
    | inl below ↦ below_first a b u v here there below
    | inr aside ↦ aside_first a b u v here there aside
  ]

  -- and of two different frames the one at the earlier time comes before
  pub order_is : (a b : Progress) (u v : ℕ) → StandsAtTime s r a u → StandsAtTime s r b v → (a.path ≡ b.path → ⊥) → nat_lt u v ≡ comes_before a.path b.path
  order_is a b u v here there apart =
      answers_same (nat_lt u v) (comes_before a.path b.path)
      (λ is.
      let less = ltb-true u v is in
      elim (either_before a.path b.path) [
        | inl same ↦ absurd (apart same)
        | inr differ ↦ elim differ [
          | inl before ↦ before
          | inr after ↦ let back = stands_before b a v u there here after in absurd (omega (arith, less, back))
        ]
      ])
      (λ is. lt-ltb u v (stands_before a b u v here there is))

module _ (s : Script) (lawful : IsLawful s) (state : QueueState) (r : Reading) (fits : Fits s state r) where
  -- an active frame, as the reading has it
  pub record IsRead (number : ℕ) (frame : ActiveFrame) (progress : Progress) : Type 0 where
    pub live : active state number ≡ Some frame
    pub known : frame_of r number ≡ Some progress
    pub fit : FitsFrame s frame progress
    pub still : IsStill s frame.path (point s progress) (queue_point s frame.path frame.deeds)

  pub is_read : (number : ℕ) (frame : ActiveFrame) (progress : Progress) → active state number ≡ Some frame → frame_of r number ≡ Some progress → IsRead number frame progress
  is_read number frame progress live known =
      let found = fits.frames number frame live in
      let same : found.0 ≡ progress = same_Some found.0 progress (sym found.1 ∙ known) in
      let fit : FitsFrame s frame progress = subst (FitsFrame s frame) same found.2 in
      record { live = live; known = known; fit = fit; still = fits_still s lawful frame progress fit }

  at_point : (number : ℕ) (frame : ActiveFrame) (p : Progress) → IsRead number frame p → StandsAtTime s r p (point s p)
  at_point number frame p read =
      let place = frame_in r.frames number p read.known in
      let many : length (times s frame.path) ≡ length (times s p.path) = ap (λ q. length (times s q)) (sym read.fit.path) in
      record { index = place.index; stands = place.stands; own = point_own s p (omega (arith, read.fit.left, many)); past = λ spawn less. less }

  pub at_queue_point : (number : ℕ) (frame : ActiveFrame) (p : Progress) → IsRead number frame p → StandsAtTime s r p (queue_point s frame.path frame.deeds)
  at_queue_point number frame p read =
      let place = frame_in r.frames number p read.known in
      let m = queue_point s frame.path frame.deeds in
      let own : IsEntryOf s frame.path m = read.still.own m read.still.order (omega arith) in
      record {
        index = place.index;
        stands = place.stands;
        own = subst (λ q. IsEntryOf s q m) (sym read.fit.path) own;
        past = λ spawn less. omega (arith, less, read.still.order);
      }

  module _ (number other : ℕ) (frame also : ActiveFrame) (a b : Progress) (one : IsRead number frame a) (two : IsRead other also b) where
    same_task : a.path ≡ b.path → (frame ≡ also) × (a ≡ b)
    same_task path =
        let here = frame_in r.frames number a one.known in
        let there = frame_in r.frames other b two.known in
        let same : a ≡ b = same_frame s r fits.tasks here.index there.index a b here.stands there.stands path in
        let numbers : number ≡ other = sym (frame_number r.frames number a one.known) ∙ ap (λ (p : Progress). p.number) same ∙ frame_number r.frames other b two.known in
        (same_Some frame also (sym one.live ∙ ap (active state) numbers ∙ two.live), same)

    -- the order of the points among queues is that of the points
    pub earlier_same : nat_lt (queue_point s frame.path frame.deeds) (queue_point s also.path also.deeds) ≡ is_earlier s a b
    earlier_same = elim (either_before a.path b.path) [
      | inl path ↦
          let both = same_task path in
          let u = queue_point s frame.path frame.deeds in
          let here : queue_point s frame.path frame.deeds ≡ queue_point s also.path also.deeds = ap (λ (f : ActiveFrame). queue_point s f.path f.deeds) both.0 in
          let there : point s a ≡ point s b = ap (point s) both.1 in
          le-ltb u (queue_point s also.path also.deeds) (omega (arith, here)) ∙ sym (le-ltb (point s a) (point s b) (omega (arith, there)))
      | inr differ ↦
          let apart : a.path ≡ b.path → ⊥ = λ path. by path differ in
          order_is s r fits.tasks lawful.nested a b (queue_point s frame.path frame.deeds) (queue_point s also.path also.deeds) (at_queue_point number frame a one) (at_queue_point other also b two) apart
          ∙ sym (order_is s r fits.tasks lawful.nested a b (point s a) (point s b) (at_point number frame a one) (at_point other also b two) apart)
    ]
      where
        itself : (path other : List ℕ) → path ≡ other → comes_before path other ≡ true → ⊥
        itself path other same is = not_before-under path [] (ap (comes_before path) (append-nil path) ∙ ap (comes_before path) same ∙ is)

        by : a.path ≡ b.path → (comes_before a.path b.path ≡ true) ⊎ (comes_before b.path a.path ≡ true) → ⊥
        by path (inl before) = itself a.path b.path path before
        by path (inr after) = itself b.path a.path (sym path) after

    -- and the serial order of the tasks
    pub serial_same : (number ≡ other → ⊥) → nat_lt (queue_point s frame.path frame.deeds) (queue_point s also.path also.deeds) ≡ comes_before frame.path also.path
    serial_same differ =
        let apart : a.path ≡ b.path → ⊥ = λ path.
        let both = same_task path in
        differ (sym (frame_number r.frames number a one.known) ∙ ap (λ (p : Progress). p.number) both.1 ∙ frame_number r.frames other b two.known) in
        order_is s r fits.tasks lawful.nested a b (queue_point s frame.path frame.deeds) (queue_point s also.path also.deeds) (at_queue_point number frame a one) (at_queue_point other also b two) apart
        ∙ ap (λ q. comes_before q b.path) one.fit.path ∙ ap (comes_before frame.path) two.fit.path
