-- What the core keeps of its booked faults: they stay those of the tasks that have ended, each once, as the reading goes on.
use Rattle.std.proofs.Common.{◌≡◌, ◌≢◌, inl, inr, ℕ, ◌+◌, ◌<◌, nat_eq, List, [], ◌∷◌, ◌++◌, None, Some, length, refl, sym, ap, subst, ◌∙◌, arith}
use Rattle.std.proofs.lemmas.Bool.{cases_eq, eqb-true}
use Rattle.std.proofs.lemmas.Option.{same_Some}
use Rattle.std.specs.List.{find}
use Rattle.std.specs.Prelude.{slice_get}
use Rattle.swan_model.specs.declared.body.Body.{Ghosts}
use Rattle.swan_model.specs.declared.fault.Fault.{Fault}
use Rattle.swan_model.specs.declared.fault.FaultKind.{FaultKind}
use Rattle.swan_model.specs.declared.plan.Plan.{Plan}
use Rattle.swan_model.specs.declared.script.Script.{Script}
use Rattle.swan_model.specs.Nested.{HasTasks}
use Rattle.swan_model.specs.Script.{is_end, script}
use Rattle.swan_model.specs.SerialState.{Activation}
use Rattle.swan_model.specs.SerialStep.{Effect, ends, faults}
use Rattle.swan_model.specs.SerialTime.{Progress, Reading, frame_of, times}
use Rattle.swan_model.specs.TrueFrames.{StandsAt, effect_at}
use Rattle.swan_model.proofs.Elements.{before_more, found_is, last_more, more_cases}
use Rattle.swan_model.specs.Readings.{gone_on_by}
use Rattle.serial_elision.specs.TaskSteps.{IsFaultOf}
use Rattle.serial_elision.proofs.TaskSteps.{ends_last, stands-one}
use Rattle.task_frames.specs.Cores.{AreBooked, HasEnded}
use Rattle.task_frames.proofs.GoneOn.{child-spawned, other-gone_by, other-spawned, own-gone_by, parent-spawned, with-child}

same-kind : {L : Type 0} (a b : FaultKind) → ◌≡◌ {A = Effect L} (faults a) (faults b) → a ≡ b
same-kind a b same = cc

module _ {B L : Type 0} (G : Ghosts B L) (plan : Plan B L) where
  abbrev s : Script
  s = script G plan

  -- a step that is a fault books this one
  pub fault-of-step : (path : List ℕ) (k : ℕ) (top : Activation L) (kind : FaultKind) (place : ℕ) → StandsAt G plan path k top → effect_at G plan path k top ≡ faults kind → place ≡ G.place_of plan.body top.local
      → IsFaultOf G plan (record { path = path; place = place; kind = kind })
  fault-of-step path k top kind place at is here =
      record { k = k; top = top; stands = at; effect = is; place = here; last = ends_last G plan path k top at (ap is_end is) }

  -- and it is the one of its task's last step
  pub fault-stands : (fault : Fault) → IsFaultOf G plan fault → (path : List ℕ) (k : ℕ) (top : Activation L) → StandsAt G plan path k top → k + 1 ≡ length (times s path) → fault.path ≡ path
      → (effect_at G plan path k top ≡ faults fault.kind) × (fault.place ≡ G.place_of plan.body top.local)
  fault-stands fault is path k top at last own =
      let same : is.k ≡ k = let a = is.last in let e = ap (λ p. length (times s p)) own in omega (arith, a, last, e) in
      let here : StandsAt G plan path k is.top = subst (λ j. StandsAt G plan path j is.top) same (subst (λ p. StandsAt G plan p is.k is.top) own is.stands) in
      let one = stands-one G plan path k is.top top here at in (
        ap (effect_at G plan path k) (sym one) ∙ ap (λ j. effect_at G plan path j is.top) (sym same) ∙ ap (λ p. effect_at G plan p is.k is.top) (sym own) ∙ is.effect,
        is.place ∙ ap (λ (a : Activation L). G.place_of plan.body a.local) one,
      )

  -- ---- who has ended

  pub ended-same : (r then_r : Reading) (booked : List Fault) → ((path : List ℕ) → HasEnded G plan r path → HasEnded G plan then_r path) → ((path : List ℕ) → HasEnded G plan then_r path → HasEnded G plan r path)
      → AreBooked G plan r booked → AreBooked G plan then_r booked
  ended-same r then_r booked to back are = record {
    only = λ i fault at. let was = are.only i fault at in (was.0, to fault.path was.1);
    all = λ fault is over. are.all fault is (back fault.path over);
    once = are.once;
  }

  -- a reading with the same frames
  pub frames-same : (r then_r : Reading) (booked : List Fault) → then_r.frames ≡ r.frames → AreBooked G plan r booked → AreBooked G plan then_r booked
  frames-same r then_r booked same are =
      ended-same r then_r booked
      (λ path over. record { number = over.number; progress = over.progress; known = ap (find (λ (p : Progress). nat_eq p.number over.number)) same ∙ over.known; own = over.own; all = over.all })
      (λ path over. record { number = over.number; progress = over.progress; known = ap (find (λ (p : Progress). nat_eq p.number over.number)) (sym same) ∙ over.known; own = over.own; all = over.all })
      are

  module _ (r : Reading) (n : ℕ) (path : List ℕ) (k : ℕ) (known : frame_of r n ≡ Some (record { number = n; path = path; done = k })) where
    -- who had ended before, and isn't this frame, has ended then, and the other way round
    still-ended : (many : ℕ) (other : List ℕ) (over : HasEnded G plan r other) → over.number ≢ n → HasEnded G plan (gone_on_by r n many) other
    still-ended many other over apart =
        record { number = over.number; progress = over.progress; known = other-gone_by r n many over.number apart ∙ over.known; own = over.own; all = over.all }

    was-ended : (many : ℕ) (other : List ℕ) (over : HasEnded G plan (gone_on_by r n many) other) → over.number ≢ n → HasEnded G plan r other
    was-ended many other over apart =
        record { number = over.number; progress = over.progress; known = sym (other-gone_by r n many over.number apart) ∙ over.known; own = over.own; all = over.all }

    -- a frame that has an entry left hasn't ended
    not-over : (j : ℕ) (then_r : Reading) (other : List ℕ) → frame_of then_r n ≡ Some (record { number = n; path = path; done = j }) → j < length (times s path) → (over : HasEnded G plan then_r other) → over.number ≢ n
    not-over j then_r other here left over same =
        let it : over.progress ≡ record { number = n; path = path; done = j } = same_Some over.progress _ (sym over.known ∙ ap (frame_of then_r) same ∙ here) in
        let e : j ≡ length (times s path) = ap (λ (p : Progress). p.done) (sym it) ∙ over.all ∙ ap (λ q. length (times s q)) (sym over.own ∙ ap (λ (p : Progress). p.path) it) in
        omega (arith, e, left)

    -- none of the booked faults is of its task, where that has an entry left
    pub fresh : HasTasks s r → (booked : List Fault) → AreBooked G plan r booked → k < length (times s path) → (i : ℕ) (other : Fault) → slice_get booked i ≡ Some other → other.path ≢ path
    fresh tasks booked are left i other there path_is =
        let over = (are.only i other there).1 in
        let one = found_is (λ (p : Progress). nat_eq p.number over.number) r.frames over.progress over.known in
        let two = found_is (λ (p : Progress). nat_eq p.number n) r.frames (record { number = n; path = path; done = k }) known in
        let index : one.index ≡ two.index = tasks.different one.index two.index over.progress (record { number = n; path = path; done = k }) one.stands two.stands (over.own ∙ path_is) in
        let it : over.progress ≡ record { number = n; path = path; done = k } = same_Some over.progress _ (sym one.stands ∙ ap (slice_get r.frames) index ∙ two.stands) in
        let number : over.number ≡ n = sym (eqb-true over.progress.number over.number one.passes) ∙ ap (λ (p : Progress). p.number) it in
        not-over k r other.path known left over number

    -- it goes on, with an entry left
    pub goes : (many : ℕ) (booked : List Fault) → k + many < length (times s path) → AreBooked G plan r booked → AreBooked G plan (gone_on_by r n many) booked
    goes many booked left are =
        ended-same r (gone_on_by r n many) booked
        (λ other over. still-ended many other over (not-over k r other known (omega (arith, left)) over))
        (λ other over. was-ended many other over (not-over (k + many) (gone_on_by r n many) other (own-gone_by r n many (record { number = n; path = path; done = k }) known) left over))
        are

    -- it spawns a child that has an entry left
    pub spawns : (new : Progress) (booked : List Fault) → k + 1 < length (times s path) → new.number ≢ n → frame_of r new.number ≡ None → new.done < length (times s new.path)
        → AreBooked G plan r booked → AreBooked G plan (with-child r n new) booked
    spawns new booked left apart free begins are =
        ended-same r (with-child r n new) booked
        (λ other over.
        let old : over.number ≢ new.number = λ same. let both : None ≡ Some over.progress = sym free ∙ ap (frame_of r) (sym same) ∙ over.known in absurd (cc) in
        record {
          number = over.number;
          progress = over.progress;
          known = other-spawned r n new over.number (not-over k r other known (omega (arith, left)) over) old ∙ over.known;
          own = over.own;
          all = over.all;
        })
        (λ other over.
        let parent = not-over (k + 1) (with-child r n new) other (parent-spawned r n new (record { number = n; path = path; done = k }) known) left over in
        let child : over.number ≢ new.number = λ same.
        let it : over.progress ≡ new = same_Some over.progress new (sym over.known ∙ ap (frame_of (with-child r n new)) same ∙ child-spawned r n new free apart) in
        let e : new.done ≡ length (times s new.path) = ap (λ (p : Progress). p.done) (sym it) ∙ over.all ∙ ap (λ q. length (times s q)) (sym over.own ∙ ap (λ (p : Progress). p.path) it) in
        omega (arith, e, begins) in
        record {
          number = over.number;
          progress = over.progress;
          known = sym (other-spawned r n new over.number parent child) ∙ over.known;
          own = over.own;
          all = over.all;
        })
        are

    -- ---- it ends

    module _ (top : Activation L) (at : StandsAt G plan path k top) (last : k + 1 ≡ length (times s path)) where
      over-now : HasEnded G plan (gone_on_by r n 1) path
      over-now = record {
        number = n;
        progress = record { number = n; path = path; done = k + 1 };
        known = own-gone_by r n 1 (record { number = n; path = path; done = k }) known;
        own = refl;
        all = last;
      }

      -- who has ended then is this frame, or had ended before
      own-path : (other : List ℕ) (over : HasEnded G plan (gone_on_by r n 1) other) → over.number ≡ n → other ≡ path
      own-path other over same =
          let it : over.progress ≡ record { number = n; path = path; done = k + 1 } =
          same_Some over.progress _ (sym over.known ∙ ap (frame_of (gone_on_by r n 1)) same ∙ own-gone_by r n 1 (record { number = n; path = path; done = k }) known) in
          sym over.own ∙ ap (λ (p : Progress). p.path) it

      still : (other : List ℕ) (over : HasEnded G plan r other) → HasEnded G plan (gone_on_by r n 1) other
      still other over = still-ended 1 other over (not-over k r other known (omega (arith, last)) over)

      -- without a fault
      pub ended : (booked : List Fault) → effect_at G plan path k top ≡ ends → AreBooked G plan r booked → AreBooked G plan (gone_on_by r n 1) booked
      ended booked none are = record {
        only = λ i fault there. let was = are.only i fault there in (was.0, still fault.path was.1);
        all = λ fault is over. elim (cases_eq over.number n) [
          | inl same ↦
              let effect = (fault-stands fault is path k top at last (own-path fault.path over same)).0 in
              let both : ◌≡◌ {A = Effect L} ends (faults fault.kind) = sym none ∙ effect in
              absurd (cc)
          | inr other ↦ are.all fault is (was-ended 1 fault.path over other)
        ];
        once = are.once;
      }

      -- by a fault, which is booked
      pub faulted : HasTasks s r → (booked then_booked : List Fault) (fault : Fault) → IsFaultOf G plan fault → fault.path ≡ path → then_booked ≡ booked ++ fault ∷ [] → AreBooked G plan r booked
          → AreBooked G plan (gone_on_by r n 1) then_booked
      faulted tasks booked then_booked fault is own same are = subst (AreBooked G plan (gone_on_by r n 1)) (sym same) (record { only = only; all = all; once = once }) where
        only : (i : ℕ) (other : Fault) → slice_get (booked ++ fault ∷ []) i ≡ Some other → IsFaultOf G plan other × HasEnded G plan (gone_on_by r n 1) other.path
        only i other there = elim (more_cases booked fault i other there) [
          | inl before ↦ let was = are.only i other before in (was.0, still other.path was.1)
          | inr new ↦ (subst (IsFaultOf G plan) (sym new.1) is, subst (HasEnded G plan (gone_on_by r n 1)) (sym (ap (λ (f : Fault). f.path) new.1 ∙ own)) over-now)
        ]

        all : (other : Fault) → IsFaultOf G plan other → HasEnded G plan (gone_on_by r n 1) other.path → (i : ℕ) × (slice_get (booked ++ fault ∷ []) i ≡ Some other)
        all other also over = elim (cases_eq over.number n) [
          | inl here ↦
              let path_is = own-path other.path over here in
              let one = fault-stands fault is path k top at last own in
              let two = fault-stands other also path k top at last path_is in
              let kind : fault.kind ≡ other.kind = same-kind {L = L} fault.kind other.kind (sym one.0 ∙ two.0) in
              let place : fault.place ≡ other.place = one.1 ∙ sym two.1 in
              let it : fault ≡ other = ap {B = Fault} (λ p. record { path = p; place = fault.place; kind = fault.kind }) (own ∙ sym path_is)
              ∙ ap {B = Fault} (λ p. record { path = other.path; place = p; kind = fault.kind }) place ∙ ap {B = Fault} (λ x. record { path = other.path; place = other.place; kind = x }) kind in
              (length booked, last_more booked fault ∙ ap Some it)
          | inr apart ↦ let was = are.all other also (was-ended 1 other.path over apart) in (was.0, before_more booked fault was.0 other was.1)
        ]

        once : (i j : ℕ) (a b : Fault) → slice_get (booked ++ fault ∷ []) i ≡ Some a → slice_get (booked ++ fault ∷ []) j ≡ Some b → a.path ≡ b.path → i ≡ j
        once i j a b one two path_is = elim (more_cases booked fault i a one) [
          | inl first ↦ elim (more_cases booked fault j b two) [
            | inl second ↦ are.once i j a b first second path_is
            | inr end ↦ absurd (fresh tasks booked are (omega (arith, last)) i a first (path_is ∙ ap (λ (f : Fault). f.path) end.1 ∙ own))
          ]
          | inr start ↦ elim (more_cases booked fault j b two) [
            | inl second ↦ absurd (fresh tasks booked are (omega (arith, last)) j b second (sym path_is ∙ ap (λ (f : Fault). f.path) start.1 ∙ own))
            | inr end ↦ start.0 ∙ sym end.0
          ]
        ]
