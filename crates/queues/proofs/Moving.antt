-- What queue deeds make of a frame that is a task of the script.
use Rattle.std.proofs.Common.{◌≡◌, inl, inr, ℕ, ◌+◌, ◌≤◌, Bool, true, false, List, length, take, Some, refl, sym, ap, subst, ◌∙◌, arith}
use Rattle.std.proofs.lemmas.Bool.{cases_lt}
use Rattle.std.specs.Prelude.{slice_get, filter}
use Rattle.swan_model.specs.declared.origin.Origin.{Origin}
use Rattle.swan_model.specs.declared.rights.Mode.{Mode}
use Rattle.swan_model.specs.declared.script.Deed.{Deed}
use Rattle.swan_model.specs.declared.script.Deed.TheVariants as deed
use Rattle.swan_model.specs.declared.script.Entry.{Entry}
use Rattle.swan_model.specs.declared.script.Script.{Script}
use Rattle.swan_model.specs.Granted.{granted, granted_by, is_spawn, may_use}
use Rattle.swan_model.specs.Lawful.{IsLawful}
use Rattle.swan_model.specs.QueueFollows.{IsTask, queue_point, queue_time, queue_times}
use Rattle.swan_model.specs.QueueState.{ActiveFrame, QueueState, with_deed}
use Rattle.swan_model.specs.Rights.{is_queue_mode}
use Rattle.swan_model.specs.SerialTime.{is_queue_deed}
use Rattle.swan_model.specs.Told.{deed_at}
use Rattle.swan_model.proofs.Places.{passing-rises}
use Rattle.swan_model.proofs.ScriptSteps.{deed_is}
use Rattle.queues.proofs.Between.{IsQueueDeed, deed-place, deed_left, is_queue_deed_of, own_last, point_left, point_over as queue_point-over}
use Rattle.swan_model.proofs.Elements.{filtered_more, one_if}
use Rattle.queues.proofs.Kept.{GrantsNone, still_grants, use_kept}
use Rattle.queues.proofs.Lineage.{is_spawn_time}
use Rattle.queues.proofs.QueuePoints.{IsNextDeed, at_own, goes_to}

module _ (s : Script) where
  -- the next point among queues isn't earlier
  pub point_next : (path : List ℕ) (deeds t : ℕ) → IsQueueDeed s path deeds t → t ≤ queue_point s path (deeds + 1)
  point_next path deeds t at = elim (cases_lt (deeds + 1) (length (queue_times s path))) [
    | inl left ↦
        let next = deed_left s path (deeds + 1) left in
        let u = queue_time s path (deeds + 1) in
        let here = point_left s path (deeds + 1) left in
        elim (cases_lt u t) [
          | inl before ↦
              let rise = passing-rises (is_queue_deed_of path) s.entries u t (omega (arith, before)) in
              absurd (omega (arith, rise, next.before, at.before))
          | inr after ↦ omega (arith, here, after)
        ]
    | inr none ↦
        let last = own_last s path t (at_own s path deeds t at) in
        let here = queue_point-over s path (deeds + 1) none in
        omega (arith, last, here)
  ]

  -- where nothing more is granted at a time, nothing is up to the next one
  pub grants_through : (path : List ℕ) (mode : Mode) (origin : Origin) (t m : ℕ) → ((entry : Entry) → slice_get s.entries t ≡ Some entry → may_use (granted_by s path t entry) mode origin ≡ false) → GrantsNone s path mode origin (t + 1) m → GrantsNone s path mode origin t m
  grants_through path mode origin t m first rest =
      record {
        order = omega (arith, rest.order);
        none = λ v entry from before stands. elim (cases_lt t v) [
          | inl later ↦ rest.none v entry (omega (arith, later)) before stands
          | inr at ↦
              let same : t ≡ v = omega (arith, at, from) in
              subst (λ k. may_use (granted_by s path k entry) mode origin ≡ false) same (first entry (ap (slice_get s.entries) same ∙ stands))
        ];
      }

  grants_here : (path : List ℕ) (mode : Mode) (origin : Origin) (t : ℕ) → GrantsNone s path mode origin t t
  grants_here path mode origin t = record { order = omega arith; none = λ v entry from before stands. absurd (omega (arith, from, before)) }

module _ (s : Script) (lawful : IsLawful s) where
  -- what a task may use is the same at its next point among queues, where its deed grants nothing
  pub grants_next : (path : List ℕ) (deeds t : ℕ) (mode : Mode) (origin : Origin) → IsQueueDeed s path deeds t → is_spawn (deed_at s t) ≡ false → is_queue_mode mode ≡ true
      → ((entry : Entry) → slice_get s.entries t ≡ Some entry → may_use (granted_by s path t entry) mode origin ≡ false) → GrantsNone s path mode origin t (queue_point s path (deeds + 1))
  grants_next path deeds t mode origin at quiet queues first = elim (goes_to s lawful path deeds t at quiet) [
    | inl still ↦ grants_through s path mode origin t (queue_point s path (deeds + 1)) first (still_grants s path mode origin (t + 1) (queue_point s path (deeds + 1)) still queues)
    | inr last ↦ subst (GrantsNone s path mode origin t) (sym last.here) (grants_here s path mode origin t)
  ]

  -- as many children as spawns
  pub children_next : (path : List ℕ) (deeds t : ℕ) → IsQueueDeed s path deeds t → length (filter (is_spawn_time s) (take (deeds + 1) (queue_times s path))) ≡ length (filter (is_spawn_time s) (take deeds (queue_times s path))) + one_if (is_spawn (deed_at s t))
  children_next path deeds t at =
      let place : slice_get (queue_times s path) deeds ≡ Some t = ap (slice_get (queue_times s path)) (sym at.before) ∙ deed-place s path t (at_own s path deeds t at) at.deed in
      filtered_more (is_spawn_time s) (queue_times s path) deeds t place

-- whether a deed makes a task or a queue
abbrev pub is_making : Deed → Bool
is_making deed.MakeQueue = true
is_making (deed.Spawn gives) = true
is_making _ = false

pub making_parts : (d : Deed) → is_making d ≡ false → is_spawn d ≡ false
making_parts (deed.Spawn gives) not = absurd (cc)
making_parts deed.MakeQueue not = refl
making_parts (deed.MakeObject value) not = refl
making_parts (deed.Push queue value) not = refl
making_parts (deed.Pop queue) not = refl
making_parts (deed.Test queue) not = refl
making_parts (deed.Read object) not = refl
making_parts (deed.Write object value) not = refl
making_parts deed.Sync not = refl
making_parts deed.Quiet not = refl

-- a queue deed that makes nothing grants nothing
use_grants : (own child : Bool) (n : ℕ) (d : Deed) (mode : Mode) (origin : Origin) → is_queue_deed d ≡ true → is_making d ≡ false → may_use (granted own child n d) mode origin ≡ false
use_grants own child n (deed.Push queue value) mode origin deed not = refl
use_grants own child n (deed.Pop queue) mode origin deed not = refl
use_grants own child n (deed.Test queue) mode origin deed not = refl
use_grants own child n deed.MakeQueue mode origin deed not = absurd (cc)
use_grants own child n (deed.Spawn gives) mode origin deed not = absurd (cc)
use_grants own child n (deed.MakeObject value) mode origin deed not = absurd (cc)
use_grants own child n (deed.Read object) mode origin deed not = absurd (cc)
use_grants own child n (deed.Write object value) mode origin deed not = absurd (cc)
use_grants own child n deed.Sync mode origin deed not = absurd (cc)
use_grants own child n deed.Quiet mode origin deed not = absurd (cc)

module _ (s : Script) (lawful : IsLawful s) (state : QueueState) where
  -- a frame that does a push, a pop or a test stays a task
  pub used_task : (frame : ActiveFrame) (d : Deed) → IsTask s state frame → IsNextDeed s frame.path frame.deeds d → is_making d ≡ false → IsTask s state (with_deed frame)
  used_task frame d task next not =
      let path = frame.path in
      let t = queue_point s path frame.deeds in
      let quiet : is_spawn (deed_at s t) ≡ false = ap is_spawn next.does ∙ making_parts d not in
      let none : one_if (is_spawn (deed_at s t)) ≡ 0 = ap one_if quiet in
      let many = children_next s lawful path frame.deeds t next.at in
      record {
        some = task.some;
        deeds = omega (arith, next.left);
        children = omega (arith, task.children, many, none);
        rights = λ queue mode origin queues made.
            let grants = grants_next s lawful path frame.deeds t mode origin next.at quiet queues (λ entry stands.
            let does = sym (deed_is s t entry stands) in
            use_grants _ _ t entry.deed mode origin (ap is_queue_deed does ∙ next.at.deed) (ap is_making (does ∙ next.does) ∙ not)) in
            task.rights queue mode origin queues made ∙ sym (use_kept s path mode origin t (queue_point s path (frame.deeds + 1)) grants);
        made = task.made;
      }
