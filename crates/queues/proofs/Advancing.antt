-- A frame of a reading that does its next entry: how many queue deeds it has done then.
use Rattle.std.proofs.Common.{◌≡◌, inl, inr, ◌+◌, ◌-◌, ◌<◌, length, Some, sym, ap, ◌∙◌, arith}
use Rattle.std.proofs.lemmas.Bool.{cases_lt}
use Rattle.swan_model.specs.declared.origin.Origin.{Origin}
use Rattle.swan_model.specs.declared.script.Deed.{Deed}
use Rattle.swan_model.specs.declared.script.Deed.TheVariants as deed
use Rattle.swan_model.specs.declared.script.Script.{Script}
use Rattle.swan_model.specs.Lawful.{IsLawful}
use Rattle.swan_model.specs.Nested.{IsEntryOf}
use Rattle.swan_model.specs.QueueFollows.{FitsFrame}
use Rattle.swan_model.specs.QueueState.{ActiveFrame}
use Rattle.swan_model.specs.Readings.{next_deed}
use Rattle.swan_model.specs.SerialTime.{Progress, is_queue_deed, point, time, times}
use Rattle.swan_model.proofs.ScriptSteps.{at_next, deed_is, does_now, next_stands}
use Rattle.queues.specs.Reads.{deeds_among}
use Rattle.queues.proofs.Between.{own_last}
use Rattle.swan_model.proofs.Elements.{filtered_more, one_if}
use Rattle.queues.proofs.Fitting.{is_queue_time}
use Rattle.queues.proofs.QueuePoints.{last-ends}

module _ (s : Script) where
  pub own_now : (p : Progress) (d : Deed) → next_deed s p ≡ Some d → IsEntryOf s p.path (point s p)
  own_now p d next =
      let step = at_next s p d next in
      record { entry = step.entry; stands = step.stands; own = step.own }

  -- its next entry counts if it is a queue deed
  pub deeds_more : (p : Progress) (d : Deed) → next_deed s p ≡ Some d → deeds_among s p.path (p.done + 1) ≡ deeds_among s p.path p.done + one_if (is_queue_deed d)
  deeds_more p d next =
      let step = at_next s p d next in
      filtered_more (is_queue_time s) (times s p.path) p.done (point s p) (next_stands s p step.left)
      ∙ ap (λ x. deeds_among s p.path p.done + one_if (is_queue_deed x)) (does_now s p d next)

  -- a frame fits that differs in nothing that counts
  pub fits_same : (frame after : ActiveFrame) (p : Progress) → FitsFrame s frame p → after.path ≡ frame.path → after.deeds ≡ frame.deeds → FitsFrame s after p
  fits_same frame after p fit path deeds =
      let many : length (times s after.path) ≡ length (times s frame.path) = ap (λ q. length (times s q)) path in
      let left = fit.left in
      record {
        path = fit.path ∙ sym path;
        left = omega (arith, left, many);
        deeds = ap (λ q. deeds_among s q p.done) path ∙ fit.deeds ∙ sym deeds;
      }

  -- So it fits with one entry more, where one is left then.
  pub fits_next : (frame after : ActiveFrame) (p : Progress) (d : Deed) → FitsFrame s frame p → next_deed s p ≡ Some d → after.path ≡ frame.path → after.deeds ≡ frame.deeds + one_if (is_queue_deed d)
      → p.done + 1 < length (times s p.path) → FitsFrame s after (record p { done = p.done + 1 })
  fits_next frame after p d fit next path deeds left =
      let task : after.path ≡ p.path = path ∙ sym fit.path in
      let many : length (times s after.path) ≡ length (times s p.path) = ap (λ q. length (times s q)) task in
      let here : deeds_among s p.path p.done ≡ frame.deeds = ap (λ q. deeds_among s q p.done) fit.path ∙ fit.deeds in
      let more = deeds_more p d next in
      record {
        path = sym task;
        left = omega (arith, left, many);
        deeds = ap (λ q. deeds_among s q (p.done + 1)) task ∙ omega (arith, more, here, deeds);
      }

module _ (s : Script) (lawful : IsLawful s) where
  -- after an entry that isn't Quiet and no pop its task has one left
  pub more_left : (p : Progress) (d : Deed) → next_deed s p ≡ Some d → (d ≡ deed.Quiet → ⊥) → ((queue : Origin) → d ≡ deed.Pop queue → ⊥) → p.done + 1 < length (times s p.path)
  more_left p d next loud other = elim (cases_lt (p.done + 1) (length (times s p.path))) [
    | inl less ↦ less
    | inr none ↦
        let step = at_next s p d next in
        let own = own_now s p d next in
        let index : length (times s p.path) - 1 ≡ p.done = omega (arith, none, step.left) in
        let last : time s p.path (length (times s p.path) - 1) ≡ point s p = ap (time s p.path) index ∙ sym step.at in
        let does : d ≡ own.entry.deed = sym (does_now s p d next) ∙ deed_is s (point s p) own.entry own.stands in
        let ends = last-ends s lawful p.path (point s p) own (λ v there. let late = own_last s p.path v there in omega (arith, late, last)) in
        absurd (elim (lawful.ending (point s p) own.entry own.stands ends) [
          | inl quiet ↦ loud (does ∙ quiet)
          | inr pop ↦ other pop.0 (does ∙ pop.1)
        ])
  ]
