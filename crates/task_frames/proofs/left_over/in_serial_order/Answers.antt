use Rattle.std.proofs.Common.{◌≡◌, List, rules, subst, ◌∙◌}
use Rattle.std.proofs.lemmas.Fn.{always_returns_same}
use Rattle.std.specs.List.Sorted.{IsPermutation}
use Rattle.std.specs.Ordering.{is_lt}
use Rattle.swan_model.specs.declared.fault.Fault.{Fault}
use Rattle.serial_elision.proofs.Lawful.{lawful}
use Rattle.task_frames.proofs.FaultsSorted.{faults-compare, is_earlier_fault}
use Rattle.task_frames.proofs.LeftOver.{faults-left}
use Rattle.task_frames.proofs.left_over.in_serial_order.Goals as goal

pub returns : goal.returns
returns g c =
    let plan = c.args.plan.now.means in
    let kept = c.requires.kept.0 in
    let core = c.requires.kept.1 in
    let sorted = c.sort_unstable_by.ensures.sorted is_earlier_fault faults-compare (always_returns_same _ (λ a r. is_lt r ≡ is_earlier_fault a.0.now a.1.0.now) _ (λ a r q k. search rules)) in
    let same : IsPermutation c.args.faults.items c.sort_unstable_by.new.self.items = c.sort_unstable_by.ensures.permutation in
    c.from_vec.ensures
    ∙ faults-left g.B.Body plan (lawful g.B.Body plan core.sound.lists) kept.reading kept.state kept.live kept.frames core.queues core.frames c.requires.kept.2 kept.faults c.sort_unstable_by.new.self.items core.booked
    (subst (λ (old : List Fault). IsPermutation old c.sort_unstable_by.new.self.items) c.requires.kept.3 same) sorted
