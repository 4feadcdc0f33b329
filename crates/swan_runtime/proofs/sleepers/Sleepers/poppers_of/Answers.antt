use Rattle.std.proofs.Common.{rules, ◌≡◌, Some, None, [], ap, sym, take, ◌++◌, ◌∷◌, ◌∙◌}
use Rattle.std.proofs.lemmas.List.{append-nil}
use Rattle.std.specs.Option.{option_to_list}
use Rattle.swan_runtime.specs.Beds.{poppers_of}
use Rattle.swan_runtime.proofs.Bedding.{poppers_more}
use Rattle.swan_runtime.proofs.sleepers.Sleepers.poppers_of.Goals as goal
use Rattle.swan_runtime.proofs.sleepers.Sleepers.poppers_of.Goals.{in-Some+in_ok-push, in_default}

pub loop-holding-preserved : goal.loop-holding-preserved
loop-holding-preserved g c =
    let more = poppers_more c.args.self.now c.args.holdings.now c.loop-holding.holding-index c.holding-item.result c.popper_at.result c.loop-holding-test.true c.holding-item.is c.popper_at.ensures in
    elim c.match-popper_at.branch [
      | in-Some+in_ok-push w ↦
          let some : c.popper_at.result ≡ Some w.in-Some.popper = search rules in
          ap (λ v. v.items) w.poppers-is ∙ w.in_ok-push.ensures.items ∙ ap (λ items. items ++ w.in-Some.popper ∷ []) c.loop-holding.invariant
          ∙ sym (more ∙ ap (λ found. poppers_of c.args.self.now (take c.loop-holding.holding-index c.args.holdings.now) ++ option_to_list found) some)
      | in_default w ↦
          let none : c.popper_at.result ≡ None = search rules in
          ap (λ v. v.items) w.poppers-is ∙ c.loop-holding.invariant
          ∙ sym (more ∙ ap (λ found. poppers_of c.args.self.now (take c.loop-holding.holding-index c.args.holdings.now) ++ option_to_list found) none ∙ append-nil _)
    ]
