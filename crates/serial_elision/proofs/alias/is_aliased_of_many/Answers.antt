use Rattle.std.proofs.Common.{◌∙◌, ◌||◌, ap, sym}
use Rattle.swan_model.specs.Rights.{is_aliased}
use Rattle.serial_elision.proofs.Aliases.{none-seen, aliased_more, aliased_here}
use Rattle.serial_elision.proofs.alias.is_aliased_of_many.Goals as goal

pub loop-give-init : goal.loop-give-init
loop-give-init c =
    ap (λ b. b || is_aliased c.args.gives.now) (sym (none-seen c.args.gives.now c.new-only_read.result c.new-only_read.ensures.empty))

pub returns-then-branch : goal.returns-then-branch
returns-then-branch c =
    sym (aliased_here c.loop-give.only_read c.args.gives.now c.loop-give.give-index _ c.loop-give-test.true c.loop-give.invariant (sym c.in_ok-clashes.ensures.answer ∙ c.if-branch.true))

pub loop-give-preserved : goal.loop-give-preserved
loop-give-preserved c =
    aliased_more c.loop-give.only_read c.clashes.new.only_read c.args.gives.now c.loop-give.give-index _ c.loop-give-test.true c.loop-give.invariant (sym c.in_ok-clashes.ensures.answer ∙ c.if-branch.false) c.in_ok-clashes.ensures.last
