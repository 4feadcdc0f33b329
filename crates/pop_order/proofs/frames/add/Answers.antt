use Rattle.std.proofs.Common.{sym, subst}
use Rattle.pop_order.specs.Frames.{Frames}
use Rattle.pop_order.specs.Kept.{AreBelowParents}
use Rattle.pop_order.specs.Steps.{IsGrown}
use Rattle.pop_order.proofs.Enlisting.{grown_enlisted, below_enlisted}
use Rattle.pop_order.proofs.frames.add.Goals as goal

pub returns-clause-kept : goal.returns-clause-kept
returns-clause-kept c =
    let before = c.args.frames.now.entries in
    let P : Frames → Type 0 = λ fs. AreBelowParents fs in
    let Q : Frames → Type 0 = λ fs. IsGrown before fs c.args.parent c.args.child c.args.holding in
    let grown = grown_enlisted before c.args.parent c.args.child c.args.holding c.requires.kept.below c.requires.newest c.requires.fits in
    record {
      sorted = c.in_ok-give.ensures.sorted;
      below = subst P (sym c.in_ok-give.ensures.given)
          (below_enlisted before c.args.parent c.args.child c.args.holding c.requires.kept.below c.requires.newest c.requires.rising c.requires.fits);
      sets = c.in_ok-add.ensures before (subst Q (sym c.in_ok-give.ensures.given) grown) c.requires.kept.sets;
    }
