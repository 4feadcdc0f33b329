use Rattle.std.proofs.Common.{◌≡◌, take}
use Rattle.line_blocks.proofs.gives.gives_of.Given as goal

abbrev pub invariant-loop-give : goal.invariant-loop-give
invariant-loop-give l = l.gives ≡ take l.give-index l.all
