use Rattle.std.proofs.Common.{◌≡◌, take}
use Rattle.index_pipeline.specs.Pairs.{number_of}
use Rattle.index_pipeline.proofs.pair.number_of.Given as goal

abbrev pub invariant-loop-digit : goal.invariant-loop-digit
invariant-loop-digit l = l.number ≡ number_of (take l.digit-index l.digits)
