use Rattle.std.proofs.Common.{◌≡◌, drop}
use Rattle.job_reader.specs.Atoms.{atoms}
use Rattle.job_reader.specs.Texts.{texts}
use Rattle.job_reader.proofs.AtomLists.{joined, so_far}
use Rattle.job_reader.proofs.atom.read_atoms.Given as goal

abbrev pub invariant-loop-token : goal.invariant-loop-token
invariant-loop-token l = joined (so_far l.kind l.read) (atoms (texts (drop l.token-index l.tokens))) ≡ atoms (texts l.tokens)
