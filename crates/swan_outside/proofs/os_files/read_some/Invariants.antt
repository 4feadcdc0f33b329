use Rattle.std.specs.Io.KnownBytes.{Keeps}
use Rattle.swan_outside.proofs.os_files.read_some.Given as goal

-- a read that was interrupted took nothing
abbrev pub invariant-loop : goal.invariant-loop
invariant-loop g l = Keeps (g.R.Read.remaining l.initial.reader) (g.R.Read.remaining l.reader)
