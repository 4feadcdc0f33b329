use Rattle.std.proofs.Common.{◌≡◌, ◌≤◌, ◌++◌, drop}
use Rattle.std.specs.Prelude.{slice_range}
use Rattle.job_reader.specs.Texts.{texts}
use Rattle.job_reader.specs.Tokens.{tokens, tokens_from}
use Rattle.job_reader.proofs.Scans.{opened}
use Rattle.job_reader.proofs.scan.tokens.Given as goal

abbrev pub invariant-loop-i : goal.invariant-loop-i
invariant-loop-i l = record {
  begun : l.start ≤ l.i;
  told : texts l.found.items ++ opened l.scan (slice_range l.line l.start l.i) (tokens_from l.scan (drop l.i l.line)) ≡ tokens l.line;
}
