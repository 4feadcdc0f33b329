use Rattle.std.proofs.Common.{◌≡◌, ◌++◌, drop}
use Rattle.job_body.specs.Compiled.{KnowsFew, instructions_from, program_of, seen_at}
use Rattle.job_body.proofs.compile.add_instructions.Given as goal

abbrev pub invariant-loop-index : goal.invariant-loop-index
invariant-loop-index l = record {
  few : KnowsFew l.scope l.index;
  known : l.scope ≡ seen_at l.job l.index;
  made : l.program ++ instructions_from l.job l.index (drop l.index l.job) ≡ program_of l.job;
}
