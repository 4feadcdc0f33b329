use Rattle.std.proofs.Common.{◌≡◌, drop}
use Rattle.job_reader.specs.Atoms.{decoded, IsDecoding}
use Rattle.job_reader.specs.declared.literal.Inside.TheVariants.{Plain}
use Rattle.job_reader.proofs.Decodes.{after_bytes}
use Rattle.job_reader.proofs.literal.read_literal.Given as goal

abbrev pub invariant-loop-byte : goal.invariant-loop-byte
invariant-loop-byte l = record {
  fits : IsDecoding l.inside;
  told : after_bytes l.bytes.items (decoded l.inside (drop l.byte-index l.rest)) ≡ decoded Plain l.rest;
}
