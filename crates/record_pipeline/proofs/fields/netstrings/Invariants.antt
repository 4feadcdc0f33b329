use Rattle.std.proofs.Common.{◌≡◌, ◌++◌, length}
use Rattle.record_pipeline.specs.Netstrings.{netstrings}
use Rattle.record_pipeline.proofs.FieldByField.{first_len}
use Rattle.record_pipeline.proofs.fields.netstrings.Given as goal

-- the netstrings so far and those of the rest are all
abbrev pub invariant-loop-len : goal.invariant-loop-len
invariant-loop-len l = record {
  all : netstrings l.line ≡ l.text.items ++ netstrings l.rest;
  first : l.len ≡ first_len l.rest;
}

abbrev pub decreases-loop-len : goal.decreases-loop-len
decreases-loop-len l = length l.rest
