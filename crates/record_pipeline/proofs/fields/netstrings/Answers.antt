-- The netstrings so far, field by field.
use Rattle.std.proofs.Common.{◌≡◌, ◌<◌, ◌≤◌, ◌++◌, length, take, arith}
use Rattle.record_pipeline.specs.Netstrings.{netstring, netstrings}
use Rattle.record_pipeline.proofs.FieldByField.{netstrings_last, netstrings_step}
use Rattle.record_pipeline.proofs.fields.netstrings.Goals as goal

pub loop-len-preserved : goal.loop-len-preserved
loop-len-preserved c =
    let rest = c.loop-len.rest.now in
    let below : c.loop-len.len < length rest = omega arith in
    let here : c.push_netstring.new.text.items ≡ c.loop-len.text.items ++ netstring (take c.loop-len.len rest) = c.in_ok-push_netstring.ensures in
    record {
      all = netstrings_step (netstrings c.args.line.now) c.loop-len.text.items c.push_netstring.new.text.items rest c.split_at.result.1.now c.loop-len.len c.loop-len.invariant.all c.loop-len.invariant.first below here c.split_at.ensures.back;
      first = c.field_len-len-in-loop-len.ensures.field;
    }

pub returns : goal.returns
returns c =
    let rest = c.loop-len.rest.now in
    let none : length rest ≤ c.loop-len.len = omega arith in
    netstrings_last (netstrings c.args.line.now) c.loop-len.text.items c.push_netstring-2.new.text.items rest c.loop-len.len c.loop-len.invariant.all c.loop-len.invariant.first none c.in_ok-push_netstring-2.ensures
