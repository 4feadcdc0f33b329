use Rattle.job_reader.proofs.AtomLists.{turn_item, turn_fault}
use Rattle.job_reader.proofs.atom.read_atoms.Goals as goal
use Rattle.job_reader.proofs.atom.read_atoms.Goals.{in-Ok+in-Ok-push, in-Err-Refused}

pub loop-token-preserved : goal.loop-token-preserved
loop-token-preserved c =
    let tokens = c.args.tokens.now in
    let i = c.loop-token.token-index in
    elim c.match-read_atom.branch [
      | in-Ok+in-Ok-push w ↦ rw (w.read-is, w.kind-is) (turn_item tokens i _ c.loop-token.kind c.loop-token.read c.loop-token-test.true c.loop-token.invariant w.in-Ok.atom w.push.new.self w.in-Ok.ensures w.in-Ok-push.ensures.ok)
      | in-Err-Refused w ↦ rw (w.read-is, w.kind-is) (turn_fault tokens i _ c.loop-token.kind c.loop-token.read c.loop-token-test.true c.loop-token.invariant w.in-Err-Refused.next w.first_of.result (rw w.in-Err-Refused.field-0-is at w.in-Err-Refused.ensures) (cc (w.first_of.ensures)))
    ]
