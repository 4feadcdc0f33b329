use Rattle.std.proofs.Common.{arith, sym, ◌∙◌, ap}
use Rattle.std.proofs.lemmas.List.{map-append}
use Rattle.job_reader.specs.Texts.{texts}
use Rattle.job_reader.specs.Tokens.{is_between}
use Rattle.job_reader.proofs.Scans.{turn_begins, turn_ends, turn_goes_on}
use Rattle.job_reader.proofs.scan.tokens.Goals as goal
use Rattle.job_reader.proofs.scan.tokens.Goals.{then-is_between, else-is_between+then-is_between-2+in_ok-push, else-is_between+else-is_between-2}

pub loop-i-preserved : goal.loop-i-preserved
loop-i-preserved c =
    let line = c.args.line.now in
    elim c.if-is_between.branch [
      | then-is_between w ↦ record {
        begun = omega arith;
        told = rw (w.found-is, w.scan-is, w.start-is, c.next-next.ensures) (turn_begins line (texts c.loop-i.found.items) c.loop-i.start c.loop-i.i c.loop-i.scan c.loop-i-test.true c.loop-i.invariant.told (sym c.is_between.ensures ∙ w.if-is_between.true));
      }
      | else-is_between+then-is_between-2+in_ok-push w ↦ record {
        begun = omega arith;
        told = rw (w.found-is, w.scan-is, w.start-is, w.in_ok-push.ensures.items, map-append, c.next-next.ensures) (turn_ends line (texts c.loop-i.found.items) c.loop-i.start c.loop-i.i c.loop-i.scan c.loop-i-test.true c.loop-i.invariant.told (sym c.is_between.ensures ∙ w.if-is_between.false) (ap is_between (sym c.next-next.ensures) ∙ sym w.is_between-else-is_between.ensures ∙ w.if-is_between-2.true));
      }
      | else-is_between+else-is_between-2 w ↦ record {
        begun = omega arith;
        told = rw (w.found-is, w.scan-is, w.start-is, c.next-next.ensures) (turn_goes_on line (texts c.loop-i.found.items) c.loop-i.start c.loop-i.i c.loop-i.scan c.loop-i-test.true c.loop-i.invariant.told c.loop-i.invariant.begun (sym c.is_between.ensures ∙ w.if-is_between.false) (ap is_between (sym c.next-next.ensures) ∙ sym w.is_between-else-is_between.ensures ∙ w.if-is_between-2.false));
      }
    ]
