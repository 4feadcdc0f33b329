use Rattle.std.proofs.Common.{Some, ap, sym, ◌∙◌, rules}
use Rattle.std.proofs.lemmas.Bool.{OnFalse_at}
use Rattle.swan_model.specs.declared.script.Deed.TheVariants as deed
use Rattle.task_frames.proofs.Shown.{empty-later, may-pop, may-push, may-test, not-popped, not-pushed, not-tested, refused-later}
use Rattle.task_frames.proofs.serving.serve.Goals as goal

pub push-requires-clause-next : goal.push-requires-clause-next
push-requires-clause-next g c =
    let shown = g.E.LocalEnds.counts c.args.ends.now in
    λ s named origin end.
    may-push (g.E.LocalEnds.ends c.args.ends.now) shown shown _ _ _ _ _ _ c.in-Push.is (sym c.number_at.ensures ∙ c.in-Some.is) c.requires.next s named origin end
    ∙ ap (λ v. Some (deed.Push origin v)) (sym c.replace-item.ensures.value)

pub pop-requires-clause-next : goal.pop-requires-clause-next
pop-requires-clause-next g c =
    let shown = g.E.LocalEnds.counts c.args.ends.now in
    may-pop (g.E.LocalEnds.ends c.args.ends.now) shown shown _ _ _ _ _ c.in-Pop.is (sym c.number_at-in-Pop.ensures ∙ c.in-Some-number_at.is) c.requires.next

pub returns-in-Err-clause-cause : goal.returns-in-Err-clause-cause
returns-in-Err-clause-cause g c =
    not-pushed (g.E.LocalEnds.ends c.args.ends.now) (g.E.LocalEnds.counts c.args.ends.now) (g.E.LocalEnds.counts c.push.new.self) _ _ _ _ _
    c.in-Push.is (sym c.number_at.ensures ∙ c.in-Some.is) c.in-Err.ensures.cause

pub returns-in-Err-clause-later : goal.returns-in-Err-clause-later
returns-in-Err-clause-later g c =
    refused-later (g.E.LocalEnds.ends c.args.ends.now) (g.E.LocalEnds.counts c.args.ends.now) (g.E.LocalEnds.counts c.push.new.self) _ c.in-Err.ensures.cause c.in-Err.ensures.others

pub returns-in-None-pop-clause-cause : goal.returns-in-None-pop-clause-cause
returns-in-None-pop-clause-cause g c =
    not-popped (g.E.LocalEnds.ends c.args.ends.now) (g.E.LocalEnds.counts c.args.ends.now) (g.E.LocalEnds.counts c.pop.new.self) _ _ _ _
    c.in-Pop.is (sym c.number_at-in-Pop.ensures ∙ c.in-Some-number_at.is) c.in-None-pop.ensures.cause

pub returns-in-None-pop-clause-later : goal.returns-in-None-pop-clause-later
returns-in-None-pop-clause-later g c =
    empty-later (g.E.LocalEnds.ends c.args.ends.now) (g.E.LocalEnds.counts c.args.ends.now) (g.E.LocalEnds.counts c.pop.new.self) _ c.in-None-pop.ensures.cause c.in-None-pop.ensures.others

pub test-requires-clause-next : goal.test-requires-clause-next
test-requires-clause-next g c =
    let shown = g.E.LocalEnds.counts c.args.ends.now in
    may-test (g.E.LocalEnds.ends c.args.ends.now) shown shown _ _ _ _ _ c.in-Empty.is (sym c.number_at-in-Empty.ensures ∙ c.in-Some-number_at-2.is) c.requires.next

pub returns-else-test-clause-cause : goal.returns-else-test-clause-cause
returns-else-test-clause-cause g c =
    not-tested (g.E.LocalEnds.ends c.args.ends.now) (g.E.LocalEnds.counts c.args.ends.now) (g.E.LocalEnds.counts c.test.new.self) _ _ _ _
    c.in-Empty.is (sym c.number_at-in-Empty.ensures ∙ c.in-Some-number_at-2.is) (OnFalse_at (search rules) c.test.ensures.cause)

pub returns-else-test-clause-later : goal.returns-else-test-clause-later
returns-else-test-clause-later g c =
    empty-later (g.E.LocalEnds.ends c.args.ends.now) (g.E.LocalEnds.counts c.args.ends.now) (g.E.LocalEnds.counts c.test.new.self) _ (OnFalse_at (search rules) c.test.ensures.cause) c.test.ensures.others
