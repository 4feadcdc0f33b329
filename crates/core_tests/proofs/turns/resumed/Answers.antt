use Rattle.task_frames.specs.Resumes.{ends_of}
use Rattle.core_tests.proofs.Coming.{all-still-come, came-so}
use Rattle.core_tests.proofs.turns.resumed.Goals as goal

pub returns-clause-came : goal.returns-clause-came
returns-clause-came g c =
    let said = c.resume.ensures in
    came-so g.B.Body (ends_of g.Q.Ends.LocalEnds) c.args.core.now c.resume.new.self c.args.frame c.resume.result said.plan said.run c.requires.frame said.resumed

pub returns-clause-others : goal.returns-clause-others
returns-clause-others g c =
    let said = c.resume.ensures in
    all-still-come g.Q.Ends.LocalEnds.run c.args.core.now c.resume.new.self said.plan said.run _ c.requires.others
