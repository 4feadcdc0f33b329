use Rattle.task_frames.proofs.Earliest.{core-earliest, goes-on}
use Rattle.task_frames.specs.Resumes.{ends_of}
use Rattle.task_frames.proofs.laws.a_core_is_never_stuck.Goals as goal

pub returns-clause-earliest : goal.returns-clause-earliest
returns-clause-earliest g c = λ core is not_done. core-earliest g.B.Body core is not_done

pub returns-clause-goes_on : goal.returns-clause-goes_on
returns-clause-goes_on g c = λ before after kept frame result keeps given first is.
    goes-on (ends_of g.Q.Ends.LocalEnds) kept frame given first g.B.Body before after keeps result is
