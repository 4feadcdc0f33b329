use Rattle.task_frames.specs.Resumes.{ends_of}
use Rattle.swan_runtime.proofs.Waking.{last_is_of_run, last_taken, none}
use Rattle.swan_runtime.proofs.trying.has_ended.Goals as goal

pub returns-clause-frame : goal.returns-clause-frame
returns-clause-frame g c = λ plan run are ready.
    let of = ends_of g.Q.Ends.LocalEnds in
    last_is_of_run of plan run _ c.pop-frame.new.self.items c.pop-frame.result c.pop-frame.ensures.items (c.wake_all.ensures.kept.ready plan run (none of plan run) are ready)

pub returns-clause-kept : goal.returns-clause-kept
returns-clause-kept g c = record {
  asleep = c.wake_all.ensures.kept.asleep;
  ready = λ plan run new are ready.
      last_taken (ends_of g.Q.Ends.LocalEnds) plan run _ c.pop-frame.new.self.items c.pop-frame.result c.pop-frame.ensures.items (c.wake_all.ensures.kept.ready plan run new are ready);
}
