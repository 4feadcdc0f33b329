use Rattle.task_frames.specs.Resumes.{ends_of}
use Rattle.swan_runtime.proofs.Waking.{alone, last_is_of_run, last_taken}
use Rattle.swan_runtime.proofs.trying.has_to_wait.Goals as goal

pub returns-clause-frame : goal.returns-clause-frame
returns-clause-frame g c = λ plan run is are ready.
    let of = ends_of g.Q.Ends.LocalEnds in
    last_is_of_run of plan run _ c.pop-next.new.self.items c.pop-next.result c.pop-next.ensures.items (c.sleep.ensures.kept.ready plan run (alone of plan run c.args.frame is) are ready)

pub returns-clause-kept : goal.returns-clause-kept
returns-clause-kept g c = record {
  asleep = c.sleep.ensures.kept.asleep;
  ready = λ plan run new are ready.
      last_taken (ends_of g.Q.Ends.LocalEnds) plan run _ c.pop-next.new.self.items c.pop-next.result c.pop-next.ensures.items (c.sleep.ensures.kept.ready plan run new are ready);
}
