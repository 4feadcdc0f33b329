use Rattle.std.proofs.Common.{[], ap, ◌∙◌}
use Rattle.std.proofs.lemmas.List.Elements.{All-nil}
use Rattle.task_frames.specs.Resumes.{ends_of}
use Rattle.std.specs.BTreeMap.{insert_entry}
use Rattle.std.specs.Ordering.{nat_cmp}
use Rattle.swan_runtime.specs.Shared.{AreSleepersOfRun}
use Rattle.swan_runtime.proofs.Waking.{no_sleepers, sleepers_inserted}
use Rattle.swan_runtime.proofs.asleep.Asleep.new.Goals as goal

pub returns-clause-own : goal.returns-clause-own
returns-clause-own g c = λ plan run.
    let of = ends_of g.Q.Ends.LocalEnds in
    record {
      each = sleepers_inserted of plan run [] _ c.args.root c.new-2.result (c.in_ok-insert.ensures.entries ∙ ap (λ es. insert_entry nat_cmp es c.args.root c.new-2.result) c.new-sleepers.ensures.empty)
          (All-nil (λ sleepers. AreSleepersOfRun of plan run sleepers)) (no_sleepers of plan run c.new-2.result c.new-2.ensures.at_end c.new-2.ensures.at_push);
    }
