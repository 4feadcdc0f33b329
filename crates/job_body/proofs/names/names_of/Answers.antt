use Rattle.std.proofs.Common.{◌≡◌, flat_map, length, ap, ◌∙◌}
use Rattle.job_body.specs.NamesOfJob.{queue_name}
use Rattle.job_body.specs.Tasks.{before_task, root_object_of}
use Rattle.job_body.proofs.Namings.{is_naming}
use Rattle.job_body.proofs.names.names_of.Goals as goal

pub returns-clause-as_many : goal.returns-clause-as_many
returns-clause-as_many c = λ texts fuel.
    let queues : c.in_ok-queue_names.field-0 ≡ flat_map queue_name (before_task c.args.job.now) =
    c.in_ok-queue_names.ensures ∙ ap (λ lines. flat_map queue_name (before_task lines)) c.lines.ensures.lines in
    let objects : c.in_ok-object_names.field-0 ≡ flat_map root_object_of (before_task c.args.job.now) =
    c.in_ok-object_names.ensures ∙ ap (λ lines. flat_map root_object_of (before_task lines)) c.lines-2.ensures.lines in
    record {
      queues = ap length queues ∙ (is_naming c.args.job.now texts fuel).queues;
      objects = ap length objects ∙ (is_naming c.args.job.now texts fuel).objects;
    }
