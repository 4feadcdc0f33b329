use Rattle.std.proofs.Common.{◌∙◌}
use Rattle.bulk_workload.proofs.Parts.{text_is}
use Rattle.bulk_workload.proofs.texts.bulk_job.Goals as goal

pub returns : goal.returns
returns c = rw (c.into_bytes.ensures.value) (c.in_ok-text.ensures.ok ∙ text_is c.args.size)
