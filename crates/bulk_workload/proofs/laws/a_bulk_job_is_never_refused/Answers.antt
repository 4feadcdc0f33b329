use Rattle.bulk_workload.proofs.Orders.{never_refused}
use Rattle.bulk_workload.proofs.laws.a_bulk_job_is_never_refused.Goals as goal

pub returns : goal.returns
returns c = λ number size most. never_refused number size most
