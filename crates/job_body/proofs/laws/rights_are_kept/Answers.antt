use Rattle.job_body.proofs.RightsRuns.{rights-kept}
use Rattle.job_body.proofs.laws.rights_are_kept.Goals as goal

pub returns : goal.returns
returns c = rights-kept
