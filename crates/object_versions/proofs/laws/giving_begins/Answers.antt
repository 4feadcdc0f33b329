use Rattle.object_versions.proofs.GivingBegins.{giving_begins}
use Rattle.object_versions.proofs.laws.giving_begins.Goals as goal

pub returns : goal.returns
returns c = giving_begins
