use Rattle.object_versions.proofs.NoMoreWaits.{access_waits, create_waits, finish_waits, write_waits}
use Rattle.object_versions.proofs.laws.nobody_waits_again.Goals as goal

pub returns : goal.returns
returns c = record { create = create_waits; access = access_waits; write = write_waits; finish = finish_waits }
