use Rattle.swan_model.specs.Versions.{placed_at}
use Rattle.swan_model.proofs.Elements.{none_is}
use Rattle.version_tests.proofs.harness.creates_record.Goals as goal

pub create-requires : goal.create-requires
create-requires c = record { free = none_is (placed_at c.args.versions.now c.args.frame c.args.place) c.requires }
