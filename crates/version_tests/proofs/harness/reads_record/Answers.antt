use Rattle.swan_model.specs.Versions.{placed_at}
use Rattle.version_tests.proofs.Allowing.{placed_by_test}
use Rattle.version_tests.proofs.harness.reads_record.Goals as goal

pub value-requires : goal.value-requires
value-requires c = record { placed = placed_by_test (placed_at c.args.versions.now c.args.frame c.args.place) c.requires }
