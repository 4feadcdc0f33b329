use Rattle.swan_model.specs.Versions.{placed_at}
use Rattle.version_tests.proofs.Allowing.{placed_by_test}
use Rattle.version_tests.proofs.harness.writes.Goals as goal

pub write-requires : goal.write-requires
write-requires c = record { placed = placed_by_test (placed_at c.args.versions.now c.args.frame c.args.place) c.requires }
