use Rattle.version_tests.proofs.Allowing.{finish_by_test}
use Rattle.version_tests.proofs.harness.ends.Goals as goal

pub finish-requires : goal.finish-requires
finish-requires c = record { settled = finish_by_test c.args.versions.now c.args.frame c.requires }
