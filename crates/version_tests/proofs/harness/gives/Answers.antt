use Rattle.version_tests.proofs.Allowing.{access_by_test}
use Rattle.version_tests.proofs.harness.gives.Goals as goal

pub access-requires : goal.access-requires
access-requires c =
    let may = access_by_test c.args.versions.now c.args.parent c.args.place c.args.child c.args.child_place c.args.mode c.requires in
    record { differ = may.differ; held = may.held; of_objects = may.of_objects; free = may.free; alone = may.alone }
