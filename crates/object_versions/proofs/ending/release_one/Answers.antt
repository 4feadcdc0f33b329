use Rattle.object_versions.proofs.Releasing.{released_at}
use Rattle.object_versions.proofs.ending.release_one.Goals as goal

pub returns-in-Some : goal.returns-in-Some
returns-in-Some c = λ entries made held later whole split.
    released_at entries c.args.nodes.now c.release.new.nodes made held later c.args.key c.in-Some.key c.in-Some.is c.release.ensures whole split

pub release-requires : goal.release-requires
release-requires c = c.requires c.in-Some.key c.in-Some.is
