use Rattle.object_versions.proofs.Releasing.{released_all, first_there, second_there}
use Rattle.object_versions.proofs.ending.release_all.Goals as goal

pub returns : goal.returns
returns c = λ entries made whole.
    released_all entries c.args.nodes.now c.release_one.new.nodes c.release_one-2.new.nodes made c.args.place.now c.requires.paid
    (c.release_one.ensures entries made) (c.release_one-2.ensures entries made) whole

pub release_one-requires : goal.release_one-requires
release_one-requires c =
    let whole = c.requires.whole in
    first_there whole.0 c.args.nodes.now whole.1 c.args.place.now whole.2

pub release_one-requires-2 : goal.release_one-requires-2
release_one-requires-2 c =
    let whole = c.requires.whole in
    second_there whole.0 c.args.nodes.now c.release_one.new.nodes whole.1 c.args.place.now (c.release_one.ensures whole.0 whole.1) whole.2
