use Rattle.object_versions.proofs.Making.{created_whole, created_seen}
use Rattle.object_versions.proofs.store.VersionStore.create.Goals as goal

pub returns-clause-whole : goal.returns-clause-whole
returns-clause-whole c =
    created_whole c.args.self.now.places.entries c.args.self.now.nodes c.make.new.nodes c.args.made.now c.args.frame c.args.place c.in_ok-present.present
    c.kind-kind.result c.args.first c.kind-kind.ensures c.requires.whole c.requires.free c.in_ok-present.ensures.vacant c.in_ok-present.ensures.made
    c.put.new.places.entries (rw c.again.ensures at c.in_ok-put.ensures.put) c.put.ensures.sorted

pub returns-clause-created : goal.returns-clause-created
returns-clause-created c =
    created_seen c.args.self.now.places.entries c.args.self.now.nodes c.make.new.nodes c.args.made.now c.args.frame c.args.place c.in_ok-present.present
    c.kind-kind.result c.args.first c.kind-kind.ensures c.requires.whole c.requires.free c.in_ok-present.ensures.vacant c.in_ok-present.ensures.made
    c.put.new.places.entries (rw c.again.ensures at c.in_ok-put.ensures.put)
