use Rattle.std.proofs.Common.{arith}
use Rattle.object_versions.proofs.FewUses.{two_more_fit}
use Rattle.object_versions.proofs.GivingIn.{read_whole, read_seen}
use Rattle.object_versions.proofs.GivingUp.{put_keeps, put_shares}
use Rattle.object_versions.proofs.store.VersionStore.give_to_read.Goals as goal

pub returns-clause-whole : goal.returns-clause-whole
returns-clause-whole c = λ made whole.
    read_whole c.args.self.now.places.entries c.put.new.places.entries c.args.self.now.nodes c.share.new.nodes made
    c.args.gift.parent c.args.gift.parent_place c.args.gift.child c.args.gift.child_place c.args.object.now
    whole c.requires.stands c.requires.free c.requires.alone c.share.ensures
    (rw c.again.ensures at c.in_ok-put.ensures.put) c.put.ensures.sorted

pub returns-clause-given : goal.returns-clause-given
returns-clause-given c = λ made whole.
    read_seen c.args.self.now.places.entries c.put.new.places.entries c.args.self.now.nodes c.share.new.nodes made
    c.args.gift.parent c.args.gift.parent_place c.args.gift.child c.args.gift.child_place c.args.object.now
    whole c.requires.stands c.requires.free c.requires.alone c.share.ensures
    (rw c.again.ensures at c.in_ok-put.ensures.put) c.put.ensures.sorted

pub returns-clause-keeps : goal.returns-clause-keeps
returns-clause-keeps c =
    put_keeps c.args.self.now.places.entries c.put.new.places.entries c.args.gift.parent c.args.gift.parent_place c.args.gift.child c.args.gift.child_place c.args.object.now _
    c.requires.stands c.requires.free c.in_ok-put.ensures.put

pub returns-clause-shares : goal.returns-clause-shares
returns-clause-shares c =
    put_shares c.args.self.now.places.entries c.put.new.places.entries c.args.gift.parent c.args.gift.parent_place c.args.gift.child c.args.gift.child_place c.args.object.now _
    c.requires.stands c.requires.free c.in_ok-put.ensures.put

pub share-requires-clause-room : goal.share-requires-clause-room
share-requires-clause-room c = λ node is.
    two_more_fit c.args.self.now.places.entries c.args.self.now.nodes c.requires.known.0 c.args.object.now.present node c.requires.known.1 (omega (arith, c.len-few.ensures.len, c.len-few.ensures.small)) is
