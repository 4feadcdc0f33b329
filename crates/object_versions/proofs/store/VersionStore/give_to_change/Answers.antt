use Rattle.std.proofs.Common.{arith}
use Rattle.object_versions.proofs.FewUses.{two_more_fit}
use Rattle.object_versions.proofs.GivingInOut.{changed_whole, changed_seen}
use Rattle.object_versions.proofs.Given.{still_stands}
use Rattle.object_versions.proofs.GivingUp.{set_keeps, set_shares}
use Rattle.object_versions.proofs.Referred.{still_there, still_shared}
use Rattle.swan_model.proofs.Elements.{some_is}
use Rattle.object_versions.proofs.store.VersionStore.give_to_change.Goals as goal

pub returns-clause-whole : goal.returns-clause-whole
returns-clause-whole c = λ made whole.
    changed_whole c.args.self.now.places.entries c.put.new.places.entries c.set_present.new.places.entries c.args.self.now.nodes c.share.new.nodes c.make.new.nodes c.release.new.nodes made
    c.args.gift.parent c.args.gift.parent_place c.args.gift.child c.args.gift.child_place c.in_ok-next.next c.args.object.now
    c.requires.differ whole c.requires.stands c.requires.free c.requires.alone
    c.share.ensures c.in_ok-next.ensures.vacant c.in_ok-next.ensures.made
    (rw c.again.ensures at c.in_ok-put.ensures.put) c.put.ensures.sorted
    (c.set_present.ensures.set c.args.object.now (still_stands c.args.self.now.places.entries c.put.new.places.entries c.args.gift.parent c.args.gift.parent_place c.args.gift.child c.args.gift.child_place
    c.args.object.now _ c.requires.stands c.requires.free c.in_ok-put.ensures.put))
    c.set_present.ensures.sorted c.release.ensures

pub returns-clause-given : goal.returns-clause-given
returns-clause-given c = λ made whole.
    changed_seen c.args.self.now.places.entries c.put.new.places.entries c.set_present.new.places.entries c.args.self.now.nodes c.share.new.nodes c.make.new.nodes c.release.new.nodes made
    c.args.gift.parent c.args.gift.parent_place c.args.gift.child c.args.gift.child_place c.in_ok-next.next c.args.object.now
    c.requires.differ whole c.requires.stands c.requires.free c.requires.alone
    c.share.ensures c.in_ok-next.ensures.vacant c.in_ok-next.ensures.made
    (rw c.again.ensures at c.in_ok-put.ensures.put) c.put.ensures.sorted
    (c.set_present.ensures.set c.args.object.now (still_stands c.args.self.now.places.entries c.put.new.places.entries c.args.gift.parent c.args.gift.parent_place c.args.gift.child c.args.gift.child_place
    c.args.object.now _ c.requires.stands c.requires.free c.in_ok-put.ensures.put))
    c.set_present.ensures.sorted c.release.ensures

pub returns-clause-keeps : goal.returns-clause-keeps
returns-clause-keeps c =
    set_keeps c.args.self.now.places.entries c.put.new.places.entries c.args.gift.parent c.args.gift.parent_place c.args.gift.child c.args.gift.child_place c.args.object.now _
    c.requires.stands c.requires.free c.in_ok-put.ensures.put c.set_present.new.places.entries c.in_ok-next.next
    (c.set_present.ensures.set c.args.object.now (still_stands c.args.self.now.places.entries c.put.new.places.entries c.args.gift.parent c.args.gift.parent_place c.args.gift.child c.args.gift.child_place
    c.args.object.now _ c.requires.stands c.requires.free c.in_ok-put.ensures.put))

pub returns-clause-shares : goal.returns-clause-shares
returns-clause-shares c =
    set_shares c.args.self.now.places.entries c.put.new.places.entries c.args.gift.parent c.args.gift.parent_place c.args.gift.child c.args.gift.child_place c.args.object.now _
    c.requires.stands c.requires.free c.in_ok-put.ensures.put c.set_present.new.places.entries c.in_ok-next.next
    (c.set_present.ensures.set c.args.object.now (still_stands c.args.self.now.places.entries c.put.new.places.entries c.args.gift.parent c.args.gift.parent_place c.args.gift.child c.args.gift.child_place
    c.args.object.now _ c.requires.stands c.requires.free c.in_ok-put.ensures.put)) c.requires.differ

pub release-requires : goal.release-requires
release-requires c =
    let key = c.args.object.now.present in
    still_there c.share.new.nodes c.make.new.nodes c.in_ok-next.next key _ c.in_ok-next.ensures.made
    (still_shared c.args.self.now.nodes c.share.new.nodes key key _ c.share.ensures c.requires.present c.requires.present)

pub share-requires-clause-room : goal.share-requires-clause-room
share-requires-clause-room c = λ node is.
    two_more_fit c.args.self.now.places.entries c.args.self.now.nodes c.requires.known.0 c.args.object.now.present node c.requires.known.1 (omega (arith, c.len-few.ensures.len, c.len-few.ensures.small)) is

pub set_present-requires : goal.set_present-requires
set_present-requires c =
    some_is _ c.args.object.now (still_stands c.args.self.now.places.entries c.put.new.places.entries c.args.gift.parent c.args.gift.parent_place c.args.gift.child c.args.gift.child_place
    c.args.object.now _ c.requires.stands c.requires.free c.in_ok-put.ensures.put)
