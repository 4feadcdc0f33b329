use Rattle.object_versions.proofs.GivingOut.{out_whole, out_seen}
use Rattle.object_versions.proofs.Given.{still_stands}
use Rattle.object_versions.proofs.GivingUp.{set_keeps}
use Rattle.object_versions.proofs.Referred.{still_there}
use Rattle.swan_model.proofs.Elements.{some_is}
use Rattle.object_versions.proofs.store.VersionStore.give_to_write.Goals as goal

pub returns-clause-whole : goal.returns-clause-whole
returns-clause-whole c = λ made whole.
    out_whole c.args.self.now.places.entries c.put.new.places.entries c.set_present.new.places.entries c.args.self.now.nodes c.make.new.nodes c.make-2.new.nodes c.release.new.nodes made
    c.args.gift.parent c.args.gift.parent_place c.args.gift.child c.args.gift.child_place c.in_ok-owed.owed c.in_ok-own.own c.args.object.now c.zero-zero.result
    c.requires.differ whole c.requires.stands c.requires.free c.requires.alone c.zero-zero.ensures
    c.in_ok-owed.ensures.vacant c.in_ok-owed.ensures.made c.in_ok-own.ensures.vacant c.in_ok-own.ensures.made
    (rw c.again.ensures at c.in_ok-put.ensures.put) c.put.ensures.sorted
    (c.set_present.ensures.set c.args.object.now (still_stands c.args.self.now.places.entries c.put.new.places.entries c.args.gift.parent c.args.gift.parent_place c.args.gift.child c.args.gift.child_place
    c.args.object.now _ c.requires.stands c.requires.free c.in_ok-put.ensures.put))
    c.set_present.ensures.sorted c.release.ensures

pub returns-clause-given : goal.returns-clause-given
returns-clause-given c = λ made whole.
    out_seen c.args.self.now.places.entries c.put.new.places.entries c.set_present.new.places.entries c.args.self.now.nodes c.make.new.nodes c.make-2.new.nodes c.release.new.nodes made
    c.args.gift.parent c.args.gift.parent_place c.args.gift.child c.args.gift.child_place c.in_ok-owed.owed c.in_ok-own.own c.args.object.now c.zero-zero.result
    c.requires.differ whole c.requires.stands c.requires.free c.requires.alone c.zero-zero.ensures
    c.in_ok-owed.ensures.vacant c.in_ok-owed.ensures.made c.in_ok-own.ensures.vacant c.in_ok-own.ensures.made
    (rw c.again.ensures at c.in_ok-put.ensures.put) c.put.ensures.sorted
    (c.set_present.ensures.set c.args.object.now (still_stands c.args.self.now.places.entries c.put.new.places.entries c.args.gift.parent c.args.gift.parent_place c.args.gift.child c.args.gift.child_place
    c.args.object.now _ c.requires.stands c.requires.free c.in_ok-put.ensures.put))
    c.set_present.ensures.sorted c.release.ensures

pub returns-clause-keeps : goal.returns-clause-keeps
returns-clause-keeps c =
    set_keeps c.args.self.now.places.entries c.put.new.places.entries c.args.gift.parent c.args.gift.parent_place c.args.gift.child c.args.gift.child_place c.args.object.now _
    c.requires.stands c.requires.free c.in_ok-put.ensures.put c.set_present.new.places.entries c.in_ok-owed.owed
    (c.set_present.ensures.set c.args.object.now (still_stands c.args.self.now.places.entries c.put.new.places.entries c.args.gift.parent c.args.gift.parent_place c.args.gift.child c.args.gift.child_place
    c.args.object.now _ c.requires.stands c.requires.free c.in_ok-put.ensures.put))

pub release-requires : goal.release-requires
release-requires c =
    still_there c.make.new.nodes c.make-2.new.nodes c.in_ok-own.own c.args.object.now.present _ c.in_ok-own.ensures.made
    (still_there c.args.self.now.nodes c.make.new.nodes c.in_ok-owed.owed c.args.object.now.present _ c.in_ok-owed.ensures.made c.requires.present)

pub set_present-requires : goal.set_present-requires
set_present-requires c =
    some_is _ c.args.object.now (still_stands c.args.self.now.places.entries c.put.new.places.entries c.args.gift.parent c.args.gift.parent_place c.args.gift.child c.args.gift.child_place
    c.args.object.now _ c.requires.stands c.requires.free c.in_ok-put.ensures.put)
