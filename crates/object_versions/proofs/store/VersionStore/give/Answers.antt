use Rattle.std.proofs.Common.{sym}
use Rattle.swan_model.specs.declared.rights.Mode.TheVariants.{In, Out, InOut}
use Rattle.object_versions.proofs.Forgotten.{left_owed, then_whole, then_given}
use Rattle.object_versions.proofs.GivingUp.{then_given_up}
use Rattle.object_versions.proofs.Referred.{present_there}
use Rattle.object_versions.proofs.store.VersionStore.give.Goals as goal

pub returns-in-In-clause-whole : goal.returns-in-In-clause-whole
returns-in-In-clause-whole c =
    let own = c.release_given-object in
    then_whole c.give_to_read.result c.args.self.now.places.entries own.new.self.places.entries c.give_to_read.new.self.places.entries c.args.self.now.nodes own.new.self.nodes c.give_to_read.new.self.nodes
    own.ensures.whole c.give_to_read.ensures.whole

pub returns-in-In-clause-given : goal.returns-in-In-clause-given
returns-in-In-clause-given c =
    let own = c.release_given-object in
    then_given c.give_to_read.result c.args.self.now.places.entries own.new.self.places.entries c.give_to_read.new.self.places.entries c.args.self.now.nodes own.new.self.nodes c.give_to_read.new.self.nodes
    c.args.gift.parent c.args.gift.parent_place c.args.gift.child c.args.gift.child_place In c.args.mode (sym c.in-In.is) own.ensures.whole own.ensures.seen c.give_to_read.ensures.given

pub returns-in-Out-clause-whole : goal.returns-in-Out-clause-whole
returns-in-Out-clause-whole c =
    let own = c.release_given-object in
    then_whole c.give_to_write.result c.args.self.now.places.entries own.new.self.places.entries c.give_to_write.new.self.places.entries c.args.self.now.nodes own.new.self.nodes c.give_to_write.new.self.nodes
    own.ensures.whole c.give_to_write.ensures.whole

pub returns-in-Out-clause-given : goal.returns-in-Out-clause-given
returns-in-Out-clause-given c =
    let own = c.release_given-object in
    then_given c.give_to_write.result c.args.self.now.places.entries own.new.self.places.entries c.give_to_write.new.self.places.entries c.args.self.now.nodes own.new.self.nodes c.give_to_write.new.self.nodes
    c.args.gift.parent c.args.gift.parent_place c.args.gift.child c.args.gift.child_place Out c.args.mode (sym c.in-Out.is) own.ensures.whole own.ensures.seen c.give_to_write.ensures.given

pub returns-in-InOut-clause-whole : goal.returns-in-InOut-clause-whole
returns-in-InOut-clause-whole c =
    let own = c.release_given-object in
    then_whole c.give_to_change.result c.args.self.now.places.entries own.new.self.places.entries c.give_to_change.new.self.places.entries c.args.self.now.nodes own.new.self.nodes c.give_to_change.new.self.nodes
    own.ensures.whole c.give_to_change.ensures.whole

pub returns-in-InOut-clause-given : goal.returns-in-InOut-clause-given
returns-in-InOut-clause-given c =
    let own = c.release_given-object in
    then_given c.give_to_change.result c.args.self.now.places.entries own.new.self.places.entries c.give_to_change.new.self.places.entries c.args.self.now.nodes own.new.self.nodes c.give_to_change.new.self.nodes
    c.args.gift.parent c.args.gift.parent_place c.args.gift.child c.args.gift.child_place InOut c.args.mode (sym c.in-InOut.is) own.ensures.whole own.ensures.seen c.give_to_change.ensures.given

pub returns-in-In-clause-given_up : goal.returns-in-In-clause-given_up
returns-in-In-clause-given_up c =
    let own = c.release_given-object in
    then_given_up c.give_to_read.result c.args.self.now.places.entries own.new.self.places.entries c.give_to_read.new.self.places.entries c.args.self.now.nodes own.new.self.nodes c.give_to_read.new.self.nodes
    c.args.gift.parent c.args.gift.parent_place c.args.gift.child c.args.gift.child_place In own.result c.requires.differ own.ensures.whole own.ensures.stands
    (left_owed _ c.args.self.now.nodes own.new.self.nodes c.again-found.result own.result own.ensures.given_up own.ensures.kept) c.give_to_read.ensures.given c.give_to_read.ensures.keeps

pub returns-in-Out-clause-given_up : goal.returns-in-Out-clause-given_up
returns-in-Out-clause-given_up c =
    let own = c.release_given-object in
    then_given_up c.give_to_write.result c.args.self.now.places.entries own.new.self.places.entries c.give_to_write.new.self.places.entries c.args.self.now.nodes own.new.self.nodes c.give_to_write.new.self.nodes
    c.args.gift.parent c.args.gift.parent_place c.args.gift.child c.args.gift.child_place Out own.result c.requires.differ own.ensures.whole own.ensures.stands
    (left_owed _ c.args.self.now.nodes own.new.self.nodes c.again-found.result own.result own.ensures.given_up own.ensures.kept) c.give_to_write.ensures.given c.give_to_write.ensures.keeps

pub returns-in-InOut-clause-given_up : goal.returns-in-InOut-clause-given_up
returns-in-InOut-clause-given_up c =
    let own = c.release_given-object in
    then_given_up c.give_to_change.result c.args.self.now.places.entries own.new.self.places.entries c.give_to_change.new.self.places.entries c.args.self.now.nodes own.new.self.nodes c.give_to_change.new.self.nodes
    c.args.gift.parent c.args.gift.parent_place c.args.gift.child c.args.gift.child_place InOut own.result c.requires.differ own.ensures.whole own.ensures.stands
    (left_owed _ c.args.self.now.nodes own.new.self.nodes c.again-found.result own.result own.ensures.given_up own.ensures.kept) c.give_to_change.ensures.given c.give_to_change.ensures.keeps

pub give_to_read-requires-clause-present : goal.give_to_read-requires-clause-present
give_to_read-requires-clause-present c =
    let own = c.release_given-object in
    let made = c.requires.whole.0 in
    present_there own.new.self.places.entries own.new.self.nodes made c.args.gift.parent c.args.gift.parent_place own.result (own.ensures.whole made c.requires.whole.1) own.ensures.stands

pub give_to_write-requires-clause-present : goal.give_to_write-requires-clause-present
give_to_write-requires-clause-present c =
    let own = c.release_given-object in
    let made = c.requires.whole.0 in
    present_there own.new.self.places.entries own.new.self.nodes made c.args.gift.parent c.args.gift.parent_place own.result (own.ensures.whole made c.requires.whole.1) own.ensures.stands

pub give_to_change-requires-clause-present : goal.give_to_change-requires-clause-present
give_to_change-requires-clause-present c =
    let own = c.release_given-object in
    let made = c.requires.whole.0 in
    present_there own.new.self.places.entries own.new.self.nodes made c.args.gift.parent c.args.gift.parent_place own.result (own.ensures.whole made c.requires.whole.1) own.ensures.stands

pub give_to_read-requires-clause-known : goal.give_to_read-requires-clause-known
give_to_read-requires-clause-known c = (c.requires.whole.0, c.release_given-object.ensures.whole c.requires.whole.0 c.requires.whole.1)

pub give_to_change-requires-clause-known : goal.give_to_change-requires-clause-known
give_to_change-requires-clause-known c = (c.requires.whole.0, c.release_given-object.ensures.whole c.requires.whole.0 c.requires.whole.1)
