use Rattle.std.proofs.Common.{ap, ◌∙◌}
use Rattle.swan_model.specs.Versions.{after_write}
use Rattle.object_versions.proofs.Forgotten.{left_owed}
use Rattle.object_versions.proofs.Writing.{written_whole, written_seen, written_own}
use Rattle.object_versions.proofs.Overwriting.{overwritten_whole, overwritten_seen, overwritten_own}
use Rattle.object_versions.proofs.Referred.{present_there, still_there}
use Rattle.swan_model.proofs.Elements.{some_is}
use Rattle.object_versions.proofs.store.VersionStore.write.Goals as goal

pub returns-then-is_alone-clause-whole : goal.returns-then-is_alone-clause-whole
returns-then-is_alone-clause-whole c = λ made whole.
    let own = c.release_given-own in
    overwritten_whole own.new.self.places.entries own.new.self.nodes c.overwrite.new.nodes made c.args.frame c.args.place own.result c.args.value
    (own.ensures.whole made whole) own.ensures.stands (c.is_alone.ensures.0 c.if-is_alone.true) c.overwrite.ensures

pub returns-then-is_alone-clause-written : goal.returns-then-is_alone-clause-written
returns-then-is_alone-clause-written c = λ made whole.
    let own = c.release_given-own in
    overwritten_seen own.new.self.places.entries own.new.self.nodes c.overwrite.new.nodes made c.args.frame c.args.place own.result c.args.value
    (own.ensures.whole made whole) own.ensures.stands (c.is_alone.ensures.0 c.if-is_alone.true) c.overwrite.ensures
    ∙ ap (λ state. after_write state c.args.frame c.args.place c.args.value) (own.ensures.seen made whole)

pub returns-clause-whole : goal.returns-clause-whole
returns-clause-whole c = λ made whole.
    let own = c.release_given-own in
    written_whole own.new.self.places.entries c.set_present.new.places.entries own.new.self.nodes c.make.new.nodes c.release.new.nodes made c.args.frame c.args.place
    c.in_ok-next.next own.result c.args.value (own.ensures.whole made whole) own.ensures.stands c.in_ok-next.ensures.vacant c.in_ok-next.ensures.made
    (c.set_present.ensures.set own.result own.ensures.stands) c.set_present.ensures.sorted c.release.ensures

pub returns-clause-written : goal.returns-clause-written
returns-clause-written c = λ made whole.
    let own = c.release_given-own in
    written_seen own.new.self.places.entries c.set_present.new.places.entries own.new.self.nodes c.make.new.nodes c.release.new.nodes made c.args.frame c.args.place
    c.in_ok-next.next own.result c.args.value (own.ensures.whole made whole) own.ensures.stands c.in_ok-next.ensures.vacant c.in_ok-next.ensures.made
    (c.set_present.ensures.set own.result own.ensures.stands) c.set_present.ensures.sorted c.release.ensures
    ∙ ap (λ state. after_write state c.args.frame c.args.place c.args.value) (own.ensures.seen made whole)

pub returns-then-is_alone-clause-own : goal.returns-then-is_alone-clause-own
returns-then-is_alone-clause-own c = λ made whole.
    let own = c.release_given-own in
    overwritten_own own.new.self.places.entries own.new.self.nodes c.overwrite.new.nodes made c.args.frame c.args.place own.result c.args.value
    (own.ensures.whole made whole) own.ensures.stands (c.is_alone.ensures.0 c.if-is_alone.true) c.overwrite.ensures
    (left_owed _ c.args.self.now.nodes own.new.self.nodes c.args.object own.result own.ensures.given_up own.ensures.kept)

pub returns-clause-own : goal.returns-clause-own
returns-clause-own c = λ made whole.
    let own = c.release_given-own in
    written_own own.new.self.places.entries c.set_present.new.places.entries own.new.self.nodes c.make.new.nodes c.release.new.nodes made c.args.frame c.args.place
    c.in_ok-next.next own.result c.args.value (own.ensures.whole made whole) own.ensures.stands c.in_ok-next.ensures.vacant c.in_ok-next.ensures.made
    (c.set_present.ensures.set own.result own.ensures.stands) c.set_present.ensures.sorted c.release.ensures
    (left_owed _ c.args.self.now.nodes own.new.self.nodes c.args.object own.result own.ensures.given_up own.ensures.kept)

pub release-requires : goal.release-requires
release-requires c =
    let own = c.release_given-own in
    let made = c.requires.whole.0 in
    still_there own.new.self.nodes c.make.new.nodes c.in_ok-next.next own.result.present _ c.in_ok-next.ensures.made
    (present_there own.new.self.places.entries own.new.self.nodes made c.args.frame c.args.place own.result (own.ensures.whole made c.requires.whole.1) own.ensures.stands)

pub is_alone-requires : goal.is_alone-requires
is_alone-requires c =
    let own = c.release_given-own in
    let made = c.requires.whole.0 in
    present_there own.new.self.places.entries own.new.self.nodes made c.args.frame c.args.place own.result (own.ensures.whole made c.requires.whole.1) own.ensures.stands

pub set_present-requires : goal.set_present-requires
set_present-requires c = some_is _ c.release_given-own.result c.release_given-own.ensures.stands
