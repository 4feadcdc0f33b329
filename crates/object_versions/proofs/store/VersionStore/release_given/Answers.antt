use Rattle.std.proofs.Common.{ℕ, None, ap, ◌∙◌}
use Rattle.object_versions.specs.declared.placed_object.PlacedObject.{PlacedObject}
use Rattle.object_versions.specs.Store.{PlaceEntries, place_at}
use Rattle.object_versions.proofs.Lookups.{at_set, still_set}
use Rattle.object_versions.proofs.Forgotten.{forgotten_whole, forgotten_seen}
use Rattle.object_versions.proofs.Referred.{given_there}
use Rattle.swan_model.proofs.Elements.{some_is}
use Rattle.object_versions.proofs.store.VersionStore.release_given.Goals as goal

pub returns-clause-stands : goal.returns-clause-stands
returns-clause-stands c =
    let less : PlacedObject = record c.args.object { given = None } in
    ap (λ (es : PlaceEntries). place_at es c.args.frame c.args.place) (c.forget_given.ensures.set c.args.object c.requires.stands)
    ∙ at_set c.args.self.now.places.entries (c.args.frame, c.args.place) c.args.object less c.requires.stands

pub returns-clause-others : goal.returns-clause-others
returns-clause-others c = λ other at apart.
    let less : PlacedObject = record c.args.object { given = None } in
    ap (λ (es : PlaceEntries). place_at es other at) (c.forget_given.ensures.set c.args.object c.requires.stands)
    ∙ still_set c.args.self.now.places.entries (c.args.frame, c.args.place) c.args.object less (other, at) c.requires.stands (λ e. apart (ap (λ (n : ℕ × ℕ). n.0) e))

pub returns-clause-whole : goal.returns-clause-whole
returns-clause-whole c = λ made whole.
    forgotten_whole c.args.self.now.places.entries c.forget_given.new.places.entries c.args.self.now.nodes c.release.new.nodes made c.args.frame c.args.place
    c.in-Some.given c.args.object c.in-Ok.field-0.now whole c.requires.stands c.in-Some.is c.in-Ok.ensures.ok
    (c.forget_given.ensures.set c.args.object c.requires.stands) c.forget_given.ensures.sorted c.release.ensures

pub returns-clause-seen : goal.returns-clause-seen
returns-clause-seen c = λ made whole.
    forgotten_seen c.args.self.now.places.entries c.forget_given.new.places.entries c.args.self.now.nodes c.release.new.nodes made c.args.frame c.args.place
    c.in-Some.given c.args.object c.in-Ok.field-0.now whole c.requires.stands c.in-Some.is c.in-Ok.ensures.ok
    (c.forget_given.ensures.set c.args.object c.requires.stands) c.forget_given.ensures.sorted c.release.ensures

pub value_at-requires : goal.value_at-requires
value_at-requires c =
    given_there c.args.self.now.places.entries c.args.self.now.nodes c.requires.whole.0 c.args.frame c.args.place c.args.object c.requires.whole.1 c.requires.stands c.in-Some.given c.in-Some.is

pub release-requires : goal.release-requires
release-requires c =
    given_there c.args.self.now.places.entries c.args.self.now.nodes c.requires.whole.0 c.args.frame c.args.place c.args.object c.requires.whole.1 c.requires.stands c.in-Some.given c.in-Some.is

pub forget_given-requires : goal.forget_given-requires
forget_given-requires c = some_is _ c.args.object c.requires.stands
