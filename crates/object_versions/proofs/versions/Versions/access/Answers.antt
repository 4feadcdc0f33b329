use Rattle.std.proofs.Common.{◌≡◌, inl, None, Some, sym, ap, ◌∙◌, subst, rules}
use Rattle.swan_model.specs.Versions.{VersionState, Placed, placed_at, after_access, Holds, MayGet}
use Rattle.object_versions.proofs.Seeing.{free_of}
use Rattle.object_versions.proofs.Awaited.{may_give}
use Rattle.object_versions.proofs.PlacesStay.{access_keeps}
use Rattle.object_versions.proofs.GivingCalls.{access_giving, access_last}
use Rattle.object_versions.proofs.GivingMeanwhile.{access_meanwhile, last_meanwhile}
use Rattle.object_versions.proofs.versions.Versions.access.Goals as goal

pub give-requires-clause-stands : goal.give-requires-clause-stands
give-requires-clause-stands c =
    let P : VersionState → Type 0 = λ state. Holds state c.args.parent c.args.parent_place c.args.mode in
    let Q : VersionState → Type 0 = λ state. (object : Placed) → placed_at state c.args.parent c.args.parent_place ≡ Some object → MayGet state c.args.child object.object c.args.mode in
    may_give c.self.inside.store.places.entries c.self.inside.store.nodes c.self.inside.made c.args.parent c.args.parent_place c.args.child c.args.mode
    (subst P (sym c.self.view_is) c.requires.held) (subst Q (sym c.self.view_is) c.requires.alone)

pub give-requires-clause-free : goal.give-requires-clause-free
give-requires-clause-free c =
    let P : VersionState → Type 0 = λ state. placed_at state c.args.child c.args.child_place ≡ None in
    free_of c.self.inside.store.places.entries c.self.inside.store.nodes c.self.inside.made c.args.child c.args.child_place (subst P (sym c.self.view_is) c.requires.free)

pub invariant_of-self : goal.invariant_of-self
invariant_of-self c = c.in-Ok.ensures.whole c.self.inside.made c.self.invariant

pub invariant_of-self-in-Err : goal.invariant_of-self-in-Err
invariant_of-self-in-Err c = c.clear.ensures.whole c.self.inside.made

pub returns-in-Ok-clause-others : goal.returns-in-Ok-clause-others
returns-in-Ok-clause-others c = λ frame place from to.
    ap (λ (state : VersionState). placed_at state frame place) (c.in-Ok.ensures.given c.self.inside.made c.self.invariant)
    ∙ ap (λ (state : VersionState). placed_at (after_access state c.args.parent c.args.parent_place c.args.child c.args.child_place c.args.mode) frame place) c.self.view_is
    ∙ access_keeps c.args.self.now c.args.parent c.args.parent_place c.args.child c.args.child_place c.args.mode frame place (inl from) to

pub returns-in-Ok-clause-giving : goal.returns-in-Ok-clause-giving
returns-in-Ok-clause-giving c =
    access_giving c.args.self.now _ c.args.parent c.args.parent_place c.args.child c.args.child_place c.args.mode c.requires.held c.requires.free c.requires.alone (search rules)

pub returns-in-Ok-clause-last : goal.returns-in-Ok-clause-last
returns-in-Ok-clause-last c =
    access_last c.args.self.now _ c.args.parent c.args.parent_place c.args.child c.args.child_place c.args.mode c.requires.held c.requires.free c.requires.alone (search rules)

pub returns-in-Ok-clause-beside : goal.returns-in-Ok-clause-beside
returns-in-Ok-clause-beside c =
    access_meanwhile c.args.self.now _ c.args.parent c.args.parent_place c.args.child c.args.child_place c.args.mode c.requires.held c.requires.free c.requires.alone (search rules)

pub returns-in-Ok-clause-last_beside : goal.returns-in-Ok-clause-last_beside
returns-in-Ok-clause-last_beside c =
    last_meanwhile c.args.self.now _ c.args.parent c.args.parent_place c.args.child c.args.child_place c.args.mode c.requires.held c.requires.free c.requires.alone (search rules)

pub give-requires-clause-whole : goal.give-requires-clause-whole
give-requires-clause-whole c = (c.self.inside.made, c.self.invariant)
