use Rattle.std.proofs.Common.{◌≡◌, Some, sym, subst}
use Rattle.std.proofs.lemmas.Result.{IfOk-weaker, IfErr-weaker}
use Rattle.swan_model.specs.Versions.{VersionState, placed_at, settled, owed}
use Rattle.object_versions.specs.Following.{MayWrite}
use Rattle.object_versions.proofs.Awaited.{absent, present_by, present_owes}
use Rattle.object_versions.proofs.CallsFollow.{value_told}
use Rattle.object_versions.proofs.Referred.{present_there}
use Rattle.object_versions.proofs.versions.Versions.value.Goals as goal

pub unreachable-requires : goal.unreachable-requires
unreachable-requires c =
    let P : VersionState → Type 0 = λ state. placed_at state c.args.frame c.args.place ≡ Some c.requires.placed.0 in
    absent c.self.inside.store.places.entries c.self.inside.store.nodes c.self.inside.made c.args.frame c.args.place c.requires.placed.0 (sym c.in-None.ensures.value) (subst P (sym c.self.view_is) c.requires.placed.1)

pub returns-clause-ok : goal.returns-clause-ok
returns-clause-ok c = IfOk-weaker c.value_at.result _ _ (λ value reads object seen.
    let P : VersionState → Type 0 = λ state. placed_at state c.args.frame c.args.place ≡ Some object in
    present_by c.self.inside.store.places.entries c.self.inside.store.nodes c.self.inside.made c.args.frame c.args.place c.in-Some.object.now (settled value.now)
    (sym c.in-Some.ensures.value) reads object (subst P (sym c.self.view_is) seen))
    c.value_at.ensures.ok

pub returns-clause-err : goal.returns-clause-err
returns-clause-err c = IfErr-weaker c.value_at.result _ _ (λ owing reads object seen.
    let P : VersionState → Type 0 = λ state. placed_at state c.args.frame c.args.place ≡ Some object in
    present_by c.self.inside.store.places.entries c.self.inside.store.nodes c.self.inside.made c.args.frame c.args.place c.in-Some.object.now (owed owing)
    (sym c.in-Some.ensures.value) reads object (subst P (sym c.self.view_is) seen))
    c.value_at.ensures.err

pub returns-clause-owes : goal.returns-clause-owes
returns-clause-owes c = IfErr-weaker c.value_at.result _ _ (λ owing all object seen.
    let P : VersionState → Type 0 = λ state. placed_at state c.args.frame c.args.place ≡ Some object → MayWrite state owing object.object in
    subst P c.self.view_is
    (λ stands. present_owes c.self.inside.store.places.entries c.self.inside.store.nodes c.self.inside.made c.self.invariant c.args.frame c.args.place owing object stands (all object seen)) seen)
    (returns-clause-err c)

pub returns-clause-follows : goal.returns-clause-follows
returns-clause-follows c = value_told c.args.self.now c.args.frame c.args.place c.value_at.result (returns-clause-ok c)

pub value_at-requires : goal.value_at-requires
value_at-requires c =
    present_there c.self.inside.store.places.entries c.self.inside.store.nodes c.self.inside.made c.args.frame c.args.place c.in-Some.object.now c.self.invariant (sym c.in-Some.ensures.value)
