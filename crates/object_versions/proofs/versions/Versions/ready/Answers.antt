use Rattle.std.proofs.Common.{◌≡◌, ℕ, true, sym, subst}
use Rattle.swan_model.specs.declared.rights.Mode.TheVariants.{In}
use Rattle.swan_model.specs.Rights.{allows}
use Rattle.swan_model.specs.Versions.{VersionState, Awaits}
use Rattle.object_versions.specs.Following.{MayWrite}
use Rattle.object_versions.proofs.Awaited.{awaits_kept, awaits_read, given_owes}
use Rattle.object_versions.proofs.versions.Versions.ready.Goals as goal

pub returns-in-Some-clause-err : goal.returns-in-Some-clause-err
returns-in-Some-clause-err c =
    let entries = c.self.inside.store.places.entries in
    let nodes = c.self.inside.store.nodes in
    let made = c.self.inside.made in
    let found = c.in-Some.awaited in
    let P : VersionState → Type 0 = λ state. (waits : Awaits state c.args.frame found.place found.owing) × (allows waits.object.mode In ≡ true) in
    let waits = subst P c.self.view_is (awaits_read entries nodes made c.args.frame found.place found.owing c.self.invariant c.in-Some.ensures.owes) in (
      found.place,
      waits.0,
      waits.1,
      λ other n waits.
          let Q : VersionState → Type 0 = λ state. Awaits state c.args.frame other n in
          c.in-Some.ensures.first other n (awaits_kept entries nodes made c.args.frame other n (subst Q (sym c.self.view_is) waits)),
    )

pub returns-in-None-clause-ok : goal.returns-in-None-clause-ok
returns-in-None-clause-ok c = λ place owing waits.
    let P : VersionState → Type 0 = λ state. Awaits state c.args.frame place owing in
    c.in-None.ensures.none place owing
    (awaits_kept c.self.inside.store.places.entries c.self.inside.store.nodes c.self.inside.made c.args.frame place owing (subst P (sym c.self.view_is) waits))

pub returns-in-Some-clause-owes : goal.returns-in-Some-clause-owes
returns-in-Some-clause-owes c =
    let owing = c.in-Some.awaited.owing in
    let P : VersionState → Type 0 = λ state. (place : ℕ) (awaits : Awaits state c.args.frame place owing) → MayWrite state owing awaits.object.object in
    subst P c.self.view_is (λ place awaits. given_owes c.self.inside.store.places.entries c.self.inside.store.nodes c.self.inside.made c.self.invariant c.args.frame place owing awaits)

pub first_awaited-requires : goal.first_awaited-requires
first_awaited-requires c = record { whole = (c.self.inside.made, c.self.invariant) }
