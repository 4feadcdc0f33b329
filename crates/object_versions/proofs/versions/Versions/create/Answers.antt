use Rattle.std.proofs.Common.{◌≡◌, None, sym, subst, rules}
use Rattle.swan_model.specs.Versions.{VersionState, placed_at}
use Rattle.object_versions.proofs.Seeing.{free_of}
use Rattle.object_versions.proofs.CallsFollow.{create_root, create_made}
use Rattle.object_versions.proofs.GivingCalls.{made_giving}
use Rattle.object_versions.proofs.versions.Versions.create.Goals as goal

pub create-requires-clause-free : goal.create-requires-clause-free
create-requires-clause-free c =
    let P : VersionState → Type 0 = λ state. placed_at state c.args.frame c.args.place ≡ None in
    free_of c.self.inside.store.places.entries c.self.inside.store.nodes c.self.inside.made c.args.frame c.args.place (subst P (sym c.self.view_is) c.requires.free)

pub invariant_of-self-in-Err : goal.invariant_of-self-in-Err
invariant_of-self-in-Err c = c.clear.ensures.whole c.self.inside.made

pub returns-in-Ok-clause-root : goal.returns-in-Ok-clause-root
returns-in-Ok-clause-root c = create_root c.args.self.now _ c.args.frame c.args.place c.args.first c.requires.free (search rules)

pub returns-in-Ok-clause-made : goal.returns-in-Ok-clause-made
returns-in-Ok-clause-made c = create_made c.args.self.now _ c.args.frame c.args.place c.args.first c.requires.free (search rules)

pub returns-in-Ok-clause-giving : goal.returns-in-Ok-clause-giving
returns-in-Ok-clause-giving c = made_giving c.args.self.now _ c.args.frame c.args.place c.args.first c.requires.free (search rules)
