use Rattle.std.proofs.Common.{◌≡◌, Some, sym, subst, rules}
use Rattle.swan_model.specs.Versions.{VersionState, placed_at}
use Rattle.object_versions.proofs.Awaited.{absent}
use Rattle.object_versions.proofs.CallsFollow.{next_write_told}
use Rattle.object_versions.proofs.GivingCalls.{written_giving}
use Rattle.object_versions.proofs.versions.Versions.write.Goals as goal

pub unreachable-requires : goal.unreachable-requires
unreachable-requires c =
    let P : VersionState → Type 0 = λ state. placed_at state c.args.frame c.args.place ≡ Some c.requires.placed.0 in
    absent c.self.inside.store.places.entries c.self.inside.store.nodes c.self.inside.made c.args.frame c.args.place c.requires.placed.0 (sym c.in_default.ensures.value) (subst P (sym c.self.view_is) c.requires.placed.1)

pub invariant_of-self : goal.invariant_of-self
invariant_of-self c = c.in-Ok.ensures.whole c.self.inside.made c.self.invariant

pub invariant_of-self-in-Err : goal.invariant_of-self-in-Err
invariant_of-self-in-Err c = c.clear.ensures.whole c.self.inside.made

pub returns-in-Ok-clause-follows : goal.returns-in-Ok-clause-follows
returns-in-Ok-clause-follows c = next_write_told c.args.self.now _ c.args.frame c.args.place c.args.value (search rules)

pub returns-in-Ok-clause-giving : goal.returns-in-Ok-clause-giving
returns-in-Ok-clause-giving c = written_giving c.args.self.now _ c.args.frame c.args.place c.args.value (search rules)

pub write-requires-clause-whole : goal.write-requires-clause-whole
write-requires-clause-whole c = (c.self.inside.made, c.self.invariant)
