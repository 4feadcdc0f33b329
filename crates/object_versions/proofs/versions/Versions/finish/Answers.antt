use Rattle.std.proofs.Common.{sym, subst, ap, ◌∙◌}
use Rattle.swan_model.specs.Versions.{VersionState, IsSettled, objects_after_finish}
use Rattle.object_versions.proofs.Settling.{begins}
use Rattle.object_versions.proofs.Finishing.{root_finished, frame_finished, not_begun}
use Rattle.object_versions.proofs.CallsFollow.{finish_told}
use Rattle.object_versions.proofs.GivingCalls.{finished_giving}
use Rattle.object_versions.proofs.versions.Versions.finish.Goals as goal

pub settle_all-requires : goal.settle_all-requires
settle_all-requires c =
    let P : VersionState → Type 0 = λ state. IsSettled state c.args.frame in
    record {
      began = (
        c.self.inside.made,
        begins c.self.inside.store.places.entries c.self.inside.store.nodes c.self.inside.made c.args.frame c.self.invariant (subst P (sym c.self.view_is) c.requires.settled),
      );
    }

pub invariant_of-self : goal.invariant_of-self
invariant_of-self c =
    let P : VersionState → Type 0 = λ state. IsSettled state c.args.frame in
    let entries = c.self.inside.store.places.entries in
    let made = c.self.inside.made in
    let begun = begins entries c.self.inside.store.nodes made c.args.frame c.self.invariant (subst P (sym c.self.view_is) c.requires.settled) in
    (c.forget_all.ensures.forgotten made (not_begun _ _ _ _ made c.args.frame (c.in-Ok.ensures.settling made begun) c.in-Ok.ensures.paid)).whole

pub returns-then-not-is_root-clause-ok : goal.returns-then-not-is_root-clause-ok
returns-then-not-is_root-clause-ok c =
    let P : VersionState → Type 0 = λ state. IsSettled state c.args.frame in
    let entries = c.self.inside.store.places.entries in
    let made = c.self.inside.made in
    let begun = begins entries c.self.inside.store.nodes made c.args.frame c.self.invariant (subst P (sym c.self.view_is) c.requires.settled) in
    let settling = c.in-Ok.ensures.settling made begun in
    let forgotten = c.forget_all.ensures.forgotten made (not_begun _ _ _ _ made c.args.frame settling c.in-Ok.ensures.paid) in
    frame_finished _ _ _ _ made c.args.frame settling c.in-Ok.ensures.paid c.if-not-is_root.true c.forget_all.new.places.entries c.forget_all.new.nodes forgotten c.forget_all.ensures.none
    ∙ ap (λ state. objects_after_finish state c.args.frame) c.self.view_is

pub returns-else-not-is_root-clause-ok : goal.returns-else-not-is_root-clause-ok
returns-else-not-is_root-clause-ok c =
    let P : VersionState → Type 0 = λ state. IsSettled state c.args.frame in
    let entries = c.self.inside.store.places.entries in
    let made = c.self.inside.made in
    let begun = begins entries c.self.inside.store.nodes made c.args.frame c.self.invariant (subst P (sym c.self.view_is) c.requires.settled) in
    root_finished _ _ _ _ made c.args.frame (c.in-Ok.ensures.settling made begun) c.in-Ok.ensures.paid c.if-not-is_root.false
    ∙ ap (λ state. objects_after_finish state c.args.frame) c.self.view_is

pub returns-then-not-is_root-clause-follows : goal.returns-then-not-is_root-clause-follows
returns-then-not-is_root-clause-follows c = finish_told c.args.self.now _ c.args.frame c.requires.settled (returns-then-not-is_root-clause-ok c)

pub returns-then-not-is_root-clause-giving : goal.returns-then-not-is_root-clause-giving
returns-then-not-is_root-clause-giving c = finished_giving c.args.self.now _ c.args.frame c.requires.settled (returns-then-not-is_root-clause-ok c)

pub returns-else-not-is_root-clause-follows : goal.returns-else-not-is_root-clause-follows
returns-else-not-is_root-clause-follows c = finish_told c.args.self.now _ c.args.frame c.requires.settled (returns-else-not-is_root-clause-ok c)

pub returns-else-not-is_root-clause-giving : goal.returns-else-not-is_root-clause-giving
returns-else-not-is_root-clause-giving c = finished_giving c.args.self.now _ c.args.frame c.requires.settled (returns-else-not-is_root-clause-ok c)

pub forget_all-requires : goal.forget_all-requires
forget_all-requires c =
    let P : VersionState → Type 0 = λ state. IsSettled state c.args.frame in
    let entries = c.self.inside.store.places.entries in
    let made = c.self.inside.made in
    let begun = begins entries c.self.inside.store.nodes made c.args.frame c.self.invariant (subst P (sym c.self.view_is) c.requires.settled) in
    record { began = (made, not_begun _ _ _ _ made c.args.frame (c.in-Ok.ensures.settling made begun) c.in-Ok.ensures.paid) }
