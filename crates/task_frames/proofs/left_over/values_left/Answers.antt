use Rattle.std.proofs.Common.{◌+◌, ◌<◌, ◌++◌, ◌∷◌, [], List, length, sym, ap, ◌∙◌, subst, arith}
use Rattle.swan_model.specs.declared.value.Value.{Value}
use Rattle.swan_model.specs.Elision.{outcome}
use Rattle.swan_model.specs.Versions.{VersionState, placed_at}
use Rattle.serial_elision.proofs.Counts.{length-outcome_objects}
use Rattle.task_frames.specs.Cores.{KeptView}
use Rattle.task_frames.proofs.Leaving.{AreFirst, first-all, first-more, never-owed, root-placed, value-left}
use Rattle.task_frames.proofs.left_over.values_left.Goals as goal

pub value-requires : goal.value-requires
value-requires g c =
    let versions = ap (λ (k : KeptView). k.versions) c.kept.view_is in
    let less : c.loop-index.index < length c.args.plan.now.means.roots.objects = omega (arith, c.loop-index-test.true, c.requires.count) in
    let root = root-placed g.B.Body c.args.plan.now.means c.args.kept.now c.requires.core c.requires.over c.loop-index.index less in
    record {
      placed = (
        root.0,
        ap (λ (v : VersionState). placed_at v 0 (c.args.first + c.loop-index.index)) versions
            ∙ ap (λ n. placed_at c.args.kept.now.versions 0 (n + c.loop-index.index)) c.requires.first ∙ root.1,
      );
    }

pub unreachable-requires : goal.unreachable-requires
unreachable-requires g c =
    let versions = ap (λ (k : KeptView). k.versions) c.kept.view_is in
    let less : c.loop-index.index < length c.args.plan.now.means.roots.objects = omega (arith, c.loop-index-test.true, c.requires.count) in
    never-owed g.B.Body c.args.plan.now.means c.args.kept.now c.requires.core c.requires.over c.loop-index.index c.in-Err.field-0 less (λ object stands.
    c.in-Err.ensures.err object (ap (λ (v : VersionState). placed_at v 0 (c.args.first + c.loop-index.index)) versions
    ∙ ap (λ n. placed_at c.args.kept.now.versions 0 (n + c.loop-index.index)) c.requires.first ∙ stands))

pub loop-index-preserved : goal.loop-index-preserved
loop-index-preserved g c =
    let plan = c.args.plan.now.means in
    let versions = ap (λ (k : KeptView). k.versions) c.kept.view_is in
    let less : c.loop-index.index < length plan.roots.objects = omega (arith, c.loop-index-test.true, c.requires.count) in
    let left = value-left g.B.Body plan c.args.kept.now c.requires.core c.requires.over c.loop-index.index less c.in-Ok.value.now (λ object stands.
    c.in-Ok.ensures.ok object (ap (λ (v : VersionState). placed_at v 0 (c.args.first + c.loop-index.index)) versions
    ∙ ap (λ n. placed_at c.args.kept.now.versions 0 (n + c.loop-index.index)) c.requires.first ∙ stands)) in
    let more = first-more c.loop-index.values (outcome g.B.Body plan).objects c.loop-index.index c.in-Ok.value.now c.loop-index.invariant left in
    let pushed = c.in-Ok-push.ensures.ok ∙ ap (λ (v : Value). c.loop-index.values ++ v ∷ []) c.in_ok-value-in-Ok.ensures in
    subst (λ (vs : List Value). AreFirst vs (c.loop-index.index + 1) (outcome g.B.Body plan).objects) (sym pushed) more

pub returns : goal.returns
returns g c =
    let plan = c.args.plan.now.means in
    first-all c.loop-index.values (outcome g.B.Body plan).objects c.loop-index.index c.loop-index.invariant
    (omega (arith, c.loop-index-test.false, c.loop-index.auto.index-end, c.requires.count, length-outcome_objects g.B.Body plan))
