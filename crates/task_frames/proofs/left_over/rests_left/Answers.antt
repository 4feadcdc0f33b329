use Rattle.std.proofs.Common.{◌≡◌, ◌≢◌, ◌+◌, ◌<◌, false, List, Option, length, refl, sym, ap, ◌∙◌, subst, arith}
use Rattle.swan_model.specs.declared.script.Script.{Script}
use Rattle.swan_model.specs.declared.value.Value.{Value}
use Rattle.swan_model.specs.Elision.{outcome}
use Rattle.swan_model.specs.QueueState.{QueueState}
use Rattle.serial_elision.proofs.Counts.{length-outcome_queues}
use Rattle.queues.specs.Asks.{is_emptied}
use Rattle.queues.specs.Tells.{OnQueue, rest_of}
use Rattle.task_frames.proofs.Leaving.{AreFirst, first-all, first-more, first-none, fresh-more, rest-free, rest-is}
use Rattle.task_frames.proofs.left_over.rests_left.Goals as goal

pub loop-index-init : goal.loop-index-init
loop-index-init g c =
    let kept = c.requires.kept in
    record {
      first = subst (λ ls. AreFirst ls 0 (outcome g.B.Body c.args.plan.now.means).queues) (sym c.new-lists.ensures) (first-none (outcome g.B.Body c.args.plan.now.means).queues);
      name = refl;
      frames = refl;
      makers = refl;
      fresh = λ queue late. ap (λ (s : QueueState). is_emptied s queue) kept.4 ∙ ap (λ taken. is_emptied (record kept.0.state { emptied = taken }) queue) kept.1.queues.whole;
    }

pub take_rest-requires : goal.take_rest-requires
take_rest-requires g c =
    let kept = c.requires.kept in
    let inv = c.loop-index.invariant in
    let less : c.loop-index.index < length c.args.plan.now.means.roots.queues = omega (arith, c.loop-index-test.true, c.requires.count) in
    record {
      left = rest-free g.B.Body c.args.plan.now.means kept.0 kept.1 kept.2 (g.Q.Queues.state c.loop-index.queues)
          (inv.frames ∙ ap (λ (s : QueueState). s.frames) kept.4) (inv.makers ∙ ap (λ (s : QueueState). s.makers) kept.4) c.loop-index.index less;
    }

pub loop-index-preserved : goal.loop-index-preserved
loop-index-preserved g c =
    let plan = c.args.plan.now.means in
    let kept = c.requires.kept in
    let inv = c.loop-index.invariant in
    let less : c.loop-index.index < length plan.roots.queues = omega (arith, c.loop-index-test.true, c.requires.count) in
    let makers = inv.makers ∙ ap (λ (s : QueueState). s.makers) kept.4 in
    let name = inv.name ∙ kept.3 in
    let state = g.Q.Queues.state c.loop-index.queues in
    let tells = subst (λ (o : Option Script). is_emptied state c.loop-index.index ≡ false → OnQueue o state c.loop-index.index (λ s origin. c.in_ok-rest.rest ≡ rest_of s origin)) name c.in_ok-rest.ensures.first in
    let left = rest-is g.B.Body plan kept.0 kept.1 kept.2 state makers c.loop-index.index less (inv.fresh c.loop-index.index (omega arith)) c.in_ok-rest.rest tells in
    let more = first-more c.loop-index.lists (outcome g.B.Body plan).queues c.loop-index.index c.in_ok-rest.rest inv.first left in
    record {
      first = subst (λ (ls : List (List Value)). AreFirst ls (c.loop-index.index + 1) (outcome g.B.Body plan).queues) (sym c.in-Ok.ensures.ok) more;
      name = c.take_rest.ensures.same.0 ∙ inv.name;
      frames = ap (λ (s : QueueState). s.frames) c.in_ok-rest.ensures.ok ∙ inv.frames;
      makers = ap (λ (s : QueueState). s.makers) c.in_ok-rest.ensures.ok ∙ inv.makers;
      fresh = λ queue late.
          let other : c.loop-index.index ≢ queue = λ same. omega (arith, same, late) in
          let before = inv.fresh queue (omega (arith, late)) in
          ap (λ (s : QueueState). is_emptied s queue) c.in_ok-rest.ensures.ok ∙ fresh-more state.emptied c.loop-index.index queue before other;
    }

pub returns : goal.returns
returns g c =
    let plan = c.args.plan.now.means in
    first-all c.loop-index.lists (outcome g.B.Body plan).queues c.loop-index.index c.loop-index.invariant.first
    (omega (arith, c.loop-index-test.false, c.loop-index.auto.index-end, c.requires.count, length-outcome_queues g.B.Body plan))
