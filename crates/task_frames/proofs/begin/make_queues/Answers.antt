use Rattle.std.proofs.Common.{◌≡◌, [], length, drop, refl, sym, ap, ◌∙◌, subst, arith}
use Rattle.std.proofs.lemmas.Option.{same_Some}
use Rattle.std.specs.Prelude.{slice_get}
use Rattle.swan_model.specs.declared.script.Script.{Script}
use Rattle.swan_model.specs.QueueState.{QueueState}
use Rattle.swan_model.specs.declared.origin.Origin.TheVariants.{Root}
use Rattle.swan_model.specs.Readings.{at_start, with_queue}
use Rattle.swan_model.specs.Script.{script}
use Rattle.swan_model.specs.SerialTime.{Reading}
use Rattle.serial_elision.proofs.Lawful.{lawful}
use Rattle.task_frames.specs.Opened.{AreFirstQueues}
use Rattle.task_frames.proofs.Beginning.{all-of, items-at, next-of, roots-more}
use Rattle.task_frames.proofs.Opening.{queues-next, queues-start}
use Rattle.task_frames.proofs.begin.make_queues.Goals as goal

pub loop-root-init : goal.loop-root-init
loop-root-init g c =
    let s = script g.B.Body c.args.plan.now.means in
    let first = queues-start s (lawful g.B.Body c.args.plan.now.means c.requires.plan.lists) in
    let gives : c.into_iter-root-iterator.result.rest.items ≡ c.into_vec-root-items.result.items = c.into_iter-root-iterator.ensures.into_iter_gives.0 in
    record {
      next = tt;
      finite = tt;
      left = gives ∙ c.into_vec-root-items.ensures;
      few = omega arith;
      queues = subst (λ (q : QueueState). AreFirstQueues s q 0) (sym c.requires.new) first;
      reading = c.new-reading.ensures;
      same = (refl, refl);
      plan = refl;
    }

pub create_root-requires-clause-next : goal.create_root-requires-clause-next
create_root-requires-clause-next g c = λ s is.
    let plan = c.args.plan.now.means in
    let inv = c.loop-root.invariant in
    let next = next-of c.args.roots c.loop-root.made c.in-Some.root _ (sym inv.left ∙ c.in-Some.ensures.steps.0) in
    let roots = ap (λ rs. slice_get rs c.loop-root.made) (sym c.requires.roots) ∙ next.stands in
    let named : script g.B.Body plan ≡ s = same_Some _ s (sym c.requires.name ∙ sym inv.same.0 ∙ is) in
    ap (λ (x : Script). slice_get x.queues (length (g.Q.Queues.state c.loop-root.queues).makers)) (sym named)
    ∙ ap (slice_get (script g.B.Body plan).queues) inv.queues.many
    ∙ items-at plan.roots.queues c.loop-root.made c.in-Some.root roots

pub loop-root-preserved : goal.loop-root-preserved
loop-root-preserved g c =
    let plan = c.args.plan.now.means in
    let s = script g.B.Body plan in
    let inv = c.loop-root.invariant in
    let next = next-of c.args.roots c.loop-root.made c.in-Some.root _ (sym inv.left ∙ c.in-Some.ensures.steps.0) in
    let roots = ap (λ rs. slice_get rs c.loop-root.made) (sym c.requires.roots) ∙ next.stands in
    record {
      next = tt;
      finite = tt;
      left = next.rest;
      few = next.more;
      queues = queues-next s (lawful g.B.Body plan c.requires.plan.lists) (g.Q.Queues.state c.loop-root.queues) (g.Q.Queues.state c.create_root.new.self) c.loop-root.made c.in-Some.root.items inv.queues
          (items-at plan.roots.queues c.loop-root.made c.in-Some.root roots) c.in_ok-create_root.ensures.ok;
      reading = c.with_root_queue-reading.ensures
          ∙ ap (λ (r : Reading). with_queue r (Root c.loop-root.made)) inv.reading
          ∙ ap (λ origins. at_start origins []) (roots-more c.loop-root.made);
      same = (c.create_root.ensures.same.0 ∙ inv.same.0, c.create_root.ensures.same.1 ∙ inv.same.1);
      plan = inv.plan;
    }

pub returns-clause-queues : goal.returns-clause-queues
returns-clause-queues g c =
    let inv = c.loop-root.invariant in
    let none : length (drop c.loop-root.made c.args.roots) ≡ 0 = omega (arith, ap length inv.left, c.in-None.ensures.steps.0, c.loop-root.root-iterator.rest.ok) in
    let all = all-of c.args.roots c.loop-root.made inv.few none in
    subst (AreFirstQueues (script g.B.Body c.args.plan.now.means) (g.Q.Queues.state c.loop-root.queues)) all inv.queues
