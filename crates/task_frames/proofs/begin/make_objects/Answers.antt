use Rattle.std.proofs.Common.{◌≡◌, length, drop, sym, ap, ◌∙◌, subst, arith}
use Rattle.std.specs.Prelude.{slice_get}
use Rattle.swan_model.specs.declared.origin.Origin.TheVariants.{Root}
use Rattle.swan_model.specs.Readings.{at_start, with_object}
use Rattle.swan_model.specs.Script.{script}
use Rattle.swan_model.specs.SerialTime.{Reading}
use Rattle.swan_model.specs.Versions.{VersionState}
use Rattle.serial_elision.proofs.Lawful.{lawful}
use Rattle.task_frames.specs.Opened.{AreFirstObjects, roots_to}
use Rattle.task_frames.proofs.Beginning.{all-of, next-of, roots-more}
use Rattle.task_frames.proofs.Opening.{free-next, objects-next, objects-start}
use Rattle.task_frames.proofs.begin.make_objects.Goals as goal

pub loop-value-init : goal.loop-value-init
loop-value-init g c =
    let s = script g.B.Body c.args.plan.now.means in
    let first = objects-start s (lawful g.B.Body c.args.plan.now.means c.requires.plan.lists) c.args.first in
    let gives : c.into_iter-value-iterator.result.rest.items ≡ c.into_vec-value-items.result.items = c.into_iter-value-iterator.ensures.into_iter_gives.0 in
    record {
      next = tt;
      finite = tt;
      left = gives ∙ c.into_vec-value-items.ensures;
      few = omega arith;
      objects = subst (λ (v : VersionState). AreFirstObjects s v c.args.first 0) (sym c.new-versions.ensures.new) first;
      reading = c.requires.reading;
    }

pub overflow_add-first : goal.overflow_add-first
overflow_add-first g c =
    let next = next-of c.args.roots c.loop-value.made c.in-Some.value _ (sym c.loop-value.invariant.left ∙ c.in-Some.ensures.steps.0) in
    omega (arith, next.more, ap length c.requires.roots, c.requires.first, c.requires.plan.lists.roots)

pub create-requires : goal.create-requires
create-requires g c = record { free = free-next (script g.B.Body c.args.plan.now.means) c.loop-value.versions c.args.first c.loop-value.made c.loop-value.invariant.objects }

pub loop-value-preserved : goal.loop-value-preserved
loop-value-preserved g c =
    let plan = c.args.plan.now.means in
    let s = script g.B.Body plan in
    let inv = c.loop-value.invariant in
    let next = next-of c.args.roots c.loop-value.made c.in-Some.value _ (sym inv.left ∙ c.in-Some.ensures.steps.0) in
    let stands = ap (λ rs. slice_get rs c.loop-value.made) (sym c.requires.roots) ∙ next.stands in
    record {
      next = tt;
      finite = tt;
      left = next.rest;
      few = next.more;
      objects = objects-next s (lawful g.B.Body plan c.requires.plan.lists) c.loop-value.versions c.create.new.self c.args.first c.loop-value.made c.in-Some.value inv.objects stands c.in_ok-create.ensures.ok;
      reading = c.with_root_object-reading.ensures
          ∙ ap (λ (r : Reading). with_object r (Root c.loop-value.made)) inv.reading
          ∙ ap (at_start (roots_to c.args.first)) (roots-more c.loop-value.made);
    }

pub returns-clause-objects : goal.returns-clause-objects
returns-clause-objects g c =
    let inv = c.loop-value.invariant in
    let none : length (drop c.loop-value.made c.args.roots) ≡ 0 = omega (arith, ap length inv.left, c.in-None.ensures.steps.0, c.loop-value.value-iterator.rest.ok) in
    let all = all-of c.args.roots c.loop-value.made inv.few none in
    subst (AreFirstObjects (script g.B.Body c.args.plan.now.means) c.loop-value.versions c.args.first) all inv.objects
