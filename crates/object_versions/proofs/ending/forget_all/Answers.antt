use Rattle.std.proofs.Common.{sym, arith}
use Rattle.object_versions.proofs.Releasing.{forgot_one, taken_out}
use Rattle.object_versions.proofs.ending.forget_all.Goals as goal

pub loop-at-smaller : goal.loop-at-smaller
loop-at-smaller c = omega (arith, c.in-Some-take_out.ensures.fewer)

pub loop-at-preserved : goal.loop-at-preserved
loop-at-preserved c = λ made began.
    let later = c.take_out.new.places.entries in
    forgot_one c.args.places.now.entries c.loop-at.places.entries later c.args.nodes.now c.loop-at.nodes c.release_all.new.nodes made c.args.frame c.in-Some.at
    c.in-Some-take_out.place (c.loop-at.invariant made began) (sym c.in-Some-take_out.ensures.was) c.take_out.ensures.without c.take_out.ensures.sorted
    (c.release_all.ensures later made)

pub release_all-requires : goal.release_all-requires
release_all-requires c =
    let made = c.requires.began.0 in
    let later = c.take_out.new.places.entries in
    let forgetting = c.loop-at.invariant made c.requires.began.1 in
    let stands = sym c.in-Some-take_out.ensures.was in
    record {
      whole = (
        later,
        made,
        taken_out c.args.places.now.entries c.loop-at.places.entries later c.args.nodes.now c.loop-at.nodes made c.args.frame c.in-Some.at c.in-Some-take_out.place forgetting stands
            c.take_out.ensures.without c.take_out.ensures.sorted,
      );
      paid = forgetting.paid c.in-Some.at c.in-Some-take_out.place stands;
    }
