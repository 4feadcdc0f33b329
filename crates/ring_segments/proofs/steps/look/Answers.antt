use Rattle.std.proofs.Common.{◌<◌, arith, ap, sym, ◌∙◌}
use Rattle.ring_segments.specs.Words.{view_after_look}
use Rattle.ring_segments.proofs.Inside.{inside_of}
use Rattle.ring_segments.proofs.Keeps.{looks_tail}
use Rattle.ring_segments.proofs.steps.look.Goals as goal

pub load-tail-requires : goal.load-tail-requires
load-tail-requires c = let w = c.requires in (w.sits.table, omega (arith, w.sits.made.words), looks_tail _ _ _ _ _ _ _ _ _ w.pops)

pub returns-clause-yes : goal.returns-clause-yes
returns-clause-yes c is = let less : c.args.popped < c.load-tail.result = grind (arith, is) in let t = c.load-tail.ensures.2.1 (omega (arith, c.requires.count)) in let known = ap (λ m. m.0.known) t in
    (omega (arith, known), ap (λ m. m.0) t ∙ ap (view_after_look c.args.seat.now.me.0) (sym known), inside_of _ _ _ (c.load-tail.ensures.2.0.3 _ c.requires.sits.owner) less)
