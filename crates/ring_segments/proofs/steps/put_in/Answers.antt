use Rattle.std.proofs.Common.{arith, sym, ap, ◌∙◌}
use Rattle.std.specs.Prelude.{Some}
use Rattle.atomic_table.specs.Table.{rest}
use Rattle.ring_segments.proofs.Keeps.{looks_head, puts_in, carried, carries, same_place}
use Rattle.ring_segments.proofs.steps.put_in.Goals as goal

pub load-head-requires : goal.load-head-requires
load-head-requires c = let w = c.requires.seat.0 in (w.sits.table, omega (arith, w.sits.made.words), looks_head _ _ _ _ _ _ _ _ _ w.pushes w.idle)

pub exchange-was-requires : goal.exchange-was-requires
exchange-was-requires c = let w = c.requires.seat.0 in let t = c.load-head.ensures.2.1 (omega (arith, c.if-pushed-head.false, w.count, w.sits.made.slots)) in
    (c.load-head.ensures.0 ∙ w.sits.table, (t.0, carried _ _ _ _ t.0 (ap (λ m. m.1) t.1) (same_place _ _ _ _ w.count w.sits.made.slots)))

pub store-requires : goal.store-requires
store-requires c = let w = c.requires.seat.0 in let t = c.load-head.ensures.2.1 (omega (arith, c.if-pushed-head.false, w.count, w.sits.made.slots)) in
    let v = c.load-head.new.seat.me.0 in let r = c.requires in let n = c.args.ring.now.table.shared.table_id.slots in let at = ap (λ m. m.0.pushed) t.1 ∙ w.count in (
      c.exchange-was.ensures.0 ∙ (c.load-head.ensures.0 ∙ w.sits.table),
      omega (arith, w.sits.made.words),
      puts_in _ _ _ _ _ n _ _ v c.args.entry (rest c.load-head.new.seat.me.1) _
          (carries _ v (rest c.load-head.new.seat.me.1) _ _ (Some c.args.entry) c.exchange-was.ensures.3 (same_place _ _ _ _ (sym at) (sym w.sits.made.slots)))
          (ap (λ m. m.0.pushes) t.1 ∙ w.pushes) (ap (λ m. m.0.putting) t.1) (ap (λ m. m.0.sealed) t.1 ∙ r.seat.1) (r.entry.0 ∙ sym at)
          (ap (λ m. m.0.owner) t.1 ∙ (w.sits.owner ∙ ap Some (sym r.entry.1))) r.entry.3 (omega (arith, at)),
    )
