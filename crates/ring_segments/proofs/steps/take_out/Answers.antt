use Rattle.std.proofs.Common.{rules, arith, sym, ap, ◌∙◌}
use Rattle.std.specs.Prelude.{Some, None}
use Rattle.atomic_table.specs.Table.{rest}
use Rattle.ring_segments.proofs.Inside.{item_at}
use Rattle.ring_segments.proofs.Keeps.{reaches, takes_out, carried, carries, same_place}
use Rattle.ring_segments.proofs.steps.take_out.Goals as goal

pub load-tail-requires : goal.load-tail-requires
load-tail-requires c = let w = c.requires in (w.sits.table, omega (arith, w.sits.made.words), reaches _ _ _ _ _ _ _ _ _ w.pops w.idle)

pub exchange-requires : goal.exchange-requires
exchange-requires c = let w = c.requires in let t = c.load-tail.ensures.2.1 (omega (arith, c.if-tail-popped.false, w.count)) in
    (c.load-tail.ensures.0 ∙ w.sits.table, (Some t.0, carried _ _ _ _ (Some t.0) (ap (λ m. m.1) t.1) (same_place _ _ _ _ w.count w.sits.made.slots)))

pub store-requires : goal.store-requires
store-requires c = let w = c.requires in let t = c.load-tail.ensures.2.1 (omega (arith, c.if-tail-popped.false, w.count)) in
    let v = c.load-tail.new.seat.me.0 in let n = c.args.ring.now.table.shared.table_id.slots in let at = ap (λ m. m.0.popped) t.1 ∙ w.count in (
      c.exchange.ensures.0 ∙ (c.load-tail.ensures.0 ∙ w.sits.table),
      omega (arith, w.sits.made.words),
      takes_out _ _ _ _ _ n _ _ v (rest c.load-tail.new.seat.me.1) _
          (carries _ v (rest c.load-tail.new.seat.me.1) _ _ None c.exchange.ensures.3 (same_place _ _ _ _ (sym at) (sym w.sits.made.slots)))
          (ap (λ m. m.0.pops) t.1 ∙ w.pops) (ap (λ m. m.0.taking) t.1) (omega (arith, at)),
    )

pub returns-clause-item : goal.returns-clause-item
returns-clause-item c = item_at _ _ _ _ _ c.into_item.ensures.stands (search rules) (search rules)
