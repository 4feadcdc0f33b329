use Rattle.std.proofs.Common.{rules, [], ap, ◌∙◌}
use Rattle.named_lock.specs.Rule.{seated, rest_of, one_of}
use Rattle.named_lock.specs.Seats.{IsNewSeatOf, lock_name}
use Rattle.named_lock.proofs.Keeps.{splits_seated, new_seat}
use Rattle.swan_model.proofs.Elements.{all_pushed}
use Rattle.named_lock.proofs.lock.NamedLock.deal.Goals as goal

pub split_seat-seat-requires : goal.split_seat-seat-requires
split_seat-seat-requires g c = let t = c.loop-made-test.true in (search rules, search rules, splits_seated _ _ _ _ _ _ _ c.loop-made.invariant.4 (search rules))

pub loop-made-preserved : goal.loop-made-preserved
loop-made-preserved g c = let inv = c.loop-made.invariant in let s = c.split_seat-seat.ensures in (
  search rules,
  search rules,
  all_pushed (IsNewSeatOf c.args.self.now) _ _ _ c.push_reserved.ensures.items inv.2 (new_seat c.args.self.now (record { seat = c.split_seat-seat.result }) (s.3 ∙ inv.3) (s.4 ∙ ap (λ m. (one_of m.0, [])) inv.4)),
  s.0 ∙ inv.3,
  s.2 ∙ ap (λ m. (rest_of m.0, m.1)) inv.4 ∙ ap (λ k. (seated k (lock_name c.args.self.now), [])) (search rules),
)

pub returns : goal.returns
returns g c = let inv = c.loop-made.invariant in (
  search rules,
  all_pushed (IsNewSeatOf c.args.self.now) _ _ _ c.push_reserved-2.ensures.items inv.2 (new_seat c.args.self.now (record { seat = c.loop-made.first }) inv.3 (inv.4 ∙ ap (λ k. (seated k (lock_name c.args.self.now), [])) (search rules))),
)
