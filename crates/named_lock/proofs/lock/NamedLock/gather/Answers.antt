use Rattle.std.proofs.Common.{rules, arith, false, ap, ◌∙◌, refl, inl, inr, ⊎_elim}
use Rattle.named_lock.specs.Seats.{IsSeatOf}
use Rattle.std.proofs.lemmas.Bool.{or_left, or_right}
use Rattle.named_lock.proofs.Keeps.{joins, saw_pop}
use Rattle.swan_model.proofs.Elements.{all_popped}
use Rattle.named_lock.proofs.lock.NamedLock.gather.Goals as goal

pub join_seat-requires : goal.join_seat-requires
join_seat-requires g c = let inv = c.loop-seat.invariant in let P = IsSeatOf c.args.self.now false in
    let other = (all_popped P _ _ _ c.in-Some.ensures.items inv.3).1 in (inv.0.0, other.0, other.4, search rules, joins _ _ _ _ _ _ _ _ inv.0.3 other.3 inv.1)

pub loop-seat-preserved : goal.loop-seat-preserved
loop-seat-preserved g c = let inv = c.loop-seat.invariant in let P = IsSeatOf c.args.self.now false in let j = c.join_seat.ensures in
    let popped = all_popped P _ _ _ c.in-Some.ensures.items inv.3 in let other = popped.1 in
    let parts = ap (λ m. m.0.parts) j.2 in (
      (j.0 ∙ inv.0.0, refl, ap (λ m. m.0.name) j.2 ∙ inv.0.2, ap (λ m. m.0.holding) j.2 ∙ inv.0.3, ap (λ m. m.1) j.2 ∙ inv.0.4),
      omega (arith, parts, inv.1),
      omega (arith, parts, inv.2, other.1, c.in-Some.ensures.len),
      popped.0,
      λ h. ⊎_elim (λ a. inl (ap (λ m. m.0.saw_done) j.2 ∙ or_left _ _ a)) (λ b. ⊎_elim inr (λ d. inl (ap (λ m. m.0.saw_done) j.2 ∙ or_right _ _ d)) (saw_pop _ _ _ c.in-Some.ensures.items b)) (inv.4 h),
    )
