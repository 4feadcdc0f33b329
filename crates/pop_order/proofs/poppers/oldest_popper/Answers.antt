use Rattle.std.proofs.Common.{ℕ, ◌+◌, take, List, inl, inr, sym, subst, ◌∙◌, arith}
use Rattle.std.proofs.lemmas.List.{take_all}
use Rattle.swan_model.specs.SerialState.{Holding}
use Rattle.pop_order.specs.Poppers.{IsAmong}
use Rattle.pop_order.proofs.Holders.{among_more, among_kept, among_last}
use Rattle.pop_order.proofs.poppers.oldest_popper.Goals as goal

pub loop-holding-preserved : goal.loop-holding-preserved
loop-holding-preserved c =
    let set = c.args.poppers.now in
    let hs = c.args.holdings.now in
    let i = c.loop-holding.holding-index in
    let h = c.holding-item.result in
    let new = c.older_popper-oldest.result in
    record {
      at_most = omega arith;
      found = elim c.older_popper-oldest.ensures.found [
        | inl same ↦ elim c.loop-holding.invariant.found [
          | inl child ↦ inl (same ∙ child)
          | inr among ↦
              let P : ℕ → Type 0 = λ n. IsAmong set c.args.parent (take (i + 1) hs) n in
              inr (subst P (sym same) (among_kept set c.args.parent hs i c.loop-holding.oldest among))
        ]
        | inr last ↦ inr (among_last set c.args.parent hs i new h (omega arith) c.holding-item.is last.0 last.1)
      ];
      least = λ number among. elim (among_more set c.args.parent hs i number h (omega arith) c.holding-item.is among) [
        | inl before ↦ omega (arith, c.loop-holding.invariant.least number before)
        | inr last ↦ c.older_popper-oldest.ensures.least number last.0 last.1
      ];
    }

pub returns-clause-least : goal.returns-clause-least
returns-clause-least c = λ number among.
    let P : List Holding → Type 0 = λ hs. IsAmong c.args.poppers.now c.args.parent hs number in
    c.loop-holding.invariant.least number (subst P (sym (take_all c.loop-holding.holding-index c.args.holdings.now (omega arith))) among)
