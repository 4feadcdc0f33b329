use Rattle.std.proofs.Common.{◌≡◌, ℕ, true, take, List, ◌+◌, ◌⊎◌, inl, inr, sym, ap, subst, ◌∙◌, arith}
use Rattle.std.proofs.lemmas.Bool.{cases_eq}
use Rattle.std.proofs.lemmas.List.{take_all}
use Rattle.swan_model.specs.SerialState.{Holding}
use Rattle.pop_order.specs.Kept.{IsKeptFor}
use Rattle.pop_order.specs.Steps.{is_given}
use Rattle.pop_order.proofs.Returning.{given_before, settled_all}
use Rattle.pop_order.proofs.frames.take_out.Goals as goal

pub loop-holding-preserved : goal.loop-holding-preserved
loop-holding-preserved c = λ before after shrunk kept queue.
    let hs = c.args.holdings.now in
    let i = c.loop-holding.holding-index in
    let this = c.holding.inside.queue in
    let sets = c.take_out.new.self in
    let P : ℕ → Type 0 = λ q. (IsKeptFor before sets.poppers sets.pushers sets.givers q ⊎ IsKeptFor after sets.poppers sets.pushers sets.givers q)
    × (is_given (take (i + 1) hs) q ≡ true → IsKeptFor after sets.poppers sets.pushers sets.givers q) in
    elim (cases_eq queue this) [
      | inl same ↦
          let now = c.take_out.ensures.this before after shrunk (c.loop-holding.invariant before after shrunk kept this).0 in
          subst P (sym same) (inr now, λ _. now)
      | inr apart ↦
          let was = c.loop-holding.invariant before after shrunk kept queue in
          let number : this ≡ c.holding-item.result.number = ap (λ (h : Holding). h.number) c.holding.view_is in (
            elim was.0 [
              | inl old ↦ inl (c.take_out.ensures.others before queue apart old)
              | inr new ↦ inr (c.take_out.ensures.others after queue apart new)
            ],
            λ given. c.take_out.ensures.others after queue apart
                (was.1 (given_before hs i queue c.holding-item.result (omega arith) c.holding-item.is (λ e. apart (e ∙ sym number)) given)),
          )
    ]

pub returns : goal.returns
returns c = λ before after shrunk other kept queue.
    let sets = c.loop-holding.sets in
    let last = c.loop-holding.invariant before after shrunk kept queue in
    let P : List Holding → Type 0 = λ hs. is_given hs queue ≡ true → IsKeptFor after sets.poppers sets.pushers sets.givers queue in
    settled_all before after c.args.parent c.args.child shrunk sets.poppers sets.pushers sets.givers queue c.args.holdings.now other last.0
    (subst P (take_all c.loop-holding.holding-index c.args.holdings.now (omega arith)) last.1)
