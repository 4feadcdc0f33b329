use Rattle.std.proofs.Common.{◌≡◌, true, Decides, sym, subst, ◌∙◌, arith}
use Rattle.std.proofs.lemmas.Bool.{false≢true}
use Rattle.std.proofs.lemmas.Bool.Decides.{nat_tests}
use Rattle.std.proofs.lemmas.Slice.Eq.{slice_eq-Decides}
use Rattle.swan_model.specs.SerialState.{Holding}
use Rattle.task_frames.specs.contracts.holding.HoldingPartialEq.TheImpl.{eq-value}
use Rattle.task_frames.proofs.holding.hold_same.Goals as goal

itself : (a : Holding) → eq-value.it a a ≡ true
itself a = grind (arith, nat_tests)

holding-eq : (a b : Holding) → Decides (eq-value.it a b) (a ≡ b)
holding-eq a b = (
  λ is.
      let mode : a.mode ≡ b.mode = grind (arith, nat_tests, is) in
      let number : a.number ≡ b.number = grind (arith, nat_tests, is) in
      λ i. record { mode = mode i; number = number i },
  λ same. subst (λ x. eq-value.it a x ≡ true) same (itself a),
)

pub returns-clause-yes : goal.returns-clause-yes
returns-clause-yes c = λ is. (slice_eq-Decides holding-eq c.args.held.now c.args.other.now c.eq.result c.eq.ensures).0 is

pub returns-clause-no : goal.returns-clause-no
returns-clause-no c = λ is same. false≢true (sym is ∙ (slice_eq-Decides holding-eq c.args.held.now c.args.other.now c.eq.result c.eq.ensures).1 same)
