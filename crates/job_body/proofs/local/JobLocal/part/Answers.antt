use Rattle.std.proofs.Common.{rules, ◌≡◌, IfOk, [], pos, ◌∙◌, ap, sym, subst, arith}
use Rattle.std.proofs.lemmas.Option.{slice_get_past, unwrap_or-slice_get}
use Rattle.std.specs.Option.{unwrap_or}
use Rattle.swan_model.specs.declared.value.Value.TheVariants.{Int}
use Rattle.job_body.specs.declared.instruction.Operand.TheVariants as operand
use Rattle.job_body.specs.Operations.{part}
use Rattle.swan_model.specs.Values.{bytes_of}
use Rattle.job_body.specs.Runs.{value_of}
use Rattle.job_body.proofs.local.JobLocal.part.Goals.{in-Some, in-None}
use Rattle.job_body.proofs.local.JobLocal.part.Goals as goal

pub returns-after-get_mut-clause-part : goal.returns-after-get_mut-clause-part
returns-after-get_mut-clause-part c =
    let there : value_of c.deref_mut.result.now.values.items (operand.Variable c.in-Variable.slot) ≡ value_of c.args.self.now.values c.args.operand.now =
    ap (λ kept. value_of kept.values.items (operand.Variable c.in-Variable.slot)) c.deref_mut.ensures.value
    ∙ ap (λ s. value_of s.values (operand.Variable c.in-Variable.slot)) c.self.view_is ∙ ap (value_of c.args.self.now.values) (sym c.in-Variable.is) in
    elim c.match-get_mut.branch [
      | in-Some w ↦
          let cut : IfOk w.part-in-Some.result (λ it. it ≡ part (bytes_of w.in-Some.slot.now) c.args.i c.args.j) = search rules in
          let here : w.in-Some.slot.now ≡ value_of c.args.self.now.values c.args.operand.now =
          w.in-Some.ensures.item.4 (omega arith) (Int (pos 0)) ∙ sym (unwrap_or-slice_get c.deref_mut.result.now.values.items c.in-Variable.slot (Int (pos 0))) ∙ there in
          subst (λ r. IfOk r (λ it. it ≡ part (bytes_of (value_of c.args.self.now.values c.args.operand.now)) c.args.i c.args.j)) (sym w.result-is)
          (subst (λ value. IfOk w.part-in-Some.result (λ it. it ≡ part (bytes_of value) c.args.i c.args.j)) here cut)
      | in-None w ↦
          let cut : IfOk w.part_of_none-in-None.result (λ it. it ≡ part [] c.args.i c.args.j) = search rules in
          let here : Int (pos 0) ≡ value_of c.args.self.now.values c.args.operand.now =
          ap (λ found. unwrap_or found (Int (pos 0))) (sym (slice_get_past c.deref_mut.result.now.values.items c.in-Variable.slot w.in-None.ensures.item.3)) ∙ there in
          subst (λ r. IfOk r (λ it. it ≡ part (bytes_of (value_of c.args.self.now.values c.args.operand.now)) c.args.i c.args.j)) (sym w.result-is)
          (subst (λ value. IfOk w.part_of_none-in-None.result (λ it. it ≡ part (bytes_of value) c.args.i c.args.j)) here cut)
    ]
