-- The next record stands in the buffer, in front of the others.
use Rattle.std.proofs.Common.{◌≡◌, ◌∙◌, ◌+◌, ◌∷◌, Some, None, ap, arith, drop, rules, sym}
use Rattle.std.proofs.lemmas.Option.{slice_get_within}
use Rattle.std.specs.Prelude.{slice_get}
use Rattle.swan_model.specs.declared.value.Value.TheVariants.{Bytes}
use Rattle.index_pipeline.specs.Batches.{cuts}
use Rattle.index_pipeline.proofs.Batching.{taken_all, taken_next, taken_within}
use Rattle.index_pipeline.proofs.batch.Batch.take.Goals as goal

pub returns-in_default : goal.returns-in_default
returns-in_default c =
    let none : slice_get c.self.inside.lens.items c.self.inside.next ≡ None = search rules in
    sym c.self.view_is ∙ taken_all c.self.inside.lens.items (drop c.self.inside.taken c.self.inside.bytes) c.self.inside.next none

pub overflow_add-to : goal.overflow_add-to
overflow_add-to c =
    let is : slice_get c.self.inside.lens.items c.self.inside.next ≡ Some c.in-Some.len = search rules in
    omega (arith, c.self.invariant.0, c.self.invariant.2, taken_within c.self.inside.lens.items c.self.inside.next c.in-Some.len is)

pub part-requires-clause-within : goal.part-requires-clause-within
part-requires-clause-within c =
    let is : slice_get c.self.inside.lens.items c.self.inside.next ≡ Some c.in-Some.len = search rules in
    omega (arith, c.self.invariant.0, taken_within c.self.inside.lens.items c.self.inside.next c.in-Some.len is)

pub invariant_of-self : goal.invariant_of-self
invariant_of-self c =
    let lens = c.self.inside.lens.items in
    let next = c.self.inside.next in
    let is : slice_get lens next ≡ Some c.in-Some.len = search rules in (
      omega (arith, c.self.invariant.0, taken_within lens next c.in-Some.len is),
      omega (arith, slice_get_within lens next c.in-Some.len is),
      c.self.invariant.2,
    )

pub returns : goal.returns
returns c =
    let lens = c.self.inside.lens.items in
    let bytes = c.self.inside.bytes in
    let next = c.self.inside.next in
    let taken = c.self.inside.taken in
    let len = c.in-Some.len in
    let is : slice_get lens next ≡ Some len = search rules in
    sym c.self.view_is
    ∙ taken_next lens bytes next len taken is
    ∙ ap (λ r. Bytes r ∷ cuts (drop (next + 1) lens) (drop (taken + len) bytes)) (sym c.in_ok-record.ensures)
