-- What is left from an index on, and how many numbers a vector may have.
use Rattle.std.proofs.Common.{◌∙◌, ap, arith, length}
use Rattle.std.specs.Prelude.{slice_get}
use Rattle.index_pipeline.proofs.Dropping.{left_from}
use Rattle.index_pipeline.proofs.numbers.Numbers.get.Goals as goal

pub returns-clause-number : goal.returns-clause-number
returns-clause-number c =
    left_from c.args.self.now c.args.index c.number_at.result
    (c.number_at.ensures ∙ ap (λ xs. slice_get xs c.args.index) (c.as_slice.ensures.value ∙ c.self.view_is))

pub returns-clause-few : goal.returns-clause-few
returns-clause-few c =
    omega (arith, c.self.inside.rising.small, c.self.inside.rising.ok.0, c.self.inside.rising.ok.1, ap length c.self.view_is)
