-- The zero is a part.
use Rattle.std.proofs.Common.{◌≡◌, true, sym, subst}
use Rattle.std.proofs.lemmas.Result.{IfOk-weaker}
use Rattle.swan_reducers.proofs.body.FoldBody.as_part.Goals as goal

pub returns-else-is_part-clause-part : goal.returns-else-is_part-clause-part
returns-else-is_part-clause-part g c =
    let reducer = c.args.self.now.reducer in
    IfOk-weaker c.zero.result (λ part. part ≡ g.R.Reducer.zero_part reducer) (λ part. g.R.Reducer.is_part reducer part ≡ true)
    (λ part is. subst (λ v. g.R.Reducer.is_part reducer v ≡ true) (sym is) (g.R.Reducer.laws reducer).zero_is_part) c.zero.ensures
