-- A line's part is a part, and so is its join.
use Rattle.std.proofs.Common.{◌≡◌, true, sym, subst}
use Rattle.swan_reducers.proofs.reducer.Reducer.with_line.Goals as goal

pub join-requires-clause-right : goal.join-requires-clause-right
join-requires-clause-right g c = (g.Self.Reducer.laws c.args.self.now).lines_give_parts c.args.line.now c.in-Ok.part c.in-Ok.ensures.part

pub returns-in_ok-join-in-Ok-clause-is_part : goal.returns-in_ok-join-in-Ok-clause-is_part
returns-in_ok-join-in-Ok-clause-is_part g c =
    let reducer = c.args.self.now in
    let laws = g.Self.Reducer.laws reducer in
    let part : g.Self.Reducer.is_part reducer c.in-Ok.part ≡ true = laws.lines_give_parts c.args.line.now c.in-Ok.part c.in-Ok.ensures.part in
    subst (λ v. g.Self.Reducer.is_part reducer v ≡ true) (sym c.in_ok-join-in-Ok.ensures) (laws.joins_are_parts c.args.fold.part c.in-Ok.part c.requires part)
