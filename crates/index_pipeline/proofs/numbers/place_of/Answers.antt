-- What the search says, or the place at the end.
use Rattle.std.proofs.Common.{◌≡◌, rules, subst, sym}
use Rattle.std.specs.BTreeSet.{insert_key}
use Rattle.std.specs.List.{insert}
use Rattle.std.specs.Ordering.{nat_cmp}
use Rattle.std.specs.Prelude.{IfNone, IfSome}
use Rattle.index_pipeline.proofs.SortedLists.{at_end, search_finds, search_places}
use Rattle.index_pipeline.proofs.numbers.place_of.Goals as goal

pub returns-then-is_past_last-clause-goes : goal.returns-then-is_past_last-clause-goes
returns-then-is_past_last-clause-goes c = at_end c.args.rising.now c.args.number c.requires (search rules)

pub returns-clause-there : goal.returns-clause-there
returns-clause-there c =
    let xs = c.args.rising.now in
    let x = c.args.number in
    subst (λ r. IfNone r (insert_key nat_cmp xs x ≡ xs)) (sym c.err.ensures.value) (search_finds xs x c.requires c.binary_search.result c.binary_search.ensures.position)

pub returns-clause-goes : goal.returns-clause-goes
returns-clause-goes c =
    let xs = c.args.rising.now in
    let x = c.args.number in
    subst (λ r. IfSome r (λ place. insert_key nat_cmp xs x ≡ insert xs place x)) (sym c.err.ensures.value) (search_places xs x c.requires c.binary_search.result c.binary_search.ensures.position)
