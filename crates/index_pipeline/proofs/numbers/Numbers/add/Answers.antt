-- One more number at its place.
use Rattle.std.proofs.Common.{◌≡◌, ◌∙◌, ap, subst, sym}
use Rattle.std.proofs.lemmas.Cmp.{nat_cmp_total}
use Rattle.std.specs.BTreeSet.{insert_key}
use Rattle.std.specs.List.{insert}
use Rattle.std.specs.List.Sorted.{IsStrictlySortedBy}
use Rattle.std.specs.Ordering.{nat_cmp}
use Rattle.index_pipeline.proofs.SortedLists.{insert_rises}
use Rattle.index_pipeline.proofs.numbers.Numbers.add.Goals as goal

pub invariant_of-self : goal.invariant_of-self
invariant_of-self c =
    let rising = c.self.inside.rising.items in
    let number = c.args.number in
    let same : c.insert.new.self.items ≡ insert_key nat_cmp rising number =
    c.in_ok-insert-in-Some.ensures.items
    ∙ ap (λ xs. insert xs c.in-Some.place number) (sym c.as_slice.ensures.value)
    ∙ sym c.in-Some.ensures.goes
    ∙ ap (λ xs. insert_key nat_cmp xs number) c.as_slice.ensures.value in
    subst (IsStrictlySortedBy nat_cmp) (sym same) (insert_rises nat_cmp_total rising number c.self.invariant)
