use Rattle.std.proofs.Common.{◌≡◌, ℕ, Bool, true, false, Some, None, [], drop, refl, sym, ap, subst, ◌∙◌}
use Rattle.std.proofs.lemmas.Bool.{eqb-true}
use Rattle.std.proofs.lemmas.Option.{slice_get_read}
use Rattle.std.specs.Prelude.{slice_get, if◌then◌else◌, ◌==◌}
use Rattle.slab.specs.Slab.{get, with_value}
use Rattle.queues.specs.Chunks.{Chunks, without_first}
use Rattle.queue_book.specs.Chains.{Link, first_item, AreChained, in_line}
use Rattle.queue_book.proofs.ChainKept.{updates_with}
use Rattle.queue_book.proofs.ChainChanges.{chained_same}
use Rattle.queue_book.proofs.ChainFronts.{empty_line, first_stands, first_chunk, chained_take_first}
use Rattle.queue_book.proofs.chains.Chains.take_first.Goals as goal

unchanged_line : (lines : ℕ → Chunks) (queue q : ℕ) → lines queue ≡ [] → in_line queue without_first lines q ≡ lines q
unchanged_line lines queue q empty = at_line (q == queue) refl where
  at_line : (b : Bool) → (q == queue) ≡ b → (if b then without_first (lines q) else lines q) ≡ lines q
  at_line true same = let e : lines q ≡ [] = ap lines (eqb-true q queue same) ∙ empty in ap without_first e ∙ sym e
  at_line false other = refl

pub returns-in_default-clause-item : goal.returns-in_default-clause-item
returns-in_default-clause-item c at lines is =
    let heads = c.args.self.now.heads.items in
    let has : slice_get heads c.args.queue ≡ Some c.index.result.now = slice_get_read heads _ c.args.queue c.index.result.now refl c.requires.known c.index.ensures in
    sym (ap first_item (empty_line at heads c.args.self.now.nodes lines is c.args.queue (has ∙ ap Some c.in_default.is)))

pub returns-in_default-clause-taken : goal.returns-in_default-clause-taken
returns-in_default-clause-taken c at lines is =
    let heads = c.args.self.now.heads.items in
    let has : slice_get heads c.args.queue ≡ Some c.index.result.now = slice_get_read heads _ c.args.queue c.index.result.now refl c.requires.known c.index.ensures in
    let empty = empty_line at heads c.args.self.now.nodes lines is c.args.queue (has ∙ ap Some c.in_default.is) in
    chained_same at at heads c.args.self.now.nodes lines (in_line c.args.queue without_first lines) (λ n q. refl)
    (λ q. unchanged_line lines c.args.queue q empty) is

pub returns-clause-item : goal.returns-clause-item
returns-clause-item c at lines is =
    let heads = c.args.self.now.heads.items in
    let link : Link = c.in-Some-get_mut.node.now in
    let has : slice_get heads c.args.queue ≡ Some c.index.result.now = slice_get_read heads _ c.args.queue c.index.result.now refl c.requires.known c.index.ensures in
    let first = first_chunk at heads c.args.self.now.nodes lines is c.args.queue c.in-Some.key link (has ∙ ap Some c.in-Some.is) (sym c.in-Some-get_mut.ensures.value) in
    c.pop.ensures.item ∙ sym (ap first_item first.are)

pub returns-clause-taken : goal.returns-clause-taken
returns-clause-taken c at lines is =
    let heads = c.args.self.now.heads.items in
    let nodes = c.args.self.now.nodes in
    let key = c.in-Some.key in
    let link : Link = c.in-Some-get_mut.node.now in
    let new : Link = record link { items = drop 1 link.items } in
    let stands : get nodes key ≡ Some link = sym c.in-Some-get_mut.ensures.value in
    let has : slice_get heads c.args.queue ≡ Some c.index.result.now = slice_get_read heads _ c.args.queue c.index.result.now refl c.requires.known c.index.ensures in
    let P : Link → Type 0 = λ l. AreChained at heads (with_value nodes key l) (in_line c.args.queue without_first lines) in
    subst P (sym c.pop.ensures.rest) (chained_take_first at heads nodes lines is c.args.queue (with_value nodes key new) key link (has ∙ ap Some c.in-Some.is) stands
    (updates_with nodes key link new stands))

pub unreachable-requires : goal.unreachable-requires
unreachable-requires c =
    let kept = c.requires.kept in
    let heads = c.args.self.now.heads.items in
    let has : slice_get heads c.args.queue ≡ Some c.index.result.now = slice_get_read heads _ c.args.queue c.index.result.now refl c.requires.known c.index.ensures in
    let first = first_stands kept.0 heads c.args.self.now.nodes kept.1 kept.2 c.args.queue c.in-Some.key (has ∙ ap Some c.in-Some.is) in
    let never : None ≡ Some first.0 = c.in_default-get_mut.ensures.value ∙ first.1 in
    cc
