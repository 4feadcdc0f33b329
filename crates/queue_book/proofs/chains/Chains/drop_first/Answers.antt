use Rattle.std.proofs.Common.{◌≡◌, ℕ, Option, Some, None, ◌∷◌, drop, refl, sym, ap, subst, ◌∙◌}
use Rattle.std.proofs.lemmas.Option.{slice_get_read}
use Rattle.std.specs.Prelude.{slice_get, slice_set}
use Rattle.queues.specs.Chunks.{Chunks}
use Rattle.queue_book.specs.Chains.{chunk_of, AreChained, in_line}
use Rattle.queue_book.proofs.ChainFronts.{empty_line, first_stands, first_chunk, unowned, chained_drop_first}
use Rattle.queue_book.proofs.chains.Chains.drop_first.Goals as goal

pub returns-in_default-clause-none : goal.returns-in_default-clause-none
returns-in_default-clause-none c at lines is =
    let heads = c.args.self.now.heads.items in
    let has : slice_get heads c.args.queue ≡ Some c.index.result.now = slice_get_read heads _ c.args.queue c.index.result.now refl c.requires.known c.index.ensures in
    (empty_line at heads c.args.self.now.nodes lines is c.args.queue (has ∙ ap Some c.in_default.is), is)

pub unreachable-requires : goal.unreachable-requires
unreachable-requires c =
    let kept = c.requires.kept in
    let heads = c.args.self.now.heads.items in
    let has : slice_get heads c.args.queue ≡ Some c.index.result.now = slice_get_read heads _ c.args.queue c.index.result.now refl c.requires.known c.index.ensures in
    let first = first_stands kept.0 heads c.args.self.now.nodes kept.1 kept.2 c.args.queue c.in-Some.key (has ∙ ap Some c.in-Some.is) in
    let never : None ≡ Some first.0 = c.in_default-try_remove.ensures.value ∙ first.1 in
    cc

pub returns-clause-first : goal.returns-clause-first
returns-clause-first c at lines is =
    let heads = c.args.self.now.heads.items in
    let has : slice_get heads c.args.queue ≡ Some c.index.result.now = slice_get_read heads _ c.args.queue c.index.result.now refl c.requires.known c.index.ensures in
    let first = first_chunk at heads c.args.self.now.nodes lines is c.args.queue c.in-Some.key c.in-Some-try_remove.node (has ∙ ap Some c.in-Some.is) (sym c.in-Some-try_remove.ensures.value) in
    first.are ∙ ap (λ (r : Chunks). chunk_of c.in-Some-try_remove.node ∷ r) (sym (ap (λ (cs : Chunks). drop 1 cs) first.are))

pub returns-clause-dropped : goal.returns-clause-dropped
returns-clause-dropped c at lines is closed_already =
    let heads = c.args.self.now.heads.items in
    let has : slice_get heads c.args.queue ≡ Some c.index.result.now = slice_get_read heads _ c.args.queue c.index.result.now refl c.requires.known c.index.ensures in
    let P : Option ℕ → Type 0 = λ h. AreChained at (slice_set heads c.args.queue h) c.try_remove.new.self (in_line c.args.queue (λ chunks. drop 1 chunks) lines) in
    subst P (sym c.next.ensures) (chained_drop_first at heads c.args.self.now.nodes lines is c.args.queue c.try_remove.new.self c.in-Some.key c.in-Some-try_remove.node
    (has ∙ ap Some c.in-Some.is) (sym c.in-Some-try_remove.ensures.value) c.in-Some-try_remove.ensures.updates closed_already)

pub returns-clause-unowned : goal.returns-clause-unowned
returns-clause-unowned c at lines is none =
    let heads = c.args.self.now.heads.items in
    let has : slice_get heads c.args.queue ≡ Some c.index.result.now = slice_get_read heads _ c.args.queue c.index.result.now refl c.requires.known c.index.ensures in
    unowned at heads c.args.self.now.nodes lines is c.args.queue none c.in-Some.key c.in-Some-try_remove.node (has ∙ ap Some c.in-Some.is) (sym c.in-Some-try_remove.ensures.value)
