use Rattle.std.proofs.Common.{◌≡◌, ◌≢◌, Some, None, [], refl, sym, ap, subst, ◌∙◌}
use Rattle.std.proofs.lemmas.Bool.{false≢true}
use Rattle.std.proofs.lemmas.Option.{slice_get_read}
use Rattle.std.specs.Prelude.{slice_get}
use Rattle.queues.specs.Chunks.{Chunks, without_spent}
use Rattle.queue_book.specs.Chains.{Link, chunk_of, IsFront}
use Rattle.queue_book.specs.declared.chains.Front.TheVariants as front
use Rattle.queue_book.proofs.ChainFronts.{empty_line, first_stands, first_chunk, front_item, front_open, front_spent}
use Rattle.queue_book.proofs.chains.Chains.front.Goals as goal

pub returns-in_default-clause-stands : goal.returns-in_default-clause-stands
returns-in_default-clause-stands c at lines is =
    let heads = c.args.self.now.heads.items in
    let has : slice_get heads c.args.queue ≡ Some c.index.result.now = slice_get_read heads _ c.args.queue c.index.result.now refl c.requires.known c.index.ensures in
    let empty = empty_line at heads c.args.self.now.nodes lines is c.args.queue (has ∙ ap Some c.in_default.is) in
    let P : Chunks → Type 0 = λ chunks. IsFront chunks front.Over × (without_spent chunks ≡ chunks) in
    subst P (sym empty) (tt, refl)

pub unreachable-requires : goal.unreachable-requires
unreachable-requires c =
    let kept = c.requires.kept in
    let heads = c.args.self.now.heads.items in
    let has : slice_get heads c.args.queue ≡ Some c.index.result.now = slice_get_read heads _ c.args.queue c.index.result.now refl c.requires.known c.index.ensures in
    let first = first_stands kept.0 heads c.args.self.now.nodes kept.1 kept.2 c.args.queue c.in-Some.key (has ∙ ap Some c.in-Some.is) in
    let never : None ≡ Some first.0 = c.in_default-get.ensures ∙ first.1 in
    cc

pub returns-then-not-is_empty-clause-stands : goal.returns-then-not-is_empty-clause-stands
returns-then-not-is_empty-clause-stands c at lines is =
    let heads = c.args.self.now.heads.items in
    let link : Link = c.in-Some-get.node.now in
    let has : slice_get heads c.args.queue ≡ Some c.index.result.now = slice_get_read heads _ c.args.queue c.index.result.now refl c.requires.known c.index.ensures in
    let first = first_chunk at heads c.args.self.now.nodes lines is c.args.queue c.in-Some.key link (has ∙ ap Some c.in-Some.is) (sym c.in-Some-get.ensures) in
    let P : Chunks → Type 0 = λ chunks. IsFront chunks front.Item × (without_spent chunks ≡ chunks) in
    let some : link.items ≢ [] = λ none. false≢true (sym c.if-not-is_empty.true ∙ c.is_empty.ensures.1 none) in
    subst P (sym first.are) (front_item link first.rest some)

pub returns-in-Some-owner-clause-stands : goal.returns-in-Some-owner-clause-stands
returns-in-Some-owner-clause-stands c at lines is =
    let heads = c.args.self.now.heads.items in
    let link : Link = c.in-Some-get.node.now in
    let has : slice_get heads c.args.queue ≡ Some c.index.result.now = slice_get_read heads _ c.args.queue c.index.result.now refl c.requires.known c.index.ensures in
    let first = first_chunk at heads c.args.self.now.nodes lines is c.args.queue c.in-Some.key link (has ∙ ap Some c.in-Some.is) (sym c.in-Some-get.ensures) in
    let P : Chunks → Type 0 = λ chunks. IsFront chunks (front.Open c.in-Some-owner.owner) × (without_spent chunks ≡ chunks) in
    subst P (sym first.are) (front_open link first.rest c.in-Some-owner.owner (c.is_empty.ensures.0 c.if-not-is_empty.false) (sym c.in-Some-owner.ensures))

pub returns-in-None-clause-spent : goal.returns-in-None-clause-spent
returns-in-None-clause-spent c at lines is =
    let heads = c.args.self.now.heads.items in
    let link : Link = c.in-Some-get.node.now in
    let has : slice_get heads c.args.queue ≡ Some c.index.result.now = slice_get_read heads _ c.args.queue c.index.result.now refl c.requires.known c.index.ensures in
    let first = first_chunk at heads c.args.self.now.nodes lines is c.args.queue c.in-Some.key link (has ∙ ap Some c.in-Some.is) (sym c.in-Some-get.ensures) in
    (chunk_of link, first.rest, first.are, front_spent link (c.is_empty.ensures.0 c.if-not-is_empty.false) (sym c.in-None.ensures))
