use Rattle.std.proofs.Common.{◌≡◌, ℕ, ◌+◌, refl, Option, None, Some, sym, ap, subst, ◌∙◌}
use Rattle.std.proofs.lemmas.Option.{slice_get_read}
use Rattle.std.specs.Prelude.{slice_get}
use Rattle.queue_book.specs.Chains.{Link}
use Rattle.queue_book.specs.Fronts.{open_or}
use Rattle.queue_book.proofs.ChainWalks.{IsWalked, walk_ends, walk_goes_on, walk_meets, walk_stands, walk_starts}
use Rattle.queue_book.proofs.fronts.first_pusher.Goals as goal

pub loop-turn-init : goal.loop-turn-init
loop-turn-init c at lines is =
    let heads = c.args.chains.now.heads.items in
    let has : slice_get heads c.args.queue ≡ Some c.index-next.result.now = slice_get_read heads _ c.args.queue c.index-next.result.now refl c.requires.known c.index-next.ensures in
    let one = is.chains c.args.queue c.index-next.result.now has in
    walk_starts c.args.frames.now c.args.chains.now.nodes c.args.frame c.args.queue c.index-next.result.now one.0 (lines c.args.queue) one.1

pub returns-in_default : goal.returns-in_default
returns-in_default c at lines is =
    let frames = c.args.frames.now in
    let nodes = c.args.chains.now.nodes in
    let P : Option ℕ → Type 0 = λ o. IsWalked frames nodes c.args.frame c.args.queue c.loop-turn._turn (lines c.args.queue) o in
    sym (walk_ends frames nodes c.args.frame c.args.queue c.loop-turn._turn (lines c.args.queue) (subst P c.in_default.is (c.loop-turn.invariant at lines is)))

pub unreachable-requires : goal.unreachable-requires
unreachable-requires c =
    let kept = c.requires.kept in
    let lines = kept.1 in
    let frames = c.args.frames.now in
    let nodes = c.args.chains.now.nodes in
    let P : Option ℕ → Type 0 = λ o. IsWalked frames nodes c.args.frame c.args.queue c.loop-turn._turn (lines c.args.queue) o in
    let found = walk_stands frames nodes c.args.frame c.args.queue c.loop-turn._turn (lines c.args.queue) c.in-Some.key (subst P c.in-Some.is (c.loop-turn.invariant kept.0 lines kept.2)) in
    let never : None ≡ Some found.0 = c.in_default-get.ensures ∙ found.1 in
    cc

pub returns-in-Own : goal.returns-in-Own
returns-in-Own c at lines is =
    let frames = c.args.frames.now in
    let nodes = c.args.chains.now.nodes in
    let link : Link = c.in-Some-get.node.now in
    let P : Option ℕ → Type 0 = λ o. IsWalked frames nodes c.args.frame c.args.queue c.loop-turn._turn (lines c.args.queue) o in
    let walked = subst P c.in-Some.is (c.loop-turn.invariant at lines is) in
    let owner : link.owner ≡ c.owner.result = sym c.owner.ensures in
    sym (walk_meets frames nodes c.args.frame c.args.queue c.loop-turn._turn (lines c.args.queue) c.in-Some.key link (sym c.in-Some-get.ensures) walked None
    (λ rest. ap (λ o. open_or frames c.args.frame c.args.queue o rest) owner ∙ c.in-Own.ensures rest))

pub returns-in-Pusher : goal.returns-in-Pusher
returns-in-Pusher c at lines is =
    let frames = c.args.frames.now in
    let nodes = c.args.chains.now.nodes in
    let link : Link = c.in-Some-get.node.now in
    let P : Option ℕ → Type 0 = λ o. IsWalked frames nodes c.args.frame c.args.queue c.loop-turn._turn (lines c.args.queue) o in
    let walked = subst P c.in-Some.is (c.loop-turn.invariant at lines is) in
    let owner : link.owner ≡ c.owner.result = sym c.owner.ensures in
    sym (walk_meets frames nodes c.args.frame c.args.queue c.loop-turn._turn (lines c.args.queue) c.in-Some.key link (sym c.in-Some-get.ensures) walked
    (Some c.in-Pusher.owner) (λ rest. ap (λ o. open_or frames c.args.frame c.args.queue o rest) owner ∙ c.in-Pusher.ensures rest))

pub loop-turn-preserved : goal.loop-turn-preserved
loop-turn-preserved c at lines is =
    let frames = c.args.frames.now in
    let nodes = c.args.chains.now.nodes in
    let link : Link = c.in-Some-get.node.now in
    let P : Option ℕ → Type 0 = λ o. IsWalked frames nodes c.args.frame c.args.queue c.loop-turn._turn (lines c.args.queue) o in
    let walked = subst P c.in-Some.is (c.loop-turn.invariant at lines is) in
    let owner : link.owner ≡ c.owner.result = sym c.owner.ensures in
    let Q : Option ℕ → Type 0 = λ o. IsWalked frames nodes c.args.frame c.args.queue (c.loop-turn._turn + 1) (lines c.args.queue) o in
    subst Q (sym c.next-next.ensures) (walk_goes_on frames nodes c.args.frame c.args.queue c.loop-turn._turn (lines c.args.queue) c.in-Some.key link (sym c.in-Some-get.ensures) walked
    (λ rest. ap (λ o. open_or frames c.args.frame c.args.queue o rest) owner ∙ c.in-Nobody.ensures rest))
