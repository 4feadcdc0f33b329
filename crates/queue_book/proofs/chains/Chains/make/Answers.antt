use Rattle.std.proofs.Common.{◌≡◌, ℕ, ◌++◌, Option, Some, None, List, [], ◌∷◌, length, sym, ap, subst, ◌∙◌}
use Rattle.slab.specs.Slab.{Updates}
use Rattle.queues.specs.Chunks.{own}
use Rattle.queue_book.specs.Chains.{Link, AreChained, in_line, put_at}
use Rattle.queue_book.proofs.ChainGrowth.{chained_make}
use Rattle.queue_book.proofs.chains.Chains.make.Goals as goal

pub returns-clause-made : goal.returns-clause-made
returns-clause-made c at lines is chunkless =
    let heads = c.args.self.now.heads.items in
    let nodes = c.args.self.now.nodes in
    let after = c.insert.new.self in
    let key = c.in_ok-key.key in
    let owner = c.args.owner in
    let made : ℕ → Link = λ q. record { queue = q; owner = Some owner; items = c.args.items; next = None } in
    let is_made : c.first.result ≡ made (length heads) = c.first.ensures ∙ ap made c.requires.number in
    let P : Link → Type 0 = λ l. Updates nodes after key (Some l) in
    let Q : ℕ → Type 0 = λ q. at owner q ≡ None in
    let R : ℕ → Type 0 = λ q. AreChained (put_at owner q (Some key) at) (heads ++ Some key ∷ []) after (in_line q (λ old. own owner c.args.items ∷ []) lines) in
    let S : List (Option ℕ) → Type 0 = λ hs. AreChained (put_at owner c.args.queue (Some key) at) hs after (in_line c.args.queue (λ old. own owner c.args.items ∷ []) lines) in
    subst S (sym c.in_ok-push.ensures.items)
    (subst R (sym c.requires.number) (chained_make at heads nodes lines is after key owner c.args.items c.in_ok-key.ensures.was_vacant
    (subst P is_made c.in_ok-key.ensures.updates) (subst Q c.requires.number chunkless)))
