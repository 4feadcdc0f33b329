-- Words go by the numbers of their first bytes, where these differ.
use Rattle.std.proofs.Common.{arith, sym}
use Rattle.index_pipeline.proofs.KeyOrder.{after, before}
use Rattle.index_pipeline.proofs.key.order_of.Goals as goal

pub returns-then-front-other_front : goal.returns-then-front-other_front
returns-then-front-other_front c =
    sym (before 8 c.args.word.now c.args.other.now c.requires.bytes c.requires.other_bytes
    (omega (arith, c.requires.own, c.requires.others, c.if-front-other_front.true)))

pub returns-then-other_front-front : goal.returns-then-other_front-front
returns-then-other_front-front c =
    sym (after 8 c.args.word.now c.args.other.now c.requires.bytes c.requires.other_bytes
    (omega (arith, c.requires.own, c.requires.others, c.if-other_front-front.true)))
