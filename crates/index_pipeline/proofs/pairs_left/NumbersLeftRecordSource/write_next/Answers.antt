-- The next number of the word, or the first one of the next word.
use Rattle.std.proofs.Common.{◌≡◌, ◌∙◌, ◌+◌, ◌∷◌, ◌++◌, [], ap, append_assoc, arith, drop, length, length-drop, map, sym}
use Rattle.index_pipeline.specs.KeptPairs.{pairs_from_word}
use Rattle.index_pipeline.specs.Records.{record_of}
use Rattle.index_pipeline.proofs.KeptOrder.{paired}
use Rattle.index_pipeline.proofs.pairs_left.NumbersLeftRecordSource.write_next.Goals as goal

pub overflow_add-self : goal.overflow_add-self
overflow_add-self c =
    omega (arith, c.get.ensures.few, ap length c.in-Some.ensures.number, length-drop c.loop-line.self.taken c.loop-line.self.numbers)

pub returns-in-Some-clause-records : goal.returns-in-Some-clause-records
returns-in-Some-clause-records c =
    let word = c.loop-line.self.word in
    let entries = c.loop-line.self.words.entries in
    let batch = c.loop-line.batch in
    let record_is = record_of (paired word c.in-Some.line) in
    let rest = map record_of (pairs_from_word word (drop (c.loop-line.self.taken + 1) c.loop-line.self.numbers) entries) in
    let all = map record_of (pairs_from_word c.args.self.now.word (drop c.args.self.now.taken c.args.self.now.numbers) c.args.self.now.words.entries) in
    let pushed : c.push_word.new.self ≡ batch ++ record_is ∷ [] =
    c.in_ok-push_word.ensures ∙ ap (λ w. batch ++ record_of (paired w c.in-Some.line) ∷ []) c.as_slice-in-Some.ensures in
    ap (λ rs. rs ++ rest) pushed
    ∙ append_assoc batch (record_is ∷ []) rest
    ∙ ap (λ ns. batch ++ map record_of (pairs_from_word word ns entries)) (sym c.in-Some.ensures.number)
    ∙ ap (λ ps. batch ++ map record_of ps) c.loop-line.invariant.left
    ∙ ap (λ rs. rs ++ all) c.loop-line.invariant.batch

pub returns-in-Some-clause-goes_on : goal.returns-in-Some-clause-goes_on
returns-in-Some-clause-goes_on c =
    let word = c.loop-line.self.word in
    let entries = c.loop-line.self.words.entries in
    let before = ap (λ ps. length (map record_of ps)) (sym c.loop-line.invariant.left ∙ ap (λ ns. pairs_from_word word ns entries) c.in-Some.ensures.number) in
    λ _. omega (arith, before)
