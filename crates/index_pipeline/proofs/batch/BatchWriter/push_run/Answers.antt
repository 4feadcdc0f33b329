-- One more record: a word, a space and a number, for which there was room.
use Rattle.std.proofs.Common.{◌≡◌, ◌∙◌, ◌<◌, ◌^◌, ◌∷◌, ◌++◌, ◌-◌, [], ap, append_assoc, arith, length, rules, take}
use Rattle.std.specs.Fmt.{decimal}
use Rattle.swan_model.specs.declared.value.Value.TheVariants.{Bytes}
use Rattle.index_pipeline.specs.Batches.{cuts, has_room}
use Rattle.index_pipeline.specs.Words.{word_of}
use Rattle.index_pipeline.specs.declared.word.TheConstants.{WORD_MOST}
use Rattle.index_pipeline.proofs.Batching.{number_few, pushed, still_batch, word_few}
use Rattle.index_pipeline.proofs.batch.BatchWriter.push_run.Goals as goal

pub invariant_of-self-2 : goal.invariant_of-self-2
invariant_of-self-2 c =
    let bytes = c.self.inside.bytes.items in
    let lens = c.self.inside.lens.items in
    let written = c.self.inside.written in
    let word = word_of c.args.run.now in
    let number = 32 ∷ decimal c.args.line in
    let front = take written bytes in
    let now = c.write_number.new.text.items in
    let is : now ≡ front ++ (word ++ number) =
    c.in_ok-write_number.ensures.number
    ∙ ap (λ bs. bs ++ number) (c.in_ok-write_word.ensures.word ∙ ap (λ bs. bs ++ word) c.truncate.ensures.items)
    ∙ append_assoc front word number in
    let long : c.len.result - written ≡ length now - written = ap (λ n. n - written) (c.len.ensures ∙ c.write_number.new.text.ok.0) in
    let fits : c.args.line < 2 ^ 64 = search rules in
    let room = ap (λ rs. has_room rs WORD_MOST) c.self.view_is ∙ c.requires in
    still_batch lens bytes now (word ++ number) c.push.new.self.items written (c.len.result - written) WORD_MOST c.len-self-inside.result c.self.invariant.0 c.self.invariant.1 room
    is long c.in_ok-push.ensures.items (c.len-self-inside.ensures ∙ c.write_number.new.text.ok.0) (omega (arith, number_few word c.args.line fits, word_few c.args.run.now))

pub returns : goal.returns
returns c =
    let bytes = c.self.inside.bytes.items in
    let lens = c.self.inside.lens.items in
    let written = c.self.inside.written in
    let word = word_of c.args.run.now in
    let number = 32 ∷ decimal c.args.line in
    let front = take written bytes in
    let now = c.write_number.new.text.items in
    let is : now ≡ front ++ (word ++ number) =
    c.in_ok-write_number.ensures.number
    ∙ ap (λ bs. bs ++ number) (c.in_ok-write_word.ensures.word ∙ ap (λ bs. bs ++ word) c.truncate.ensures.items)
    ∙ append_assoc front word number in
    let long : c.len.result - written ≡ length now - written = ap (λ n. n - written) (c.len.ensures ∙ c.write_number.new.text.ok.0) in
    ap (λ ls. cuts ls now) c.in_ok-push.ensures.items
    ∙ pushed lens bytes now (word ++ number) written (c.len.result - written) c.self.invariant.0 c.self.invariant.1 is long
    ∙ ap (λ rs. rs ++ Bytes (word ++ number) ∷ []) c.self.view_is
