-- The word's bytes, lowered where they stand.
use Rattle.std.proofs.Common.{◌≡◌, ◌∙◌, ◌++◌, ap, length, map, sym, take}
use Rattle.std.proofs.lemmas.List.{take_min}
use Rattle.std.specs.Char.{to_ascii_lowercase}
use Rattle.index_pipeline.specs.declared.word.TheConstants.{WORD_MOST}
use Rattle.index_pipeline.proofs.Lowering.{lowered_behind}
use Rattle.index_pipeline.proofs.word.write_word.Goals as goal

pub returns-clause-word : goal.returns-clause-word
returns-clause-word c =
    let old = c.args.text.now.items in
    let run = c.args.run.now in
    let piece = take c.min-len.result run in
    let value = c.deref_mut.ensures.value in
    let from : c.len-from.result ≡ length old = c.len-from.ensures ∙ c.args.text.now.ok.0 in
    let count : c.extend_from_slice.new.self.len ≡ length c.extend_from_slice.new.self.items = sym c.deref_mut.ensures.len ∙ ap length value in
    lowered_behind old piece c.deref_mut.result.now c.extend_from_slice.new.self.items c.make_ascii_lowercase.new.self c.len-from.result c.extend_from_slice.new.self.len
    c.in_ok-extend_from_slice.ensures.items value from count c.make_ascii_lowercase.ensures.after
    ∙ ap (λ p. old ++ map to_ascii_lowercase p) (ap (λ n. take n run) c.min-len.ensures ∙ take_min WORD_MOST run)
