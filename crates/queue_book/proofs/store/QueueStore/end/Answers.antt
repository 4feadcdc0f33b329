use Rattle.std.proofs.Common.{◌≡◌, Some, [], sym, ap, subst, ◌∙◌}
use Rattle.queue_book.specs.Ended.{lines_after_end, own_keys, HaveOwn, IsAlone}
use Rattle.queue_book.specs.KeptFrames.{KeptFrame, OwnChunks, own_chunk_in}
use Rattle.queue_book.specs.Lines.{HaveLines}
use Rattle.queue_book.proofs.store.QueueStore.end.Goals as goal

pub end_chunks-requires-clause-known : goal.end_chunks-requires-clause-known
end_chunks-requires-clause-known c queue own_chunk found =
    c.requires.known c.in-Some.kept (sym c.in-Some.ensures.frame) queue own_chunk (ap (λ own_chunks. own_chunk_in own_chunks queue) (sym c.into_own_chunks.ensures) ∙ found)

pub end_chunks-requires-clause-owned : goal.end_chunks-requires-clause-owned
end_chunks-requires-clause-owned c =
    let P : OwnChunks → Type 0 = λ own_chunks. HaveOwn c.args.self.now.chains.heads.items c.args.self.now.chains.nodes c.args.number own_chunks in
    subst P (sym c.into_own_chunks.ensures) (c.requires.owned c.in-Some.kept (sym c.in-Some.ensures.frame))

pub returns-clause-ended : goal.returns-clause-ended
returns-clause-ended c kept at stand lines chained alone =
    let both : Some c.in-Some.kept ≡ Some kept = c.in-Some.ensures.frame ∙ at in
    let same : c.in-Some.kept ≡ kept = cc in
    let same_own_chunks : c.into_own_chunks.result.entries ≡ kept.own_chunks = c.into_own_chunks.ensures ∙ ap (λ (k : KeptFrame). k.own_chunks) same in
    let P : OwnChunks → Type 0 = λ own_chunks.
    HaveLines c.args.self.now.chains (own_keys c.args.number own_chunks stand) lines → IsAlone c.args.number own_chunks stand
    → HaveLines c.end_chunks.new.chains (own_keys c.args.number [] stand) (lines_after_end c.args.number own_chunks lines) in
    subst P same_own_chunks (c.end_chunks.ensures.ended stand lines) chained alone
