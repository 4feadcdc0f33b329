-- Where a record is there it has as many bytes as are written.
use Rattle.std.proofs.Common.{◌≡◌, ◌∙◌, [], ap, rules, sym}
use Rattle.index_pipeline.specs.Batches.{has_room}
use Rattle.index_pipeline.proofs.Batching.{room_after}
use Rattle.index_pipeline.proofs.batch.BatchWriter.has_room.Goals as goal

pub returns-else-is_empty : goal.returns-else-is_empty
returns-else-is_empty c =
    let lens = c.self.inside.lens.items in
    let bytes = c.self.inside.bytes.items in
    let some : lens ≡ [] → ⊥ = search rules in
    c.is_within.ensures
    ∙ sym (room_after lens bytes c.self.inside.written c.args.word_len c.self.invariant.0 c.self.invariant.1 some)
    ∙ ap (λ records. has_room records c.args.word_len) c.self.view_is
