use Rattle.std.proofs.Common.{◌∙◌}
use Rattle.swan_outside.proofs.Fronts.{text_front_first}
use Rattle.swan_outside.proofs.os_sink.front_of.Goals as goal

pub returns-in-Some : goal.returns-in-Some
returns-in-Some c =
    let steps = c.in-Some.ensures.steps in
    c.valid.ensures ∙ text_front_first c.args.piece.now c.utf8_chunks.result.rest.now _ _ (cc) steps.0 steps.3.0
