use Rattle.std.proofs.Common.{sym}
use Rattle.swan_top.proofs.WordsRead.{generated_is}
use Rattle.swan_top.proofs.command.generated_by.Goals as goal

pub returns-in-Some-Some-Some : goal.returns-in-Some-Some-Some
returns-in-Some-Some-Some c =
    let given = c.in-Some-Some-Some in
    generated_is c.args.number_word.now c.args.size_word.now c.args.workers_word.now given.number given.size given.workers
    (sym given.ensures) (sym given.ensures') (sym given.ensures'')
