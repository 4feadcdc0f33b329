use Rattle.std.proofs.Common.{◌≡◌, ◌∷◌, sym, rules}
use Rattle.swan_top.proofs.WordsRead.{fueled_is}
use Rattle.swan_top.proofs.command.fueled.Goals as goal

pub returns-in-Some-Some : goal.returns-in-Some-Some
returns-in-Some-Some c =
    let split : c.args.words.now ≡ c.in-Some.fuel.now ∷ c.in-Some.files.now = search (rules, c.in-Some.ensures.cases, c.in-Some.files-is) in
    let given = c.in-Some-Some.ensures' in
    fueled_is c.args.words.now c.in-Some.files.now c.in-Some.fuel.now c.in-Some-Some.job.now c.in-Some-Some.inputs.now c.in-Some-Some.fuel
    split (sym c.in-Some-Some.ensures) given.0 given.1 given.2
