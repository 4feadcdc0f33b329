use Rattle.std.proofs.Common.{◌≡◌, ap, arith, length, rules}
use Rattle.swan_model.specs.Elision.{root_holdings}
use Rattle.swan_model.proofs.RootLists.{length-root_holdings}
use Rattle.serial_elision.proofs.roots.root_holdings.Goals as goal

pub returns-clause-most : goal.returns-clause-most
returns-clause-most c =
    let is : c.hold_objects.new.holdings.items ≡ root_holdings c.args.roots.now = search rules in
    omega (arith, ap length is, length-root_holdings c.args.roots.now)
