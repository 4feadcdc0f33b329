use Rattle.serial_elision.proofs.Aliases.{IsAliasedFrom}
use Rattle.serial_elision.proofs.alias.is_aliased_of_many.Given as goal

abbrev pub invariant-loop-give : goal.invariant-loop-give
invariant-loop-give l = IsAliasedFrom l.only_read l.gives l.give-index
