-- What a spawn lends, as a check goes over its arguments.
use Rattle.std.specs.Prelude.{Bool, false, not, ◌&&◌, Option, Some, None}
use Rattle.swan_model.specs.Rights.{is_in}
use Rattle.swan_model.specs.declared.rights.Mode.{Mode}

-- whether a name may not be lent by a mode, where it is lent so already
abbrev pub clashes : Mode → Option Mode → Bool
clashes mode None = false
clashes mode (Some other) = not (is_in mode && is_in other)
