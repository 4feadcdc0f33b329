-- What a variable holds, and its value.
use Rattle.std.specs.Prelude.{◌≤◌, length}
use Rattle.job_body.specs.declared.slot.Held.{Held}
use Rattle.job_body.specs.declared.slot.Held.TheVariants as held
use Rattle.swan_model.specs.declared.record.TheConstants.{RECORD_MOST}
use Rattle.swan_model.specs.declared.value.Value.{Value}
use Rattle.swan_model.specs.declared.value.Value.TheVariants.{Int, Bytes}

abbrev pub value_held : Held → Value
value_held (held.Int n) = Int n
value_held (held.Bytes bytes) = Bytes bytes
value_held (held.Growing bytes) = Bytes bytes.items

-- bytes that grow fit a record
abbrev pub FitsRecord : Held → Type 0
FitsRecord (held.Growing bytes) = length bytes.items ≤ RECORD_MOST
FitsRecord _ = Unit {0}
