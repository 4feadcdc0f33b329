-- The code that the program ends with, by how the call ended.
use Rattle.std.specs.Prelude.{ℕ}
use Rattle.swan_top.specs.declared.status.Status.{Status}
use Rattle.swan_top.specs.declared.status.Status.TheVariants as status

abbrev pub code_of : Status → ℕ
code_of (status.Done how) = 0
code_of (status.Faulted how) = 1
code_of status.Usage = 2
code_of status.JobRefused = 3
code_of status.ReadFailed = 4
code_of status.WriteFailed = 5
code_of status.NoMemory = 6
code_of status.InputRefused = 7
