-- That a program keeps to the rights of its tasks: whatever it reads, it never meets a fault of rights.
use Rattle.std.specs.Prelude.{ℕ, Bool, true, false, All, IsFalse}
use Rattle.swan_model.specs.declared.body.Body.{Ghosts}
use Rattle.swan_model.specs.declared.fault.Fault.{Fault}
use Rattle.swan_model.specs.declared.fault.FaultKind.{FaultKind}
use Rattle.swan_model.specs.declared.fault.FaultKind.TheVariants.{Privilege, Alias}
use Rattle.swan_model.specs.declared.plan.Plan.{Plan}
use Rattle.swan_model.specs.Elision.{serial}

-- A fault of rights: a task used or gave what it doesn't hold so, or gave one place twice.
abbrev pub is_of_rights : FaultKind → Bool
is_of_rights Privilege = true
is_of_rights Alias = true
is_of_rights _ = false

abbrev pub IsNotOfRights : Fault → Type 0
IsNotOfRights fault = IsFalse (is_of_rights fault.kind)

-- after any number of steps, no fault so far is one of rights
abbrev pub KeepsRights : {B L : Type 0} → Ghosts B L → Plan B L → Type 0
KeepsRights G plan = (n : ℕ) → All IsNotOfRights (serial G plan n).faults
