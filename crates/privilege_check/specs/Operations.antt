-- The kinds of operations.
use Rattle.std.specs.Prelude.{ℕ, Option, Some, None, Result, Ok, List, [], ◌∷◌}
use Rattle.swan_model.specs.declared.value.Kind.{Kind}
use Rattle.swan_model.specs.declared.value.Kind.TheVariants.{Int, Bytes}
use Rattle.job_reader.specs.Faults.{◌>>=◌}
use Rattle.job_reader.specs.declared.atom.Atom.{Atom}
use Rattle.job_reader.specs.declared.fault.JobKind.{JobKind}
use Rattle.job_reader.specs.declared.op.Op.{Op}
use Rattle.job_reader.specs.declared.op.Op.TheVariants as op
use Rattle.privilege_check.specs.Names.{KnownNames}
use Rattle.privilege_check.specs.Uses.{value, variable}

-- the kind of the result, which the variable is asked to have; `set` has any
abbrev pub result_kind : Op → Option Kind
result_kind op.Set = None
result_kind op.Slice = Some Bytes
result_kind op.Cat = Some Bytes
result_kind op.Text = Some Bytes
result_kind _ = Some Int

-- the kind that the first atom is asked to have, where the variable is of this kind; `eq` asks none
abbrev pub first_operand_kind : Op → Kind → Option Kind
first_operand_kind op.Set k = Some k
first_operand_kind op.Eq k = None
first_operand_kind op.Len k = Some Bytes
first_operand_kind op.At k = Some Bytes
first_operand_kind op.Slice k = Some Bytes
first_operand_kind op.Cat k = Some Bytes
first_operand_kind op.Find k = Some Bytes
first_operand_kind op.Num k = Some Bytes
first_operand_kind _ k = Some Int

-- the kind that the others are asked to have, where the first is of this kind
abbrev pub later_operand_kind : Op → Kind → Kind
later_operand_kind op.Eq k = k
later_operand_kind op.Cat k = Bytes
later_operand_kind _ k = Int

-- atoms that are all of one kind
abbrev pub values : KnownNames → Kind → List Atom → Result (Unit {0}) JobKind
values names k [] = Ok tt
values names k (a ∷ more) = value names (Some k) a >>= λ _. values names k more

abbrev pub operands : KnownNames → Op → Kind → List Atom → Result (Unit {0}) JobKind
operands names op k [] = Ok tt
operands names op k (a ∷ more) = value names (first_operand_kind op k) a >>= λ first. values names (later_operand_kind op first) more

-- an assignment: first the variable, and then the atoms
abbrev pub check_assignment : KnownNames → List ℕ → Op → List Atom → Result (Unit {0}) JobKind
check_assignment names v op atoms = variable names (result_kind op) v >>= λ k. operands names op k atoms
