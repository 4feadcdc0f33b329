-- What instructions do. The code alone is stated by this, and no public clause.
use Rattle.std.specs.Prelude.{Bool, true, false, ℕ, ◌+◌, ℤ, pos, negsuc, Option, Some, None, Result, Ok, Err, List, ◌++◌, map, slice_get, slice_set, unwrap_or, if◌then◌else◌}
use Rattle.job_body.specs.Operations.{flag, is_true, number_of, operation}
use Rattle.job_body.specs.Standing.{Standing}
use Rattle.job_body.specs.Steps.{counted, is_kind}
use Rattle.job_body.specs.declared.instruction.Action.{Action}
use Rattle.job_body.specs.declared.instruction.Action.TheVariants as action
use Rattle.job_body.specs.declared.instruction.Demand.{Demand}
use Rattle.job_body.specs.declared.instruction.Demand.TheVariants as demand
use Rattle.job_body.specs.declared.instruction.Instruction.{Instruction}
use Rattle.job_body.specs.declared.instruction.IntOp.{IntOp}
use Rattle.job_body.specs.declared.instruction.IntOp.TheVariants as int
use Rattle.job_body.specs.declared.instruction.Num.{Num}
use Rattle.job_body.specs.declared.instruction.Num.TheVariants as num
use Rattle.job_body.specs.declared.instruction.Operand.{Operand}
use Rattle.job_body.specs.declared.instruction.Operand.TheVariants as operand
use Rattle.job_body.specs.declared.instruction.Work.{Work}
use Rattle.job_body.specs.declared.instruction.Work.TheVariants as work
use Rattle.job_reader.specs.declared.op.Op.{Op}
use Rattle.job_reader.specs.declared.op.Op.TheVariants as op
use Rattle.swan_model.specs.declared.body.Answer.{Answer}
use Rattle.swan_model.specs.declared.body.Answer.TheVariants as answer
use Rattle.swan_model.specs.declared.body.Ask.{Ask}
use Rattle.swan_model.specs.declared.body.Ask.TheVariants as ask
use Rattle.swan_model.specs.declared.body.Stop.{Stop}
use Rattle.swan_model.specs.declared.body.Worked.{Worked}
use Rattle.swan_model.specs.declared.fault.Trouble.{Trouble}
use Rattle.swan_model.specs.declared.fault.Trouble.TheVariants as trouble
use Rattle.swan_model.specs.declared.rights.Give.{Give}
use Rattle.swan_model.specs.declared.value.Value.{Value}
use Rattle.swan_model.specs.declared.value.Value.TheVariants.{Int, Bytes}
use Rattle.swan_model.specs.Values.{kind_of, zero_of}

-- the value in a slot, or the number 0 where there is none
abbrev pub value_in : List Value → Option ℕ → Value
value_in values None = Int (pos 0)
value_in values (Some i) = unwrap_or (slice_get values i) (Int (pos 0))

abbrev pub with_slot : List Value → Option ℕ → Value → List Value
with_slot values None new = values
with_slot values (Some i) new = slice_set values i new

abbrev pub value_of : List Value → Operand → Value
value_of values (operand.Int n) = Int n
value_of values (operand.Bytes bytes) = Bytes bytes
value_of values (operand.Variable i) = value_in values (Some i)

-- the number that a constant or the variable in a slot means
abbrev pub number_in : List Value → Num → ℤ
number_in values (num.Const n) = n
number_in values (num.Slot i) = number_of (value_in values (Some i))

-- an operation on numbers, among all operations
abbrev pub op_of : IntOp → Op
op_of int.Add = op.Add
op_of int.Sub = op.Sub
op_of int.Mul = op.Mul
op_of int.Div = op.Div
op_of int.Rem = op.Rem
op_of int.Lt = op.Lt
op_of int.Le = op.Le
op_of int.And = op.And
op_of int.Or = op.Or
op_of int.Not = op.Not

-- its value on numbers
abbrev pub int_operation : IntOp → ℤ → ℤ → Result Value Trouble
int_operation o a b = operation (op_of o) (Int a) (Int b) (Int (pos 0))

-- an operation whose value is a number
abbrev pub gives_number : Op → Bool
gives_number op.Set = false
gives_number op.Slice = false
gives_number op.Cat = false
gives_number op.Text = false
gives_number _ = true

-- a number as a value, where there is one
abbrev pub valued : Result ℤ Trouble → Result Value Trouble
valued (Ok n) = Ok (Int n)
valued (Err why) = Err why

-- the record that a value is, where it is one
abbrev pub record_of : Value → Option (List ℕ)
record_of (Int n) = None
record_of (Bytes bytes) = Some bytes

-- the values once an answer has come
abbrev pub set_by : List Value → Option ℕ → Value → List Value
set_by values to new = if is_kind (kind_of (value_in values to)) (kind_of new) then with_slot values to new else values

abbrev pub values_after_answer : List Value → Action → Answer → List Value
values_after_answer values (action.Demand (demand.Read to place)) (answer.Item value) = set_by values to value
values_after_answer values (action.Demand (demand.Pop to place)) (answer.Item value) = set_by values to value
values_after_answer values (action.Demand (demand.Empty to place)) (answer.Flag is_empty) = set_by values to (flag is_empty)
values_after_answer values _ _ = values

abbrev pub values_after_answer_by : List Value → Option Instruction → Answer → List Value
values_after_answer_by values None answer = values
values_after_answer_by values (Some instruction) answer = values_after_answer values instruction.action answer

-- how many children failed, once an answer has come
abbrev pub caught_after_answer : ℕ → Action → Answer → ℕ
caught_after_answer caught (action.Demand demand.Sync) (answer.Caught failed) = failed
caught_after_answer caught _ _ = caught

abbrev pub caught_after_answer_by : ℕ → Option Instruction → Answer → ℕ
caught_after_answer_by caught None answer = caught
caught_after_answer_by caught (Some instruction) answer = caught_after_answer caught instruction.action answer

-- the activation at another line
abbrev pub after_go : Standing → ℕ → Standing
after_go s to = record { before = s.at; at = to; values = s.values; caught = s.caught }

abbrev pub after_go_with : Standing → ℕ → List Value → Standing
after_go_with s to values = record { before = s.at; at = to; values = values; caught = s.caught }

abbrev pub run_of_assignment : Standing → ℕ → Option ℕ → Result Value Trouble → Standing × Ask Standing
run_of_assignment s to slot (Ok value) = (after_go_with s to (with_slot s.values slot value), ask.Work)
run_of_assignment s to slot (Err why) = (s, ask.Fail why)

-- the activation once a slot has the value of an operation, and the trouble that this met, if any
abbrev pub assigned : Standing → Option ℕ → Result Value Trouble → Standing × Option Trouble
assigned s slot (Ok value) = (record s { values = with_slot s.values slot value }, None)
assigned s slot (Err why) = (s, Some why)

-- an activation of the task at an index before its first step
abbrev pub begun_at : ℕ → List Value → ℕ → Action → Standing
begun_at index values next (action.Demand (demand.Begin kinds)) = record { before = index; at = next; values = values ++ map zero_of kinds; caught = 0 }
begun_at index values next _ = record { before = index; at = index + 1; values = values; caught = 0 }

abbrev pub begun_by : ℕ → List Value → Option Instruction → Standing
begun_by index values None = record { before = index; at = index + 1; values = values; caught = 0 }
begun_by index values (Some instruction) = begun_at index values instruction.next instruction.action

abbrev pub begun_in : List Instruction → ℕ → List Value → Standing
begun_in program index values = begun_by index values (slice_get program index)

abbrev pub run_of_spawn : List Instruction → Standing → ℕ → ℤ → ℕ → List Operand → List Give → Standing × Ask Standing
run_of_spawn program s to (negsuc n) index params gives = (s, ask.Fail trouble.Range)
run_of_spawn program s to (pos fuel) index params gives =
    (after_go s to, ask.Spawn (record { local = begun_in program index (map (value_of s.values) params); gives = gives; fuel = fuel }))

-- what a line asks for that is the task's own work, by the trouble that it meets, if any
abbrev pub ask_by : Option Trouble → Ask Standing
ask_by None = ask.Work
ask_by (Some why) = ask.Fail why

-- what work does that goes on at a line
abbrev pub worked : Standing → ℕ → ℕ → Work → Standing × Ask Standing
worked s to fuel work.Go = (after_go s to, ask.Work)
worked s to fuel (work.Assign slot op a b c) =
    run_of_assignment s to slot (operation op (value_of s.values a) (value_of s.values b) (value_of s.values c))
worked s to fuel (work.Ints o slot a b) = run_of_assignment s to (Some slot) (int_operation o (number_in s.values a) (number_in s.values b))
worked s to fuel (work.Branch a otherwise) =
    (after_go s (if is_true (Int (number_in s.values a)) then to else otherwise), ask.Work)
worked s to fuel (work.Fuel slot) =
    (after_go_with s to (with_slot s.values slot (counted fuel)), ask.Work)
worked s to fuel (work.Caught slot) =
    (after_go_with s to (with_slot s.values slot (counted s.caught)), ask.Work)

-- what a demand does that goes on at a line
abbrev pub demanded : List Instruction → Standing → ℕ → Demand → Standing × Ask Standing
demanded program s to (demand.Begin kinds) = (s, ask.Finish)
demanded program s to demand.NewQueue = (after_go s to, ask.NewQueue)
demanded program s to (demand.NewObject kind) = (after_go s to, ask.NewObject (zero_of kind))
demanded program s to (demand.Read slot place) = (after_go s to, ask.Read place)
demanded program s to (demand.Write place a) = (after_go s to, ask.Write place (value_of s.values a))
demanded program s to (demand.Push place a) = (after_go s to, ask.Push place (value_of s.values a))
demanded program s to (demand.Pop slot place) = (after_go s to, ask.Pop place)
demanded program s to (demand.Empty slot place) = (after_go s to, ask.Empty place)
demanded program s to (demand.Spawn a index params gives) =
    run_of_spawn program s to (number_of (value_of s.values a)) index params gives
demanded program s to demand.Sync = (after_go s to, ask.Sync)
demanded program s to (demand.Fail a) = (s, ask.Fail (trouble.User (number_of (value_of s.values a))))
demanded program s to demand.Finish = (s, ask.Finish)

-- what an instruction does that goes on at a line
abbrev pub done : List Instruction → Standing → ℕ → ℕ → Action → Standing × Ask Standing
done program s to fuel (action.Work work) = worked s to fuel work
done program s to fuel (action.Demand demand) = demanded program s to demand

abbrev pub run : List Instruction → Standing → ℕ → Option Instruction → Standing × Ask Standing
run program s fuel None = (s, ask.Finish)
run program s fuel (Some instruction) = done program s instruction.next fuel instruction.action

abbrev pub after_answer_by : List Instruction → Standing → Answer → Standing
after_answer_by program s answer =
    record s { values = values_after_answer_by s.values (slice_get program s.before) answer; caught = caught_after_answer_by s.caught (slice_get program s.before) answer }

-- the step of a program
abbrev pub next_by : List Instruction → Standing → Answer → ℕ → Standing × Ask Standing
next_by program s answer fuel = run program (after_answer_by program s answer) fuel (slice_get program s.at)

-- what the last step of a row of some leaves and asks for
abbrev pub last_ask : Option (Stop Standing) → Ask Standing
last_ask None = ask.Work
last_ask (Some stop) = stop.ask

abbrev pub last_of : Worked Standing → Standing × Ask Standing
last_of row = (row.local, last_ask row.stop)
