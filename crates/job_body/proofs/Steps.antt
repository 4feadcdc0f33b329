-- The steps of a program are those of its job.
use Rattle.std.proofs.Common.{◌≡◌, ℕ, ◌+◌, Bool, true, false, if◌then◌else◌, arith, drop, Option, Some, None, Result, Ok, Err, List, [], ◌∷◌, map, flat_map, zip, slice_get, option_map, pos, negsuc, ℤ, refl, sym, ap, ap₂, ◌∙◌}
use Rattle.std.proofs.lemmas.List.{drop_all}
use Rattle.job_reader.specs.declared.atom.Atom.{Atom}
use Rattle.job_reader.specs.declared.line.Line.{Line}
use Rattle.job_reader.specs.declared.line.Line.TheVariants as line
use Rattle.swan_model.specs.declared.body.Answer.{Answer}
use Rattle.swan_model.specs.declared.body.Answer.TheVariants as answer
use Rattle.swan_model.specs.declared.body.Ask.{Ask}
use Rattle.swan_model.specs.declared.body.Ask.TheVariants as ask
use Rattle.swan_model.specs.declared.fault.Trouble.{Trouble}
use Rattle.swan_model.specs.declared.fault.Trouble.TheVariants as trouble
use Rattle.swan_model.specs.declared.value.Value.{Value}
use Rattle.swan_model.specs.declared.value.Value.TheVariants.{Int}
use Rattle.job_body.specs.declared.block.BlockWithLine.{BlockWithLine}
use Rattle.job_body.specs.declared.block.BlockWithLine.TheVariants as opened
use Rattle.job_body.specs.declared.instruction.IntOp.{IntOp}
use Rattle.job_body.specs.declared.instruction.IntOp.TheVariants as int
use Rattle.job_body.specs.declared.instruction.Operand.{Operand}
use Rattle.job_body.specs.declared.instruction.Operand.TheVariants as operand
use Rattle.job_body.specs.declared.scope.Scope.{Scope}
use Rattle.job_reader.specs.declared.op.Op.{Op}
use Rattle.job_reader.specs.declared.op.Op.TheVariants as op
use Rattle.job_body.specs.Blocks.{blocks_at, exit_at, innermost}
use Rattle.job_body.specs.Compiled as compiled
use Rattle.job_body.specs.Compiled.{action_of, next_of, program_of, seen_at, task_of_name, tasks_of}
use Rattle.job_body.specs.Names.{slot}
use Rattle.job_body.specs.Operations.{operation, flag, is_true, number_of}
use Rattle.job_body.specs.Steps.{is_kind}
use Rattle.swan_model.specs.Values.{kind_of}
use Rattle.job_body.specs.declared.take.Take.{Take}
use Rattle.job_body.specs.declared.tasks.Task.{Task}
use Rattle.job_body.specs.Runs as runs
use Rattle.job_body.specs.Standing.{Standing}
use Rattle.job_body.specs.Steps as steps
use Rattle.job_body.specs.Tasks.{before_task, executed_from, lines_of_task, takes, task_index}
use Rattle.job_body.proofs.Programs.{instruction-at, instruction, IsFound, at_line, nowhere, task-found, begun-named}
use Rattle.job_body.proofs.Values.{value-slot, set-slot, place-name, value-operand, values-given, gives-given}

-- ---- assignments

assigned-is : (lines : List Line) (s : Standing) (v : List ℕ) (result : Result Value Trouble) → runs.run_of_assignment s (executed_from lines (s.at + 1)) (compiled.slot_in (seen_at lines s.at) v) result ≡ steps.step_of_assignment lines s v result
assigned-is lines s v (Ok value) = ap (λ values. (runs.after_go_with s (executed_from lines (s.at + 1)) values, ask.Work)) (sym (set-slot (steps.names_at lines s.at) s.values v value))
assigned-is lines s v (Err why) = refl

argument-is : (lines : List Line) (s : Standing) (a : Option Atom) → steps.value_of_argument lines s a ≡ runs.value_of s.values (compiled.or_zero (seen_at lines s.at) a)
argument-is lines s None = refl
argument-is lines s (Some a) = value-operand lines s.at s.values a

-- ---- spawns

spawned-is : (lines : List Line) (s : Standing) (n : ℤ) (p : ℕ) (given : List (Take × Atom))
    → ((values : List Value) → runs.begun_in (program_of lines) p values ≡ steps.begun lines p values)
    → runs.run_of_spawn (program_of lines) s (executed_from lines (s.at + 1)) n p (flat_map (compiled.param_given (seen_at lines s.at)) given) (flat_map (compiled.give_given (seen_at lines s.at)) given)
    ≡ steps.step_of_spawn lines s n p given
spawned-is lines s (negsuc n) p given begins = refl
spawned-is lines s (pos fuel) p given begins =
    ap (λ local. (steps.after_move_on lines s, ask.Spawn (record { local = local; gives = flat_map (compiled.give_given (seen_at lines s.at)) given; fuel = fuel })))
    (begins (map (runs.value_of s.values) (flat_map (compiled.param_given (seen_at lines s.at)) given)) ∙ ap (steps.begun lines p) (sym (values-given lines s given)))
    ∙ ap (λ gives. (steps.after_move_on lines s, ask.Spawn (record { local = steps.begun lines p (flat_map (steps.value_given lines s) given); gives = gives; fuel = fuel }))) (sym (gives-given lines s given))

abbrev spawn : List Line → Standing → ℕ → Atom → Option Task → List Atom → Standing × Ask Standing
spawn lines s f fuel found args = runs.done (program_of lines) s (executed_from lines (s.at + 1)) f (compiled.spawn_action lines (seen_at lines s.at) fuel found args)

spawn-found : (lines : List Line) (s : Standing) (f : ℕ) (fuel : Atom) (p : ℕ) (found : Option Task) (args : List Atom)
    → ((values : List Value) → runs.begun_in (program_of lines) p values ≡ steps.begun lines p values)
    → IsFound lines 0 p found
    → spawn lines s f fuel found args ≡ steps.step_of_spawn lines s (number_of (runs.value_of s.values (compiled.operand_of (seen_at lines s.at) fuel))) p (zip (takes (lines_of_task lines p)) args)
spawn-found lines s f fuel p found args begins (at_line name h e) =
    ap (λ found. spawn lines s f fuel found args) e
    ∙ ap (λ i. spawn lines s f fuel (Some (record { index = i; takes = takes (before_task (drop (p + 1) lines)) })) args) (let same : 0 + p ≡ p = omega arith in same)
    ∙ spawned-is lines s (number_of (runs.value_of s.values (compiled.operand_of (seen_at lines s.at) fuel))) p (zip (takes (lines_of_task lines p)) args) begins
spawn-found lines s f fuel p found args begins (nowhere e none) =
    ap (λ found. spawn lines s f fuel found args) none
    ∙ ap (λ i. runs.run_of_spawn (program_of lines) s (executed_from lines (s.at + 1)) (number_of (runs.value_of s.values (compiled.operand_of (seen_at lines s.at) fuel))) i [] []) (sym e)
    ∙ spawned-is lines s (number_of (runs.value_of s.values (compiled.operand_of (seen_at lines s.at) fuel))) p [] begins
    ∙ ap (λ rest. steps.step_of_spawn lines s (number_of (runs.value_of s.values (compiled.operand_of (seen_at lines s.at) fuel))) p (zip (takes (before_task rest)) args)) (sym (drop_all (p + 1) lines (omega arith)))

-- ---- the ends of blocks and of tasks

end-is : (lines : List Line) (s : Standing) (fuel : ℕ) (blocks : List BlockWithLine) → runs.done (program_of lines) s (compiled.after_end_of lines s.at (innermost blocks)) fuel (compiled.end_action (innermost blocks)) ≡ steps.ended lines s blocks
end-is lines s fuel [] = refl
end-is lines s fuel (opened.If ∷ blocks) = refl
end-is lines s fuel (opened.While i ∷ blocks) = refl

-- ---- branches

branch-is : (lines : List Line) (s : Standing) (b : Bool) (to other : ℕ) → ◌≡◌ {A = Standing × Ask Standing} (runs.after_go s (if b then to else executed_from lines other), ask.Work) ((if b then runs.after_go s to else steps.after_move_to lines s other), ask.Work)
branch-is lines s true to other = refl
branch-is lines s false to other = refl

-- ---- operations on numbers

number-is : (values : List Value) (a : Operand) → runs.number_in values (compiled.num_of a) ≡ number_of (runs.value_of values a)
number-is values (operand.Int n) = refl
number-is values (operand.Bytes bytes) = refl
number-is values (operand.Variable i) = refl

-- such an operation looks at nothing of its values but their numbers
of-numbers : (o : IntOp) (a b c : Value) → runs.int_operation o (number_of a) (number_of b) ≡ operation (runs.op_of o) a b c
of-numbers int.Add a b c = refl
of-numbers int.Sub a b c = refl
of-numbers int.Mul a b c = refl
of-numbers int.Div a b c = refl
of-numbers int.Rem a b c = refl
of-numbers int.Lt a b c = refl
of-numbers int.Le a b c = refl
of-numbers int.And a b c = refl
of-numbers int.Or a b c = refl
of-numbers int.Not a b c = refl

ints-is : (s : Standing) (to slot : ℕ) (o : IntOp) (a b c : Operand) → runs.run_of_assignment s to (Some slot) (runs.int_operation o (runs.number_in s.values (compiled.num_of a)) (runs.number_in s.values (compiled.num_of b))) ≡ runs.run_of_assignment s to (Some slot) (operation (runs.op_of o) (runs.value_of s.values a) (runs.value_of s.values b) (runs.value_of s.values c))
ints-is s to slot o a b c =
    ap (λ n. runs.run_of_assignment s to (Some slot) (runs.int_operation o n (runs.number_in s.values (compiled.num_of b)))) (number-is s.values a)
    ∙ ap (λ n. runs.run_of_assignment s to (Some slot) (runs.int_operation o (number_of (runs.value_of s.values a)) n)) (number-is s.values b)
    ∙ ap (runs.run_of_assignment s to (Some slot)) (of-numbers o (runs.value_of s.values a) (runs.value_of s.values b) (runs.value_of s.values c))

assign-none : (s : Standing) (to fuel : ℕ) (found : Option IntOp) (o : Op) (a b c : Operand) → runs.worked s to fuel (compiled.assign_by found o None a b c) ≡ runs.run_of_assignment s to None (operation o (runs.value_of s.values a) (runs.value_of s.values b) (runs.value_of s.values c))
assign-none s to fuel None o a b c = refl
assign-none s to fuel (Some found) o a b c = refl

assign-is : (s : Standing) (to fuel : ℕ) (o : Op) (slot : Option ℕ) (a b c : Operand) → runs.worked s to fuel (compiled.assign_of o slot a b c) ≡ runs.run_of_assignment s to slot (operation o (runs.value_of s.values a) (runs.value_of s.values b) (runs.value_of s.values c))
assign-is s to fuel o None a b c = assign-none s to fuel (compiled.int_op o) o a b c
assign-is s to fuel op.Add (Some slot) a b c = ints-is s to slot int.Add a b c
assign-is s to fuel op.Sub (Some slot) a b c = ints-is s to slot int.Sub a b c
assign-is s to fuel op.Mul (Some slot) a b c = ints-is s to slot int.Mul a b c
assign-is s to fuel op.Div (Some slot) a b c = ints-is s to slot int.Div a b c
assign-is s to fuel op.Rem (Some slot) a b c = ints-is s to slot int.Rem a b c
assign-is s to fuel op.Lt (Some slot) a b c = ints-is s to slot int.Lt a b c
assign-is s to fuel op.Le (Some slot) a b c = ints-is s to slot int.Le a b c
assign-is s to fuel op.And (Some slot) a b c = ints-is s to slot int.And a b c
assign-is s to fuel op.Or (Some slot) a b c = ints-is s to slot int.Or a b c
assign-is s to fuel op.Not (Some slot) a b c = ints-is s to slot int.Not a b c
assign-is s to fuel o (Some slot) a b c = refl

-- ---- lines that set a variable

number-set : (lines : List Line) (s : Standing) (v : List ℕ) (new : Value) → ◌≡◌ {A = Standing × Ask Standing} (runs.after_go_with s (executed_from lines (s.at + 1)) (runs.with_slot s.values (compiled.slot_in (seen_at lines s.at) v) new), ask.Work) (steps.with_variable lines s v new, ask.Work)
number-set lines s v new = ap (λ values. (runs.after_go_with s (executed_from lines (s.at + 1)) values, ask.Work)) (sym (set-slot (steps.names_at lines s.at) s.values v new))

-- ---- all lines

-- what a line does in the program of its job
done-line : (lines : List Line) (s : Standing) (fuel : ℕ) (line : Line) → runs.done (program_of lines) s (next_of lines (seen_at lines s.at) (exit_at lines s.at) s.at line) fuel (action_of lines (tasks_of lines) (seen_at lines s.at) (exit_at lines s.at) s.at line) ≡ steps.step lines s fuel line
done-line lines s fuel (line.Assign v o args) =
    assign-is s (executed_from lines (s.at + 1)) fuel o (compiled.slot_in (seen_at lines s.at) v) (compiled.or_zero (seen_at lines s.at) (slice_get args 0)) (compiled.or_zero (seen_at lines s.at) (slice_get args 1)) (compiled.or_zero (seen_at lines s.at) (slice_get args 2))
    ∙ ap (λ a. runs.run_of_assignment s (executed_from lines (s.at + 1)) (compiled.slot_in (seen_at lines s.at) v) (operation o a (runs.value_of s.values (compiled.or_zero (seen_at lines s.at) (slice_get args 1))) (runs.value_of s.values (compiled.or_zero (seen_at lines s.at) (slice_get args 2))))) (sym (argument-is lines s (slice_get args 0)))
    ∙ ap (λ b. runs.run_of_assignment s (executed_from lines (s.at + 1)) (compiled.slot_in (seen_at lines s.at) v) (operation o (steps.result_of lines s args 0) b (runs.value_of s.values (compiled.or_zero (seen_at lines s.at) (slice_get args 2))))) (sym (argument-is lines s (slice_get args 1)))
    ∙ ap (λ c. runs.run_of_assignment s (executed_from lines (s.at + 1)) (compiled.slot_in (seen_at lines s.at) v) (operation o (steps.result_of lines s args 0) (steps.result_of lines s args 1) c)) (sym (argument-is lines s (slice_get args 2)))
    ∙ assigned-is lines s v (operation o (steps.result_of lines s args 0) (steps.result_of lines s args 1) (steps.result_of lines s args 2))
done-line lines s fuel (line.Read v o) = ap (λ place. (steps.after_move_on lines s, ask.Read place)) (sym (place-name lines s.at o))
done-line lines s fuel (line.Write o a) =
    ap (λ place. (steps.after_move_on lines s, ask.Write place (runs.value_of s.values (compiled.operand_of (seen_at lines s.at) a)))) (sym (place-name lines s.at o))
    ∙ ap (λ value. (steps.after_move_on lines s, ask.Write (steps.place_at lines s.at o) value)) (sym (value-operand lines s.at s.values a))
done-line lines s fuel (line.Push q a) =
    ap (λ place. (steps.after_move_on lines s, ask.Push place (runs.value_of s.values (compiled.operand_of (seen_at lines s.at) a)))) (sym (place-name lines s.at q))
    ∙ ap (λ value. (steps.after_move_on lines s, ask.Push (steps.place_at lines s.at q) value)) (sym (value-operand lines s.at s.values a))
done-line lines s fuel (line.Pop v q) = ap (λ place. (steps.after_move_on lines s, ask.Pop place)) (sym (place-name lines s.at q))
done-line lines s fuel (line.Empty v q) = ap (λ place. (steps.after_move_on lines s, ask.Empty place)) (sym (place-name lines s.at q))
done-line lines s fuel (line.Spawn a task args) =
    spawn-found lines s fuel a (task_index lines task) (task_of_name (tasks_of lines) task) args (begun-named lines task) (task-found lines task)
    ∙ ap (λ value. steps.step_of_spawn lines s (number_of value) (task_index lines task) (zip (takes (lines_of_task lines (task_index lines task))) args)) (sym (value-operand lines s.at s.values a))
done-line lines s fuel (line.Caught v) = number-set lines s v (steps.counted s.caught)
done-line lines s fuel (line.Fuel v) = number-set lines s v (steps.counted fuel)
done-line lines s fuel (line.Fail a) = ap (λ value. (s, ask.Fail (trouble.User (number_of value)))) (sym (value-operand lines s.at s.values a))
done-line lines s fuel (line.If a) =
    ap (λ n. (runs.after_go s (if is_true (Int n) then executed_from lines (s.at + 1) else executed_from lines (exit_at lines s.at).otherwise), ask.Work)) (number-is s.values (compiled.operand_of (seen_at lines s.at) a))
    ∙ ap (λ value. (runs.after_go s (if is_true value then executed_from lines (s.at + 1) else executed_from lines (exit_at lines s.at).otherwise), ask.Work)) (sym (value-operand lines s.at s.values a))
    ∙ branch-is lines s (is_true (steps.value_at lines s.at s.values a)) (executed_from lines (s.at + 1)) (exit_at lines s.at).otherwise
done-line lines s fuel (line.While a) =
    ap (λ n. (runs.after_go s (if is_true (Int n) then executed_from lines (s.at + 1) else executed_from lines (exit_at lines s.at).after), ask.Work)) (number-is s.values (compiled.operand_of (seen_at lines s.at) a))
    ∙ ap (λ value. (runs.after_go s (if is_true value then executed_from lines (s.at + 1) else executed_from lines (exit_at lines s.at).after), ask.Work)) (sym (value-operand lines s.at s.values a))
    ∙ branch-is lines s (is_true (steps.value_at lines s.at s.values a)) (executed_from lines (s.at + 1)) (exit_at lines s.at).after
done-line lines s fuel line.End = end-is lines s fuel (blocks_at lines s.at)
done-line lines s fuel line = refl

-- ---- answers

received-is : (lines : List Line) (s : Standing) (v : List ℕ) (new : Value) → runs.set_by s.values (compiled.slot_in (seen_at lines s.before) v) new ≡ steps.received lines s v new
received-is lines s v new =
    ap (λ value. if is_kind (kind_of value) (kind_of new) then runs.with_slot s.values (slot (steps.names_at lines s.before) v) new else s.values) (sym (value-slot (steps.names_at lines s.before) s.values v))
    ∙ ap (λ values. if is_kind (kind_of (steps.value_named (steps.names_at lines s.before) s.values v)) (kind_of new) then values else s.values) (sym (set-slot (steps.names_at lines s.before) s.values v new))

answered-end : (values : List Value) (block : Option BlockWithLine) (a : Answer) → runs.values_after_answer values (compiled.end_action block) a ≡ values
answered-end values None a = refl
answered-end values (Some block) a = refl

answered-spawn : (lines : List Line) (values : List Value) (scope : Scope) (fuel : Atom) (found : Option Task) (args : List Atom) (a : Answer) → runs.values_after_answer values (compiled.spawn_action lines scope fuel found args) a ≡ values
answered-spawn lines values scope fuel None args a = refl
answered-spawn lines values scope fuel (Some task) args a = refl

answered-line : (lines : List Line) (s : Standing) (line : Line) (a : Answer) → runs.values_after_answer s.values (action_of lines (tasks_of lines) (seen_at lines s.before) (exit_at lines s.before) s.before line) a ≡ steps.received_by lines s (Some line) a
answered-line lines s (line.Read v o) (answer.Item value) = received-is lines s v value
answered-line lines s (line.Read v o) a = refl
answered-line lines s (line.Pop v q) (answer.Item value) = received-is lines s v value
answered-line lines s (line.Pop v q) a = refl
answered-line lines s (line.Empty v q) (answer.Flag is_empty) = received-is lines s v (flag is_empty)
answered-line lines s (line.Empty v q) a = refl
answered-line lines s line.End a = answered-end s.values (innermost (blocks_at lines s.before)) a
answered-line lines s (line.Spawn fuel task args) a = answered-spawn lines s.values (seen_at lines s.before) fuel (task_of_name (tasks_of lines) task) args a
answered-line lines s line a = refl

caught-end : (caught : ℕ) (block : Option BlockWithLine) (a : Answer) → runs.caught_after_answer caught (compiled.end_action block) a ≡ caught
caught-end caught None a = refl
caught-end caught (Some block) a = refl

caught-spawn : (lines : List Line) (caught : ℕ) (scope : Scope) (fuel : Atom) (found : Option Task) (args : List Atom) (a : Answer) → runs.caught_after_answer caught (compiled.spawn_action lines scope fuel found args) a ≡ caught
caught-spawn lines caught scope fuel None args a = refl
caught-spawn lines caught scope fuel (Some task) args a = refl

caught-line : (lines : List Line) (s : Standing) (line : Line) (a : Answer) → runs.caught_after_answer s.caught (action_of lines (tasks_of lines) (seen_at lines s.before) (exit_at lines s.before) s.before line) a ≡ steps.caught_by s.caught (Some line) a
caught-line lines s line.End a = caught-end s.caught (innermost (blocks_at lines s.before)) a
caught-line lines s (line.Spawn fuel task args) a = caught-spawn lines s.caught (seen_at lines s.before) fuel (task_of_name (tasks_of lines) task) args a
caught-line lines s line.Sync (answer.Caught failed) = refl
caught-line lines s line.Sync a = refl
caught-line lines s line a = refl

-- ---- steps

answered-by : (lines : List Line) (s : Standing) (line : Option Line) (a : Answer) → runs.values_after_answer_by s.values (option_map (instruction lines s.before) line) a ≡ steps.received_by lines s line a
answered-by lines s None a = refl
answered-by lines s (Some line) a = answered-line lines s line a

caught-by : (lines : List Line) (s : Standing) (line : Option Line) (a : Answer) → runs.caught_after_answer_by s.caught (option_map (instruction lines s.before) line) a ≡ steps.caught_by s.caught line a
caught-by lines s None a = refl
caught-by lines s (Some line) a = caught-line lines s line a

told-is : (lines : List Line) (s : Standing) (a : Answer) → runs.after_answer_by (program_of lines) s a ≡ steps.after_answer lines s a
told-is lines s a =
    ap₂ (λ values caught. record { before = s.before; at = s.at; values = values; caught = caught })
    (ap (λ i. runs.values_after_answer_by s.values i a) (instruction-at lines s.before) ∙ answered-by lines s (slice_get lines s.before) a)
    (ap (λ i. runs.caught_after_answer_by s.caught i a) (instruction-at lines s.before) ∙ caught-by lines s (slice_get lines s.before) a)

run-is : (lines : List Line) (s : Standing) (fuel : ℕ) (line : Option Line) → runs.run (program_of lines) s fuel (option_map (instruction lines s.at) line) ≡ steps.step_at lines s fuel line
run-is lines s fuel None = refl
run-is lines s fuel (Some line) = done-line lines s fuel line

-- the step of a program is that of its job
pub next-program : (lines : List Line) (s : Standing) (a : Answer) (fuel : ℕ) → runs.next_by (program_of lines) s a fuel ≡ steps.next lines s a fuel
next-program lines s a fuel =
    ap (λ told. runs.run (program_of lines) told fuel (slice_get (program_of lines) s.at)) (told-is lines s a)
    ∙ ap (λ i. runs.run (program_of lines) (steps.after_answer lines s a) fuel i) (instruction-at lines s.at)
    ∙ run-is lines (steps.after_answer lines s a) fuel (slice_get lines s.at)
