-- The run of the conversion: the root reads lines and hands them to block tasks, which spawn a task for each line.
use Rattle.std.proofs.Common.{◌≡◌, ℕ, ◌+◌, ◌-◌, ◌*◌, ◌≤◌, Option, Some, None, List, [], ◌∷◌, ◌++◌, length, map, refl, sym, ap, ◌∙◌, append_assoc, arith, length-append}
use Rattle.std.proofs.lemmas.List.{append-nil, length-map}
use Rattle.std.proofs.lemmas.List.Folds.{flat_map-map}
use Rattle.std.specs.List.{flat_map}
use Rattle.swan_model.specs.declared.body.Answer.{Answer}
use Rattle.swan_model.specs.declared.body.Answer.TheVariants as answer
use Rattle.swan_model.specs.declared.body.Ask.{Ask}
use Rattle.swan_model.specs.declared.body.Ask.TheVariants as ask
use Rattle.swan_model.specs.declared.body.Child.{Child}
use Rattle.swan_model.specs.declared.fault.Fault.{Fault}
use Rattle.swan_model.specs.declared.fault.Trouble.{Trouble}
use Rattle.swan_model.specs.declared.outcome.Outcome.{Outcome}
use Rattle.swan_model.specs.declared.rights.Mode.TheVariants.{Push, Pop}
use Rattle.swan_model.specs.declared.value.Value.{Value}
use Rattle.swan_model.specs.declared.value.Value.TheVariants.{Bytes}
use Rattle.swan_model.specs.Elision.{outcome}
use Rattle.swan_model.specs.Lines.{lines}
use Rattle.swan_model.specs.SerialState.{Holding}
use Rattle.swan_model.specs.Texts.{item_text, line, out_bytes}
use Rattle.swan_model.specs.Values.{bytes_of}
use Rattle.line_blocks.specs.declared.queue_reader.QueueReader.TheVariants as reader
use Rattle.line_blocks.specs.declared.text_roots.TheConstants.{TEXT_MOST}
use Rattle.line_blocks.specs.LineBlocks.{Lines, later}
use Rattle.line_blocks.specs.TextRoots.{text_names}
use Rattle.line_blocks.proofs.Reading.{hands_block, holds_line, lines_after}
use Rattle.whole_runs.specs.Whole.{Contents, RunsWhole}
use Rattle.whole_runs.proofs.BlockReaders.{IsGiven}
use Rattle.whole_runs.proofs.Blocks.{Held, BlockTask, all_book, all_cost, all_do, blocks, cost_of_blocks, faults_of_blocks, runs_blocks, seen_of_blocks}
use Rattle.whole_runs.proofs.Wholes.{ends_so, outcome_is}
use Rattle.whole_runs.proofs.WholeSteps.{fails, finishes, pushes, spawns_child, tests_empty}
use Rattle.record_pipeline.specs.contracts.body.RecordBodyBody.TheImpl.{ghosts}
use Rattle.record_pipeline.specs.declared.body.RecordBody.{RecordBody}
use Rattle.record_pipeline.specs.declared.local.RecordLocal.{RecordLocal}
use Rattle.record_pipeline.specs.declared.local.RecordLocal.TheVariants as local
use Rattle.record_pipeline.specs.Conversion.{faults_from, records_of, width_of}
use Rattle.record_pipeline.specs.Converted.{IsConverted}
use Rattle.record_pipeline.specs.Plans.{record_plan}
use Rattle.record_pipeline.specs.Steps.{block_task, converted, reads}
use Rattle.record_pipeline.proofs.Recording.{block_faults, booked_of, faults_are, line_faults, line_faults-append, one_block, pushed, pushed-append, pushed_of, records_are, trouble}
use Rattle.line_blocks.proofs.TextLines.{few_lines}

-- the input and the output
abbrev shape : List Value → List Value → Contents
shape xs out = record { objects = []; queues = xs ∷ out ∷ [] }

abbrev holds : List Holding
holds = (record { mode = Pop; number = 0 }) ∷ (record { mode = Push; number = 1 }) ∷ []

-- what a task below the root holds
abbrev pushing : List Holding
pushing = (record { mode = Push; number = 1 }) ∷ []

module _ (body : RecordBody) where
  abbrev adds : List Value → Child RecordLocal → List Value
  adds out child = out ++ pushed_by child.local
    where
      pushed_by : RecordLocal → List Value
      pushed_by (local.Lines block) = pushed body.width block.lines
      pushed_by _ = []

  abbrev books : List ℕ → Child RecordLocal → List Fault
  books path child = booked_by child.local
    where
      booked_by : RecordLocal → List Fault
      booked_by (local.Lines block) = block_faults body.width path 0 block.number block.lines
      booked_by _ = []

  -- a line's task
  line_whole : (path : List ℕ) (number : ℕ) (x : Value) (t : Option Trouble) (xs out : List Value) → trouble body.width x ≡ t
      → RunsWhole ghosts body (record { path = path; local = local.Line number x; answer = answer.Start; fuel = 2; holdings = pushing; children = 0; failed = 0 }) (shape xs out) (shape xs (out ++ pushed_of t (bytes_of x))) (booked_of path number t)
  line_whole path number x None xs out is =
      pushes ghosts (omega arith) (ap {B = RecordLocal × Ask RecordLocal} (λ o. (local.Done number, converted o (bytes_of x))) is) refl refl (finishes ghosts (omega arith) refl)
  line_whole path number x (Some t) xs out is =
      ends_so ghosts (ap (shape xs) (sym (append-nil out))) refl
      (fails ghosts (omega arith) (ap {B = RecordLocal × Ask RecordLocal} (λ o. (local.Done number, converted o (bytes_of x))) is))

  -- a block task, from the line on whose task has the number i
  lines_whole : (items : List Value) (b i failed number : ℕ) (told : Answer) (fuel : ℕ) (xs out : List Value) → 3 * length items + 1 ≤ fuel
      → RunsWhole ghosts body (record { path = b ∷ []; local = local.Lines (record { number = number; lines = items }); answer = told; fuel = fuel; holdings = pushing; children = i; failed = failed }) (shape xs out) (shape xs (out ++ pushed body.width items)) (block_faults body.width (b ∷ []) i number items)
  lines_whole [] b i failed number told fuel xs out enough = ends_so ghosts (ap (shape xs) (sym (append-nil out))) refl (finishes ghosts (omega arith) refl)
  lines_whole (x ∷ items) b i failed number told fuel xs out enough =
      let here = pushed_of (trouble body.width x) (bytes_of x) in
      ends_so ghosts (ap (shape xs) (append_assoc out here (pushed body.width items))) refl
      (spawns_child ghosts (omega arith) refl refl refl (omega arith) (omega arith) (line_whole (b ∷ i ∷ []) number x (trouble body.width x) xs out refl)
      (λ last. lines_whole items b (i + 1) last (later number 1) answer.Nothing (fuel - 1 - 2) xs (out ++ here) (omega arith)))

  block_given : (block : Lines) → IsGiven ghosts body [] holds shape adds books (block_task block)
  block_given block = record {
    held = pushing;
    holds = refl;
    lawful = refl;
    whole = λ b xs out. lines_whole block.lines b 0 0 block.number answer.Start (3 * length block.lines + 1) xs out (omega arith);
  }

  -- the root, as a task that reads in blocks
  abbrev kept : Held → Lines
  kept k = lines_after k.before k.held

  abbrev task : BlockTask ghosts body (List Value)
  task = record {
    test = λ k. local.Reads (reader.Tested (kept k));
    take = λ k. local.Reads (reader.Popped (kept k));
    look = λ k. local.Reads (reader.Looks (kept k));
    rest = λ all. local.Ends;
    finale = λ all. (local.Ends, ask.Finish);
    path = [];
    holdings = holds;
    place = 0;
    number = 0;
    size = 64;
    block = λ before items. block_task (lines_after before items);
    shape = shape;
    does = adds;
    books = books;
    held = refl;
    shallow = omega arith;
    stands = λ xs out. refl;
    without = λ x xs out. refl;
    takes = λ k fuel. refl;
    holds = λ k x fuel is. ap reads (holds_line k.before k.held x is);
    hands = λ k x fuel is. ap reads (hands_block k.before k.held x is);
    looks = λ k fuel. refl;
    ends = λ before fuel. refl;
    hands_rest = λ before x xs fuel. refl;
    rests = λ all fuel. refl;
    each = λ before items. block_given (lines_after before items);
  }

  -- ---- from blocks to the text

  abbrev first : Held
  first = record { before = []; held = [] }

  pushed_are : (xs : List Value) → all_do task [] (blocks task first xs) ≡ pushed body.width xs
  pushed_are xs =
      seen_of_blocks task {X = List Value} (λ out. out) (λ out before more. out ++ pushed body.width more) (λ before items out. refl) (λ out before. append-nil out)
      (λ out before more rest. append_assoc out (pushed body.width more) (pushed body.width rest) ∙ ap (λ v. out ++ v) (sym (pushed-append body.width more rest)))
      xs first []

  booked_are : (xs : List Value) → all_book task 0 (blocks task first xs) ≡ line_faults body.width 0 xs
  booked_are xs =
      faults_of_blocks task (λ before more. line_faults body.width (length before) more)
      (λ n before items begins short. one_block body.width items n 0 (length before) (omega (arith, begins)) (omega (arith, short))) (λ before. refl)
      (λ before more rest. ap (λ n. line_faults body.width (length before) more ++ line_faults body.width n rest) (length-append before more) ∙ sym (line_faults-append body.width (length before) more rest))
      xs first 0 (omega arith) (omega arith)

  costs_are : (xs : List Value) → all_cost task (blocks task first xs) ≤ 5 * length xs
  costs_are xs = cost_of_blocks task (λ ys. 5 * length ys) (λ before y ys. omega arith) (λ ys zs. omega (arith, length-append ys zs)) xs first

  -- ---- the root

  root_whole : (xs : List Value) (fuel : ℕ) → 7 * length xs + 2 ≤ fuel
      → RunsWhole ghosts body (record { path = []; local = local.Reads (reader.Looks (kept first)); answer = answer.Start; fuel = fuel; holdings = holds; children = 0; failed = 0 })
      (shape xs []) (shape [] (pushed body.width xs)) (line_faults body.width 0 xs)
  root_whole xs fuel paid =
      let children = blocks task first xs in
      tests_empty ghosts (omega (arith, paid)) refl refl refl
      (ends_so ghosts (ap (shape []) (pushed_are xs)) (append-nil (all_book task 0 children) ∙ booked_are xs)
      (runs_blocks task xs first [] (fuel - 1) 0 0 (shape [] (all_do task [] children)) [] (omega (arith, paid, costs_are xs))
      (λ left same at told failed is. finishes ghosts (omega (arith, same, paid, costs_are xs)) (is (left - 1)))))

pub is_converted : (text : List ℕ) → length text ≤ TEXT_MOST → IsConverted text (outcome ghosts (record_plan text))
is_converted text few =
    let plan = record_plan text in
    let ls = lines text in
    let width = width_of ls in
    let xs = map Bytes ls in
    let records = records_of width ls in
    let many : length xs ≡ length ls = length-map ls Bytes in
    let same : outcome ghosts plan ≡ record { objects = []; queues = [] ∷ map Bytes records ∷ []; faults = faults_from 0 width ls } =
    outcome_is ghosts plan (root_whole plan.body xs plan.fuel (omega (arith, few_lines text, many)))
    ∙ ap {B = Outcome} (λ out. record { objects = []; queues = [] ∷ out ∷ []; faults = line_faults width 0 xs }) (records_are width ls)
    ∙ ap {B = Outcome} (λ fs. record { objects = []; queues = [] ∷ map Bytes records ∷ []; faults = fs }) (faults_are width 0 ls (omega (arith, few, few_lines text))) in
    record {
      outcome_is = same;
      output = ap (out_bytes text_names) same ∙ append-nil (flat_map (λ item. line (item_text item)) (map Bytes records)) ∙ flat_map-map (λ item. line (item_text item)) Bytes records;
    }
