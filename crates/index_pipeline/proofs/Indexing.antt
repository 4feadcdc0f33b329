-- The run of the index: the root reads lines and hands them to block tasks, and at the end spawns the collector.
use Rattle.std.proofs.Common.{◌≡◌, ℕ, ◌+◌, ◌-◌, ◌*◌, ◌≤◌, true, Some, None, List, [], ◌∷◌, ◌++◌, length, map, refl, sym, ap, ◌∙◌, subst, append_assoc, arith, length-append}
use Rattle.std.proofs.lemmas.List.{append-nil, length-map}
use Rattle.std.proofs.lemmas.List.Folds.{flat_map-map}
use Rattle.std.proofs.lemmas.Simd.{map-map}
use Rattle.std.specs.List.{flat_map, fold}
use Rattle.swan_model.specs.declared.body.Answer.TheVariants as answer
use Rattle.swan_model.specs.declared.body.Ask.TheVariants as ask
use Rattle.swan_model.specs.declared.body.Child.{Child}
use Rattle.swan_model.specs.declared.rights.Mode.TheVariants.{Push, Pop}
use Rattle.swan_model.specs.declared.value.Value.{Value}
use Rattle.swan_model.specs.declared.value.Value.TheVariants.{Bytes}
use Rattle.swan_model.specs.declared.outcome.Outcome.{Outcome}
use Rattle.swan_model.specs.Elision.{outcome}
use Rattle.swan_model.specs.Lines.{lines}
use Rattle.swan_model.specs.Texts.{item_text, line, out_bytes}
use Rattle.line_blocks.specs.declared.queue_reader.QueueReader.TheVariants as reader
use Rattle.line_blocks.specs.declared.text_roots.TheConstants.{TEXT_MOST}
use Rattle.line_blocks.specs.LineBlocks.{Lines, byte_count, later}
use Rattle.line_blocks.specs.TextRoots.{text_names}
use Rattle.line_blocks.proofs.Counting.{count-append}
use Rattle.line_blocks.proofs.Reading.{hands_block, holds_line, lines_after, number_after}
use Rattle.whole_runs.specs.Whole.{RunsWhole}
use Rattle.whole_runs.proofs.BlockReaders.{Reader, IsGiven, last, reads_alone, begun, reading}
use Rattle.whole_runs.proofs.Blocks.{Held, BlockTask, runs_blocks, blocks, all_do, all_book, all_cost, seen_of_blocks, cost_of_blocks}
use Rattle.whole_runs.proofs.CollectedParts.{input_and_parts, parts_and_output, held_by_root}
use Rattle.whole_runs.proofs.Pushers.{Pusher, pushes_all}
use Rattle.whole_runs.proofs.Wholes.{ends_so, outcome_is}
use Rattle.whole_runs.proofs.WholeSteps.{tests_empty, finishes, spawns_child, makes_queue}
use Rattle.index_pipeline.specs.contracts.body.IndexBodyBody.TheImpl.{ghosts}
use Rattle.index_pipeline.specs.declared.body.IndexBody.{IndexBody}
use Rattle.index_pipeline.specs.declared.local.IndexLocal.{IndexLocal}
use Rattle.index_pipeline.specs.declared.local.IndexLocal.TheVariants as local
use Rattle.index_pipeline.specs.Index.{pairs_from, set_of}
use Rattle.index_pipeline.specs.Indexed.{IsIndexed}
use Rattle.index_pipeline.specs.Pairs.{Pair, pair_text}
use Rattle.index_pipeline.specs.Plans.{index_plan}
use Rattle.index_pipeline.specs.Steps.{block_task, collector, reads}
use Rattle.index_pipeline.specs.Records.{block_records, record_of, records_from}
use Rattle.index_pipeline.proofs.Collecting.{few_kept, kept_records, kept_with}
use Rattle.index_pipeline.proofs.Recording.{few_records, pairs_are_told, records-append, records_are}
use Rattle.line_blocks.proofs.TextLines.{few_bytes, few_lines}

module _ (body : IndexBody) where
  abbrev words_pusher : Pusher ghosts body
  words_pusher = record { left = local.Words; end = local.Ends; place = 0; more = λ x xs fuel. refl; ends = λ fuel. refl }

  abbrev pairs_pusher : Pusher ghosts body
  pairs_pusher = record { left = local.Prints; end = local.Ends; place = 1; more = λ x xs fuel. refl; ends = λ fuel. refl }

  -- what a block adds to the words
  abbrev adds : List Value → Child IndexLocal → List Value
  adds ws child = ws ++ pushed_by child.local
    where
      pushed_by : IndexLocal → List Value
      pushed_by (local.Words items) = items
      pushed_by _ = []

  -- a block task
  block_given : (block : Lines) → IsGiven ghosts body [] held_by_root input_and_parts adds (λ path child. []) (block_task block)
  block_given block = record {
    held = (record { mode = Push; number = 2 }) ∷ [];
    holds = refl;
    lawful = refl;
    whole = λ kid xs ws.
        pushes_all words_pusher (block_records block) ws (kid ∷ []) (local.Words (block_records block)) answer.Start (2 * byte_count block.lines + 2) 0 0 2 ((record { mode = Push; number = 2 }) ∷ []) (input_and_parts xs ws)
        refl (omega (arith, few_records block.number block.lines)) refl refl;
  }

  -- the root, as a task that reads in blocks
  abbrev kept : Held → Lines
  kept k = lines_after k.before k.held

  abbrev task : BlockTask ghosts body (List Value)
  task = record {
    test = λ k. local.Reads (reader.Tested (kept k));
    take = λ k. local.Reads (reader.Popped (kept k));
    look = λ k. local.Reads (reader.Looks (kept k));
    rest = λ all. local.SpawnsCollector;
    finale = λ all. (local.Ends, ask.Spawn (collector body));
    path = [];
    holdings = held_by_root;
    place = 0;
    number = 0;
    size = 64;
    block = λ before items. block_task (lines_after before items);
    shape = input_and_parts;
    does = adds;
    books = λ path child. [];
    held = refl;
    shallow = omega arith;
    stands = λ xs w. refl;
    without = λ x xs w. refl;
    takes = λ k fuel. refl;
    holds = λ k x fuel is. ap (reads body) (holds_line k.before k.held x is);
    hands = λ k x fuel is. ap (reads body) (hands_block k.before k.held x is);
    looks = λ k fuel. refl;
    ends = λ before fuel. refl;
    hands_rest = λ before x xs fuel. refl;
    rests = λ all fuel. refl;
    each = λ before items. block_given (lines_after before items);
  }

  abbrev first : Held
  first = record { before = []; held = [] }

  -- what all blocks do, and cost
  words_are : (xs : List Value) → all_do task [] (blocks task first xs) ≡ records_from 1 xs
  words_are xs =
      seen_of_blocks task {X = List Value} (λ ws. ws) (λ ws before more. ws ++ records_from (later 1 (length before)) more) (λ before items ws. refl) (λ ws before. append-nil ws)
      (λ ws before more rest. append_assoc ws (records_from (later 1 (length before)) more) (records_from (later 1 (length (before ++ more))) rest)
      ∙ ap (λ v. ws ++ v) (ap (λ n. records_from (later 1 (length before)) more ++ records_from n rest) (sym (number_after before more)) ∙ sym (records-append (later 1 (length before)) more rest (omega arith))))
      xs first []

  costs_are : (xs : List Value) → all_cost task (blocks task first xs) ≤ 2 * byte_count xs + 3 * length xs
  costs_are xs =
      cost_of_blocks task (λ ys. 2 * byte_count ys + 3 * length ys) (λ before y ys. omega arith) (λ ys zs. omega (arith, length-append ys zs, count-append ys zs))
      xs first

  no_faults : (children : List (Child IndexLocal)) (n : ℕ) → all_book task n children ≡ []
  no_faults [] n = refl
  no_faults (child ∷ rest) n = no_faults rest (n + 1)

  -- the collector
  hands_nothing : {X : Type 0} {child : Child IndexLocal} → None ≡ Some child → X
  hands_nothing is = absurd (cc)

  abbrev collecting : ℕ → Reader ghosts body (List Pair) (List Value)
  collecting n = record {
    test = λ got. local.Collects (reader.Tested got);
    take = λ got. local.Collects (reader.Popped got);
    look = λ got. local.Collects (reader.Looks got);
    path = n ∷ [];
    holdings = (record { mode = Pop; number = 2 }) ∷ (record { mode = Push; number = 1 }) ∷ [];
    place = 0;
    number = 2;
    keeps = kept_with;
    gives = λ got x. None;
    shape = parts_and_output;
    does = λ out child. out;
    books = λ path child. [];
    held = refl;
    shallow = omega arith;
    stands = λ xs w. refl;
    without = λ x xs w. refl;
    takes = λ got fuel. refl;
    goes_on = λ got x fuel is. refl;
    hands = λ got x child fuel is. hands_nothing is;
    looks = λ got fuel. refl;
    each = λ got x child is. hands_nothing is;
  }

  got_all : (n : ℕ) (ws : List Value) (got : List Pair) → last (collecting n) got ws ≡ fold kept_with got ws
  got_all n [] got = refl
  got_all n (w ∷ ws) got = got_all n ws (kept_with got w)

  abbrev collected : List Value → List Value
  collected ws = map record_of (fold kept_with [] ws)

  collector_whole : (n : ℕ) (ws : List Value) → 3 * length ws + 3 ≤ body.collector_fuel
      → RunsWhole ghosts body (begun (n ∷ []) (collector body) (collecting n).holdings) (parts_and_output ws []) (parts_and_output [] (collected ws)) []
  collector_whole n ws enough =
      let pairs = fold kept_with [] ws in
      tests_empty ghosts (omega arith) refl refl refl
      (reads_alone (collecting n) (λ got x. refl) ws [] [] (body.collector_fuel - 1) 0 0 (parts_and_output [] (collected ws)) [] (omega arith)
      (λ left kids failed same.
      subst (λ got. RunsWhole ghosts body (reading (collecting n) (local.Collects (reader.Tested got)) (answer.Flag true) left kids failed) (parts_and_output [] []) (parts_and_output [] (collected ws)) []) (sym (got_all n ws []))
      (pushes_all pairs_pusher (collected ws) [] (n ∷ []) (local.Collects (reader.Tested pairs)) (answer.Flag true) left kids failed 1 (collecting n).holdings (parts_and_output [] []) refl
      (omega (arith, same, length-map pairs record_of, few_kept ws [])) refl refl)))

  -- ---- the root

  indexed : (xs : List Value) (fuel : ℕ) → 3 * byte_count xs + 3 ≤ body.collector_fuel → 4 + 5 * length xs + 2 * byte_count xs + body.collector_fuel ≤ fuel
      → RunsWhole ghosts body (record { path = []; local = local.Begins; answer = answer.Start; fuel = fuel; holdings = (record { mode = Pop; number = 0 }) ∷ (record { mode = Push; number = 1 }) ∷ []; children = 0; failed = 0 })
      (record { objects = []; queues = xs ∷ [] ∷ [] }) (parts_and_output [] (collected (records_from 1 xs))) []
  indexed xs fuel enough paid =
      let children = blocks task first xs in
      let left_of = parts_and_output [] (collected (records_from 1 xs)) in
      makes_queue ghosts (omega (arith, paid)) refl
      (tests_empty ghosts (omega (arith, paid)) refl refl refl
      (ends_so ghosts refl (ap (λ fs. fs ++ []) (no_faults children 0))
      (runs_blocks task xs first [] (fuel - 1 - 1) 0 0 left_of [] (omega (arith, paid, costs_are xs))
      (λ left same local told failed is.
      spawns_child ghosts (omega (arith, same, paid, costs_are xs)) (is (left - 1)) refl refl (omega arith) (omega (arith, same, paid, costs_are xs))
      (subst (λ ws. RunsWhole ghosts body (begun ((0 + length children) ∷ []) (collector body) (collecting (0 + length children)).holdings) (parts_and_output ws []) left_of []) (sym (words_are xs))
      (collector_whole (0 + length children) (records_from 1 xs) (omega (arith, enough, few_records 1 xs))))
      (λ last. finishes ghosts (omega (arith, same, paid, costs_are xs)) refl)))))

outcome_of_index : (text : List ℕ) → length text ≤ TEXT_MOST → outcome ghosts (index_plan text) ≡ record { objects = []; queues = [] ∷ map record_of (set_of (pairs_from 1 (lines text))) ∷ []; faults = [] }
outcome_of_index text few =
    let plan = index_plan text in
    let ls = lines text in
    let xs = map Bytes ls in
    let many : length xs ≡ length ls = length-map ls Bytes in
    let pairs = pairs_from 1 ls in
    outcome_is ghosts plan (indexed plan.body xs plan.fuel (omega (arith, few_bytes text)) (omega (arith, few_bytes text, few_lines text, many)))
    ∙ ap {B = Outcome} (λ ws. record { objects = []; queues = [] ∷ map record_of (fold kept_with [] ws) ∷ []; faults = [] }) (records_are 1 ls (omega (arith, few, few_lines text)))
    ∙ ap {B = Outcome} (λ ps. record { objects = []; queues = [] ∷ map record_of ps ∷ []; faults = [] }) (kept_records pairs [] (pairs_are_told 1 ls (omega (arith, few, few_lines text))))

pub is_indexed : (text : List ℕ) → length text ≤ TEXT_MOST → IsIndexed text (outcome ghosts (index_plan text))
is_indexed text few =
    let pairs = set_of (pairs_from 1 (lines text)) in
    let records = map pair_text pairs in
    let same : outcome ghosts (index_plan text) ≡ record { objects = []; queues = [] ∷ map Bytes records ∷ []; faults = [] } =
    outcome_of_index text few ∙ ap {B = Outcome} (λ items. record { objects = []; queues = [] ∷ items ∷ []; faults = [] }) (sym (map-map Bytes pair_text pairs)) in
    record {
      outcome_is = same;
      output = ap (out_bytes text_names) same ∙ append-nil (flat_map (λ item. line (item_text item)) (map Bytes records)) ∙ flat_map-map (λ item. line (item_text item)) Bytes records;
    }
