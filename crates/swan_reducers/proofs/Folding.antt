-- The run of a fold: the root reads lines and hands them to block tasks, each of which pushes the fold of its lines and
-- may end by the fault of its first bad line; and at the end the root spawns the collector.
use Rattle.std.proofs.Common.{◌≡◌, ℕ, suc, ◌+◌, ◌-◌, ◌*◌, ◌/◌, ◌^◌, ◌≤◌, ◌<◌, Bool, true, false, cond, nat_eq, Option, Some, None, List, [], ◌∷◌, ◌++◌, length, map, refl, sym, ap, ◌∙◌, subst, arith, rules, tests, length-append}
use Rattle.std.proofs.lemmas.List.{append-nil, length-map, map-append}
use Rattle.std.specs.Prelude.{Result, Ok, Err}
use Rattle.swan_model.specs.declared.body.Answer.TheVariants as answer
use Rattle.swan_model.specs.declared.body.Ask.{Ask}
use Rattle.swan_model.specs.declared.body.Ask.TheVariants as ask
use Rattle.swan_model.specs.declared.body.Body as body_trait
use Rattle.swan_model.specs.declared.body.Child.{Child}
use Rattle.swan_model.specs.declared.fault.Fault.{Fault}
use Rattle.swan_model.specs.declared.fault.Trouble.{Trouble}
use Rattle.swan_model.specs.declared.lines.TheConstants.{LINES_MOST}
use Rattle.swan_model.specs.declared.rights.Mode.TheVariants.{Push, Pop}
use Rattle.swan_model.specs.declared.value.Value.{Value}
use Rattle.swan_model.specs.declared.value.Value.TheVariants.{Bytes}
use Rattle.swan_model.specs.Elision.{outcome}
use Rattle.swan_model.specs.Lines.{lines, refusal_of}
use Rattle.swan_model.specs.SerialState.{Holding}
use Rattle.swan_model.specs.Texts.{line, out_bytes}
use Rattle.line_blocks.specs.declared.queue_reader.QueueReader.TheVariants as reader
use Rattle.line_blocks.specs.LineBlocks.{Lines, later}
use Rattle.line_blocks.specs.TextRoots.{text_names}
use Rattle.swan_model.proofs.FewLines.{few_lines}
use Rattle.swan_model.specs.Values.{bytes_of}
use Rattle.line_blocks.proofs.Reading.{hands_block, holds_line, lines_after}
use Rattle.whole_runs.specs.Whole.{RunsWhole}
use Rattle.whole_runs.proofs.BlockReaders.{Reader, IsGiven, begun, last, reading, reads_alone}
use Rattle.whole_runs.proofs.Blocks.{Held, BlockTask, all_book, all_cost, all_do, blocks, cost_of_blocks, given_if, kept_if, runs_blocks, seen_of_blocks, with_block}
use Rattle.whole_runs.proofs.CollectedParts.{input_and_parts, parts_and_output, held_by_root}
use Rattle.whole_runs.proofs.Wholes.{ends_so, outcome_is}
use Rattle.whole_runs.proofs.WholeSteps.{fails, finishes, makes_queue, pushes, spawns_child, tests_empty}
use Rattle.swan_reducers.specs.declared.body.FoldBody.{FoldBody}
use Rattle.swan_reducers.specs.declared.local.FoldLocal.{FoldLocal}
use Rattle.swan_reducers.specs.declared.local.FoldLocal.TheVariants as local
use Rattle.swan_reducers.specs.declared.reducer.Reducer.{Ghosts}
use Rattle.swan_reducers.specs.Fold.{bad_blocks, bad_line, first_bad, fold_of, in_blocks, joined_from}
use Rattle.swan_reducers.specs.LineFolds.{bad_number, unless_part}
use Rattle.swan_reducers.specs.Folded.{IsFolded, end_faults, end_records, end_text, folded}
use Rattle.swan_reducers.specs.Plans.{fold_plan}
use Rattle.swan_reducers.specs.Steps.{as_part, block_task, collector, item_part, next, place_of, pushed_end, reads}
use Rattle.swan_reducers.proofs.Joining.{as_part-is, items_are_parts, joined_is_part, join_joined, joined_from-append, parts_are_parts}

-- what is written of an outcome with this end
written : (end : Result (List ℕ) Trouble) (faults : List Fault) → out_bytes text_names (record { objects = []; queues = [] ∷ end_records end ∷ []; faults = faults }) ≡ end_text end
written (Ok item) faults = append-nil (line item ++ []) ∙ append-nil (line item)
written (Err trouble) faults = refl

-- what a block task holds
abbrev pushing : List Holding
pushing = (record { mode = Push; number = 2 }) ∷ []

abbrev kept : Held → Lines
kept k = lines_after k.before k.held

abbrev first : Held
first = record { before = []; held = [] }

bytes_are : (ls : List (List ℕ)) → map bytes_of (map Bytes ls) ≡ ls
bytes_are [] = refl
bytes_are (line ∷ ls) = ap (λ rest. line ∷ rest) (bytes_are ls)

-- the blocks of lines that begin with these held lines and this one
abbrev cut_if : Bool → Held → Value → List Value → List (List (List ℕ))
cut_if full k x xs =
    cond full ((map bytes_of k.held ++ bytes_of x ∷ []) ∷ in_blocks [] (map bytes_of xs)) (in_blocks (map bytes_of k.held ++ bytes_of x ∷ []) (map bytes_of xs))

-- lines are as few blocks as the plan counts
few_blocks : (xs before : List (List ℕ)) → length before < 64 → 64 * length (in_blocks before xs) ≤ length before + length xs + 63
few_blocks [] [] short = omega arith
few_blocks [] (y ∷ ys) short = omega arith
few_blocks (x ∷ xs) before short = by_case (nat_eq (length before + 1) 64) refl (few_blocks xs)
  where
    by_case : (full : Bool) → nat_eq (length before + 1) 64 ≡ full
        → ((now : List (List ℕ)) → length now < 64 → 64 * length (in_blocks now xs) ≤ length now + length xs + 63)
        → 64 * length (cond full ((before ++ x ∷ []) ∷ in_blocks [] xs) (in_blocks (before ++ x ∷ []) xs)) ≤ length before + length (x ∷ xs) + 63
    by_case true is rest = let all : length before + 1 ≡ 64 = search (rules, tests) in omega (arith, all, rest [] (omega arith))
    by_case false is rest =
        let differ : (length before + 1 ≡ 64) → ⊥ = search (rules, tests) in
        let longer = length-append before (x ∷ []) in
        omega (arith, longer, rest (before ++ x ∷ []) (omega (arith, longer, differ, short)))

hands_nothing : {X : Type 0} {child : Child FoldLocal} → None ≡ Some child → X
hands_nothing is = absurd (cc)

module _ {R : Type 0} (g : Ghosts R) where
  abbrev pub G : body_trait.Ghosts (FoldBody R) FoldLocal
  G = record { next = next g; place_of = place_of g }

  module _ (body : FoldBody R) where
    -- the fold of a block, and its first bad line
    abbrev part : Lines → List ℕ
    part block = fold_of g body.reducer (map bytes_of block.lines)

    abbrev bad : Lines → Option ℕ
    bad block = bad_number (g.part_of body.reducer) block.number (map bytes_of block.lines)

    abbrev adds : List Value → Child FoldLocal → List Value
    adds parts child = parts ++ pushed_by child.local
      where
        pushed_by : FoldLocal → List Value
        pushed_by (local.Lines block) = Bytes (part block) ∷ []
        pushed_by _ = []

    abbrev books : List ℕ → Child FoldLocal → List Fault
    books path child = booked_by child.local
      where
        booked_by : FoldLocal → List Fault
        booked_by (local.Lines block) = bad_line path (bad block)
        booked_by _ = []

    after_part : (at : Option ℕ) (path : List ℕ) (xs parts : List Value) → RunsWhole G body (record { path = path; local = local.Told at; answer = answer.Nothing; fuel = 2 - 1; holdings = pushing; children = 0; failed = 0 }) (input_and_parts xs parts) (input_and_parts xs parts) (bad_line path at)
    after_part None path xs parts = finishes G (omega arith) refl
    after_part (Some n) path xs parts = fails G (omega arith) refl

    block_given : (block : Lines) → IsGiven G body [] held_by_root input_and_parts adds books (block_task block)
    block_given block = record {
      held = pushing;
      holds = refl;
      lawful = refl;
      whole = λ n xs parts. pushes G (omega arith) refl refl refl (after_part (bad block) (n ∷ []) xs (parts ++ Bytes (part block) ∷ []));
    }

    -- the root, as a task that reads in blocks
    abbrev task : BlockTask G body (List Value)
    task = record {
      test = λ k. local.Reads (reader.Tested (kept k));
      take = λ k. local.Reads (reader.Popped (kept k));
      look = λ k. local.Reads (reader.Looks (kept k));
      rest = λ all. local.SpawnsCollector;
      finale = λ all. (local.Ends, ask.Spawn (collector g body));
      path = [];
      holdings = held_by_root;
      place = 0;
      number = 0;
      size = 64;
      block = λ before items. block_task (lines_after before items);
      shape = input_and_parts;
      does = adds;
      books = books;
      held = refl;
      shallow = omega arith;
      stands = λ xs w. refl;
      without = λ x xs w. refl;
      takes = λ k fuel. refl;
      holds = λ k x fuel is. ap (reads g body) (holds_line k.before k.held x is);
      hands = λ k x fuel is. ap (reads g body) (hands_block k.before k.held x is);
      looks = λ k fuel. refl;
      ends = λ before fuel. refl;
      hands_rest = λ before x xs fuel. refl;
      rests = λ all fuel. refl;
      each = λ before items. block_given (lines_after before items);
    }

    -- ---- what all blocks push

    -- what the collector makes of items, from what it has
    abbrev collected : List ℕ → List Value → List ℕ
    collected v [] = v
    collected v (item ∷ items) = collected (g.joined body.reducer (as_part g body.reducer v) (item_part g body.reducer item)) items

    collected-more : (v : List ℕ) (items : List Value) (item : Value) → collected v (items ++ item ∷ []) ≡ g.joined body.reducer (as_part g body.reducer (collected v items)) (item_part g body.reducer item)
    collected-more v [] item = refl
    collected-more v (x ∷ items) item = collected-more (g.joined body.reducer (as_part g body.reducer v) (item_part g body.reducer x)) items item

    collected_is_part : (v : List ℕ) (items : List Value) → g.is_part body.reducer v ≡ true → g.is_part body.reducer (collected v items) ≡ true
    collected_is_part v [] is = is
    collected_is_part v (x ∷ items) is =
        collected_is_part (g.joined body.reducer (as_part g body.reducer v) (item_part g body.reducer x)) items
        ((g.laws body.reducer).joins_are_parts _ _ (parts_are_parts g body.reducer v) (items_are_parts g body.reducer x))

    one_more_block : (items parts : List Value) → let zero = g.zero_part body.reducer in
        collected zero (parts ++ Bytes (fold_of g body.reducer (map bytes_of items)) ∷ []) ≡ joined_from g body.reducer (collected zero parts) (map bytes_of items)
    one_more_block items parts =
        let r = body.reducer in
        let laws = g.laws r in
        let zero = g.zero_part r in
        let so_far = collected zero parts in
        let ls = map bytes_of items in
        let is : g.is_part r so_far ≡ true = collected_is_part zero parts laws.zero_is_part in
        collected-more zero parts (Bytes (fold_of g r ls))
        ∙ ap (λ v. g.joined r v (as_part g r (fold_of g r ls))) (as_part-is g r so_far is)
        ∙ ap (g.joined r so_far) (as_part-is g r (fold_of g r ls) (joined_is_part g r zero ls laws.zero_is_part))
        ∙ join_joined g r so_far zero ls is laws.zero_is_part
        ∙ ap (λ v. joined_from g r v ls) (laws.zero_after so_far is)

    all_collected : (xs : List Value) → collected (g.zero_part body.reducer) (all_do task [] (blocks task first xs)) ≡ fold_of g body.reducer (map bytes_of xs)
    all_collected xs =
        seen_of_blocks task {X = List ℕ} (collected (g.zero_part body.reducer)) (λ v before more. joined_from g body.reducer v (map bytes_of more))
        (λ before items parts. one_more_block items parts) (λ v before. refl)
        (λ v before more rest. joined_from-append g body.reducer v (map bytes_of more) (map bytes_of rest) ∙ ap (joined_from g body.reducer v) (sym (map-append bytes_of more rest)))
        xs first []

    -- ---- which faults they book

    numbers_are : (ls : List (List ℕ)) (n : ℕ) → n + length ls < 2 ^ 64 → bad_number (g.part_of body.reducer) n ls ≡ first_bad g body.reducer n ls
    numbers_are [] n few = refl
    numbers_are (line ∷ ls) n few =
        ap (λ m. unless_part (g.part_of body.reducer line) n (bad_number (g.part_of body.reducer) m ls)) (let e : later n 1 ≡ n + 1 = omega arith in e)
        ∙ ap (unless_part (g.part_of body.reducer line) n) (numbers_are ls (n + 1) (omega arith))

    booked_is : (before items : List Value) (child : ℕ) → length before + length items + 1 < 2 ^ 64
        → books (child ∷ []) (block_task (lines_after before items)) ≡ bad_line (child ∷ []) (first_bad g body.reducer (length before + 1) (map bytes_of items))
    booked_is before items child few =
        let ls = map bytes_of items in
        ap (λ n. bad_line (child ∷ []) (bad_number (g.part_of body.reducer) n ls)) (let e : later 1 (length before) ≡ length before + 1 = omega arith in e)
        ∙ ap (bad_line (child ∷ [])) (numbers_are ls (length before + 1) (omega (arith, length-map items bytes_of)))

    booked_are : (xs : List Value) (k : Held) (child : ℕ) → length k.before + length k.held + length xs + 1 < 2 ^ 64
        → all_book task child (blocks task k xs) ≡ bad_blocks g body.reducer child (length k.before) (in_blocks (map bytes_of k.held) (map bytes_of xs))
    booked_are [] k child few = last_one k.held (omega arith)
      where
        last_one : (items : List Value) → length k.before + length items + 1 < 2 ^ 64 → all_book task child (blocks task (record { before = k.before; held = items }) []) ≡ bad_blocks g body.reducer child (length k.before) (in_blocks (map bytes_of items) [])
        last_one [] few = refl
        last_one (x ∷ items) few = ap (λ fs. fs ++ []) (booked_is k.before (x ∷ items) child few)
    booked_are (x ∷ xs) k child few =
        by_case (nat_eq (length k.held + 1) 64) (booked_are xs)
        ∙ ap (λ n. bad_blocks g body.reducer child (length k.before) (cut_if (nat_eq (n + 1) 64) k x xs)) (sym (length-map k.held bytes_of))
      where
        items : List Value
        items = k.held ++ x ∷ []

        by_case : (full : Bool)
            → ((now : Held) (m : ℕ) → length now.before + length now.held + length xs + 1 < 2 ^ 64 → all_book task m (blocks task now xs) ≡ bad_blocks g body.reducer m (length now.before) (in_blocks (map bytes_of now.held) (map bytes_of xs)))
            → all_book task child (with_block task (given_if task full k x) (blocks task (kept_if task full k x) xs)) ≡ bad_blocks g body.reducer child (length k.before) (cut_if full k x xs)
        by_case true rest =
            let now : Held = record { before = k.before ++ (k.held ++ x ∷ []); held = [] } in
            let texts = map-append bytes_of k.held (x ∷ []) in
            let ls = map bytes_of k.held ++ bytes_of x ∷ [] in
            let longer = length-append k.held (x ∷ []) in
            let all : length (k.before ++ (k.held ++ x ∷ [])) ≡ length k.before + length ls = omega (arith, length-append k.before (k.held ++ x ∷ []), ap length texts, length-map (k.held ++ x ∷ []) bytes_of) in
            ap (λ fs. fs ++ all_book task (child + 1) (blocks task now xs))
            (booked_is k.before (k.held ++ x ∷ []) child (omega (arith, longer, few)) ∙ ap (λ v. bad_line (child ∷ []) (first_bad g body.reducer (length k.before + 1) v)) texts)
            ∙ ap (λ fs. bad_line (child ∷ []) (first_bad g body.reducer (length k.before + 1) ls) ++ fs)
            (rest now (child + 1) (omega (arith, length-append k.before (k.held ++ x ∷ []), longer, few)) ∙ ap (λ n. bad_blocks g body.reducer (child + 1) n (in_blocks [] (map bytes_of xs))) all)
        by_case false rest =
            rest (record { before = k.before; held = k.held ++ x ∷ [] }) child (omega (arith, length-append k.held (x ∷ []), few))
            ∙ ap (λ v. bad_blocks g body.reducer child (length k.before) (in_blocks v (map bytes_of xs))) (map-append bytes_of k.held (x ∷ []))

    -- there are as many tasks as blocks
    as_many : (xs : List Value) (k : Held) → length (blocks task k xs) ≡ length (in_blocks (map bytes_of k.held) (map bytes_of xs))
    as_many [] k = last_one k.held
      where
        last_one : (items : List Value) → length (blocks task (record { before = k.before; held = items }) []) ≡ length (in_blocks (map bytes_of items) [])
        last_one [] = refl
        last_one (x ∷ items) = refl
    as_many (x ∷ xs) k =
        by_case (nat_eq (length k.held + 1) 64) (as_many xs) ∙ ap (λ n. length (cut_if (nat_eq (n + 1) 64) k x xs)) (sym (length-map k.held bytes_of))
      where
        by_case : (full : Bool) → ((now : Held) → length (blocks task now xs) ≡ length (in_blocks (map bytes_of now.held) (map bytes_of xs)))
            → length (with_block task (given_if task full k x) (blocks task (kept_if task full k x) xs)) ≡ length (cut_if full k x xs)
        by_case true rest = ap suc (rest (record { before = k.before ++ (k.held ++ x ∷ []); held = [] }))
        by_case false rest = rest (record { before = k.before; held = k.held ++ x ∷ [] }) ∙ ap (λ v. length (in_blocks v (map bytes_of xs))) (map-append bytes_of k.held (x ∷ []))

    -- ---- the collector

    abbrev collecting : ℕ → Reader G body (List ℕ) (List Value)
    collecting n = record {
      test = λ v. local.Collects (reader.Tested v);
      take = λ v. local.Collects (reader.Popped v);
      look = λ v. local.Collects (reader.Looks v);
      path = n ∷ [];
      holdings = (record { mode = Pop; number = 2 }) ∷ (record { mode = Push; number = 1 }) ∷ [];
      place = 0;
      number = 2;
      keeps = λ v item. g.joined body.reducer (as_part g body.reducer v) (item_part g body.reducer item);
      gives = λ v item. None;
      shape = parts_and_output;
      does = λ out child. out;
      books = λ path child. [];
      held = refl;
      shallow = omega arith;
      stands = λ xs w. refl;
      without = λ x xs w. refl;
      takes = λ v fuel. refl;
      goes_on = λ v item fuel is. refl;
      hands = λ v item child fuel is. hands_nothing is;
      looks = λ v fuel. refl;
      each = λ v item child is. hands_nothing is;
    }

    got_all : (n : ℕ) (items : List Value) (v : List ℕ) → last (collecting n) v items ≡ collected v items
    got_all n [] v = refl
    got_all n (item ∷ items) v = got_all n items (g.joined body.reducer (as_part g body.reducer v) (item_part g body.reducer item))

    whole_end : (v : List ℕ) (end : Result (List ℕ) Trouble) → g.end_of body.reducer (as_part g body.reducer v) ≡ end → (n fuel kids failed : ℕ) → 2 ≤ fuel
        → RunsWhole G body (reading (collecting n) (local.Collects (reader.Tested v)) (answer.Flag true) fuel kids failed) (parts_and_output [] []) (parts_and_output [] (end_records end)) (end_faults n end)
    whole_end v (Ok r) is n fuel kids failed enough =
        pushes G (omega arith) (ap {B = FoldLocal × Ask FoldLocal} (λ e. (local.Ends, pushed_end e)) is) refl refl (finishes G (omega arith) refl)
    whole_end v (Err trouble) is n fuel kids failed enough =
        fails G (omega arith) (ap {B = FoldLocal × Ask FoldLocal} (λ e. (local.Ends, pushed_end e)) is)

    collector_whole : (n : ℕ) (parts : List Value) (v : List ℕ) → collected (g.zero_part body.reducer) parts ≡ v → g.is_part body.reducer v ≡ true → 2 * length parts + 3 ≤ body.collector_fuel
        → RunsWhole G body (begun (n ∷ []) (collector g body) (collecting n).holdings) (parts_and_output parts []) (parts_and_output [] (end_records (g.end_of body.reducer v))) (end_faults n (g.end_of body.reducer v))
    collector_whole n parts v is part_is enough =
        let zero = g.zero_part body.reducer in
        let end = g.end_of body.reducer v in
        tests_empty G (omega arith) refl refl refl
        (reads_alone (collecting n) (λ got x. refl) parts zero [] (body.collector_fuel - 1) 0 0 (parts_and_output [] (end_records end)) (end_faults n end) (omega arith)
        (λ left kids failed same.
        subst (λ got. RunsWhole G body (reading (collecting n) (local.Collects (reader.Tested got)) (answer.Flag true) left kids failed) (parts_and_output [] []) (parts_and_output [] (end_records end)) (end_faults n end)) (sym (got_all n parts zero ∙ is))
        (whole_end v end (ap (g.end_of body.reducer) (as_part-is g body.reducer v part_is)) n left kids failed (omega (arith, same)))))

    -- ---- how many blocks there are

    number_done : (children : List (Child FoldLocal)) (parts : List Value) → length (all_do task parts children) ≤ length parts + length children
    number_done [] parts = omega arith
    number_done (child ∷ rest) parts = omega (arith, number_done rest (adds parts child), at_most_one child.local)
      where
        at_most_one : (at : FoldLocal) → length (adds parts (record child { local = at })) ≤ length parts + 1
        at_most_one (local.Lines block) = omega (arith, length-append parts (Bytes (part block) ∷ []))
        at_most_one local.Begins = omega (arith, length-append parts [])
        at_most_one (local.Reads k) = omega (arith, length-append parts [])
        at_most_one local.SpawnsCollector = omega (arith, length-append parts [])
        at_most_one (local.Told n) = omega (arith, length-append parts [])
        at_most_one (local.Collects k) = omega (arith, length-append parts [])
        at_most_one local.Ends = omega (arith, length-append parts [])

    costs_are : (xs : List Value) → all_cost task (blocks task first xs) ≤ 3 * length xs
    costs_are xs = cost_of_blocks task (λ ys. 3 * length ys) (λ before y ys. omega arith) (λ ys zs. omega (arith, length-append ys zs)) xs first

    -- ---- the root

    -- what the root leaves of lines
    abbrev end_is : List Value → Result (List ℕ) Trouble
    end_is xs = g.end_of body.reducer (fold_of g body.reducer (map bytes_of xs))

    abbrev faults_are : List Value → List Fault
    faults_are xs = bad_blocks g body.reducer 0 0 (in_blocks [] (map bytes_of xs)) ++ end_faults (length (in_blocks [] (map bytes_of xs))) (end_is xs)

    root_whole : (xs : List Value) (fuel : ℕ) → length xs + 1 < 2 ^ 64 → 2 * ((length xs + 63) / 64) + 3 ≤ body.collector_fuel → 4 + 5 * length xs + body.collector_fuel ≤ fuel
        → RunsWhole G body (record { path = []; local = local.Begins; answer = answer.Start; fuel = fuel; holdings = (record { mode = Pop; number = 0 }) ∷ (record { mode = Push; number = 1 }) ∷ []; children = 0; failed = 0 })
        (record { objects = []; queues = xs ∷ [] ∷ [] }) (parts_and_output [] (end_records (end_is xs))) (faults_are xs)
    root_whole xs fuel few enough paid =
        let children = blocks task first xs in
        let parts = all_do task [] children in
        let end = end_is xs in
        let cut = in_blocks [] (map bytes_of xs) in
        let many : length children ≡ length cut = as_many xs first in
        let blocks_are : 64 * length cut ≤ length xs + 63 = omega (arith, few_blocks (map bytes_of xs) [] (omega arith), length-map xs bytes_of) in
        let feeds : 2 * length parts + 3 ≤ body.collector_fuel = omega (arith, number_done children [], many, blocks_are, enough) in
        let booked : all_book task 0 children ≡ bad_blocks g body.reducer 0 0 cut = booked_are xs first 0 (omega (arith, few)) in
        let total_is : g.is_part body.reducer (fold_of g body.reducer (map bytes_of xs)) ≡ true = joined_is_part g body.reducer (g.zero_part body.reducer) (map bytes_of xs) (g.laws body.reducer).zero_is_part in
        makes_queue G (omega (arith, paid)) refl
        (tests_empty G (omega (arith, paid)) refl refl refl
        (ends_so G refl (ap (λ fs. fs ++ end_faults (length children) end) booked ∙ ap (λ n. bad_blocks g body.reducer 0 0 cut ++ end_faults n end) many)
        (runs_blocks task xs first [] (fuel - 1 - 1) 0 0 (parts_and_output [] (end_records end)) (end_faults (length children) end) (omega (arith, paid, costs_are xs))
        (λ left same at told failed is.
        ends_so G refl (append-nil (end_faults (0 + length children) end) ∙ ap (λ n. end_faults n end) (let e : 0 + length children ≡ length children = omega arith in e))
        (spawns_child G (omega (arith, same, paid, costs_are xs)) (is (left - 1)) refl refl (omega arith) (omega (arith, same, paid, costs_are xs))
        (collector_whole (0 + length children) parts (fold_of g body.reducer (map bytes_of xs)) (all_collected xs) total_is feeds)
        (λ last. finishes G (omega (arith, same, paid, costs_are xs)) refl))))))

  outcome_of_fold : (reducer : R) (text : List ℕ) → refusal_of text ≡ None → outcome G (fold_plan reducer text) ≡ folded g reducer (lines text)
  outcome_of_fold reducer text accepted =
      let plan = fold_plan reducer text in
      let ls = lines text in
      let xs = map Bytes ls in
      let many : length xs ≡ length ls = length-map ls Bytes in
      let few : 0 + length ls ≤ LINES_MOST = few_lines 0 ls (omega arith) accepted in
      let same : map bytes_of xs ≡ ls = bytes_are ls in
      let counted : (length xs + 63) / 64 ≡ (length ls + 63) / 64 = ap (λ n. (n + 63) / 64) many in
      outcome_is G plan (root_whole plan.body xs plan.fuel (omega (arith, many, few)) (omega (arith, counted)) (omega (arith, many)))
      ∙ ap (folded g reducer) same

  pub is_folded : (reducer : R) (text : List ℕ) → refusal_of text ≡ None → IsFolded g reducer text (outcome G (fold_plan reducer text))
  is_folded reducer text accepted =
      let same = outcome_of_fold reducer text accepted in
      record { outcome_is = same; output = ap (out_bytes text_names) same ∙ written (g.end_of reducer (fold_of g reducer (lines text))) (folded g reducer (lines text)).faults }
