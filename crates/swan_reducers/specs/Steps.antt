-- The steps of a fold.
use Rattle.std.specs.Prelude.{ℕ, Option, Some, None, Result, Ok, Err, if◌then◌else◌, List, [], ◌∷◌, map}
use Rattle.swan_model.specs.declared.body.Answer.{Answer}
use Rattle.swan_model.specs.declared.body.Ask.{Ask}
use Rattle.swan_model.specs.declared.body.Ask.TheVariants as ask
use Rattle.swan_model.specs.declared.body.Child.{Child}
use Rattle.swan_model.specs.declared.fault.Trouble.{Trouble}
use Rattle.swan_model.specs.declared.fault.Trouble.TheVariants.{BadNumber}
use Rattle.swan_model.specs.declared.rights.Mode.TheVariants.{Push, Pop}
use Rattle.swan_model.specs.declared.value.Value.{Value}
use Rattle.swan_model.specs.declared.value.Value.TheVariants.{Int, Bytes}
use Rattle.swan_model.specs.Values.{bytes_of}
use Rattle.line_blocks.specs.declared.line_reader.LineStep.{LineStep}
use Rattle.line_blocks.specs.declared.line_reader.LineStep.TheVariants as reading
use Rattle.line_blocks.specs.declared.queue_reader.QueueReader.TheVariants as reader
use Rattle.line_blocks.specs.declared.queue_reader.ReaderStep.{ReaderStep}
use Rattle.line_blocks.specs.declared.queue_reader.ReaderStep.TheVariants as step
use Rattle.line_blocks.specs.declared.text_roots.TheConstants.{INPUT, OUTPUT}
use Rattle.line_blocks.specs.LineBlocks.{Lines, no_lines}
use Rattle.line_blocks.specs.LineReading.{line_step}
use Rattle.line_blocks.specs.Readers.{step_of}
use Rattle.swan_reducers.specs.declared.body.FoldBody.{FoldBody}
use Rattle.swan_reducers.specs.declared.body.TheConstants.{PARTS}
use Rattle.swan_reducers.specs.declared.local.FoldLocal.{FoldLocal}
use Rattle.swan_reducers.specs.declared.local.FoldLocal.TheVariants as local
use Rattle.swan_reducers.specs.declared.reducer.Reducer.{Ghosts}
use Rattle.swan_reducers.specs.Fold.{fold_of}
use Rattle.swan_reducers.specs.LineFolds.{bad_number}

-- a block task, which may push its part
abbrev pub block_task : Lines → Child FoldLocal
block_task block = record { local = local.Lines block; gives = (record { place = PARTS; mode = Push }) ∷ []; fuel = 2 }

-- a block task that has pushed its part ends by the fault of its first bad line, where it has one
abbrev pub told : Option ℕ → FoldLocal × Ask FoldLocal
told None = (local.Ends, ask.Finish)
told (Some number) = (local.Ends, ask.Fail BadNumber)

-- the end is pushed, or is a fault
abbrev pub pushed_end : Result (List ℕ) Trouble → Ask FoldLocal
pushed_end (Ok item) = ask.Push 1 (Bytes item)
pushed_end (Err trouble) = ask.Fail trouble

module _ {R : Type 0} (G : Ghosts R) where
  -- a block task pushes the fold of its lines
  abbrev pub pushes_part : R → Lines → FoldLocal × Ask FoldLocal
  pushes_part reducer block =
      (local.Told (bad_number (G.part_of reducer) block.number (map bytes_of block.lines)), ask.Push 0 (Bytes (fold_of G reducer (map bytes_of block.lines))))

  -- a record as a part: the zero stands for one that is none
  abbrev pub as_part : R → List ℕ → List ℕ
  as_part reducer item = if G.is_part reducer item then item else G.zero_part reducer

  abbrev pub item_part : R → Value → List ℕ
  item_part reducer (Bytes item) = as_part reducer item
  item_part reducer (Int number) = G.zero_part reducer

  -- the collector joins what it gets, and pushes the end of that
  abbrev pub collects : R → ReaderStep (List ℕ) → FoldLocal × Ask FoldLocal
  collects reducer (step.Tests whole) = (local.Collects (reader.Tested whole), ask.Empty 0)
  collects reducer (step.Pops whole) = (local.Collects (reader.Popped whole), ask.Pop 0)
  collects reducer (step.Takes whole item) = (local.Collects (reader.Tested (G.joined reducer (as_part reducer whole) (item_part reducer item))), ask.Empty 0)
  collects reducer (step.Ends whole) = (local.Ends, pushed_end (G.end_of reducer (as_part reducer whole)))

  -- the collector, which may pop parts and push to the output
  abbrev pub collector : FoldBody R → Child FoldLocal
  collector body = record {
    local = local.Collects (reader.Looks (G.zero_part body.reducer));
    gives = (record { place = PARTS; mode = Pop }) ∷ (record { place = OUTPUT; mode = Push }) ∷ [];
    fuel = body.collector_fuel;
  }

  -- the root's step as it reads: each block is given to a task, and then the collector begins
  abbrev pub reads : FoldBody R → LineStep → FoldLocal × Ask FoldLocal
  reads body (reading.Tests at) = (local.Reads at, ask.Empty INPUT)
  reads body (reading.Pops at) = (local.Reads at, ask.Pop INPUT)
  reads body (reading.Hands block at) = (local.Reads at, ask.Spawn (block_task block))
  reads body (reading.HandsLast block) = (local.SpawnsCollector, ask.Spawn (block_task block))
  reads body reading.Ends = (local.Ends, ask.Spawn (collector body))

  abbrev pub next : FoldBody R → FoldLocal → Answer → ℕ → FoldLocal × Ask FoldLocal
  next body local.Begins answer fuel = (local.Reads (reader.Looks no_lines), ask.NewQueue)
  next body (local.Reads at) answer fuel = reads body (line_step (step_of at answer))
  next body local.SpawnsCollector answer fuel = (local.Ends, ask.Spawn (collector body))
  next body (local.Lines block) answer fuel = pushes_part body.reducer block
  next body (local.Told bad) answer fuel = told bad
  next body (local.Collects at) answer fuel = collects body.reducer (step_of at answer)
  next body local.Ends answer fuel = (local.Ends, ask.Finish)

  -- a block task that has pushed its part stands at its first bad line, and each other task at 0
  abbrev pub place_of : FoldBody R → FoldLocal → ℕ
  place_of body (local.Told (Some number)) = number
  place_of body _ = 0
