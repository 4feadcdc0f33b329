-- Tasks that read a queue to its end: what they do next, by where they stand and by what they are told.
use Rattle.std.specs.Prelude.{false}
use Rattle.swan_model.specs.declared.body.Answer.{Answer}
use Rattle.swan_model.specs.declared.body.Answer.TheVariants as answer
use Rattle.line_blocks.specs.declared.queue_reader.QueueReader.{QueueReader}
use Rattle.line_blocks.specs.declared.queue_reader.QueueReader.TheVariants.{Looks, Tested, Popped}
use Rattle.line_blocks.specs.declared.queue_reader.ReaderStep.{ReaderStep}
use Rattle.line_blocks.specs.declared.queue_reader.ReaderStep.TheVariants.{Tests, Pops, Takes, Ends}

module _ {K : Type 0} where
  -- It asks whether the queue is empty, and pops where it isn't. What it doesn't ask for it takes as no answer.
  abbrev pub step_of : QueueReader K → Answer → ReaderStep K
  step_of (Looks kept) told = Tests kept
  step_of (Tested kept) (answer.Flag false) = Pops kept
  step_of (Tested kept) told = Ends kept
  step_of (Popped kept) (answer.Item item) = Takes kept item
  step_of (Popped kept) told = Ends kept
