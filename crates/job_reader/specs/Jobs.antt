-- What every job keeps.
use Rattle.std.specs.Prelude.{◌≡◌, ◌<◌, ◌≤◌, nat_lt, Bool, true, false, IsTrue, IsFalse, Ok, List, [], ◌∷◌, length}
use Rattle.job_reader.specs.CanonicalText.{text_of}
use Rattle.job_reader.specs.FirstFault.{job_of}
use Rattle.job_reader.specs.Positions.{after, is_open, takes_else}
use Rattle.job_reader.specs.Words.{has_caught}
use Rattle.job_reader.specs.declared.job.TheConstants.{JOB_LINES_MOST}
use Rattle.job_reader.specs.declared.line.Edition.{Edition}
use Rattle.job_reader.specs.declared.line.Edition.TheVariants.{One}
use Rattle.job_reader.specs.declared.line.Line.{Line}
use Rattle.job_reader.specs.declared.line.Line.TheVariants as line
use Rattle.job_reader.specs.declared.position.Position.{Position}
use Rattle.job_reader.specs.declared.position.Position.TheVariants.{First, Top, InTask, InDo, Outside}
use Rattle.job_reader.specs.declared.position.TheConstants.{BLOCKS_MOST}

-- whether a line may stand at a position in a job of an edition
abbrev pub may_stand : Edition → Position → Line → Bool
may_stand edition First (line.Header named) = true
may_stand edition (Top inputs_left) (line.Note text) = true
may_stand edition (Top inputs_left) (line.Input name) = nat_lt 0 inputs_left
may_stand edition (Top inputs_left) (line.Output name k) = true
may_stand edition (Top inputs_left) (line.Object name k) = true
may_stand edition (Top inputs_left) (line.Task name) = true
may_stand edition InTask (line.Note text) = true
may_stand edition InTask (line.Param name k) = true
may_stand edition InTask (line.Access mode name k) = true
may_stand edition InTask (line.Var name k) = true
may_stand edition InTask (line.Queue name k) = true
may_stand edition InTask (line.Object name k) = true
may_stand edition InTask line.Do = true
may_stand edition (InDo blocks) (line.Note text) = true
may_stand edition (InDo blocks) (line.Assign v o args) = true
may_stand edition (InDo blocks) (line.Read v o) = true
may_stand edition (InDo blocks) (line.Write o a) = true
may_stand edition (InDo blocks) (line.Push q a) = true
may_stand edition (InDo blocks) (line.Pop v q) = true
may_stand edition (InDo blocks) (line.Empty v q) = true
may_stand edition (InDo blocks) (line.Spawn fuel task given) = true
may_stand edition (InDo blocks) line.Sync = true
may_stand edition (InDo blocks) (line.Caught v) = has_caught edition
may_stand edition (InDo blocks) (line.Fuel v) = true
may_stand edition (InDo blocks) (line.Fail a) = true
may_stand edition (InDo blocks) (line.If a) = nat_lt (length blocks) BLOCKS_MOST
may_stand edition (InDo blocks) line.Else = takes_else blocks
may_stand edition (InDo blocks) (line.While a) = nat_lt (length blocks) BLOCKS_MOST
may_stand edition (InDo blocks) line.End = true
may_stand edition Outside (line.Note text) = true
may_stand edition Outside (line.Task name) = true
may_stand edition _ _ = false

-- each line from a position on may stand where it stands, and no task is open at the end
abbrev pub IsPlaced : Edition → Position → List Line → Type 0
IsPlaced edition position [] = IsFalse (is_open position)
IsPlaced edition position (line ∷ more) = IsTrue (may_stand edition position line) × IsPlaced edition (after position line) more

-- the edition of a job, which its first line names
abbrev pub edition_of : List Line → Edition
edition_of (line.Header edition ∷ more) = edition
edition_of _ = One

-- a job: its canonical text reads as it
pub record IsJob (job : List Line) : Type 0 where
  pub reads_back : job_of (text_of job) ≡ Ok job
  -- there is a first line, and there are no more lines than a job may have
  pub some : 0 < length job
  pub most : length job ≤ JOB_LINES_MOST
  pub placed : IsPlaced (edition_of job) First job
