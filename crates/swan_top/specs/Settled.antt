-- A verdict as the code keeps it, and what stops it from reading on.
use Rattle.std.specs.Prelude.{◌≡◌, ◌≢◌, ℕ, List, Some, Result, Ok, Err}
use Rattle.job_body.specs.PlanOfJob.{of_input}
use Rattle.job_reader.specs.declared.fault.JobFault.{JobFault}
use Rattle.swan_model.specs.declared.lines.LinesAnswer.{LinesAnswer}
use Rattle.swan_model.specs.declared.lines.LinesAnswer.TheVariants as answer
use Rattle.swan_model.specs.declared.outcome.Names.{Names}
use Rattle.swan_model.specs.declared.plan.Plan.{Plan}
use Rattle.swan_top.specs.Decision.{Verdict, prints, refuses, unread, accepted, job_refused, input_line, printed}
use Rattle.swan_top.specs.Headline.{FilesSeen, WereRead, NoReadFailed, NoneTooLong, ReadRefused}
use Rattle.swan_top.specs.declared.run_end.RunEnd.{RunEnd}
use Rattle.swan_top.specs.declared.status.Status.{Status}
use Rattle.swan_top.specs.declared.status.Status.TheVariants as status
use Rattle.swan_top.specs.declared.verdict.Settled.{Settled}
use Rattle.swan_top.specs.declared.verdict.Settled.TheVariants as settled
use Rattle.swan_top.specs.declared.verdict.WhyStopped.{WhyStopped}
use Rattle.swan_top.specs.declared.verdict.WhyStopped.TheVariants as stop

abbrev pub verdict_of : Settled → Verdict
verdict_of (settled.Prints out report ends) = prints out report ends
verdict_of (settled.Refuses line ends) = refuses line ends

-- a verdict neither fails to write nor wants memory
abbrev pub IsEnd : Status → Type 0
IsEnd status.WriteFailed = ⊥
IsEnd status.NoMemory = ⊥
IsEnd _ = Unit {0}

abbrev pub EndsSo : Settled → Type 0
EndsSo (settled.Prints out report ends) = IsEnd ends
EndsSo (settled.Refuses line ends) = IsEnd ends

-- the verdict is so
pub record Is (P : Verdict → Type 0) (verdict : Settled) : Type 0 where
  pub fact : P (verdict_of verdict)
  pub ends : EndsSo verdict

-- where a verdict stops it, the verdict is so, and where want of memory does, this fact holds
abbrev pub StopsWith : Type 0 → (Verdict → Type 0) → WhyStopped → Type 0
StopsWith unread P (stop.Settled verdict) = Is P verdict
StopsWith unread P stop.NoMemory = unread

-- the same where no file is at hand
abbrev pub Stops : (Verdict → Type 0) → WhyStopped → Type 0
Stops P = StopsWith (Unit {0}) P

-- and over files: memory ran out only where no read was refused
abbrev pub StopsOver : FilesSeen → (Verdict → Type 0) → WhyStopped → Type 0
StopsOver files P = StopsWith (NoReadFailed files × NoneTooLong files) P

-- An input couldn't be read, and those before it were.
pub record InputUnread (files : FilesSeen) (names : List (List ℕ)) (verdict : Verdict) : Type 0 where
  pub texts : List (List ℕ)
  pub are_read : WereRead files.content names texts
  pub file : List ℕ
  pub is_next : unread names texts ≡ Some file
  pub refused : ReadRefused files file verdict

-- The text isn't an accepted job.
pub record IsRefused (text : List ℕ) (verdict : Verdict) : Type 0 where
  pub fault : JobFault
  pub first : accepted text ≡ Err fault
  pub refused : verdict ≡ job_refused fault

-- The plan of a text was run, or the text is refused as an input.
abbrev pub RanOrRefused : {B L : Type 0} → (Plan B L → RunEnd) → Names → Result (Plan B L) LinesAnswer → Verdict → Type 0
RanOrRefused end_of names (Ok plan) verdict = verdict ≡ printed names (end_of plan)
RanOrRefused end_of names (Err why) verdict = (why ≢ answer.NoMemory) × (verdict ≡ refuses (input_line (of_input 1 why)) status.InputRefused)
