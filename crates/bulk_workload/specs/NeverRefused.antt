-- The generated job is in order over its input.
use Rattle.std.specs.Prelude.{◌≡◌, ℕ, None, Ok, List, [], ◌∷◌}
use Rattle.job_body.specs.PlanOfJob.{refusal_of_plan}
use Rattle.job_reader.specs.FirstFault.{job_of}
use Rattle.job_reader.specs.declared.line.Line.{Line}
use Rattle.privilege_check.specs.FirstFault.{first_fault}
use Rattle.bulk_workload.specs.Bulk.{bulk_input, bulk_job}

-- its text reads as a job, which has no fault, and which has a plan over the input
pub record IsNeverRefused (number size : ℕ) : Type 0 where
  pub lines : List Line
  pub is_read : job_of (bulk_job size) ≡ Ok lines
  pub is_checked : first_fault lines ≡ None
  pub is_planned : refusal_of_plan lines (bulk_input number size ∷ []) ≡ None
