use Rattle.std.proofs.Common.{◌≡◌, Result, Ok, Err, Some, ap}
use Rattle.job_reader.specs.FirstFault.{fault_of, job_of}
use Rattle.job_reader.specs.declared.fault.JobFault.{JobFault}
use Rattle.swan_top.proofs.TextsRead.{Stops-map}
use Rattle.swan_top.specs.Decision.{accepted_lines}
use Rattle.swan_top.proofs.accept.accept.Goals as goal

-- a reading whose fault is known
fault_is : {A : Type 0} (r : Result A JobFault) (fault : JobFault) → fault_of r ≡ Some fault → r ≡ Err fault
fault_is (Ok a) fault is = cc
fault_is (Err other) fault is = cc

pub returns-in-Err-Refused-clause-refused : goal.returns-in-Err-Refused-clause-refused
returns-in-Err-Refused-clause-refused c =
    let fault = c.in-Err-Refused.fault in
    let first = c.in-Err-Refused.ensures.refused fault (ap (λ e. Err e) c.in-Err-Refused.field-0-is) in
    let text = c.args.text.items in
    let is_text : c.as_slice.result.now ≡ text = c.as_slice.ensures.value in
    let named : fault_of (job_of text) ≡ Some fault = rw (← is_text) first in
    Stops-map (Unit {0}) (Unit {0}) _ _ (λ it. it)
    (λ verdict is. record { fault = fault; first = ap accepted_lines (fault_is (job_of text) fault named); refused = is })
    c.refuse_job.result c.refuse_job.ensures
