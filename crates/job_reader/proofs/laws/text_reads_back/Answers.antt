use Rattle.std.proofs.Common.{◌≡◌, List, Result, Ok, ap}
use Rattle.job_reader.specs.CanonicalText.{text_of}
use Rattle.job_reader.specs.FirstFault.{job_of}
use Rattle.job_reader.specs.declared.fault.JobFault.{JobFault}
use Rattle.job_reader.specs.declared.line.Line.{Line}
use Rattle.job_reader.proofs.JobFacts.{is_job}
use Rattle.job_reader.proofs.ReadsBack.{reads_back}
use Rattle.job_reader.proofs.laws.text_reads_back.Goals as goal

one_job : (read : Result (List Line) JobFault) (second job : List Line) → read ≡ Ok second → read ≡ Ok job → second ≡ job
one_job read second job is_second is_job = cc

pub returns-clause-back : goal.returns-clause-back
returns-clause-back c = reads_back

pub returns-clause-again : goal.returns-clause-again
returns-clause-again c = λ text job second read again. ap text_of (one_job (job_of (text_of job)) second job again (reads_back text job read))

pub returns-clause-job : goal.returns-clause-job
returns-clause-job c = is_job
