use Rattle.std.proofs.Common.{◌≡◌, ap, ◌∙◌}
use Rattle.std.specs.Prelude.{codes}
use Rattle.job_reader.specs.CanonicalText.{text_of}
use Rattle.swan_top.specs.Decision.{prints}
use Rattle.swan_top.specs.declared.how.How.TheVariants as how
use Rattle.swan_top.specs.declared.status.Status.TheVariants as status
use Rattle.swan_top.proofs.settle.settle_checked.Goals as goal

pub returns-clause-ok : goal.returns-clause-ok
returns-clause-ok c =
    let text : c.new.result ≡ text_of c.args.job.now = c.new.ensures ∙ c.in_ok-write_job.ensures.text ∙ ap text_of c.job.ensures.job in
    let report : c.new-2.result ≡ codes "checked\n" = c.new-2.ensures ∙ c.in_ok-from_slice.ensures.items in
    record {
      fact = ap (λ t. prints t c.new-2.result (status.Done how.Plain)) text ∙ ap (λ t. prints (text_of c.args.job.now) t (status.Done how.Plain)) report;
      ends = tt;
    }
