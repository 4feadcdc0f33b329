-- The generated job is never refused.
use Rattle.std.specs.Prelude.{Option, Some}
use Rattle.swan_top.specs.Command.{Command, bulk}
use Rattle.swan_top.specs.Completeness.{GeneratedInOrder}
use Rattle.swan_top.specs.Decision.{Verdict}
use Rattle.swan_top.specs.Elisions.{Elisions, cheapest}
use Rattle.swan_top.specs.Headline.{CallSeen, Ends}
use Rattle.swan_top.specs.declared.status.Status.{Status}
use Rattle.swan_top.specs.declared.status.Status.TheVariants as status

-- Where the words are those of a generated run, the call never ends as one that was refused: the job has no fault and has a
-- plan over its input, and the call ends as the verdict says that prints what the run of this plan leaves; or memory
-- ran out.
abbrev pub NeverRefused : Elisions → CallSeen → Option Command → Status → Type 0
NeverRefused elisions seen (Some (bulk number size workers)) status.NoMemory = Unit {0}
NeverRefused elisions seen (Some (bulk number size workers)) status.Usage = ⊥
NeverRefused elisions seen (Some (bulk number size workers)) status.JobRefused = ⊥
NeverRefused elisions seen (Some (bulk number size workers)) status.ReadFailed = ⊥
NeverRefused elisions seen (Some (bulk number size workers)) status.InputRefused = ⊥
NeverRefused elisions seen (Some (bulk number size workers)) ends =
    (verdict : Verdict) × GeneratedInOrder (elisions.of_job (cheapest workers)) number size verdict × Ends seen.out seen.report verdict ends
NeverRefused elisions seen asked ends = Unit {0}
