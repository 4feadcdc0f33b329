use Rattle.swan_top.specs.Elisions.{elisions}
use Rattle.swan_top.proofs.Generated.{never_refused}
use Rattle.swan_top.proofs.Pipelines.{wrote_of_text}
use Rattle.swan_top.proofs.top_call.swan.Goals as goal

pub returns-clause-written_of_text : goal.returns-clause-written_of_text
returns-clause-written_of_text g c =
    wrote_of_text c.the_outcome_is_the_index.ensures c.the_outcome_is_the_conversion.ensures _ _ _ c.follow.ensures.answered

pub returns-clause-never_refused : goal.returns-clause-never_refused
returns-clause-never_refused g c =
    never_refused c.a_bulk_job_is_never_refused.ensures elisions _ _ _ c.follow.ensures.within_limits c.follow.ensures.answered
