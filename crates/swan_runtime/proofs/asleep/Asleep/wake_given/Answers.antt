use Rattle.std.proofs.Common.{rules, [], refl, ◌∙◌}
use Rattle.task_frames.specs.Resumes.{ends_of}
use Rattle.swan_runtime.proofs.Bedding.{none_woke, woke_on, woken_more}
use Rattle.swan_runtime.proofs.Waking.{kept_on, still_kept}
use Rattle.swan_runtime.proofs.asleep.Asleep.wake_given.Goals as goal

pub loop-holding-init : goal.loop-holding-init
loop-holding-init g c = record {
  kept = still_kept (ends_of g.Q.Ends.LocalEnds) [] _ _;
  sleepers = none_woke c.args.number _ _ refl;
  none_lost = refl;
  woken = λ queue held. absurd (cc);
}

pub loop-holding-preserved : goal.loop-holding-preserved
loop-holding-preserved g c = record {
  kept = kept_on (ends_of g.Q.Ends.LocalEnds) [] _ _ _ _ _ _ c.loop-holding.invariant.kept c.wake_at.ensures.kept;
  sleepers = woke_on c.args.number _ _ _ c.loop-holding.invariant.sleepers c.wake_at.ensures.sleepers;
  none_lost = c.in_ok-wake_at.ensures.none_lost ∙ c.loop-holding.invariant.none_lost;
  woken = woken_more c.args.holdings.now c.loop-holding.holding-index _ _ _ (search rules) (search rules) c.wake_at.ensures.sleepers.none_more c.loop-holding.invariant.woken c.in_ok-wake_at.ensures.woken;
}

pub returns-in_err-wake_at-clause-kept : goal.returns-in_err-wake_at-clause-kept
returns-in_err-wake_at-clause-kept g c = kept_on (ends_of g.Q.Ends.LocalEnds) [] _ _ _ _ _ _ c.loop-holding.invariant.kept c.wake_at.ensures.kept

pub returns-in_err-wake_at-clause-sleepers : goal.returns-in_err-wake_at-clause-sleepers
returns-in_err-wake_at-clause-sleepers g c = woke_on c.args.number _ _ _ c.loop-holding.invariant.sleepers c.wake_at.ensures.sleepers
