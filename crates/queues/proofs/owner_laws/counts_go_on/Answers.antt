use Rattle.queues.proofs.MatchSpawn.{counts_child, counts_parent, counts_through, takes_child, takes_parent, takes_through}
use Rattle.queues.proofs.QueuePoints.{ended_counts, moved_counts}
use Rattle.queues.proofs.owner_laws.counts_go_on.Goals as goal

pub returns-clause-child : goal.returns-clause-child
returns-clause-child c s state lawful follows tree n child frame gives live new may spawn number queue made =
    (counts_child s lawful state follows tree number queue made n child frame gives live new may spawn, takes_child s lawful state follows tree number queue made n child frame gives live new may spawn)

pub returns-clause-parent : goal.returns-clause-parent
returns-clause-parent c s state lawful follows tree n child frame gives live new may spawn number queue made =
    (counts_parent s lawful state follows tree number queue made n child frame gives live new may spawn, takes_parent s lawful state follows tree number queue made n child frame gives live new may spawn)

pub returns-clause-no_push : goal.returns-clause-no_push
returns-clause-no_push c s state lawful follows tree n child frame gives live new may spawn number queue made has lacks =
    counts_through s lawful state follows tree number queue made n child frame gives live new may spawn has lacks

pub returns-clause-no_pop : goal.returns-clause-no_pop
returns-clause-no_pop c s state lawful follows tree n child frame gives live new may spawn number queue made has lacks =
    takes_through s lawful state follows tree number queue made n child frame gives live new may spawn has lacks

pub returns-clause-deed : goal.returns-clause-deed
returns-clause-deed c s frame does queue lawful next quiet =
    let same = moved_counts s lawful queue frame.path frame.deeds does next quiet in
    (same.counts, same.takes)

pub returns-clause-end : goal.returns-clause-end
returns-clause-end c s frame queue lawful over some =
    let same = ended_counts s lawful queue frame.path frame.deeds over some in
    (same.counts, same.takes)
