use Rattle.swan_model.proofs.PathOrder.{before-one_way, before-through}
use Rattle.task_frames.proofs.Earliest.{one-before}
use Rattle.task_frames.proofs.laws.paths_stand_in_one_order.Goals as goal

pub returns-clause-one_way : goal.returns-clause-one_way
returns-clause-one_way c = before-one_way

pub returns-clause-through : goal.returns-clause-through
returns-clause-through c = before-through

pub returns-clause-total : goal.returns-clause-total
returns-clause-total c = one-before
