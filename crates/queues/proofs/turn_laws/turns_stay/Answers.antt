use Rattle.std.proofs.Common.{refl, ap, ◌∙◌}
use Rattle.queues.proofs.GivingTurns.{turns_given_more, turns_given_none, turns_may_get, turns_newest}
use Rattle.queues.proofs.TreeKept.{only_root}
use Rattle.queues.proofs.TurnsCalls.{turns_back, turns_deed, turns_finish, turns_lend, turns_moved, turns_rest}
use Rattle.queues.proofs.TurnsGone.{turns_childless}
use Rattle.queues.proofs.TurnsKept.{turns_none}
use Rattle.queues.proofs.TurnsMade.{turns_create, turns_root}
use Rattle.queues.proofs.TurnsSpawned.{turns_older, turns_spawned}
use Rattle.swan_model.specs.QueueState.{ActiveFrame, new_state}
use Rattle.queues.proofs.turn_laws.turns_stay.Goals as goal

pub returns-clause-start : goal.returns-clause-start
returns-clause-start c = turns_none new_state (λ n frame live. ap (λ (f : ActiveFrame). f.parent) (only_root n frame live).1 ∙ refl)

pub returns-clause-create_root : goal.returns-clause-create_root
returns-clause-create_root c state turns tree is untouched = turns_root state tree turns is untouched

pub returns-clause-create : goal.returns-clause-create
returns-clause-create c state turns tree is n act = turns_create state tree turns is n act

pub returns-clause-older : goal.returns-clause-older
returns-clause-older c state turns tree is n child gives may number turn found = turns_older state tree turns is n child gives may number turn found

pub returns-clause-first : goal.returns-clause-first
returns-clause-first c turns parent child newest = turns_given_none turns parent child newest

pub returns-clause-newest : goal.returns-clause-newest
returns-clause-newest c before now parent child gives newest apart is = turns_newest before now parent child gives newest apart is

pub returns-clause-may_get : goal.returns-clause-may_get
returns-clause-may_get c before now parent child queue gives is fresh = turns_may_get before now parent child gives is queue fresh

pub returns-clause-more : goal.returns-clause-more
returns-clause-more c before now parent child gives give is = turns_given_more before now parent child gives is give

pub returns-clause-spawn : goal.returns-clause-spawn
returns-clause-spawn c state turns tree is now n child gives may given = turns_spawned state tree turns is n child gives may now given

pub returns-clause-deed : goal.returns-clause-deed
returns-clause-deed c state turns is n act = turns_deed state turns is n act

pub returns-clause-lend : goal.returns-clause-lend
returns-clause-lend c state turns is n frame ends live = turns_lend state turns is n frame ends live

pub returns-clause-back : goal.returns-clause-back
returns-clause-back c state turns is n deeds frame live = turns_back state turns is n deeds frame live

pub returns-clause-moved : goal.returns-clause-moved
returns-clause-moved c state turns is child = turns_moved state turns is child

pub returns-clause-childless : goal.returns-clause-childless
returns-clause-childless c state turns is n may = turns_childless state turns n is may.alone

pub returns-clause-finish : goal.returns-clause-finish
returns-clause-finish c state turns is n = turns_finish state turns is n

pub returns-clause-take_rest : goal.returns-clause-take_rest
returns-clause-take_rest c state turns is queue = turns_rest state turns is queue
