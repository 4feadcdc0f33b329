use Rattle.std.proofs.Common.{length, None, refl, Some}
use Rattle.swan_model.specs.QueueState.{with_deed, with_made}
use Rattle.queues.proofs.ActiveAfter.{child_spawned, one_changed, one_goes_on, one_gone, others_spawned, parent_spawned}
use Rattle.queues.proofs.tree_laws.active_frames_stay.Goals as goal

pub returns-clause-create_root : goal.returns-clause-create_root
returns-clause-create_root c state root live = one_changed state 0 (with_made (length state.makers)) (λ f. refl) root live

pub returns-clause-create : goal.returns-clause-create
returns-clause-create c state n frame live = one_goes_on state n frame (λ f. with_deed (with_made (length state.makers) f)) (λ f. refl) live

pub returns-clause-spawn_parent : goal.returns-clause-spawn_parent
returns-clause-spawn_parent c state n frame live child gives new = parent_spawned state n child frame gives live new

pub returns-clause-spawn_child : goal.returns-clause-spawn_child
returns-clause-spawn_child c state n frame live child gives new = child_spawned state n child frame gives live new

pub returns-clause-spawn_others : goal.returns-clause-spawn_others
returns-clause-spawn_others c state n frame live child gives new other differ apart = others_spawned state n child frame gives live new other differ apart

pub returns-clause-deed : goal.returns-clause-deed
returns-clause-deed c state n frame live = one_changed state n with_deed (λ f. refl) frame live

pub returns-clause-lend : goal.returns-clause-lend
returns-clause-lend c state n frame live ends =
    one_goes_on state n frame (λ f. record f { lent = Some (record { deeds = frame.deeds; ends = ends }) }) (λ f. refl) live

pub returns-clause-back : goal.returns-clause-back
returns-clause-back c state n frame live deeds = one_changed state n (λ f. record f { deeds = deeds; lent = None }) (λ f. refl) frame live

pub returns-clause-finish : goal.returns-clause-finish
returns-clause-finish c state n = one_gone state n

pub returns-clause-take_rest : goal.returns-clause-take_rest
returns-clause-take_rest c state queue number = refl
