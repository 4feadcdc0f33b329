use Rattle.std.proofs.Common.{sym, ◌∙◌}
use Rattle.queues.proofs.Done.{done_same}
use Rattle.queues.proofs.Fitting.{fits_comes}
use Rattle.queues.proofs.Lineage.{spawns_by}
use Rattle.queues.proofs.QueuePoints.{still_same}
use Rattle.queues.proofs.Ripening.{ripe_same}
use Rattle.queues.proofs.Frames.{active_number}
use Rattle.queues.proofs.Rereading.{fit_of}
use Rattle.queues.proofs.SerialPoints.{earlier_same, is_read, serial_same}
use Rattle.swan_model.specs.QueueFollows.{queue_point}
use Rattle.swan_model.specs.SerialTime.{point}
use Rattle.queues.proofs.laws.points_of_queues_agree.Goals as goal

pub returns-clause-taken : goal.returns-clause-taken
returns-clause-taken c s state r lawful follows fits number frame a live known queue =
    (still_same s queue frame.path (point s a) (queue_point s frame.path frame.deeds) (is_read s lawful state r fits number frame a live known).still).takes

pub returns-clause-count : goal.returns-clause-count
returns-clause-count c s state r lawful follows fits number frame a live known queue =
    (still_same s queue frame.path (point s a) (queue_point s frame.path frame.deeds) (is_read s lawful state r fits number frame a live known).still).counts

pub returns-clause-children : goal.returns-clause-children
returns-clause-children c s state r lawful follows fits number frame a live known =
    (follows.tasks number frame live).children ∙ spawns_by s frame.path frame.deeds (point s a) (fits_comes s frame a (fit_of s lawful state r fits number a known frame live)).before

pub returns-clause-earlier : goal.returns-clause-earlier
returns-clause-earlier c s state r lawful follows fits number frame a live known other also b there told =
    earlier_same s lawful state r fits number other frame also a b (is_read s lawful state r fits number frame a live known) (is_read s lawful state r fits other also b there told)

pub returns-clause-serial : goal.returns-clause-serial
returns-clause-serial c s state r lawful follows fits number frame a live known other also b there told differ =
    let one = is_read s lawful state r fits number frame a live known in
    let two = is_read s lawful state r fits other also b there told in
    serial_same s lawful state r fits number other frame also a b one two
    (λ same. differ (active_number state number frame live ∙ same ∙ sym (active_number state other also there)))

pub returns-clause-done : goal.returns-clause-done
returns-clause-done c s state r lawful follows fits = done_same s lawful state follows r fits

pub returns-clause-ripe : goal.returns-clause-ripe
returns-clause-ripe c s state r lawful follows fits number frame a live known actives are queue origin made =
    ripe_same s lawful state follows r fits number frame a (is_read s lawful state r fits number frame a live known) queue origin made actives are
