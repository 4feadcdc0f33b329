use Rattle.swan_model.specs.Script.{script}
use Rattle.serial_elision.proofs.Room.{children-told, makers-once, room-children, room-deeds, room-queues, true-children, true-places}
use Rattle.serial_elision.proofs.room_laws.runs_have_room.Goals as goal

pub returns : goal.returns
returns g c = record {
  makers = λ plan state follows. makers-once (script g.B.Body plan) state follows;
  queues = λ plan state bounds fuel follows. room-queues g.B.Body plan state bounds fuel follows;
  children = λ plan state number frame fuel follows live. room-children g.B.Body plan state number frame fuel follows live;
  deeds = λ plan state number frame fuel follows live. room-deeds g.B.Body plan state number frame fuel follows live;
  spawns = λ plan path k top at. children-told g.B.Body plan path k top at;
  true_children = λ plan frame fuel alone. true-children g.B.Body plan frame fuel alone;
  true_places = λ plan frame first fuel alone begins most. true-places g.B.Body plan frame first fuel alone begins most;
}
