use Rattle.std.proofs.lemmas.Result.{IfOk-weaker}
use Rattle.task_frames.specs.Records.{live_at}
use Rattle.task_frames.proofs.Asked.{steps-few}
use Rattle.task_frames.proofs.Given.{over}
use Rattle.task_frames.proofs.Goings.{live-here}
use Rattle.task_frames.proofs.SpawnStep.{free-then, next-asked, objects-asked, rising-then, room-then, spawn-asked, step-so, turn-asked}
use Rattle.std.proofs.Common.{◌<◌, IsSome, sym, subst}
use Rattle.swan_model.specs.Values.{COUNT_MOST}
use Rattle.task_frames.proofs.kept.Kept.make_child.Goals as goal

pub hand_over-requires-clause-objects : goal.hand_over-requires-clause-objects
hand_over-requires-clause-objects g c κs within =
    objects-asked g.B.Body _ c.args.mid c.args.child c.requires.has _ c.requires.given c.requires.alone c.requires.shallow c.requires.cheap _ _ _ c.number-parent.ensures c.next_number-number.ensures c.as_slice.ensures.value

pub hand_over-requires-clause-may : goal.hand_over-requires-clause-may
hand_over-requires-clause-may g c κs within =
    spawn-asked g.B.Body _ c.args.mid c.args.child c.requires.has _ c.requires.given c.requires.alone c.requires.shallow c.requires.cheap _ _ _ c.number-parent.ensures c.next_number-number.ensures c.as_slice.ensures.value

pub hand_over-requires-clause-turn : goal.hand_over-requires-clause-turn
hand_over-requires-clause-turn g c κs within =
    turn-asked g.B.Body _ c.args.mid c.args.child c.requires.has _ c.requires.given c.requires.alone c.requires.shallow c.requires.cheap _ _ _ c.number-parent.ensures c.next_number-number.ensures c.as_slice.ensures.value c.requires.begun

pub hand_over-requires-clause-next : goal.hand_over-requires-clause-next
hand_over-requires-clause-next g c κs within =
    next-asked g.B.Body _ c.args.mid c.args.child c.requires.has _ c.requires.given c.requires.alone c.requires.shallow c.requires.cheap _ _ _ c.number-parent.ensures c.next_number-number.ensures c.as_slice.ensures.value

pub note_child-requires-clause-live : goal.note_child-requires-clause-live
note_child-requires-clause-live g c κs within =
    over (λ k n. IsSome (live_at k.live n)) _ _ _ _ c.in_ok-hand_over.ensures.same c.number-parent.ensures (live-here g.B.Body _ _ c.requires.has)

pub note_child-requires-clause-few : goal.note_child-requires-clause-few
note_child-requires-clause-few g c κs within =
    subst (λ k. k < COUNT_MOST) (sym c.done.ensures) (steps-few g.B.Body _ _ _ c.requires.has)

pub note_child-requires-clause-room : goal.note_child-requires-clause-room
note_child-requires-clause-room g c κs within =
    room-then g.B.Body _ c.args.mid c.args.child c.requires.has _ c.requires.given c.requires.alone c.requires.shallow c.requires.cheap _ c.in_ok-hand_over.ensures.same

pub note_child-requires-clause-rising : goal.note_child-requires-clause-rising
note_child-requires-clause-rising g c κs within =
    rising-then g.B.Body _ c.args.mid c.args.child c.requires.has _ c.requires.given c.requires.alone c.requires.shallow c.requires.cheap _ c.in_ok-hand_over.ensures.same _ c.number-parent.ensures

pub note_child-requires-clause-free : goal.note_child-requires-clause-free
note_child-requires-clause-free g c κs within =
    free-then g.B.Body _ c.args.mid c.args.child c.requires.has _ c.requires.given c.requires.alone c.requires.shallow c.requires.cheap _ c.in_ok-hand_over.ensures.same

pub spawns-requires-clause-few : goal.spawns-requires-clause-few
spawns-requires-clause-few g c κs within =
    steps-few g.B.Body _ _ _ c.requires.has

pub returns-clause-step : goal.returns-clause-step
returns-clause-step g c =
    IfOk-weaker c.spawns.result _ _ (λ out so.
    step-so g.B.Body _ c.args.mid c.args.child c.requires.has _ c.requires.given c.requires.alone c.requires.shallow c.requires.cheap c.len-most.ensures.most c.requires.begun c.hand_over.new.self c.note_child.new.self c.in_ok-path.path out
    _ _ _ _ c.number-parent.ensures c.next_number-number.ensures c.done.ensures c.as_slice.ensures.value
    (record {
      made = c.in_ok-hand_over.ensures.made;
      spawned_state = c.in_ok-hand_over.ensures.state;
      name = c.in_ok-hand_over.ensures.name;
      run = c.in_ok-hand_over.ensures.run;
      same = c.in_ok-hand_over.ensures.same;
      path_is = c.in_ok-path.ensures;
      parent = c.in_ok-note_child.ensures.parent;
      new = c.in_ok-note_child.ensures.child;
      others = c.in_ok-note_child.ensures.others;
      noted = c.in_ok-note_child.ensures.same;
      out_is = so;
    })) c.spawns.ensures
