-- PlaceEntries that neither make nor write an object, and spawn no child, are done without a change of the objects.
use Rattle.std.proofs.Common.{◌≡◌, false, Some, List, refl, ◌∙◌, arith}
use Rattle.swan_model.specs.declared.origin.Origin.{Origin}
use Rattle.swan_model.specs.declared.script.Deed.{Deed}
use Rattle.swan_model.specs.declared.script.Deed.TheVariants as deed
use Rattle.swan_model.specs.declared.script.Script.{Script}
use Rattle.swan_model.specs.Granted.{is_spawn}
use Rattle.swan_model.specs.Lawful.{IsLawful}
use Rattle.swan_model.specs.Readings.{gone_on, next_deed, one_more}
use Rattle.swan_model.specs.SerialTime.{Progress, Reading, frame_of}
use Rattle.swan_model.specs.Versions.{VersionState}
use Rattle.swan_model.specs.VersionsFollow.{ObjectsFollow, is_object_deed}
use Rattle.swan_model.proofs.MovedFrames.{gone_back, gone_there, path_kept, done_stays}
use Rattle.object_versions.proofs.Moves.{at_gone, at_moves}
use Rattle.swan_model.proofs.ScriptDeeds.{is_change_of}
use Rattle.object_versions.proofs.Tasks.{tasks_gone}

pub other_unchanged : (origin : Origin) (does : Deed) → is_object_deed does ≡ false → is_spawn does ≡ false → is_change_of origin does ≡ false
other_unchanged origin deed.Quiet other none = refl
other_unchanged origin deed.Sync other none = refl
other_unchanged origin deed.MakeQueue other none = refl
other_unchanged origin (deed.MakeObject value) other none = refl
other_unchanged origin (deed.Spawn gives) other none = absurd (cc)
other_unchanged origin (deed.Push queue value) other none = refl
other_unchanged origin (deed.Pop queue) other none = refl
other_unchanged origin (deed.Test queue) other none = refl
other_unchanged origin (deed.Read object) other none = refl
other_unchanged origin (deed.Write object value) other none = absurd (cc)

-- the queues of the reading say nothing of objects
pub any_queues : (s : Script) (r : Reading) (state : VersionState) (queues : List Origin) → ObjectsFollow s r state → ObjectsFollow s (record r { queues = queues }) state
any_queues s r state queues follows = record {
  tasks = record {
    different = follows.tasks.different;
    spawned = λ i frame path child is ends.
        let spawn = follows.tasks.spawned i frame path child is ends in record { spawn = spawn.spawn; known = spawn.known; done = spawn.done };
  };
  root = follows.root;
  objects = follows.objects;
  roots = follows.roots;
  made = follows.made;
  different = follows.different;
  follows = λ number place frame object origin is stands has.
      at_moves s r (record r { queues = queues }) frame frame object origin refl (omega arith) refl (λ k owing owes at. record { was = owing; stood = at; path = refl })
      (follows.follows number place frame object origin is stands has);
  known = follows.known;
  sorted = follows.sorted;
  alone = follows.alone;
  owing = follows.owing;
}

same_queues_pass : (s : Script) (r : Reading) (state : VersionState) (frame : Progress) (does : Deed) → IsLawful s → ObjectsFollow s r state
    → frame_of r frame.number ≡ Some frame → next_deed s frame ≡ Some does → is_object_deed does ≡ false → is_spawn does ≡ false → ObjectsFollow s (gone_on r frame.number) state
same_queues_pass s r state frame does lawful follows known next other none = record {
  tasks = tasks_gone s r frame.number follows.tasks;
  root = (one_more frame.number follows.root.0, gone_there r frame.number 0 follows.root.0 follows.root.1, path_kept frame.number follows.root.0 ∙ follows.root.2);
  objects = follows.objects;
  roots = follows.roots;
  made = λ object n is. done_stays s r frame.number n (follows.made object n is);
  different = follows.different;
  follows = λ number place now object origin is stands has.
      let m = gone_back r frame.number number now is in
      at_gone s r (gone_on r frame.number) lawful frame.number frame does known next none (gone_back r frame.number) number now object origin m
      (λ _. other_unchanged origin does other none) (follows.follows number place m.was object origin m.stood stands has);
  known = follows.known;
  sorted = follows.sorted;
  alone = follows.alone;
  owing = follows.owing;
}

pub others_pass : (s : Script) (r : Reading) (state : VersionState) (frame : Progress) (does : Deed) → IsLawful s → ObjectsFollow s r state
    → frame_of r frame.number ≡ Some frame → next_deed s frame ≡ Some does → is_object_deed does ≡ false → is_spawn does ≡ false → (queues : List Origin)
    → ObjectsFollow s (record (gone_on r frame.number) { queues = queues }) state
others_pass s r state frame does lawful follows known next other none queues =
    any_queues s (gone_on r frame.number) state queues (same_queues_pass s r state frame does lawful follows known next other none)
