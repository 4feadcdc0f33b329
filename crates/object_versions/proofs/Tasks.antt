-- What a frame does next is done once it goes on, and the frames of a reading stay tasks of the script.
use Rattle.std.proofs.Common.{◌≡◌, inl, inr, ℕ, ◌+◌, nat_lt, true, false, Option, None, Some, List, [], ◌∷◌, ◌++◌, map, refl, sym, ap, subst, ◌∙◌, arith}
use Rattle.std.proofs.lemmas.Bool.{and_from, lt-ltb, or_left}
use Rattle.std.proofs.lemmas.List.{same_from_push}
use Rattle.std.proofs.lemmas.List.Folds.{list_any-append}
use Rattle.std.proofs.lemmas.Map.Keys.{any_passes_from_place}
use Rattle.std.proofs.lemmas.Option.{slice_get-map}
use Rattle.std.specs.Prelude.{slice_get, IsTrue}
use Rattle.std.specs.List.{list_any}
use Rattle.std.specs.Option.{option_map, option_map_or}
use Rattle.swan_model.specs.declared.script.Deed.{Deed}
use Rattle.swan_model.specs.declared.script.Deed.TheVariants as deed
use Rattle.swan_model.specs.declared.script.OriginGive.{OriginGive}
use Rattle.swan_model.specs.declared.script.Script.{Script}
use Rattle.swan_model.specs.Granted.{child_path, children_before}
use Rattle.swan_model.specs.Lawful.{IsLawful}
use Rattle.swan_model.specs.Nested.{HasTasks, IsSpawned, spawn_time}
use Rattle.swan_model.specs.Readings.{gone_on, next_deed, one_more, reading_after_spawn}
use Rattle.swan_model.specs.SerialTime.{Progress, Reading, frame_of, is_done, is_of, is_past, point}
use Rattle.swan_model.proofs.MovedFrames.{child_progress, frame_in, own_moves, path_kept, done_spawned, done_stays}
use Rattle.swan_model.proofs.Paths.{path_is-itself}
use Rattle.swan_model.proofs.ScriptSteps.{at_next, point_rises, spawn_moves}
use Rattle.swan_model.proofs.Elements.{more_cases}
use Rattle.swan_model.proofs.Points.{done_by}

-- ---- the next entry of a frame

-- it isn't done yet
pub not_done : (s : Script) (r : Reading) → HasTasks s r → (frame : Progress) (does : Deed) → frame_of r frame.number ≡ Some frame → next_deed s frame ≡ Some does
    → IsTrue (is_done s r (point s frame)) → ⊥
not_done s r tasks frame does known next done =
    let step = at_next s frame does next in
    let by = done_by s r (point s frame) step.entry step.stands done in
    let path : by.frame.path ≡ frame.path = by.own ∙ step.own in
    let here = frame_in r.frames frame.number frame known in
    let index = tasks.different by.index here.index by.frame frame by.stands here.stands path in
    let one : by.frame ≡ frame = let e : Some by.frame ≡ Some frame = sym by.stands ∙ ap (slice_get r.frames) index ∙ here.stands in cc in
    let late : point s by.frame ≡ point s frame = ap (point s) one in
    let past = by.past in
    omega arith

-- then it is
past_then : (s : Script) (frame : Progress) (does : Deed) (next : next_deed s frame ≡ Some does) → is_past s (point s frame) (at_next s frame does next).entry (one_more frame.number frame) ≡ true
past_then s frame does next =
    let step = at_next s frame does next in
    let left = step.left in
    let rises = point_rises s frame.path frame (record frame { done = frame.done + 1 }) refl refl (omega arith) (omega arith) in
    let moves = own_moves frame.number frame refl in
    let P : Progress → Type 0 = λ f. is_past s (point s frame) step.entry f ≡ true in
    subst P (sym moves)
    (and_from (is_of frame.path step.entry) (nat_lt (point s frame) (point s (record frame { done = frame.done + 1 })))
    (ap (λ path. is_of frame.path (record step.entry { path = path })) step.own ∙ path_is-itself frame.path)
    (lt-ltb (point s frame) (point s (record frame { done = frame.done + 1 })) rises))

pub done_then : (s : Script) (r : Reading) (frame : Progress) (does : Deed) → frame_of r frame.number ≡ Some frame → next_deed s frame ≡ Some does
    → IsTrue (is_done s (gone_on r frame.number) (point s frame))
done_then s r frame does known next =
    let step = at_next s frame does next in
    let here = frame_in r.frames frame.number frame known in
    let place = slice_get-map (one_more frame.number) r.frames here.index ∙ ap (option_map (one_more frame.number)) here.stands in
    let any = any_passes_from_place (is_past s (point s frame) step.entry) (map (one_more frame.number) r.frames) here.index (one_more frame.number frame) place (past_then s frame does next) in
    ap (λ o. option_map_or (λ entry. list_any (is_past s (point s frame) entry) (map (one_more frame.number) r.frames)) o false) step.stands ∙ any

pub done_spawning : (s : Script) (r : Reading) (parent : Progress) (child : ℕ) (does : Deed) → frame_of r parent.number ≡ Some parent → next_deed s parent ≡ Some does
    → IsTrue (is_done s (reading_after_spawn s r parent child) (point s parent))
done_spawning s r parent child does known next =
    let step = at_next s parent does next in
    let here = frame_in r.frames parent.number parent known in
    let place = slice_get-map (one_more parent.number) r.frames here.index ∙ ap (option_map (one_more parent.number)) here.stands in
    let any = any_passes_from_place (is_past s (point s parent) step.entry) (map (one_more parent.number) r.frames) here.index (one_more parent.number parent) place (past_then s parent does next) in
    ap (λ o. option_map_or (λ entry. list_any (is_past s (point s parent) entry) (map (one_more parent.number) r.frames ++ child_progress s parent child ∷ [])) o false) step.stands
    ∙ list_any-append (is_past s (point s parent) step.entry) (map (one_more parent.number) r.frames) (child_progress s parent child ∷ [])
    ∙ or_left _ _ any

-- ---- the tasks

-- a frame of the list is what it was, moved on if it is the one that acts
record IsFrom (frames : List Progress) (n i : ℕ) (now : Progress) : Type 0 where
  pub was : Progress
  pub stood : slice_get frames i ≡ Some was
  pub path : now.path ≡ was.path

from_by : (frames : List Progress) (n i : ℕ) (found : Option Progress) (now : Progress) → slice_get frames i ≡ found → option_map (one_more n) found ≡ Some now → IsFrom frames n i now
from_by frames n i None now is gone = absurd (cc)
from_by frames n i (Some was) now is gone =
    let e : now ≡ one_more n was = cc in record { was = was; stood = is; path = ap (λ f. f.path) e ∙ path_kept n was }

from : (frames : List Progress) (n i : ℕ) (now : Progress) → slice_get (map (one_more n) frames) i ≡ Some now → IsFrom frames n i now
from frames n i now is = from_by frames n i (slice_get frames i) now refl (sym (slice_get-map (one_more n) frames i) ∙ is)

pub tasks_gone : (s : Script) (r : Reading) (n : ℕ) → HasTasks s r → HasTasks s (gone_on r n)
tasks_gone s r n tasks = record {
  different = λ i j frame other is also same.
      let a = from r.frames n i frame is in
      let b = from r.frames n j other also in
      tasks.different i j a.was b.was a.stood b.stood (sym a.path ∙ same ∙ b.path);
  spawned = λ i frame path child is ends.
      let a = from r.frames n i frame is in
      let spawn = tasks.spawned i a.was path child a.stood (sym a.path ∙ ends) in
      record { spawn = spawn.spawn; known = spawn.known; done = done_stays s r n spawn.spawn spawn.done };
}

unlike : (s : Script) (r : Reading) → IsLawful s → HasTasks s r → (parent : Progress) (gives : List OriginGive) → frame_of r parent.number ≡ Some parent
    → next_deed s parent ≡ Some (deed.Spawn gives) → (i : ℕ) (frame : Progress) → slice_get r.frames i ≡ Some frame → frame.path ≡ child_path s parent.path (point s parent) → ⊥
unlike s r lawful tasks parent gives known next i frame is path =
    let spawn = tasks.spawned i frame parent.path (children_before s parent.path (point s parent)) is path in
    let here = spawn_moves s lawful parent gives next in
    let same : spawn.spawn ≡ point s parent = let e : Some spawn.spawn ≡ Some (point s parent) = sym spawn.known ∙ here.known in cc in
    not_done s r tasks parent (deed.Spawn gives) known next (ap (is_done s r) (sym same) ∙ spawn.done)

pub tasks_spawned : (s : Script) (r : Reading) → IsLawful s → HasTasks s r → (parent : Progress) (child : ℕ) (gives : List OriginGive) → frame_of r parent.number ≡ Some parent
    → next_deed s parent ≡ Some (deed.Spawn gives) → HasTasks s (reading_after_spawn s r parent child)
tasks_spawned s r lawful tasks parent child gives known next = record { different = different; spawned = spawns } where
  now : List Progress
  now = map (one_more parent.number) r.frames

  different : (i j : ℕ) (frame other : Progress) → slice_get (map (one_more parent.number) r.frames ++ child_progress s parent child ∷ []) i ≡ Some frame
      → slice_get (map (one_more parent.number) r.frames ++ child_progress s parent child ∷ []) j ≡ Some other → frame.path ≡ other.path → i ≡ j
  different i j frame other is also same =
      elim (more_cases (map (one_more parent.number) r.frames) (child_progress s parent child) i frame is) [
        | inl before ↦
            let a = from r.frames parent.number i frame before in
            elim (more_cases (map (one_more parent.number) r.frames) (child_progress s parent child) j other also) [
              | inl also_before ↦
                  let b = from r.frames parent.number j other also_before in
                  tasks.different i j a.was b.was a.stood b.stood (sym a.path ∙ same ∙ b.path)
              | inr last ↦ absurd (unlike s r lawful tasks parent gives known next i a.was a.stood (sym a.path ∙ same ∙ ap (λ f. f.path) last.1))
            ]
        | inr first ↦ elim (more_cases (map (one_more parent.number) r.frames) (child_progress s parent child) j other also) [
          | inl before ↦
              let b = from r.frames parent.number j other before in
              absurd (unlike s r lawful tasks parent gives known next j b.was b.stood (sym b.path ∙ sym same ∙ ap (λ f. f.path) first.1))
          | inr last ↦ first.0 ∙ sym last.0
        ]
      ]

  spawns : (i : ℕ) (frame : Progress) (path : List ℕ) (number : ℕ) → slice_get (map (one_more parent.number) r.frames ++ child_progress s parent child ∷ []) i ≡ Some frame
      → frame.path ≡ path ++ number ∷ [] → IsSpawned s (reading_after_spawn s r parent child) path number
  spawns i frame path number is ends =
      elim (more_cases (map (one_more parent.number) r.frames) (child_progress s parent child) i frame is) [
        | inl before ↦
            let a = from r.frames parent.number i frame before in
            let spawn = tasks.spawned i a.was path number a.stood (sym a.path ∙ ends) in
            record { spawn = spawn.spawn; known = spawn.known; done = done_spawned s r parent child spawn.spawn spawn.done }
        | inr last ↦
            let parts = same_from_push parent.path path (children_before s parent.path (point s parent)) number (sym (ap (λ f. f.path) last.1) ∙ ends) in
            let here = spawn_moves s lawful parent gives next in
            record {
              spawn = point s parent;
              known = (λ i. spawn_time s (sym parts.0 i) (sym parts.1 i)) ∙ here.known;
              done = done_spawning s r parent child (deed.Spawn gives) known next;
            }
      ]
