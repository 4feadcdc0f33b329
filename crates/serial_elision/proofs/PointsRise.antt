-- A frame's point rises as the frame goes on, and between two of its points its task has no other entry.
use Rattle.std.proofs.Common.{◌≡◌, ℕ, ◌+◌, ◌-◌, ◌<◌, ◌≤◌, inl, inr, ◌⊎◌, true, nat_eq, length, sym, ap, subst, ◌∙◌, arith}
use Rattle.std.proofs.lemmas.Bool.{cases_order}
use Rattle.std.specs.Cmp.Lexicographic.{pointwise}
use Rattle.swan_model.specs.declared.origin.Origin.{Origin}
use Rattle.swan_model.specs.declared.origin.Origin.TheVariants.{Step}
use Rattle.swan_model.specs.declared.rights.Mode.{Mode}
use Rattle.swan_model.specs.declared.script.Script.{Script}
use Rattle.swan_model.specs.Granted.{holds, may_use}
use Rattle.swan_model.specs.Lawful.{IsLawful}
use Rattle.swan_model.specs.Nested.{IsEntryOf}
use Rattle.swan_model.specs.SerialTime.{Progress, is_of, point, time, times}
use Rattle.serial_elision.proofs.MadeAbove.{held_since}
use Rattle.swan_model.proofs.Paths.{path_is-itself}
use Rattle.swan_model.proofs.TaskEntries.{point_is, point_own, point_over}
use Rattle.swan_model.proofs.Times.{times_rise, times_all}
use Rattle.swan_model.proofs.MovedFrames.{later_point}

-- the frame with one more entry done
abbrev pub further : Progress → Progress
further frame = record frame { done = frame.done + 1 }

-- a frame that has no entry left keeps its point
pub point_stays : (s : Script) (frame : Progress) → length (times s frame.path) ≤ frame.done → point s (further frame) ≡ point s frame
point_stays s frame over = point_over s (further frame) (omega arith) ∙ sym (point_over s frame over)

-- between the two points the task has no entry
none-between : (s : Script) (frame : Progress) → frame.done < length (times s frame.path) → (m : ℕ) → point s frame < m → m < point s (further frame) → IsEntryOf s frame.path m → ⊥
none-between s frame left m after before own =
    let passes : is_of frame.path own.entry ≡ true = ap (λ p. pointwise nat_eq p frame.path) own.own ∙ path_is-itself frame.path in
    let place = times_all s frame.path m own.entry own.stands passes in
    let here : time s frame.path place.0 ≡ m = place.2 in
    elim (cases_order place.0 frame.done) [
      | inl same ↦
          let e : time s frame.path place.0 ≡ time s frame.path frame.done = ap (time s frame.path) same in
          omega (arith, here, e, point_is s frame left)
      | inr differ ↦ elim differ [
        | inl fewer ↦
            let rise = times_rise s frame.path place.0 frame.done fewer left in
            omega (arith, here, rise, point_is s frame left)
        | inr more ↦ elim (cases_order (frame.done + 1) place.0) [
          | inl same ↦
              let e : time s frame.path (frame.done + 1) ≡ time s frame.path place.0 = ap (time s frame.path) same in
              let next = point_is s (further frame) (omega (arith, place.1)) in
              omega (arith, here, e, next)
          | inr apart ↦ elim apart [
            | inl beyond ↦
                let rise = times_rise s frame.path (frame.done + 1) place.0 beyond place.1 in
                let next = point_is s (further frame) (omega (arith, place.1)) in
                omega (arith, here, rise, next)
            | inr under ↦ absurd (omega arith)
          ]
        ]
      ]
    ]

-- what a frame may use more once it has gone on is what its step made
pub held_further : (s : Script) → IsLawful s → (frame : Progress) (mode : Mode) (origin : Origin) → frame.done < length (times s frame.path) → may_use (holds s frame.path (point s (further frame))) mode origin ≡ true → (may_use (holds s frame.path (point s frame)) mode origin ≡ true) ⊎ (origin ≡ Step (point s frame))
held_further s lawful frame mode origin left may =
    let n = point s frame in
    let k = point s (further frame) - n in
    let e : point s (further frame) ≡ n + k = omega (arith, later_point s frame) in
    held_since s lawful frame.path n mode origin (point_own s frame left) k (λ m after less. none-between s frame left m after (omega arith))
    (subst (λ t. may_use (holds s frame.path t) mode origin ≡ true) e may)
