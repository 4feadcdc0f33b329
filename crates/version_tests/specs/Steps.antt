-- The steps of a test: what each asks of the objects before it, and which objects it leaves.
use Rattle.std.specs.Prelude.{ℕ, Bool, true, false, ◌&&◌, ◌||◌, ◌==◌, not, Option, None, Some, List, [], ◌∷◌, is_none}
use Rattle.std.specs.List.{list_all}
use Rattle.swan_model.specs.declared.rights.Mode.{Mode}
use Rattle.swan_model.specs.declared.value.Value.TheVariants.{Int, Bytes}
use Rattle.swan_model.specs.Rights.{allows, is_in, is_queue_mode}
use Rattle.swan_model.specs.Versions.{VersionState, Placed, placed_at, owing, objects_after_create, after_access, after_write, objects_after_finish}
use Rattle.version_tests.specs.declared.step.Step.{Step}
use Rattle.version_tests.specs.declared.step.Step.TheVariants.{Create, CreateRecord, Access, Ready, Reads, ReadsRecord, Write, Finish}

-- whether a frame has no object at a place
abbrev pub is_free : VersionState → (frame place : ℕ) → Bool
is_free state frame place = is_none (placed_at state frame place)

-- where a child has the object already, both are only to read it
abbrev pub stands_beside : (child object : ℕ) → Mode → (ℕ × ℕ) × Placed → Bool
stands_beside child object mode entry =
    not ((entry.0.0 == child) && (entry.1.object == object)) || (is_in entry.1.mode && is_in mode)

-- whether what stands at a parent's place may be given to a child by this mode
abbrev pub may_give : VersionState → (child : ℕ) → Mode → Option Placed → Bool
may_give state child mode None = false
may_give state child mode (Some object) = allows object.mode mode && list_all (stands_beside child object.object mode) state.places

-- whether it is a version of another frame, or has its value
abbrev pub is_settled : (frame : ℕ) → (ℕ × ℕ) × Placed → Bool
is_settled frame entry = not (entry.0.0 == frame) || is_none (owing entry.1.present)

-- whether the objects allow a step's call
abbrev pub allows_step : VersionState → Step → Bool
allows_step state (Create frame place first) = is_free state frame place
allows_step state (CreateRecord frame place bytes) = is_free state frame place
allows_step state (Access parent place child child_place mode) =
    not (parent == child)
    && (may_give state child mode (placed_at state parent place)
    && (not (is_queue_mode mode)
    && is_free state child child_place))
allows_step state (Ready frame answer) = true
allows_step state (Reads frame place answer) = not (is_free state frame place)
allows_step state (ReadsRecord frame place size) = not (is_free state frame place)
allows_step state (Write frame place number) = not (is_free state frame place)
allows_step state (Finish frame) = list_all (is_settled frame) state.places

-- the objects after a step that has its answer
abbrev pub after_step : VersionState → Step → VersionState
after_step state (Create frame place first) = objects_after_create state frame place (Int first)
after_step state (CreateRecord frame place bytes) = objects_after_create state frame place (Bytes bytes)
after_step state (Access parent place child child_place mode) = after_access state parent place child child_place mode
after_step state (Write frame place number) = after_write state frame place (Int number)
after_step state (Finish frame) = objects_after_finish state frame
after_step state _ = state

-- whether each step is allowed where those before it have their answers
abbrev pub allows_steps : VersionState → List Step → Bool
allows_steps state [] = true
allows_steps state (first ∷ steps) = allows_step state first && allows_steps (after_step state first) steps
