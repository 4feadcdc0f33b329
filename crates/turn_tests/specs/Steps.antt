-- The steps of a test: what each asks of the frames before it, and which frames it leaves.
use Rattle.std.specs.Prelude.{Bool, true, ◌&&◌, ◌==◌, nat_lt, nat_le, not, List, [], ◌∷◌}
use Rattle.std.specs.List.{list_all}
use Rattle.swan_model.specs.Rights.{is_queue_mode}
use Rattle.pop_order.specs.Frames.{Frames, frame_at, frames_after_enlist, frames_after_lend, without, may_get}
use Rattle.turn_tests.specs.declared.step.Step.{Step}
use Rattle.turn_tests.specs.declared.step.Step.TheVariants.{Enlist, Lend, Back}

-- whether the frames allow a step's call
abbrev pub allows_step : Frames → Step → Bool
allows_step frames (Enlist parent child queue mode) =
    nat_lt parent child && (list_all (λ f. nat_le f.0 child) frames && (may_get (frame_at frames child) parent queue && is_queue_mode mode))
allows_step frames (Back child) = list_all (λ f. not (f.1.parent == child)) frames
allows_step frames _ = true

-- the frames after a step that has its answer
abbrev pub after_step : Frames → Step → Frames
after_step frames (Enlist parent child queue mode) = frames_after_enlist frames parent child (record { mode = mode; number = queue })
after_step frames (Lend child) = frames_after_lend frames child
after_step frames (Back child) = without frames child
after_step frames _ = frames

-- whether each step is allowed where those before it have their answers
abbrev pub allows_steps : Frames → List Step → Bool
allows_steps frames [] = true
allows_steps frames (first ∷ steps) = allows_step frames first && allows_steps (after_step frames first) steps
