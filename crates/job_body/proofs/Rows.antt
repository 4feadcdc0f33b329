-- Steps of work in a row: by the instructions of a program, and so by the lines of its job.
use Rattle.std.proofs.Common.{◌≡◌, ℕ, zero, suc, ◌<◌, ◌+◌, ◌-◌, ◌∙◌, List, Option, Some, None, IfSome, IfNone, slice_get, ap, ap₂, sym, subst, refl, arith}
use Rattle.swan_model.specs.declared.body.Answer.{Answer}
use Rattle.swan_model.specs.declared.body.Answer.TheVariants as answer
use Rattle.swan_model.specs.declared.body.Ask.{Ask}
use Rattle.swan_model.specs.declared.body.Ask.TheVariants as ask
use Rattle.swan_model.specs.declared.body.Stop.{Stop}
use Rattle.swan_model.specs.declared.body.Worked.{Worked}
use Rattle.swan_model.specs.declared.fault.Trouble.{Trouble}
use Rattle.swan_model.specs.declared.value.Value.{Value}
use Rattle.swan_model.specs.Work.{ask_after, AreWork, local_after, told_after}
use Rattle.job_reader.specs.declared.line.Line.{Line}
use Rattle.job_body.specs.declared.instruction.Action.{Action}
use Rattle.job_body.specs.declared.instruction.Action.TheVariants as action
use Rattle.job_body.specs.declared.instruction.Instruction.{Instruction}
use Rattle.job_body.specs.declared.instruction.Work.{Work}
use Rattle.job_body.specs.Compiled.{program_of}
use Rattle.job_body.specs.Runs.{caught_after_answer, caught_after_answer_by, values_after_answer, values_after_answer_by, ask_by, done, last_ask, last_of, next_by, run, after_answer_by, worked}
use Rattle.job_body.specs.Standing.{Standing}
use Rattle.job_body.specs.Steps.{next}
use Rattle.job_body.proofs.Steps.{next-program}

-- ---- what is told nothing stays as it is

answered-nothing : (values : List Value) (action : Action) → values_after_answer values action answer.Nothing ≡ values
answered-nothing values action = grind arith

by-nothing : (values : List Value) (instruction : Option Instruction) → values_after_answer_by values instruction answer.Nothing ≡ values
by-nothing values None = refl
by-nothing values (Some instruction) = answered-nothing values instruction.action

caught-nothing : (caught : ℕ) (action : Action) → caught_after_answer caught action answer.Nothing ≡ caught
caught-nothing caught action = grind arith

caught-by-nothing : (caught : ℕ) (instruction : Option Instruction) → caught_after_answer_by caught instruction answer.Nothing ≡ caught
caught-by-nothing caught None = refl
caught-by-nothing caught (Some instruction) = caught-nothing caught instruction.action

told-nothing : (program : List Instruction) (s : Standing) → after_answer_by program s answer.Nothing ≡ s
told-nothing program s =
    ap₂ {C = Standing} (λ values caught. record { before = s.before; at = s.at; values = values; caught = caught })
    (by-nothing s.values (slice_get program s.before)) (caught-by-nothing s.caught (slice_get program s.before))

-- ---- a row of n steps of work, and the step after it

-- an activation that has taken n steps of work, and has been told what its next step is told
pub record HasWorked (program : List Instruction) (s : Standing) (first : Answer) (fuel n : ℕ) (now : Standing) : Type 0 where
  pub works : AreWork (next_by program) s first fuel n
  pub is_now : now ≡ after_answer_by program (local_after (next_by program) s first fuel n) (told_after first n)

-- what the step leaves and asks for that comes next
pub stepped : (program : List Instruction) (s : Standing) (first : Answer) (fuel n : ℕ) (now moved : Standing) (asks : Ask Standing) → HasWorked program s first fuel n now → (moved, asks) ≡ run program now (fuel - n - 1) (slice_get program now.at) → (moved ≡ local_after (next_by program) s first fuel (suc n)) × (asks ≡ ask_after (next_by program) s first fuel n)
stepped program s first fuel n now moved asks so is =
    let step = is ∙ ap (λ told. run program told (fuel - n - 1) (slice_get program told.at)) so.is_now in
    (ap (λ r. r.0) step, ap (λ r. r.1) step)

pub one-more : (program : List Instruction) (s : Standing) (first : Answer) (fuel n : ℕ) (now moved : Standing) → HasWorked program s first fuel n now → (moved, ask.Work) ≡ run program now (fuel - n - 1) (slice_get program now.at) → HasWorked program s first fuel (n + 1) moved
one-more program s first fuel n now moved so is =
    let both = stepped program s first fuel n now moved ask.Work so is in
    let e : suc n ≡ n + 1 = omega arith in
    let more : HasWorked program s first fuel (suc n) moved = record {
      works = (so.works, sym both.1);
      is_now = sym (told-nothing program moved) ∙ ap (λ t. after_answer_by program t answer.Nothing) both.0;
    } in
    subst (λ k. HasWorked program s first fuel k moved) e more

-- the same, by the line of work at which it stands
pub did-work : (program : List Instruction) (s : Standing) (first : Answer) (fuel n rest : ℕ) (now moved : Standing) (i : Instruction) (w : Work) (met : Option Trouble) → HasWorked program s first fuel n now → rest ≡ fuel - n - 1 → slice_get program now.at ≡ Some i → i.action ≡ action.Work w → (moved, ask_by met) ≡ worked now i.next rest w → met ≡ None → HasWorked program s first fuel (n + 1) moved
did-work program s first fuel n rest now moved i w met so left line is did none =
    let works : ◌≡◌ {A = Standing × Ask Standing} (moved, ask.Work) (moved, ask_by met) = ap {B = Standing × Ask Standing} (λ t. (moved, ask_by t)) (sym none) in
    let does : ◌≡◌ {A = Standing × Ask Standing} (worked now i.next (fuel - n - 1) w) (run program now (fuel - n - 1) (slice_get program now.at)) =
    ap (done program now i.next (fuel - n - 1)) (sym is) ∙ ap (run program now (fuel - n - 1)) (sym line) in
    one-more program s first fuel n now moved so (works ∙ did ∙ ap (λ k. worked now i.next k w) left ∙ does)

-- where it is after a row that isn't empty
pub at-end : (program : List Instruction) (s : Standing) (first : Answer) (fuel n : ℕ) (now : Standing) → HasWorked program s first fuel n now → 0 < n → now ≡ local_after (next_by program) s first fuel n
at-end program s first fuel zero now so more = absurd (omega (arith, more))
at-end program s first fuel (suc n) now so more = so.is_now ∙ told-nothing program (local_after (next_by program) s first fuel (suc n))

-- a row of one step
pub one-step : (program : List Instruction) (s : Standing) (first : Answer) (left : ℕ) (row : Worked Standing) → AreWork (next_by program) s first (suc left) row.works → IfNone row.stop (row.works ≡ 1) → IfNone row.stop (row.local ≡ local_after (next_by program) s first (suc left) row.works) → IfSome row.stop (λ stop. row.works < 1) → IfSome row.stop (λ stop. row.local ≡ local_after (next_by program) s first (suc left) (suc row.works)) → IfSome row.stop (λ stop. stop.ask ≡ ask_after (next_by program) s first (suc left) row.works) → last_of row ≡ next_by program s first left
one-step program s first left row = at row.local row.works row.stop where
  paid : suc left - 0 - 1 ≡ left
  paid = omega arith

  step : ℕ → Standing × Ask Standing
  step fuel = next_by program s first fuel

  at : (local : Standing) (works : ℕ) (stop : Option (Stop Standing)) → AreWork (next_by program) s first (suc left) works → IfNone stop (works ≡ 1) → IfNone stop (local ≡ local_after (next_by program) s first (suc left) works) → IfSome stop (λ stop. works < 1) → IfSome stop (λ stop. local ≡ local_after (next_by program) s first (suc left) (suc works)) → IfSome stop (λ stop. stop.ask ≡ ask_after (next_by program) s first (suc left) works)
      → ◌≡◌ {A = Standing × Ask Standing} (local, last_ask stop) (step left)
  at local zero None are one moved few gone asked = absurd (omega (arith, one))
  at local (suc zero) None are one moved few gone asked =
      ap {B = Standing × Ask Standing} (λ l. (l, ask.Work)) moved
      ∙ ap {B = Standing × Ask Standing} (λ a. ((step (suc left - 0 - 1)).0, a)) (sym are.1)
      ∙ ap step paid
  at local (suc (suc n)) None are one moved few gone asked = absurd (omega (arith, one))
  at local zero (Some stop) are one moved few gone asked =
      ap {B = Standing × Ask Standing} (λ l. (l, stop.ask)) gone
      ∙ ap {B = Standing × Ask Standing} (λ a. ((step (suc left - 0 - 1)).0, a)) asked
      ∙ ap step paid
  at local (suc n) (Some stop) are one moved few gone asked = absurd (omega (arith, few))

-- where its next step stands, whatever that is told
pub stands-at : (program : List Instruction) (s : Standing) (first : Answer) (fuel n : ℕ) (now : Standing) → HasWorked program s first fuel n now → now.at ≡ (local_after (next_by program) s first fuel n).at
stands-at program s first fuel n now so = ap (λ t. t.at) so.is_now

-- ---- the steps of a program are those of its job, as functions

pub next-is : (lines : List Line) → next_by (program_of lines) ≡ next lines
next-is lines i s a fuel = next-program lines s a fuel i
