-- Each line of a checked job takes a step that meets no fault of rights.
use Rattle.std.proofs.Common.{◌≡◌, ℕ, ◌+◌, Bool, true, false, ℤ, pos, negsuc, Option, Some, None, Result, Ok, Err, List, [], ◌∷◌, ◌++◌, length, map, flat_map, zip, slice_get, if◌then◌else◌, refl, sym, ap, ◌∙◌, subst}
use Rattle.std.proofs.lemmas.Bool.{false≢true, true≢false}
use Rattle.swan_model.specs.declared.body.Ask.{Ask}
use Rattle.swan_model.specs.declared.body.Ask.TheVariants as ask
use Rattle.swan_model.specs.declared.fault.Trouble.{Trouble}
use Rattle.swan_model.specs.declared.rights.Mode.{Mode}
use Rattle.swan_model.specs.declared.rights.Mode.TheVariants.{In, Out, InOut, Push, Pop, PushPop}
use Rattle.swan_model.specs.declared.value.Kind.{Kind}
use Rattle.swan_model.specs.declared.value.Kind.TheVariants as kind
use Rattle.swan_model.specs.declared.value.Value.{Value}
use Rattle.swan_model.specs.Rights.{is_aliased}
use Rattle.swan_model.specs.SerialState.{Activation, Store}
use Rattle.swan_model.specs.SerialStep.{effect, after_next}
use Rattle.swan_model.specs.Values.{zero_of}
use Rattle.job_reader.specs.Faults.{◌>>=◌}
use Rattle.job_reader.specs.Jobs.{IsPlaced, edition_of, may_stand}
use Rattle.job_reader.specs.Positions as positions
use Rattle.job_reader.specs.Positions.{is_open}
use Rattle.job_reader.specs.declared.atom.Atom.{Atom}
use Rattle.job_reader.specs.declared.block.Block.{Block}
use Rattle.job_reader.specs.declared.block.Block.TheVariants as block
use Rattle.job_reader.specs.declared.fault.JobKind.{JobKind}
use Rattle.job_reader.specs.declared.line.Edition.{Edition}
use Rattle.job_reader.specs.declared.line.Line.{Line}
use Rattle.job_reader.specs.declared.line.Line.TheVariants as line
use Rattle.job_reader.specs.declared.position.Position.{Position}
use Rattle.job_reader.specs.declared.position.Position.TheVariants.{First, Top, InTask, InDo, Outside}
use Rattle.privilege_check.specs.FirstFault.{kind_dropped}
use Rattle.privilege_check.specs.Names.{KnownNames, before_first_line, known}
use Rattle.privilege_check.specs.Spawns.{lent}
use Rattle.privilege_check.specs.Uses.{held, value, variable}
use Rattle.job_body.specs.declared.block.BlockWithLine.{BlockWithLine}
use Rattle.job_body.specs.declared.block.BlockWithLine.TheVariants as opened
use Rattle.job_body.specs.declared.take.Take.{Take}
use Rattle.job_body.specs.Blocks.{blocks_at, exit_at}
use Rattle.job_body.specs.Standing.{Standing}
use Rattle.job_body.specs.Steps as steps
use Rattle.job_body.specs.Tasks.{executed_from, lines_of_task, so_far_at, takes, task_index}
use Rattle.job_body.proofs.RightsEffects.{EffectFits, FitsStore, empty-fits, object-fits, pop-fits, push-fits, queue-fits, read-fits, spawn-fits, sync-fits, work-fits, write-fits}
use Rattle.job_body.proofs.RightsEntries.{entries, held_at, made_entry}
use Rattle.job_body.proofs.RightsJumps.{BlocksAt, BlocksStand, blocks-stand, exit-stands}
use Rattle.job_body.proofs.RightsLines.{IsStatementAt, SpawnPasses, child-stands, is_statement, spawn-passes, statement-at, task-known}
use Rattle.job_body.proofs.RightsNames.{Entry, modes}
use Rattle.job_body.proofs.RightsPlaces.{IsLineAt, Passes, before_at, line-at, position_at, place-next}
use Rattle.job_body.proofs.RightsSpawns.{AllMayUse, ChildHolds, HeldAt, InStore, child-holds, gives-apart, gives-lent, held-may, held_modes_of, lent-may, may-hold, modes-lent, to_give}
use Rattle.job_body.proofs.RightsStands.{Stands, held-same, is_task, stands-executed, stands-made, stands-on}
use Rattle.job_body.proofs.RightsTasks.{IsTaskAt, held_modes, take_of_meaning, takes-meanings}

-- ---- the next line

abbrev is_closing : Line → Bool
is_closing line.End = true
is_closing _ = false

goes-on : (edition : Edition) (place : Position) (line : Line) → is_open place ≡ true → may_stand edition place line ≡ true → is_closing line ≡ false → is_open (positions.after place line) ≡ true
goes-on edition First line within stands e = absurd (false≢true within)
goes-on edition (Top n) line within stands e = absurd (false≢true within)
goes-on edition Outside line within stands e = absurd (false≢true within)
goes-on edition InTask line.Do within stands e = refl
goes-on edition InTask line within stands e = refl
goes-on edition (InDo inside) (line.If a) within stands e = refl
goes-on edition (InDo inside) (line.While a) within stands e = refl
goes-on edition (InDo []) line.Else within stands e = refl
goes-on edition (InDo (innermost ∷ inside)) line.Else within stands e = refl
goes-on edition (InDo inside) line.End within stands e = absurd (true≢false e)
goes-on edition (InDo inside) line within stands e = refl

-- what is known of a step
pub record Step (job : List Line) (store : Store) (a : Activation Standing) (s : Standing) (line : Line) : Type 0 where
  pub placed : IsPlaced (edition_of job) First job
  pub passes : Passes before_first_line job
  pub is : slice_get job s.at ≡ Some line
  pub stands : Stands job s.at (held_modes_of a.holdings)
  pub stored : InStore (length store.cells) (length store.queues) a.holdings

module _ (job : List Line) (store : Store) (a : Activation Standing) (s : Standing) (line : Line) (step : Step job store a s line) where
  at-line : IsLineAt job s.at line
  at-line = line-at job s.at line step.placed step.passes step.is

  -- an activation that goes on at a line where it holds the same
  at-fits : (to : Standing) → Stands job to.at (held_modes_of a.holdings) → FitsStore job store (after_next a to)
  at-fits to stands = record { stands = stands; stored = step.stored }

  to-fits : (to : ℕ) → Stands job to (held_modes_of a.holdings) → FitsStore job store (after_next a (steps.after_move_to job s to))
  to-fits to stands = at-fits (steps.after_move_to job s to) (stands-executed job to (held_modes_of a.holdings) step.placed stands)

  -- the next line, after a statement that isn't `end`
  next-stands : is_task line ≡ false → made_entry line ≡ [] → is_closing line ≡ false → Stands job (s.at + 1) (held_modes_of a.holdings)
  next-stands plain none e =
      stands-on job s.at line (held_modes_of a.holdings) step.is plain none (goes-on (edition_of job) (position_at job s.at) line step.stands.within at-line.stands e) step.stands

  on-fits : is_task line ≡ false → made_entry line ≡ [] → is_closing line ≡ false → FitsStore job store (after_next a (steps.after_move_on job s))
  on-fits plain none e = to-fits (s.at + 1) (next-stands plain none e)

  variable-fits : (name : List ℕ) (new : Value) → is_task line ≡ false → made_entry line ≡ [] → is_closing line ≡ false → FitsStore job store (after_next a (steps.with_variable job s name new))
  variable-fits name new plain none e =
      at-fits (steps.with_variable job s name new) (stands-executed job (s.at + 1) (held_modes_of a.holdings) step.placed (next-stands plain none e))

  made-stands : (name : List ℕ) (mode : Mode) → is_task line ≡ false → made_entry line ≡ (name, mode) ∷ [] → is_closing line ≡ false → Stands job (executed_from job (s.at + 1)) (held_modes_of a.holdings ++ mode ∷ [])
  made-stands name mode plain made e =
      stands-executed job (s.at + 1) (held_modes_of a.holdings ++ mode ∷ []) step.placed
      (stands-made job s.at line (held_modes_of a.holdings) name mode step.is plain made (goes-on (edition_of job) (position_at job s.at) line step.stands.within at-line.stands e) step.stands)

  -- a statement
  doing : is_statement line ≡ true → IsStatementAt job s.at (held_modes_of a.holdings)
  doing e = statement-at job step.placed step.passes s.at line (held_modes_of a.holdings) step.is step.stands e

  -- a use that passes the check is one of what is held
  used : (asked : Option Kind) (mode : Mode) (name : List ℕ) (k : Kind) → is_statement line ≡ true → held (known (before_at job s.at)) asked mode name ≡ Ok k → HeldAt a.holdings (steps.place_at job s.at name) mode
  used asked mode name k e may =
      let d = doing e in
      let all = entries job (so_far_at job s.at) in
      subst (λ p. HeldAt a.holdings p mode) (sym (d.place name))
      (may-hold all a.holdings name mode d.holds (held-may all (known (before_at job s.at)) asked mode name k d.names may))

-- ---- parts of a check

checked-second : (r : Result Kind JobKind) (f : Kind → Result Kind JobKind) → kind_dropped (r >>= f) ≡ Ok tt → (j : Kind) × (k : Kind) × (f j ≡ Ok k)
checked-second (Err k) f e = absurd (cc)
checked-second (Ok j) f e = go (f j) refl e where
  go : (r : Result Kind JobKind) → f j ≡ r → kind_dropped r ≡ Ok tt → (j : Kind) × (k : Kind) × (f j ≡ Ok k)
  go (Ok k) is e = (j, k, is)
  go (Err k) is e = absurd (cc)

pub checked-first : (r : Result Kind JobKind) (f : Kind → Result Kind JobKind) → kind_dropped (r >>= f) ≡ Ok tt → (k : Kind) × (r ≡ Ok k)
checked-first (Err k) f e = absurd (cc)
checked-first (Ok k) f e = (k, refl)

-- ---- steps

abbrev StepFits : List Line → ℕ → Store → Activation Standing → Standing × Ask Standing → Type 0
StepFits job n store a taken = EffectFits job store (effect n store (after_next a taken.0) taken.1)

assigned-fits : (job : List Line) (n : ℕ) (store : Store) (a : Activation Standing) (s : Standing) (name : List ℕ) (r : Result Value Trouble) → ((new : Value) → FitsStore job store (after_next a (steps.with_variable job s name new))) → StepFits job n store a (steps.step_of_assignment job s name r)
assigned-fits job n store a s name (Ok new) fits = work-fits job n store (after_next a (steps.with_variable job s name new)) (fits new)
assigned-fits job n store a s name (Err why) fits = refl

branch-fits : (job : List Line) (n : ℕ) (store : Store) (a : Activation Standing) (b : Bool) (x y : Standing) → FitsStore job store (after_next a x) → FitsStore job store (after_next a y) → StepFits job n store a ((if b then x else y), ask.Work)
branch-fits job n store a true x y first second = work-fits job n store (after_next a x) first
branch-fits job n store a false x y first second = work-fits job n store (after_next a y) second

-- the `end` of a block, or of the task
ended-fits : (job : List Line) (n : ℕ) (store : Store) (a : Activation Standing) (s : Standing) (step : Step job store a s line.End) (inside : List Block) (blocks : List BlockWithLine) → position_at job s.at ≡ InDo inside → BlocksStand job (held_modes_of a.holdings) inside blocks → StepFits job n store a (steps.ended job s blocks)
ended-fits job n store a s step inside [] at b = tt
ended-fits job n store a s step [] (first ∷ blocks) at b = absurd (let e = b.0 in cc)
ended-fits job n store a s step (innermost ∷ inside) (opened.If ∷ blocks) at b =
    let within : is_open (positions.after (position_at job s.at) line.End) ≡ true = ap (λ p. is_open (positions.after p line.End)) at in
    let next = stands-on job s.at line.End (held_modes_of a.holdings) step.is refl refl within step.stands in
    work-fits job n store (after_next a (steps.after_move_on job s)) (to-fits job store a s line.End step (s.at + 1) next)
ended-fits job n store a s step (innermost ∷ inside) (opened.While i ∷ blocks) at b =
    work-fits job n store (after_next a (steps.after_move_to job s i)) (to-fits job store a s line.End step i b.1.0)

end-fits : (job : List Line) (n : ℕ) (store : Store) (a : Activation Standing) (s : Standing) (step : Step job store a s line.End) → StepFits job n store a (steps.ended job s (blocks_at job s.at))
end-fits job n store a s step =
    let d = doing job store a s line.End step refl in
    ended-fits job n store a s step d.inside (blocks_at job s.at) d.at
    (subst (λ held. BlocksStand job held d.inside (blocks_at job s.at)) (sym step.stands.holds)
    (subst (λ p. BlocksAt p job (modes (held_at job s.at)) (blocks_at job s.at)) d.at (blocks-stand job step.placed s.at)))

-- a line that opens a block, or goes past it
opens-fits : (job : List Line) (store : Store) (a : Activation Standing) (s : Standing) (line : Line) (step : Step job store a s line) (innermost : Block) (inside : List Block) → is_task line ≡ false → made_entry line ≡ [] → positions.after (position_at job s.at) line ≡ InDo (innermost ∷ inside) → Stands job (exit_at job s.at).otherwise (held_modes_of a.holdings) × Stands job (exit_at job s.at).after (held_modes_of a.holdings)
opens-fits job store a s line step innermost inside plain none at =
    exit-stands job s.at innermost inside (held_modes_of a.holdings) step.placed (place-next job s.at line step.is ∙ at)
    (ap modes (held-same job s.at line step.is plain none) ∙ sym step.stands.holds)

if-fits : (job : List Line) (n : ℕ) (store : Store) (a : Activation Standing) (s : Standing) (c : Atom) (step : Step job store a s (line.If c)) (b : Bool) → StepFits job n store a ((if b then steps.after_move_on job s else steps.after_move_to job s (exit_at job s.at).otherwise), ask.Work)
if-fits job n store a s c step b =
    let d = doing job store a s (line.If c) step refl in
    let out = opens-fits job store a s (line.If c) step block.If d.inside refl refl (ap (λ p. positions.after p (line.If c)) d.at) in
    branch-fits job n store a b (steps.after_move_on job s) (steps.after_move_to job s (exit_at job s.at).otherwise)
    (on-fits job store a s (line.If c) step refl refl refl) (to-fits job store a s (line.If c) step (exit_at job s.at).otherwise out.0)

while-fits : (job : List Line) (n : ℕ) (store : Store) (a : Activation Standing) (s : Standing) (c : Atom) (step : Step job store a s (line.While c)) (b : Bool) → StepFits job n store a ((if b then steps.after_move_on job s else steps.after_move_to job s (exit_at job s.at).after), ask.Work)
while-fits job n store a s c step b =
    let d = doing job store a s (line.While c) step refl in
    let out = opens-fits job store a s (line.While c) step block.While d.inside refl refl (ap (λ p. positions.after p (line.While c)) d.at) in
    branch-fits job n store a b (steps.after_move_on job s) (steps.after_move_to job s (exit_at job s.at).after)
    (on-fits job store a s (line.While c) step refl refl refl) (to-fits job store a s (line.While c) step (exit_at job s.at).after out.1)

after-else : (inside : List Block) → positions.takes_else inside ≡ true → (others : List Block) × (positions.after_else inside ≡ InDo (block.Else ∷ others))
after-else [] e = absurd (false≢true e)
after-else (innermost ∷ inside) e = (inside, refl)

else-fits : (job : List Line) (n : ℕ) (store : Store) (a : Activation Standing) (s : Standing) (step : Step job store a s line.Else) → StepFits job n store a (steps.after_move_to job s (exit_at job s.at).after, ask.Work)
else-fits job n store a s step =
    let d = doing job store a s line.Else step refl in
    let may : positions.takes_else d.inside ≡ true = subst (λ p. may_stand (edition_of job) p line.Else ≡ true) d.at (at-line job store a s line.Else step).stands in
    let others = after-else d.inside may in
    let out = opens-fits job store a s line.Else step block.Else others.0 refl refl (ap (λ p. positions.after p line.Else) d.at ∙ others.1) in
    work-fits job n store (after_next a (steps.after_move_to job s (exit_at job s.at).after)) (to-fits job store a s line.Else step (exit_at job s.at).after out.1)

-- ---- spawns

spawned-fits : (job : List Line) (n : ℕ) (store : Store) (a : Activation Standing) (s : Standing) (fuel : ℤ) (index : ℕ) (given : List (Take × Atom)) (held : List Mode) → FitsStore job store (after_next a (steps.after_move_on job s)) → is_aliased (flat_map (steps.access_given job s) given) ≡ false → ChildHolds (length store.cells) (length store.queues) a.holdings (flat_map (steps.access_given job s) given) held → Stands job (executed_from job (index + 1)) held → StepFits job n store a (steps.step_of_spawn job s fuel index given)
spawned-fits job n store a s (negsuc k) index given held fits apart holds stands = refl
spawned-fits job n store a s (pos fuel) index given held fits apart holds stands =
    spawn-fits job n store (after_next a (steps.after_move_on job s))
    (record { local = steps.begun job index (flat_map (steps.value_given job s) given); gives = flat_map (steps.access_given job s) given; fuel = fuel })
    held apart holds stands fits

spawn-step : (job : List Line) (n : ℕ) (store : Store) (a : Activation Standing) (s : Standing) (fuel : Atom) (task : List ℕ) (args : List Atom) (step : Step job store a s (line.Spawn fuel task args)) (amount : ℤ) → StepFits job n store a (steps.step_of_spawn job s amount (task_index job task) (zip (takes (lines_of_task job (task_index job task))) args))
spawn-step job n store a s fuel task args step amount =
    spawned-fits job n store a s amount index given (held_modes p.taken) (on-fits job store a s here step refl refl refl)
    (ap is_aliased gives ∙ gives-apart job s.at all d.place gifts may p.once)
    (subst (λ gs. ChildHolds (length store.cells) (length store.queues) a.holdings gs (held_modes p.taken)) (sym gives)
    (subst (ChildHolds (length store.cells) (length store.queues) a.holdings (map (to_give job s.at) gifts)) (modes-lent names p.taken args p.count p.all)
    (child-holds (length store.cells) (length store.queues) job s.at all a.holdings d.place d.holds step.stored gifts may)))
    (stands-executed job (index + 1) (held_modes p.taken) step.placed (child-stands job step.placed index task p.taken p.child found)) where
      here : Line
      here = line.Spawn fuel task args

      d : IsStatementAt job s.at (held_modes_of a.holdings)
      d = doing job store a s here step refl

      p : SpawnPasses (before_at job s.at) task args
      p = spawn-passes (before_at job s.at) fuel task args (at-line job store a s here step).passes

      index : ℕ
      index = task_index job task

      found : IsTaskAt job (task_index job task) task p.taken
      found = task-known job step.passes s.at (held_modes_of a.holdings) d task p.taken p.known

      names : KnownNames
      names = known (before_at job s.at)

      all : List Entry
      all = entries job (so_far_at job s.at)

      gifts : List (List ℕ × Mode)
      gifts = lent p.taken args

      given : List (Take × Atom)
      given = zip (takes (lines_of_task job (task_index job task))) args

      same : takes (lines_of_task job (task_index job task)) ≡ map take_of_meaning p.taken
      same = takes-meanings (lines_of_task job (task_index job task)) ∙ ap (λ ms. map take_of_meaning ms) found.takes

      gives : flat_map (steps.access_given job s) given ≡ map (to_give job s.at) gifts
      gives = ap (λ ts. flat_map (steps.access_given job s) (zip ts args)) same ∙ gives-lent job s names p.taken args p.all

      may : AllMayUse all gifts
      may = lent-may all names d.names p.taken args p.all

-- ---- each line

read-step : (job : List Line) (n : ℕ) (store : Store) (a : Activation Standing) (s : Standing) (v o : List ℕ) (step : Step job store a s (line.Read v o)) → StepFits job n store a (steps.after_move_on job s, ask.Read (steps.place_at job s.at o))
read-step job n store a s v o step =
    let here = line.Read v o in
    let names = known (before_at job s.at) in
    let may = checked-second (variable names None v) (λ k. held names (Some k) In o) (at-line job store a s here step).passes in
    read-fits job n store (after_next a (steps.after_move_on job s)) (steps.place_at job s.at o) (used job store a s here step (Some may.0) In o may.1 refl may.2) (on-fits job store a s here step refl refl refl)

pop-step : (job : List Line) (n : ℕ) (store : Store) (a : Activation Standing) (s : Standing) (v q : List ℕ) (step : Step job store a s (line.Pop v q)) → StepFits job n store a (steps.after_move_on job s, ask.Pop (steps.place_at job s.at q))
pop-step job n store a s v q step =
    let here = line.Pop v q in
    let names = known (before_at job s.at) in
    let may = checked-second (variable names None v) (λ k. held names (Some k) Pop q) (at-line job store a s here step).passes in
    pop-fits job n store (after_next a (steps.after_move_on job s)) (steps.place_at job s.at q) (used job store a s here step (Some may.0) Pop q may.1 refl may.2) (on-fits job store a s here step refl refl refl)

empty-step : (job : List Line) (n : ℕ) (store : Store) (a : Activation Standing) (s : Standing) (v q : List ℕ) (step : Step job store a s (line.Empty v q)) → StepFits job n store a (steps.after_move_on job s, ask.Empty (steps.place_at job s.at q))
empty-step job n store a s v q step =
    let here = line.Empty v q in
    let names = known (before_at job s.at) in
    let may = checked-second (variable names (Some kind.Int) v) (λ k. held names None Pop q) (at-line job store a s here step).passes in
    empty-fits job n store (after_next a (steps.after_move_on job s)) (steps.place_at job s.at q) (used job store a s here step None Pop q may.1 refl may.2) (on-fits job store a s here step refl refl refl)

write-step : (job : List Line) (n : ℕ) (store : Store) (a : Activation Standing) (s : Standing) (o : List ℕ) (c : Atom) (new : Value) (step : Step job store a s (line.Write o c)) → StepFits job n store a (steps.after_move_on job s, ask.Write (steps.place_at job s.at o) new)
write-step job n store a s o c new step =
    let here = line.Write o c in
    let names = known (before_at job s.at) in
    let may = checked-first (held names None Out o) (λ k. value names (Some k) c) (at-line job store a s here step).passes in
    write-fits job n store (after_next a (steps.after_move_on job s)) (steps.place_at job s.at o) new (used job store a s here step None Out o may.0 refl may.1) (on-fits job store a s here step refl refl refl)

push-step : (job : List Line) (n : ℕ) (store : Store) (a : Activation Standing) (s : Standing) (q : List ℕ) (c : Atom) (new : Value) (step : Step job store a s (line.Push q c)) → StepFits job n store a (steps.after_move_on job s, ask.Push (steps.place_at job s.at q) new)
push-step job n store a s q c new step =
    let here = line.Push q c in
    let names = known (before_at job s.at) in
    let may = checked-first (held names None Push q) (λ k. value names (Some k) c) (at-line job store a s here step).passes in
    push-fits job n store (after_next a (steps.after_move_on job s)) (steps.place_at job s.at q) new (used job store a s here step None Push q may.0 refl may.1) (on-fits job store a s here step refl refl refl)

-- the step of any line
pub line-fits : (job : List Line) (n : ℕ) (store : Store) (a : Activation Standing) (s : Standing) (fuel : ℕ) (line : Line) → Step job store a s line → StepFits job n store a (steps.step job s fuel line)
line-fits job n store a s fuel (line.Queue name k) step =
    queue-fits job n store (after_next a (steps.after_move_on job s)) (made-stands job store a s (line.Queue name k) step name PushPop refl refl refl) step.stored
line-fits job n store a s fuel (line.Object name k) step =
    object-fits job n store (after_next a (steps.after_move_on job s)) (zero_of k) (made-stands job store a s (line.Object name k) step name InOut refl refl refl) step.stored
line-fits job n store a s fuel (line.Assign v o args) step =
    assigned-fits job n store a s v _ (λ new. variable-fits job store a s (line.Assign v o args) step v new refl refl refl)
line-fits job n store a s fuel (line.Read v o) step = read-step job n store a s v o step
line-fits job n store a s fuel (line.Write o c) step = write-step job n store a s o c _ step
line-fits job n store a s fuel (line.Push q c) step = push-step job n store a s q c _ step
line-fits job n store a s fuel (line.Pop v q) step = pop-step job n store a s v q step
line-fits job n store a s fuel (line.Empty v q) step = empty-step job n store a s v q step
line-fits job n store a s fuel (line.Spawn c task args) step = spawn-step job n store a s c task args step _
line-fits job n store a s fuel line.Sync step =
    sync-fits job n store (after_next a (steps.after_move_on job s)) (on-fits job store a s line.Sync step refl refl refl)
line-fits job n store a s fuel (line.Caught v) step =
    work-fits job n store _ (variable-fits job store a s (line.Caught v) step v _ refl refl refl)
line-fits job n store a s fuel (line.Fuel v) step =
    work-fits job n store _ (variable-fits job store a s (line.Fuel v) step v _ refl refl refl)
line-fits job n store a s fuel (line.Fail c) step = refl
line-fits job n store a s fuel (line.If c) step = if-fits job n store a s c step _
line-fits job n store a s fuel line.Else step = else-fits job n store a s step
line-fits job n store a s fuel (line.While c) step = while-fits job n store a s c step _
line-fits job n store a s fuel line.End step = end-fits job n store a s step
line-fits job n store a s fuel line step = tt
