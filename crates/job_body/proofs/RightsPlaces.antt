-- Where the lines of a job stand, and what the lines before each of them say.
use Rattle.std.proofs.Common.{◌≡◌, ℕ, zero, suc, ◌+◌, Option, Some, None, Ok, List, [], ◌∷◌, ◌++◌, take, drop, slice_get, IsTrue, refl, ap, ◌∙◌, subst, add-one, take_all, arith, sym}
use Rattle.job_reader.specs.Jobs.{IsPlaced, edition_of, may_stand}
use Rattle.job_reader.specs.Positions as positions
use Rattle.job_reader.specs.declared.line.Edition.{Edition}
use Rattle.job_reader.specs.declared.line.Line.{Line}
use Rattle.job_reader.specs.declared.position.Position.{Position}
use Rattle.job_reader.specs.declared.position.Position.TheVariants.{First}
use Rattle.privilege_check.specs.FirstFault.{check_line}
use Rattle.privilege_check.specs.Names as checks
use Rattle.privilege_check.specs.Names.{Before, before_first_line}
use Rattle.job_body.specs.Tasks.{so_far_after, so_far_at, so_far_from}
use Rattle.job_body.proofs.Known.{so_far-push}
use Rattle.swan_model.proofs.Lists.{drop_next, take_next, past_none}

-- the place after lines, and what they say
abbrev pub position_from : Position → List Line → Position
position_from place [] = place
position_from place (line ∷ lines) = position_from (positions.after place line) lines

abbrev pub before_from : Before → List Line → Before
before_from before [] = before
before_from before (line ∷ lines) = before_from (checks.after_line before line) lines

-- the place at an index, and what the lines before it say
abbrev pub position_at : List Line → ℕ → Position
position_at job i = position_from First (take i job)

abbrev pub before_at : List Line → ℕ → Before
before_at job i = before_from before_first_line (take i job)

-- each line passes the check, by what the lines before it say
abbrev pub Passes : Before → List Line → Type 0
Passes before [] = Unit {0}
Passes before (line ∷ lines) = (check_line before line ≡ Ok tt) × Passes (checks.after_line before line) lines

-- what is known of the line at an index
pub record IsLineAt (job : List Line) (i : ℕ) (line : Line) : Type 0 where
  pub stands : IsTrue (may_stand (edition_of job) (position_at job i) line)
  pub passes : check_line (before_at job i) line ≡ Ok tt

-- ---- one line more

pub take-past : {A : Type 0} (xs : List A) (i : ℕ) → slice_get xs i ≡ None → take (i + 1) xs ≡ take i xs
take-past xs i h =
    let past = past_none xs i h in
    take_all (i + 1) xs (omega (arith, past)) ∙ sym (take_all i xs past)

pub place-push : (place : Position) (lines : List Line) (line : Line) → position_from place (lines ++ line ∷ []) ≡ positions.after (position_from place lines) line
place-push place [] line = refl
place-push place (first ∷ lines) line = place-push (positions.after place first) lines line

pub before-push : (before : Before) (lines : List Line) (line : Line) → before_from before (lines ++ line ∷ []) ≡ checks.after_line (before_from before lines) line
before-push before [] line = refl
before-push before (first ∷ lines) line = before-push (checks.after_line before first) lines line

pub place-next : (job : List Line) (i : ℕ) (line : Line) → slice_get job i ≡ Some line → position_at job (i + 1) ≡ positions.after (position_at job i) line
place-next job i line h = ap (position_from First) (take_next job i line h) ∙ place-push First (take i job) line

pub so_far-next : (job : List Line) (i : ℕ) (line : Line) → slice_get job i ≡ Some line → so_far_at job (i + 1) ≡ so_far_after (so_far_at job i) line
so_far-next job i line h = ap (so_far_from (record { name = []; lines = [] })) (take_next job i line h) ∙ so_far-push _ (take i job) line

-- what holds of the first lines of a job by a fact that each line keeps holds of any number of them
pub along : (job : List Line) (P : ℕ → Type 0) → P 0 → ((i : ℕ) → slice_get job i ≡ None → P i → P (i + 1)) → ((i : ℕ) (line : Line) → slice_get job i ≡ Some line → P i → P (i + 1)) → (i : ℕ) → P i
along job P first past more zero = first
along job P first past more (suc i) = rw⁻¹ add-one (go (slice_get job i) refl (along job P first past more i)) where
  go : (line : Option Line) → slice_get job i ≡ line → P i → P (i + 1)
  go None e before = past i e before
  go (Some line) e before = more i line e before

-- ---- the rest of a job

pub placed-from : (edition : Edition) (place : Position) (lines : List Line) (i : ℕ) → IsPlaced edition place lines → IsPlaced edition (position_from place (take i lines)) (drop i lines)
placed-from edition place lines zero placed = placed
placed-from edition place [] (suc i) placed = placed
placed-from edition place (line ∷ lines) (suc i) placed = placed-from edition (positions.after place line) lines i placed.1

pub passes-from : (before : Before) (lines : List Line) (i : ℕ) → Passes before lines → Passes (before_from before (take i lines)) (drop i lines)
passes-from before lines zero passes = passes
passes-from before [] (suc i) passes = tt
passes-from before (line ∷ lines) (suc i) passes = passes-from (checks.after_line before line) lines i passes.1

pub line-at : (job : List Line) (i : ℕ) (line : Line) → IsPlaced (edition_of job) First job → Passes before_first_line job → slice_get job i ≡ Some line → IsLineAt job i line
line-at job i line placed passes h =
    let next = drop_next job i line h in
    record {
      stands = (subst (IsPlaced (edition_of job) (position_at job i)) next (placed-from (edition_of job) First job i placed)).0;
      passes = (subst (Passes (before_at job i)) next (passes-from before_first_line job i passes)).0;
    }
