-- The words of a command with fuel, a job and inputs.
use Rattle.std.proofs.Common.{◌≡◌, ℕ, ◌≤◌, true, List, [], ◌∷◌, Option, Some, None, refl, ap, ◌∙◌, subst, leb-true}
use Rattle.std.proofs.lemmas.Bool.{and_parts}
use Rattle.std.proofs.lemmas.Option.{cond_some}
use Rattle.std.specs.Prelude.{◌&&◌, nat_le, ℤ, pos, negsuc}
use Rattle.std.specs.List.{list_all}
use Rattle.bulk_workload.specs.declared.texts.TheConstants.{BULK_MOST}
use Rattle.job_reader.specs.Atoms.{number}
use Rattle.swan_top.specs.Command.{Command, bulk, number_within, within, is_file, generated_by, job_and_inputs, fueled, manned, one_input, over_input, run, three_numbers, with_workers}
use Rattle.swan_runtime.specs.declared.shape.TheConstants.{WORKERS_MOST}
use Rattle.swan_top.specs.declared.command.TheConstants.{FUEL_WORD_MOST, NUMBER_WORD_MOST}

-- a number is in its range
pub within_le : (low high : ℕ) (z : Option ℤ) (n : ℕ) → within low high z ≡ Some n → n ≤ high
within_le low high None n is = cc
within_le low high (Some (negsuc k)) n is = cc
within_le low high (Some (pos k)) n is =
    let c = cond_some (nat_le low k && nat_le k high) k n is in
    let both = and_parts (nat_le low k) (nat_le k high) c.0 in
    subst (λ m. m ≤ high) c.1 (leb-true k high both.1)

with_files : (command : ℕ → List ℕ → List (List ℕ) → Command) (fuel : ℕ) (job : List ℕ) (inputs : List (List ℕ)) → is_file job ≡ true → list_all is_file inputs ≡ true → job_and_inputs command (Some fuel) (job ∷ inputs) ≡ Some (command fuel job inputs)
with_files command fuel job inputs a b = rw (a, b) refl

pub fueled_is : (words files : List (List ℕ)) (word job : List ℕ) (inputs : List (List ℕ)) (fuel : ℕ) → words ≡ word ∷ files → number_within 1 FUEL_WORD_MOST word ≡ Some fuel → files ≡ job ∷ inputs → is_file job ≡ true → list_all is_file inputs ≡ true
    → (fuel ≤ FUEL_WORD_MOST) × ((command : ℕ → List ℕ → List (List ℕ) → Command) → fueled command words ≡ Some (command fuel job inputs))
fueled_is words files word job inputs fuel split is files_are a b = (
  within_le 1 FUEL_WORD_MOST (number word) fuel is,
  λ command. ap (fueled command) split ∙ ap (λ n. job_and_inputs command n files) is ∙ ap (job_and_inputs command (Some fuel)) files_are ∙ with_files command fuel job inputs a b,
)

-- three numbers in their ranges
pub generated_is : (number' size workers : List ℕ) (n s w : ℕ) → number_within 0 NUMBER_WORD_MOST number' ≡ Some n → number_within 0 BULK_MOST size ≡ Some s → number_within 1 WORKERS_MOST workers ≡ Some w
    → (three_numbers (number' ∷ size ∷ workers ∷ []) ≡ Some (bulk n s w)) × (s ≤ BULK_MOST)
generated_is number' size workers n s w a b c = (
  ap (λ x. generated_by x (number_within 0 BULK_MOST size) (number_within 1 WORKERS_MOST workers)) a ∙ ap (λ x. generated_by (Some n) x (number_within 1 WORKERS_MOST workers)) b ∙ ap (generated_by (Some n) (Some s)) c,
  within_le 0 BULK_MOST (number size) s b,
)

-- the words after WORKERS
pub workers_are : (words rest : List (List ℕ)) (word : List ℕ) (workers : ℕ) → words ≡ word ∷ rest → number_within 1 WORKERS_MOST word ≡ Some workers
    → (manned words ≡ fueled (run workers) rest) × ((command : ℕ → List ℕ → Command) → over_input command words ≡ one_input command (Some workers) rest)
workers_are words rest word workers split is = (
  ap manned split ∙ ap (λ n. with_workers n rest) is,
  λ command. ap (over_input command) split ∙ ap (λ n. one_input command n rest) is,
)

pub no_workers : (words rest : List (List ℕ)) (word : List ℕ) → words ≡ word ∷ rest → number_within 1 WORKERS_MOST word ≡ None
    → (manned words ≡ None) × ((command : ℕ → List ℕ → Command) → over_input command words ≡ None)
no_workers words rest word split is = (
  ap manned split ∙ ap (λ n. with_workers n rest) is,
  λ command. ap (over_input command) split ∙ ap (λ n. one_input command n rest) is,
)
