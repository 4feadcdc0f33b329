-- The times of a task's entries: they rise, and at each of them stands an entry of the task.
use Rattle.std.proofs.Common.{◌≡◌, ℕ, ◌+◌, ◌<◌, Bool, true, List, length, Option, Some, None, sym, ap, subst, ◌∙◌, arith}
use Rattle.std.proofs.lemmas.Option.{slice_get_within, get_or_from_slice_get, slice_get-get_or}
use Rattle.std.specs.Prelude.{slice_get, IsSomeAnd, IsTrue}
use Rattle.swan_model.specs.declared.script.Entry.{Entry}
use Rattle.swan_model.specs.declared.script.Script.{Script}
use Rattle.swan_model.specs.SerialTime.{is_of, times, time}
use Rattle.swan_model.proofs.Places.{passing, place_of, placed, placed-rise}

pub times_rise : (s : Script) (path : List ℕ) (k m : ℕ) → k < m → m < length (times s path) → time s path k < time s path m
times_rise s path k m less within =
    placed-rise (is_of path) 0 s.entries k m (time s path k) (time s path m) less
    (slice_get-get_or (times s path) k 0 (omega (arith, less, within))) (slice_get-get_or (times s path) m 0 within)

some-passes : (test : Entry → Bool) (o : Option Entry) (entry : Entry) → o ≡ Some entry → test entry ≡ true → IsSomeAnd o (λ e. IsTrue (test e))
some-passes test None entry is passes = absurd (cc)
some-passes test (Some e) entry is passes = let same : entry ≡ e = cc in subst (λ x. IsTrue (test x)) same passes

pub times_are : (s : Script) (path : List ℕ) (k : ℕ) → k < length (times s path) → IsSomeAnd (slice_get s.entries (time s path k)) (λ entry. IsTrue (is_of path entry))
times_are s path k within =
    let place = placed (is_of path) 0 s.entries k (time s path k) (slice_get-get_or (times s path) k 0 within) in
    let here : place.i ≡ time s path k = omega (arith, place.is) in
    some-passes (is_of path) (slice_get s.entries (time s path k)) place.entry (ap (slice_get s.entries) (sym here) ∙ place.stands) place.passes

-- each entry of a task has its place among the times
pub times_all : (s : Script) (path : List ℕ) (t : ℕ) (entry : Entry) → slice_get s.entries t ≡ Some entry → is_of path entry ≡ true → (k : ℕ) × (k < length (times s path)) × (time s path k ≡ t)
times_all s path t entry stands own =
    let k = passing (is_of path) t s.entries in
    let zero_t : 0 + t ≡ t = omega arith in
    let found : slice_get (times s path) k ≡ Some t = place_of (is_of path) 0 s.entries t entry stands own ∙ ap Some zero_t in
    (k, slice_get_within (times s path) k t found, get_or_from_slice_get (times s path) k t 0 found)
