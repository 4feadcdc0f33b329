-- What a script tells of the items of a queue, from one entry to the next.
use Rattle.std.proofs.Common.{◌≡◌, ℕ, zero, suc, ◌+◌, ◌<◌, ◌≤◌, Bool, true, false, nat_lt, cond, List, [], ◌∷◌, ◌++◌, length, take, drop, Option, Some, None, refl, sym, ap, ◌∙◌, arith, rules, tests, length-append, append_assoc, append-nil}
use Rattle.std.proofs.lemmas.List.{take_at, take-append-drop, drop-append-le, drop_all}
use Rattle.std.proofs.lemmas.List.Elements.{filter_map-append}
use Rattle.std.specs.List.{cons_option, filter_map}
use Rattle.std.specs.Option.{option_and_then, option_map_or, option_to_list}
use Rattle.std.specs.Prelude.{slice_get, ◌&&◌}
use Rattle.swan_model.specs.declared.origin.Origin.{Origin}
use Rattle.swan_model.specs.declared.script.Deed.{Deed}
use Rattle.swan_model.specs.declared.script.Deed.TheVariants as deed
use Rattle.swan_model.specs.declared.script.Entry.{Entry}
use Rattle.swan_model.specs.declared.script.Script.{Script}
use Rattle.swan_model.specs.declared.value.Value.{Value}
use Rattle.swan_model.specs.Told.{is_same, deed_at, first_items, pushed_by, pushed, pushes, count, is_pop_of, taken, items}

cons-listed : {X : Type 0} (o : Option X) (xs : List X) → cons_option o xs ≡ option_to_list o ++ xs
cons-listed None xs = refl
cons-listed (Some x) xs = refl

-- one element more is looked at
filter_map-take-suc : {X Y : Type 0} (h : X → Option Y) (xs : List X) (n : ℕ) → filter_map h (take (suc n) xs) ≡ filter_map h (take n xs) ++ option_to_list (option_and_then h (slice_get xs n))
filter_map-take-suc h [] zero = refl
filter_map-take-suc h [] (suc n) = refl
filter_map-take-suc h (x ∷ xs) zero = cons-listed (h x) [] ∙ append-nil (option_to_list (h x))
filter_map-take-suc h (x ∷ xs) (suc n) =
    cons-listed (h x) (filter_map h (take (suc n) xs))
    ∙ ap (λ ys. option_to_list (h x) ++ ys) (filter_map-take-suc h xs n)
    ∙ sym (append_assoc (option_to_list (h x)) _ _)
    ∙ ap (λ ys. ys ++ option_to_list (option_and_then h (slice_get xs n))) (sym (cons-listed (h x) (filter_map h (take n xs))))

pushed-none : (queue : Origin) (entry : Option Entry) → option_to_list (option_and_then (λ (e : Entry). pushed_by queue e.deed) entry) ≡ option_to_list (pushed_by queue (option_map_or (λ (e : Entry). e.deed) entry deed.Quiet))
pushed-none queue None = refl
pushed-none queue (Some entry) = refl

-- what stood in a queue by the entry n, or stands
abbrev pub come : Script → Origin → ℕ → List Value
come s queue n = first_items s queue ++ pushed queue (take n s.entries)

pub come-suc : (s : Script) (queue : Origin) (n : ℕ) → come s queue (suc n) ≡ come s queue n ++ option_to_list (pushed_by queue (deed_at s n))
come-suc s queue n =
    let h : Entry → Option Value = λ entry. pushed_by queue entry.deed in
    ap (λ ys. first_items s queue ++ ys) (filter_map-take-suc h s.entries n ∙ ap (λ ys. pushed queue (take n s.entries) ++ ys) (pushed-none queue (slice_get s.entries n)))
    ∙ sym (append_assoc (first_items s queue) _ _)

pub count-come : (s : Script) (queue : Origin) (n : ℕ) → count s queue n ≡ length (come s queue n)
count-come s queue n = omega (arith, length-append (first_items s queue) (pushed queue (take n s.entries)))

-- the items by the first part of the pushes
pub items-come : (s : Script) (queue : Origin) (n : ℕ) → items s queue n ≡ drop (taken s queue n) (come s queue n)
items-come s queue n =
    let h : Entry → Option Value = λ entry. pushed_by queue entry.deed in
    let rest = pushed queue (drop n s.entries) in
    let all : pushes s queue ≡ come s queue n ++ rest = ap (λ es. first_items s queue ++ pushed queue es) (sym (take-append-drop n s.entries)) ∙ ap (λ ys. first_items s queue ++ ys) (filter_map-append h (take n s.entries) (drop n s.entries)) ∙ sym (append_assoc (first_items s queue) _ _) in
    ap (λ ys. drop (taken s queue n) (take (count s queue n) ys)) all
    ∙ ap (drop (taken s queue n)) (take_at (come s queue n) rest (count s queue n) (sym (count-come s queue n)))

-- no more items are taken than have come
le-cond : (b : Bool) (t t' c c' : ℕ) → t ≤ c → c ≤ c' → t' ≤ t + 1 → cond (b && nat_lt t c) t' t ≤ c'
le-cond false t t' c c' within more one = omega arith
le-cond true t t' c c' within more one = le-less (nat_lt t c) refl
  where
    le-less : (less : Bool) → nat_lt t c ≡ less → cond less t' t ≤ c'
    le-less false is = omega arith
    le-less true is = let below : t < c = search (rules, tests) in omega arith

pub le-taken : (s : Script) (queue : Origin) (n : ℕ) → taken s queue n ≤ length (come s queue n)
le-taken s queue zero = omega arith
le-taken s queue (suc n) =
    let more = ap length (come-suc s queue n) in
    let longer = length-append (come s queue n) (option_to_list (pushed_by queue (deed_at s n))) in
    le-cond (is_pop_of queue (deed_at s n)) (taken s queue n) (taken s queue n + 1) (count s queue n) (length (come s queue (suc n))) (omega (arith, count-come s queue n, le-taken s queue n)) (omega (arith, count-come s queue n)) (omega arith)

-- what a deed makes of the items of a queue
abbrev pub without_first : List Value → List Value
without_first [] = []
without_first (item ∷ rest) = rest

abbrev pub items_by : Origin → Deed → List Value → List Value
items_by queue (deed.Push origin value) xs = cond (is_same origin queue) (xs ++ value ∷ []) xs
items_by queue (deed.Pop origin) xs = cond (is_same origin queue) (without_first xs) xs
items_by queue _ xs = xs

drop-one : (n : ℕ) (xs : List Value) → drop (n + 1) xs ≡ without_first (drop n xs)
drop-one n xs = ap (λ m. drop m xs) (let e : n + 1 ≡ suc n = omega arith in e) ∙ drop-suc n xs
  where
    drop-suc : (n : ℕ) (xs : List Value) → drop (suc n) xs ≡ without_first (drop n xs)
    drop-suc zero [] = refl
    drop-suc zero (x ∷ xs) = refl
    drop-suc (suc n) [] = refl
    drop-suc (suc n) (x ∷ xs) = drop-suc n xs

-- the items after a push, a pop and any other deed, where t were taken of those that had come
after-push : (mine : Bool) (t : ℕ) (xs : List Value) (value : Value) → t ≤ length xs → drop t (xs ++ option_to_list (cond mine (Some value) None)) ≡ cond mine (drop t xs ++ value ∷ []) (drop t xs)
after-push true t xs value within = drop-append-le t xs (value ∷ []) within
after-push false t xs value within = drop-append-le t xs [] within ∙ append-nil (drop t xs)

after-pop : (mine less : Bool) (t : ℕ) (xs : List Value) → nat_lt t (length xs) ≡ less → drop (cond (mine && less) (t + 1) t) xs ≡ cond mine (without_first (drop t xs)) (drop t xs)
after-pop false less t xs is = refl
after-pop true true t xs is = drop-one t xs
after-pop true false t xs is =
    let past : length xs ≤ t = search (rules, tests) in
    drop_all t xs past ∙ ap without_first (sym (drop_all t xs past))

by-deed : (queue : Origin) (does : Deed) (t c : ℕ) (xs : List Value) → c ≡ length xs → t ≤ length xs → drop (cond (is_pop_of queue does && nat_lt t c) (t + 1) t) (xs ++ option_to_list (pushed_by queue does)) ≡ items_by queue does (drop t xs)
by-deed queue (deed.Push origin value) t c xs count within = after-push (is_same origin queue) t xs value within
by-deed queue (deed.Pop origin) t c xs count within =
    ap (drop (cond (is_same origin queue && nat_lt t c) (t + 1) t)) (append-nil xs)
    ∙ ap (λ m. drop (cond (is_same origin queue && nat_lt t m) (t + 1) t) xs) count
    ∙ after-pop (is_same origin queue) (nat_lt t (length xs)) t xs refl
by-deed queue deed.MakeQueue t c xs count within = ap (drop t) (append-nil xs)
by-deed queue (deed.MakeObject value) t c xs count within = ap (drop t) (append-nil xs)
by-deed queue (deed.Spawn gives) t c xs count within = ap (drop t) (append-nil xs)
by-deed queue (deed.Test origin) t c xs count within = ap (drop t) (append-nil xs)
by-deed queue (deed.Read origin) t c xs count within = ap (drop t) (append-nil xs)
by-deed queue (deed.Write origin value) t c xs count within = ap (drop t) (append-nil xs)
by-deed queue deed.Sync t c xs count within = ap (drop t) (append-nil xs)
by-deed queue deed.Quiet t c xs count within = ap (drop t) (append-nil xs)

-- an entry makes of the items of a queue what its deed makes of them
pub items-suc : (s : Script) (queue : Origin) (n : ℕ) → items s queue (suc n) ≡ items_by queue (deed_at s n) (items s queue n)
items-suc s queue n =
    items-come s queue (suc n)
    ∙ ap (drop (taken s queue (suc n))) (come-suc s queue n)
    ∙ by-deed queue (deed_at s n) (taken s queue n) (count s queue n) (come s queue n) (count-come s queue n) (le-taken s queue n)
    ∙ ap (items_by queue (deed_at s n)) (sym (items-come s queue n))
