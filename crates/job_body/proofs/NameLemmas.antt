-- The place of a name once one more name is added.
use Rattle.std.proofs.Common.{◌≡◌, ℕ, suc, ◌+◌, Bool, true, false, Option, Some, None, List, [], ◌∷◌, ◌++◌, length, bytes_eq, option_map, is_some, if◌then◌else◌, refl, sym, ap, ◌∙◌, arith, length-append}
use Rattle.std.proofs.lemmas.Slice.Eq.{bytes_eq-Decides}
use Rattle.std.specs.Map.{update}
use Rattle.std.specs.Option.{option_or}
use Rattle.job_body.specs.Names.{slot, joined_slot, with_name_at}

abbrev pub last_slot : Bool → ℕ → Option ℕ
last_slot true i = Some i
last_slot false i = None

map-option_or : (b : Bool) (a : Option ℕ) (n : ℕ) → option_map (λ i. suc i) (option_or a (last_slot b n)) ≡ option_or (option_map (λ i. suc i) a) (last_slot b (suc n))
map-option_or true None n = refl
map-option_or false None n = refl
map-option_or b (Some i) n = refl

pub slot-push : (names : List (List ℕ)) (name other : List ℕ) → slot (names ++ name ∷ []) other ≡ option_or (slot names other) (last_slot (bytes_eq name other) (length names))
slot-push [] name other = elim (bytes_eq name other) as (λ b. (if b then Some 0 else None) ≡ last_slot b 0) [ true ↦ refl | false ↦ refl ]
slot-push (first ∷ names) name other =
    elim (bytes_eq first other) as (λ b. (if b then Some 0 else option_map (λ i. suc i) (slot (names ++ name ∷ []) other)) ≡ option_or (if b then Some 0 else option_map (λ i. suc i) (slot names other)) (last_slot (bytes_eq name other) (length (first ∷ names)))) [
      | true ↦ refl
      | false ↦ ap (λ o. option_map (λ i. suc i) o) (slot-push names name other) ∙ map-option_or (bytes_eq name other) (slot names other) (length names)
    ]

-- the places of names once one more is added
pub slot-with : (names : List (List ℕ)) (name other : List ℕ) → slot (names ++ name ∷ []) other ≡ with_name_at (slot names) name (length names) other
slot-with names name other =
    slot-push names name other
    ∙ at (bytes_eq name other) (bytes_eq-Decides name other).0 (slot names other) refl (slot names name) refl where
      at : (b : Bool) → (b ≡ true → name ≡ other) → (a : Option ℕ) → a ≡ slot names other → (k : Option ℕ) → k ≡ slot names name
          → option_or a (last_slot b (length names)) ≡ (if is_some k then a else (if b then Some (length names) else a))
      at false h None e None f = refl
      at false h None e (Some j) f = refl
      at false h (Some i) e None f = refl
      at false h (Some i) e (Some j) f = refl
      at true h None e None f = refl
      at true h None e (Some j) f = absurd (let same : name ≡ other = h refl in let both : slot names name ≡ slot names other = ap (slot names) same in cc)
      at true h (Some i) e None f = absurd (let same : name ≡ other = h refl in let both : slot names name ≡ slot names other = ap (slot names) same in cc)
      at true h (Some i) e (Some j) f = refl

-- places that are those of names stay so
pub places-with : (names : List (List ℕ)) (f g : List ℕ → Option ℕ) (name : List ℕ) (n : ℕ) → n ≡ length names
    → ((other : List ℕ) → f other ≡ slot names other)
    → ((other : List ℕ) → g other ≡ with_name_at f name n other)
    → (other : List ℕ) → g other ≡ slot (names ++ name ∷ []) other
places-with names f g name n e finds all other =
    all other ∙ same (f name) (f other) (finds name) (finds other) ∙ sym (slot-with names name other) where
      same : (a b : Option ℕ) → a ≡ slot names name → b ≡ slot names other
          → (if is_some a then b else (if bytes_eq name other then Some n else b)) ≡ with_name_at (slot names) name (length names) other
      same a b p q = rw (p, q, e) refl

-- a map that has one more key has it as its place
pub placed : (f : List ℕ → Option ℕ) (name other : List ℕ) (n : ℕ) (r : Option ℕ) → is_some (f name) ≡ false → r ≡ update bytes_eq f name (Some n) other → r ≡ with_name_at f name n other
placed f name other n r unknown e = e ∙ rw unknown refl

-- the place in two lists of names
shifted : (first second : Option ℕ) (n : ℕ) → option_map (λ i. suc i) (joined_slot first n second) ≡ joined_slot (option_map (λ i. suc i) first) (suc n) second
shifted (Some i) second n = refl
shifted None None n = refl
shifted None (Some j) n = ap Some (omega arith)

start : (second : Option ℕ) → second ≡ joined_slot None 0 second
start None = refl
start (Some i) = ap Some (omega arith)

pub slot_joined : (names others : List (List ℕ)) (name : List ℕ) → slot (names ++ others) name ≡ joined_slot (slot names name) (length names) (slot others name)
slot_joined [] others name = start (slot others name)
slot_joined (first ∷ names) others name =
    elim (bytes_eq first name) as (λ b. (if b then Some 0 else option_map (λ i. suc i) (slot (names ++ others) name)) ≡ joined_slot (if b then Some 0 else option_map (λ i. suc i) (slot names name)) (length (first ∷ names)) (slot others name)) [
      | true ↦ refl
      | false ↦ ap (λ o. option_map (λ i. suc i) o) (slot_joined names others name) ∙ shifted (slot names name) (slot others name) (length names)
    ]

-- how many places there are
pub length_places : (roots accesses made : List (List ℕ)) → length (roots ++ (accesses ++ made)) ≡ length roots + length accesses + length made
length_places roots accesses made = simp length-append (omega arith)
