-- Who owns the chunks after an item came in or went out, after one was closed, and after one was handed on.
use Rattle.std.proofs.Common.{◌≡◌, ℕ, zero, suc, ◌<◌, ◌≤◌, Bool, true, false, cond, nat_eq, Option, None, Some, List, [], ◌∷◌, ◌++◌, length, refl, sym, ap, ◌∙◌, arith}
use Rattle.std.proofs.lemmas.Bool.{eqb-true, eq-eqb, false≢true}
use Rattle.std.proofs.lemmas.Option.{same_Some}
use Rattle.std.specs.Option.{option_map_or}
use Rattle.swan_model.specs.declared.value.Value.{Value}
use Rattle.queues.specs.Chunks.{Chunk, Chunks, after_close, after_hand_on, is_owned, is_spent, own, without_spent, with_item, without_first}
use Rattle.queues.proofs.Owners.{AreOrdered, ordered_left_out, owner_at}

pub owned_by : (number : ℕ) (owner : Option ℕ) → option_map_or (λ o. nat_eq o number) owner false ≡ true → owner ≡ Some number
owned_by number None is = absurd (false≢true is)
owned_by number (Some other) is = ap Some (eqb-true other number is)

pub owned_not : (number : ℕ) (owner : Option ℕ) → option_map_or (λ o. nat_eq o number) owner false ≡ false → owner ≡ Some number → ⊥
owned_not number owner not_so is =
    false≢true (sym not_so ∙ ap (λ o. option_map_or (λ (k : ℕ). nat_eq k number) o false) is ∙ eq-eqb number number refl)

-- ---- an item more or less

pub owner_with_item : (frame : ℕ) (item : Value) (chunks : Chunks) (index : ℕ) → owner_at (with_item frame item chunks) index ≡ owner_at chunks index
owner_with_item frame item [] index = refl
owner_with_item frame item (chunk ∷ chunks) index = by (is_owned frame chunk) index (owner_with_item frame item chunks) where
  by : (b : Bool) (place : ℕ) → ((later : ℕ) → owner_at (with_item frame item chunks) later ≡ owner_at chunks later)
      → owner_at (cond b (record chunk { items = chunk.items ++ item ∷ [] } ∷ chunks) (chunk ∷ with_item frame item chunks)) place ≡ owner_at (chunk ∷ chunks) place
  by true zero rest = refl
  by true (suc later) rest = refl
  by false zero rest = refl
  by false (suc later) rest = rest later

pub owner_without_first : (chunks : Chunks) (index : ℕ) → owner_at (without_first chunks) index ≡ owner_at chunks index
owner_without_first [] index = refl
owner_without_first (chunk ∷ chunks) zero = refl
owner_without_first (chunk ∷ chunks) (suc later) = refl

-- ---- a chunk that is left out

pub owner_before : (before after : Chunks) (gone : Chunk) (index : ℕ) → index < length before → owner_at (before ++ after) index ≡ owner_at (before ++ gone ∷ after) index
owner_before [] after gone index less = absurd (omega arith)
owner_before (chunk ∷ before) after gone zero less = refl
owner_before (chunk ∷ before) after gone (suc index) less = owner_before before after gone index (omega arith)

pub owner_behind : (before after : Chunks) (gone : Chunk) (index : ℕ) → length before ≤ index → owner_at (before ++ after) index ≡ owner_at (before ++ gone ∷ after) (suc index)
owner_behind [] after gone index upto = refl
owner_behind (chunk ∷ before) after gone zero upto = absurd (omega arith)
owner_behind (chunk ∷ before) after gone (suc index) upto = owner_behind before after gone index (omega arith)

pub owner_left_out : (before after : Chunks) (gone : Chunk) → owner_at (before ++ gone ∷ after) (length before) ≡ gone.owner
owner_left_out [] after gone = refl
owner_left_out (chunk ∷ before) after gone = owner_left_out before after gone

-- ---- spent chunks at the front

spent_parts : (owner : Option ℕ) (items : List Value) → is_spent (record { owner = owner; items = items }) ≡ true → owner ≡ None
spent_parts None items is = refl
spent_parts (Some number) items is = absurd (false≢true is)

-- nobody owns a spent chunk
pub spent_unowned : (chunk : Chunk) → is_spent chunk ≡ true → chunk.owner ≡ None
spent_unowned chunk is = spent_parts chunk.owner chunk.items is

pub ordered_trimmed : (Holds : ℕ → List ℕ → Type 0) (chunks : Chunks) → AreOrdered Holds (owner_at chunks) → AreOrdered Holds (owner_at (without_spent chunks))
ordered_trimmed Holds [] ordered = ordered
ordered_trimmed Holds (chunk ∷ chunks) ordered = by (is_spent chunk) refl (ordered_trimmed Holds chunks) where
  by : (b : Bool) → is_spent chunk ≡ b → (AreOrdered Holds (owner_at chunks) → AreOrdered Holds (owner_at (without_spent chunks)))
      → AreOrdered Holds (owner_at (cond b (without_spent chunks) (chunk ∷ chunks)))
  by true spent rest =
      rest (ordered_left_out Holds (owner_at (chunk ∷ chunks)) ordered 0 (spent_unowned chunk spent) (owner_at chunks) (λ index less. absurd (omega arith)) (λ index upto. refl))
  by false kept rest = ordered

-- ---- a chunk that is closed

pub closed_was : (gone : ℕ) (chunks : Chunks) (index number : ℕ) → owner_at (after_close gone chunks) index ≡ Some number → owner_at chunks index ≡ Some number
closed_was gone [] index number is = is
closed_was gone (chunk ∷ chunks) index number is = by (is_owned gone chunk) index is (λ later. closed_was gone chunks later number) where
  by : (b : Bool) (place : ℕ) → owner_at (cond b (record chunk { owner = None } ∷ chunks) (chunk ∷ after_close gone chunks)) place ≡ Some number
      → ((later : ℕ) → owner_at (after_close gone chunks) later ≡ Some number → owner_at chunks later ≡ Some number) → owner_at (chunk ∷ chunks) place ≡ Some number
  by true zero none rest = absurd (cc)
  by true (suc later) there rest = there
  by false zero here rest = here
  by false (suc later) there rest = rest later there

pub closed_other : (gone : ℕ) (chunks : Chunks) (index number : ℕ) → (number ≡ gone → ⊥) → owner_at chunks index ≡ Some number → owner_at (after_close gone chunks) index ≡ Some number
closed_other gone [] index number apart is = is
closed_other gone (chunk ∷ chunks) index number apart is = by (is_owned gone chunk) refl index is (λ later. closed_other gone chunks later number apart) where
  by : (b : Bool) → is_owned gone chunk ≡ b → (place : ℕ) → owner_at (chunk ∷ chunks) place ≡ Some number
      → ((later : ℕ) → owner_at chunks later ≡ Some number → owner_at (after_close gone chunks) later ≡ Some number)
      → owner_at (cond b (record chunk { owner = None } ∷ chunks) (chunk ∷ after_close gone chunks)) place ≡ Some number
  by true owned zero here rest = absurd (apart (same_Some number gone (sym here ∙ owned_by gone chunk.owner owned)))
  by true owned (suc later) there rest = there
  by false other zero here rest = here
  by false other (suc later) there rest = rest later there

-- who owned but one chunk owns none then
pub closed_gone : (gone : ℕ) (chunks : Chunks) → ((i j : ℕ) → owner_at chunks i ≡ Some gone → owner_at chunks j ≡ Some gone → i ≡ j)
    → (index : ℕ) → owner_at (after_close gone chunks) index ≡ Some gone → ⊥
closed_gone gone [] once index is = absurd (cc)
closed_gone gone (chunk ∷ chunks) once index is =
    by (is_owned gone chunk) refl index is (closed_gone gone chunks (λ i j first second. let e = once (suc i) (suc j) first second in omega arith))
  where
    by : (b : Bool) → is_owned gone chunk ≡ b → (place : ℕ) → owner_at (cond b (record chunk { owner = None } ∷ chunks) (chunk ∷ after_close gone chunks)) place ≡ Some gone
        → ((later : ℕ) → owner_at (after_close gone chunks) later ≡ Some gone → ⊥) → ⊥
    by true owned zero none rest = absurd (cc)
    by true owned (suc later) there rest =
        let e = once 0 (suc later) (owned_by gone chunk.owner owned) there in
        absurd (omega arith)
    by false other zero here rest = owned_not gone chunk.owner other here
    by false other (suc later) there rest = rest later there

-- ---- a chunk that is handed on

-- At a place after a chunk was handed on at this one: an owner from before, or the child.
pub data WasHanded (at : ℕ → Option ℕ) (place child index number : ℕ) : Type 0 where
  before : at index ≡ Some number → index < place → WasHanded at place child index number
  behind : (was : ℕ) → at was ≡ Some number → index ≡ suc was → place ≤ was → WasHanded at place child index number
  to_child : index ≡ place → number ≡ child → WasHanded at place child index number

further : (chunk : Chunk) (chunks : Chunks) (place child index number : ℕ) → WasHanded (owner_at chunks) place child index number
    → WasHanded (owner_at (chunk ∷ chunks)) (suc place) child (suc index) number
further chunk chunks place child index number (before at less) = before at (omega arith)
further chunk chunks place child index number (behind was at is upto) = behind (suc was) at (omega arith) (omega arith)
further chunk chunks place child index number (to_child is own) = to_child (omega arith) own

-- the place is the first of the parent's
pub record IsFirstOf (at : ℕ → Option ℕ) (parent place : ℕ) : Type 0 where
  pub owns : at place ≡ Some parent
  pub first : (other : ℕ) → at other ≡ Some parent → place ≤ other

pub handed_was : (parent child : ℕ) (chunks : Chunks) (place : ℕ) → IsFirstOf (owner_at chunks) parent place → (index number : ℕ)
    → owner_at (after_hand_on parent child chunks) index ≡ Some number → WasHanded (owner_at chunks) place child index number
handed_was parent child [] place at index number is = absurd (cc)
handed_was parent child (chunk ∷ chunks) place at index number is =
    by (is_owned parent chunk) refl place at index is (λ k first later. handed_was parent child chunks k first later number)
  where
    by : (b : Bool) → is_owned parent chunk ≡ b → (place : ℕ) → IsFirstOf (owner_at (chunk ∷ chunks)) parent place → (index : ℕ)
        → owner_at (cond b (own child chunk.items ∷ own parent [] ∷ chunks) (chunk ∷ after_hand_on parent child chunks)) index ≡ Some number
        → ((k : ℕ) → IsFirstOf (owner_at chunks) parent k → (later : ℕ) → owner_at (after_hand_on parent child chunks) later ≡ Some number
        → WasHanded (owner_at chunks) k child later number)
        → WasHanded (owner_at (chunk ∷ chunks)) place child index number
    by true owned zero at zero here rest = to_child refl (sym (same_Some child number here))
    by true owned zero at (suc zero) here rest = behind 0 (owned_by parent chunk.owner owned ∙ here) refl (omega arith)
    by true owned zero at (suc (suc later)) there rest = behind (suc later) there refl (omega arith)
    by true owned (suc k) at later there rest =
        let upto = at.first 0 (owned_by parent chunk.owner owned) in
        absurd (omega arith)
    by false other zero at later there rest = absurd (owned_not parent chunk.owner other at.owns)
    by false other (suc k) at zero here rest = before here (omega arith)
    by false other (suc k) at (suc later) there rest =
        further chunk chunks k child later number
        (rest k (record { owns = at.owns; first = λ j own. let upto = at.first (suc j) own in omega arith }) later there)

pub handed_child : (parent child : ℕ) (chunks : Chunks) (place : ℕ) → owner_at chunks place ≡ Some parent
    → (index : ℕ) × (owner_at (after_hand_on parent child chunks) index ≡ Some child)
handed_child parent child [] place is = absurd (cc)
handed_child parent child (chunk ∷ chunks) place is = by (is_owned parent chunk) refl place is (handed_child parent child chunks) where
  by : (b : Bool) → is_owned parent chunk ≡ b → (place : ℕ) → owner_at (chunk ∷ chunks) place ≡ Some parent
      → ((later : ℕ) → owner_at chunks later ≡ Some parent → (index : ℕ) × (owner_at (after_hand_on parent child chunks) index ≡ Some child))
      → (index : ℕ) × (owner_at (cond b (own child chunk.items ∷ own parent [] ∷ chunks) (chunk ∷ after_hand_on parent child chunks)) index ≡ Some child)
  by true owned k there rest = (0, refl)
  by false other zero here rest = absurd (owned_not parent chunk.owner other here)
  by false other (suc later) there rest = let at = rest later there in (suc at.0, at.1)

pub handed_still : (parent child : ℕ) (chunks : Chunks) (place number : ℕ) → owner_at chunks place ≡ Some number
    → (index : ℕ) × (owner_at (after_hand_on parent child chunks) index ≡ Some number)
handed_still parent child [] place number is = absurd (cc)
handed_still parent child (chunk ∷ chunks) place number is = by (is_owned parent chunk) refl place is (λ later. handed_still parent child chunks later number) where
  by : (b : Bool) → is_owned parent chunk ≡ b → (place : ℕ) → owner_at (chunk ∷ chunks) place ≡ Some number
      → ((later : ℕ) → owner_at chunks later ≡ Some number → (index : ℕ) × (owner_at (after_hand_on parent child chunks) index ≡ Some number))
      → (index : ℕ) × (owner_at (cond b (own child chunk.items ∷ own parent [] ∷ chunks) (chunk ∷ after_hand_on parent child chunks)) index ≡ Some number)
  by true owned zero here rest = (1, sym (owned_by parent chunk.owner owned) ∙ here)
  by true owned (suc later) there rest = (suc (suc later), there)
  by false other zero here rest = (0, here)
  by false other (suc later) there rest = let at = rest later there in (suc at.0, at.1)
