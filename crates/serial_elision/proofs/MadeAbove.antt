-- What a task may use that a step made was made before, by the task itself or by one above it.
use Rattle.std.proofs.Common.{◌≡◌, ℕ, zero, suc, ◌+◌, ◌<◌, ◌≤◌, inl, inr, ◌⊎◌, Bool, true, false, ◌&&◌, nat_eq, cond, List, [], ◌∷◌, ◌++◌, length, Some, sym, ap, subst, ◌∙◌, append_assoc, arith}
use Rattle.std.proofs.lemmas.Bool.{and_parts, or_cases, cases_order}
use Rattle.std.proofs.lemmas.List.{append-nil}
use Rattle.std.specs.Cmp.Lexicographic.{pointwise}
use Rattle.std.specs.Prelude.{slice_get}
use Rattle.swan_model.specs.declared.origin.Origin.{Origin}
use Rattle.swan_model.specs.declared.origin.Origin.TheVariants.{Step}
use Rattle.swan_model.specs.declared.rights.Mode.{Mode}
use Rattle.swan_model.specs.declared.rights.Mode.TheVariants.{InOut, PushPop}
use Rattle.swan_model.specs.declared.script.Deed.TheVariants as deed
use Rattle.swan_model.specs.declared.script.Entry.{Entry}
use Rattle.swan_model.specs.declared.script.OriginGive.{OriginGive}
use Rattle.swan_model.specs.declared.script.Script.{Script}
use Rattle.swan_model.specs.Granted.{child_path, children_before, holds, is_spawn, is_within, may_use, root_holds, roots_from}
use Rattle.swan_model.specs.Lawful.{IsLawful}
use Rattle.swan_model.specs.Nested.{IsEntryOf, IsEntryUnder}
use Rattle.swan_model.specs.Rights.{allows}
use Rattle.swan_model.proofs.TaskEntries.{spawn_is_next}
use Rattle.swan_model.proofs.Paths.{same_path}
use Rattle.swan_model.proofs.Uses.{IsGrantedBy, holds-cases, may_use-either, may_use-given}

-- ---- made above

-- the step k comes before the entry n, and is one of the task with this path or of one above it
pub record IsMadeAbove (s : Script) (path : List ℕ) (n k : ℕ) : Type 0 where
  pub earlier : k < n
  pub entry : Entry
  pub stands : slice_get s.entries k ≡ Some entry
  pub rest : List ℕ
  pub under : path ≡ entry.path ++ rest

no-root : (made mode : Mode) (i many k : ℕ) → may_use (roots_from made i many) mode (Step k) ≡ true → ⊥
no-root made mode i zero k may = absurd (cc)
no-root made mode i (suc many) k may = elim (or_cases (allows made mode && false) (may_use (roots_from made (i + 1) many) mode (Step k)) may) [
  | inl first ↦ let both = and_parts (allows made mode) false first in let no : false ≡ true = both.1 in absurd (cc)
  | inr later ↦ no-root made mode (i + 1) many k later
]

at-first : (s : Script) (path : List ℕ) (mode : Mode) (k : ℕ) (is_root : Bool) → may_use (cond is_root (root_holds s) []) mode (Step k) ≡ true → ⊥
at-first s path mode k false may = absurd (cc)
at-first s path mode k true may =
    let queues = roots_from PushPop 0 (length s.queues) in
    let objects = roots_from InOut 0 (length s.objects) in
    elim (may_use-either queues objects mode (Step k) may) [
      | inl queue ↦ no-root PushPop mode 0 (length s.queues) k queue
      | inr object ↦ no-root InOut mode 0 (length s.objects) k object
    ]

-- what a child is given its parent may use at its spawn
pub given_from-parent : (s : Script) → IsLawful s → (n : ℕ) (entry : Entry) (gives : List OriginGive) (mode : Mode) (origin : Origin) → slice_get s.entries n ≡ Some entry → entry.deed ≡ deed.Spawn gives → may_use gives mode origin ≡ true → may_use (holds s entry.path n) mode origin ≡ true
given_from-parent s lawful n entry gives mode origin stands is may =
    let held = holds s entry.path n in
    let within : is_within held (deed.Spawn gives) ≡ true = ap (is_within held) (sym is) ∙ lawful.within n entry stands in
    may_use-given held gives mode origin within may

made-newly : (s : Script) → IsLawful s → (n k : ℕ) (path : List ℕ) (mode : Mode) → ((p : List ℕ) → may_use (holds s p n) mode (Step k) ≡ true → IsMadeAbove s p n k) → (entry : Entry) → slice_get s.entries n ≡ Some entry → IsGrantedBy s path n entry mode (Step k) → IsMadeAbove s path (suc n) k
made-newly s lawful n k path mode before entry stands (inl own) =
    let is = own.1 in
    let same : k ≡ n = cc in
    record { earlier = omega arith; entry = entry; stands = ap (slice_get s.entries) same ∙ stands; rest = []; under = sym (same_path entry.path path own.0) ∙ sym (append-nil entry.path) }
made-newly s lawful n k path mode before entry stands (inr gift) =
    let above = before entry.path (given_from-parent s lawful n entry gift.gives mode (Step k) stands gift.is gift.may) in
    let number = children_before s entry.path n in
    record {
      earlier = omega (arith, above.earlier);
      entry = above.entry;
      stands = above.stands;
      rest = above.rest ++ number ∷ [];
      under = sym (same_path (child_path s entry.path n) path gift.to) ∙ ap (λ p. p ++ number ∷ []) above.under ∙ append_assoc above.entry.path above.rest (number ∷ []);
    }

-- who may use what a step made has it from that step: the step came before, and its task is the same or above
pub made_above : (s : Script) → IsLawful s → (n : ℕ) (path : List ℕ) (mode : Mode) (k : ℕ) → may_use (holds s path n) mode (Step k) ≡ true → IsMadeAbove s path n k
made_above s lawful zero path mode k may = absurd (at-first s path mode k (pointwise nat_eq path []) may)
made_above s lawful (suc n) path mode k may = elim (holds-cases s path n mode (Step k) may) [
  | inl before ↦
      let above = made_above s lawful n path mode k before in
      record { earlier = omega (arith, above.earlier); entry = above.entry; stands = above.stands; rest = above.rest; under = above.under }
  | inr now ↦ made-newly s lawful n k path mode (λ p held. made_above s lawful n p mode k held) now.entry now.stands now.how
]

-- ---- what a task holds more from one of its entries to the next

pub late-give : (s : Script) → IsLawful s → (path : List ℕ) (from m : ℕ) (entry : Entry) (gives : List OriginGive) → IsEntryOf s path from → slice_get s.entries m ≡ Some entry → entry.deed ≡ deed.Spawn gives → child_path s entry.path m ≡ path → m < from
late-give s lawful path from m entry gives own stands is named =
    let known = spawn_is_next s m entry stands (ap is_spawn is) in
    let under : IsEntryUnder s (child_path s entry.path m) from = record { entry = own.entry; stands = own.stands; rest = []; under = own.own ∙ sym named ∙ sym (append-nil (child_path s entry.path m)) } in
    lawful.nested.after entry.path (children_before s entry.path m) m from known under

since-newly : (s : Script) → IsLawful s → (path : List ℕ) (from m : ℕ) (mode : Mode) (origin : Origin) → IsEntryOf s path from → from ≤ m → (from < m → IsEntryOf s path m → ⊥) → (entry : Entry) → slice_get s.entries m ≡ Some entry → IsGrantedBy s path m entry mode origin → origin ≡ Step from
since-newly s lawful path from m mode origin own late none entry stands (inl mine) = elim (cases_order m from) [
  | inl same ↦ mine.1 ∙ ap Step same
  | inr differ ↦ elim differ [
    | inl before ↦ absurd (omega arith)
    | inr after ↦ absurd (none after (record { entry = entry; stands = stands; own = same_path entry.path path mine.0 }))
  ]
]
since-newly s lawful path from m mode origin own late none entry stands (inr gift) =
    let early = late-give s lawful path from m entry gift.gives own stands gift.is (same_path (child_path s entry.path m) path gift.to) in
    absurd (omega arith)

-- between one of its entries and the next a task comes to hold nothing but what that entry makes
pub held_since : (s : Script) → IsLawful s → (path : List ℕ) (from : ℕ) (mode : Mode) (origin : Origin) → IsEntryOf s path from → (k : ℕ) → ((m : ℕ) → from < m → m < from + k → IsEntryOf s path m → ⊥) → may_use (holds s path (from + k)) mode origin ≡ true → (may_use (holds s path from) mode origin ≡ true) ⊎ (origin ≡ Step from)
held_since s lawful path from mode origin own zero none may =
    let e : from + 0 ≡ from = omega arith in
    inl (subst (λ n. may_use (holds s path n) mode origin ≡ true) e may)
held_since s lawful path from mode origin own (suc k) none may =
    let m = from + k in
    let e : from + suc k ≡ suc m = omega arith in
    let last : may_use (holds s path (suc m)) mode origin ≡ true = subst (λ n. may_use (holds s path n) mode origin ≡ true) e may in
    elim (holds-cases s path m mode origin last) [
      | inl before ↦ held_since s lawful path from mode origin own k (λ j after less. none j after (omega arith)) before
      | inr now ↦ inr (since-newly s lawful path from m mode origin own (omega arith) (λ after. none m after (omega arith)) now.entry now.stands now.how)
    ]
