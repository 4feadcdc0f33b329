-- Whence a task may push to a queue: it, or one above it, made the queue; or it was given the queue, down from above.
use Rattle.std.proofs.Common.{◌≡◌, ℕ, zero, suc, ◌+◌, ◌-◌, ◌≤◌, inl, inr, Bool, true, false, nat_eq, cond, List, [], ◌∷◌, ◌++◌, get_or, Some, refl, sym, ap, subst, ◌∙◌, add-one, append_assoc, arith}
use Rattle.std.proofs.lemmas.List.{same_from_push}
use Rattle.std.proofs.lemmas.Option.{slice_get_within, slice_get-get_or}
use Rattle.std.specs.Cmp.Lexicographic.{pointwise}
use Rattle.std.specs.Prelude.{slice_get}
use Rattle.swan_model.specs.declared.origin.Origin.{Origin}
use Rattle.swan_model.specs.declared.origin.Origin.TheVariants.{Step}
use Rattle.swan_model.specs.declared.rights.Mode.TheVariants.{Push}
use Rattle.swan_model.specs.declared.script.Entry.{Entry}
use Rattle.swan_model.specs.declared.script.Script.{Script}
use Rattle.swan_model.specs.Granted.{children_before, holds, is_spawn, may_use, root_holds, child_path}
use Rattle.swan_model.specs.Lawful.{IsLawful, IsNextPath, of_child, of_parent, of_same}
use Rattle.swan_model.specs.Nested.{spawn_time, IsEntryOf}
use Rattle.swan_model.proofs.TaskEntries.{spawn_is_next}
use Rattle.serial_elision.proofs.MadeAbove.{given_from-parent, late-give}
use Rattle.swan_model.proofs.Paths.{same_path, not_root}
use Rattle.swan_model.proofs.Lists.{last_of}
use Rattle.swan_model.proofs.Uses.{IsGrantedBy, holds-cases}

-- the path of a child, below another path: it is the child there, or its parent is below that path too
data IsChildBelow (parent : List ℕ) (number : ℕ) (path : List ℕ) (child : ℕ) (rest : List ℕ) : Type 0 where
  itself : parent ≡ path → number ≡ child → IsChildBelow parent number path child rest
  deeper : (front : List ℕ) → parent ≡ path ++ child ∷ front → IsChildBelow parent number path child rest

child-below : (parent path rest : List ℕ) (number child : ℕ) → parent ++ number ∷ [] ≡ path ++ child ∷ rest → IsChildBelow parent number path child rest
child-below parent path [] number child is =
    let same = same_from_push parent path number child is in
    itself same.0 same.1
child-below parent path (x ∷ xs) number child is =
    let last = last_of x xs in
    let whole : parent ++ number ∷ [] ≡ (path ++ child ∷ last.front) ++ last.last ∷ [] =
    is ∙ ap (λ p. path ++ child ∷ p) last.is ∙ sym (append_assoc path (child ∷ last.front) (last.last ∷ [])) in
    deeper last.front (same_from_push parent (path ++ child ∷ last.front) number last.last whole).0

-- ---- each task that has an entry was spawned, and each one above it

pub record IsKnown (s : Script) (path : List ℕ) (child : ℕ) : Type 0 where
  pub spawn : ℕ
  pub is : spawn_time s path child ≡ Some spawn

known-next : (s : Script) (n : ℕ) (entry : Entry) (then path : List ℕ) (child : ℕ) (rest : List ℕ) → slice_get s.entries n ≡ Some entry → ((more : List ℕ) → entry.path ≡ path ++ child ∷ more → IsKnown s path child) → then ≡ path ++ child ∷ rest → IsNextPath s n entry then → IsKnown s path child
known-next s n entry then path child rest stands before is (of_child spawns ends named) =
    let number = children_before s entry.path n in
    by (child-below entry.path path rest number child (sym named ∙ is))
  where
    by : IsChildBelow entry.path (children_before s entry.path n) path child rest → IsKnown s path child
    by (itself own same) =
        record { spawn = n; is = ap (λ p. spawn_time s p child) (sym own) ∙ ap (spawn_time s entry.path) (sym same) ∙ spawn_is_next s n entry stands spawns }
    by (deeper front own) = before front own
known-next s n entry then path child rest stands before is (of_parent quiet ends number own) =
    before (rest ++ number ∷ []) (own ∙ ap (λ p. p ++ number ∷ []) is ∙ append_assoc path (child ∷ rest) (number ∷ []))
known-next s n entry then path child rest stands before is (of_same quiet ends own) = before rest (sym own ∙ is)

pub known_above : (s : Script) → IsLawful s → (n : ℕ) (entry : Entry) (path : List ℕ) (child : ℕ) (rest : List ℕ) → slice_get s.entries n ≡ Some entry → entry.path ≡ path ++ child ∷ rest → IsKnown s path child
known_above s lawful zero entry path child rest stands is =
    absurd (not_root path rest child (sym is ∙ lawful.first entry stands))
known_above s lawful (suc n) entry path child rest stands is =
    let within = slice_get_within s.entries (suc n) entry stands in
    let before = get_or s.entries n entry in
    let at = slice_get-get_or s.entries n entry (omega (arith, within)) in
    let next : slice_get s.entries (n + 1) ≡ Some entry = ap (slice_get s.entries) (add-one n) ∙ stands in
    known-next s n before entry.path path child rest at (λ more own. known_above s lawful n before path child more at own) is (lawful.next n before entry at next)

-- ---- down from above

-- The parent might push to the queue when it spawned this child; or the child, or one below it, made the queue.
pub data IsPushedFrom (s : Script) (path : List ℕ) (child : ℕ) (queue : Origin) : Type 0 where
  from_above : (spawn : ℕ) → spawn_time s path child ≡ Some spawn → may_use (holds s path spawn) Push queue ≡ true → IsPushedFrom s path child queue
  made_below : (m : ℕ) → queue ≡ Step m → (entry : Entry) → slice_get s.entries m ≡ Some entry → (more : List ℕ) → entry.path ≡ path ++ child ∷ more → IsPushedFrom s path child queue

pushed-newly : (s : Script) → IsLawful s → (n : ℕ) (top path : List ℕ) (child : ℕ) (rest : List ℕ) (queue : Origin) → ((p more : List ℕ) → may_use (holds s p n) Push queue ≡ true → p ≡ path ++ child ∷ more → IsPushedFrom s path child queue) → top ≡ path ++ child ∷ rest → (entry : Entry) → slice_get s.entries n ≡ Some entry → IsGrantedBy s top n entry Push queue → IsPushedFrom s path child queue
pushed-newly s lawful n top path child rest queue before is entry stands (inl own) =
    made_below n own.1 entry stands rest (same_path entry.path top own.0 ∙ is)
pushed-newly s lawful n top path child rest queue before is entry stands (inr gift) =
    by (child-below entry.path path rest (children_before s entry.path n) child (same_path (child_path s entry.path n) top gift.to ∙ is))
  where
    held : may_use (holds s entry.path n) Push queue ≡ true
    held = given_from-parent s lawful n entry gift.gives Push queue stands gift.is gift.may

    by : IsChildBelow entry.path (children_before s entry.path n) path child rest → IsPushedFrom s path child queue
    by (itself own same) =
        from_above n (ap (λ p. spawn_time s p child) (sym own) ∙ ap (spawn_time s entry.path) (sym same) ∙ spawn_is_next s n entry stands (ap is_spawn gift.is))
        (subst (λ p. may_use (holds s p n) Push queue ≡ true) own held)
    by (deeper front own) = before entry.path front held own

pub pushed_from : (s : Script) → IsLawful s → (n : ℕ) (top path : List ℕ) (child : ℕ) (rest : List ℕ) (queue : Origin) → may_use (holds s top n) Push queue ≡ true → top ≡ path ++ child ∷ rest → IsPushedFrom s path child queue
pushed_from s lawful zero top path child rest queue may is = by (pointwise nat_eq top []) refl may where
  by : (b : Bool) → pointwise nat_eq top [] ≡ b → may_use (cond b (root_holds s) []) Push queue ≡ true → IsPushedFrom s path child queue
  by true root held = absurd (not_root path rest child (sym is ∙ same_path top [] root))
  by false root held = absurd (cc)
pushed_from s lawful (suc n) top path child rest queue may is = elim (holds-cases s top n Push queue may) [
  | inl before ↦ pushed_from s lawful n top path child rest queue before is
  | inr newly ↦
      pushed-newly s lawful n top path child rest queue (λ p more held own. pushed_from s lawful n p path child more queue held own) is newly.entry newly.stands newly.how
]

-- ---- since an entry of its own

-- a task might push to the queue at an entry of its own, or it made the queue since
pub data IsHeldSince (s : Script) (path : List ℕ) (from n : ℕ) (queue : Origin) : Type 0 where
  before_it : may_use (holds s path from) Push queue ≡ true → IsHeldSince s path from n queue
  made_since : (m : ℕ) → from ≤ m → queue ≡ Step m → IsEntryOf s path m → IsHeldSince s path from n queue

since-grant : (s : Script) → IsLawful s → (path : List ℕ) (from m n : ℕ) (queue : Origin) → IsEntryOf s path from → from ≤ m → (entry : Entry) → slice_get s.entries m ≡ Some entry → IsGrantedBy s path m entry Push queue → IsHeldSince s path from n queue
since-grant s lawful path from m n queue own late entry stands (inl mine) =
    made_since m late mine.1 (record { entry = entry; stands = stands; own = same_path entry.path path mine.0 })
since-grant s lawful path from m n queue own late entry stands (inr gift) =
    let early = late-give s lawful path from m entry gift.gives own stands gift.is (same_path (child_path s entry.path m) path gift.to) in
    absurd (omega arith)

since-more : (s : Script) → IsLawful s → (path : List ℕ) (from : ℕ) (queue : Origin) → IsEntryOf s path from → (k n : ℕ) → may_use (holds s path (from + k)) Push queue ≡ true → IsHeldSince s path from n queue
since-more s lawful path from queue own zero n may =
    let e : from + 0 ≡ from = omega arith in
    before_it (subst (λ t. may_use (holds s path t) Push queue ≡ true) e may)
since-more s lawful path from queue own (suc k) n may =
    let e : from + suc k ≡ suc (from + k) = omega arith in
    let last : may_use (holds s path (suc (from + k))) Push queue ≡ true = subst (λ t. may_use (holds s path t) Push queue ≡ true) e may in
    elim (holds-cases s path (from + k) Push queue last) [
      | inl before ↦ since-more s lawful path from queue own k n before
      | inr newly ↦ since-grant s lawful path from (from + k) n queue own (omega arith) newly.entry newly.stands newly.how
    ]

pub held_at : (s : Script) → IsLawful s → (path : List ℕ) (from n : ℕ) (queue : Origin) → IsEntryOf s path from → from ≤ n → may_use (holds s path n) Push queue ≡ true → IsHeldSince s path from n queue
held_at s lawful path from n queue own late may =
    let e : n ≡ from + (n - from) = omega arith in
    since-more s lawful path from queue own (n - from) n (subst (λ t. may_use (holds s path t) Push queue ≡ true) e may)
