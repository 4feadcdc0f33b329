-- A set of children by parent and queue.
use Rattle.std.specs.Prelude.{◌≡◌, ℕ, ◌≤◌, Bool, true, false, ◌&&◌, ◌||◌, not, ◌==◌, List}
use Rattle.std.specs.List.{list_any}
use Rattle.std.specs.Ordering.{nat_cmp, ordering_then, is_gt}
use Rattle.std.specs.BTreeMap.{is_at}
use Rattle.std.specs.declared.cmp.Ordering.{Ordering}

-- a parent, a queue, and a child of that parent
abbrev pub ChildEntry : Type 0
ChildEntry = ℕ × ℕ × ℕ

-- by parent, then by queue, then by child
abbrev pub entry_cmp : ChildEntry → ChildEntry → Ordering
entry_cmp a b = ordering_then (ordering_then (nat_cmp a.0 b.0) (nat_cmp a.1 b.1)) (nat_cmp a.2 b.2)

-- an entry isn't after another in that order
unfoldable pub IsNotAfter : ChildEntry → ChildEntry → Type 0
IsNotAfter a b = is_gt (entry_cmp a b) ≡ false

-- whether a child of a parent is in the set for a queue
unfoldable pub has : List ChildEntry → ℕ → ℕ → ℕ → Bool
has entries parent queue child = list_any (is_at (entry_cmp (parent, queue, child))) entries

-- whether a parent, a queue and a child are those of an entry
abbrev pub is_entry : ℕ → ℕ → ℕ → ℕ → ℕ → ℕ → Bool
is_entry parent queue child p q c = (parent == p) && ((queue == q) && (child == c))

-- the oldest child of a parent that the set has for a queue
pub record IsOldest (set : List ChildEntry) (parent queue oldest : ℕ) : Type 0 where
  pub known : has set parent queue oldest ≡ true
  pub least : (child : ℕ) → has set parent queue child ≡ true → oldest ≤ child

-- the set after an entry came in
abbrev pub IsWith : List ChildEntry → ℕ → ℕ → ℕ → List ChildEntry → Type 0
IsWith before parent queue child after = (p q c : ℕ) → has after p q c ≡ (is_entry parent queue child p q c || has before p q c)

-- the set after an entry went out
abbrev pub IsWithout : List ChildEntry → ℕ → ℕ → ℕ → List ChildEntry → Type 0
IsWithout before parent queue child after = (p q c : ℕ) → has after p q c ≡ (not (is_entry parent queue child p q c) && has before p q c)

-- the sets have the same children for a queue
abbrev pub IsSameFor : ℕ → List ChildEntry → List ChildEntry → Type 0
IsSameFor queue before after = (parent child : ℕ) → has after parent queue child ≡ has before parent queue child
