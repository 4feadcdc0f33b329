-- What becomes of the nodes in mid-call, and that kept versions stay whole.
use Rattle.std.proofs.Common.{◌≡◌, ◌≢◌, ℕ, ◌+◌, ◌-◌, ◌<◌, Bool, true, false, cond, nat_lt, None, Some, refl, sym, ap, ◌∙◌, subst, arith, ⊎_elim}
use Rattle.std.proofs.lemmas.Option.{same_Some}
use Rattle.std.proofs.lemmas.Bool.{cases_eq}
use Rattle.std.proofs.lemmas.Bool.Decides.{nat_tests}
use Rattle.slab.specs.Slab.{Slab, get, Updates}
use Rattle.object_versions.specs.declared.node.Node.{Node}
use Rattle.object_versions.specs.Store.{PlaceEntries, told_of, told_at, uses, uses_in, after_release}
use Rattle.object_versions.specs.Whole.{IsWhole}
use Rattle.object_versions.proofs.Counts.{counted_after, told_elsewhere, told_here, told_still, unused, used, HasNode}
use Rattle.object_versions.proofs.Steps.{moved_nodes}

-- for one key the code refers to a node more often, or less, and for others as before
pub record IsHeldNow (held later : ℕ → ℕ) (key now : ℕ) : Type 0 where
  pub here : later key ≡ now
  pub others : (k : ℕ) → k ≢ key → later k ≡ held k

-- ---- a new node

module _ (entries : PlaceEntries) (old new : Slab Node) (made : ℕ) (held later : ℕ → ℕ) (key : ℕ) (node : Node) (whole : IsWhole entries old made held)
    (vacant : get old key ≡ None) (change : Updates old new key (Some node)) where
  no_use : uses key entries + held key ≡ 0
  no_use = unused old (λ k. uses k entries + held k) key whole.counted vacant

  -- nobody who refers to a version sees a new one
  pub made_told : (k : ℕ) → 0 < uses k entries + held k → told_at new k ≡ told_at old k
  made_told k h = told_elsewhere old new key (Some node) change k
      (λ e. let some : 0 < uses key entries + held key = let P : ℕ → Type 0 = λ n. 0 < uses n entries + held n in subst P e h in let none = no_use in omega (arith, some, none))

  pub made_whole : 0 < node.uses → IsHeldNow held later key node.uses → IsWhole entries new made later
  made_whole some now = moved_nodes entries old new made held later whole
      (counted_after old new key (Some node) change (λ k. uses k entries + held k) (λ k. uses k entries + later k) whole.counted
      (λ k apart. ap (λ n. uses k entries + n) (now.others k apart))
      (let none = no_use in let count = now.here in omega (arith, none, count))
      (λ other is. let P : Node → Type 0 = λ n. 0 < n.uses in subst P (same_Some node other is) some))
      (λ k h. made_told k (omega arith))

-- ---- one more who refers to a node

module _ (entries : PlaceEntries) (old new : Slab Node) (made : ℕ) (held later : ℕ → ℕ) (key more : ℕ) (whole : IsWhole entries old made held)
    (some : 0 < uses key entries + held key)
    (change : (node : Node) → get old key ≡ Some node → Updates old new key (Some (record node { uses = node.uses + more }))) where
  found : HasNode old key
  found = used old (λ k. uses k entries + held k) key whole.counted some

  pub shared_told : (k : ℕ) → told_at new k ≡ told_at old k
  shared_told = let node = found in
      told_still old new key _ (change node.node node.is) (sym (ap told_of node.is))

  pub shared_whole : IsHeldNow held later key (held key + more) → IsWhole entries new made later
  shared_whole now = let node = found in
      let n = node.node in
      let count : n.uses ≡ uses key entries + held key = sym (ap uses_in node.is) ∙ whole.counted.exact key in
      moved_nodes entries old new made held later whole
      (counted_after old new key (Some (record n { uses = n.uses + more })) (change n node.is) (λ k. uses k entries + held k) (λ k. uses k entries + later k) whole.counted
      (λ k apart. ap (λ n. uses k entries + n) (now.others k apart))
      (let held_now = now.here in omega (arith, count, held_now))
      (λ other is.
      let P : Node → Type 0 = λ o. 0 < o.uses in
      let positive : 0 < n.uses + more = omega (arith, count, some) in
      subst P (same_Some (record n { uses = n.uses + more }) other is) positive))
      (λ k h. shared_told k)

-- ---- one less who refers to a node

released_uses : (node : Node) → 0 < node.uses → uses_in (after_release node) + 1 ≡ node.uses
released_uses node some = by (nat_lt 1 node.uses) refl where
  by : (b : Bool) → nat_lt 1 node.uses ≡ b → uses_in (cond b (Some (record node { uses = node.uses - 1 })) None) + 1 ≡ node.uses
  by true is = grind (arith, nat_tests)
  by false is = grind (arith, nat_tests)

released_live : (node other : Node) → after_release node ≡ Some other → 0 < other.uses
released_live node other e = by (nat_lt 1 node.uses) refl e where
  by : (b : Bool) → nat_lt 1 node.uses ≡ b → cond b (Some (record node { uses = node.uses - 1 })) None ≡ Some other → 0 < other.uses
  by true is e =
      let P : Node → Type 0 = λ o. 0 < o.uses in
      let positive : 0 < node.uses - 1 = grind (arith, nat_tests) in
      subst P (same_Some (record node { uses = node.uses - 1 }) other e) positive
  by false is e = absurd (cc)

released_told : (node : Node) → 1 < node.uses → told_of (after_release node) ≡ told_of (Some node)
released_told node some = by (nat_lt 1 node.uses) refl where
  by : (b : Bool) → nat_lt 1 node.uses ≡ b → told_of (cond b (Some (record node { uses = node.uses - 1 })) None) ≡ told_of (Some node)
  by true is = refl
  by false is = absurd (grind (arith, nat_tests))

module _ (entries : PlaceEntries) (old new : Slab Node) (made : ℕ) (held later : ℕ → ℕ) (key : ℕ) (whole : IsWhole entries old made held)
    (some : 0 < held key) (change : (node : Node) → get old key ≡ Some node → Updates old new key (after_release node))
    (here : held key ≡ later key + 1) (others : (k : ℕ) → k ≢ key → later k ≡ held k) where
  there : HasNode old key
  there = used old (λ k. uses k entries + held k) key whole.counted (omega arith)

  count : there.node.uses ≡ uses key entries + held key
  count = sym (ap uses_in there.is) ∙ whole.counted.exact key

  -- whoever still refers to a version sees the same
  pub released_same : (k : ℕ) → 0 < uses k entries + later k → told_at new k ≡ told_at old k
  released_same k h = ⊎_elim
      (λ e.
      let still : 0 < uses key entries + later key = let P : ℕ → Type 0 = λ n. 0 < uses n entries + later n in subst P e h in
      let counts = count in
      let many : 1 < there.node.uses = omega (arith, counts, still, here) in
      ap (told_at new) e ∙ told_here old new key (after_release there.node) (change there.node there.is) ∙ released_told there.node many
      ∙ sym (ap told_of there.is) ∙ ap (told_at old) (sym e))
      (told_elsewhere old new key (after_release there.node) (change there.node there.is) k)
      (cases_eq k key)

  pub released_whole : IsWhole entries new made later
  released_whole =
      let counts = count in
      let positive : 0 < there.node.uses = omega (arith, counts, some) in
      let less = released_uses there.node positive in
      moved_nodes entries old new made held later whole
      (counted_after old new key (after_release there.node) (change there.node there.is) (λ k. uses k entries + held k) (λ k. uses k entries + later k) whole.counted
      (λ k apart. ap (λ n. uses k entries + n) (others k apart))
      (omega (arith, less, counts, here))
      (released_live there.node))
      (λ k h. released_same k (omega arith))
