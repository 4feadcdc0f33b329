-- Facts on the sets of children, on holdings and on what the sets have of them.
use Rattle.std.proofs.Common.{◌≡◌, ℕ, ◌+◌, ◌<◌, ◌≤◌, Bool, true, false, ◌&&◌, ◌||◌, ◌==◌, List, take, get_or, length, sym, ap, subst, ◌∙◌, ◌⊎◌, inl, inr, Option, Some, None, IfSome, IfNone, refl}
use Rattle.std.proofs.lemmas.Bool.{false≢true, eqb-true, eq-eqb, or_cases, or_right, and_parts, and_from}
use Rattle.std.proofs.lemmas.List.Folds.{list_any_more, list_any_kept}
use Rattle.swan_model.specs.Rights.{allows}
use Rattle.swan_model.specs.SerialState.{Holding}
use Rattle.swan_model.specs.declared.rights.Mode.{Mode}
use Rattle.swan_model.specs.declared.rights.Mode.TheVariants.{Pop}
use Rattle.pop_order.specs.Children.{ChildEntry, has, IsOldest}
use Rattle.pop_order.specs.Frames.{Frames, lets_use}
use Rattle.pop_order.specs.Turns.{IsPoppingChild}
use Rattle.pop_order.specs.Poppers.{IsAmong}
use Rattle.pop_order.specs.Kept.{HasHolders}

-- ---- holdings

-- whether one holding lets use a queue by a mode
abbrev pub lets : ℕ → Mode → Holding → Bool
lets queue mode h = (h.number == queue) && allows h.mode mode

pub holds_more : (hs : List Holding) (i queue : ℕ) (mode : Mode) (h : Holding) → i < length hs → h ≡ get_or hs i h
    → lets_use (take (i + 1) hs) queue mode ≡ true → (lets_use (take i hs) queue mode ≡ true) ⊎ ((h.number ≡ queue) × (allows h.mode mode ≡ true))
holds_more hs i queue mode h l e t =
    let more : (lets_use (take i hs) queue mode || lets queue mode (get_or hs i h)) ≡ true = sym (list_any_more (lets queue mode) hs i h l) ∙ t in
    elim (or_cases (lets_use (take i hs) queue mode) (lets queue mode (get_or hs i h)) more) [
      | inl before ↦ inl before
      | inr last ↦ let parts = and_parts _ _ (ap (lets queue mode) e ∙ last) in inr (eqb-true h.number queue parts.0, parts.1)
    ]

pub holds_last : (hs : List Holding) (i : ℕ) (mode : Mode) (h : Holding) → i < length hs → h ≡ get_or hs i h
    → allows h.mode mode ≡ true → lets_use (take (i + 1) hs) h.number mode ≡ true
holds_last hs i mode h l e a =
    list_any_more (lets h.number mode) hs i h l
    ∙ or_right _ _ (ap (lets h.number mode) (sym e) ∙ and_from _ _ (eq-eqb h.number h.number refl) a)

-- ---- the search for the oldest popper

pub among_more : (set : List ChildEntry) (p : ℕ) (hs : List Holding) (i n : ℕ) (h : Holding) → i < length hs → h ≡ get_or hs i h
    → IsAmong set p (take (i + 1) hs) n → IsAmong set p (take i hs) n ⊎ ((allows h.mode Pop ≡ true) × (has set p h.number n ≡ true))
among_more set p hs i n h l e a =
    elim (holds_more hs i a.queue Pop h l e a.popped) [
      | inl before ↦ inl (record { queue = a.queue; popped = before; known = a.known })
      | inr last ↦ let P : ℕ → Type 0 = λ q. has set p q n ≡ true in inr (last.1, subst P (sym last.0) a.known)
    ]

pub among_kept : (set : List ChildEntry) (p : ℕ) (hs : List Holding) (i n : ℕ) → IsAmong set p (take i hs) n → IsAmong set p (take (i + 1) hs) n
among_kept set p hs i n a = record { queue = a.queue; popped = list_any_kept (lets a.queue Pop) hs i a.popped; known = a.known }

pub among_last : (set : List ChildEntry) (p : ℕ) (hs : List Holding) (i n : ℕ) (h : Holding) → i < length hs → h ≡ get_or hs i h
    → allows h.mode Pop ≡ true → has set p h.number n ≡ true → IsAmong set p (take (i + 1) hs) n
among_last set p hs i n h l e a known = record { queue = h.number; popped = holds_last hs i Pop h l e a; known = known }

-- ---- what the sets have

module _ (frames : Frames) (queue : ℕ) (set : List ChildEntry) (pops : HasHolders frames Pop queue set) where
  pub oldest_pops : (frame child : ℕ) → IsOldest set frame queue child
      → IsPoppingChild frames frame queue child × ((other : ℕ) → IsPoppingChild frames frame queue other → child ≤ other)
  oldest_pops frame child oldest =
      (pops.holders frame child oldest.known, λ other pop. oldest.least other (pops.all frame other pop.0 pop.1))

  pub none_pops : (frame : ℕ) → ((child : ℕ) → has set frame queue child ≡ false) → (other : ℕ) → ¬ IsPoppingChild frames frame queue other
  none_pops frame none other pop = false≢true (sym (none other) ∙ pops.all frame other pop.0 pop.1)

  pub found_pops : (frame : ℕ) (found : Option ℕ) → IfSome found (IsOldest set frame queue) → IfSome found (IsPoppingChild frames frame queue)
  found_pops frame None oldest = tt
  found_pops frame (Some child) oldest = (oldest_pops frame child oldest).0

  pub found_oldest : (frame : ℕ) (found : Option ℕ) → IfSome found (IsOldest set frame queue)
      → IfSome found (λ child. (other : ℕ) → IsPoppingChild frames frame queue other → child ≤ other)
  found_oldest frame None oldest = tt
  found_oldest frame (Some child) oldest = (oldest_pops frame child oldest).1

  pub not_found : (frame : ℕ) (found : Option ℕ) → IfNone found ((child : ℕ) → has set frame queue child ≡ false)
      → IfNone found ((other : ℕ) → ¬ IsPoppingChild frames frame queue other)
  not_found frame None none = none_pops frame none
  not_found frame (Some child) none = tt
