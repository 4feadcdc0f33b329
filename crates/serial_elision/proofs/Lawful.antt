-- Scripts of plans are lawful: whose entry comes after each one, beside what the other laws of scripts say.
use Rattle.std.proofs.Common.{◌≡◌, ℕ, zero, suc, ◌+◌, true, false, List, [], ◌∷◌, ◌++◌, length, Some, refl, sym, ap, subst, ◌∙◌, arith, add-one}
use Rattle.std.specs.Prelude.{IfSome, IsTrue, slice_get}
use Rattle.swan_model.specs.declared.body.Body.{Ghosts}
use Rattle.swan_model.specs.declared.plan.Plan.{Plan}
use Rattle.swan_model.specs.declared.script.Deed.{Deed}
use Rattle.swan_model.specs.declared.script.Entry.{Entry}
use Rattle.swan_model.specs.declared.script.Script.{Script}
use Rattle.swan_model.specs.Elision.{serial}
use Rattle.swan_model.specs.Granted.{children_before, holds, is_spawn, is_within}
use Rattle.swan_model.specs.Lawful.{IsNextPath, of_child, of_parent, of_same, IsLawful}
use Rattle.swan_model.specs.Nested.{IsEndOf}
use Rattle.swan_model.specs.Roots.{IsWithinBounds}
use Rattle.swan_model.specs.Script.{deed_of, is_end, script}
use Rattle.swan_model.specs.SerialState.{Activation, State}
use Rattle.swan_model.specs.SerialStep.{Effect, goes_on, spawns, ends, faults, state_after, with_failed, effect_of, step_on}
use Rattle.serial_elision.proofs.EndDeeds.{ending}
use Rattle.serial_elision.proofs.Endings.{nested, root_ends}
use Rattle.serial_elision.proofs.Nesting.{top_at, next_stack, end_is_last, counted}
use Rattle.serial_elision.proofs.Passing.{AreCounted}
use Rattle.serial_elision.proofs.RightsTold.{within_rights}
use Rattle.serial_elision.proofs.Turns.{FitsDeed, next_deed, step-fits}

-- ---- each activation is a child of the one below it

-- a path is that of a child of the task with the other one
record IsChild (path parent : List ℕ) : Type 0 where
  number : ℕ
  is : path ≡ parent ++ number ∷ []

abbrev IsChildOfFirst : {L : Type 0} → List ℕ → List (Activation L) → Type 0
IsChildOfFirst path [] = Unit {0}
IsChildOfFirst path (parent ∷ below) = IsChild path parent.path

abbrev AreChildren : {L : Type 0} → List (Activation L) → Type 0
AreChildren [] = Unit {0}
AreChildren (a ∷ below) = IsChildOfFirst a.path below × AreChildren below

child-failed : {L : Type 0} (path : List ℕ) (stack : List (Activation L)) → IsChildOfFirst path stack → IsChildOfFirst path (with_failed stack)
child-failed path [] is = tt
child-failed path (parent ∷ below) is = is

children-failed : {L : Type 0} (stack : List (Activation L)) → AreChildren stack → AreChildren (with_failed stack)
children-failed [] each = tt
children-failed (parent ∷ below) each = each

child-moved : {L : Type 0} (path other : List ℕ) (below : List (Activation L)) → other ≡ path → IsChildOfFirst path below → IsChildOfFirst other below
child-moved path other below same is = subst (λ p. IsChildOfFirst p below) (sym same) is

after-children : {L : Type 0} (s : State L) (top : Activation L) (below : List (Activation L)) (place : ℕ) (does : Deed) (done : Effect L) → FitsDeed top does done → AreChildren (top ∷ below) → AreChildren (state_after s below top.path place done).stack
after-children s top below place does (goes_on a store) fits each = (child-moved top.path a.path below fits.0 each.0, each.1)
after-children s top below place does (spawns parent child store) fits each = (
  record { number = top.children; is = fits.2 ∙ ap (λ p. p ++ top.children ∷ []) (sym fits.0) },
  (child-moved top.path parent.path below fits.0 each.0, each.1),
)
after-children s top below place does ends fits each = each.1
after-children s top below place does (faults kind) fits each = children-failed below each.1

-- ---- whose entry comes next

-- where a task ends that isn't the root, its parent's entry comes next
next-parent : {L : Type 0} (s : Script) (n : ℕ) (entry : Entry) (path : List ℕ) (below under : List (Activation L)) (then : Activation L) → entry.path ≡ path → is_spawn entry.deed ≡ false → entry.ends ≡ true → IsChildOfFirst path below → below ≡ then ∷ under → IsNextPath s n entry then.path
next-parent s n entry path below under then own quiet over child left =
    let first : IsChild path then.path = subst (IsChildOfFirst path) left child in
    of_parent quiet over first.number (own ∙ first.is)

next-path : {L : Type 0} (s : Script) (n : ℕ) (entry : Entry) (state : State L) (top : Activation L) (below : List (Activation L)) (place : ℕ) (does : Deed) (done : Effect L) → FitsDeed top does done → entry.path ≡ top.path → entry.deed ≡ deed_of does done → entry.ends ≡ is_end done → children_before s top.path n ≡ top.children → IsChildOfFirst top.path below → (then : Activation L) (under : List (Activation L)) → (state_after state below top.path place done).stack ≡ then ∷ under → IsNextPath s n entry then.path
next-path s n entry state top below place does (goes_on a store) fits own deed over many child then under left =
    let same : a ≡ then = cc in
    of_same (ap is_spawn deed ∙ fits.2) over (ap (λ (b : Activation _). b.path) (sym same) ∙ fits.0 ∙ sym own)
next-path s n entry state top below place does (spawns parent made store) fits own deed over many child then under left =
    let same : made ≡ then = cc in
    let named : top.path ++ top.children ∷ [] ≡ entry.path ++ children_before s entry.path n ∷ [] =
    ap (λ k. top.path ++ k ∷ []) (sym many) ∙ ap (λ p. p ++ children_before s p n ∷ []) (sym own) in
    of_child (ap is_spawn deed ∙ fits.4) over (ap (λ (b : Activation _). b.path) (sym same) ∙ fits.2 ∙ named)
next-path s n entry state top below place does ends fits own deed over many child then under left =
    next-parent s n entry top.path below under then own (ap is_spawn deed ∙ fits) over child left
next-path s n entry state top below place does (faults kind) fits own deed over many child then under left =
    next-parent s n entry top.path (with_failed below) under then own (ap is_spawn deed ∙ fits) over (child-failed top.path below child) left

module _ {B L : Type 0} (G : Ghosts B L) where
  children-on : (body : B) (s : State L) (stack : List (Activation L)) → s.stack ≡ stack → AreChildren stack → AreChildren (step_on G body s stack).stack
  children-on body s [] is each = subst AreChildren (sym is) each
  children-on body s (top ∷ below) is each =
      after-children s top below (G.place_of body top.local) (next_deed G body s.store top) (effect_of G body s.steps s.store top) (step-fits G body s.steps s.store top) each

  children : (plan : Plan B L) (n : ℕ) → AreChildren (serial G plan n).stack
  children plan zero = (tt, tt)
  children plan (suc n) = children-on plan.body (serial G plan n) (serial G plan n).stack refl (children plan n)

  first : (plan : Plan B L) (entry : Entry) → slice_get (script G plan).entries 0 ≡ Some entry → entry.path ≡ []
  first plan entry is =
      let at = top_at G plan 0 entry is in
      let own : at.top.path ≡ [] = let stack = at.stack in cc in
      at.own ∙ own

  next : (plan : Plan B L) (n : ℕ) (entry other : Entry) → slice_get (script G plan).entries n ≡ Some entry → slice_get (script G plan).entries (n + 1) ≡ Some other → IsNextPath (script G plan) n entry other.path
  next plan n entry other is then =
      let s = script G plan in
      let state = serial G plan n in
      let at = top_at G plan n entry is in
      let there = top_at G plan (suc n) other (ap (slice_get s.entries) (sym (add-one n)) ∙ then) in
      let each : AreChildren (at.top ∷ at.below) = subst AreChildren at.stack (children plan n) in
      let all : AreCounted s.entries n (at.top ∷ at.below) = subst (AreCounted s.entries n) at.stack (counted G plan n) in
      let left = sym (next_stack G plan n at.top at.below at.stack) ∙ there.stack in
      subst (IsNextPath s n entry) (sym there.own)
      (next-path s n entry state at.top at.below (G.place_of plan.body at.top.local) (next_deed G plan.body state.store at.top) (effect_of G plan.body state.steps state.store at.top)
      (step-fits G plan.body state.steps state.store at.top) at.own at.deed at.ends all.0 each.0 there.top there.below left)

  last : (plan : Plan B L) (n : ℕ) → length (script G plan).entries ≡ n + 1 → IsEndOf (script G plan) [] n
  last plan n many =
      let end = root_ends G plan in
      let e : end.0 ≡ n = omega (arith, end.1, many) in
      subst (IsEndOf (script G plan) []) e end.2

  within : (plan : Plan B L) → IsWithinBounds plan.roots.queues plan.roots.objects → (n : ℕ) (entry : Entry) → slice_get (script G plan).entries n ≡ Some entry → IsTrue (is_within (holds (script G plan) entry.path n) entry.deed)
  within plan bounds n entry is =
      let s = script G plan in
      subst (λ found. IfSome found (λ (e : Entry). IsTrue (is_within (holds s e.path n) e.deed))) is (within_rights G plan bounds n)

  -- the script of a plan is lawful
  pub lawful : (plan : Plan B L) → IsWithinBounds plan.roots.queues plan.roots.objects → IsLawful (script G plan)
  lawful plan bounds =
      let end = root_ends G plan in
      record {
        first = first plan;
        next = next plan;
        last = last plan;
        some = omega (arith, end.1);
        over = end_is_last G plan;
        nested = nested G plan;
        ending = ending G plan;
        within = within plan bounds;
      }
