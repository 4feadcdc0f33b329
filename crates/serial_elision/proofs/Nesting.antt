-- Scripts of plans are nested: each child runs whole at the step that spawns it.
use Rattle.std.proofs.Common.{◌≡◌, inl, inr, ℕ, zero, suc, ◌≤◌, true, List, [], ◌∷◌, ◌++◌, Some, refl, sym, ap, subst, ◌∙◌, arith}
use Rattle.std.proofs.lemmas.Bool.{cases_lt, and_parts}
use Rattle.std.specs.Prelude.{slice_get}
use Rattle.swan_model.specs.declared.body.Body.{Ghosts}
use Rattle.swan_model.specs.declared.plan.Plan.{Plan}
use Rattle.swan_model.specs.declared.script.Entry.{Entry}
use Rattle.swan_model.specs.Elision.{serial}
use Rattle.swan_model.specs.Granted.{is_spawn}
use Rattle.swan_model.specs.Nested.{spawn_time, IsEntryUnder, IsEndOf}
use Rattle.swan_model.specs.Script.{deed_of, is_end, entry_of, entry_on, script}
use Rattle.swan_model.specs.SerialState.{Activation, State}
use Rattle.swan_model.specs.SerialStep.{step_on, effect_of, state_after}
use Rattle.swan_model.specs.SerialTime.{is_of}
use Rattle.swan_model.specs.PathOrder.{comes_before}
use Rattle.serial_elision.proofs.Entries.{get_script}
use Rattle.serial_elision.proofs.FaultOrder.{PrecedesEach, precedes-failed, serial-ordered}
use Rattle.serial_elision.proofs.FaultOrder as order
use Rattle.serial_elision.proofs.Passing.{after-precedes, IsNotYetEach, not_yet-top, after-not_yet, after-end, AreCounted, AreNotYet, after-counted}
use Rattle.swan_model.proofs.PathOrder.{not_before-under}
use Rattle.swan_model.proofs.Places.{passing, placed}
use Rattle.serial_elision.proofs.Turns.{next_deed, step-fits}
use Rattle.swan_model.proofs.Paths.{same_path}
use Rattle.swan_model.proofs.TaskEntries.{is_spawn_of}

-- what holds after some steps, and after each step that follows, holds from then on
pub stays : (P : ℕ → Type 0) → ((n : ℕ) → P n → P (suc n)) → (from now : ℕ) → from ≤ now → P from → P now
stays P step from zero late holds = let e : from ≡ zero = omega arith in subst P e holds
stays P step from (suc now) late holds = elim (cases_lt now from) [
  | inl past ↦ let e : from ≡ suc now = omega arith in subst P e holds
  | inr before ↦ step now (stays P step from now before holds)
]

module _ {B L : Type 0} (G : Ghosts B L) where
  -- the entry at a time is that of the top activation
  pub record IsTopAt (body : B) (s : State L) (entry : Entry) : Type 0 where
    pub top : Activation L
    pub below : List (Activation L)
    pub stack : s.stack ≡ top ∷ below
    pub own : entry.path ≡ top.path
    pub deed : entry.deed ≡ deed_of (next_deed G body s.store top) (effect_of G body s.steps s.store top)
    pub ends : entry.ends ≡ is_end (effect_of G body s.steps s.store top)

  top_on : (body : B) (s : State L) (stack : List (Activation L)) (entry : Entry) → s.stack ≡ stack → entry_on G body s stack ≡ Some entry → IsTopAt body s entry
  top_on body s [] entry stands is = absurd (cc)
  top_on body s (top ∷ below) entry stands is =
      let now : Entry = entry_of G body s.steps s.store top in
      let same : Some now ≡ Some entry = is in
      let it : entry ≡ now = cc in
      record { top = top; below = below; stack = stands; own = ap (λ e. e.path) it; deed = ap (λ e. e.deed) it; ends = ap (λ e. e.ends) it }

  pub top_at : (plan : Plan B L) (n : ℕ) (entry : Entry) → slice_get (script G plan).entries n ≡ Some entry → IsTopAt plan.body (serial G plan n) entry
  top_at plan n entry is =
      top_on plan.body (serial G plan n) (serial G plan n).stack entry refl (sym (get_script G plan n) ∙ is)

  -- the stack after the step of the top activation
  abbrev pub stack_after_step : B → State L → Activation L → List (Activation L) → List (Activation L)
  stack_after_step body s top below = (state_after s below top.path (G.place_of body top.local) (effect_of G body s.steps s.store top)).stack

  pub next_stack : (plan : Plan B L) (n : ℕ) (top : Activation L) (below : List (Activation L)) → (serial G plan n).stack ≡ top ∷ below → (serial G plan (suc n)).stack ≡ stack_after_step plan.body (serial G plan n) top below
  next_stack plan n top below stack =
      ap (λ k. (step_on G plan.body (serial G plan n) k).stack) stack

  -- ---- what a path comes before

  precedes-on : (body : B) (s : State L) (path : List ℕ) (stack : List (Activation L)) → s.stack ≡ stack → PrecedesEach path stack → PrecedesEach path (step_on G body s stack).stack
  precedes-on body s path [] is each = subst (PrecedesEach path) (sym is) each
  precedes-on body s path (top ∷ below) is each =
      after-precedes path s top below (G.place_of body top.local) (next_deed G body s.store top) (effect_of G body s.steps s.store top) (step-fits G body s.steps s.store top) each

  pub precedes-later : (plan : Plan B L) (path : List ℕ) (from now : ℕ) → from ≤ now → PrecedesEach path (serial G plan from).stack → PrecedesEach path (serial G plan now).stack
  precedes-later plan path from now late holds =
      stays (λ n. PrecedesEach path (serial G plan n).stack) (λ n each. precedes-on plan.body (serial G plan n) path (serial G plan n).stack refl each) from now late holds

  -- the top activation comes before those below it
  pub top_precedes : (plan : Plan B L) (n : ℕ) (top : Activation L) (below : List (Activation L)) → (serial G plan n).stack ≡ top ∷ below → PrecedesEach top.path below
  top_precedes plan n top below stack =
      let nested : order.EachPrecedesBelow (top ∷ below) = subst order.EachPrecedesBelow stack (serial-ordered G plan n).nested in
      nested.0

  -- an entry that ends its activation is the last of its path, and of all below it
  pub end_is_last : (plan : Plan B L) (path : List ℕ) (t u : ℕ) → IsEndOf (script G plan) path t → IsEntryUnder (script G plan) path u → u ≤ t
  end_is_last plan path t u end under = elim (cases_lt t u) [
    | inr before ↦ before
    | inl later ↦
        let s = serial G plan t in
        let at = top_at plan t end.entry end.stands in
        let own : at.top.path ≡ path = sym at.own ∙ end.own in
        let first : PrecedesEach path at.below = subst (λ p. PrecedesEach p at.below) own (top_precedes plan t at.top at.below at.stack) in
        let over : PrecedesEach path (stack_after_step plan.body s at.top at.below) =
        after-end (PrecedesEach path) s at.below at.top.path (G.place_of plan.body at.top.local) (effect_of G plan.body s.steps s.store at.top) (sym at.ends ∙ end.ends)
        (precedes-failed path at.below) first in
        let then = precedes-later plan path (suc t) u later (subst (PrecedesEach path) (sym (next_stack plan t at.top at.below at.stack)) over) in
        let there = top_at plan u under.entry under.stands in
        let each : PrecedesEach path (there.top ∷ there.below) = subst (PrecedesEach path) there.stack then in
        let is : there.top.path ≡ path ++ under.rest = sym there.own ∙ under.under in
        absurd (not_before-under path under.rest (ap (comes_before path) (sym is) ∙ each.0.task))
  ]

  -- ---- the children that are still to come

  not_yet-on : (body : B) (s : State L) (path : List ℕ) (stack : List (Activation L)) → s.stack ≡ stack → IsNotYetEach path stack → IsNotYetEach path (step_on G body s stack).stack
  not_yet-on body s path [] is each = subst (IsNotYetEach path) (sym is) each
  not_yet-on body s path (top ∷ below) is each =
      after-not_yet path s top below (G.place_of body top.local) (next_deed G body s.store top) (effect_of G body s.steps s.store top) (step-fits G body s.steps s.store top) each

  pub not_yet : (plan : Plan B L) (n : ℕ) → AreNotYet (script G plan).entries n (serial G plan n).stack
  not_yet plan n i e less is =
      let at = top_at plan i e is in
      let here : IsNotYetEach at.top.path (at.top ∷ at.below) = not_yet-top at.top at.below (top_precedes plan i at.top at.below at.stack) in
      let now : IsNotYetEach at.top.path (serial G plan i).stack = subst (IsNotYetEach at.top.path) (sym at.stack) here in
      let own : IsNotYetEach e.path (serial G plan i).stack = subst (λ p. IsNotYetEach p (serial G plan i).stack) (sym at.own) now in
      stays (λ m. IsNotYetEach e.path (serial G plan m).stack) (λ m each. not_yet-on plan.body (serial G plan m) e.path (serial G plan m).stack refl each) i n (omega arith) own

  counted-on : (plan : Plan B L) (n : ℕ) (stack : List (Activation L)) → (serial G plan n).stack ≡ stack → AreCounted (script G plan).entries n stack → AreCounted (script G plan).entries (suc n) (step_on G plan.body (serial G plan n) stack).stack
  counted-on plan n [] is counted = subst (AreCounted (script G plan).entries (suc n)) (sym is) tt
  counted-on plan n (top ∷ below) is counted =
      let s = serial G plan n in
      let es = (script G plan).entries in
      let e : Entry = entry_of G plan.body s.steps s.store top in
      let stands : slice_get es n ≡ Some e = get_script G plan n ∙ ap (entry_on G plan.body s) is in
      after-counted es n e s top below (G.place_of plan.body top.local) (next_deed G plan.body s.store top) (effect_of G plan.body s.steps s.store top) (step-fits G plan.body s.steps s.store top)
      stands refl refl (top_precedes plan n top below is) (subst (AreNotYet es n) is (not_yet plan n)) counted

  -- each activation has spawned as many children as the script tells
  pub counted : (plan : Plan B L) (n : ℕ) → AreCounted (script G plan).entries n (serial G plan n).stack
  counted plan zero = (no_entry (script G plan).entries, tt) where
    no_entry : (es : List Entry) → passing (is_spawn_of []) zero es ≡ 0
    no_entry [] = refl
    no_entry (e ∷ es) = refl
  counted plan (suc n) = counted-on plan n (serial G plan n).stack refl (counted plan n)

  -- at a spawn's time its task is on top, and has this many children
  pub record IsSpawnAt (plan : Plan B L) (path : List ℕ) (child spawn : ℕ) : Type 0 where
    pub entry : Entry
    pub stands : slice_get (script G plan).entries spawn ≡ Some entry
    pub own : entry.path ≡ path
    pub spawns : is_spawn entry.deed ≡ true
    pub at : IsTopAt plan.body (serial G plan spawn) entry
    pub is : at.top.path ≡ path
    pub children : at.top.children ≡ child

  pub spawn_at : (plan : Plan B L) (path : List ℕ) (child spawn : ℕ) → spawn_time (script G plan) path child ≡ Some spawn → IsSpawnAt plan path child spawn
  spawn_at plan path child spawn is =
      let es = (script G plan).entries in
      let found = placed (is_spawn_of path) 0 es child spawn is in
      let here : found.i ≡ spawn = omega (arith, found.is) in
      let stands : slice_get es spawn ≡ Some found.entry = ap (slice_get es) (sym here) ∙ found.stands in
      let both = and_parts (is_of path found.entry) (is_spawn found.entry.deed) found.passes in
      let own : found.entry.path ≡ path = same_path found.entry.path path both.0 in
      let at = top_at plan spawn found.entry stands in
      let top : at.top.path ≡ path = sym at.own ∙ own in
      let all : AreCounted es spawn (at.top ∷ at.below) = subst (AreCounted es spawn) at.stack (counted plan spawn) in
      let many : passing (is_spawn_of path) spawn es ≡ child = ap (λ t. passing (is_spawn_of path) t es) (sym here) ∙ found.before in
      let same : passing (is_spawn_of at.top.path) spawn es ≡ passing (is_spawn_of path) spawn es = ap (λ p. passing (is_spawn_of p) spawn es) top in
      record { entry = found.entry; stands = stands; own = own; spawns = both.1; at = at; is = top; children = sym all.0 ∙ same ∙ many }
