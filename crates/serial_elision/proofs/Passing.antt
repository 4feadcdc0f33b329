-- What stays so while the elision goes on: what a path comes before, the children that an activation may yet
-- spawn, how many it has spawned, and what stands on the stack until an activation ends.
use Rattle.std.proofs.Common.{◌≡◌, ◌⊎◌, inl, inr, ℕ, suc, ◌+◌, ◌<◌, ◌≤◌, true, false, nat_eq, List, [], ◌∷◌, ◌++◌, Some, refl, sym, ap, ◌∙◌, append_assoc, arith}
use Rattle.std.proofs.lemmas.Bool.{both_ways, cases_lt, false_from_ne_true, and_left, and_right, and_from}
use Rattle.std.proofs.lemmas.List.{append-nil}
use Rattle.std.specs.Cmp.Lexicographic.{pointwise}
use Rattle.std.specs.Prelude.{slice_get}
use Rattle.swan_model.specs.declared.script.Deed.{Deed}
use Rattle.swan_model.specs.declared.script.Entry.{Entry}
use Rattle.swan_model.specs.Granted.{is_spawn}
use Rattle.swan_model.specs.Script.{deed_of, is_end}
use Rattle.swan_model.specs.SerialState.{Activation, State}
use Rattle.swan_model.specs.SerialStep.{Effect, goes_on, spawns, ends, faults, state_after, with_failed}
use Rattle.swan_model.specs.SerialTime.{is_of}
use Rattle.swan_model.specs.PathOrder.{comes_before}
use Rattle.serial_elision.proofs.FaultOrder.{Precedes, PrecedesEach, precedes-failed, precedes-moved, precedes-spawned}
use Rattle.swan_model.proofs.PathOrder.{is_left, not_before-under, not_left-above}
use Rattle.swan_model.proofs.Places.{passing, passing-more, passing-none}
use Rattle.serial_elision.proofs.Turns.{FitsDeed}
use Rattle.swan_model.proofs.Paths.{IsUnder, not_below-itself, path_is-itself, same_path, under-child, under-itself, under-moved}
use Rattle.swan_model.proofs.TaskEntries.{is_spawn_of}
use Rattle.swan_model.proofs.Elements.{one_if}

-- what comes before all activations comes before them still after a step
pub after-precedes : {L : Type 0} (path : List ℕ) (s : State L) (top : Activation L) (below : List (Activation L)) (place : ℕ) (does : Deed) (done : Effect L) → FitsDeed top does done → PrecedesEach path (top ∷ below) → PrecedesEach path (state_after s below top.path place done).stack
after-precedes path s top below place does (goes_on a store) fits each =
    (precedes-moved path top a fits.0 (omega (arith, fits.1)) each.0, each.1)
after-precedes path s top below place does (spawns parent child store) fits each =
    (precedes-spawned path top child fits.2 each.0, (precedes-moved path top parent fits.0 (omega (arith, fits.1)) each.0, each.1))
after-precedes path s top below place does ends fits each = each.1
after-precedes path s top below place does (faults kind) fits each = precedes-failed path below each.1

-- a path is that of no child that the activation may yet spawn, nor below one
pub record IsNotYet {L : Type 0} (path : List ℕ) (a : Activation L) : Type 0 where
  pub none : (number : ℕ) (rest : List ℕ) → a.children ≤ number → path ≡ a.path ++ number ∷ rest → ⊥

abbrev pub IsNotYetEach : {L : Type 0} → List ℕ → List (Activation L) → Type 0
IsNotYetEach path [] = Unit {0}
IsNotYetEach path (a ∷ below) = IsNotYet path a × IsNotYetEach path below

not_yet-before : {L : Type 0} (path : List ℕ) (a : Activation L) → Precedes path a → IsNotYet path a
not_yet-before path a before =
    record {
      none = λ number rest more is.
          not_left-above a.path rest number (ap (λ p. is_left p (a.path ++ number ∷ [])) (sym is) ∙ before.children number more);
    }

not_yet-below : {L : Type 0} (path : List ℕ) (below : List (Activation L)) → PrecedesEach path below → IsNotYetEach path below
not_yet-below path [] each = tt
not_yet-below path (a ∷ below) each = (not_yet-before path a each.0, not_yet-below path below each.1)

-- the top activation's own path is none of them
pub not_yet-top : {L : Type 0} (top : Activation L) (below : List (Activation L)) → PrecedesEach top.path below → IsNotYetEach top.path (top ∷ below)
not_yet-top top below each =
    (record { none = λ number rest more is. not_below-itself top.path rest number is }, not_yet-below top.path below each)

not_yet-moved : {L : Type 0} (path : List ℕ) (a b : Activation L) → b.path ≡ a.path → a.children ≤ b.children → IsNotYet path a → IsNotYet path b
not_yet-moved path a b same more before =
    record { none = λ number rest most is. before.none number rest (omega arith) (is ∙ ap (λ p. p ++ number ∷ rest) same) }

not_yet-spawned : {L : Type 0} (path : List ℕ) (a child : Activation L) → child.path ≡ a.path ++ a.children ∷ [] → IsNotYet path a → IsNotYet path child
not_yet-spawned path a child same before =
    record {
      none = λ number rest most is.
          before.none a.children (number ∷ rest) (omega arith) (is ∙ ap (λ p. p ++ number ∷ rest) same ∙ append_assoc a.path (a.children ∷ []) (number ∷ rest));
    }

not_yet-failed : {L : Type 0} (path : List ℕ) (stack : List (Activation L)) → IsNotYetEach path stack → IsNotYetEach path (with_failed stack)
not_yet-failed path [] each = tt
not_yet-failed path (parent ∷ below) each =
    (not_yet-moved path parent (record parent { failed = parent.failed + 1 }) refl (omega arith) each.0, each.1)

pub after-not_yet : {L : Type 0} (path : List ℕ) (s : State L) (top : Activation L) (below : List (Activation L)) (place : ℕ) (does : Deed) (done : Effect L) → FitsDeed top does done → IsNotYetEach path (top ∷ below) → IsNotYetEach path (state_after s below top.path place done).stack
after-not_yet path s top below place does (goes_on a store) fits each =
    (not_yet-moved path top a fits.0 (omega (arith, fits.1)) each.0, each.1)
after-not_yet path s top below place does (spawns parent child store) fits each =
    (not_yet-spawned path top child fits.2 each.0, (not_yet-moved path top parent fits.0 (omega (arith, fits.1)) each.0, each.1))
after-not_yet path s top below place does ends fits each = each.1
after-not_yet path s top below place does (faults kind) fits each = not_yet-failed path below each.1

-- the activation of a path is on the stack, and all above it is below it in the tree
abbrev pub IsRunning : {L : Type 0} → List ℕ → List (Activation L) → Type 0
IsRunning path [] = ⊥
IsRunning path (a ∷ below) = (a.path ≡ path) ⊎ (IsUnder path a.path × IsRunning path below)

running-failed : {L : Type 0} (path : List ℕ) (stack : List (Activation L)) → IsRunning path stack → IsRunning path (with_failed stack)
running-failed path [] running = running
running-failed path (parent ∷ below) running = running

pub after-running : {L : Type 0} (path : List ℕ) (s : State L) (top : Activation L) (below : List (Activation L)) (place : ℕ) (does : Deed) (done : Effect L) → FitsDeed top does done → IsRunning path (top ∷ below) → ((top.path ≡ path) × (is_end done ≡ true)) ⊎ IsRunning path (state_after s below top.path place done).stack
after-running path s top below place does (goes_on a store) fits (inl own) = inr (inl (fits.0 ∙ own))
after-running path s top below place does (goes_on a store) fits (inr over) = inr (inr (under-moved path top.path a.path fits.0 over.0, over.1))
after-running path s top below place does (spawns parent child store) fits (inl own) =
    inr (inr (under-child path top.path child.path top.children fits.2 (under-itself path top.path own), inl (fits.0 ∙ own)))
after-running path s top below place does (spawns parent child store) fits (inr over) =
    inr (inr (under-child path top.path child.path top.children fits.2 over.0, inr (under-moved path top.path parent.path fits.0 over.0, over.1)))
after-running path s top below place does ends fits (inl own) = inl (own, refl)
after-running path s top below place does ends fits (inr over) = inr over.1
after-running path s top below place does (faults kind) fits (inl own) = inl (own, refl)
after-running path s top below place does (faults kind) fits (inr over) = inr (running-failed path below over.1)

-- An effect that ends its activation leaves those below it, by a fault with one more failed child. So what holds of those
-- below, with and without it, holds then.
pub after-end : {L : Type 0} (P : List (Activation L) → Type 0) (s : State L) (below : List (Activation L)) (path : List ℕ) (place : ℕ) (done : Effect L) → is_end done ≡ true → (P below → P (with_failed below)) → P below → P (state_after s below path place done).stack
after-end P s below path place (goes_on a store) is failed holds = absurd (cc)
after-end P s below path place (spawns parent child store) is failed holds = absurd (cc)
after-end P s below path place ends is failed holds = holds
after-end P s below path place (faults kind) is failed holds = failed holds

-- an effect whose deed is a spawn leaves the child that it made on its stack
pub after-spawn : {L : Type 0} (s : State L) (top : Activation L) (below : List (Activation L)) (place : ℕ) (does : Deed) (done : Effect L) → FitsDeed top does done → is_spawn (deed_of does done) ≡ true → IsRunning (top.path ++ top.children ∷ []) (state_after s below top.path place done).stack
after-spawn s top below place does (goes_on a store) fits is = absurd (both_ways (is_spawn (deed_of does (goes_on a store))) fits.2 is)
after-spawn s top below place does (spawns parent child store) fits is = inl fits.2
after-spawn {L = L} s top below place does ends fits is = absurd (both_ways (is_spawn (deed_of {L = L} does ends)) fits is)
after-spawn {L = L} s top below place does (faults kind) fits is = absurd (both_ways (is_spawn (deed_of {L = L} does (faults kind))) fits is)

-- as many of the first n entries are spawns of each activation as it has spawned children
abbrev pub AreCounted : {L : Type 0} → List Entry → ℕ → List (Activation L) → Type 0
AreCounted es n [] = Unit {0}
AreCounted es n (a ∷ below) = (passing (is_spawn_of a.path) n es ≡ a.children) × AreCounted es n below

counted-failed : {L : Type 0} (es : List Entry) (n : ℕ) (stack : List (Activation L)) → AreCounted es n stack → AreCounted es n (with_failed stack)
counted-failed es n [] counted = tt
counted-failed es n (parent ∷ below) counted = counted

not_of-before : {L : Type 0} (e : Entry) (path : List ℕ) (a : Activation L) → e.path ≡ path → Precedes path a → is_of a.path e ≡ false
not_of-before e path a own before =
    false_from_ne_true (is_of a.path e) (λ is.
    let same : e.path ≡ a.path = same_path e.path a.path is in
    let whole : comes_before a.path (a.path ++ []) ≡ true = ap (comes_before a.path) (append-nil a.path) ∙ ap (λ p. comes_before p a.path) (sym same ∙ own) ∙ before.task in
    not_before-under a.path [] whole)

-- an entry that is no spawn of a task leaves its count
counted-same : (es : List Entry) (n : ℕ) (e : Entry) (path : List ℕ) (many : ℕ) → slice_get es n ≡ Some e → is_spawn_of path e ≡ false → passing (is_spawn_of path) n es ≡ many → passing (is_spawn_of path) (suc n) es ≡ many
counted-same es n e path many stands quiet before =
    let none : one_if (is_spawn_of path e) ≡ 0 = ap one_if quiet in
    omega (arith, passing-more (is_spawn_of path) es n e stands, none, before)

counted-below : {L : Type 0} (es : List Entry) (n : ℕ) (e : Entry) (path : List ℕ) (below : List (Activation L)) → slice_get es n ≡ Some e → e.path ≡ path → PrecedesEach path below → AreCounted es n below → AreCounted es (suc n) below
counted-below es n e path [] stands own each counted = tt
counted-below es n e path (a ∷ below) stands own each counted = (
  counted-same es n e a.path a.children stands (and_left (is_of a.path e) (is_spawn e.deed) (not_of-before e path a own each.0)) counted.0,
  counted-below es n e path below stands own each.1 counted.1,
)

-- the entries so far are of no activation that may yet be spawned
abbrev pub AreNotYet : {L : Type 0} → List Entry → ℕ → List (Activation L) → Type 0
AreNotYet es n stack = (i : ℕ) (e : Entry) → i < n → slice_get es i ≡ Some e → IsNotYetEach e.path stack

not_of-child : {L : Type 0} (e : Entry) (a child : Activation L) → child.path ≡ a.path ++ a.children ∷ [] → IsNotYet e.path a → is_of child.path e ≡ false
not_of-child e a child made before =
    false_from_ne_true (is_of child.path e) (λ is.
    before.none a.children [] (omega arith) (same_path e.path child.path is ∙ made))

first-each : {L : Type 0} (path : List ℕ) (top : Activation L) (below : List (Activation L)) → IsNotYetEach path (top ∷ below) → IsNotYet path top
first-each path top below each = each.0

-- no entry is a spawn of the child that comes now
counted-child : {L : Type 0} (es : List Entry) (n : ℕ) (e : Entry) (top child : Activation L) (below : List (Activation L)) → slice_get es n ≡ Some e → e.path ≡ top.path → child.path ≡ top.path ++ top.children ∷ [] → AreNotYet es n (top ∷ below) → passing (is_spawn_of child.path) (suc n) es ≡ 0
counted-child es n e top child below stands own made not_yet =
    passing-none (is_spawn_of child.path) es (suc n) (λ i x less at. elim (cases_lt i n) [
      | inl early ↦ and_left (is_of child.path x) (is_spawn x.deed) (not_of-child x top child made (first-each x.path top below (not_yet i x early at)))
      | inr late ↦
          let now : i ≡ n = omega arith in
          let same : Some x ≡ Some e = sym at ∙ ap (slice_get es) now ∙ stands in
          let it : x.path ≡ e.path = cc in
          and_left (is_of child.path x) (is_spawn x.deed) (false_from_ne_true (is_of child.path x) (λ is.
          not_below-itself top.path [] top.children (sym own ∙ sym it ∙ same_path x.path child.path is ∙ made)))
    ])

-- a spawn is one more of its parent
counted-parent : (es : List Entry) (n : ℕ) (e : Entry) (path : List ℕ) (many : ℕ) → slice_get es n ≡ Some e → e.path ≡ path → is_spawn e.deed ≡ true → passing (is_spawn_of path) n es ≡ many → passing (is_spawn_of path) (suc n) es ≡ many + 1
counted-parent es n e path many stands own made before =
    let of : is_of path e ≡ true = ap (λ p. pointwise nat_eq p path) own ∙ path_is-itself path in
    let one : one_if (is_spawn_of path e) ≡ 1 = ap one_if (and_from (is_of path e) (is_spawn e.deed) of made) in
    omega (arith, passing-more (is_spawn_of path) es n e stands, one, before)

count-moved : (es : List Entry) (n : ℕ) (path other : List ℕ) (many more : ℕ) → other ≡ path → more ≡ many → passing (is_spawn_of path) n es ≡ many → passing (is_spawn_of other) n es ≡ more
count-moved es n path other many more same equal before =
    ap (λ p. passing (is_spawn_of p) n es) same ∙ before ∙ sym equal

pub after-counted : {L : Type 0} (es : List Entry) (n : ℕ) (e : Entry) (s : State L) (top : Activation L) (below : List (Activation L)) (place : ℕ) (does : Deed) (done : Effect L) → FitsDeed top does done → slice_get es n ≡ Some e → e.path ≡ top.path → e.deed ≡ deed_of does done → PrecedesEach top.path below → AreNotYet es n (top ∷ below) → AreCounted es n (top ∷ below) → AreCounted es (suc n) (state_after s below top.path place done).stack
after-counted es n e s top below place does (goes_on a store) fits stands own deed each not_yet counted =
    let quiet : is_spawn e.deed ≡ false = ap is_spawn deed ∙ fits.2 in
    let kept = counted-same es n e top.path top.children stands (and_right (is_of top.path e) (is_spawn e.deed) quiet) counted.0 in
    (count-moved es (suc n) top.path a.path top.children a.children fits.0 fits.1 kept, counted-below es n e top.path below stands own each counted.1)
after-counted es n e s top below place does (spawns parent child store) fits stands own deed each not_yet counted =
    let yes : is_spawn e.deed ≡ true = ap is_spawn deed ∙ fits.4 in
    let kept = counted-parent es n e top.path top.children stands own yes counted.0 in (
      counted-child es n e top child below stands own fits.2 not_yet ∙ sym fits.3,
      (count-moved es (suc n) top.path parent.path (top.children + 1) parent.children fits.0 fits.1 kept, counted-below es n e top.path below stands own each counted.1),
    )
after-counted es n e s top below place does ends fits stands own deed each not_yet counted =
    counted-below es n e top.path below stands own each counted.1
after-counted es n e s top below place does (faults kind) fits stands own deed each not_yet counted =
    counted-failed es (suc n) below (counted-below es n e top.path below stands own each counted.1)
