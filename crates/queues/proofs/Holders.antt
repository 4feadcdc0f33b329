-- Who may use what a task made: the task and those below it.
use Rattle.std.proofs.Common.{◌≡◌, inl, inr, ℕ, zero, suc, ◌+◌, ◌<◌, ◌≤◌, true, List, [], ◌∷◌, ◌++◌, length, Some, refl, sym, ap, subst, ◌∙◌, arith}
use Rattle.std.proofs.lemmas.Bool.{and_from, cases_eq, cases_lt, or_left, or_right, ltb-true}
use Rattle.std.specs.Prelude.{◌&&◌, slice_get}
use Rattle.swan_model.specs.declared.origin.Origin.TheVariants.{Root, Step}
use Rattle.swan_model.specs.declared.rights.Mode.{Mode}
use Rattle.swan_model.specs.declared.rights.Mode.TheVariants.{In, Out, InOut, Push, Pop, PushPop}
use Rattle.swan_model.specs.declared.script.Entry.{Entry}
use Rattle.swan_model.specs.declared.script.Script.{Script}
use Rattle.swan_model.specs.Granted.{children_before, holds, may_use, roots_from}
use Rattle.swan_model.specs.Lawful.{IsLawful}
use Rattle.swan_model.specs.Nested.{IsEntryOf}
use Rattle.swan_model.specs.Rights.{allows, is_queue_mode}
use Rattle.swan_model.specs.Told.{is_same}
use Rattle.swan_model.proofs.Origins.{is_same-self}
use Rattle.swan_model.proofs.Paths.{IsUnder, same_path, under-child, under-itself}
use Rattle.swan_model.proofs.ScriptRights.{given_within, held_later, held_older}
use Rattle.swan_model.proofs.ScriptSteps.{one_entry}
use Rattle.swan_model.proofs.Uses.{holds-cases, more-append}

step_same : (n t : ℕ) → Step t ≡ Step n → n ≡ t
step_same n t is = cc

module _ (s : Script) (lawful : IsLawful s) (top : List ℕ) (t : ℕ) (own : IsEntryOf s top t) where
  -- who may use what an entry made is the task of that entry, or below it
  pub maker_above : (u : ℕ) (path : List ℕ) (mode : Mode) → may_use (holds s path u) mode (Step t) ≡ true → IsUnder top path
  maker_above zero path mode is =
      let before = ltb-true t zero (held_older s lawful path zero mode (Step t) is) in
      absurd (omega (arith, before))
  maker_above (suc n) path mode is = elim (holds-cases s path n mode (Step t) is) [
    | inl before ↦ maker_above n path mode before
    | inr here ↦ elim here.how [
      | inl made ↦
          let at : n ≡ t = step_same n t made.1 in
          let stands : slice_get s.entries t ≡ Some here.entry = ap (slice_get s.entries) (sym at) ∙ here.stands in
          let same = one_entry s t here.entry own.entry stands own.stands in
          let one : path ≡ top = sym (same_path here.entry.path path made.0) ∙ ap (λ (e : Entry). e.path) same ∙ own.own in
          under-itself top path one
      | inr gift ↦
          let may = given_within s lawful n here.entry gift.gives mode (Step t) here.stands gift.is gift.may in
          let up = maker_above n here.entry.path mode may in
          let k = children_before s here.entry.path n in
          let to : here.entry.path ++ k ∷ [] ≡ path = same_path (here.entry.path ++ k ∷ []) path gift.to in
          under-child top here.entry.path path k (sym to) up
    ]
  ]

-- ---- the root queues

pub all_allowed : (mode : Mode) → is_queue_mode mode ≡ true → allows PushPop mode ≡ true
all_allowed Push is = refl
all_allowed Pop is = refl
all_allowed PushPop is = refl
all_allowed In is = absurd (cc)
all_allowed Out is = absurd (cc)
all_allowed InOut is = absurd (cc)

roots_may : (from many index : ℕ) (mode : Mode) → is_queue_mode mode ≡ true → from ≤ index → index < from + many → may_use (roots_from PushPop from many) mode (Root index) ≡ true
roots_may from zero index mode is after within = absurd (omega arith)
roots_may from (suc many) index mode is after within = elim (cases_eq from index) [
  | inl same ↦
      subst (λ k. may_use ((record { origin = Root k; mode = PushPop }) ∷ roots_from PushPop (from + 1) many) mode (Root index) ≡ true) (sym same)
      (or_left (allows PushPop mode && is_same (Root index) (Root index)) (may_use (roots_from PushPop (from + 1) many) mode (Root index))
      (and_from (allows PushPop mode) (is_same (Root index) (Root index)) (all_allowed mode is) (is_same-self (Root index))))
  | inr apart ↦
      let later : from + 1 ≤ index = elim (cases_lt from index) [ inl less ↦ omega arith | inr past ↦ absurd (apart (omega arith)) ] in
      or_right (allows PushPop mode && is_same (Root from) (Root index)) (may_use (roots_from PushPop (from + 1) many) mode (Root index))
      (roots_may (from + 1) many index mode is later (omega arith))
]

-- the root may use each root queue, from the start
pub root_may : (s : Script) (index n : ℕ) (mode : Mode) → is_queue_mode mode ≡ true → index < length s.queues → may_use (holds s [] n) mode (Root index) ≡ true
root_may s index n mode is within =
    held_later s [] 0 n mode (Root index)
    ((more-append (roots_from PushPop 0 (length s.queues)) (roots_from InOut 0 (length s.objects))).may mode (Root index) (roots_may 0 (length s.queues) index mode is (omega arith) (omega arith)))
    (omega arith)
