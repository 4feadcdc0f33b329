-- Each task ends once, and between its spawn and its end stand only its own entries and those of the tasks
-- below it. So scripts of plans are nested.
use Rattle.std.proofs.Common.{◌≡◌, ◌⊎◌, inl, inr, ℕ, zero, suc, ◌+◌, ◌<◌, ◌≤◌, List, [], ◌∷◌, ◌++◌, Some, None, length, refl, sym, ap, subst, ◌∙◌, append_assoc, arith}
use Rattle.std.proofs.lemmas.Bool.{cases_lt, cases_order}
use Rattle.std.proofs.lemmas.List.{append-nil}
use Rattle.std.proofs.lemmas.Option.{slice_get_past}
use Rattle.std.specs.Prelude.{slice_get}
use Rattle.swan_model.specs.declared.body.Body.{Ghosts}
use Rattle.swan_model.specs.declared.plan.Plan.{Plan}
use Rattle.swan_model.specs.declared.script.Entry.{Entry}
use Rattle.swan_model.specs.Elision.{serial, most_steps}
use Rattle.swan_model.specs.Granted.{is_spawn}
use Rattle.swan_model.specs.Nested.{spawn_time, IsEntryUnder, IsEntryOf, IsEndOf, IsNested}
use Rattle.swan_model.specs.Script.{entry_of, entry_on, script}
use Rattle.swan_model.specs.SerialState.{Activation}
use Rattle.swan_model.specs.SerialStep.{step_on, effect_of}
use Rattle.serial_elision.proofs.Entries.{get_script, over-after}
use Rattle.serial_elision.proofs.Nesting.{next_stack, end_is_last, not_yet, spawn_at}
use Rattle.serial_elision.proofs.Passing.{IsNotYetEach, IsRunning, after-running, after-spawn}
use Rattle.swan_model.proofs.Lists.{some_within}
use Rattle.serial_elision.proofs.Turns.{next_deed, step-fits}
use Rattle.swan_model.proofs.Paths.{not_below-itself}

module _ {B L : Type 0} (G : Ghosts B L) where
  -- an entry of the script at the time of a step of this activation
  pub entry_now : (plan : Plan B L) (n : ℕ) (top : Activation L) (below : List (Activation L)) → (serial G plan n).stack ≡ top ∷ below → slice_get (script G plan).entries n ≡ Some (entry_of G plan.body (serial G plan n).steps (serial G plan n).store top)
  entry_now plan n top below is = get_script G plan n ∙ ap (entry_on G plan.body (serial G plan n)) is

  running-on : (plan : Plan B L) (path : List ℕ) (n : ℕ) (stack : List (Activation L)) → (serial G plan n).stack ≡ stack → IsRunning path stack → IsEndOf (script G plan) path n ⊎ IsRunning path (step_on G plan.body (serial G plan n) stack).stack
  running-on plan path n [] is running = absurd running
  running-on plan path n (top ∷ below) is running =
      let s = serial G plan n in
      elim (after-running path s top below (G.place_of plan.body top.local) (next_deed G plan.body s.store top) (effect_of G plan.body s.steps s.store top) (step-fits G plan.body s.steps s.store top) running) [
        | inl end ↦ inl (record { entry = entry_of G plan.body s.steps s.store top; stands = entry_now plan n top below is; own = end.0; ends = end.1 })
        | inr on ↦ inr on
      ]

  -- the task of a path ended at a time of these
  pub record HasEnded (plan : Plan B L) (path : List ℕ) (from now : ℕ) : Type 0 where
    pub time : ℕ
    pub late : from ≤ time
    pub early : time < now
    pub end : IsEndOf (script G plan) path time

  -- as long as a task has not ended, it is on the stack
  pub running : (plan : Plan B L) (path : List ℕ) (from now : ℕ) → from ≤ now → IsRunning path (serial G plan from).stack → HasEnded plan path from now ⊎ IsRunning path (serial G plan now).stack
  running plan path from zero late is =
      let e : from ≡ zero = omega arith in
      inr (subst (λ n. IsRunning path (serial G plan n).stack) e is)
  running plan path from (suc now) late is = elim (cases_lt now from) [
    | inl past ↦
        let e : from ≡ suc now = omega arith in
        inr (subst (λ n. IsRunning path (serial G plan n).stack) e is)
    | inr before ↦ elim (running plan path from now before is) [
      | inl ended ↦ inl (record { time = ended.time; late = ended.late; early = omega (arith, ended.early); end = ended.end })
      | inr still ↦ elim (running-on plan path now (serial G plan now).stack refl still) [
        | inl end ↦ inl (record { time = now; late = before; early = omega arith; end = end })
        | inr on ↦ inr on
      ]
    ]
  ]

  -- each task that is on the stack ends
  pub ends_later : (plan : Plan B L) (path : List ℕ) (from : ℕ) → IsRunning path (serial G plan from).stack → HasEnded plan path from (from + most_steps plan)
  ends_later plan path from is = elim (running plan path from (from + most_steps plan) (omega arith) is) [
    | inl ended ↦ ended
    | inr still ↦
        let none : IsRunning {L = L} path [] = subst (IsRunning path) (over-after G plan (from + most_steps plan) (omega arith)) still in
        absurd none
  ]

  -- a child is on the stack after the step that spawns it
  pub running_child : (plan : Plan B L) (path : List ℕ) (child spawn : ℕ) → spawn_time (script G plan) path child ≡ Some spawn → IsRunning (path ++ child ∷ []) (serial G plan (suc spawn)).stack
  running_child plan path child spawn is =
      let s = serial G plan spawn in
      let here = spawn_at G plan path child spawn is in
      let at = here.at in
      let made : IsRunning (at.top.path ++ at.top.children ∷ []) (serial G plan (suc spawn)).stack =
      subst (IsRunning (at.top.path ++ at.top.children ∷ [])) (sym (next_stack G plan spawn at.top at.below at.stack))
      (after-spawn s at.top at.below (G.place_of plan.body at.top.local) (next_deed G plan.body s.store at.top) (effect_of G plan.body s.steps s.store at.top)
      (step-fits G plan.body s.steps s.store at.top) (ap is_spawn (sym at.deed) ∙ here.spawns)) in
      let named : at.top.path ++ at.top.children ∷ [] ≡ path ++ child ∷ [] = ap (λ p. p ++ at.top.children ∷ []) here.is ∙ ap (λ k. path ++ k ∷ []) here.children in
      subst (λ p. IsRunning p (serial G plan (suc spawn)).stack) named made

  -- each child ends, after its spawn
  pub child_ends : (plan : Plan B L) (path : List ℕ) (child spawn : ℕ) → spawn_time (script G plan) path child ≡ Some spawn → (end : ℕ) × (spawn < end) × IsEndOf (script G plan) (path ++ child ∷ []) end
  child_ends plan path child spawn is =
      let ended = ends_later plan (path ++ child ∷ []) (suc spawn) (running_child plan path child spawn is) in
      (ended.time, ended.late, ended.end)

  end-under : (plan : Plan B L) (path : List ℕ) (t : ℕ) → IsEndOf (script G plan) path t → IsEntryUnder (script G plan) path t
  end-under plan path t end = record { entry = end.entry; stands = end.stands; rest = []; under = end.own ∙ sym (append-nil path) }

  -- no task ends twice
  pub one_end : (plan : Plan B L) (path : List ℕ) (t u : ℕ) → IsEndOf (script G plan) path t → IsEndOf (script G plan) path u → t ≡ u
  one_end plan path t u one two =
      let before : u ≤ t = end_is_last G plan path t u one (end-under plan path u two) in
      let after : t ≤ u = end_is_last G plan path u t two (end-under plan path t one) in
      omega arith

  running-entry : (plan : Plan B L) (path : List ℕ) (n : ℕ) (stack : List (Activation L)) → (serial G plan n).stack ≡ stack → IsRunning path stack → IsEntryUnder (script G plan) path n
  running-entry plan path n [] is on = absurd on
  running-entry plan path n (top ∷ below) is (inl own) =
      let s = serial G plan n in
      record { entry = entry_of G plan.body s.steps s.store top; stands = entry_now plan n top below is; rest = []; under = own ∙ sym (append-nil path) }
  running-entry plan path n (top ∷ below) is (inr over) =
      let s = serial G plan n in
      record { entry = entry_of G plan.body s.steps s.store top; stands = entry_now plan n top below is; rest = over.0.rest; under = over.0.is }

  -- between a child's spawn and its end stand only its entries and those of the tasks below it
  pub between : (plan : Plan B L) (path : List ℕ) (child spawn end t : ℕ) → spawn_time (script G plan) path child ≡ Some spawn → IsEndOf (script G plan) (path ++ child ∷ []) end → spawn < t → t < end → IsEntryUnder (script G plan) (path ++ child ∷ []) t
  between plan path child spawn end t is over after before =
      elim (running plan (path ++ child ∷ []) (suc spawn) t after (running_child plan path child spawn is)) [
        | inl ended ↦
            let last : end ≤ ended.time = end_is_last G plan (path ++ child ∷ []) ended.time end ended.end (end-under plan (path ++ child ∷ []) end over) in
            absurd (omega (arith, last, ended.early))
        | inr on ↦ running-entry plan (path ++ child ∷ []) t (serial G plan t).stack refl on
      ]

  -- two entries at one time are the same
  one_entry : (plan : Plan B L) (t : ℕ) (e f : Entry) → slice_get (script G plan).entries t ≡ Some e → slice_get (script G plan).entries t ≡ Some f → e.path ≡ f.path
  one_entry plan t e f is also = let same : Some e ≡ Some f = sym is ∙ also in cc

  not_own : (plan : Plan B L) (path rest : List ℕ) (child t : ℕ) → IsEntryOf (script G plan) path t → (e : Entry) → slice_get (script G plan).entries t ≡ Some e → e.path ≡ (path ++ child ∷ []) ++ rest → ⊥
  not_own plan path rest child t own e is under =
      not_below-itself path rest child (sym own.own ∙ one_entry plan t own.entry e own.stands is ∙ under ∙ append_assoc path (child ∷ []) rest)

  -- a child's entries, and those below it, come after its spawn
  pub after_spawn : (plan : Plan B L) (path : List ℕ) (child spawn t : ℕ) → spawn_time (script G plan) path child ≡ Some spawn → IsEntryUnder (script G plan) (path ++ child ∷ []) t → spawn < t
  after_spawn plan path child spawn t is under = elim (cases_order spawn t) [
    | inl same ↦
        let here = spawn_at G plan path child spawn is in
        let own : IsEntryOf (script G plan) path t = subst (IsEntryOf (script G plan) path) same (record { entry = here.entry; stands = here.stands; own = here.own }) in
        absurd (not_own plan path under.rest child t own under.entry under.stands under.under)
    | inr differ ↦ elim differ [
      | inl after ↦ after
      | inr before ↦
          let here = spawn_at G plan path child spawn is in
          let at = here.at in
          let each : IsNotYetEach under.entry.path (at.top ∷ at.below) = subst (IsNotYetEach under.entry.path) at.stack (not_yet G plan spawn t under.entry before under.stands) in
          let named : path ≡ at.top.path = sym here.is in
          absurd (each.0.none child under.rest (omega (arith, here.children))
          (under.under ∙ append_assoc path (child ∷ []) under.rest ∙ ap (λ p. p ++ child ∷ under.rest) named))
    ]
  ]

  -- and before the next entry of its parent
  pub before_next : (plan : Plan B L) (path : List ℕ) (child spawn t u : ℕ) → spawn_time (script G plan) path child ≡ Some spawn → IsEntryUnder (script G plan) (path ++ child ∷ []) t → IsEntryOf (script G plan) path u → spawn < u → t < u
  before_next plan path child spawn t u is under own later =
      let ended = child_ends plan path child spawn is in
      let last : t ≤ ended.0 = end_is_last G plan (path ++ child ∷ []) ended.0 t ended.2 under in
      elim (cases_order u ended.0) [
        | inl same ↦
            let here : IsEntryOf (script G plan) path ended.0 = subst (IsEntryOf (script G plan) path) same own in
            absurd (not_own plan path [] child ended.0 here ended.2.entry ended.2.stands (ended.2.own ∙ sym (append-nil (path ++ child ∷ []))))
        | inr differ ↦ elim differ [
          | inl before ↦
              let inside = between plan path child spawn ended.0 u is ended.2 later before in
              absurd (not_own plan path inside.rest child u own inside.entry inside.stands inside.under)
          | inr after ↦ omega (arith, last, after)
        ]
      ]

  pub nested : (plan : Plan B L) → IsNested (script G plan)
  nested plan = record { after = after_spawn plan; whole = before_next plan }

  -- the root ends, and its end is the last entry of all
  root_running : (plan : Plan B L) → IsRunning [] (serial G plan zero).stack
  root_running plan = inl refl

  root_last : (plan : Plan B L) (t : ℕ) → IsEndOf (script G plan) [] t → length (script G plan).entries ≡ t + 1
  root_last plan t end = elim (cases_order (length (script G plan).entries) (t + 1)) [
    | inl same ↦ same
    | inr differ ↦ elim differ [
      | inl short ↦
          let none = slice_get_past (script G plan).entries t (omega arith) in
          let both : Some end.entry ≡ None = sym end.stands ∙ none in
          absurd (cc)
      | inr long ↦
          let more = some_within (script G plan).entries (t + 1) long in
          let late : t + 1 ≤ t = end_is_last G plan [] t (t + 1) end (record { entry = more.0; stands = more.1; rest = more.0.path; under = refl }) in
          absurd (omega (arith, late))
    ]
  ]

  pub root_ends : (plan : Plan B L) → (end : ℕ) × (length (script G plan).entries ≡ end + 1) × IsEndOf (script G plan) [] end
  root_ends plan =
      let ended = ends_later plan [] zero (root_running plan) in
      (ended.time, root_last plan ended.time ended.end, ended.end)
