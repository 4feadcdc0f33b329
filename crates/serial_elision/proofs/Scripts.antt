-- The entries of whole runs of the elision, and an entry from what the code did.
use Rattle.std.proofs.Common.{◌≡◌, ℕ, zero, suc, ◌+◌, ◌-◌, ◌≤◌, List, [], ◌∷◌, ◌++◌, Option, Some, None, refl, sym, ap, ◌∙◌, arith, add-one, add-suc, add-zero}
use Rattle.std.proofs.lemmas.List.Elements.{filter_map-append}
use Rattle.std.specs.List.{cons_option}
use Rattle.std.specs.Option.{option_to_list}
use Rattle.swan_model.specs.declared.body.Answer.TheVariants as answer
use Rattle.swan_model.specs.declared.body.Ask.{Ask}
use Rattle.swan_model.specs.declared.body.Body.{Ghosts}
use Rattle.swan_model.specs.declared.fault.FaultKind.{FaultKind}
use Rattle.swan_model.specs.declared.fault.FaultKind.TheVariants as kind
use Rattle.swan_model.specs.declared.plan.Plan.{Plan}
use Rattle.swan_model.specs.declared.script.Deed.{Deed}
use Rattle.swan_model.specs.declared.script.Entry.{Entry}
use Rattle.swan_model.specs.declared.script.OriginGive.{OriginGive}
use Rattle.swan_model.specs.Elision.{serial, most_steps}
use Rattle.swan_model.specs.Script.{asked, deed_of, is_end, give_of, gives_of, entry_on, next_entry, with_entry, entries}
use Rattle.swan_model.specs.SerialState.{Activation, Holding, Store, State}
use Rattle.swan_model.specs.SerialStep as serial
use Rattle.swan_model.specs.SerialStep.{with_answer, after_next, effect, effect_of}
use Rattle.serial_elision.specs.declared.effect.Effect as code
use Rattle.serial_elision.specs.declared.effect.Effect.TheVariants.{Answered, Spawned, Ended, Faulted}
use Rattle.serial_elision.specs.Effects.{IsEffect, deed_kept, ends_its_task}
use Rattle.serial_elision.proofs.Runs.{serial-over}
use Rattle.serial_elision.proofs.Steps.{stepped, effect-paid}

deed_kept-fault : (L : Type 0) (does : Deed) (fault : FaultKind) → deed_kept {L = L} does (Faulted fault) ≡ deed_of {L = L} does (serial.faults fault)
deed_kept-fault L does (kind.Trouble trouble) = refl
deed_kept-fault L does kind.PopEmpty = refl
deed_kept-fault L does kind.Privilege = refl
deed_kept-fault L does kind.Alias = refl
deed_kept-fault L does kind.Fuel = refl
deed_kept-fault L does kind.Depth = refl

-- one more holding is one more give, where it stands in the store
cons-listed : (give : Option OriginGive) → cons_option give [] ≡ option_to_list give
cons-listed None = refl
cons-listed (Some give) = refl

pub gives_of-push : (store : Store) (holdings : List Holding) (holding : Holding) → gives_of store (holdings ++ holding ∷ []) ≡ gives_of store holdings ++ option_to_list (give_of store holding)
gives_of-push store holdings holding =
    filter_map-append (give_of store) holdings (holding ∷ [])
    ∙ ap (λ last. gives_of store holdings ++ last) (cons-listed (give_of store holding))

-- the code's effect tells the deed of the effect that the definitions give
pub deed_kept-is : {L : Type 0} (does : Deed) (a : Activation L) (before after : Store) (done : code.Effect L) (said : serial.Effect L) → IsEffect done a before after said → deed_kept does done ≡ deed_of does said
deed_kept-is does a before after (Answered answer) said is = ap (deed_of does) (sym is)
deed_kept-is does a before after (Spawned child) said is = ap (deed_of does) (sym is)
deed_kept-is does a before after Ended said is = ap (deed_of does) (sym is.0)
deed_kept-is {L = L} does a before after (Faulted fault) said is = deed_kept-fault L does fault ∙ ap (deed_of does) (sym is.0)

pub ends_its_task-is : {L : Type 0} (a : Activation L) (before after : Store) (done : code.Effect L) (said : serial.Effect L) → IsEffect done a before after said → ends_its_task done ≡ is_end said
ends_its_task-is a before after (Answered answer) said is = ap is_end (sym is)
ends_its_task-is a before after (Spawned child) said is = ap is_end (sym is)
ends_its_task-is a before after Ended said is = ap is_end (sym is.0)
ends_its_task-is a before after (Faulted fault) said is = ap is_end (sym is.0)

module _ {B L : Type 0} (G : Ghosts B L) where
  -- the entry of a step that costs fuel
  pub entry-paid : (body : B) (s : State L) (top paid a : Activation L) (ask : Ask L) (below : List (Activation L)) (done : code.Effect L) (after : Store) (path : List ℕ) (does : Deed) → s.stack ≡ top ∷ below → (top.fuel ≡ 0 → ⊥) → paid ≡ with_answer (after_next top (stepped G body top).0) answer.Nothing → ask ≡ (stepped G body top).1 → path ≡ top.path → does ≡ asked s.store paid.holdings ask → IsEffect done a s.store after (effect s.steps s.store paid ask) → ◌≡◌ {A = Option Entry} (Some (record { path = path; deed = deed_kept does done; ends = ends_its_task done })) (next_entry G body s)
  entry-paid body s top paid a ask below done after path does stack fuel moved_is ask_is path_is does_is is =
      let said : serial.Effect L = effect s.steps s.store paid ask in
      let final : serial.Effect L = effect_of G body s.steps s.store top in
      let same : said ≡ final = effect-paid G body s.steps s.store top paid ask fuel moved_is ask_is in
      let was : Deed = asked s.store top.holdings (stepped G body top).1 in
      let does_was : does ≡ was = does_is ∙ ap (λ p. asked s.store p.holdings ask) moved_is ∙ ap (asked s.store top.holdings) ask_is in
      let deed_is : deed_kept does done ≡ deed_of was final = deed_kept-is does a s.store after done said is ∙ ap (λ d. deed_of d said) does_was ∙ ap (deed_of was) same in
      let ends_is : ends_its_task done ≡ is_end final = ends_its_task-is a s.store after done said is ∙ ap is_end same in
      ap {B = Option Entry} (λ p. Some (record { path = p; deed = deed_kept does done; ends = ends_its_task done })) path_is
      ∙ ap {B = Option Entry} (λ d. Some (record { path = top.path; deed = d; ends = ends_its_task done })) deed_is
      ∙ ap {B = Option Entry} (λ e. Some (record { path = top.path; deed = deed_of was final; ends = e })) ends_is
      ∙ ap (entry_on G body s) (sym stack)

  pub entries_add_one : (plan : Plan B L) (n : ℕ) → entries G plan (n + 1) ≡ with_entry (entries G plan n) (next_entry G plan.body (serial G plan n))
  entries_add_one plan n = ap (entries G plan) (add-one n)

  pub none-over : (body : B) (s : State L) → s.stack ≡ [] → next_entry G body s ≡ None
  none-over body s over = ap (entry_on G body s) over

  -- once no activation is left, no entry comes
  pub entries-over : (plan : Plan B L) (n k : ℕ) → (serial G plan n).stack ≡ [] → entries G plan (n + k) ≡ entries G plan n
  entries-over plan n zero over = ap (entries G plan) (add-zero n)
  entries-over plan n (suc k) over =
      let none = none-over plan.body (serial G plan (n + k)) (ap (λ s. s.stack) (serial-over G plan n k over) ∙ over) in
      ap (entries G plan) (add-suc n k)
      ∙ ap (with_entry (entries G plan (n + k))) none
      ∙ entries-over plan n k over

  pub entries-last : (plan : Plan B L) (n : ℕ) → n ≤ most_steps plan → (serial G plan n).stack ≡ [] → entries G plan n ≡ entries G plan (most_steps plan)
  entries-last plan n most over =
      let rest : n + (most_steps plan - n) ≡ most_steps plan = omega arith in
      sym (entries-over plan n (most_steps plan - n) over) ∙ ap (entries G plan) rest
