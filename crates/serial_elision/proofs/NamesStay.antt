-- What a task holds has names, and keeps them as the elision goes on.
use Rattle.std.proofs.Common.{◌≡◌, ℕ, zero, suc, ◌+◌, ◌-◌, ◌≤◌, List, [], ◌∷◌, Option, Some, map, refl, sym, ap, subst, ◌∙◌, arith}
use Rattle.std.proofs.lemmas.Option.{slice_get-map}
use Rattle.std.specs.List.{cons_option}
use Rattle.std.specs.Option.{option_map}
use Rattle.std.specs.Prelude.{slice_get}
use Rattle.swan_model.specs.declared.body.Body.{Ghosts}
use Rattle.swan_model.specs.declared.plan.Plan.{Plan}
use Rattle.swan_model.specs.declared.script.OriginGive.{OriginGive}
use Rattle.swan_model.specs.Elision.{serial}
use Rattle.swan_model.specs.Granted.{holds}
use Rattle.swan_model.specs.Roots.{IsWithinBounds}
use Rattle.swan_model.specs.Script.{give_of, gives_of, script}
use Rattle.swan_model.specs.SerialState.{Activation, Holding, Store}
use Rattle.swan_model.specs.SerialTime.{time}
use Rattle.swan_model.specs.TrueFrames.{StandsAt, gives_at, state_at}
use Rattle.swan_model.proofs.Times.{times_rise}
use Rattle.serial_elision.specs.Laws.{top_holdings}
use Rattle.serial_elision.proofs.Granting.{HoldEach}
use Rattle.serial_elision.proofs.Held.{AreHeldBy, Stand, give-of, held-at, stand-same}
use Rattle.serial_elision.proofs.Rights.{step_on-binds}
use Rattle.serial_elision.proofs.RightsTold.{hold-each, stand-of}

-- what is held has the same names in a later store
pub names-kept : (held : List OriginGive) (before after : Store) (hs : List Holding) → AreHeldBy held before hs → Stand before after → map (give_of after) hs ≡ map (give_of before) hs
names-kept held before after [] are stand = refl
names-kept held before after (h ∷ hs) are stand =
    let one : give_of after h ≡ give_of before h =
    give-of after h are.0.origin (stand.origins h.mode h.number are.0.origin are.0.stands) ∙ sym (give-of before h are.0.origin are.0.stands) in
    ap {B = List (Option OriginGive)} (λ g. g ∷ map (give_of after) hs) one
    ∙ ap {B = List (Option OriginGive)} (λ gs. give_of before h ∷ gs) (names-kept held before after hs are.1 stand)

-- and none of it is without one
pub all-named : (held : List OriginGive) (store : Store) (hs : List Holding) → AreHeldBy held store hs → map (give_of store) hs ≡ map Some (gives_of store hs)
all-named held store [] are = refl
all-named held store (h ∷ hs) are =
    let give : OriginGive = record { origin = are.0.origin; mode = h.mode } in
    let one : give_of store h ≡ Some give = give-of store h are.0.origin are.0.stands in
    ap {B = List (Option OriginGive)} (λ g. g ∷ map (give_of store) hs) one
    ∙ ap {B = List (Option OriginGive)} (λ gs. Some give ∷ gs) (all-named held store hs are.1)
    ∙ ap {B = List (Option OriginGive)} (λ g. map Some (cons_option g (gives_of store hs))) (sym one)

module _ {B L : Type 0} (G : Ghosts B L) (plan : Plan B L) where
  stand-step : (n : ℕ) → Stand (serial G plan n).store (serial G plan (suc n)).store
  stand-step n =
      let s = serial G plan n in
      stand-of (top_holdings s.stack) s.store (serial G plan (suc n)).store (step_on-binds G plan.body s s.stack)

  stand-more : (n k : ℕ) → Stand (serial G plan n).store (serial G plan (n + k)).store
  stand-more n zero =
      let same : n ≡ n + 0 = omega arith in
      subst (λ m. Stand (serial G plan n).store (serial G plan m).store) same (stand-same (serial G plan n).store)
  stand-more n (suc k) =
      let next : suc (n + k) ≡ n + suc k = omega arith in
      subst (λ m. Stand (serial G plan n).store (serial G plan m).store) next
      (record { origins = λ mode number origin is. (stand-step (n + k)).origins mode number origin ((stand-more n k).origins mode number origin is) })

  -- what was made stays, of the same origin
  pub stand-later : (n m : ℕ) → n ≤ m → Stand (serial G plan n).store (serial G plan m).store
  stand-later n m less =
      let all : n + (m - n) ≡ m = omega arith in
      subst (λ k. Stand (serial G plan n).store (serial G plan k).store) all (stand-more n (m - n))

  module _ (bounds : IsWithinBounds plan.roots.queues plan.roots.objects) (path : List ℕ) (k : ℕ) (top : Activation L) (at : StandsAt G plan path k top) where
    -- what a task holds where it stands is in the store, and within what the script counts
    pub held-at-step : AreHeldBy (holds (script G plan) top.path (time (script G plan) path k)) (state_at G plan path k).store top.holdings
    held-at-step =
        let t = time (script G plan) path k in
        let each : HoldEach (script G plan) t (serial G plan t).store (top ∷ at.below) = subst (HoldEach (script G plan) t (serial G plan t).store) at.stack (hold-each G plan bounds t) in
        each.0

    -- each thing that a task holds has a name
    pub held-named : (place : ℕ) (h : Holding) → slice_get top.holdings place ≡ Some h
        → (origin : _) × (slice_get (gives_at G plan path k top) place ≡ Some (Some (record { origin = origin; mode = h.mode })))
    held-named place h is =
        let store = (state_at G plan path k).store in
        let held = held-at (holds (script G plan) top.path (time (script G plan) path k)) store top.holdings place h held-at-step is in
        (held.origin, slice_get-map (give_of store) top.holdings place ∙ ap (option_map (give_of store)) is ∙ ap Some (give-of store h held.origin held.stands))

    -- and keeps it
    pub names-later : (n : ℕ) → time (script G plan) path k ≤ n → map (give_of (serial G plan n).store) top.holdings ≡ gives_at G plan path k top
    names-later n late =
        let t = time (script G plan) path k in
        names-kept (holds (script G plan) top.path t) (serial G plan t).store (serial G plan n).store top.holdings held-at-step (stand-later t n late)

    -- a task that holds the same at its next step has the same names for it
    pub names-stay : (next : Activation L) → StandsAt G plan path (k + 1) next → next.holdings ≡ top.holdings → gives_at G plan path (k + 1) next ≡ gives_at G plan path k top
    names-stay next then same =
        let s = script G plan in
        let rise = times_rise s path k (k + 1) (omega arith) then.left in
        ap (map (give_of (state_at G plan path (k + 1)).store)) same ∙ names-later (time s path (k + 1)) (omega (arith, rise))
