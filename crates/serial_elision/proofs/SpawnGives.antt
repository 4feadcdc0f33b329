-- A spawn's entry has the gives of its ask, each named by what made the object or queue that is given.
use Rattle.std.proofs.Common.{◌≡◌, ℕ, suc, ◌-◌, true, false, List, [], ◌∷◌, length, map, Option, Some, None, refl, sym, ap, subst, ◌∙◌}
use Rattle.std.specs.List.{cons_option}
use Rattle.std.specs.Option.{option_map, option_and_then}
use Rattle.std.specs.Prelude.{slice_get}
use Rattle.swan_model.specs.declared.body.Ask.{Ask}
use Rattle.swan_model.specs.declared.body.Ask.TheVariants as ask
use Rattle.swan_model.specs.declared.body.Body.{Ghosts}
use Rattle.swan_model.specs.declared.body.Child.{Child}
use Rattle.swan_model.specs.declared.fault.FaultKind.TheVariants as kind
use Rattle.swan_model.specs.declared.origin.Origin.{Origin}
use Rattle.swan_model.specs.declared.plan.Plan.{Plan}
use Rattle.swan_model.specs.declared.rights.Give.{Give}
use Rattle.swan_model.specs.declared.rights.Mode.TheVariants.{In, Out, Push, Pop}
use Rattle.swan_model.specs.declared.script.Deed.{Deed}
use Rattle.swan_model.specs.declared.script.Deed.TheVariants as deed
use Rattle.swan_model.specs.declared.script.Entry.{Entry}
use Rattle.swan_model.specs.declared.script.OriginGive.{OriginGive}
use Rattle.swan_model.specs.Elision.{serial}
use Rattle.swan_model.specs.Granted.{holds, is_spawn}
use Rattle.swan_model.specs.Roots.{IsWithinBounds}
use Rattle.swan_model.specs.Script.{about, asked, deed_of, gives_of, origin_at, origin_of, script, spawn_of}
use Rattle.swan_model.specs.SerialState.{Holding, Store}
use Rattle.swan_model.specs.SerialStep.{Effect, goes_on, spawns, ends, faults, effect_of, given, given_also, number_at}
use Rattle.serial_elision.specs.Laws.{named_give, AsksToGive}
use Rattle.serial_elision.proofs.Granting.{HoldEach}
use Rattle.serial_elision.proofs.Held.{AreHeldBy, give-of, used-held}
use Rattle.serial_elision.proofs.Nesting.{top_at}
use Rattle.serial_elision.proofs.RightsTold.{hold-each}
use Rattle.serial_elision.proofs.Turns.{about-is, next_deed}

-- these are the gives of a child, named by what made them
pub record AreNamed (store : Store) (holdings : List Holding) (asked : List Give) (gives : List OriginGive) : Type 0 where
  pub many : length gives ≡ length asked
  pub modes : map (λ (give : OriginGive). give.mode) gives ≡ map (λ (give : Give). give.mode) asked
  pub named : map Some gives ≡ map (named_give store holdings) asked

one-more : (store : Store) (holdings : List Holding) (give : Give) (asked : List Give) (origin : Origin) (gives : List OriginGive) → origin_at store holdings give.place give.mode ≡ Some origin → AreNamed store holdings asked gives → AreNamed store holdings (give ∷ asked) ((record { origin = origin; mode = give.mode }) ∷ gives)
one-more store holdings give asked origin gives is are =
    let names : Origin → OriginGive = λ o. record { origin = o; mode = give.mode } in
    let first : Some (names origin) ≡ named_give store holdings give = ap (option_map names) (sym is) in
    record {
      many = ap suc are.many;
      modes = ap (λ ms. give.mode ∷ ms) are.modes;
      named = ap (λ o. o ∷ map Some gives) first ∙ ap (λ os. named_give store holdings give ∷ os) are.named;
    }

named-also : (held : List OriginGive) (store : Store) (holdings : List Holding) (give : Give) (asked : List Give) (number : Option ℕ) (rest : Option (List Holding)) (hs : List Holding) → AreHeldBy held store holdings → number_at holdings give.place give.mode ≡ number → ((later : List Holding) → rest ≡ Some later → AreNamed store holdings asked (gives_of store later)) → given_also give number rest ≡ Some hs → AreNamed store holdings (give ∷ asked) (gives_of store hs)
named-also held store holdings give asked None rest hs are at later is = absurd (cc)
named-also held store holdings give asked (Some number) None hs are at later is = absurd (cc)
named-also held store holdings give asked (Some number) (Some more) hs are at later is =
    let first : Holding = record { mode = give.mode; number = number } in
    let same : first ∷ more ≡ hs = cc in
    let used = used-held held store holdings give.place number give.mode are at in
    let found : origin_at store holdings give.place give.mode ≡ Some used.0 = ap (option_and_then (origin_of store give.mode)) at ∙ used.1 in
    let all = one-more store holdings give asked used.0 (gives_of store more) found (later more refl) in
    let gives : gives_of store (first ∷ more) ≡ (record { origin = used.0; mode = give.mode }) ∷ gives_of store more =
    ap (λ g. cons_option g (gives_of store more)) (give-of store first used.0 used.1) in
    subst (λ list. AreNamed store holdings (give ∷ asked) (gives_of store list)) same
    (subst (AreNamed store holdings (give ∷ asked)) (sym gives) all)

pub named-gives : (held : List OriginGive) (store : Store) (holdings : List Holding) (asked : List Give) (hs : List Holding) → AreHeldBy held store holdings → given holdings asked ≡ Some hs → AreNamed store holdings asked (gives_of store hs)
named-gives held store holdings [] hs are is =
    let same : [] ≡ hs = cc in
    subst (λ list. AreNamed store holdings [] (gives_of store list)) same (record { many = refl; modes = refl; named = refl })
named-gives held store holdings (give ∷ asked) hs are is =
    named-also held store holdings give asked (number_at holdings give.place give.mode) (given holdings asked) hs are refl
    (λ later rest. named-gives held store holdings asked later are rest) is

-- what is done by a spawn was asked so
was-asked : {L : Type 0} (does : Deed) (done : Effect L) (gives : List OriginGive) → deed_of does done ≡ deed.Spawn gives → does ≡ deed.Spawn gives
was-asked does (goes_on a store) gives is = is
was-asked does (spawns parent child store) gives is = is
was-asked does ends gives is = is
was-asked does (faults (kind.Trouble trouble)) gives is = absurd (cc)
was-asked does (faults kind.PopEmpty) gives is = is
was-asked does (faults kind.Privilege) gives is = absurd (cc)
was-asked does (faults kind.Alias) gives is = absurd (cc)
was-asked does (faults kind.Fuel) gives is = absurd (cc)
was-asked does (faults kind.Depth) gives is = absurd (cc)

-- an ask for a child that is a spawn with these gives
record IsAskedFor {L : Type 0} (store : Store) (holdings : List Holding) (asks : Ask L) (gives : List OriginGive) : Type 0 where
  pub child : Child L
  pub is : asks ≡ ask.Spawn child
  pub hs : List Holding
  pub given_is : given holdings child.gives ≡ Some hs
  pub gives_are : gives_of store hs ≡ gives

no-spawn : {X : Type 0} (does : Deed) (gives : List OriginGive) → is_spawn does ≡ false → does ≡ deed.Spawn gives → X
no-spawn does gives quiet is = let both : true ≡ false = sym (ap is_spawn is) ∙ quiet in absurd (cc)

spawn-asked : {L : Type 0} (store : Store) (holdings : List Holding) (child : Child L) (found : Option (List Holding)) (gives : List OriginGive) → given holdings child.gives ≡ found → spawn_of store found ≡ deed.Spawn gives → IsAskedFor store holdings (ask.Spawn child) gives
spawn-asked store holdings child None gives at is = absurd (cc)
spawn-asked store holdings child (Some hs) gives at is =
    record { child = child; is = refl; hs = hs; given_is = at; gives_are = cc }

asked-for : {L : Type 0} (store : Store) (holdings : List Holding) (asks : Ask L) (gives : List OriginGive) → asked store holdings asks ≡ deed.Spawn gives → IsAskedFor store holdings asks gives
asked-for store holdings ask.Work gives is = no-spawn deed.Quiet gives refl is
asked-for store holdings (ask.Read place) gives is =
    no-spawn (about (origin_at store holdings place In) deed.Read) gives (about-is (origin_at store holdings place In) deed.Read (λ o. refl)) is
asked-for store holdings (ask.Write place value) gives is =
    let does : Origin → Deed = λ o. deed.Write o value in
    no-spawn (about (origin_at store holdings place Out) does) gives (about-is (origin_at store holdings place Out) does (λ o. refl)) is
asked-for store holdings (ask.Push place value) gives is =
    let does : Origin → Deed = λ o. deed.Push o value in
    no-spawn (about (origin_at store holdings place Push) does) gives (about-is (origin_at store holdings place Push) does (λ o. refl)) is
asked-for store holdings (ask.Pop place) gives is =
    no-spawn (about (origin_at store holdings place Pop) deed.Pop) gives (about-is (origin_at store holdings place Pop) deed.Pop (λ o. refl)) is
asked-for store holdings (ask.Empty place) gives is =
    no-spawn (about (origin_at store holdings place Pop) deed.Test) gives (about-is (origin_at store holdings place Pop) deed.Test (λ o. refl)) is
asked-for store holdings ask.NewQueue gives is = no-spawn deed.MakeQueue gives refl is
asked-for store holdings (ask.NewObject value) gives is = no-spawn (deed.MakeObject value) gives refl is
asked-for store holdings (ask.Spawn child) gives is =
    spawn-asked store holdings child (given holdings child.gives) gives refl is
asked-for store holdings ask.Sync gives is = no-spawn deed.Sync gives refl is
asked-for store holdings ask.Finish gives is = no-spawn deed.Quiet gives refl is
asked-for store holdings (ask.Fail trouble) gives is = no-spawn deed.Quiet gives refl is

module _ {B L : Type 0} (G : Ghosts B L) where
  pub spawn_gives : (plan : Plan B L) → IsWithinBounds plan.roots.queues plan.roots.objects → (n : ℕ) (entry : Entry) (gives : List OriginGive) → slice_get (script G plan).entries n ≡ Some entry → entry.deed ≡ deed.Spawn gives → AsksToGive G plan.body (serial G plan n) gives
  spawn_gives plan bounds n entry gives is spawn =
      let s = script G plan in
      let state = serial G plan n in
      let at = top_at G plan n entry is in
      let top = at.top in
      let asks = (G.next plan.body top.local top.answer (top.fuel - 1)).1 in
      let each : HoldEach s n state.store (top ∷ at.below) = subst (HoldEach s n state.store) at.stack (hold-each G plan bounds n) in
      let was = was-asked (next_deed G plan.body state.store top) (effect_of G plan.body state.steps state.store top) gives (sym at.deed ∙ spawn) in
      let child = asked-for state.store top.holdings asks gives was in
      let are : AreNamed state.store top.holdings child.child.gives gives =
      subst (AreNamed state.store top.holdings child.child.gives) child.gives_are
      (named-gives (holds s top.path n) state.store top.holdings child.child.gives child.hs each.0 child.given_is) in
      record { top = top; below = at.below; stack = at.stack; child = child.child; asks = child.is; many = are.many; modes = are.modes; named = are.named }
