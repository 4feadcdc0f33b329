-- What a frame holds has the same names in the run as in the elision. So what the frame may use, it may use in both, and
-- what it gives a child is what the script names.
use Rattle.std.proofs.Common.{◌≡◌, ℕ, suc, true, cond, List, [], ◌∷◌, Option, Some, None, length, map, refl, sym, ap, ◌∙◌, arith}
use Rattle.std.proofs.lemmas.Option.{same_Some, slice_get-map}
use Rattle.std.specs.Option.{option_map}
use Rattle.std.specs.Prelude.{slice_get}
use Rattle.swan_model.specs.declared.body.Body.{Ghosts}
use Rattle.swan_model.specs.declared.body.Child.{Child}
use Rattle.swan_model.specs.declared.origin.Origin.{Origin}
use Rattle.swan_model.specs.declared.plan.Plan.{Plan}
use Rattle.swan_model.specs.declared.rights.Give.{Give}
use Rattle.swan_model.specs.declared.rights.Mode.{Mode}
use Rattle.swan_model.specs.declared.script.OriginGive.{OriginGive}
use Rattle.swan_model.specs.Rights.{allows, is_queue_mode}
use Rattle.swan_model.specs.SerialState.{Activation, Holding}
use Rattle.swan_model.specs.SerialStep.{given, given_also, number_at, used_by}
use Rattle.swan_model.specs.SerialTime.{Reading}
use Rattle.swan_model.specs.TrueFrames.{give_in, gives_at}
use Rattle.serial_elision.specs.TaskSteps.{MayUseAt, Spawns}
use Rattle.swan_model.proofs.Uses.{same_kind}

-- what made what is held by a mode, as a reading tells
abbrev pub origin_in : Reading → Mode → ℕ → Option Origin
origin_in r mode number = cond (is_queue_mode mode) (slice_get r.queues number) (slice_get r.objects number)

abbrev pub named : Mode → Option Origin → Option OriginGive
named mode origin = option_map (λ o. let give : OriginGive = record { origin = o; mode = mode } in give) origin

-- a name tells the origin and the mode
pub name-origin : (mode : Mode) (found : Option Origin) (g : OriginGive) → named mode found ≡ Some g → found ≡ Some g.origin
name-origin mode None g is = absurd (cc)
name-origin mode (Some o) g is = ap {B = Option Origin} (λ (x : OriginGive). Some x.origin) (same_Some _ g is)

pub name-mode : (mode : Mode) (found : Option Origin) (g : OriginGive) → named mode found ≡ Some g → mode ≡ g.mode
name-mode mode None g is = absurd (cc)
name-mode mode (Some o) g is = ap (λ (x : OriginGive). x.mode) (same_Some _ g is)

-- origins depend on the kind of a mode alone
pub origin-in_kind : (r : Reading) (mode other : Mode) (number : ℕ) → is_queue_mode mode ≡ is_queue_mode other → origin_in r mode number ≡ origin_in r other number
origin-in_kind r mode other number same = ap (λ b. cond b (slice_get r.queues number) (slice_get r.objects number)) same

-- Among what is held stands, at this place, what this origin made, and it may be used by this mode.
pub record IsHeldSo (r : Reading) (held : List Holding) (place : ℕ) (mode : Mode) (origin : Origin) : Type 0 where
  pub holding : Holding
  pub stands : slice_get held place ≡ Some holding
  pub may : allows holding.mode mode ≡ true
  pub known : origin_in r holding.mode holding.number ≡ Some origin

-- its number, and what made it by the mode of its use
pub held-number : (r : Reading) (held : List Holding) (place : ℕ) (mode : Mode) (origin : Origin) (is : IsHeldSo r held place mode origin) → number_at held place mode ≡ Some is.holding.number
held-number r held place mode origin is = ap (used_by mode) is.stands ∙ ap {B = Option ℕ} (λ b. cond b (Some is.holding.number) None) is.may

pub held-origin : (r : Reading) (held : List Holding) (place : ℕ) (mode : Mode) (origin : Origin) (is : IsHeldSo r held place mode origin) → origin_in r mode is.holding.number ≡ Some origin
held-origin r held place mode origin is = sym (origin-in_kind r is.holding.mode mode is.holding.number (same_kind is.holding.mode mode is.may)) ∙ is.known

-- what is held by a name
pub record IsNamedAt (r : Reading) (held : List Holding) (place : ℕ) (give : OriginGive) : Type 0 where
  pub holding : Holding
  pub stands : slice_get held place ≡ Some holding
  pub mode : holding.mode ≡ give.mode
  pub known : origin_in r holding.mode holding.number ≡ Some give.origin

name-at-place : (r : Reading) (held : List Holding) (place : ℕ) (give : OriginGive) (found : Option Holding) → slice_get held place ≡ found → option_map (give_in r) found ≡ Some (Some give) → IsNamedAt r held place give
name-at-place r held place give None at is = absurd (cc)
name-at-place r held place give (Some h) at is =
    let own : give_in r h ≡ Some give = same_Some (give_in r h) (Some give) is in
    record { holding = h; stands = at; mode = name-mode h.mode (origin_in r h.mode h.number) give own; known = name-origin h.mode (origin_in r h.mode h.number) give own }

pub name-at : (r : Reading) (held : List Holding) (names : List (Option OriginGive)) (place : ℕ) (give : OriginGive) → map (give_in r) held ≡ names → slice_get names place ≡ Some (Some give)
    → IsNamedAt r held place give
name-at r held names place give are is =
    name-at-place r held place give (slice_get held place) refl (sym (slice_get-map (give_in r) held place) ∙ ap (λ xs. slice_get xs place) are ∙ is)

-- ---- what a child is given

-- each give is of what is held so, and this names it
abbrev pub AreGivenSo : Reading → List Holding → List Give → List OriginGive → Type 0
AreGivenSo r held gives all =
    (i : ℕ) (give : Give) → slice_get gives i ≡ Some give
    → (origin : Origin) × IsHeldSo r held give.place give.mode origin × (slice_get all i ≡ Some (record { origin = origin; mode = give.mode }))

pub record IsFirstGiven (held : List Holding) (give : Give) (gives : List Give) (list : List Holding) : Type 0 where
  pub number : ℕ
  pub rest : List Holding
  pub at : number_at held give.place give.mode ≡ Some number
  pub given_rest : given held gives ≡ Some rest
  pub list_is : list ≡ record { mode = give.mode; number = number } ∷ rest

pub first-given : (held : List Holding) (give : Give) (gives : List Give) (list : List Holding) (a : Option ℕ) (b : Option (List Holding)) → number_at held give.place give.mode ≡ a → given held gives ≡ b
    → given_also give a b ≡ Some list → IsFirstGiven held give gives list
first-given held give gives list None b one two is = absurd (cc)
first-given held give gives list (Some n) None one two is = absurd (cc)
first-given held give gives list (Some n) (Some rest) one two is = record { number = n; rest = rest; at = one; given_rest = two; list_is = sym (same_Some _ list is) }

-- what the child holds has the names that the script gives it
pub given-names : (r : Reading) (held : List Holding) (gives : List Give) (hs : List Holding) (all : List OriginGive) → given held gives ≡ Some hs → length all ≡ length gives
    → AreGivenSo r held gives all → map (give_in r) hs ≡ map Some all
given-names r held [] hs [] is many each = let none : [] ≡ hs = same_Some [] hs is in ap (map (give_in r)) (sym none)
given-names r held [] hs (o ∷ all) is many each = absurd (omega (arith, many))
given-names r held (give ∷ gives) hs [] is many each = absurd (omega (arith, many))
given-names r held (give ∷ gives) hs (o ∷ all) is many each =
    let first = first-given held give gives hs (number_at held give.place give.mode) (given held gives) refl refl is in
    let one = each 0 give refl in
    let number : one.1.holding.number ≡ first.number = same_Some _ _ (sym (held-number r held give.place give.mode one.0 one.1) ∙ first.at) in
    let known : origin_in r give.mode first.number ≡ Some one.0 = ap (origin_in r give.mode) (sym number) ∙ held-origin r held give.place give.mode one.0 one.1 in
    let head : give_in r (record { mode = give.mode; number = first.number }) ≡ Some o = ap (named give.mode) known ∙ sym one.2 in
    let rest = given-names r held gives first.rest all first.given_rest (omega (arith, many)) (λ i g at. each (suc i) g at) in
    ap (map (give_in r)) first.list_is
    ∙ ap {B = List (Option OriginGive)} (λ g. g ∷ map (give_in r) first.rest) head
    ∙ ap {B = List (Option OriginGive)} (λ gs. Some o ∷ gs) rest

-- ---- a frame and its task

module _ {B L : Type 0} (G : Ghosts B L) (plan : Plan B L) (path : List ℕ) (k : ℕ) (top : Activation L) (r : Reading) (held : List Holding)
    (names : map (give_in r) held ≡ gives_at G plan path k top) where
  -- what the task may use at a place stands there in the run too
  pub use-held : (place : ℕ) (mode : Mode) (origin : Origin) → MayUseAt G plan path k top place mode origin → IsHeldSo r held place mode origin
  use-held place mode origin used_so =
      let at = name-at r held (gives_at G plan path k top) place (record { origin = origin; mode = used_so.holding.mode }) names used_so.named in
      record { holding = at.holding; stands = at.stands; may = ap (λ m. allows m mode) at.mode ∙ used_so.may; known = at.known }

  -- and what it gives a child
  pub gives-held : (local : L) (child : Child L) (spawn : Spawns G plan path k top local child) → AreGivenSo r held child.gives spawn.gives
  gives-held local child spawn i give at =
      let one = spawn.each i give at in
      (one.0, use-held give.place give.mode one.0 one.1, one.2)

  pub child-names : (local : L) (child : Child L) (spawn : Spawns G plan path k top local child) (hs : List Holding) → given held child.gives ≡ Some hs → map (give_in r) hs ≡ map Some spawn.gives
  child-names local child spawn hs is = given-names r held child.gives hs spawn.gives is spawn.many (gives-held local child spawn)
