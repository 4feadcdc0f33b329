-- What a spawn of a checked job gives is what its parent holds so, and nothing twice.
use Rattle.std.proofs.Common.{◌≡◌, ℕ, zero, suc, ◌<◌, Bool, true, false, not, ◌&&◌, ◌||◌, Option, Some, None, Ok, Err, List, [], ◌∷◌, length, map, flat_map, zip, bytes_eq, slice_get, nat_eq, if◌then◌else◌, refl, sym, ap, ap₂, ◌∙◌, subst, eqb-true, eq-eqb, arith}
use Rattle.std.specs.List.{list_any}
use Rattle.std.proofs.lemmas.Bool.{or_parts}
use Rattle.std.proofs.lemmas.Bool.Decides.{same_from_decides}
use Rattle.std.proofs.lemmas.Option.{same_Some}
use Rattle.std.proofs.lemmas.Slice.Eq.{bytes_eq-Decides}
use Rattle.swan_model.specs.declared.rights.Give.{Give}
use Rattle.swan_model.specs.declared.rights.Mode.{Mode}
use Rattle.swan_model.specs.declared.value.Kind.{Kind}
use Rattle.swan_model.specs.Rights as rights
use Rattle.swan_model.specs.Rights.{allows, is_aliased, is_in, is_queue_mode}
use Rattle.swan_model.specs.SerialState.{Holding}
use Rattle.swan_model.specs.SerialStep as serial
use Rattle.job_reader.specs.declared.atom.Atom.{Atom}
use Rattle.job_reader.specs.declared.atom.Atom.TheVariants as atom
use Rattle.job_reader.specs.declared.fault.JobKind.TheVariants as fault
use Rattle.job_reader.specs.declared.line.Line.{Line}
use Rattle.privilege_check.specs.Names.{KnownNames}
use Rattle.privilege_check.specs.Spawns as spawns
use Rattle.privilege_check.specs.Spawns.{argument, arguments, is_lent_twice, lent}
use Rattle.privilege_check.specs.Uses.{as_held, held, is_asked, is_same_sort}
use Rattle.privilege_check.specs.declared.declaration.Declaration.{Declaration}
use Rattle.privilege_check.specs.declared.declaration.Declaration.TheVariants.{Variable, Held}
use Rattle.job_body.specs.Standing.{Standing}
use Rattle.job_body.specs.Steps.{access_given, place_at}
use Rattle.job_body.proofs.RightsNames.{Entry, mode_at, mode_known, mode_of, modes, name_at, names, position}
use Rattle.job_body.proofs.RightsTasks.{held_modes, take_of_meaning, bind-parts}
use Rattle.swan_model.proofs.Uses.{same_kind}

-- ---- what is held so

-- a name may be used by a mode: it is held by a mode that allows this
pub record MayUse (entries : List Entry) (name : List ℕ) (mode : Mode) : Type 0 where
  pub own : Mode
  pub held : mode_of entries name ≡ Some own
  pub allowed : allows own mode ≡ true

as_held-may : (asked : Option Kind) (mode : Mode) (meaning : Option Declaration) (k : Kind) → as_held asked mode meaning ≡ Ok k → (own : Mode) × (mode_known meaning ≡ Some own) × (allows own mode ≡ true)
as_held-may asked mode None k e = absurd (cc)
as_held-may asked mode (Some (Variable kind)) k e = absurd (cc)
as_held-may asked mode (Some (Held own kind)) k e =
    (own, refl, go (is_same_sort mode own && is_asked asked kind) (allows own mode) e) where
      go : (a b : Bool) → (if a then (if b then Ok kind else Err fault.Privilege) else Err fault.Kind) ≡ Ok k → b ≡ true
      go true true e = refl
      go true false e = absurd (cc)
      go false b e = absurd (cc)

-- a use that passes the check is one of what is held so
pub held-may : (entries : List Entry) (known : KnownNames) (asked : Option Kind) (mode : Mode) (name : List ℕ) (k : Kind) → ((query : List ℕ) → mode_of entries query ≡ mode_known (known query)) → held known asked mode name ≡ Ok k → MayUse entries name mode
held-may entries known asked mode name k names e =
    let may = as_held-may asked mode (known name) k e in
    record { own = may.0; held = names name ∙ may.1; allowed = may.2 }

-- what stands at the place of a name
held_of : (holdings : List Holding) (place : ℕ) (own : Mode) → slice_get (map (λ (h : Holding). h.mode) holdings) place ≡ Some own → (holding : Holding) × (slice_get holdings place ≡ Some holding) × (holding.mode ≡ own)
held_of [] place own e = absurd (cc)
held_of (first ∷ holdings) zero own e = (first, refl, cc)
held_of (first ∷ holdings) (suc place) own e = held_of holdings place own e

-- what is held at a place by a mode that allows another
pub record HeldAt (holdings : List Holding) (place : ℕ) (mode : Mode) : Type 0 where
  pub holding : Holding
  pub found : slice_get holdings place ≡ Some holding
  pub allowed : allows holding.mode mode ≡ true

abbrev pub held_modes_of : List Holding → List Mode
held_modes_of holdings = map (λ (h : Holding). h.mode) holdings

pub may-hold : (entries : List Entry) (holdings : List Holding) (name : List ℕ) (mode : Mode) → held_modes_of holdings ≡ modes entries → MayUse entries name mode → HeldAt holdings (position entries name) mode
may-hold entries holdings name mode same may =
    let at : slice_get (held_modes_of holdings) (position entries name) ≡ Some may.own =
    ap (λ ms. slice_get ms (position entries name)) same ∙ mode_at entries name ∙ may.held in
    let h = held_of holdings (position entries name) may.own at in
    record { holding = h.0; found = h.1; allowed = ap (λ m. allows m mode) h.2 ∙ may.allowed }

pub number-held : (holdings : List Holding) (place : ℕ) (mode : Mode) (h : HeldAt holdings place mode) → serial.number_at holdings place mode ≡ Some h.holding.number
number-held holdings place mode h =
    ap (serial.used_by mode) h.found ∙ ap (λ b. if b then Some h.holding.number else None) h.allowed

-- ---- what is held stands in the store

-- how many of the objects or queues that a mode names are in a store with so many of both
abbrev pub room : ℕ → ℕ → Mode → ℕ
room cells queues mode = if is_queue_mode mode then queues else cells

abbrev pub InStore : ℕ → ℕ → List Holding → Type 0
InStore cells queues [] = Unit {0}
InStore cells queues (holding ∷ holdings) = (holding.number < room cells queues holding.mode) × InStore cells queues holdings

pub in_store-at : (cells queues : ℕ) (holdings : List Holding) (place : ℕ) (holding : Holding) → slice_get holdings place ≡ Some holding → InStore cells queues holdings → holding.number < room cells queues holding.mode
in_store-at cells queues [] place holding e stored = absurd (cc)
in_store-at cells queues (first ∷ holdings) zero holding e stored =
    let same : first ≡ holding = cc in subst (λ (h : Holding). h.number < room cells queues h.mode) same stored.0
in_store-at cells queues (first ∷ holdings) (suc place) holding e stored = in_store-at cells queues holdings place holding e stored.1

pub held-stored : (cells queues : ℕ) (holdings : List Holding) (place : ℕ) (mode : Mode) (h : HeldAt holdings place mode) → InStore cells queues holdings → h.holding.number < room cells queues mode
held-stored cells queues holdings place mode h stored =
    subst (λ b. h.holding.number < (if b then queues else cells)) (same_kind h.holding.mode mode h.allowed)
    (in_store-at cells queues holdings place h.holding h.found stored)

-- ---- what a spawn gives

abbrev pub to_give : List Line → ℕ → List ℕ × Mode → Give
to_give job i gift = record { place = place_at job i gift.0; mode = gift.1 }

abbrev pub AllMayUse : List Entry → List (List ℕ × Mode) → Type 0
AllMayUse entries [] = Unit {0}
AllMayUse entries (gift ∷ gifts) = MayUse entries gift.0 gift.1 × AllMayUse entries gifts

pub lent-may : (entries : List Entry) (known : KnownNames) → ((query : List ℕ) → mode_of entries query ≡ mode_known (known query)) → (taken : List Declaration) (args : List Atom) → arguments known taken args ≡ Ok tt → AllMayUse entries (lent taken args)
lent-may entries known names [] args e = tt
lent-may entries known names (t ∷ taken) [] e = tt
lent-may entries known names (Variable k ∷ taken) (a ∷ args) e =
    lent-may entries known names taken args (bind-parts (argument known (Variable k) a) (arguments known taken args) e).1
lent-may entries known names (Held mode k ∷ taken) (atom.Int n ∷ args) e = absurd (cc)
lent-may entries known names (Held mode k ∷ taken) (atom.Bytes bytes ∷ args) e = absurd (cc)
lent-may entries known names (Held mode k ∷ taken) (atom.Name name ∷ args) e =
    let parts = bind-parts (held known (Some k) mode name) (arguments known taken args) e in
    (held-may entries known (Some k) mode name parts.0.0 names parts.0.1, lent-may entries known names taken args parts.1)

pub gives-lent : (job : List Line) (s : Standing) (known : KnownNames) (taken : List Declaration) (args : List Atom) → arguments known taken args ≡ Ok tt → flat_map (access_given job s) (zip (map take_of_meaning taken) args) ≡ map (to_give job s.at) (lent taken args)
gives-lent job s known [] args e = refl
gives-lent job s known (t ∷ taken) [] e = refl
gives-lent job s known (Variable k ∷ taken) (a ∷ args) e =
    gives-lent job s known taken args (bind-parts (argument known (Variable k) a) (arguments known taken args) e).1
gives-lent job s known (Held mode k ∷ taken) (atom.Int n ∷ args) e = absurd (cc)
gives-lent job s known (Held mode k ∷ taken) (atom.Bytes bytes ∷ args) e = absurd (cc)
gives-lent job s known (Held mode k ∷ taken) (atom.Name name ∷ args) e =
    let parts = bind-parts (held known (Some k) mode name) (arguments known taken args) e in
    ap (λ gives. record { place = place_at job s.at name; mode = mode } ∷ gives) (gives-lent job s known taken args parts.1)

-- the child gets what its task takes
pub modes-lent : (known : KnownNames) (taken : List Declaration) (args : List Atom) → length args ≡ length taken → arguments known taken args ≡ Ok tt → map (λ (gift : List ℕ × Mode). gift.1) (lent taken args) ≡ held_modes taken
modes-lent known [] args same e = refl
modes-lent known (t ∷ taken) [] same e = absurd (cc)
modes-lent known (Variable k ∷ taken) (a ∷ args) same e =
    modes-lent known taken args (omega (arith, same)) (bind-parts (argument known (Variable k) a) (arguments known taken args) e).1
modes-lent known (Held mode k ∷ taken) (atom.Int n ∷ args) same e = absurd (cc)
modes-lent known (Held mode k ∷ taken) (atom.Bytes bytes ∷ args) same e = absurd (cc)
modes-lent known (Held mode k ∷ taken) (atom.Name name ∷ args) same e =
    let parts = bind-parts (held known (Some k) mode name) (arguments known taken args) e in
    ap (λ ms. mode ∷ ms) (modes-lent known taken args (omega (arith, same)) parts.1)

-- what the child holds
pub record ChildHolds (cells queues : ℕ) (holdings : List Holding) (gives : List Give) (held : List Mode) : Type 0 where
  pub child : List Holding
  pub given : serial.given holdings gives ≡ Some child
  pub modes : held_modes_of child ≡ held
  pub stored : InStore cells queues child

pub child-holds : (cells queues : ℕ) (job : List Line) (i : ℕ) (entries : List Entry) (holdings : List Holding) → ((name : List ℕ) → place_at job i name ≡ position entries name) → held_modes_of holdings ≡ modes entries → InStore cells queues holdings → (gifts : List (List ℕ × Mode)) → AllMayUse entries gifts → ChildHolds cells queues holdings (map (to_give job i) gifts) (map (λ (gift : List ℕ × Mode). gift.1) gifts)
child-holds cells queues job i entries holdings place same stored [] may = record { child = []; given = refl; modes = refl; stored = tt }
child-holds cells queues job i entries holdings place same stored ((name, mode) ∷ gifts) may =
    let rest = child-holds cells queues job i entries holdings place same stored gifts may.1 in
    let h = may-hold entries holdings name mode same may.0 in
    let number : serial.number_at holdings (place_at job i name) mode ≡ Some h.holding.number =
    ap (λ p. serial.number_at holdings p mode) (place name) ∙ number-held holdings (position entries name) mode h in
    record {
      child = record { mode = mode; number = h.holding.number } ∷ rest.child;
      given = ap₂ (serial.given_also (to_give job i (name, mode))) number rest.given;
      modes = ap (λ ms. mode ∷ ms) rest.modes;
      stored = (held-stored cells queues holdings (position entries name) mode h stored, rest.stored);
    }

-- ---- nothing twice

same-place : (entries : List Entry) (a b : List ℕ) (own other : Mode) → mode_of entries a ≡ Some own → mode_of entries b ≡ Some other → nat_eq (position entries a) (position entries b) ≡ bytes_eq a b
same-place entries a b own other is_a is_b = sym (same_from_decides (bytes_eq a b) (nat_eq (position entries a) (position entries b)) (bytes_eq-Decides a b) (to_name, to_place)) where
  to_name : nat_eq (position entries a) (position entries b) ≡ true → a ≡ b
  to_name e =
      same_Some a b (sym (name_at entries a own is_a) ∙ ap (slice_get (names entries)) (eqb-true (position entries a) (position entries b) e) ∙ name_at entries b other is_b)

  to_place : a ≡ b → nat_eq (position entries a) (position entries b) ≡ true
  to_place e = eq-eqb (position entries a) (position entries b) (ap (position entries) e)

any-clash : (job : List Line) (i : ℕ) (entries : List Entry) → ((name : List ℕ) → place_at job i name ≡ position entries name) → (gift : List ℕ × Mode) → MayUse entries gift.0 gift.1 → (gifts : List (List ℕ × Mode)) → AllMayUse entries gifts → list_any (rights.clash (to_give job i gift)) (map (to_give job i) gifts) ≡ list_any (spawns.lends_clash gift) gifts
any-clash job i entries place gift one [] may = refl
any-clash job i entries place gift one (other ∷ gifts) may =
    let same : nat_eq (place_at job i gift.0) (place_at job i other.0) ≡ bytes_eq gift.0 other.0 =
    ap₂ nat_eq (place gift.0) (place other.0) ∙ same-place entries gift.0 other.0 one.own may.0.own one.held may.0.held in
    ap₂ (λ b c. (b && not (is_in gift.1 && is_in other.1)) || c) same (any-clash job i entries place gift one gifts may.1)

pub gives-apart : (job : List Line) (i : ℕ) (entries : List Entry) → ((name : List ℕ) → place_at job i name ≡ position entries name) → (gifts : List (List ℕ × Mode)) → AllMayUse entries gifts → is_lent_twice gifts ≡ false → is_aliased (map (to_give job i) gifts) ≡ false
gives-apart job i entries place [] may once = refl
gives-apart job i entries place (gift ∷ gifts) may once =
    let parts = or_parts (list_any (spawns.lends_clash gift) gifts) (is_lent_twice gifts) once in
    ap₂ (λ b c. b || c) (any-clash job i entries place gift may.0 gifts may.1 ∙ parts.0) (gives-apart job i entries place gifts may.1 parts.1)
