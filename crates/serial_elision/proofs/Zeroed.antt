-- What a spawn makes of the objects, told by its gives.
use Rattle.std.proofs.Common.{◌≡◌, ℕ, zero, suc, ◌≤◌, Bool, true, false, cond, List, [], ◌∷◌, inl, inr, Option, Some, None, refl, sym, ap, subst, ◌∙◌}
use Rattle.std.specs.List.{list_any, cons_option}
use Rattle.std.specs.Option.{option_map, option_to_list}
use Rattle.std.specs.Prelude.{slice_get, slice_set, ◌||◌, ◌&&◌}
use Rattle.swan_model.specs.declared.origin.Origin.{Origin}
use Rattle.swan_model.specs.declared.origin.Origin.TheVariants.{Step}
use Rattle.swan_model.specs.declared.rights.Mode.{Mode}
use Rattle.swan_model.specs.declared.rights.Mode.TheVariants.{In, Out, InOut, Push, Pop, PushPop}
use Rattle.swan_model.specs.declared.script.Deed.TheVariants as deed
use Rattle.swan_model.specs.declared.script.OriginGive.{OriginGive}
use Rattle.swan_model.specs.Script.{origin_of, give_of, gives_of}
use Rattle.swan_model.specs.SerialState.{Cell, Queue, Holding, Store}
use Rattle.swan_model.specs.SerialStep.{cells_with_zeros, zeroed_by, zero_cell}
use Rattle.swan_model.specs.Told.{is_same, is_out, is_given_out}
use Rattle.swan_model.specs.Values.{zero_of}
use Rattle.swan_model.proofs.Elements.{set_cases}
use Rattle.serial_elision.proofs.Becomes.{kept, stayed, HasOrigins, Becomes}
use Rattle.swan_model.proofs.Origins.{IsOld, is_same-self, old-differs}

-- the cells that stand have the origins that they had
abbrev pub SameOrigins : List Cell → List Cell → Type 0
SameOrigins cells others = (i : ℕ) → option_map (λ (c : Cell). c.origin) (slice_get cells i) ≡ option_map (λ (c : Cell). c.origin) (slice_get others i)

abbrev pub OneOrigin : List Cell → Type 0
OneOrigin cells = (i j : ℕ) (c d : Cell) → slice_get cells i ≡ Some c → slice_get cells j ≡ Some d → is_same c.origin d.origin ≡ true → i ≡ j

-- what stands at an index is what stood there, with its zero where this says so
pub record IsZeroedBy (gives : List OriginGive) (cells : List Cell) (i : ℕ) (now : Cell) : Type 0 where
  pub was : Cell
  pub stood : slice_get cells i ≡ Some was
  pub origin : now.origin ≡ was.origin
  pub kind : now.kind ≡ was.kind
  pub value : now.value ≡ cond (list_any (is_given_out was.origin) gives) (zero_of was.kind) was.value

unzeroed : (gives : List OriginGive) (cells : List Cell) (i : ℕ) (now : Cell) → list_any (is_given_out now.origin) gives ≡ false → slice_get cells i ≡ Some now → IsZeroedBy gives cells i now
unzeroed gives cells i now none is =
    record { was = now; stood = is; origin = refl; kind = refl; value = ap (λ b. cond b (zero_of now.kind) now.value) (sym none) }

-- a give that isn't by Out gives nothing by Out
no_out : (store : Store) (mode : Mode) (number : ℕ) (origin : Origin) (found : Option Origin) → is_out mode ≡ false → list_any (is_given_out origin) (option_to_list (option_map (λ o. let give : OriginGive = record { origin = o; mode = mode } in give) found)) ≡ false
no_out store mode number origin None not = refl
no_out store mode number origin (Some o) not = ap (λ b. (b && is_same o origin) || false) not

module _ (store : Store) where
  -- a give by Out of an object that stands
  out_found : (cells : List Cell) (number : ℕ) (c : Cell) → OneOrigin cells → slice_get cells number ≡ Some c → (i : ℕ) (now : Cell) → slice_get (slice_set cells number (record c { value = zero_of c.kind })) i ≡ Some now → IsZeroedBy ((record { origin = c.origin; mode = Out }) ∷ []) cells i now
  out_found cells number c one found i now is =
      elim (set_cases cells number c _ i now found is) [
        | inl here ↦ record {
          was = c;
          stood = ap (slice_get cells) here.0 ∙ found;
          origin = ap (λ (x : Cell). x.origin) here.1;
          kind = ap (λ (x : Cell). x.kind) here.1;
          value = ap (λ (x : Cell). x.value) here.1 ∙ ap (λ b. cond (b || false) (zero_of c.kind) c.value) (sym (is_same-self c.origin));
        }
        | inr there ↦ elsewhere (is_same c.origin now.origin) refl there.0 there.1
      ]
    where
      elsewhere : (same : Bool) → is_same c.origin now.origin ≡ same → (i ≡ number → ⊥) → slice_get cells i ≡ Some now → IsZeroedBy ((record { origin = c.origin; mode = Out }) ∷ []) cells i now
      elsewhere true same other at = absurd (other (sym (one number i c now found at same)))
      elsewhere false same other at = unzeroed ((record { origin = c.origin; mode = Out }) ∷ []) cells i now (ap (λ b. b || false) same) at

  out_at : (cells : List Cell) (number : ℕ) (found : Option Cell) (named : Option Origin) → OneOrigin cells → slice_get cells number ≡ found → named ≡ option_map (λ (c : Cell). c.origin) found → (i : ℕ) (now : Cell) → slice_get (zero_cell cells number found) i ≡ Some now → IsZeroedBy (option_to_list (option_map (λ o. let give : OriginGive = record { origin = o; mode = Out } in give) named)) cells i now
  out_at cells number None None one found name i now is = unzeroed [] cells i now refl is
  out_at cells number None (Some o) one found name i now is = absurd (cc)
  out_at cells number (Some c) None one found name i now is = absurd (cc)
  out_at cells number (Some c) (Some o) one found name i now is =
      let e : o ≡ c.origin = cc in
      subst (λ x. IsZeroedBy ((record { origin = x; mode = Out }) ∷ []) cells i now) (sym e) (out_found cells number c one found i now is)

  one-zeroed : (mode : Mode) (number : ℕ) (cells : List Cell) → SameOrigins cells store.cells → OneOrigin cells → (i : ℕ) (now : Cell) → slice_get (zeroed_by mode cells number) i ≡ Some now → IsZeroedBy (option_to_list (give_of store (record { mode = mode; number = number }))) cells i now
  one-zeroed Out number cells same one i now is =
      out_at cells number (slice_get cells number) (origin_of store Out number) one refl (sym (same number)) i now is
  one-zeroed In number cells same one i now is = unzeroed _ cells i now (no_out store In number now.origin (origin_of store In number) refl) is
  one-zeroed InOut number cells same one i now is = unzeroed _ cells i now (no_out store InOut number now.origin (origin_of store InOut number) refl) is
  one-zeroed Push number cells same one i now is = unzeroed _ cells i now (no_out store Push number now.origin (origin_of store Push number) refl) is
  one-zeroed Pop number cells same one i now is = unzeroed _ cells i now (no_out store Pop number now.origin (origin_of store Pop number) refl) is
  one-zeroed PushPop number cells same one i now is = unzeroed _ cells i now (no_out store PushPop number now.origin (origin_of store PushPop number) refl) is

  set-origins : (cells : List Cell) (number : ℕ) (c new : Cell) → slice_get cells number ≡ Some c → new.origin ≡ c.origin → SameOrigins (slice_set cells number new) cells
  set-origins [] number c new found origin i = absurd (cc)
  set-origins (d ∷ cells) zero c new found origin zero = ap Some (origin ∙ (let e : c ≡ d = cc in ap (λ (x : Cell). x.origin) e))
  set-origins (d ∷ cells) zero c new found origin (suc i) = refl
  set-origins (d ∷ cells) (suc number) c new found origin zero = refl
  set-origins (d ∷ cells) (suc number) c new found origin (suc i) = set-origins cells number c new found origin i

  zero_cell-origins : (cells : List Cell) (number : ℕ) (found : Option Cell) → slice_get cells number ≡ found → SameOrigins (zero_cell cells number found) cells
  zero_cell-origins cells number None found i = refl
  zero_cell-origins cells number (Some c) found i = set-origins cells number c (record c { value = zero_of c.kind }) found refl i

  zeroed_by-origins : (mode : Mode) (cells : List Cell) (number : ℕ) → SameOrigins (zeroed_by mode cells number) cells
  zeroed_by-origins Out cells number i = zero_cell-origins cells number (slice_get cells number) refl i
  zeroed_by-origins In cells number i = refl
  zeroed_by-origins InOut cells number i = refl
  zeroed_by-origins Push cells number i = refl
  zeroed_by-origins Pop cells number i = refl
  zeroed_by-origins PushPop cells number i = refl

  one-kept : (cells others : List Cell) → SameOrigins cells others → OneOrigin others → OneOrigin cells
  one-kept cells others same one i j c d at_i at_j is = by-found (slice_get others i) (slice_get others j) refl refl (same i) (same j)
    where
      by-found : (x y : Option Cell) → slice_get others i ≡ x → slice_get others j ≡ y → option_map (λ (z : Cell). z.origin) (slice_get cells i) ≡ option_map (λ (z : Cell). z.origin) x → option_map (λ (z : Cell). z.origin) (slice_get cells j) ≡ option_map (λ (z : Cell). z.origin) y → i ≡ j
      by-found None y at at' e e' = let bad : Some c.origin ≡ None = ap (option_map (λ (z : Cell). z.origin)) (sym at_i) ∙ e in absurd (cc)
      by-found (Some x) None at at' e e' = let bad : Some d.origin ≡ None = ap (option_map (λ (z : Cell). z.origin)) (sym at_j) ∙ e' in absurd (cc)
      by-found (Some x) (Some y) at at' e e' =
          let one_x : Some c.origin ≡ Some x.origin = ap (option_map (λ (z : Cell). z.origin)) (sym at_i) ∙ e in
          let one_y : Some d.origin ≡ Some y.origin = ap (option_map (λ (z : Cell). z.origin)) (sym at_j) ∙ e' in
          let ex : c.origin ≡ x.origin = cc in
          let ey : d.origin ≡ y.origin = cc in
          one i j x y at at' (ap (λ o. is_same o y.origin) (sym ex) ∙ ap (is_same c.origin) (sym ey) ∙ is)

  any-cons : (p : OriginGive → Bool) (give : Option OriginGive) (gives : List OriginGive) → list_any p (cons_option give gives) ≡ list_any p (option_to_list give) || list_any p gives
  any-cons p None gives = refl
  any-cons p (Some give) gives = or-false (p give) (list_any p gives)
    where
      or-false : (a b : Bool) → a || b ≡ (a || false) || b
      or-false true b = refl
      or-false false b = refl

  two-zeroes : {X : Type 0} (a b : Bool) (null value : X) → cond b null (cond a null value) ≡ cond (a || b) null value
  two-zeroes true true null value = refl
  two-zeroes true false null value = refl
  two-zeroes false true null value = refl
  two-zeroes false false null value = refl

  -- the zeroes of one give, and then those of the others
  zeroed-more : (give : Option OriginGive) (gives : List OriginGive) (cells first : List Cell) (i : ℕ) (now : Cell) → ((j : ℕ) (c : Cell) → slice_get first j ≡ Some c → IsZeroedBy (option_to_list give) cells j c) → IsZeroedBy gives first i now → IsZeroedBy (cons_option give gives) cells i now
  zeroed-more give gives cells first i now one rest =
      let before = one i rest.was rest.stood in
      let c : Cell = before.was in
      let any : Origin → List OriginGive → Bool = λ o gs. list_any (is_given_out o) gs in
      record {
        was = c;
        stood = before.stood;
        origin = rest.origin ∙ before.origin;
        kind = rest.kind ∙ before.kind;
        value = rest.value
            ∙ ap (λ o. cond (any o gives) (zero_of rest.was.kind) rest.was.value) before.origin
            ∙ ap (λ k. cond (any c.origin gives) (zero_of k) rest.was.value) before.kind
            ∙ ap (cond (any c.origin gives) (zero_of c.kind)) before.value
            ∙ two-zeroes (any c.origin (option_to_list give)) (any c.origin gives) (zero_of c.kind) c.value
            ∙ ap (λ b. cond b (zero_of c.kind) c.value) (sym (any-cons (is_given_out c.origin) give gives));
      }

  pub all-zeroed : (holdings : List Holding) (cells : List Cell) → SameOrigins cells store.cells → OneOrigin cells → (i : ℕ) (now : Cell) → slice_get (cells_with_zeros cells holdings) i ≡ Some now → IsZeroedBy (gives_of store holdings) cells i now
  all-zeroed [] cells same one i now is = unzeroed [] cells i now refl is
  all-zeroed (holding ∷ holdings) cells same one i now is =
      let first = zeroed_by holding.mode cells holding.number in
      let first_same : SameOrigins first cells = zeroed_by-origins holding.mode cells holding.number in
      let same_all : SameOrigins first store.cells = λ j. first_same j ∙ same j in
      zeroed-more (give_of store holding) (gives_of store holdings) cells first i now (one-zeroed holding.mode holding.number cells same one)
      (all-zeroed holdings first same_all (one-kept first cells first_same one) i now is)

  -- no give is of what a later step makes
  give-old : (n : ℕ) (mode : Mode) (m : ℕ) (found : Option Origin) → n ≤ m → ((o : Origin) → found ≡ Some o → IsOld n o) → list_any (is_given_out (Step m)) (option_to_list (option_map (λ o. let give : OriginGive = record { origin = o; mode = mode } in give) found)) ≡ false
  give-old n mode m None later old = refl
  give-old n mode m (Some o) later old =
      ap (λ b. (is_out mode && b) || false) (old-differs n m o (old o refl) later) ∙ and-false (is_out mode)
    where
      and-false : (b : Bool) → (b && false) || false ≡ false
      and-false true = refl
      and-false false = refl

  found-queue : (n : ℕ) (found : Option Queue) (o : Origin) → ((q : Queue) → found ≡ Some q → IsOld n q.origin) → option_map (λ (q : Queue). q.origin) found ≡ Some o → IsOld n o
  found-queue n None o old is = absurd (cc)
  found-queue n (Some q) o old is = let e : q.origin ≡ o = cc in subst (IsOld n) e (old q refl)

  found-cell : (n : ℕ) (found : Option Cell) (o : Origin) → ((c : Cell) → found ≡ Some c → IsOld n c.origin) → option_map (λ (c : Cell). c.origin) found ≡ Some o → IsOld n o
  found-cell n None o old is = absurd (cc)
  found-cell n (Some c) o old is = let e : c.origin ≡ o = cc in subst (IsOld n) e (old c refl)

  origin-old : (n : ℕ) (mode : Mode) (number : ℕ) → HasOrigins n store → (o : Origin) → origin_of store mode number ≡ Some o → IsOld n o
  origin-old n Push number has o is = found-queue n (slice_get store.queues number) o (has.queue_old number) is
  origin-old n Pop number has o is = found-queue n (slice_get store.queues number) o (has.queue_old number) is
  origin-old n PushPop number has o is = found-queue n (slice_get store.queues number) o (has.queue_old number) is
  origin-old n In number has o is = found-cell n (slice_get store.cells number) o (has.cell_old number) is
  origin-old n Out number has o is = found-cell n (slice_get store.cells number) o (has.cell_old number) is
  origin-old n InOut number has o is = found-cell n (slice_get store.cells number) o (has.cell_old number) is

  none-later : (n : ℕ) (holdings : List Holding) (m : ℕ) → HasOrigins n store → n ≤ m → list_any (is_given_out (Step m)) (gives_of store holdings) ≡ false
  none-later n [] m has later = refl
  none-later n (holding ∷ holdings) m has later =
      any-cons (is_given_out (Step m)) (give_of store holding) (gives_of store holdings)
      ∙ ap (λ b. b || list_any (is_given_out (Step m)) (gives_of store holdings)) (give-old n holding.mode m (origin_of store holding.mode holding.number) later (origin-old n holding.mode holding.number has))
      ∙ none-later n holdings m has later

  pub spawn-becomes : (n : ℕ) (holdings : List Holding) → HasOrigins n store → Becomes n (deed.Spawn (gives_of store holdings)) store (record store { cells = cells_with_zeros store.cells holdings })
  spawn-becomes n holdings has =
      let gives : List OriginGive = gives_of store holdings in
      record {
        queues = λ i now is. stayed now is refl refl;
        cells = λ i now is.
            let z = all-zeroed holdings store.cells (λ j. refl) has.cell_one i now is in
            kept z.was z.stood z.origin z.kind z.value;
        later = λ m after. record { items = refl; value = λ k v. ap (λ b. cond b (zero_of k) v) (none-later n holdings m has after) };
      }
