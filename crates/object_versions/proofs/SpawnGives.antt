-- The accesses of a child and what its spawn gives in the script: each access is one of the gives, and each give of an
-- object is one of the accesses.
use Rattle.std.proofs.Common.{◌≡◌, ℕ, zero, suc, ◌&&◌, ◌||◌, not, Bool, true, false, cond, Option, None, Some, List, [], ◌∷◌, map, filter, refl, sym, ap, ◌∙◌}
use Rattle.std.proofs.lemmas.Bool.{and_parts, and_from}
use Rattle.std.proofs.lemmas.Option.{slice_get-map}
use Rattle.std.specs.Prelude.{slice_get}
use Rattle.std.specs.List.{list_any}
use Rattle.std.specs.Option.{option_and_then, option_map}
use Rattle.swan_model.specs.declared.origin.Origin.{Origin}
use Rattle.swan_model.specs.declared.rights.Mode.{Mode}
use Rattle.swan_model.specs.declared.rights.Mode.TheVariants.{In, Out, InOut, Push, Pop, PushPop}
use Rattle.swan_model.specs.declared.script.OriginGive.{OriginGive}
use Rattle.swan_model.specs.Granted.{may_use}
use Rattle.swan_model.specs.Rights.{allows, is_queue_mode}
use Rattle.swan_model.specs.SerialTime.{Reading}
use Rattle.swan_model.specs.Told.{is_given_out, is_out, is_same}
use Rattle.swan_model.specs.Versions.{Placed, VersionState, placed_at}
use Rattle.swan_model.specs.VersionsFollow.{Access, is_object_give, object_give}
use Rattle.swan_model.proofs.Origins.{is_same-equal, is_same-self}
use Rattle.swan_model.proofs.Uses.{allows_own}

-- ---- filters

-- a give of an object that passes a test, by its place among those of objects
record IsPassing (test : OriginGive → Bool) (gives : List OriginGive) : Type 0 where
  pub index : ℕ
  pub give : OriginGive
  pub stands : slice_get (filter is_object_give gives) index ≡ Some give
  pub passes : test give ≡ true

passing : (test : OriginGive → Bool) → ((give : OriginGive) → test give ≡ true → is_object_give give ≡ true) → (gives : List OriginGive) → list_any test gives ≡ true → IsPassing test gives
passing test of_object [] any = absurd (cc)
passing test of_object (give ∷ gives) any = by (test give) refl any (passing test of_object gives) where
  later : (b : Bool) → IsPassing test gives → (i : ℕ) × (found : OriginGive) × (slice_get (cond b (give ∷ filter is_object_give gives) (filter is_object_give gives)) i ≡ Some found) × (test found ≡ true)
  later true rest = (suc rest.index, rest.give, rest.stands, rest.passes)
  later false rest = (rest.index, rest.give, rest.stands, rest.passes)

  by : (b : Bool) → test give ≡ b → (b || list_any test gives) ≡ true → (list_any test gives ≡ true → IsPassing test gives) → IsPassing test (give ∷ gives)
  by true is any rest = record {
    index = 0;
    give = give;
    stands = ap (λ b. slice_get (cond b (give ∷ filter is_object_give gives) (filter is_object_give gives)) 0) (of_object give is);
    passes = is;
  }
  by false is any rest =
      let one = later (is_object_give give) (rest any) in
      record { index = one.0; give = one.1; stands = one.2; passes = one.3 }

among_all : (test : OriginGive → Bool) (gives : List OriginGive) (i : ℕ) (give : OriginGive) → slice_get (filter is_object_give gives) i ≡ Some give → test give ≡ true → list_any test gives ≡ true
among_all test [] i give is passes = absurd (cc)
among_all test (first ∷ gives) i give is passes = by (is_object_give first) i is (λ j later. among_all test gives j give later passes) where
  head : first ≡ give → (test first || list_any test gives) ≡ true
  head same = ap (λ b. b || list_any test gives) (ap test same ∙ passes)

  tail : list_any test gives ≡ true → (b : Bool) → (b || list_any test gives) ≡ true
  tail any true = refl
  tail any false = any

  by : (b : Bool) (i : ℕ) → slice_get (cond b (first ∷ filter is_object_give gives) (filter is_object_give gives)) i ≡ Some give
      → ((j : ℕ) → slice_get (filter is_object_give gives) j ≡ Some give → list_any test gives ≡ true) → (test first || list_any test gives) ≡ true
  by true zero at rest = head (let e : first ≡ give = cc in e)
  by true (suc j) at rest = tail (rest j at) (test first)
  by false j at rest = tail (rest j at) (test first)

-- ---- from one to the other

-- an access is one of these
pub record IsAmong (access : Access) (accesses : List Access) : Type 0 where
  pub index : ℕ
  pub stands : slice_get accesses index ≡ Some access

-- an access that gives this
pub record IsAccessOf (r : Reading) (state : VersionState) (parent : ℕ) (accesses : List Access) (give : OriginGive) : Type 0 where
  pub access : Access
  pub among : IsAmong access accesses
  pub object : Placed
  pub stands : placed_at state parent access.place ≡ Some object
  pub made : slice_get r.objects object.object ≡ Some give.origin
  pub mode : access.mode ≡ give.mode

-- what is in an access that gives this
pub record IsGivenBy (r : Reading) (state : VersionState) (parent : ℕ) (access : Access) (give : OriginGive) : Type 0 where
  pub object : Placed
  pub stands : placed_at state parent access.place ≡ Some object
  pub made : slice_get r.objects object.object ≡ Some give.origin
  pub mode : access.mode ≡ give.mode

pub given_by : (r : Reading) (state : VersionState) (parent : ℕ) (access : Access) (give : OriginGive) → object_give r state parent access ≡ Some give → IsGivenBy r state parent access give
given_by r state parent access give is = by (placed_at state parent access.place) refl is where
  by_origin : (object : Placed) → placed_at state parent access.place ≡ Some object → (o : Option Origin) → slice_get r.objects object.object ≡ o
      → option_map (λ origin. record { origin = origin; mode = access.mode }) o ≡ Some give → IsGivenBy r state parent access give
  by_origin object stands None made e = absurd (cc)
  by_origin object stands (Some made_by) made e =
      let one : OriginGive = record { origin = made_by; mode = access.mode } in
      let same : one ≡ give = cc in
      record { object = object; stands = stands; made = made ∙ ap (λ (g : OriginGive). Some g.origin) same; mode = ap (λ (g : OriginGive). g.mode) same }

  by : (o : Option Placed) → placed_at state parent access.place ≡ o
      → option_map (λ origin. record { origin = origin; mode = access.mode }) (option_and_then (λ object. slice_get r.objects object.object) o) ≡ Some give
      → IsGivenBy r state parent access give
  by None stands e = absurd (cc)
  by (Some object) stands e = by_origin object stands (slice_get r.objects object.object) refl e

element_of : {A : Type 0} {B : Type 0} (f : A → Option B) (o : Option A) (b : B) → option_map f o ≡ Some (Some b) → (a : A) × (o ≡ Some a) × (f a ≡ Some b)
element_of f None b is = absurd (cc)
element_of f (Some a) b is = (a, refl, let e : f a ≡ Some b = cc in e)

module _ (r : Reading) (state : VersionState) (parent : ℕ) (accesses : List Access) (gives : List OriginGive)
    (same : map (object_give r state parent) accesses ≡ map Some (filter is_object_give gives)) where
  access_at : (i : ℕ) (give : OriginGive) → slice_get (filter is_object_give gives) i ≡ Some give → IsAccessOf r state parent accesses give
  access_at i give is =
      let mapped : option_map (object_give r state parent) (slice_get accesses i) ≡ Some (Some give) =
      sym (slice_get-map (object_give r state parent) accesses i) ∙ ap (λ l. slice_get l i) same ∙ slice_get-map Some (filter is_object_give gives) i ∙ ap (option_map Some) is in
      let one = element_of (object_give r state parent) (slice_get accesses i) give mapped in
      let by = given_by r state parent one.0 give one.2 in
      record {
        access = one.0;
        among = record { index = i; stands = one.1 };
        object = by.object;
        stands = by.stands;
        made = by.made;
        mode = by.mode;
      }

  give_at : (access : Access) → IsAmong access accesses → (object : Placed) (origin : Origin) → placed_at state parent access.place ≡ Some object
      → slice_get r.objects object.object ≡ Some origin → (test : OriginGive → Bool) → test (record { origin = origin; mode = access.mode }) ≡ true → list_any test gives ≡ true
  give_at access among object origin stands made test passes =
      let give : OriginGive = record { origin = origin; mode = access.mode } in
      let gives_it : object_give r state parent access ≡ Some give =
      ap (λ o. option_map (λ origin. record { origin = origin; mode = access.mode }) (option_and_then (λ (object : Placed). slice_get r.objects object.object) o)) stands
      ∙ ap (option_map (λ origin. record { origin = origin; mode = access.mode })) made in
      let mapped : option_map Some (slice_get (filter is_object_give gives) among.index) ≡ Some (Some give) =
      sym (slice_get-map Some (filter is_object_give gives) among.index) ∙ ap (λ l. slice_get l among.index) (sym same)
      ∙ slice_get-map (object_give r state parent) accesses among.index ∙ ap (option_map (object_give r state parent)) among.stands ∙ ap Some gives_it in
      let one = element_of Some (slice_get (filter is_object_give gives) among.index) give mapped in
      let is : one.0 ≡ give = let e : Some one.0 ≡ Some give = one.2 in cc in
      among_all test gives among.index give (one.1 ∙ ap Some is) passes

  -- a give by which one may write the object
  pub record IsWriting (origin : Origin) : Type 0 where
    pub give : OriginGive
    pub by : IsAccessOf r state parent accesses give
    pub may : allows give.mode Out ≡ true
    pub origin_is : give.origin ≡ origin

  of_object : (mode : Mode) → allows mode Out ≡ true → not (is_queue_mode mode) ≡ true
  of_object In may = refl
  of_object Out may = refl
  of_object InOut may = refl
  of_object Push may = absurd (cc)
  of_object Pop may = absurd (cc)
  of_object PushPop may = absurd (cc)

  pub writing : (origin : Origin) → may_use gives Out origin ≡ true → IsWriting origin
  writing origin may =
      let test : OriginGive → Bool = λ has. allows has.mode Out && is_same has.origin origin in
      let one = passing test (λ give passes. of_object give.mode (and_parts (allows give.mode Out) (is_same give.origin origin) passes).0) gives may in
      let both = and_parts (allows one.give.mode Out) (is_same one.give.origin origin) one.passes in
      record { give = one.give; by = access_at one.index one.give one.stands; may = both.0; origin_is = is_same-equal one.give.origin origin both.1 }

  -- a give of the object by Out
  pub record IsOut (origin : Origin) : Type 0 where
    pub give : OriginGive
    pub by : IsAccessOf r state parent accesses give
    pub out : is_out give.mode ≡ true
    pub origin_is : give.origin ≡ origin

  out_of_object : (mode : Mode) → is_out mode ≡ true → not (is_queue_mode mode) ≡ true
  out_of_object In out = refl
  out_of_object Out out = refl
  out_of_object InOut out = refl
  out_of_object Push out = absurd (cc)
  out_of_object Pop out = absurd (cc)
  out_of_object PushPop out = absurd (cc)

  pub giving_out : (origin : Origin) → list_any (is_given_out origin) gives ≡ true → IsOut origin
  giving_out origin any =
      let one = passing (is_given_out origin) (λ give passes. out_of_object give.mode (and_parts (is_out give.mode) (is_same give.origin origin) passes).0) gives any in
      let both = and_parts (is_out one.give.mode) (is_same one.give.origin origin) one.passes in
      record { give = one.give; by = access_at one.index one.give one.stands; out = both.0; origin_is = is_same-equal one.give.origin origin both.1 }

  -- what the child may use by what an access gave, and whether it got the object by Out
  pub may_by : (access : Access) → IsAmong access accesses → (object : Placed) (origin : Origin) → placed_at state parent access.place ≡ Some object
      → slice_get r.objects object.object ≡ Some origin → may_use gives access.mode origin ≡ true
  may_by access among object origin stands made =
      give_at access among object origin stands made (λ has. allows has.mode access.mode && is_same has.origin origin)
      (and_from (allows access.mode access.mode) (is_same origin origin) (allows_own access.mode) (is_same-self origin))

  pub out_by : (access : Access) → IsAmong access accesses → (object : Placed) (origin : Origin) → placed_at state parent access.place ≡ Some object
      → slice_get r.objects object.object ≡ Some origin → is_out access.mode ≡ true → list_any (is_given_out origin) gives ≡ true
  out_by access among object origin stands made out =
      give_at access among object origin stands made (is_given_out origin)
      (and_from (is_out access.mode) (is_same origin origin) out (is_same-self origin))
