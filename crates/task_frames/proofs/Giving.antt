-- A child is given its objects, one after the other.
use Rattle.std.proofs.Common.{◌≡◌, ◌≢◌, inl, inr, ℕ, zero, suc, ◌+◌, ◌<◌, Bool, true, false, cond, List, [], ◌∷◌, ◌++◌, Option, None, Some, length, map, take, drop, refl, sym, ap, subst, ◌∙◌, arith, append-nil, take_all, length-take-le}
use Rattle.std.proofs.lemmas.Bool.{cases_eq, eq-eqb}
use Rattle.std.proofs.lemmas.List.{drop_all}
use Rattle.std.proofs.lemmas.Option.{same_Some, slice_get_within}
use Rattle.std.specs.Option.{option_and_then, option_map}
use Rattle.std.specs.Prelude.{◌&&◌, filter, not, slice_get}
use Rattle.swan_model.specs.declared.origin.Origin.{Origin}
use Rattle.swan_model.specs.declared.rights.Give.{Give}
use Rattle.swan_model.specs.declared.rights.Mode.{Mode}
use Rattle.swan_model.specs.declared.rights.Mode.TheVariants.{In}
use Rattle.swan_model.specs.declared.script.Deed.TheVariants.{Spawn}
use Rattle.swan_model.specs.declared.script.OriginGive.{OriginGive}
use Rattle.swan_model.specs.declared.script.Script.{Script}
use Rattle.swan_model.specs.Lawful.{IsLawful}
use Rattle.swan_model.specs.Readings.{next_deed, reading_after_spawn}
use Rattle.swan_model.specs.Rights.{allows, clash, is_aliased, is_in, is_queue_mode}
use Rattle.swan_model.specs.SerialState.{Holding}
use Rattle.swan_model.specs.SerialStep.{given, number_at}
use Rattle.swan_model.specs.SerialTime.{Progress, Reading, frame_of}
use Rattle.swan_model.specs.Versions.{Holds, MayGet, Placed, VersionState, after_access, given_from, left_with, placed_at}
use Rattle.swan_model.specs.VersionsFollow.{Access, IsGiving, IsNewFrame, NextSpawnGivesObjects, ObjectsFollow, is_object_give, object_give}
use Rattle.object_versions.proofs.GivingBegins.{giving_begins}
use Rattle.object_versions.proofs.GivingCalls.{access_giving, giving_ends}
use Rattle.object_versions.proofs.NoMoreWaits.{access_waits}
use Rattle.object_versions.proofs.PlacesStay.{access_keeps, access_leaves}
use Rattle.swan_model.proofs.Elements.{option_cases, taken_stands}
use Rattle.task_frames.specs.Cores.{AreObjects, HasObjects, IsPlacedSo}
use Rattle.object_versions.specs.Following.{WaitsForNone}
use Rattle.task_frames.specs.Giving.{AreMade, access_of_give, accesses_from, with_access}
use Rattle.task_frames.specs.Records.{LiveFrame, NumberedFrames, live_at}
use Rattle.task_frames.proofs.GoneOn.{with-child}
use Rattle.task_frames.proofs.Names.{AreGivenSo, IsHeldSo, first-given, held-origin}
use Rattle.task_frames.proofs.QueueUse.{IsOfGive, given-at, gives-differ}
use Rattle.swan_model.proofs.Lists.{drop_next, take_next}
use Rattle.swan_model.proofs.Uses.{in_is, same_kind}

-- ---- the accesses of a child's gives

accesses-append : (n : ℕ) (xs ys : List Give) → accesses_from n (xs ++ ys) ≡ accesses_from n xs ++ accesses_from (n + length xs) ys
accesses-append n [] ys = let none : n ≡ n + 0 = omega arith in ap (λ k. accesses_from k ys) none
accesses-append n (x ∷ xs) ys =
    let more : n + 1 + length xs ≡ n + suc (length xs) = omega arith in
    ap (with_access (is_queue_mode x.mode) (access_of_give n x)) (accesses-append (n + 1) xs ys ∙ ap (λ k. accesses_from (n + 1) xs ++ accesses_from k ys) more)
    ∙ by (is_queue_mode x.mode)
  where
    by : (b : Bool) → with_access b (access_of_give n x) (accesses_from (n + 1) xs ++ accesses_from (n + suc (length xs)) ys) ≡ with_access b (access_of_give n x) (accesses_from (n + 1) xs) ++ accesses_from (n + suc (length xs)) ys
    by true = refl
    by false = refl

-- an access is for a give of an object
record IsOfObject (n : ℕ) (gives : List Give) (access : Access) : Type 0 where
  pub i : ℕ
  pub give : Give
  pub stands : slice_get gives i ≡ Some give
  pub kind : is_queue_mode give.mode ≡ false
  pub is : access ≡ access_of_give (n + i) give

of-later : (n : ℕ) (x : Give) (gives : List Give) (access : Access) → IsOfObject (n + 1) gives access → IsOfObject n (x ∷ gives) access
of-later n x gives access it =
    let more : n + 1 + it.i ≡ n + suc it.i = omega arith in
    record { i = suc it.i; give = it.give; stands = it.stands; kind = it.kind; is = it.is ∙ ap (λ k. access_of_give k it.give) more }

access-of_give : (n : ℕ) (gives : List Give) (j : ℕ) (access : Access) → slice_get (accesses_from n gives) j ≡ Some access → IsOfObject n gives access
access-of_give n [] j access at = absurd (cc)
access-of_give n (x ∷ gives) j access at = by (is_queue_mode x.mode) refl j at (λ k there. access-of_give (n + 1) gives k access there) where
  by : (b : Bool) → is_queue_mode x.mode ≡ b → (j : ℕ) → slice_get (with_access b (access_of_give n x) (accesses_from (n + 1) gives)) j ≡ Some access
      → ((k : ℕ) → slice_get (accesses_from (n + 1) gives) k ≡ Some access → IsOfObject (n + 1) gives access) → IsOfObject n (x ∷ gives) access
  by true kind j at rest = of-later n x gives access (rest j at)
  by false kind zero at rest =
      let none : n ≡ n + 0 = omega arith in
      record { i = 0; give = x; stands = refl; kind = kind; is = sym (same_Some (access_of_give n x) access at) ∙ ap (λ k. access_of_give k x) none }
  by false kind (suc j) at rest = of-later n x gives access (rest j at)

give-of_access : (n : ℕ) (gives : List Give) (i : ℕ) (give : Give) → slice_get gives i ≡ Some give → is_queue_mode give.mode ≡ false → (j : ℕ) × (slice_get (accesses_from n gives) j ≡ Some (access_of_give (n + i) give))
give-of_access n [] i give at kind = absurd (cc)
give-of_access n (x ∷ gives) zero give at kind =
    let same : x ≡ give = same_Some x give at in
    let none : n ≡ n + 0 = omega arith in
    let here : slice_get (with_access false (access_of_give n x) (accesses_from (n + 1) gives)) 0 ≡ Some (access_of_give (n + 0) give) = ap Some (ap (access_of_give n) same ∙ ap (λ k. access_of_give k give) none) in
    (0, ap (λ b. slice_get (with_access b (access_of_give n x) (accesses_from (n + 1) gives)) 0) (ap (λ (g : Give). is_queue_mode g.mode) same ∙ kind) ∙ here)
give-of_access n (x ∷ gives) (suc i) give at kind = by (is_queue_mode x.mode) refl (give-of_access (n + 1) gives i give at kind) where
  more : n + 1 + i ≡ n + suc i
  more = omega arith

  by : (b : Bool) → is_queue_mode x.mode ≡ b → (j : ℕ) × (slice_get (accesses_from (n + 1) gives) j ≡ Some (access_of_give (n + 1 + i) give))
      → (j : ℕ) × (slice_get (with_access (is_queue_mode x.mode) (access_of_give n x) (accesses_from (n + 1) gives)) j ≡ Some (access_of_give (n + suc i) give))
  by true queue rest = (rest.0, ap (λ b. slice_get (with_access b (access_of_give n x) (accesses_from (n + 1) gives)) rest.0) queue ∙ rest.1 ∙ ap (λ k. Some (access_of_give k give)) more)
  by false queue rest = (suc rest.0, ap (λ b. slice_get (with_access b (access_of_give n x) (accesses_from (n + 1) gives)) (suc rest.0)) queue ∙ rest.1 ∙ ap (λ k. Some (access_of_give k give)) more)

-- ---- so many of them are made

-- a child that has nothing and isn't in the reading may be given its objects, where the parent's next entry gives them
pub giving-starts : (s : Script) (r : Reading) (before : VersionState) (parent : Progress) (child : ℕ) (gives : List Give) → ObjectsFollow s r before → IsNewFrame r before child
    → NextSpawnGivesObjects s r before parent (accesses_from 0 gives) → AreMade s r before before parent child gives 0
giving-starts s r before parent child gives follow new spawn = record {
  giving = giving_begins s r before parent child (accesses_from 0 gives) follow new spawn;
  on = λ place object at. (object, at, refl, refl);
  back = λ place object at. (object, at);
  others = λ m place apart old. refl;
  count = refl;
  waits = λ m old none. none;
}

-- the accesses before the next give, and after it
made-next : (gives : List Give) (done : ℕ) (give : Give) → slice_get gives done ≡ Some give
    → accesses_from 0 (take (done + 1) gives) ≡ accesses_from 0 (take done gives) ++ with_access (is_queue_mode give.mode) (access_of_give done give) []
made-next gives done give at =
    let within = slice_get_within gives done give at in
    let place : 0 + length (take done gives) ≡ done = omega (arith, length-take-le done gives (omega (arith, within))) in
    ap (accesses_from 0) (take_next gives done give at) ∙ accesses-append 0 (take done gives) (give ∷ [])
    ∙ ap (λ k. accesses_from 0 (take done gives) ++ accesses_from k (give ∷ [])) place

left-next : (gives : List Give) (done : ℕ) (give : Give) → slice_get gives done ≡ Some give
    → accesses_from done (drop done gives) ≡ with_access (is_queue_mode give.mode) (access_of_give done give) (accesses_from (done + 1) (drop (done + 1) gives))
left-next gives done give at = ap (accesses_from done) (drop_next gives done give at)

-- a give of a queue is no access
pub giving-queue : (s : Script) (r : Reading) (before now : VersionState) (parent : Progress) (child : ℕ) (gives : List Give) (done : ℕ) (give : Give) → slice_get gives done ≡ Some give
    → is_queue_mode give.mode ≡ true → AreMade s r before now parent child gives done → AreMade s r before now parent child gives (done + 1)
giving-queue s r before now parent child gives done give at queue are = record {
  giving =
      let made : accesses_from 0 (take done gives) ≡ accesses_from 0 (take (done + 1) gives) =
      sym (made-next gives done give at ∙ ap (λ b. accesses_from 0 (take done gives) ++ with_access b (access_of_give done give) []) queue ∙ append-nil (accesses_from 0 (take done gives))) in
      let left : accesses_from done (drop done gives) ≡ accesses_from (done + 1) (drop (done + 1) gives) =
      left-next gives done give at ∙ ap (λ b. with_access b (access_of_give done give) (accesses_from (done + 1) (drop (done + 1) gives))) queue in
      subst (λ xs. IsGiving s r now parent child xs (accesses_from (done + 1) (drop (done + 1) gives))) made
      (subst (λ ys. IsGiving s r now parent child (accesses_from 0 (take done gives)) ys) left are.giving);
  on = are.on;
  back = are.back;
  others = are.others;
  count = are.count;
  waits = are.waits;
}

-- a child holds something at the place of each of its gives
pub held-each : (held : List Holding) (gives : List Give) (hs : List Holding) → given held gives ≡ Some hs → (i : ℕ) (give : Give) → slice_get gives i ≡ Some give → (h : Holding) × (slice_get hs i ≡ Some h)
held-each held [] hs is i give at = absurd (cc)
held-each held (x ∷ gives) hs is zero give at =
    let first = first-given held x gives hs (number_at held x.place x.mode) (given held gives) refl refl is in
    let own : Holding = record { mode = x.mode; number = first.number } in
    (own, ap (λ xs. slice_get xs 0) first.list_is)
held-each held (x ∷ gives) hs is (suc i) give at =
    let first = first-given held x gives hs (number_at held x.place x.mode) (given held gives) refl refl is in
    let rest = held-each held gives first.rest first.given_rest i give at in
    (rest.0, ap (λ xs. slice_get xs (suc i)) first.list_is ∙ rest.1)

in-alone : (mode : Mode) → allows In mode ≡ true → mode ≡ In
in-alone In is = refl
in-alone _ is = absurd (cc)

-- two gives of one place that don't clash are both only to read
both-in : (a b : Give) → a.place ≡ b.place → clash a b ≡ false → (a.mode ≡ In) × (b.mode ≡ In)
both-in a b same none =
    let here : not (is_in a.mode && is_in b.mode) ≡ false = sym (ap (λ p. p && not (is_in a.mode && is_in b.mode)) (eq-eqb a.place b.place same)) ∙ none in
    by (is_in a.mode) (is_in b.mode) refl refl here
  where
    by : (p q : Bool) → is_in a.mode ≡ p → is_in b.mode ≡ q → not (p && q) ≡ false → (a.mode ≡ In) × (b.mode ≡ In)
    by true true one two is = (in_is a.mode one, in_is b.mode two)
    by true false one two is = absurd (cc)
    by false q one two is = absurd (cc)

access-made : (state : VersionState) (parent place child child_place : ℕ) (mode : Mode) → (after_access state parent place child child_place mode).made ≡ state.made
access-made state parent place child child_place mode = by (placed_at state parent place) where
  by : (found : Option Placed) → (given_from state parent place child child_place mode found).made ≡ state.made
  by None = refl
  by (Some object) = refl

module _ (s : Script) (lawful : IsLawful s) (r : Reading) (before now : VersionState) (parent : Progress) (known : frame_of r parent.number ≡ Some parent) (held : List Holding) (has : HasObjects before parent.number held)
    (child : ℕ) (differ : parent.number ≢ child) (gives : List Give) (hs : List Holding) (given_is : given held gives ≡ Some hs) (alone : is_aliased gives ≡ false) (done : ℕ)
    (are : AreMade s r before now parent child gives done) where
  -- the parent's objects, as they are now
  now-has : HasObjects now parent.number held
  now-has = record {
    each = λ place holding at kind.
        let was = has.each place holding at kind in
        let it = are.on place was.object was.stands in
        record { object = it.0; stands = it.1; same = it.2 ∙ was.same; mode = it.3 ∙ was.mode };
    all = λ place object at. let was = are.back place object at in has.all place was.0 was.1;
  }

  module _ (give : Give) (at : slice_get gives done ≡ Some give) (object_mode : is_queue_mode give.mode ≡ false) where
    -- what the child holds there, and its give
    next-held : (h : Holding) × (slice_get hs done ≡ Some h)
    next-held = held-each held gives hs given_is done give at

    of-give : IsOfGive held gives done next-held.0
    of-give = given-at held gives hs given_is done next-held.0 next-held.1

    same-give : of-give.give ≡ give
    same-give = same_Some of-give.give give (sym of-give.stands ∙ at)

    -- the parent has the object there, and may give it so
    above : IsPlacedSo now parent.number give.place of-give.used.holding
    above =
        now-has.each give.place of-give.used.holding (ap (slice_get held) (ap (λ (g : Give). g.place) (sym same-give)) ∙ of-give.used.stands)
        (same_kind of-give.used.holding.mode of-give.give.mode of-give.used.allowed ∙ ap (λ (g : Give). is_queue_mode g.mode) same-give ∙ object_mode)

    pub may-access : Holds now parent.number give.place give.mode
    may-access = record {
      object = above.object;
      stands = above.stands;
      may = ap (λ m. allows m give.mode) above.mode ∙ ap (allows of-give.used.holding.mode) (ap (λ (g : Give). g.mode) (sym same-give)) ∙ of-give.used.allowed;
    }

    -- an access that was made is for an earlier give
    earlier : (access : Access) (i : ℕ) → slice_get (accesses_from 0 (take done gives)) i ≡ Some access → (k : ℕ) × (g : Give) × (k < done) × (slice_get gives k ≡ Some g) × (access ≡ access_of_give k g)
    earlier access i there =
        let it = access-of_give 0 (take done gives) i access there in
        let stands = taken_stands done gives it.i it.give it.stands in
        let none : 0 + it.i ≡ it.i = omega arith in
        (it.i, it.give, stands.0, stands.1, it.is ∙ ap (λ k. access_of_give k it.give) none)

    pub free-access : placed_at now child done ≡ None
    free-access = elim (option_cases (placed_at now child done)) [
      | inl none ↦ none
      | inr found ↦
          let made = are.giving.all done found.0 found.1 in
          let it = earlier made.1 made.0 made.2 in
          let place : it.0 ≡ done = ap (λ (a : Access). a.child_place) (sym it.4) ∙ made.3 in
          absurd (omega (arith, it.2, place))
    ]

    pub alone-access : (object : Placed) → placed_at now parent.number give.place ≡ Some object → MayGet now child object.object give.mode
    alone-access object there = record { alone = only } where
      only : (place : ℕ) (got : Placed) → placed_at now child place ≡ Some got → got.object ≡ object.object → (got.mode ≡ In) × (give.mode ≡ In)
      only place got got_at same =
          let made = are.giving.all place got got_at in
          let it = earlier made.1 made.0 made.2 in
          let each = are.giving.each made.0 made.1 made.2 in
          let g = it.1 in
          let got_is : each.object ≡ got = same_Some each.object got (sym each.got ∙ ap (placed_at now child) made.3 ∙ got_at) in
          let mode : got.mode ≡ g.mode = ap (λ (o : Placed). o.mode) (sym got_is) ∙ each.mode ∙ ap (λ (a : Access). a.mode) it.4 in
          let place_is : made.1.place ≡ g.place = ap (λ (a : Access). a.place) it.4 in
          elim (cases_eq g.place give.place) [
            | inl one ↦ let both = both-in g give one (gives-differ gives alone it.0 done g give it.2 it.3 at) in (mode ∙ both.0, both.1)
            | inr two ↦
                let stands : placed_at now parent.number g.place ≡ Some each.above = ap (placed_at now parent.number) (sym place_is) ∙ each.stands in
                let objects : each.above.object ≡ object.object = sym each.same ∙ ap (λ (o : Placed). o.object) got_is ∙ same in
                let reads = are.giving.follows.alone parent.number g.place give.place each.above object stands there two objects in
                let first : g.mode ≡ In = in-alone g.mode (ap (allows In) (ap (λ (a : Access). a.mode) (sym it.4)) ∙ ap (λ m. allows m made.1.mode) (sym reads.0) ∙ each.held) in
                let own : may-access.object ≡ object = same_Some may-access.object object (sym may-access.stands ∙ there) in
                let second : give.mode ≡ In = in-alone give.mode (ap (λ m. allows m give.mode) (sym (ap (λ (o : Placed). o.mode) own ∙ reads.1)) ∙ may-access.may) in
                (mode ∙ first, second)
          ]

    -- the access, and what stands then
    pub giving-object : (then : VersionState) → then ≡ after_access now parent.number give.place child done give.mode → AreMade s r before then parent child gives (done + 1)
    giving-object then is = record {
      giving =
          let left : accesses_from done (drop done gives) ≡ access_of_give done give ∷ accesses_from (done + 1) (drop (done + 1) gives) =
          left-next gives done give at ∙ ap (λ b. with_access b (access_of_give done give) (accesses_from (done + 1) (drop (done + 1) gives))) object_mode in
          let made : accesses_from 0 (take done gives) ++ access_of_give done give ∷ [] ≡ accesses_from 0 (take (done + 1) gives) =
          sym (made-next gives done give at ∙ ap (λ b. accesses_from 0 (take done gives) ++ with_access b (access_of_give done give) []) object_mode) in
          subst (λ xs. IsGiving s r then parent child xs (accesses_from (done + 1) (drop (done + 1) gives))) made
          (access_giving now then parent.number give.place child done give.mode may-access free-access alone-access is s r parent (accesses_from 0 (take done gives)) (accesses_from (done + 1) (drop (done + 1) gives)) lawful known
          (subst (λ ys. IsGiving s r now parent child (accesses_from 0 (take done gives)) ys) left are.giving));
      on = λ place object there.
          let it = are.on place object there in
          let next = goes place it.0 it.1 in
          (next.0, ap (λ v. placed_at v parent.number place) is ∙ next.1, next.2 ∙ it.2, next.3 ∙ it.3);
      back = λ place object there.
          let was = came place object (ap (λ v. placed_at v parent.number place) (sym is) ∙ there) in
          are.back place was.0 was.1;
      others = λ m place apart old.
          ap (λ v. placed_at v m place) is ∙ access_keeps now parent.number give.place child done give.mode m place (inl apart) (inl old) ∙ are.others m place apart old;
      count = ap (λ (v : VersionState). v.made) is ∙ access-made now parent.number give.place child done give.mode ∙ are.count;
      waits = λ m old none. subst (λ v. WaitsForNone v m) (sym is) (access_waits now parent.number give.place child done give.mode m old (are.waits m old none));
    } where
      accessed : VersionState
      accessed = after_access now parent.number give.place child done give.mode

      goes : (place : ℕ) (object : Placed) → placed_at now parent.number place ≡ Some object
          → (same : Placed) × (placed_at accessed parent.number place ≡ Some same) × (same.object ≡ object.object) × (same.mode ≡ object.mode)
      goes place object there = elim (cases_eq place give.place) [
        | inr aside ↦ (object, access_keeps now parent.number give.place child done give.mode parent.number place (inr aside) (inl differ) ∙ there, refl, refl)
        | inl here ↦
            let stands : placed_at now parent.number give.place ≡ Some object = ap (placed_at now parent.number) (sym here) ∙ there in (
              record object { present = left_with object child give.mode },
              ap (placed_at accessed parent.number) here ∙ access_leaves now parent.number give.place child done give.mode object differ stands,
              refl,
              refl,
            )
      ]

      came : (place : ℕ) (object : Placed) → placed_at accessed parent.number place ≡ Some object → (was : Placed) × (placed_at now parent.number place ≡ Some was)
      came place object there = elim (cases_eq place give.place) [
        | inr aside ↦ (object, sym (access_keeps now parent.number give.place child done give.mode parent.number place (inr aside) (inl differ)) ∙ there)
        | inl here ↦ (above.object, ap (placed_at now parent.number) here ∙ above.stands)
      ]

-- ---- all of them are made

-- the versions follow the reading with the child
pub giving-over : (s : Script) (r : Reading) (before now : VersionState) (parent : Progress) (child : ℕ) (gives : List Give) → IsLawful s → frame_of r parent.number ≡ Some parent
    → AreMade s r before now parent child gives (length gives) → ObjectsFollow s (reading_after_spawn s r parent child) now
giving-over s r before now parent child gives lawful known are =
    let none : accesses_from (length gives) (drop (length gives) gives) ≡ [] = ap (accesses_from (length gives)) (drop_all (length gives) gives (omega arith)) in
    giving_ends s r now parent child (accesses_from 0 (take (length gives) gives)) lawful known
    (subst (λ ys. IsGiving s r now parent child (accesses_from 0 (take (length gives) gives)) ys) none are.giving)

-- ---- what the child has

module _ (s : Script) (lawful : IsLawful s) (r : Reading) (before now : VersionState) (parent : Progress) (known : frame_of r parent.number ≡ Some parent) (held : List Holding) (has : HasObjects before parent.number held)
    (child : ℕ) (differ : parent.number ≢ child) (gives : List Give) (hs : List Holding) (given_is : given held gives ≡ Some hs) (are : AreMade s r before now parent child gives (length gives)) where
  all-made : accesses_from 0 (take (length gives) gives) ≡ accesses_from 0 gives
  all-made = ap (accesses_from 0) (take_all (length gives) gives (omega arith))

  child-each : (place : ℕ) (holding : Holding) → slice_get hs place ≡ Some holding → is_queue_mode holding.mode ≡ false → IsPlacedSo now child place holding
  child-each place holding at kind =
      let of = given-at held gives hs given_is place holding at in
      let mode : is_queue_mode of.give.mode ≡ false = ap is_queue_mode (sym of.mode) ∙ kind in
      let access = give-of_access 0 gives place of.give of.stands mode in
      let none : 0 + place ≡ place = omega arith in
      let here : slice_get (accesses_from 0 (take (length gives) gives)) access.0 ≡ Some (access_of_give place of.give) = ap (λ xs. slice_get xs access.0) all-made ∙ access.1 ∙ ap (λ k. Some (access_of_give k of.give)) none in
      let made = are.giving.each access.0 (access_of_give place of.give) here in
      let was = has.each of.give.place of.used.holding of.used.stands (same_kind of.used.holding.mode of.give.mode of.used.allowed ∙ mode) in
      let then = are.on of.give.place was.object was.stands in
      let above : then.0 ≡ made.above = same_Some then.0 made.above (sym then.1 ∙ made.stands) in
      record {
        object = made.object;
        stands = made.got;
        same = made.same ∙ ap (λ (o : Placed). o.object) (sym above) ∙ then.2 ∙ was.same ∙ of.used.same;
        mode = made.mode ∙ sym of.mode;
      }

  child-all : (place : ℕ) (object : Placed) → placed_at now child place ≡ Some object → (holding : Holding) × (slice_get hs place ≡ Some holding) × (is_queue_mode holding.mode ≡ false)
  child-all place object at =
      let made = are.giving.all place object at in
      let it = access-of_give 0 gives made.0 made.1 (ap (λ xs. slice_get xs made.0) (sym all-made) ∙ made.2) in
      let none : 0 + it.i ≡ it.i = omega arith in
      let here : it.i ≡ place = sym none ∙ ap (λ (a : Access). a.child_place) (sym it.is) ∙ made.3 in
      let holds = held-each held gives hs given_is it.i it.give it.stands in
      let of = given-at held gives hs given_is it.i holds.0 holds.1 in
      let same : of.give ≡ it.give = same_Some of.give it.give (sym of.stands ∙ it.stands) in
      (holds.0, ap (slice_get hs) (sym here) ∙ holds.1, ap is_queue_mode of.mode ∙ ap (λ (g : Give). is_queue_mode g.mode) same ∙ it.kind)

  child-has : HasObjects now child hs
  child-has = record { each = child-each; all = child-all }

  parent-has : HasObjects now parent.number held
  parent-has = record {
    each = λ place holding at kind.
        let was = has.each place holding at kind in
        let it = are.on place was.object was.stands in
        record { object = it.0; stands = it.1; same = it.2 ∙ was.same; mode = it.3 ∙ was.mode };
    all = λ place object at. let was = are.back place object at in has.all place was.0 was.1;
  }

-- The core keeps its objects through a spawn.
pub spawned-objects : (s : Script) → IsLawful s → (r : Reading) (before now : VersionState) (live then_live : NumberedFrames) (objects : ℕ) → AreObjects s r before live objects
    → (n : ℕ) (path : List ℕ) (k : ℕ) → frame_of r n ≡ Some (record { number = n; path = path; done = k }) → (f c : LiveFrame) → live_at live n ≡ Some f
    → (child : ℕ) → n ≢ child → child ≢ 0 → (gives : List Give) → given f.holdings gives ≡ Some c.holdings
    → AreMade s r before now (record { number = n; path = path; done = k }) child gives (length gives) → (new : Progress)
    → reading_after_spawn s r (record { number = n; path = path; done = k }) child ≡ with-child r n new → WaitsForNone before n
    → live_at then_live n ≡ Some (record f { done = k + 1 }) → live_at then_live child ≡ Some c → c.done ≡ 0 → ((m : ℕ) → m ≢ n → m ≢ child → live_at then_live m ≡ live_at live m)
    → AreObjects s (with-child r n new) now then_live objects
spawned-objects s lawful r before now live then_live objects have n path k known f c there child differ root gives given_is are new reads none parent_live child_live fresh others_live = record {
  follow = subst (λ q. ObjectsFollow s q now) reads (giving-over s r before now p child gives lawful known are);
  known = have.known;
  count = are.count ∙ have.count;
  each = each;
  begun = begun;
  gone = λ m place object absent some at. elim (cases_eq m n) [
    | inl own ↦ let both : None ≡ Some (record f { done = k + 1 }) = sym absent ∙ ap (live_at then_live) own ∙ parent_live in absurd (cc)
    | inr other ↦ elim (cases_eq m child) [
      | inl new_one ↦ let both : None ≡ Some c = sym absent ∙ ap (live_at then_live) new_one ∙ child_live in absurd (cc)
      | inr old ↦ have.gone m place object (sym (others_live m other old) ∙ absent) some (sym (are.others m place other old) ∙ at)
    ]
  ];
  roots = λ i less.
      let was = have.roots i less in
      let on : (same : Placed) × (placed_at now 0 (length s.queues + i) ≡ Some same) × (same.object ≡ was.object.object) = elim (cases_eq 0 n) [
        | inl own ↦
            let it = are.on (length s.queues + i) was.object (ap (λ j. placed_at before j (length s.queues + i)) (sym own) ∙ was.stands) in
            (it.0, ap (λ j. placed_at now j (length s.queues + i)) own ∙ it.1, it.2)
        | inr other ↦ (was.object, are.others 0 (length s.queues + i) other (λ same. root (sym same)) ∙ was.stands, refl)
      ] in
      record { named = was.named; object = on.0; stands = on.1; same = on.2 ∙ was.same };
  over = λ absent.
      let other : 0 ≢ n = λ own. let both : None ≡ Some (record f { done = k + 1 }) = sym absent ∙ ap (live_at then_live) own ∙ parent_live in absurd (cc) in
      let old : 0 ≢ child = λ same. root (sym same) in
      let was = have.over (sym (others_live 0 other old) ∙ absent) in
      record { values = λ place object at. was.values place object (sym (are.others 0 place other old) ∙ at) };
} where
  p : Progress
  p = record { number = n; path = path; done = k }

  each : (m : ℕ) (frame : LiveFrame) → live_at then_live m ≡ Some frame → HasObjects now m frame.holdings
  each m frame at = elim (cases_eq m n) [
    | inl own ↦
        let it : record f { done = k + 1 } ≡ frame = same_Some (record f { done = k + 1 }) frame (sym parent_live ∙ ap (live_at then_live) (sym own) ∙ at) in
        subst (λ (x : LiveFrame). HasObjects now m x.holdings) it
        (subst (λ j. HasObjects now j f.holdings) (sym own) (parent-has s lawful r before now p known f.holdings (have.each n f there) child differ gives c.holdings given_is are))
    | inr other ↦ elim (cases_eq m child) [
      | inl new_one ↦
          let it : c ≡ frame = same_Some c frame (sym child_live ∙ ap (live_at then_live) (sym new_one) ∙ at) in
          subst (λ (x : LiveFrame). HasObjects now m x.holdings) it
          (subst (λ j. HasObjects now j c.holdings) (sym new_one) (child-has s lawful r before now p known f.holdings (have.each n f there) child differ gives c.holdings given_is are))
      | inr old ↦
          let was = have.each m frame (sym (others_live m other old) ∙ at) in
          record {
            each = λ place holding at_place kind.
                let it = was.each place holding at_place kind in
                record { object = it.object; stands = are.others m place other old ∙ it.stands; same = it.same; mode = it.mode };
            all = λ place object at_place. was.all place object (sym (are.others m place other old) ∙ at_place);
          }
    ]
  ]

  begun : (m : ℕ) (frame : LiveFrame) → live_at then_live m ≡ Some frame → 0 < frame.done → WaitsForNone now m
  begun m frame at some = elim (cases_eq m child) [
    | inl new_one ↦
        let it : c ≡ frame = same_Some c frame (sym child_live ∙ ap (live_at then_live) (sym new_one) ∙ at) in
        let zero_done : frame.done ≡ 0 = ap (λ (x : LiveFrame). x.done) (sym it) ∙ fresh in
        absurd (omega (arith, some, zero_done))
    | inr old ↦ elim (cases_eq m n) [
      | inl own ↦ are.waits m old (subst (WaitsForNone before) (sym own) none)
      | inr other ↦ are.waits m old (have.begun m frame (sym (others_live m other old) ∙ at) some)
    ]
  ]

-- ---- the accesses are what the script gives

module _ (s : Script) (r : Reading) (before : VersionState) (parent : Progress) (held : List Holding) (has : HasObjects before parent.number held) where
  one-object : (i : ℕ) (give : Give) (name : OriginGive) → (origin : Origin) × IsHeldSo r held give.place give.mode origin × (Some name ≡ Some (record { origin = origin; mode = give.mode })) → is_queue_mode give.mode ≡ false
      → object_give r before parent.number (access_of_give i give) ≡ Some name
  one-object i give name it kind =
      let own = it.1 in
      let placed = has.each give.place own.holding own.stands (same_kind own.holding.mode give.mode own.may ∙ kind) in
      let known : slice_get r.objects own.holding.number ≡ Some it.0 =
      sym (ap (λ b. cond b (slice_get r.queues own.holding.number) (slice_get r.objects own.holding.number)) kind) ∙ held-origin r held give.place give.mode it.0 own in
      let found : option_and_then (λ (object : Placed). slice_get r.objects object.object) (placed_at before parent.number give.place) ≡ Some it.0 =
      ap (option_and_then (λ (object : Placed). slice_get r.objects object.object)) placed.stands ∙ ap (slice_get r.objects) placed.same ∙ known in
      ap (option_map (λ origin. let g : OriginGive = record { origin = origin; mode = give.mode } in g)) found ∙ sym it.2

  pub objects-named : (n : ℕ) (gives : List Give) (all : List OriginGive) → length all ≡ length gives → AreGivenSo r held gives all
      → map (object_give r before parent.number) (accesses_from n gives) ≡ map Some (filter is_object_give all)
  objects-named n [] [] many each = refl
  objects-named n [] (o ∷ all) many each = absurd (omega (arith, many))
  objects-named n (x ∷ gives) [] many each = absurd (omega (arith, many))
  objects-named n (x ∷ gives) (o ∷ all) many each =
      let first = each 0 x refl in
      let mode : x.mode ≡ o.mode = ap (λ (g : OriginGive). g.mode) (sym (same_Some o _ first.2)) in
      by (is_queue_mode x.mode) refl (ap is_queue_mode (sym mode)) first (objects-named (n + 1) gives all (omega (arith, many)) (λ i give at. each (suc i) give at))
    where
      by : (b : Bool) → is_queue_mode x.mode ≡ b → is_queue_mode o.mode ≡ is_queue_mode x.mode
          → (origin : Origin) × IsHeldSo r held x.place x.mode origin × (Some o ≡ Some (record { origin = origin; mode = x.mode }))
          → map (object_give r before parent.number) (accesses_from (n + 1) gives) ≡ map Some (filter is_object_give all)
          → map (object_give r before parent.number) (accesses_from n (x ∷ gives)) ≡ map Some (filter is_object_give (o ∷ all))
      by true kind same first rest =
          ap (λ b. map (object_give r before parent.number) (with_access b (access_of_give n x) (accesses_from (n + 1) gives))) kind
          ∙ rest
          ∙ sym (ap (λ b. map Some (cond (not b) (o ∷ filter is_object_give all) (filter is_object_give all))) (same ∙ kind))
      by false kind same first rest =
          ap (λ b. map (object_give r before parent.number) (with_access b (access_of_give n x) (accesses_from (n + 1) gives))) kind
          ∙ ap {B = List (Option OriginGive)} (λ g. g ∷ map (object_give r before parent.number) (accesses_from (n + 1) gives)) (one-object n x o first kind)
          ∙ ap {B = List (Option OriginGive)} (λ gs. Some o ∷ gs) rest
          ∙ sym (ap (λ b. map Some (cond (not b) (o ∷ filter is_object_give all) (filter is_object_give all))) (same ∙ kind))

  pub next-gives_objects : (gives : List Give) (all : List OriginGive) → length all ≡ length gives → AreGivenSo r held gives all → next_deed s parent ≡ Some (Spawn all)
      → NextSpawnGivesObjects s r before parent (accesses_from 0 gives)
  next-gives_objects gives all many each next = record { gives = all; next = next; objects = objects-named 0 gives all many each }
