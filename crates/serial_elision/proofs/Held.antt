-- What is held, counted by origins: each holding is within a list of gives.
use Rattle.std.proofs.Common.{◌≡◌, ℕ, zero, suc, Bool, true, false, ◌&&◌, cond, List, [], ◌∷◌, ◌++◌, Option, Some, None, refl, sym, ap, subst, ◌∙◌}
use Rattle.std.proofs.lemmas.Bool.{and_from, or_left}
use Rattle.std.specs.List.{list_all, cons_option}
use Rattle.std.specs.Option.{option_map, option_and_then}
use Rattle.std.specs.Prelude.{IfSome, slice_get}
use Rattle.swan_model.specs.declared.body.Ask.{Ask}
use Rattle.swan_model.specs.declared.body.Ask.TheVariants as ask
use Rattle.swan_model.specs.declared.body.Child.{Child}
use Rattle.swan_model.specs.declared.origin.Origin.{Origin}
use Rattle.swan_model.specs.declared.rights.Mode.{Mode}
use Rattle.swan_model.specs.declared.rights.Mode.TheVariants.{In, Out, Push, Pop}
use Rattle.swan_model.specs.declared.script.Deed.{Deed}
use Rattle.swan_model.specs.declared.script.Deed.TheVariants as deed
use Rattle.swan_model.specs.declared.script.OriginGive.{OriginGive}
use Rattle.swan_model.specs.Granted.{may_use, may_give, is_within}
use Rattle.swan_model.specs.Rights.{allows, is_queue_mode}
use Rattle.swan_model.specs.Script.{about, asked, give_of, gives_of, origin_at, origin_of, spawn_of}
use Rattle.swan_model.specs.SerialState.{Cell, Queue, Holding, Store}
use Rattle.swan_model.specs.SerialStep.{given, number_at, used_by}
use Rattle.swan_model.specs.Told.{is_same}
use Rattle.swan_model.proofs.Origins.{is_same-self}
use Rattle.serial_elision.proofs.Rights.{MayUseEach, given-may}
use Rattle.swan_model.proofs.Uses.{HasMore, more-after, same_kind}

-- origins depend on the kind of a mode alone
pub origin-kind : (store : Store) (mode right : Mode) (number : ℕ) → is_queue_mode mode ≡ is_queue_mode right → origin_of store mode number ≡ origin_of store right number
origin-kind store mode right number same =
    ap (λ b. cond b (option_map (λ (queue : Queue). queue.origin) (slice_get store.queues number)) (option_map (λ (cell : Cell). cell.origin) (slice_get store.cells number))) same

-- what is held stands in the store, and each of its rights is among these gives
pub record IsHeldBy (held : List OriginGive) (store : Store) (h : Holding) : Type 0 where
  pub origin : Origin
  pub stands : origin_of store h.mode h.number ≡ Some origin
  pub may : (mode : Mode) → allows h.mode mode ≡ true → may_use held mode origin ≡ true

abbrev pub AreHeldBy : List OriginGive → Store → List Holding → Type 0
AreHeldBy held store [] = Unit {0}
AreHeldBy held store (h ∷ hs) = IsHeldBy held store h × AreHeldBy held store hs

pub record Stand (before after : Store) : Type 0 where
  pub origins : (mode : Mode) (number : ℕ) (origin : Origin) → origin_of before mode number ≡ Some origin → origin_of after mode number ≡ Some origin

pub stand-same : (store : Store) → Stand store store
stand-same store = record { origins = λ mode number origin is. is }

pub one-more : (held more : List OriginGive) (before after : Store) (h : Holding) → HasMore held more → Stand before after → IsHeldBy held before h → IsHeldBy more after h
one-more held more before after h has stand is =
    record {
      origin = is.origin;
      stands = stand.origins h.mode h.number is.origin is.stands;
      may = λ mode allowed. has.may mode is.origin (is.may mode allowed);
    }

pub held-more : (held more : List OriginGive) (before after : Store) (hs : List Holding) → HasMore held more → Stand before after → AreHeldBy held before hs → AreHeldBy more after hs
held-more held more before after [] has stand are = tt
held-more held more before after (h ∷ hs) has stand are =
    (one-more held more before after h has stand are.0, held-more held more before after hs has stand are.1)

pub held-append : (held : List OriginGive) (store : Store) (hs more : List Holding) → AreHeldBy held store hs → AreHeldBy held store more → AreHeldBy held store (hs ++ more)
held-append held store [] more are also = also
held-append held store (h ∷ hs) more are also = (are.0, held-append held store hs more are.1 also)

pub held-at : (held : List OriginGive) (store : Store) (hs : List Holding) (place : ℕ) (h : Holding) → AreHeldBy held store hs → slice_get hs place ≡ Some h → IsHeldBy held store h
held-at held store [] place h are is = absurd (cc)
held-at held store (x ∷ hs) zero h are is = let same : x ≡ h = cc in subst (IsHeldBy held store) same are.0
held-at held store (x ∷ hs) (suc place) h are is = held-at held store hs place h are.1 is

-- what may be used at a place
pub record IsUsed (hs : List Holding) (place number : ℕ) (mode : Mode) : Type 0 where
  pub holding : Holding
  pub stands : slice_get hs place ≡ Some holding
  pub allowed : allows holding.mode mode ≡ true
  pub same : holding.number ≡ number

used-if : (hs : List Holding) (place number : ℕ) (mode : Mode) (h : Holding) (allowed : Bool) → slice_get hs place ≡ Some h → allows h.mode mode ≡ allowed → ◌≡◌ {A = Option ℕ} (cond allowed (Some h.number) None) (Some number) → IsUsed hs place number mode
used-if hs place number mode h true stands allowed is = record { holding = h; stands = stands; allowed = allowed; same = cc }
used-if hs place number mode h false stands allowed is = absurd (cc)

pub used-at : (hs : List Holding) (place number : ℕ) (mode : Mode) (found : Option Holding) → slice_get hs place ≡ found → used_by mode found ≡ Some number → IsUsed hs place number mode
used-at hs place number mode None found is = absurd (cc)
used-at hs place number mode (Some h) found is =
    used-if hs place number mode h (allows h.mode mode) found refl is

-- what a holder may use by a mode stands, and it is among the gives by this mode
pub used-held : (held : List OriginGive) (store : Store) (hs : List Holding) (place number : ℕ) (mode : Mode) → AreHeldBy held store hs → number_at hs place mode ≡ Some number → (origin : Origin) × (origin_of store mode number ≡ Some origin) × (may_use held mode origin ≡ true)
used-held held store hs place number mode are is =
    let used = used-at hs place number mode (slice_get hs place) refl is in
    let h = used.holding in
    let one = held-at held store hs place h are used.stands in
    let stands : origin_of store mode number ≡ Some one.origin =
    sym (origin-kind store h.mode mode number (same_kind h.mode mode used.allowed)) ∙ ap (origin_of store h.mode) (sym used.same) ∙ one.stands in
    (one.origin, stands, one.may mode used.allowed)

may-number : (held : List OriginGive) (store : Store) (hs : List Holding) (place : ℕ) (mode : Mode) (found : Option ℕ) (origin : Origin) → AreHeldBy held store hs → number_at hs place mode ≡ found → option_and_then (origin_of store mode) found ≡ Some origin → may_use held mode origin ≡ true
may-number held store hs place mode None origin are found is = absurd (cc)
may-number held store hs place mode (Some number) origin are found is =
    let used = used-held held store hs place number mode are found in
    let both : Some used.0 ≡ Some origin = sym used.1 ∙ is in
    let same : used.0 ≡ origin = cc in
    subst (λ o. may_use held mode o ≡ true) same used.2

may-at : (held : List OriginGive) (store : Store) (hs : List Holding) (place : ℕ) (mode : Mode) (origin : Origin) → AreHeldBy held store hs → origin_at store hs place mode ≡ Some origin → may_use held mode origin ≡ true
may-at held store hs place mode origin are is =
    may-number held store hs place mode (number_at hs place mode) origin are refl is

-- ---- what a child is given

pub give-of : (store : Store) (h : Holding) (origin : Origin) → origin_of store h.mode h.number ≡ Some origin → give_of store h ≡ Some (record { origin = origin; mode = h.mode })
give-of store h origin is =
    ap (option_map (λ o. let give : OriginGive = record { origin = o; mode = h.mode } in give)) is

-- the gives of a child are within what its parent holds
pub gives-within : (held : List OriginGive) (store : Store) (hs given : List Holding) → AreHeldBy held store hs → MayUseEach hs given → list_all (may_give held) (gives_of store given) ≡ true
gives-within held store hs [] are may = refl
gives-within held store hs (h ∷ rest) are may =
    let one = may.0 in
    let used = used-held held store hs one.place h.number h.mode are one.held in
    let later = gives-within held store hs rest are may.1 in
    let both = and_from (may_use held h.mode used.0) (list_all (may_give held) (gives_of store rest)) used.2 later in
    ap (λ give. list_all (may_give held) (cons_option give (gives_of store rest))) (give-of store h used.0 used.1) ∙ both

-- a child holds its gives
pub gives-held : (held : List OriginGive) (store : Store) (hs given : List Holding) → AreHeldBy held store hs → MayUseEach hs given → AreHeldBy (gives_of store given) store given
gives-held held store hs [] are may = tt
gives-held held store hs (h ∷ rest) are may =
    let one = may.0 in
    let used = used-held held store hs one.place h.number h.mode are one.held in
    let give : OriginGive = record { origin = used.0; mode = h.mode } in
    let own : AreHeldBy (give ∷ gives_of store rest) store (h ∷ rest) = (
      record {
        origin = used.0;
        stands = used.1;
        may = λ mode allowed.
            or_left (allows h.mode mode && is_same used.0 used.0) (may_use (gives_of store rest) mode used.0)
            (and_from (allows h.mode mode) (is_same used.0 used.0) allowed (is_same-self used.0));
      },
      held-more (gives_of store rest) (give ∷ gives_of store rest) store store rest (more-after (give ∷ []) (gives_of store rest)) (stand-same store) (gives-held held store hs rest are may.1),
    ) in
    subst (λ g. AreHeldBy (cons_option g (gives_of store rest)) store (h ∷ rest)) (sym (give-of store h used.0 used.1)) own

-- ---- what an ask is to do is within what its task holds

about-within : (held : List OriginGive) (at : Option Origin) (does : Origin → Deed) → ((o : Origin) → at ≡ Some o → is_within held (does o) ≡ true) → is_within held (about at does) ≡ true
about-within held None does each = refl
about-within held (Some o) does each = each o refl

spawn-within : (held : List OriginGive) (store : Store) (hs : List Holding) (given : Option (List Holding)) → AreHeldBy held store hs → ((gs : List Holding) → given ≡ Some gs → MayUseEach hs gs) → is_within held (spawn_of store given) ≡ true
spawn-within held store hs None are may = refl
spawn-within held store hs (Some gs) are may = gives-within held store hs gs are (may gs refl)

each-some : (hs : List Holding) (given gs : Option (List Holding)) (list : List Holding) → given ≡ gs → gs ≡ Some list → IfSome given (MayUseEach hs) → MayUseEach hs list
each-some hs given None list same is may = absurd (cc)
each-some hs given (Some gs) list same is may =
    let it : gs ≡ list = cc in
    subst (MayUseEach hs) it (subst (λ g. IfSome g (MayUseEach hs)) same may)

pub given-each : {L : Type 0} (hs : List Holding) (child : Child L) (list : List Holding) → given hs child.gives ≡ Some list → MayUseEach hs list
given-each hs child list is =
    each-some hs (given hs child.gives) (given hs child.gives) list refl is (given-may hs child.gives)

pub asked-within : {L : Type 0} (held : List OriginGive) (store : Store) (hs : List Holding) (asks : Ask L) → AreHeldBy held store hs → is_within held (asked store hs asks) ≡ true
asked-within held store hs ask.Work are = refl
asked-within held store hs (ask.Read place) are =
    about-within held (origin_at store hs place In) deed.Read (λ o is. may-at held store hs place In o are is)
asked-within held store hs (ask.Write place value) are =
    about-within held (origin_at store hs place Out) (λ o. deed.Write o value) (λ o is. may-at held store hs place Out o are is)
asked-within held store hs (ask.Push place value) are =
    about-within held (origin_at store hs place Push) (λ o. deed.Push o value) (λ o is. may-at held store hs place Push o are is)
asked-within held store hs (ask.Pop place) are =
    about-within held (origin_at store hs place Pop) deed.Pop (λ o is. may-at held store hs place Pop o are is)
asked-within held store hs (ask.Empty place) are =
    about-within held (origin_at store hs place Pop) deed.Test (λ o is. may-at held store hs place Pop o are is)
asked-within held store hs ask.NewQueue are = refl
asked-within held store hs (ask.NewObject value) are = refl
asked-within held store hs (ask.Spawn child) are =
    spawn-within held store hs (given hs child.gives) are (λ gs is. given-each hs child gs is)
asked-within held store hs ask.Sync are = refl
asked-within held store hs ask.Finish are = refl
asked-within held store hs (ask.Fail trouble) are = refl
