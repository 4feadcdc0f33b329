-- What one who holds this may use, and what the entries of a script grant.
use Rattle.std.proofs.Common.{◌≡◌, ℕ, suc, ◌⊎◌, inl, inr, Bool, true, false, ◌&&◌, nat_eq, cond, List, [], ◌∷◌, ◌++◌, Option, Some, None, refl, sym, ap, subst, ◌∙◌, arith}
use Rattle.std.proofs.lemmas.Bool.{and_from, and_parts, or_cases, or_left, or_right}
use Rattle.std.proofs.lemmas.List.Folds.{list_any-append}
use Rattle.std.specs.Cmp.Lexicographic.{pointwise}
use Rattle.std.specs.List.{list_all}
use Rattle.std.specs.Option.{option_map_or}
use Rattle.std.specs.Prelude.{slice_get}
use Rattle.swan_model.specs.declared.origin.Origin.{Origin}
use Rattle.swan_model.specs.declared.origin.Origin.TheVariants.{Step}
use Rattle.swan_model.specs.declared.rights.Mode.{Mode}
use Rattle.swan_model.specs.declared.rights.Mode.TheVariants.{InOut, PushPop, In}
use Rattle.swan_model.specs.declared.script.Deed.{Deed}
use Rattle.swan_model.specs.declared.script.Deed.TheVariants as deed
use Rattle.swan_model.specs.declared.script.Entry.{Entry}
use Rattle.swan_model.specs.declared.script.OriginGive.{OriginGive}
use Rattle.swan_model.specs.declared.script.Script.{Script}
use Rattle.swan_model.specs.Granted.{child_path, granted, granted_by, holds, is_spawn, may_give, may_use}
use Rattle.swan_model.specs.Rights.{allows, is_in, is_queue_mode}
use Rattle.swan_model.specs.SerialTime.{is_of}
use Rattle.swan_model.specs.Told.{is_same}
use Rattle.swan_model.proofs.Origins.{is_same-equal}
use Rattle.swan_model.proofs.Paths.{path_is-itself}

pub record HasMore (held more : List OriginGive) : Type 0 where
  pub may : (mode : Mode) (origin : Origin) → may_use held mode origin ≡ true → may_use more mode origin ≡ true

pub more-append : (held more : List OriginGive) → HasMore held (held ++ more)
more-append held more =
    record {
      may = λ mode origin is.
          list_any-append (λ (has : OriginGive). allows has.mode mode && is_same has.origin origin) held more
          ∙ or_left (may_use held mode origin) (may_use more mode origin) is;
    }

pub more-after : (held more : List OriginGive) → HasMore more (held ++ more)
more-after held more =
    record {
      may = λ mode origin is.
          list_any-append (λ (has : OriginGive). allows has.mode mode && is_same has.origin origin) held more
          ∙ or_right (may_use held mode origin) (may_use more mode origin) is;
    }

-- what may be used by two lists may be used by one of them
pub may_use-either : (held more : List OriginGive) (mode : Mode) (origin : Origin) → may_use (held ++ more) mode origin ≡ true → (may_use held mode origin ≡ true) ⊎ (may_use more mode origin ≡ true)
may_use-either held more mode origin is =
    or_cases (may_use held mode origin) (may_use more mode origin)
    (sym (list_any-append (λ (has : OriginGive). allows has.mode mode && is_same has.origin origin) held more) ∙ is)

-- what allows a mode allows what that allows
pub allows-more : (mode right less : Mode) → allows mode right ≡ true → allows right less ≡ true → allows mode less ≡ true
allows-more mode right less is also = grind arith

pub allows_own : (mode : Mode) → allows mode mode ≡ true
allows_own mode = grind arith

-- and only modes of its own kind
pub same_kind : (mode right : Mode) → allows mode right ≡ true → is_queue_mode mode ≡ is_queue_mode right
same_kind mode right is = grind arith

pub in_is : (mode : Mode) → is_in mode ≡ true → mode ≡ In
in_is In is = refl
in_is _ is = absurd (cc)

-- who may use by a mode may use by each that it allows
pub may_use-less : (held : List OriginGive) (mode less : Mode) (origin : Origin) → allows mode less ≡ true → may_use held mode origin ≡ true → may_use held less origin ≡ true
may_use-less [] mode less origin allowed is = absurd (cc)
may_use-less (has ∷ held) mode less origin allowed is =
    elim (or_cases (allows has.mode mode && is_same has.origin origin) (may_use held mode origin) is) [
      | inl here ↦
          let both = and_parts (allows has.mode mode) (is_same has.origin origin) here in
          or_left (allows has.mode less && is_same has.origin origin) (may_use held less origin)
          (and_from (allows has.mode less) (is_same has.origin origin) (allows-more has.mode mode less both.0 allowed) both.1)
      | inr later ↦
          or_right (allows has.mode less && is_same has.origin origin) (may_use held less origin)
          (may_use-less held mode less origin allowed later)
    ]

-- what may be used by gives may be used by who may give them
pub may_use-given : (held gives : List OriginGive) (mode : Mode) (origin : Origin) → list_all (may_give held) gives ≡ true → may_use gives mode origin ≡ true → may_use held mode origin ≡ true
may_use-given held [] mode origin all is = absurd (cc)
may_use-given held (give ∷ gives) mode origin all is =
    let each = and_parts (may_give held give) (list_all (may_give held) gives) all in
    elim (or_cases (allows give.mode mode && is_same give.origin origin) (may_use gives mode origin) is) [
      | inl here ↦
          let both = and_parts (allows give.mode mode) (is_same give.origin origin) here in
          let same = is_same-equal give.origin origin both.1 in
          may_use-less held give.mode mode origin both.0 (subst (λ o. may_use held give.mode o ≡ true) same each.0)
      | inr later ↦ may_use-given held gives mode origin each.1 later
    ]

pub holds-next : (s : Script) (path : List ℕ) (n : ℕ) (e : Entry) → slice_get s.entries n ≡ Some e → holds s path (suc n) ≡ holds s path n ++ granted_by s path n e
holds-next s path n e is =
    ap (λ o. holds s path n ++ option_map_or (granted_by s path n) o []) is

pub more-next : (s : Script) (path : List ℕ) (n : ℕ) (e : Entry) → slice_get s.entries n ≡ Some e → HasMore (holds s path n) (holds s path (suc n))
more-next s path n e is =
    subst (HasMore (holds s path n)) (sym (holds-next s path n e is)) (more-append (holds s path n) (granted_by s path n e))

-- what a task may use by what its own step made
pub own-made : (s : Script) (path : List ℕ) (n : ℕ) (e : Entry) (mode : Mode) → slice_get s.entries n ≡ Some e → e.path ≡ path → ((is_child : Bool) → may_use (granted true is_child n e.deed) mode (Step n) ≡ true) → may_use (holds s path (suc n)) mode (Step n) ≡ true
own-made s path n e mode is own may =
    let child = pointwise nat_eq (child_path s e.path n) path in
    let of : is_of path e ≡ true = ap (λ p. pointwise nat_eq p path) own ∙ path_is-itself path in
    let here : may_use (granted_by s path n e) mode (Step n) ≡ true =
    ap (λ b. may_use (granted b child n e.deed) mode (Step n)) of ∙ may child in
    ap (λ h. may_use h mode (Step n)) (holds-next s path n e is)
    ∙ (more-after (holds s path n) (granted_by s path n e)).may mode (Step n) here

-- what a child may use by what it is given
pub record IsGift (is_child : Bool) (does : Deed) (mode : Mode) (origin : Origin) : Type 0 where
  pub gives : List OriginGive
  pub is : does ≡ deed.Spawn gives
  pub to : is_child ≡ true
  pub may : may_use gives mode origin ≡ true

only-made : (mode has : Mode) (origin : Origin) (n : ℕ) → may_use ((record { origin = Step n; mode = has }) ∷ []) mode origin ≡ true → origin ≡ Step n
only-made mode has origin n is = elim (or_cases (allows has mode && is_same (Step n) origin) false is) [
  | inl here ↦ sym (is_same-equal (Step n) origin (and_parts (allows has mode) (is_same (Step n) origin) here).1)
  | inr none ↦ absurd (cc)
]

-- what a deed grants is what it made, or a gift
pub granted-is : (is_own is_child : Bool) (n : ℕ) (does : Deed) (mode : Mode) (origin : Origin) → may_use (granted is_own is_child n does) mode origin ≡ true → ((is_own ≡ true) × (origin ≡ Step n)) ⊎ IsGift is_child does mode origin
granted-is true is_child n deed.MakeQueue mode origin is = inl (refl, only-made mode PushPop origin n is)
granted-is false is_child n deed.MakeQueue mode origin is = absurd (cc)
granted-is true is_child n (deed.MakeObject value) mode origin is = inl (refl, only-made mode InOut origin n is)
granted-is false is_child n (deed.MakeObject value) mode origin is = absurd (cc)
granted-is is_own true n (deed.Spawn gives) mode origin is = inr (record { gives = gives; is = refl; to = refl; may = is })
granted-is is_own false n (deed.Spawn gives) mode origin is = absurd (cc)
granted-is is_own is_child n (deed.Push queue value) mode origin is = absurd (cc)
granted-is is_own is_child n (deed.Pop queue) mode origin is = absurd (cc)
granted-is is_own is_child n (deed.Test queue) mode origin is = absurd (cc)
granted-is is_own is_child n (deed.Read object) mode origin is = absurd (cc)
granted-is is_own is_child n (deed.Write object value) mode origin is = absurd (cc)
granted-is is_own is_child n deed.Sync mode origin is = absurd (cc)
granted-is is_own is_child n deed.Quiet mode origin is = absurd (cc)

-- how an entry grants a task the use of something: it is the task's own and made that, or it gives the task that
abbrev pub IsGrantedBy : Script → List ℕ → ℕ → Entry → Mode → Origin → Type 0
IsGrantedBy s path n entry mode origin =
    ((is_of path entry ≡ true) × (origin ≡ Step n)) ⊎ IsGift (pointwise nat_eq (child_path s entry.path n) path) entry.deed mode origin

-- what a task may use after an entry it could use before, or the entry grants it
pub record IsGranted (s : Script) (path : List ℕ) (n : ℕ) (mode : Mode) (origin : Origin) : Type 0 where
  pub entry : Entry
  pub stands : slice_get s.entries n ≡ Some entry
  pub how : IsGrantedBy s path n entry mode origin

pub holds-cases : (s : Script) (path : List ℕ) (n : ℕ) (mode : Mode) (origin : Origin) → may_use (holds s path (suc n)) mode origin ≡ true → (may_use (holds s path n) mode origin ≡ true) ⊎ IsGranted s path n mode origin
holds-cases s path n mode origin is = by (slice_get s.entries n) refl is where
  by : (found : Option Entry) → slice_get s.entries n ≡ found → may_use (holds s path n ++ option_map_or (granted_by s path n) found []) mode origin ≡ true → (may_use (holds s path n) mode origin ≡ true) ⊎ IsGranted s path n mode origin
  by None stands is = elim (may_use-either (holds s path n) [] mode origin is) [ inl before ↦ inl before | inr none ↦ absurd (cc) ]
  by (Some entry) stands is = elim (may_use-either (holds s path n) (granted_by s path n entry) mode origin is) [
    | inl before ↦ inl before
    | inr here ↦ inr (record { entry = entry; stands = stands; how = granted-is (is_of path entry) (pointwise nat_eq (child_path s entry.path n) path) n entry.deed mode origin here })
  ]

-- to others than its own task and its child an entry grants nothing
pub granted-none : (is_own is_child : Bool) (n : ℕ) (does : Deed) → is_own ≡ false → (is_spawn does ≡ true → is_child ≡ false) → granted is_own is_child n does ≡ []
granted-none false is_child n deed.MakeQueue own other = refl
granted-none true is_child n deed.MakeQueue own other = absurd (cc)
granted-none false is_child n (deed.MakeObject value) own other = refl
granted-none true is_child n (deed.MakeObject value) own other = absurd (cc)
granted-none is_own is_child n (deed.Spawn gives) own other = ap (λ b. cond b gives []) (other refl)
granted-none is_own is_child n (deed.Push queue value) own other = refl
granted-none is_own is_child n (deed.Pop queue) own other = refl
granted-none is_own is_child n (deed.Test queue) own other = refl
granted-none is_own is_child n (deed.Read object) own other = refl
granted-none is_own is_child n (deed.Write object value) own other = refl
granted-none is_own is_child n deed.Sync own other = refl
granted-none is_own is_child n deed.Quiet own other = refl
