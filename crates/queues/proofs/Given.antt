-- What a child may use of the queues that it is given.
use Rattle.std.proofs.Common.{◌≡◌, inl, inr, ℕ, ◌<◌, Bool, true, false, nat_eq, cond, List, [], ◌∷◌, length, map, Some, refl, sym, ap, subst, ◌∙◌}
use Rattle.std.proofs.lemmas.Bool.{and_parts, eq-eqb, eqb-true, or_cases}
use Rattle.std.proofs.lemmas.Option.{slice_get_within, same_Some}
use Rattle.std.specs.List.{list_any}
use Rattle.std.specs.Prelude.{◌&&◌, ◌||◌, slice_get, filter}
use Rattle.swan_model.specs.declared.origin.Origin.{Origin}
use Rattle.swan_model.specs.declared.rights.Mode.{Mode}
use Rattle.swan_model.specs.declared.rights.Mode.TheVariants.{In, Out, InOut, Push, Pop, PushPop}
use Rattle.swan_model.specs.declared.script.OriginGive.{OriginGive}
use Rattle.swan_model.specs.declared.script.Script.{Script}
use Rattle.swan_model.specs.Granted.{may_use}
use Rattle.swan_model.specs.QueueFollows.{QueuesFollow, origin_in, queue_give, queue_origin}
use Rattle.swan_model.specs.QueueState.{QueueRight, QueueState}
use Rattle.swan_model.specs.Rights.{allows, is_queue_mode}
use Rattle.swan_model.specs.Told.{is_same}
use Rattle.swan_model.proofs.Origins.{is_same-equal, is_same-self}
use Rattle.queues.proofs.Making.{is_right}
use Rattle.swan_model.proofs.Elements.{answers_same, mapped_is}

-- a mode of objects allows no use of a queue
object_allows : (has mode : Mode) → is_queue_mode has ≡ false → is_queue_mode mode ≡ true → allows has mode ≡ false
object_allows Push mode object queue = absurd (cc)
object_allows Pop mode object queue = absurd (cc)
object_allows PushPop mode object queue = absurd (cc)
object_allows In In object queue = absurd (cc)
object_allows In Out object queue = absurd (cc)
object_allows In InOut object queue = absurd (cc)
object_allows In Push object queue = refl
object_allows In Pop object queue = refl
object_allows In PushPop object queue = refl
object_allows Out In object queue = absurd (cc)
object_allows Out Out object queue = absurd (cc)
object_allows Out InOut object queue = absurd (cc)
object_allows Out Push object queue = refl
object_allows Out Pop object queue = refl
object_allows Out PushPop object queue = refl
object_allows InOut In object queue = absurd (cc)
object_allows InOut Out object queue = absurd (cc)
object_allows InOut InOut object queue = absurd (cc)
object_allows InOut Push object queue = refl
object_allows InOut Pop object queue = refl
object_allows InOut PushPop object queue = refl

abbrev pub is_queue_give : OriginGive → Bool
is_queue_give give = is_queue_mode give.mode

-- of what is given, queues alone may be used by modes of queues
queues_alone : (gives : List OriginGive) (mode : Mode) (origin : Origin) → is_queue_mode mode ≡ true → may_use (filter is_queue_give gives) mode origin ≡ may_use gives mode origin
queues_alone [] mode origin queues = refl
queues_alone (give ∷ gives) mode origin queues = by (is_queue_mode give.mode) refl (queues_alone gives mode origin queues)
  where
    by : (b : Bool) → is_queue_mode give.mode ≡ b → may_use (filter is_queue_give gives) mode origin ≡ may_use gives mode origin
        → may_use (cond b (give ∷ filter is_queue_give gives) (filter is_queue_give gives)) mode origin ≡ may_use (give ∷ gives) mode origin
    by true is rest = ap (λ b. (allows give.mode mode && is_same give.origin origin) || b) rest
    by false is rest =
        rest ∙ sym (ap (λ b. (b && is_same give.origin origin) || may_use gives mode origin) (object_allows give.mode mode is queues))

both_same : (a b c : Bool) → a ≡ c → (a && b) ≡ (b && c)
both_same true true c same = same
both_same true false c same = refl
both_same false true c same = same
both_same false false c same = refl

module _ (s : Script) (state : QueueState) (follows : QueuesFollow s state) (queue : ℕ) (mode : Mode) where
  -- the queue of a give, which has an origin
  record IsGiven (right : QueueRight) (give : OriginGive) : Type 0 where
    pub origin : Origin
    pub known : queue_origin s state right.queue ≡ Some origin
    pub is : (record { origin = origin; mode = right.mode }) ≡ give

  given : (right : QueueRight) (give : OriginGive) → queue_give s state right ≡ Some give → IsGiven right give
  given right give is =
      let found = mapped_is (λ (origin : Origin). record { origin = origin; mode = right.mode }) (queue_origin s state right.queue) give is in
      record { origin = found.0; known = found.1; is = found.2 }

  same_queue : (right : QueueRight) (origin of : Origin) → queue_origin s state right.queue ≡ Some of → queue_origin s state queue ≡ Some origin → nat_eq right.queue queue ≡ is_same of origin
  same_queue right origin of known made =
      answers_same (nat_eq right.queue queue) (is_same of origin)
      (λ is.
      let same : of ≡ origin = same_Some of origin (sym known ∙ ap (queue_origin s state) (eqb-true right.queue queue is) ∙ made) in
      ap (λ o. is_same o origin) same ∙ is_same-self origin)
      (λ is.
      let same = is_same-equal of origin is in
      eq-eqb right.queue queue (follows.once right.queue queue origin (known ∙ ap Some same) made))

  -- A child may use a queue by the rights that it is given as it may by the gives of the spawn.
  rights_given : (rights : List QueueRight) (gives : List OriginGive) (origin : Origin) → map (queue_give s state) rights ≡ map Some gives → queue_origin s state queue ≡ Some origin → list_any (is_right queue mode) rights ≡ may_use gives mode origin
  rights_given [] [] origin is made = refl
  rights_given [] (give ∷ gives) origin is made = absurd (cc)
  rights_given (right ∷ rights) [] origin is made = absurd (cc)
  rights_given (right ∷ rights) (give ∷ gives) origin is made =
      let head : queue_give s state right ≡ Some give = cc in
      let tail : map (queue_give s state) rights ≡ map Some gives = cc in
      let rest = rights_given rights gives origin tail made in
      let it = given right give head in
      let first = both_same (nat_eq right.queue queue) (allows right.mode mode) (is_same it.origin origin) (same_queue right origin it.origin it.known made) in
      ap (λ b. b || list_any (is_right queue mode) rights) (first ∙ ap (λ (g : OriginGive). allows g.mode mode && is_same g.origin origin) it.is)
      ∙ ap (λ b. (allows give.mode mode && is_same give.origin origin) || b) rest

  -- and it is given no queue that isn't made
  made_given : (rights : List QueueRight) (gives : List OriginGive) → map (queue_give s state) rights ≡ map Some gives → list_any (is_right queue mode) rights ≡ true → queue < length state.makers
  made_given [] gives is may = absurd (cc)
  made_given (right ∷ rights) [] is may = absurd (cc)
  made_given (right ∷ rights) (give ∷ gives) is may =
      let head : queue_give s state right ≡ Some give = cc in
      let tail : map (queue_give s state) rights ≡ map Some gives = cc in
      elim (or_cases (is_right queue mode right) (list_any (is_right queue mode) rights) may) [
        | inl here ↦
            let it = given right give head in
            let same = eqb-true right.queue queue (and_parts (nat_eq right.queue queue) (allows right.mode mode) here).0 in
            let maker = mapped_is (origin_in s) (slice_get state.makers right.queue) it.origin it.known in
            subst (λ q. q < length state.makers) same (slice_get_within state.makers right.queue maker.0 maker.1)
        | inr later ↦ made_given rights gives tail later
      ]

  pub child_rights : (rights : List QueueRight) (all : List OriginGive) (origin : Origin) → map (queue_give s state) rights ≡ map Some (filter is_queue_give all) → is_queue_mode mode ≡ true → queue_origin s state queue ≡ Some origin → list_any (is_right queue mode) rights ≡ may_use all mode origin
  child_rights rights all origin is queues made =
      rights_given rights (filter is_queue_give all) origin is made ∙ queues_alone all mode origin queues

  pub child_made : (rights : List QueueRight) (all : List OriginGive) → map (queue_give s state) rights ≡ map Some (filter is_queue_give all) → list_any (is_right queue mode) rights ≡ true → queue < length state.makers
  child_made rights all is may = made_given rights (filter is_queue_give all) is may
