-- What a frame asks its queues for is within what the queues let it do: by the script each deed is within what its task
-- holds, and the queues let a frame do what the script has its task hold.
use Rattle.std.proofs.Common.{◌≡◌, inl, inr, ℕ, zero, suc, ◌<◌, Bool, true, false, nat_eq, cond, List, [], ◌∷◌, Option, Some, None, map, refl, sym, ap, ◌∙◌, arith}
use Rattle.std.proofs.lemmas.Bool.{cases_order, eq-eqb, ne_eqb, or_parts}
use Rattle.std.proofs.lemmas.Map.Keys.{any_passes_from_place}
use Rattle.std.proofs.lemmas.Option.{same_Some, slice_get-map}
use Rattle.std.specs.List.{list_all, list_any}
use Rattle.std.specs.Option.{option_map}
use Rattle.std.specs.Prelude.{◌&&◌, ◌||◌, filter, not, slice_get}
use Rattle.swan_model.specs.declared.origin.Origin.{Origin}
use Rattle.swan_model.specs.declared.rights.Give.{Give}
use Rattle.swan_model.specs.declared.rights.Mode.{Mode}
use Rattle.swan_model.specs.declared.rights.Mode.TheVariants.{Pop, Push, PushPop}
use Rattle.swan_model.specs.declared.script.Deed.{Deed}
use Rattle.swan_model.specs.declared.script.Deed.TheVariants as deed
use Rattle.swan_model.specs.declared.script.OriginGive.{OriginGive}
use Rattle.swan_model.specs.declared.script.Script.{Script}
use Rattle.swan_model.specs.Granted.{holds, is_within, may_give, may_use}
use Rattle.swan_model.specs.Lawful.{IsLawful}
use Rattle.swan_model.specs.QueueFollows.{NextSpawnGivesQueues, QueuesFollow, next_queue_deed, queue_give, queue_origin, queue_point}
use Rattle.swan_model.specs.QueueState.{ActiveFrame, MayGive, QueueRight, QueueState, active, holds_queue}
use Rattle.swan_model.specs.Rights.{clash, is_aliased, is_in, is_queue_mode}
use Rattle.swan_model.specs.SerialState.{Holding}
use Rattle.swan_model.specs.SerialStep.{given, number_at}
use Rattle.swan_model.specs.SerialTime.{Reading}
use Rattle.swan_model.specs.TrueFrames.{give_in}
use Rattle.swan_model.proofs.Elements.{all_each}
use Rattle.swan_model.proofs.Lists.{same_parts}
use Rattle.swan_model.proofs.ScriptSteps.{deed_is}
use Rattle.queues.proofs.QueuePoints.{at_own, next_is}
use Rattle.serial_elision.proofs.Held.{IsUsed, used-at}
use Rattle.task_frames.specs.Cores.{HasQueuesOnce}
use Rattle.task_frames.specs.Giving.{queue_rights, right_of}
use Rattle.task_frames.proofs.Names.{first-given, name-mode, name-origin, named, origin_in}
use Rattle.swan_model.proofs.Uses.{same_kind}

module _ (s : Script) (lawful : IsLawful s) (state : QueueState) (follows : QueuesFollow s state) (number : ℕ) (frame : ActiveFrame) (live : active state number ≡ Some frame) where
  abbrev now : ℕ
  now = queue_point s frame.path frame.deeds

  -- the frame's next queue deed is within what its task holds
  within-now : (does : Deed) → next_queue_deed s frame.path frame.deeds ≡ Some does → is_within (holds s frame.path now) does ≡ true
  within-now does next =
      let at = next_is s frame.path frame.deeds does next in
      let own = at_own s frame.path frame.deeds now at.at in
      let deeds : own.entry.deed ≡ does = sym (deed_is s now own.entry own.stands) ∙ at.does in
      sym (ap (λ p. is_within (holds s p now) does) own.own) ∙ sym (ap (is_within (holds s own.entry.path now)) deeds) ∙ lawful.within now own.entry own.stands

  -- and so it may use the queue so
  pub may-use : (queue : ℕ) (mode : Mode) (origin : Origin) (does : Deed) → is_queue_mode mode ≡ true → queue_origin s state queue ≡ Some origin → next_queue_deed s frame.path frame.deeds ≡ Some does
      → is_within (holds s frame.path now) does ≡ may_use (holds s frame.path now) mode origin → holds_queue frame queue mode ≡ true
  may-use queue mode origin does is_mode made next same =
      (follows.tasks number frame live).rights queue mode origin is_mode made ∙ sym same ∙ within-now does next

-- ---- the queues that a child is given

module _ (s : Script) (state : QueueState) (r : Reading) (fit : (queue : ℕ) → slice_get r.queues queue ≡ queue_origin s state queue) where
  right-named : (h : Holding) → is_queue_mode h.mode ≡ true → queue_give s state (right_of h) ≡ give_in r h
  right-named h queue =
      ap (named h.mode) (sym (fit h.number)) ∙ sym (ap (λ b. named h.mode (cond b (slice_get r.queues h.number) (slice_get r.objects h.number))) queue)

  -- they are those that the script names
  pub queues-named : (hs : List Holding) (all : List OriginGive) → map (give_in r) hs ≡ map Some all → map (queue_give s state) (queue_rights hs) ≡ map Some (filter (λ (g : OriginGive). is_queue_mode g.mode) all)
  queues-named [] [] is = refl
  queues-named [] (g ∷ all) is = absurd (cc)
  queues-named (h ∷ hs) [] is = absurd (cc)
  queues-named (h ∷ hs) (g ∷ all) is =
      let parts = same_parts (give_in r h) (Some g) (map (give_in r) hs) (map Some all) is in
      let mode = name-mode h.mode (origin_in r h.mode h.number) g parts.0 in
      by (is_queue_mode h.mode) refl (sym (ap is_queue_mode mode)) parts.0 (queues-named hs all parts.1)
    where
      by : (b : Bool) → is_queue_mode h.mode ≡ b → is_queue_mode g.mode ≡ is_queue_mode h.mode → give_in r h ≡ Some g
          → map (queue_give s state) (queue_rights hs) ≡ map Some (filter (λ (x : OriginGive). is_queue_mode x.mode) all)
          → map (queue_give s state) (queue_rights (h ∷ hs)) ≡ map Some (filter (λ (x : OriginGive). is_queue_mode x.mode) (g ∷ all))
      by true kind same one rest =
          ap (λ b. map (queue_give s state) (map right_of (cond b (h ∷ filter (λ (x : Holding). is_queue_mode x.mode) hs) (filter (λ (x : Holding). is_queue_mode x.mode) hs)))) kind
          ∙ ap {B = List (Option OriginGive)} (λ x. x ∷ map (queue_give s state) (queue_rights hs)) (right-named h kind ∙ one)
          ∙ ap {B = List (Option OriginGive)} (λ xs. Some g ∷ xs) rest
          ∙ sym (ap (λ b. map Some (cond b (g ∷ filter (λ (x : OriginGive). is_queue_mode x.mode) all) (filter (λ (x : OriginGive). is_queue_mode x.mode) all))) (same ∙ kind))
      by false kind same one rest =
          ap (λ b. map (queue_give s state) (map right_of (cond b (h ∷ filter (λ (x : Holding). is_queue_mode x.mode) hs) (filter (λ (x : Holding). is_queue_mode x.mode) hs)))) kind
          ∙ rest
          ∙ sym (ap (λ b. map Some (cond b (g ∷ filter (λ (x : OriginGive). is_queue_mode x.mode) all) (filter (λ (x : OriginGive). is_queue_mode x.mode) all))) (same ∙ kind))

none-again : (number : ℕ) (hs : List Holding) → ((i : ℕ) (h : Holding) → slice_get hs i ≡ Some h → is_queue_mode h.mode ≡ true → h.number ≡ number → ⊥)
    → list_any (λ (right : QueueRight). nat_eq right.queue number) (queue_rights hs) ≡ false
none-again number [] apart = refl
none-again number (h ∷ hs) apart = by (is_queue_mode h.mode) refl (none-again number hs (λ i x at. apart (suc i) x at)) where
  by : (b : Bool) → is_queue_mode h.mode ≡ b → list_any (λ (right : QueueRight). nat_eq right.queue number) (queue_rights hs) ≡ false
      → list_any (λ (right : QueueRight). nat_eq right.queue number) (map right_of (cond b (h ∷ filter (λ (x : Holding). is_queue_mode x.mode) hs) (filter (λ (x : Holding). is_queue_mode x.mode) hs))) ≡ false
  by true kind rest =
      ap {B = Bool} (λ b. b || list_any (λ (right : QueueRight). nat_eq right.queue number) (queue_rights hs)) (ne_eqb h.number number (λ same. apart 0 h refl kind same)) ∙ rest
  by false kind rest = rest

may-give-all : (frame : ActiveFrame) (hs : List Holding) → HasQueuesOnce hs → ((i : ℕ) (h : Holding) → slice_get hs i ≡ Some h → is_queue_mode h.mode ≡ true → holds_queue frame h.number h.mode ≡ true)
    → MayGive frame (queue_rights hs)
may-give-all frame [] apart may = tt
may-give-all frame (h ∷ hs) apart may = by (is_queue_mode h.mode) refl (may-give-all frame hs (λ i j a b one two. λ k l same. let e = apart (suc i) (suc j) a b one two k l same in omega (arith, e)) (λ i x at. may (suc i) x at)) where
  by : (b : Bool) → is_queue_mode h.mode ≡ b → MayGive frame (queue_rights hs) → MayGive frame (map right_of (cond b (h ∷ filter (λ (x : Holding). is_queue_mode x.mode) hs) (filter (λ (x : Holding). is_queue_mode x.mode) hs)))
  by true kind rest = (
    may 0 h refl kind,
    kind,
    none-again h.number hs (λ i x at its same. let e = apart (suc i) 0 x h at refl its kind same in absurd (omega (arith, e))),
    rest,
  )
  by false kind rest = rest

-- ---- a spawn

-- each place that is given twice is given only to read
pub gives-differ : (gives : List Give) → is_aliased gives ≡ false → (i j : ℕ) (a b : Give) → i < j → slice_get gives i ≡ Some a → slice_get gives j ≡ Some b → clash a b ≡ false
gives-differ [] none i j a b less one two = absurd (cc)
gives-differ (give ∷ gives) none i zero a b less one two = absurd (omega arith)
gives-differ (give ∷ gives) none zero (suc j) a b less one two =
    let same : give ≡ a = same_Some give a one in
    let here = (or_parts (list_any (clash give) gives) (is_aliased gives) none).0 in
    by (clash a b) refl (λ yes. any_passes_from_place (clash give) gives j b two (ap (λ x. clash x b) same ∙ yes)) here
  where
    by : (answer : Bool) → clash a b ≡ answer → (answer ≡ true → list_any (clash give) gives ≡ true) → list_any (clash give) gives ≡ false → answer ≡ false
    by true is some none = let both : true ≡ false = sym (some refl) ∙ none in absurd (cc)
    by false is some none = refl
gives-differ (give ∷ gives) none (suc i) (suc j) a b less one two = gives-differ gives (or_parts (list_any (clash give) gives) (is_aliased gives) none).1 i j a b (omega (arith, less)) one two

not-in : (mode : Mode) → is_queue_mode mode ≡ true → is_in mode ≡ false
not-in Push is = refl
not-in Pop is = refl
not-in PushPop is = refl
not-in _ is = absurd (cc)

-- two gives of one place clash where one is by a mode of queues
pub queues-clash : (a b : Give) → is_queue_mode a.mode ≡ true → a.place ≡ b.place → clash a b ≡ true
queues-clash a b kind same =
    ap (λ p. p && not (is_in a.mode && is_in b.mode)) (eq-eqb a.place b.place same)
    ∙ ap (λ p. not (p && is_in b.mode)) (not-in a.mode kind)

-- what a child holds at a place it has of what is held at the give's place
pub record IsOfGive (held : List Holding) (gives : List Give) (i : ℕ) (h : Holding) : Type 0 where
  pub give : Give
  pub stands : slice_get gives i ≡ Some give
  pub mode : h.mode ≡ give.mode
  pub used : IsUsed held give.place h.number give.mode

of-first : (held : List Holding) (give : Give) (gives : List Give) (h : Holding) (number : ℕ) → number_at held give.place give.mode ≡ Some number → record { mode = give.mode; number = number } ≡ h
    → IsOfGive held (give ∷ gives) 0 h
of-first held give gives h number at same = record {
  give = give;
  stands = refl;
  mode = ap (λ (x : Holding). x.mode) (sym same);
  used = used-at held give.place h.number give.mode (slice_get held give.place) refl (at ∙ ap {B = Option ℕ} (λ (x : Holding). Some x.number) same);
}

pub given-at : (held : List Holding) (gives : List Give) (hs : List Holding) → given held gives ≡ Some hs → (i : ℕ) (h : Holding) → slice_get hs i ≡ Some h → IsOfGive held gives i h
given-at held [] hs is i h at =
    let none : [] ≡ hs = same_Some [] hs is in
    let gone : slice_get [] i ≡ Some h = ap (λ xs. slice_get xs i) none ∙ at in
    absurd (cc)
given-at held (give ∷ gives) hs is zero h at =
    let first = first-given held give gives hs (number_at held give.place give.mode) (given held gives) refl refl is in
    let found : Some (record { mode = give.mode; number = first.number }) ≡ Some h = ap (λ xs. slice_get xs 0) (sym first.list_is) ∙ at in
    of-first held give gives h first.number first.at (same_Some _ h found)
given-at held (give ∷ gives) hs is (suc i) h at =
    let first = first-given held give gives hs (number_at held give.place give.mode) (given held gives) refl refl is in
    let rest = given-at held gives first.rest first.given_rest i h (ap (λ xs. slice_get xs (suc i)) (sym first.list_is) ∙ at) in
    record { give = rest.give; stands = rest.stands; mode = rest.mode; used = rest.used }

-- no queue stands at two places of a child
pub given-once : (held : List Holding) (gives : List Give) (hs : List Holding) → HasQueuesOnce held → is_aliased gives ≡ false → given held gives ≡ Some hs → HasQueuesOnce hs
given-once held gives hs apart alone is i j a b one two queue also same = elim (cases_order i j) [
  | inl equal ↦ equal
  | inr differ ↦ elim differ [
    | inl less ↦ absurd (clashes i j a b less one two queue also same)
    | inr more ↦ absurd (clashes j i b a more two one also queue (sym same))
  ]
] where
  clashes : (i j : ℕ) (a b : Holding) → i < j → slice_get hs i ≡ Some a → slice_get hs j ≡ Some b → is_queue_mode a.mode ≡ true → is_queue_mode b.mode ≡ true → a.number ≡ b.number → ⊥
  clashes i j a b less one two queue also same =
      let first = given-at held gives hs is i a one in
      let second = given-at held gives hs is j b two in
      let kind : is_queue_mode first.give.mode ≡ true = ap is_queue_mode (sym first.mode) ∙ queue in
      let kind_too : is_queue_mode second.give.mode ≡ true = ap is_queue_mode (sym second.mode) ∙ also in
      let held_kind : is_queue_mode first.used.holding.mode ≡ true = same_kind first.used.holding.mode first.give.mode first.used.allowed ∙ kind in
      let held_too : is_queue_mode second.used.holding.mode ≡ true = same_kind second.used.holding.mode second.give.mode second.used.allowed ∙ kind_too in
      let place : first.give.place ≡ second.give.place =
      apart first.give.place second.give.place first.used.holding second.used.holding first.used.stands second.used.stands held_kind held_too (first.used.same ∙ same ∙ sym second.used.same) in
      let yes = queues-clash first.give second.give kind place in
      let none = gives-differ gives alone i j first.give second.give less first.stands second.stands in
      let both : true ≡ false = sym yes ∙ none in
      absurd (cc)

-- a give of what a child is given by the script
module _ (s : Script) (lawful : IsLawful s) (state : QueueState) (follows : QueuesFollow s state) (number : ℕ) (frame : ActiveFrame) (live : active state number ≡ Some frame) (r : Reading)
    (fit : (queue : ℕ) → slice_get r.queues queue ≡ queue_origin s state queue) (all : List OriginGive) (next : next_queue_deed s frame.path frame.deeds ≡ Some (deed.Spawn all)) (hs : List Holding)
    (names : map (give_in r) hs ≡ map Some all) where
  each-may : (i : ℕ) (h : Holding) → slice_get hs i ≡ Some h → is_queue_mode h.mode ≡ true → holds_queue frame h.number h.mode ≡ true
  each-may i h at queue =
      let within = within-now s lawful state follows number frame live (deed.Spawn all) next in
      let name : option_map Some (slice_get all i) ≡ Some (give_in r h) =
      sym (slice_get-map Some all i) ∙ ap (λ xs. slice_get xs i) (sym names) ∙ slice_get-map (give_in r) hs i ∙ ap (option_map (give_in r)) at in
      by (slice_get all i) refl name within
    where
      by : (found : Option OriginGive) → slice_get all i ≡ found → option_map Some found ≡ Some (give_in r h) → list_all (may_give (holds s frame.path (queue_point s frame.path frame.deeds))) all ≡ true
          → holds_queue frame h.number h.mode ≡ true
      by None none never within = absurd (cc)
      by (Some g) here is within =
          let own : give_in r h ≡ Some g = sym (same_Some (Some g) (give_in r h) is) in
          let origin : origin_in r h.mode h.number ≡ Some g.origin = name-origin h.mode (origin_in r h.mode h.number) g own in
          let mode : h.mode ≡ g.mode = name-mode h.mode (origin_in r h.mode h.number) g own in
          let made : queue_origin s state h.number ≡ Some g.origin =
          sym (fit h.number) ∙ sym (ap (λ b. cond b (slice_get r.queues h.number) (slice_get r.objects h.number)) queue) ∙ origin in
          let may = all_each (may_give (holds s frame.path (queue_point s frame.path frame.deeds))) all i g within here in
          (follows.tasks number frame live).rights h.number h.mode g.origin queue made ∙ ap (λ m. may_use (holds s frame.path (queue_point s frame.path frame.deeds)) m g.origin) mode ∙ may

  -- the frame may give its child these queues, and they are the script's
  pub gives-may : HasQueuesOnce hs → MayGive frame (queue_rights hs)
  gives-may apart = may-give-all frame hs apart each-may

  pub gives-next : NextSpawnGivesQueues s state frame (queue_rights hs)
  gives-next = record { all = all; next = next; queues = queues-named s state r fit hs all names }
