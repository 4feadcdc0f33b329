-- What the look at the front of a queue tells a frame that pops it.
use Rattle.std.proofs.Common.{◌≡◌, ◌≢◌, ℕ, ◌<◌, ◌≤◌, true, false, Option, Some, None, List, [], ◌∷◌, length, refl, sym, ap, subst, ◌∙◌, inl, inr, arith}
use Rattle.std.proofs.lemmas.Bool.{cases_Bool, cases_eq}
use Rattle.std.specs.Prelude.{slice_get}
use Rattle.slab.specs.Slab.{Slab}
use Rattle.pop_order.specs.Frames.{Frames}
use Rattle.pop_order.specs.Turns.{IsPoppingChild as PopsTurn}
use Rattle.swan_model.specs.declared.rights.Mode.TheVariants.{Pop, Push}
use Rattle.swan_model.specs.declared.script.Script.{Script}
use Rattle.swan_model.specs.declared.value.Value.{Value}
use Rattle.swan_model.specs.Lawful.{IsLawful}
use Rattle.swan_model.specs.QueueFollows.{next_item, origin_in, is_ripe_among}
use Rattle.swan_model.specs.QueueState.{ActiveFrame, QueueMaker, QueueState, active, holds_queue, HasTurn, IsPoppingChild}
use Rattle.swan_model.specs.Readings.{end_time}
use Rattle.queues.specs.Asks.{is_emptied, MayLook, MayUse, IsOnTurn}
use Rattle.queues.specs.Chunks.{Chunk, Chunks, HasOwners, IsOwner, Matches, without_spent}
use Rattle.queue_book.specs.Chains.{Link, AreChained, in_line, IsFront}
use Rattle.queue_book.specs.Fronts.{IsBare, IsFrontTold, IsTurnTold, first_open}
use Rattle.queue_book.specs.Live.{AreLive, is_pusher, key_at}
use Rattle.queues.specs.Tells.{FindsItem, FindsNone, IsFirstPusher, IsPopped, IsTested}
use Rattle.queues.specs.Tree.{has_queue, maker_path}
use Rattle.queue_book.specs.Whole.{IsBook, IsPlain}
use Rattle.queues.specs.declared.answers.Popped.TheVariants as popped
use Rattle.queues.specs.declared.answers.Tested.{Tested}
use Rattle.queues.specs.declared.answers.Tested.TheVariants as tested
use Rattle.queues.specs.declared.answers.WaitFor.TheVariants.{Child, Version, PopTurn, Pusher}
use Rattle.queue_book.specs.declared.chains.Front.TheVariants as front
use Rattle.queue_book.specs.declared.live_frames.LiveFrames.{LiveFrames}
use Rattle.queues.proofs.Above.{maker_of}
use Rattle.queue_book.proofs.ChainLoops.{line_same}
use Rattle.queues.proofs.Frames.{active_number, has_held}
use Rattle.queue_book.proofs.OpenOwners.{open_first_owner, open_found, open_own_chunk, owner_has, pushes_kept}
use Rattle.queues.proofs.Match.{holds_now, is_empty, none_pops, not_ripe}
use Rattle.queue_book.proofs.PlainDeeds.{plain_trim}
use Rattle.queue_book.proofs.PlainSaid.{on_queue, turn_on}
use Rattle.queues.proofs.TreeTurns.{earlier_owner_pushes, first_owner_is_first, one_owner}
use Rattle.queues.proofs.TurnsKept.{pops_active, pops_turn}
use Rattle.swan_model.proofs.Elements.{one_answer}

-- ---- the first chunk

pub record IsItemFirst (chunks : Chunks) : Type 0 where
  pub first : Chunk
  pub rest : Chunks
  pub are : chunks ≡ first ∷ rest
  pub value : Value
  pub item : slice_get first.items 0 ≡ Some value

pub item_first : (chunks : Chunks) → IsFront chunks front.Item → IsItemFirst chunks
item_first [] none = absurd none
item_first (chunk ∷ chunks) some = by chunk.items refl where
  by : (items : List Value) → chunk.items ≡ items → IsItemFirst (chunk ∷ chunks)
  by [] e = absurd (some e)
  by (item ∷ items) e = record { first = chunk; rest = chunks; are = refl; value = item; item = ap (λ (vs : List Value). slice_get vs 0) e }

pub record IsOpenFirst (chunks : Chunks) (owner : ℕ) : Type 0 where
  pub first : Chunk
  pub rest : Chunks
  pub are : chunks ≡ first ∷ rest
  pub owns : first.owner ≡ Some owner
  pub none : first.items ≡ []

pub open_first : (chunks : Chunks) (owner : ℕ) → IsFront chunks (front.Open owner) → IsOpenFirst chunks owner
open_first [] owner none = absurd none
open_first (chunk ∷ chunks) owner is = record { first = chunk; rest = chunks; are = refl; owns = is.0; none = is.1 }

-- where no item stands at the front, there is none, and the first chunk has an owner
pub bare_first : (chunks : Chunks) → (chunks ≡ [] → ⊥) → IsBare chunks → (owner : ℕ) × IsOpenFirst chunks owner
bare_first chunks some (inl is) = (is.0, open_first chunks is.0 is.1)
bare_first [] some (inr is) = absurd (some refl)
bare_first (chunk ∷ chunks) some (inr is) = absurd is

-- who uses a queue may look at it
abbrev pub look_of : (state : QueueState) (n q : ℕ) → MayUse state n q Pop → MayLook state n q
look_of state n q may = record { frame = may.act.frame; may = may.act.may; held = may.held }

-- ---- what a frame finds that pops the queue

module _ (name : Option Script) (state : QueueState) (frames : LiveFrames) (live : AreLive state frames) (lines : ℕ → Chunks) (is : IsPlain name state lines)
    (n q : ℕ) (may : MayLook state n q) (turn : IsOnTurn name state n) where
  pub has : has_queue may.frame q ≡ true
  has = has_held may.frame q Pop may.held

  pub made : (maker : QueueMaker) × (slice_get state.makers q ≡ Some maker)
  made = maker_of state is.tree n q may.frame may.may.live has

  pub owners : HasOwners state q (lines q)
  owners = (is.queues q made.0 made.1).owners

  pub own_chunk : (index : ℕ) × IsOwner state (lines q) index n
  own_chunk = owners.all n may.frame may.may.live has

  pub not_none : lines q ≡ [] → ⊥
  not_none none =
      let P : Chunks → Type 0 = λ chunks. IsOwner state chunks own_chunk.0 n in
      let own = subst P none own_chunk.1 in
      let never : None ≡ Some own.chunk = own.stands in
      cc

  not_emptied : is_emptied state q ≡ false
  not_emptied = elim (cases_Bool (is_emptied state q)) [
    | inl over ↦ absurd (not_none ((is.queues q made.0 made.1).emptied over))
    | inr left ↦ left
  ]

  pub matched : (s : Script) → name ≡ Some s → IsLawful s → Matches s state q (origin_in s made.0) (end_time s (maker_path made.0)) (lines q)
  matched = (is.queues q made.0 made.1).matches not_emptied (inr (n, may.frame, may.may.live, has))

  has_turn : (s : Script) → name ≡ Some s → HasTurn state may.frame
  has_turn s named = turn_on name state n s may.frame turn named may.may.live

  -- ---- the walk to the frame's own chunk

  -- whether an owner may push is as it is kept
  pushes_as : (index m : ℕ) (g : ActiveFrame) → IsOwner state (lines q) index m → active state m ≡ Some g → is_pusher frames m q ≡ holds_queue g q Push
  pushes_as index m g owns there = pushes_kept state frames live m q g there (owner_has state q (lines q) owners index m g owns there)

  pub first_pusher : (m : ℕ) → first_open frames n q (lines q) ≡ Some m → IsFirstPusher state may.frame q m
  first_pusher m met =
      let found = open_found frames n q (lines q) m met in
      let owner : IsOwner state (lines q) found.index m = record { chunk = found.chunk; stands = found.stands; owns = found.owns } in
      let g = owners.owners found.index m owner in
      first_owner_is_first state q (lines q) owners n own_chunk.0 may.frame may.may.live own_chunk.1 found.index m g.0
      (found.before own_chunk.0 own_chunk.1.chunk own_chunk.1.stands own_chunk.1.owns) owner g.1
      (sym (pushes_as found.index m g.0 owner g.1) ∙ found.pushes)
      (λ before k frame less theirs there. sym (pushes_as before k frame theirs there) ∙ found.none before k theirs.chunk less theirs.stands theirs.owns)

  module _ (alone : (child : ℕ) → ¬ IsPoppingChild state n q child) where
    pub finds_item : (some : IsItemFirst (lines q)) (s : Script) → name ≡ Some s → IsLawful s
        → (next_item s may.frame (origin_in s made.0) ≡ Some some.value) × FindsItem may.frame s (origin_in s made.0)
    finds_item some s named lawful =
        let P : Chunks → Type 0 = λ chunks. Matches s state q (origin_in s made.0) (end_time s (maker_path made.0)) chunks in
        let Q : Chunks → Type 0 = λ chunks. IsOwner state chunks own_chunk.0 n in
        let R : Chunks → Type 0 = λ chunks. HasOwners state q chunks in
        holds_now s state q (origin_in s made.0) (end_time s (maker_path made.0)) some.first some.rest (subst P some.are (matched s named lawful)) own_chunk.0 n may.frame
        (subst Q some.are own_chunk.1) may.may.live may.held
        (none_pops state q (some.first ∷ some.rest) n own_chunk.0 may.frame is.tree (is.spawners s named) (subst R some.are owners) may.may (has_turn s named) may.held alone
        (subst Q some.are own_chunk.1))
        some.value some.item

    -- Where there is a script, another owner of the first chunk may push, and so the walk ends there.
    module _ (s : Script) (named : name ≡ Some s) (m : ℕ) (theirs : IsOpenFirst (lines q) m) (differ : m ≢ n) where
      first_own : IsOwner state (theirs.first ∷ theirs.rest) 0 m
      first_own = record { chunk = theirs.first; stands = refl; owns = theirs.owns }

      now_owners : HasOwners state q (theirs.first ∷ theirs.rest)
      now_owners = let R : Chunks → Type 0 = λ chunks. HasOwners state q chunks in subst R theirs.are owners

      now_own : IsOwner state (theirs.first ∷ theirs.rest) own_chunk.0 n
      now_own = let Q : Chunks → Type 0 = λ chunks. IsOwner state chunks own_chunk.0 n in subst Q theirs.are own_chunk.1

      before : 0 < own_chunk.0
      before = elim (cases_eq own_chunk.0 0) [
        | inl here ↦
            let Q : ℕ → Type 0 = λ i. IsOwner state (theirs.first ∷ theirs.rest) i n in
            absurd (differ (one_owner state (theirs.first ∷ theirs.rest) 0 m n first_own (subst Q here now_own)))
        | inr other ↦ omega arith
      ]

      pusher : (f : ActiveFrame) × (active state m ≡ Some f) × (has_queue f q ≡ true)
      pusher = now_owners.owners 0 m first_own

      pushes : holds_queue pusher.0 q Push ≡ true
      pushes =
          earlier_owner_pushes state q (theirs.first ∷ theirs.rest) n may.frame own_chunk.0 0 m pusher.0 is.tree (is.spawners s named) now_owners may.may (has_turn s named) may.held alone
          now_own first_own before pusher.1

      pub met_first : first_open frames n q (lines q) ≡ Some m
      met_first =
          ap (first_open frames n q) theirs.are
          ∙ open_first_owner frames n q m (theirs.first) (theirs.rest) theirs.owns differ (pushes_kept state frames live m q pusher.0 pusher.1 pusher.2 ∙ pushes)

      pub item_not_ripe : IsLawful s → is_ripe_among s state may.frame q (origin_in s made.0) ≡ false
      item_not_ripe lawful =
          let P : Chunks → Type 0 = λ chunks. Matches s state q (origin_in s made.0) (end_time s (maker_path made.0)) chunks in
          not_ripe s state q (origin_in s made.0) (end_time s (maker_path made.0)) theirs.first theirs.rest (subst P theirs.are (matched s named lawful)) own_chunk.0 n may.frame now_own
          may.may.live may.held
          (none_pops state q (theirs.first ∷ theirs.rest) n own_chunk.0 may.frame is.tree (is.spawners s named) now_owners may.may (has_turn s named) may.held alone now_own)
          m pusher.0 theirs.owns pusher.1 differ pushes theirs.none

    -- whose the first chunk is, where no item stands at the front
    module _ (bare : IsBare (lines q)) (s : Script) (named : name ≡ Some s) (lawful : IsLawful s) where
      first : (owner : ℕ) × IsOpenFirst (lines q) owner
      first = bare_first (lines q) not_none bare

      pub finds_none : first_open frames n q (lines q) ≡ None → FindsNone may.frame s (origin_in s made.0)
      finds_none met = elim (cases_eq first.0 n) [
        | inl own ↦
            let P : Chunks → Type 0 = λ chunks. Matches s state q (origin_in s made.0) (end_time s (maker_path made.0)) chunks in
            let open_own = first.1 in
            is_empty s state q (origin_in s made.0) (end_time s (maker_path made.0)) open_own.first open_own.rest (subst P open_own.are (matched s named lawful)) n may.frame
            may.may.live may.held (open_own.owns ∙ ap Some own) open_own.none
        | inr differ ↦ let never : None ≡ Some first.0 = sym met ∙ met_first s named first.0 first.1 differ in absurd (cc)
      ]

      pub not_ripe_yet : (m : ℕ) → first_open frames n q (lines q) ≡ Some m → is_ripe_among s state may.frame q (origin_in s made.0) ≡ false
      not_ripe_yet m met = elim (cases_eq first.0 n) [
        | inl own ↦
            let open_own = first.1 in
            let never : None ≡ Some m =
            sym (open_own_chunk frames n q open_own.first open_own.rest (open_own.owns ∙ ap Some own)) ∙ ap (first_open frames n q) (sym open_own.are) ∙ met in
            absurd (cc)
        | inr differ ↦ item_not_ripe s named first.0 first.1 differ lawful
      ]

-- ---- what is told

module _ (name : Option Script) (state : QueueState) (frames : LiveFrames) (heads : List (Option ℕ)) (nodes : Slab Link) (turns : Frames) (is : IsBook name state frames heads nodes turns)
    (n q : ℕ) (may : MayLook state n q) where
  pub known : q < length heads
  known = let less = (is.plain.tree.held n q may.frame may.may.live (has_held may.frame q Pop may.held)).0 in omega (arith, is.count, less)

  pub trim : IsPlain name state (in_line q without_spent is.lines)
  trim = plain_trim name state is.lines q is.plain

  pub line : in_line q without_spent is.lines q ≡ without_spent (is.lines q)
  line = line_same q without_spent is.lines

  has_it : has_queue may.frame q ≡ true
  has_it = has_held may.frame q Pop may.held

  pub alone_by : ((other : ℕ) → ¬ PopsTurn turns n q other) → (child : ℕ) → ¬ IsPoppingChild state n q child
  alone_by none child pops = none child (pops_turn state is.plain.tree turns is.turned n q may.frame may.may.live has_it child pops)

  -- the value after the look
  module _ (after_heads : List (Option ℕ)) (after_nodes : Slab Link) (same : length after_heads ≡ length heads) where
    pub book_trimmed : AreChained (key_at frames) after_heads after_nodes (in_line q without_spent is.lines) → IsBook name state frames after_heads after_nodes turns
    book_trimmed chained = record { lines = in_line q without_spent is.lines; plain = trim; live = is.live; count = same ∙ is.count; chained = chained; turned = is.turned }

    pub book_looked : (answer : Tested) → IsFrontTold frames (key_at frames) after_heads after_nodes is.lines n q answer → IsBook name state frames after_heads after_nodes turns
    book_looked (tested.NotYet (PopTurn m)) told = record { lines = is.lines; plain = is.plain; live = is.live; count = same ∙ is.count; chained = told; turned = is.turned }
    book_looked (tested.NotYet (Pusher m)) told = book_trimmed told.0
    book_looked tested.Holds told = book_trimmed told.0
    book_looked tested.Empty told = book_trimmed told.0
    book_looked (tested.NotYet (Child m)) told = absurd told
    book_looked (tested.NotYet (Version m)) told = absurd told

    module _ (turn : IsOnTurn name state n) where
      now_none : (chunks : Chunks) → chunks ≡ without_spent (is.lines q) → IsBare (without_spent (is.lines q)) → IsBare chunks
      now_none chunks are bare = let P : Chunks → Type 0 = λ cs. IsBare cs in subst P (sym are) bare

      -- the answer
      pub looked : (answer : Tested) → IsTurnTold turns n q answer → IsFrontTold frames (key_at frames) after_heads after_nodes is.lines n q answer → IsTested name state may.frame q answer
      looked (tested.NotYet (PopTurn m)) turned told =
          let number : may.frame.number ≡ n = active_number state n may.frame may.may.live in
          let P : ℕ → Type 0 = λ k. IsPoppingChild state k q m × ((other : ℕ) → IsPoppingChild state k q other → m ≤ other) in
          subst P (sym number) (
            pops_active state is.plain.tree turns is.turned n q may.frame may.may.live has_it m turned.0,
            λ other pops. turned.1 other (pops_turn state is.plain.tree turns is.turned n q may.frame may.may.live has_it other pops),
          )
      looked (tested.NotYet (Pusher m)) turned told =
          let number : may.frame.number ≡ n = active_number state n may.frame may.may.live in
          let alone = alone_by turned in
          let lines = in_line q without_spent is.lines in
          let met : first_open frames n q (in_line q without_spent is.lines q) ≡ Some m = ap (first_open frames n q) line ∙ told.2 in
          let maker = made name state frames is.live (in_line q without_spent is.lines) trim n q may turn in
          let Q : ℕ → Type 0 = λ k. (other : ℕ) → ¬ IsPoppingChild state k q other in (
            subst Q (sym number) alone,
            first_pusher name state frames is.live (in_line q without_spent is.lines) trim n q may turn m met,
            on_queue name state q maker.0 (λ s origin. is_ripe_among s state may.frame q origin ≡ false) maker.1
                (λ s named lawful. not_ripe_yet name state frames is.live (in_line q without_spent is.lines) trim n q may turn alone (now_none _ line told.1) s named lawful m met),
          )
      looked tested.Holds turned told =
          let alone = alone_by turned in
          let P : Chunks → Type 0 = λ chunks. IsItemFirst chunks in
          let first : IsItemFirst (in_line q without_spent is.lines q) = subst P (sym line) (item_first (without_spent (is.lines q)) told.1) in
          let maker = made name state frames is.live (in_line q without_spent is.lines) trim n q may turn in
          on_queue name state q maker.0 (FindsItem may.frame) maker.1
          (λ s named lawful. (finds_item name state frames is.live (in_line q without_spent is.lines) trim n q may turn alone first s named lawful).1)
      looked tested.Empty turned told =
          let alone = alone_by turned in
          let met : first_open frames n q (in_line q without_spent is.lines q) ≡ None = ap (first_open frames n q) line ∙ told.2 in
          let maker = made name state frames is.live (in_line q without_spent is.lines) trim n q may turn in
          on_queue name state q maker.0 (FindsNone may.frame) maker.1
          (λ s named lawful. finds_none name state frames is.live (in_line q without_spent is.lines) trim n q may turn alone (now_none _ line told.1) s named lawful met)
      looked (tested.NotYet (Child m)) turned told = absurd told
      looked (tested.NotYet (Version m)) turned told = absurd told

      pub looked_all : (answer : Tested) → IsTurnTold turns n q answer → IsFrontTold frames (key_at frames) after_heads after_nodes is.lines n q answer
          → (f : ActiveFrame) → active state n ≡ Some f → IsTested name state f q answer
      looked_all answer turned told f live =
          let same_one : may.frame ≡ f = one_answer (active state n) may.frame f may.may.live live in
          let P : ActiveFrame → Type 0 = λ g. IsTested name state g q answer in
          subst P same_one (looked answer turned told)

    -- what a pop finds
    pub found_item : IsFrontTold frames (key_at frames) after_heads after_nodes is.lines n q tested.Holds → IsItemFirst (in_line q without_spent is.lines q)
    found_item told = let P : Chunks → Type 0 = λ chunks. IsItemFirst chunks in subst P (sym line) (item_first (without_spent (is.lines q)) told.1)

    pub popped_all : IsOnTurn name state n → IsTurnTold turns n q tested.Holds → (told : IsFrontTold frames (key_at frames) after_heads after_nodes is.lines n q tested.Holds) (value : Value)
        → value ≡ (found_item told).value → (f : ActiveFrame) → active state n ≡ Some f → IsPopped name state f q (popped.Item value)
    popped_all turn turned told value value_is f live =
        let same_one : may.frame ≡ f = one_answer (active state n) may.frame f may.may.live live in
        let maker = made name state frames is.live (in_line q without_spent is.lines) trim n q may turn in
        let P : ActiveFrame → Type 0 = λ g. IsPopped name state g q (popped.Item value) in
        let Q : Value → Type 0 = λ v. IsPopped name state may.frame q (popped.Item v) in
        subst P same_one (subst Q (sym value_is)
        (on_queue name state q maker.0 (λ s origin. (next_item s may.frame origin ≡ Some (found_item told).value) × FindsItem may.frame s origin) maker.1
        (λ s named lawful. finds_item name state frames is.live (in_line q without_spent is.lines) trim n q may turn (alone_by turned) (found_item told) s named lawful)))
