-- Where a frame has its turn to pop a queue, no earlier frame pops it: those that have the queue push to it. And, whatever
-- its turn, the first owner before its own chunk that may push is its first earlier pusher.
use Rattle.std.proofs.Common.{◌≡◌, ◌⊎◌, inl, inr, ℕ, ◌<◌, ◌≤◌, true, false, Some, List, [], sym, ap, subst, ◌∙◌, arith}
use Rattle.std.proofs.lemmas.Bool.{cases_lt, cases_order, false_from_ne_true, false≢true}
use Rattle.std.proofs.lemmas.Option.{same_Some}
use Rattle.swan_model.specs.declared.rights.Mode.TheVariants.{Push, Pop}
use Rattle.swan_model.specs.PathOrder.{comes_before}
use Rattle.swan_model.specs.QueueState.{ActiveFrame, QueueState, active, HasTurn, holds_queue, IsOlderPopper, IsPoppingChild, MayAct}
use Rattle.swan_model.proofs.PathOrder.{how_before, IsAside, IsBelow}
use Rattle.queues.specs.Chunks.{Chunk, Chunks, HasOwners, IsOwner}
use Rattle.queues.specs.Tells.{IsFirstPusher}
use Rattle.queues.specs.Tree.{SpawnersHaveTurns, IsTree, has_queue}
use Rattle.queues.proofs.Above.{climb, held_above, IsOnWay, maker_aside, maker_below, maker_of, same_front}
use Rattle.queues.proofs.Frames.{active_number, has_held, pushes_or_pops}
use Rattle.swan_model.proofs.Elements.{one_answer}

module _ (state : QueueState) (tree : IsTree state) (spawners : SpawnersHaveTurns state) (queue n : ℕ) (f : ActiveFrame) (may : MayAct state n f)
    (turn : HasTurn state f) (pops : holds_queue f queue Pop ≡ true) (alone : (c : ℕ) → ¬ IsPoppingChild state n queue c) where
  abbrev Pops : ActiveFrame → Type 0
  Pops frame = holds_queue frame queue Pop ≡ true

  no_popper_below : (m : ℕ) (g : ActiveFrame) → active state m ≡ Some g → Pops g → IsBelow g.path f.path → ⊥
  no_popper_below m g live too below =
      let has = has_held f queue Pop pops in
      let maker = maker_of state tree n queue f may.live has in
      let up = held_above state tree queue Pop maker.0 f.path below.number maker.1 (maker_below state tree queue n f maker.0 below.number may.live has maker.1) in
      let way = climb state tree Pops f.path below.number up m g below.rest live below.is too in
      let same : way.parent ≡ n = tree.different way.parent n way.above f way.above_live may.live way.above_path in
      alone way.number (record { frame = way.child; live = way.live; of = way.of ∙ ap Some same; pops = way.told })

  -- an older sibling on the way to a popper that parts from the frame
  older_popper : (top : List ℕ) (part later m : ℕ) → part < later → (a : IsOnWay state tree Pops top part m) → (b : IsOnWay state tree Pops top later n)
      → IsOlderPopper state b.child a.number
  older_popper top part later m less a b =
      let one : a.parent ≡ b.parent = tree.different a.parent b.parent a.above b.above a.above_live b.above_live (a.above_path ∙ sym b.above_path) in
      let own = active_number state b.number b.child b.live in
      let before : a.number < b.number = elim (cases_order a.number b.number) [
        | inl same ↦
            let P : ℕ → Type 0 = λ k. active state k ≡ Some a.child in
            let child = one_answer (active state b.number) a.child b.child (subst P same a.live) b.live in
            let both = same_front top part later [] [] (sym a.path ∙ ap (λ (g : ActiveFrame). g.path) child ∙ b.path) in
            absurd (omega arith)
        | inr differ ↦ elim differ [
          | inl early ↦ early
          | inr late ↦
              let order = tree.siblings b.number a.number later part b.child a.child top b.live a.live b.path a.path late in
              absurd (omega arith)
        ]
      ] in
      record {
        older = a.child;
        live = a.live;
        parent = b.parent;
        of = b.of;
        sibling = a.of ∙ ap Some one;
        before = omega arith;
        queue = queue;
        pops = b.told;
        pops_too = a.told;
      }

  -- who has its turn, or had it, isn't kept from popping by an older sibling
  had_turn : (top : List ℕ) (later m : ℕ) → (b : IsOnWay state tree Pops top later n) → IsOlderPopper state b.child m → ⊥
  had_turn top later m b older = by b.reached where
    by : (b.number ≡ n) ⊎ (0 < b.child.children) → ⊥
    by (inl same) =
        let P : ℕ → Type 0 = λ k. active state k ≡ Some b.child in
        let one = one_answer (active state n) b.child f (subst P same b.live) may.live in
        let Q : ActiveFrame → Type 0 = λ g. IsOlderPopper state g m in
        turn m (subst Q one older)
    by (inr some) = spawners.turns b.number b.child b.live some m older

  no_popper_aside : (m : ℕ) (g : ActiveFrame) → active state m ≡ Some g → Pops g → IsAside g.path f.path → ⊥
  no_popper_aside m g live too aside =
      let has = has_held f queue Pop pops in
      let less = aside.less in
      let maker = maker_of state tree n queue f may.live has in
      let up = held_above state tree queue Pop maker.0 aside.above aside.number maker.1
      (maker_aside state tree queue n f maker.0 aside.above aside.more aside.number aside.later may.live has maker.1 aside.also (λ same. absurd (omega arith))) in
      let up_too = held_above state tree queue Pop maker.0 aside.above aside.later maker.1
      (maker_aside state tree queue m g maker.0 aside.above aside.rest aside.later aside.number live (has_held g queue Pop too) maker.1 aside.is (λ same. absurd (omega arith))) in
      let a = climb state tree Pops aside.above aside.number up m g aside.rest live aside.is too in
      let b = climb state tree Pops aside.above aside.later up_too n f aside.more may.live aside.also pops in
      had_turn aside.above aside.later a.number b (older_popper aside.above aside.number aside.later m less a b)

  -- No frame that comes before it pops the queue.
  pub earlier_pops_not : (m : ℕ) (g : ActiveFrame) → active state m ≡ Some g → comes_before g.path f.path ≡ true → holds_queue g queue Pop ≡ false
  earlier_pops_not m g live before = false_from_ne_true (holds_queue g queue Pop) (λ too. elim (how_before g.path f.path before) [
    | inl below ↦ no_popper_below m g live too below
    | inr aside ↦ no_popper_aside m g live too aside
  ])

  -- Where it has the queue, it pushes to it.
  pub earlier_pushes : (m : ℕ) (g : ActiveFrame) → active state m ≡ Some g → comes_before g.path f.path ≡ true → has_queue g queue ≡ true → holds_queue g queue Push ≡ true
  earlier_pushes m g live before has = elim (pushes_or_pops g queue (λ mode held. tree.modes m queue g mode live held) has) [
    | inl push ↦ push
    | inr too ↦ elim (how_before g.path f.path before) [
      | inl below ↦ absurd (no_popper_below m g live too below)
      | inr aside ↦ absurd (no_popper_aside m g live too aside)
    ]
  ]

-- a chunk has one owner
pub one_owner : (state : QueueState) (chunks : Chunks) (index number other : ℕ) → IsOwner state chunks index number → IsOwner state chunks index other → number ≡ other
one_owner state chunks index number other a b =
    let chunk = same_Some a.chunk b.chunk (sym a.stands ∙ b.stands) in
    same_Some number other (sym a.owns ∙ ap (λ (c : Chunk). c.owner) chunk ∙ b.owns)

-- ---- the owners of chunks before its own

module _ (state : QueueState) (queue : ℕ) (chunks : Chunks) (n : ℕ) (f : ActiveFrame) (i j m : ℕ) (g : ActiveFrame)
    (tree : IsTree state) (spawners : SpawnersHaveTurns state) (owners : HasOwners state queue chunks) (may : MayAct state n f) (turn : HasTurn state f)
    (pops : holds_queue f queue Pop ≡ true) (alone : (c : ℕ) → ¬ IsPoppingChild state n queue c) (own : IsOwner state chunks i n)
    (other : IsOwner state chunks j m) (before : j < i) (live : active state m ≡ Some g) where
  comes_earlier : comes_before g.path f.path ≡ true
  comes_earlier = owners.order j i m n g f before other own live may.live

  pub earlier_owner_is_no_popper : holds_queue g queue Pop ≡ false
  earlier_owner_is_no_popper = earlier_pops_not state tree spawners queue n f may turn pops alone m g live comes_earlier

  pub earlier_owner_pushes : holds_queue g queue Push ≡ true
  earlier_owner_pushes =
      let has = owners.owners j m other in
      let P : ActiveFrame → Type 0 = λ h. has_queue h queue ≡ true in
      earlier_pushes state tree spawners queue n f may turn pops alone m g live comes_earlier (subst P (one_answer (active state m) has.0 g has.1 live) has.2)

-- ---- those of them that push

-- No owner of a chunk before this index may push.
abbrev pub NonePushes : QueueState → ℕ → Chunks → ℕ → Type 0
NonePushes state queue chunks index =
    (before n : ℕ) (frame : ActiveFrame) → before < index → IsOwner state chunks before n → active state n ≡ Some frame → holds_queue frame queue Push ≡ false

module _ (state : QueueState) (queue : ℕ) (chunks : Chunks) (owners : HasOwners state queue chunks) where
  -- who may push, where none before this index may, owns the chunk at it or behind it
  pub owns_from : (index number : ℕ) (frame : ActiveFrame) → NonePushes state queue chunks index → active state number ≡ Some frame → holds_queue frame queue Push ≡ true
      → (place : ℕ) × IsOwner state chunks place number × (index ≤ place)
  owns_from index number frame none live pushes =
      let place = owners.all number frame live (has_held frame queue Push pushes) in (
        place.0,
        place.1,
        elim (cases_lt place.0 index) [
          | inl early ↦ absurd (false≢true (sym (none place.0 number frame early place.1 live) ∙ pushes))
          | inr late ↦ late
        ],
      )

  module _ (n i : ℕ) (f : ActiveFrame) (live : active state n ≡ Some f) (own : IsOwner state chunks i n) where
    -- The first owner before the frame's chunk that may push is the frame's first earlier pusher.
    pub first_owner_is_first : (j m : ℕ) (g : ActiveFrame) → j < i → IsOwner state chunks j m → active state m ≡ Some g → holds_queue g queue Push ≡ true
        → NonePushes state queue chunks j → IsFirstPusher state f queue m
    first_owner_is_first j m g before first theirs pushes none = record {
      is = record { other = g; live = theirs; earlier = owners.order j i m n g f before first own theirs live; pushes = pushes };
      first = λ number a apart.
          let place = owns_from j number a.other none a.live a.pushes in
          elim (cases_order j place.0) [
            | inl same ↦
                let P : ℕ → Type 0 = λ k. IsOwner state chunks k number in
                absurd (apart (one_owner state chunks j number m (subst P (sym same) place.1) first))
            | inr differ ↦ elim differ [
              | inl later ↦ owners.order j place.0 m number g a.other later first place.1 theirs a.live
              | inr early ↦ let from = place.2 in absurd (omega arith)
            ]
          ];
    }
