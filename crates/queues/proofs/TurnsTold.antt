-- What the turns of poppers tell of the frames of a state: who comes first, who keeps whom from starting, and what the answers
-- of the turns mean.
use Rattle.std.proofs.Common.{◌≡◌, ◌≢◌, inl, inr, ℕ, ◌<◌, ◌≤◌, true, Some, Result, Ok, Err, IfErr, OnOk, List, [], ◌∷◌, ◌++◌, sym, ap, subst, ◌∙◌, append_assoc, append-nil, arith}
use Rattle.std.proofs.lemmas.Bool.{cases_order}
use Rattle.std.proofs.lemmas.Option.{same_Some}
use Rattle.std.specs.Prelude.{slice_get}
use Rattle.pop_order.specs.Frames.{Frames, TurnFrame, frame_at}
use Rattle.pop_order.specs.Order.{IsChild, IsAtOrBelow, at, below, ComesBefore, inside, aside}
use Rattle.pop_order.specs.Turns.{Blocks, IsAnswer, IsHolder, IsEarlierPusher as IsEarlierTurn}
use Rattle.pop_order.specs.declared.certain.Certain.{Certain}
use Rattle.pop_order.specs.declared.certain.Certain.TheVariants.{Yes, EarlierPusher, PoppingChild}
use Rattle.pop_order.proofs.Lineage.{below_below}
use Rattle.swan_model.specs.declared.rights.Mode.{Mode}
use Rattle.swan_model.specs.declared.rights.Mode.TheVariants.{Push, Pop}
use Rattle.swan_model.specs.PathOrder.{comes_before}
use Rattle.swan_model.specs.QueueFollows.{IsChildOf}
use Rattle.swan_model.specs.QueueState.{ActiveFrame, HasTurn, IsEarlierPusher, IsOlderPopper, IsPoppingChild, QueueMaker, QueueState, active, holds_queue}
use Rattle.swan_model.proofs.PathOrder.{before-below, before-parent, how_before, IsAside, IsBelow, left-before, left-below, left-below_other, left-sibling, not_before-under}
use Rattle.queues.specs.Tells.{IsBlockedBy}
use Rattle.queues.specs.Tree.{IsTree, has_queue, maker_path}
use Rattle.queues.specs.Turned.{AreTurns, IsToldBy}
use Rattle.queues.proofs.Above.{Climbs, climb, held_above, IsOnWay, maker_aside, maker_below, maker_of, same_front, under_maker}
use Rattle.queues.proofs.Frames.{active_number, has_held, some_mode}
use Rattle.queues.proofs.TurnsKept.{pops_active, pops_turn}
use Rattle.swan_model.proofs.Elements.{one_answer}

module _ (state : QueueState) (tree : IsTree state) (turns : Frames) (are : AreTurns state turns) where
  -- ---- from the turns to the frames

  -- a frame whose turn is kept is active, and was spawned by its parent there
  record IsThere (parent number : ℕ) : Type 0 where
    pub frame : ActiveFrame
    pub live : active state number ≡ Some frame
    pub from : IsChildOf state frame parent

  there : (parent number : ℕ) → IsChild turns parent number → IsThere parent number
  there parent number is =
      let was = are.known number is.frame is.active in
      record { frame = was.0; live = was.1; from = tree.spawned number parent was.0 was.1 (was.2 ∙ ap Some is.of) }

  -- the path of a frame that is at another one or below it begins with that one's
  under_top : (top number : ℕ) (a b : ActiveFrame) → IsAtOrBelow turns top number → active state top ≡ Some a → active state number ≡ Some b → (rest : List ℕ) × (b.path ≡ a.path ++ rest)
  under_top top number a b at one two = ([], ap (λ (f : ActiveFrame). f.path) (one_answer (active state top) b a two one) ∙ sym (append-nil a.path))
  under_top top number a b (below parent _ child up) one two =
      let here = there parent number child in
      let same = one_answer (active state number) b here.frame two here.live in
      let higher = under_top top parent a here.from.above up one here.from.live in (
        higher.0 ++ here.from.index ∷ [],
        ap (λ (f : ActiveFrame). f.path) same ∙ here.from.path ∙ ap (λ p. p ++ here.from.index ∷ []) higher.1 ∙ append_assoc a.path higher.0 (here.from.index ∷ []),
      )

  -- Who comes first by the turns comes first by its path.
  pub turns_before : (number other : ℕ) (a b : ActiveFrame) → ComesBefore turns number other → active state number ≡ Some a → active state other ≡ Some b → comes_before a.path b.path ≡ true
  turns_before number other a b (inside apart up) one two =
      let under = under_top other number b a up two one in
      by under.0 under.1
    where
      by : (rest : List ℕ) → a.path ≡ b.path ++ rest → comes_before a.path b.path ≡ true
      by [] is = absurd (apart (tree.different number other a b one two (is ∙ append-nil b.path)))
      by (part ∷ rest) is =
          ap (λ p. comes_before p b.path) (is ∙ sym (append_assoc b.path (part ∷ []) rest))
          ∙ before-below (b.path ++ part ∷ []) b.path rest (before-parent b.path part)
  turns_before number other a b (aside parent older younger c d less up up_too) one two =
      let x = there parent older c in
      let y = there parent younger d in
      let same = one_answer (active state parent) y.from.above x.from.above y.from.live x.from.live in
      let top = x.from.above.path in
      let first : List ℕ = top ++ x.from.index ∷ [] in
      let second : List ℕ = top ++ y.from.index ∷ [] in
      let is_second : y.frame.path ≡ second = y.from.path ∙ ap (λ (f : ActiveFrame). f.path ++ y.from.index ∷ []) same in
      let order = tree.siblings older younger x.from.index y.from.index x.frame y.frame top x.live y.live x.from.path is_second less in
      let under = under_top older number x.frame a up x.live one in
      let under_too = under_top younger other y.frame b up_too y.live two in
      let left = left-below_other (first ++ under.0) second under_too.0 (left-below first second under.0 (left-sibling top x.from.index y.from.index order)) in
      ap (λ p. comes_before p b.path) (under.1 ∙ ap (λ p. p ++ under.0) x.from.path)
      ∙ ap (comes_before (first ++ under.0)) (under_too.1 ∙ ap (λ p. p ++ under_too.0) is_second)
      ∙ left-before (first ++ under.0) (second ++ under_too.0) left

  -- Who keeps a frame from starting is active, and comes before it.
  pub blocker_before : (number older : ℕ) (frame : ActiveFrame) → active state number ≡ Some frame → Blocks turns number older
      → (f : ActiveFrame) × (active state older ≡ Some f) × (comes_before f.path frame.path ≡ true)
  blocker_before number older frame live is =
      let f = there is.parent older is.older in
      (f.frame, f.live, turns_before older number f.frame frame (aside is.parent older number is.older is.younger is.before at at) f.live live)

  -- ---- from the frames to the turns

  module _ (number : ℕ) (frame : ActiveFrame) (live : active state number ≡ Some frame) (older : ℕ) (is : IsOlderPopper state frame older) where
    own : frame.number ≡ number
    own = active_number state number frame live

    mine : IsChildOf state frame is.parent
    mine = tree.spawned number is.parent frame live is.of

    theirs : IsChildOf state is.older is.parent
    theirs = tree.spawned older is.parent is.older is.live is.sibling

    path_of : is.older.path ≡ mine.above.path ++ theirs.index ∷ []
    path_of = theirs.path ∙ ap (λ (f : ActiveFrame). f.path ++ theirs.index ∷ []) (one_answer (active state is.parent) theirs.above mine.above theirs.live mine.live)

    -- siblings have different indexes
    apart : theirs.index ≡ mine.index → ⊥
    apart same =
        let one = tree.different older number is.older frame is.live live (path_of ∙ ap (λ k. mine.above.path ++ k ∷ []) same ∙ sym mine.path) in
        let before = is.before in
        omega (arith, one, own, before)

    blocks : Blocks turns number older
    blocks =
        let a = are.all number is.parent is.queue Pop frame live is.of is.pops (λ maker made here.
        maker_aside state tree is.queue older is.older maker mine.above.path [] mine.index theirs.index is.live (has_held is.older is.queue Pop is.pops_too) made path_of
        (λ same. apart (sym same)) [] (sym here ∙ mine.path)) in
        let b = are.all older is.parent is.queue Pop is.older is.live is.sibling is.pops_too (λ maker made here.
        maker_aside state tree is.queue number frame maker mine.above.path [] theirs.index mine.index live (has_held frame is.queue Pop is.pops) made mine.path
        apart [] (sym here ∙ path_of)) in
        record {
          parent = is.parent;
          younger = record { frame = a.0; active = a.1; of = a.2 };
          older = record { frame = b.0; active = b.1; of = b.2 };
          before = let less = is.before in omega (arith, less, own);
          queue = is.queue;
          both = record { frame = a.0; active = a.1; held = a.3 };
          pops = record { frame = b.0; active = b.1; held = b.3 };
        }

  -- Who keeps a frame from starting by the turns is an older sibling that pops what it pops, and all of those do.
  pub blocked : (number older : ℕ) → Blocks turns number older → IsBlockedBy state number older
  blocked number older is =
      let mine_is = are.known number is.both.frame is.both.active in
      let theirs_is = are.known older is.pops.frame is.pops.active in
      let same = one_answer (frame_at turns number) is.both.frame is.younger.frame is.both.active is.younger.active in
      let same_too = one_answer (frame_at turns older) is.pops.frame is.older.frame is.pops.active is.older.active in
      record {
        frame = mine_is.0;
        live = mine_is.1;
        by = record {
          older = theirs_is.0;
          live = theirs_is.1;
          parent = is.parent;
          of = mine_is.2 ∙ ap (λ (t : TurnFrame). Some t.parent) same ∙ ap Some is.younger.of;
          sibling = theirs_is.2 ∙ ap (λ (t : TurnFrame). Some t.parent) same_too ∙ ap Some is.older.of;
          before = let less = is.before in let own_is = active_number state number mine_is.0 mine_is.1 in omega (arith, less, own_is);
          queue = is.queue;
          pops = mine_is.3 is.queue Pop is.both.held;
          pops_too = theirs_is.3 is.queue Pop is.pops.held;
        };
      }

  pub blocks_too : (number older : ℕ) → IsBlockedBy state number older → Blocks turns number older
  blocks_too number older is = blocks number is.frame is.live older is.by

  -- What the turns answer of a child that wants to start is so among the frames.
  pub start_told : {T : Type 0} (child : ℕ) (answer : Result T ℕ) → OnOk answer ((older : ℕ) → ¬ Blocks turns child older)
      → OnOk answer ((older : ℕ) → ¬ IsBlockedBy state child older)
  start_told child (Ok value) none = λ older is. none older (blocks_too child older is)
  start_told child (Err older) none = none

  pub blocker_told : {T : Type 0} (child : ℕ) (answer : Result T ℕ) → IfErr answer (Blocks turns child) → IfErr answer (IsBlockedBy state child)
  blocker_told child (Ok value) is = is
  blocker_told child (Err older) is = blocked child older is

  pub oldest_told : {T : Type 0} (child : ℕ) (answer : Result T ℕ) → IfErr answer (λ older. (other : ℕ) → Blocks turns child other → older ≤ other)
      → IfErr answer (λ older. (other : ℕ) → IsBlockedBy state child other → older ≤ other)
  oldest_told child (Ok value) least = least
  oldest_told child (Err older) least = λ other is. least other (blocks_too child other is)

  -- Where the turns let a frame start, it has its turn.
  pub has_turn : (number : ℕ) (frame : ActiveFrame) → active state number ≡ Some frame → ((older : ℕ) → ¬ Blocks turns number older) → HasTurn state frame
  has_turn number frame live none older is = none older (blocks number frame live older is)

  -- a frame may use a queue by a mode, and another frame is at it or below it by the turns
  abbrev Leads : (queue : ℕ) → Mode → (from : ℕ) → ActiveFrame → Type 0
  Leads queue mode from frame = (holds_queue frame queue mode ≡ true) × IsAtOrBelow turns frame.number from

  module _ (queue : ℕ) (mode : Mode) (maker : QueueMaker) (top : List ℕ) (part : ℕ) (made : slice_get state.makers queue ≡ Some maker)
      (elsewhere : (rest : List ℕ) → maker_path maker ≡ top ++ part ∷ rest → ⊥) (from : ℕ) where
    -- who may use the queue below its maker was given it
    given_child : (number parent : ℕ) (frame : ActiveFrame) (rest : List ℕ) → active state number ≡ Some frame → frame.parent ≡ Some parent
        → frame.path ≡ top ++ part ∷ rest → holds_queue frame queue mode ≡ true → IsChild turns parent number
    given_child number parent frame rest live of path held =
        let turn = are.all number parent queue mode frame live of held (λ other stands own.
        elsewhere rest (ap maker_path (same_Some maker other (sym made ∙ stands)) ∙ sym own ∙ path)) in
        record { frame = turn.0; active = turn.1; of = turn.2 }

    leads_up : Climbs state tree (Leads queue mode from) top part
    leads_up number parent frame above rest live of alive path told =
        let spawn = tree.spawned number parent frame live of in
        let one = one_answer (active state parent) spawn.above above spawn.live alive in
        let whole : frame.path ≡ top ++ part ∷ (rest ++ spawn.index ∷ []) =
        spawn.path ∙ ap (λ (g : ActiveFrame). g.path ++ spawn.index ∷ []) one ∙ ap (λ p. p ++ spawn.index ∷ []) path ∙ append_assoc top (part ∷ rest) (spawn.index ∷ []) in
        let child = given_child number parent frame (rest ++ spawn.index ∷ []) live of whole told.0 in
        let P : ℕ → Type 0 = λ k. IsAtOrBelow turns k from in
        let down = subst P (active_number state number frame live) told.1 in (
          held_above state tree queue mode maker top part made elsewhere number parent frame above rest live of alive path told.0,
          subst P (sym (active_number state parent above alive)) (below_below turns parent number from (below parent number child at) down),
        )

    -- the frame on the way to it
    pub record IsLed : Type 0 where
      pub way : IsOnWay state tree (Leads queue mode from) top part from
      pub child : IsChild turns way.parent way.number
      pub down : IsAtOrBelow turns way.number from

    led : (frame : ActiveFrame) (rest : List ℕ) → active state from ≡ Some frame → frame.path ≡ top ++ part ∷ rest → holds_queue frame queue mode ≡ true → IsLed
    led frame rest live path held =
        let P : ℕ → Type 0 = λ k. IsAtOrBelow turns k from in
        let way = climb state tree (Leads queue mode from) top part leads_up from frame rest live path (held, subst P (sym (active_number state from frame live)) at) in
        record {
          way = way;
          child = given_child way.number way.parent way.child [] way.live way.of way.path way.told.0;
          down = subst P (active_number state way.number way.child way.live) way.told.1;
        }

  module _ (queue number other : ℕ) (mode also : Mode) (a b : ActiveFrame) (one : active state number ≡ Some a) (two : active state other ≡ Some b)
      (held : holds_queue a queue mode ≡ true) (held_too : holds_queue b queue also ≡ true) where
    has : has_queue b queue ≡ true
    has = has_held b queue also held_too

    maker : (m : QueueMaker) × (slice_get state.makers queue ≡ Some m)
    maker = maker_of state tree other queue b two has

    inside_it : comes_before a.path b.path ≡ true → IsBelow a.path b.path → ComesBefore turns number other
    inside_it before is =
        let x = led queue mode maker.0 b.path is.number maker.1 (maker_below state tree queue other b maker.0 is.number two has maker.1) number a is.rest one is.is held in
        let same = tree.different x.way.parent other x.way.above b x.way.above_live two x.way.above_path in
        let P : ℕ → Type 0 = λ k. IsAtOrBelow turns k number in
        inside not_same (subst P same (below_below turns x.way.parent x.way.number number (below x.way.parent x.way.number x.child at) x.down))
      where
        not_same : number ≢ other
        not_same e =
            let frames = one_answer (active state number) a b one (ap (active state) e ∙ two) in
            not_before-under a.path [] (ap (comes_before a.path) (append-nil a.path ∙ ap (λ (f : ActiveFrame). f.path) frames) ∙ before)

    beside_it : IsAside a.path b.path → ComesBefore turns number other
    beside_it is =
        let less = is.less in
        let x = led queue mode maker.0 is.above is.number maker.1
        (maker_aside state tree queue other b maker.0 is.above is.more is.number is.later two has maker.1 is.also (λ same. absurd (omega (arith, less, same)))) number a is.rest one is.is held in
        let y = led queue also maker.0 is.above is.later maker.1
        (maker_aside state tree queue number a maker.0 is.above is.rest is.later is.number one (has_held a queue mode held) maker.1 is.is (λ same. absurd (omega (arith, less, same)))) other b is.more two is.also held_too in
        let same = tree.different y.way.parent x.way.parent y.way.above x.way.above y.way.above_live x.way.above_live (y.way.above_path ∙ sym x.way.above_path) in
        let P : ℕ → Type 0 = λ k. IsChild turns k y.way.number in
        let before : x.way.number < y.way.number = elim (cases_order x.way.number y.way.number) [
          | inl equal ↦
              let child = one_answer (active state y.way.number) x.way.child y.way.child (ap (active state) (sym equal) ∙ x.way.live) y.way.live in
              let parts = same_front is.above is.number is.later [] [] (sym x.way.path ∙ ap (λ (g : ActiveFrame). g.path) child ∙ y.way.path) in
              absurd (omega (arith, less, parts))
          | inr differ ↦ elim differ [
            | inl early ↦ early
            | inr late ↦
                let order = tree.siblings y.way.number x.way.number is.later is.number y.way.child x.way.child is.above y.way.live x.way.live y.way.path x.way.path late in
                absurd (omega (arith, less, order))
          ]
        ] in
        aside x.way.parent x.way.number y.way.number x.child (subst P same y.child) before x.down y.down

    -- Of two frames that may use a queue, who comes first by its path comes first by the turns.
    pub before_turns : comes_before a.path b.path ≡ true → ComesBefore turns number other
    before_turns before = elim (how_before a.path b.path before) [
      | inl is ↦ inside_it before is
      | inr is ↦ beside_it is
    ]

    -- It was given the queue, since the maker of a queue comes after all others that have it.
    pub before_holds : comes_before a.path b.path ≡ true → IsHolder turns queue mode number
    before_holds before =
        let parent = tree.others number a one no_root in
        let turn = are.all number parent.0 queue mode a one parent.1 held (λ m made own.
        let under = under_maker state tree other queue b m two has made in
        not_before-under a.path under.0 (ap (comes_before a.path) (ap (λ p. p ++ under.0) own ∙ sym under.1) ∙ before)) in
        record { frame = turn.0; active = turn.1; held = turn.3 }
      where
        no_root : number ≢ 0
        no_root zero =
            let top = (tree.root a (ap (active state) (sym zero) ∙ one)).0 in
            not_before-under [] b.path (ap (λ p. comes_before p b.path) (sym top) ∙ before)

  -- ---- the answers of the turns

  module _ (queue n : ℕ) (f : ActiveFrame) (live : active state n ≡ Some f) (has : has_queue f queue ≡ true) where
    earlier_frame : (m : ℕ) → IsEarlierTurn turns n queue m → IsEarlierPusher state f queue m
    earlier_frame m is =
        let was = are.known m is.0.frame is.0.active in
        record { other = was.0; live = was.1; earlier = turns_before m n was.0 f is.1 was.1 live; pushes = was.3 queue Push is.0.held }

    earlier_turn : (m : ℕ) → IsEarlierPusher state f queue m → IsEarlierTurn turns n queue m
    earlier_turn m is =
        let mode = some_mode f.rights queue has in (
          before_holds queue m n Push mode.0 is.other f is.live live is.pushes mode.1 is.earlier,
          before_turns queue m n Push mode.0 is.other f is.live live is.pushes mode.1 is.earlier,
        )

    popping : (m : ℕ) → IsPoppingChild state f.number queue m → IsPoppingChild state n queue m
    popping m = let P : ℕ → Type 0 = λ k. IsPoppingChild state k queue m in subst P (active_number state n f live)

    popping_too : (m : ℕ) → IsPoppingChild state n queue m → IsPoppingChild state f.number queue m
    popping_too m = let P : ℕ → Type 0 = λ k. IsPoppingChild state k queue m in subst P (sym (active_number state n f live))

    -- What the turns answer is so among the frames.
    pub certain_told : (answer : Certain) → IsAnswer turns n queue answer → IsToldBy state f queue answer
    certain_told (PoppingChild m) is =
        (popping_too m (pops_active state tree turns are n queue f live has m is.0), λ other pops. is.1 other (pops_turn state tree turns are n queue f live has other (popping other pops)))
    certain_told (EarlierPusher m) is =
        let first = earlier_frame m is.1 in (
          λ other pops. is.0 other (pops_turn state tree turns are n queue f live has other (popping other pops)),
          record { is = first; first = λ other a apart. turns_before m other first.other a.other (is.2 other apart (earlier_turn other a)) first.live a.live },
        )
    certain_told Yes is = (
      λ other pops. is.0 other (pops_turn state tree turns are n queue f live has other (popping other pops)),
      λ other a. is.1 other (earlier_turn other a),
    )
