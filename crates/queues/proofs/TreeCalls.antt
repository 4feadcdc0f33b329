-- What each call changes in the frames of a state.
use Rattle.queues.proofs.ActiveAfter.{KeepsTask, one_child_more}
use Rattle.std.proofs.Common.{◌≡◌, ℕ, ◌<◌, ◌≤◌, cond, None, Some, List, [], ◌∷◌, ◌++◌, length, map, refl, sym, ap, subst, ◌∙◌, arith}
use Rattle.std.proofs.lemmas.Bool.{eq-eqb}
use Rattle.std.proofs.lemmas.List.{same_from_push}
use Rattle.swan_model.specs.QueueState.{ActiveFrame, LentEnd, planned, made_by, QueueRight, QueueState, active, after_back, after_create, after_create_root, after_deed, after_lend, after_take_rest, frame_after_change, changing, child_of, MayAct, MayGive, with_deed, with_made}
use Rattle.queues.specs.Tree.{IsTree}
use Rattle.queues.proofs.Above.{parent_of}
use Rattle.queues.proofs.Frames.{active_number}
use Rattle.queues.proofs.Gives.{gives_had, gives_held}
use Rattle.queues.proofs.OneChanged.{goes_on, makes}
use Rattle.queues.proofs.TreeAdded.{IsNewest}
use Rattle.queues.proofs.TreeChanged.{EachIsChanged, still, tree_changed, was}
use Rattle.swan_model.proofs.Elements.{one_answer}

in_place : (change : ActiveFrame → ActiveFrame) → ((frame : ActiveFrame) → (change frame).number ≡ frame.number) → ((frame : ActiveFrame) → (change frame).parent ≡ frame.parent)
    → ((frame : ActiveFrame) → (change frame).path ≡ frame.path) → ((frame : ActiveFrame) → frame.children ≤ (change frame).children) → KeepsTask change
in_place change numbers parents paths children = record { number = numbers; parent = parents; path = paths; children = children }

pub root_changed : (state : QueueState) → IsTree state → EachIsChanged state (after_create_root state) (frame_after_change 0 (with_made (length state.makers))) 0
root_changed state tree =
    let queue = length state.makers in
    makes state tree 0 (with_made queue)
    (in_place (with_made queue) (λ f. refl) (λ f. refl) (λ f. refl) (λ f. omega arith))
    (λ f. refl) (planned queue) (λ f live. (tree.root f live).0)

-- a frame with a new queue, after one more deed
abbrev pub maker_now : QueueState → ActiveFrame → ActiveFrame
maker_now state f = with_deed (with_made (length state.makers) f)

module _ (state : QueueState) (tree : IsTree state) (n : ℕ) (frame : ActiveFrame) (may : MayAct state n frame) where
  pub own_live : active state frame.number ≡ Some frame
  own_live = ap (active state) (active_number state n frame may.live) ∙ may.live

  pub create_changed : EachIsChanged state (after_create state frame) (frame_after_change frame.number (maker_now state)) frame.number
  create_changed =
      makes state tree frame.number (maker_now state)
      (in_place (maker_now state) (λ f. refl) (λ f. refl) (λ f. refl) (λ f. omega arith))
      (λ f. refl) (made_by frame.path frame.deeds)
      (λ f live. ap (λ (g : ActiveFrame). g.path) (one_answer (active state frame.number) f frame live own_live))

  deed : EachIsChanged state (after_deed state frame.number) (frame_after_change frame.number with_deed) frame.number
  deed =
      goes_on state tree frame.number with_deed
      (in_place with_deed (λ f. refl) (λ f. refl) (λ f. refl) (λ f. omega arith))
      (λ f. refl)

  pub deed_changed : EachIsChanged state (after_deed state n) (frame_after_change n with_deed) n
  deed_changed = subst (λ k. EachIsChanged state (after_deed state k) (frame_after_change k with_deed) k) (active_number state n frame may.live) deed

-- a frame with lent ends
abbrev pub lent_now : ActiveFrame → List LentEnd → ActiveFrame → ActiveFrame
lent_now frame ends f = record f { lent = Some (record { deeds = frame.deeds; ends = ends }) }

pub lend_changed : (state : QueueState) (frame : ActiveFrame) (ends : List LentEnd) → IsTree state
    → EachIsChanged state (after_lend state frame ends) (frame_after_change frame.number (lent_now frame ends)) frame.number
lend_changed state frame ends tree =
    goes_on state tree frame.number (lent_now frame ends)
    (in_place (lent_now frame ends) (λ f. refl) (λ f. refl) (λ f. refl) (λ f. omega arith))
    (λ f. refl)

-- a frame with its ends back
abbrev pub back_now : ℕ → ActiveFrame → ActiveFrame
back_now deeds f = record f { deeds = deeds; lent = None }

pub back_changed : (state : QueueState) (n deeds : ℕ) → IsTree state → EachIsChanged state (after_back state n deeds) (frame_after_change n (back_now deeds)) n
back_changed state n deeds tree =
    goes_on state tree n (back_now deeds)
    (in_place (back_now deeds) (λ f. refl) (λ f. refl) (λ f. refl) (λ f. omega arith))
    (λ f. refl)

map_same : (frames : List ActiveFrame) → frames ≡ map (λ f. f) frames
map_same [] = refl
map_same (f ∷ fs) = ap (λ xs. f ∷ xs) (map_same fs)

-- no frame changes where a rest is taken
pub rest_changed : (state : QueueState) (queue : ℕ) → IsTree state → EachIsChanged state (after_take_rest state queue) (λ f. f) 0
rest_changed state queue tree = record {
  frames = map_same state.frames;
  makers = λ other maker at. at;
  more = omega arith;
  latest = omega arith;
  kept = record { number = λ f. refl; parent = λ f. refl; path = λ f. refl; children = λ f. omega arith };
  has = λ f other there. refl;
  holds = λ f other mode there. refl;
  new = λ number other f live fresh has. let there = (tree.held number other f live has).0 in absurd (omega arith);
  modes = λ number other f mode live. tree.modes number other f mode live;
}

abbrev pub with_one_more : QueueState → ActiveFrame → QueueState
with_one_more state frame = changing state frame.number one_child_more

-- A spawn changes the parent in its place, and then its child comes in.
module _ (state : QueueState) (tree : IsTree state) (p child : ℕ) (gives : List QueueRight) (frame : ActiveFrame) (may : MayAct state p frame)
    (newest : state.latest < child) (lawful : MayGive frame gives) where
  pub parent_changed : EachIsChanged state (with_one_more state frame) (frame_after_change frame.number one_child_more) frame.number
  parent_changed =
      goes_on state tree frame.number one_child_more
      (in_place one_child_more (λ f. refl) (λ f. refl) (λ f. refl) (λ f. omega arith))
      (λ f. refl)

  pub tree_between : IsTree (with_one_more state frame)
  tree_between = tree_changed state (with_one_more state frame) (frame_after_change frame.number one_child_more) frame.number tree parent_changed

  parent_live : active (with_one_more state frame) frame.number ≡ Some (one_child_more frame)
  parent_live =
      still state (with_one_more state frame) (frame_after_change frame.number one_child_more) frame.number tree parent_changed frame.number frame (own_live state tree p frame may)
      ∙ ap Some (ap (λ b. cond b (one_child_more frame) frame) (eq-eqb frame.number frame.number refl))

  -- each child of the parent has a lesser index than the new one
  pub lesser_before : (number other : ℕ) (f : ActiveFrame) → active state number ≡ Some f → f.path ≡ frame.path ++ other ∷ [] → other < frame.children
  lesser_before number other f live path =
      let upper = parent_of state tree number f frame.path [] other live path in
      let from = tree.spawned number upper.0 f live upper.1 in
      let paths = same_from_push from.above.path frame.path from.index other (sym from.path ∙ path) in
      let same = tree.different upper.0 frame.number from.above frame from.live (own_live state tree p frame may) paths.0 in
      let one = one_answer (active state frame.number) from.above frame (ap (active state) (sym same) ∙ from.live) (own_live state tree p frame may) in
      let index = paths.1 in
      let fewer = from.spawned in
      let as_many : from.above.children ≡ frame.children = ap (λ (g : ActiveFrame). g.children) one in
      omega arith

  lesser : (number other : ℕ) (f : ActiveFrame) → active (with_one_more state frame) number ≡ Some f → f.path ≡ frame.path ++ other ∷ [] → other < frame.children
  lesser number other f live path =
      let at = was state (with_one_more state frame) (frame_after_change frame.number one_child_more) frame.number tree parent_changed number f live in
      lesser_before number other at.0 at.1 (sym (parent_changed.kept.path at.0) ∙ ap (λ (g : ActiveFrame). g.path) (sym at.2) ∙ path)

  pub child_newest : IsNewest (with_one_more state frame) (one_child_more frame) (child_of frame child gives) frame.children
  child_newest = record {
    live = parent_live;
    number = newest;
    of = refl;
    path = refl;
    spawned = omega arith;
    none = refl;
    later = lesser;
    has = λ queue has. gives_had frame gives lawful queue has;
    holds = λ queue mode held. gives_held frame gives lawful queue mode held;
  }
