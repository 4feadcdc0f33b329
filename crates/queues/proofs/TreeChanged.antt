-- What the frames keep of each other is kept where each goes on in its place.
use Rattle.queues.proofs.ActiveAfter.{KeepsTask}
use Rattle.std.proofs.Common.{◌≡◌, ◌≢◌, inl, inr, ℕ, ◌<◌, ◌≤◌, true, Some, [], ◌∷◌, ◌++◌, length, map, sym, ap, subst, ◌∙◌, arith}
use Rattle.std.proofs.lemmas.Bool.{cases_lt}
use Rattle.std.proofs.lemmas.Option.{same_Some, slice_get-map}
use Rattle.std.specs.Option.{option_map}
use Rattle.std.specs.Prelude.{slice_get}
use Rattle.swan_model.specs.declared.rights.Mode.{Mode}
use Rattle.swan_model.specs.declared.rights.Mode.TheVariants.{Pop}
use Rattle.swan_model.specs.QueueFollows.{IsChildOf}
use Rattle.swan_model.specs.QueueState.{ActiveFrame, QueueMaker, QueueState, active, holds_queue, IsOlderPopper}
use Rattle.swan_model.specs.Rights.{is_queue_mode}
use Rattle.swan_model.proofs.Lists.{some_within}
use Rattle.queues.specs.Tree.{IsHeld, made, given, IsTree, has_queue}
use Rattle.queues.proofs.Frames.{active_number, has_held}
use Rattle.queues.proofs.FramesChanged.{find_changed}
use Rattle.swan_model.proofs.Elements.{mapped_is}

-- Each frame is changed so: it keeps its place, and its rights on all queues that were there.
pub record EachIsChanged (before after : QueueState) (each : ActiveFrame → ActiveFrame) (actor : ℕ) : Type 0 where
  pub frames : after.frames ≡ map each before.frames
  pub makers : (queue : ℕ) (maker : QueueMaker) → slice_get before.makers queue ≡ Some maker → slice_get after.makers queue ≡ Some maker
  pub more : length before.makers ≤ length after.makers
  pub latest : before.latest ≤ after.latest
  pub kept : KeepsTask each
  pub has : (frame : ActiveFrame) (queue : ℕ) → queue < length before.makers → has_queue (each frame) queue ≡ has_queue frame queue
  pub holds : (frame : ActiveFrame) (queue : ℕ) (mode : Mode) → queue < length before.makers → holds_queue (each frame) queue mode ≡ holds_queue frame queue mode
  -- only one frame gets a new queue
  pub new : (number queue : ℕ) (frame : ActiveFrame) → active before number ≡ Some frame → length before.makers ≤ queue → has_queue (each frame) queue ≡ true
      → (number ≡ actor) × (queue < length after.makers) × IsHeld after (each frame) queue
  pub modes : (number queue : ℕ) (frame : ActiveFrame) (mode : Mode) → active before number ≡ Some frame → holds_queue (each frame) queue mode ≡ true → is_queue_mode mode ≡ true

module _ (before after : QueueState) (each : ActiveFrame → ActiveFrame) (actor : ℕ) (tree : IsTree before) (change : EachIsChanged before after each actor) where
  same_active : (number : ℕ) → active after number ≡ active (record before { frames = map each before.frames }) number
  same_active number = ap (λ frames. active (record before { frames = frames }) number) change.frames

  pub still : (number : ℕ) (frame : ActiveFrame) → active before number ≡ Some frame → active after number ≡ Some (each frame)
  still number frame live = same_active number ∙ find_changed each change.kept.number before.frames number ∙ ap (option_map each) live

  pub was : (number : ℕ) (now : ActiveFrame) → active after number ≡ Some now → (frame : ActiveFrame) × (active before number ≡ Some frame) × (now ≡ each frame)
  was number now live =
      let at = mapped_is each (active before number) now (sym (find_changed each change.kept.number before.frames number) ∙ sym (same_active number) ∙ live) in
      (at.0, at.1, sym at.2)

  -- what is shown of changed frames holds of those that are active
  pub for_each : (P : ℕ → ActiveFrame → Type 0) → ((number : ℕ) (frame : ActiveFrame) → active before number ≡ Some frame → P number (each frame))
      → (number : ℕ) (frame : ActiveFrame) → active after number ≡ Some frame → P number frame
  for_each P each_has number now live =
      let at = was number now live in
      subst (P number) (sym at.2) (each_has number at.0 at.1)

  known_still : (index : ℕ) (now : ActiveFrame) → slice_get after.frames index ≡ Some now → active after now.number ≡ Some now
  known_still index now stands =
      let at = mapped_is each (slice_get before.frames index) now
      (sym (slice_get-map each before.frames index) ∙ ap (λ fs. slice_get fs index) (sym change.frames) ∙ stands) in
      let own : now.number ≡ at.0.number = ap (λ (f : ActiveFrame). f.number) (sym at.2) ∙ change.kept.number at.0 in
      ap (active after) own ∙ still at.0.number at.0 (tree.known index at.0 at.1) ∙ ap Some at.2

  spawned_still : (number parent : ℕ) (frame : ActiveFrame) → active before number ≡ Some frame → (each frame).parent ≡ Some parent → IsChildOf after (each frame) parent
  spawned_still number parent frame live of =
      let from = tree.spawned number parent frame live (sym (change.kept.parent frame) ∙ of) in
      let fewer = from.spawned in
      let more = change.kept.children from.above in
      record {
        above = each from.above;
        live = still parent from.above from.live;
        index = from.index;
        path = change.kept.path frame ∙ from.path ∙ ap (λ p. p ++ from.index ∷ []) (sym (change.kept.path from.above));
        spawned = omega arith;
      }

  older_still : (number parent : ℕ) (frame : ActiveFrame) → active before number ≡ Some frame → (each frame).parent ≡ Some parent → parent < (each frame).number
  older_still number parent frame live of =
      let own = change.kept.number frame in
      let older = tree.older number parent frame live (sym (change.kept.parent frame) ∙ of) in
      omega arith

  -- of a queue that was there, the maker is the same
  same_maker : (queue : ℕ) (maker : QueueMaker) → queue < length before.makers → slice_get after.makers queue ≡ Some maker → slice_get before.makers queue ≡ Some maker
  same_maker queue maker there at =
      let own = some_within before.makers queue there in
      own.1 ∙ ap Some (same_Some own.0 maker (sym (change.makers queue own.0 own.1) ∙ at))

  held_still : (queue : ℕ) (frame : ActiveFrame) → queue < length before.makers → IsHeld before frame queue → IsHeld after (each frame) queue
  held_still queue frame there (made maker at own) = made maker (change.makers queue maker at) (change.kept.path frame ∙ own)
  held_still queue frame there (given parent above of live has modes apart) =
      given parent (each above) (change.kept.parent frame ∙ of) (still parent above live) (change.has above queue there ∙ has)
      (λ mode held. change.holds above queue mode there ∙ modes mode (sym (change.holds frame queue mode there) ∙ held))
      (λ maker at same. apart maker (same_maker queue maker there at) (sym (change.kept.path frame) ∙ same))

  held_now : (number queue : ℕ) (frame : ActiveFrame) → active before number ≡ Some frame → has_queue (each frame) queue ≡ true
      → (queue < length after.makers) × IsHeld after (each frame) queue
  held_now number queue frame live has = elim (cases_lt queue (length before.makers)) [
    | inl there ↦
        let more = change.more in
        let held = tree.held number queue frame live (sym (change.has frame queue there) ∙ has) in
        (omega arith, held_still queue frame there held.1)
    | inr fresh ↦ let new = change.new number queue frame live fresh has in (new.1, new.2)
  ]

  -- an older popper was one before
  pub older_before : (number older : ℕ) (frame : ActiveFrame) → active before number ≡ Some frame → IsOlderPopper after (each frame) older → IsOlderPopper before frame older
  older_before number older frame live is =
      let at = was older is.older is.live in
      let own = active_number before number frame live in
      let kept = change.kept.number frame in
      let less = is.before in
      let P : ActiveFrame → Type 0 = λ g. g.parent ≡ Some is.parent in
      let Q : ActiveFrame → Type 0 = λ g. holds_queue g is.queue Pop ≡ true in
      let too = subst Q at.2 is.pops_too in
      elim (cases_lt is.queue (length before.makers)) [
        | inl there ↦ record {
          older = at.0;
          live = at.1;
          parent = is.parent;
          of = sym (change.kept.parent frame) ∙ is.of;
          sibling = sym (change.kept.parent at.0) ∙ subst P at.2 is.sibling;
          before = omega arith;
          queue = is.queue;
          pops = sym (change.holds frame is.queue Pop there) ∙ is.pops;
          pops_too = sym (change.holds at.0 is.queue Pop there) ∙ too;
        }
        | inr fresh ↦
            let one = (change.new number is.queue frame live fresh (has_held (each frame) is.queue Pop is.pops)).0 in
            let other = (change.new older is.queue at.0 at.1 fresh (has_held (each at.0) is.queue Pop too)).0 in
            absurd (omega arith)
      ]

  pub tree_changed : IsTree after
  tree_changed = record {
    known = known_still;
    latest = for_each (λ number frame. number ≤ after.latest) (λ number frame live.
        let upto = tree.latest number frame live in let more = change.latest in omega arith);
    root = λ frame live.
        let at = was 0 frame live in
        let top = tree.root at.0 at.1 in
        (ap (λ (f : ActiveFrame). f.path) at.2 ∙ change.kept.path at.0 ∙ top.0, ap (λ (f : ActiveFrame). f.parent) at.2 ∙ change.kept.parent at.0 ∙ top.1);
    others = for_each (λ number frame. number ≢ 0 → (parent : ℕ) × (frame.parent ≡ Some parent)) (λ number frame live apart.
        let parent = tree.others number frame live apart in (parent.0, change.kept.parent frame ∙ parent.1));
    spawned = λ number parent frame live. for_each (λ n f. f.parent ≡ Some parent → IsChildOf after f parent)
        (λ n f alive. spawned_still n parent f alive) number frame live;
    older = λ number parent frame live. for_each (λ n f. f.parent ≡ Some parent → parent < f.number)
        (λ n f alive. older_still n parent f alive) number frame live;
    siblings = λ number other i j a b path one two at there.
        let first = was number a one in
        let second = was other b two in
        tree.siblings number other i j first.0 second.0 path first.1 second.1
        (sym (change.kept.path first.0) ∙ ap (λ (f : ActiveFrame). f.path) (sym first.2) ∙ at)
        (sym (change.kept.path second.0) ∙ ap (λ (f : ActiveFrame). f.path) (sym second.2) ∙ there);
    different = λ number other a b one two same.
        let first = was number a one in
        let second = was other b two in
        tree.different number other first.0 second.0 first.1 second.1
        (sym (change.kept.path first.0) ∙ ap (λ (f : ActiveFrame). f.path) (sym first.2) ∙ same ∙ ap (λ (f : ActiveFrame). f.path) second.2 ∙ change.kept.path second.0);
    held = λ number queue frame live. for_each (λ n f. has_queue f queue ≡ true → (queue < length after.makers) × IsHeld after f queue)
        (λ n f alive. held_now n queue f alive) number frame live;
    modes = λ number queue frame mode live. for_each (λ n f. holds_queue f queue mode ≡ true → is_queue_mode mode ≡ true)
        (λ n f alive. change.modes n queue f mode alive) number frame live;
  }
