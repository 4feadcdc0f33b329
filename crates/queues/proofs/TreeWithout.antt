-- What the frames keep of each other is kept where one goes that has no active child.
use Rattle.std.proofs.Common.{◌≡◌, ℕ, Some, sym, ap, ◌∙◌}
use Rattle.std.proofs.lemmas.Bool.{eq-eqb, false≢true}
use Rattle.std.specs.Prelude.{◌==◌, not, slice_get}
use Rattle.swan_model.specs.QueueFollows.{IsChildOf}
use Rattle.swan_model.specs.QueueState.{ActiveFrame, QueueState, active, after_finish, IsActiveChild, IsOlderPopper}
use Rattle.queues.specs.Tree.{IsHeld, made, given, IsTree}
use Rattle.queues.proofs.FramesChanged.{find_gone, find_others}
use Rattle.swan_model.proofs.Elements.{filtered_stands}

module _ (state : QueueState) (gone : ℕ) where
  abbrev after : QueueState
  after = after_finish state gone

  -- who is active was so before, and is another one
  pub was_there : (number : ℕ) (frame : ActiveFrame) → active after number ≡ Some frame → (number ≡ gone → ⊥) × (active state number ≡ Some frame)
  was_there number frame live =
      let apart : number ≡ gone → ⊥ = λ same. find_gone state.frames gone frame (ap (active after) (sym same) ∙ live) in
      (apart, sym (find_others state.frames gone number apart) ∙ live)

  pub stays : (number : ℕ) (frame : ActiveFrame) → (number ≡ gone → ⊥) → active state number ≡ Some frame → active after number ≡ Some frame
  stays number frame apart live = find_others state.frames gone number apart ∙ live

module _ (state : QueueState) (gone : ℕ) (tree : IsTree state) (alone : (child : ℕ) → ¬ IsActiveChild state gone child) where
  parent_stays : (number parent : ℕ) (frame above : ActiveFrame) → active state number ≡ Some frame → frame.parent ≡ Some parent → active state parent ≡ Some above
      → active (after_finish state gone) parent ≡ Some above
  parent_stays number parent frame above live of there =
      stays state gone parent above (λ same. alone number (record { frame = frame; live = live; of = of ∙ ap Some same })) there

  known_left : (place : ℕ) (frame : ActiveFrame) → slice_get (after_finish state gone).frames place ≡ Some frame → active (after_finish state gone) frame.number ≡ Some frame
  known_left place frame stands =
      let at = filtered_stands (λ (f : ActiveFrame). not (f.number == gone)) state.frames place frame stands in
      stays state gone frame.number frame
      (λ same. false≢true (ap not (sym (eq-eqb frame.number gone same)) ∙ at.passes)) (tree.known at.index frame at.stands)

  spawned_left : (number parent : ℕ) (frame : ActiveFrame) → active (after_finish state gone) number ≡ Some frame → frame.parent ≡ Some parent
      → IsChildOf (after_finish state gone) frame parent
  spawned_left number parent frame live of =
      let was = (was_there state gone number frame live).1 in
      let from = tree.spawned number parent frame was of in
      record {
        above = from.above;
        live = parent_stays number parent frame from.above was of from.live;
        index = from.index;
        path = from.path;
        spawned = from.spawned;
      }

  held_left : (number queue : ℕ) (frame : ActiveFrame) → active state number ≡ Some frame → IsHeld state frame queue → IsHeld (after_finish state gone) frame queue
  held_left number queue frame live (made maker at own) = made maker at own
  held_left number queue frame live (given parent above of there has modes apart) =
      given parent above of (parent_stays number parent frame above live of there) has modes apart

  -- who goes leaves no frame with one older popper more
  pub older_left : (older : ℕ) (frame : ActiveFrame) → IsOlderPopper (after_finish state gone) frame older → IsOlderPopper state frame older
  older_left older frame is = record {
    older = is.older;
    live = (was_there state gone older is.older is.live).1;
    parent = is.parent;
    of = is.of;
    sibling = is.sibling;
    before = is.before;
    queue = is.queue;
    pops = is.pops;
    pops_too = is.pops_too;
  }

  pub tree_without : IsTree (after_finish state gone)
  tree_without = record {
    known = known_left;
    latest = λ number frame live. tree.latest number frame (was_there state gone number frame live).1;
    root = λ frame live. tree.root frame (was_there state gone 0 frame live).1;
    others = λ number frame live. tree.others number frame (was_there state gone number frame live).1;
    spawned = spawned_left;
    older = λ number parent frame live. tree.older number parent frame (was_there state gone number frame live).1;
    siblings = λ number other i j a b path one two.
        tree.siblings number other i j a b path (was_there state gone number a one).1 (was_there state gone other b two).1;
    different = λ number other a b one two.
        tree.different number other a b (was_there state gone number a one).1 (was_there state gone other b two).1;
    held = λ number queue frame live has.
        let was = (was_there state gone number frame live).1 in
        let held = tree.held number queue frame was has in
        (held.0, held_left number queue frame was held.1);
    modes = λ number queue frame mode live. tree.modes number queue frame mode (was_there state gone number frame live).1;
  }
