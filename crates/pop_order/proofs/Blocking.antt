-- Which older siblings block a child, by the set of poppers.
use Rattle.std.proofs.Common.{◌≡◌, ℕ, ◌<◌, true, Some, List, sym, ap, subst, ◌∙◌}
use Rattle.swan_model.specs.SerialState.{Holding}
use Rattle.swan_model.specs.declared.rights.Mode.TheVariants.{Pop}
use Rattle.pop_order.specs.Children.{ChildEntry, has}
use Rattle.pop_order.specs.Frames.{TurnFrame, Frames, frame_at, lets_use}
use Rattle.pop_order.specs.Turns.{Blocks}
use Rattle.pop_order.specs.Poppers.{IsAmong}
use Rattle.pop_order.specs.Kept.{HasHolders}
use Rattle.swan_model.proofs.Elements.{one_answer}

module _ (frames : Frames) (set : List ChildEntry) (pops : (queue : ℕ) → HasHolders frames Pop queue set)
    (child : ℕ) (f : TurnFrame) (active : frame_at frames child ≡ Some f)
    (parent : ℕ) (of : f.parent ≡ parent) (holdings : List Holding) (same : f.holdings ≡ holdings) where
  -- an older one that is found blocks the child
  pub blocks_found : (n : ℕ) → n < child → IsAmong set parent holdings n → Blocks frames child n
  blocks_found n lt a =
      let popper = (pops a.queue).holders parent n a.known in
      let P : List Holding → Type 0 = λ hs. lets_use hs a.queue Pop ≡ true in
      record {
        parent = parent;
        younger = record { frame = f; active = active; of = of };
        older = popper.0;
        before = lt;
        queue = a.queue;
        both = record { frame = f; active = active; held = subst P (sym same) a.popped };
        pops = popper.1;
      }

  -- one that blocks the child is found
  pub found_blocks : (n : ℕ) → Blocks frames child n → IsAmong set parent holdings n
  found_blocks n b =
      let P : List Holding → Type 0 = λ hs. lets_use hs b.queue Pop ≡ true in
      let Q : ℕ → Type 0 = λ p. has set p b.queue n ≡ true in
      let one = one_answer (frame_at frames child) b.both.frame f b.both.active active in
      let parents : b.parent ≡ parent = sym b.younger.of ∙ ap (λ (g : TurnFrame). g.parent) (one_answer (frame_at frames child) b.younger.frame f b.younger.active active) ∙ of in
      record {
        queue = b.queue;
        popped = subst P (ap (λ (g : TurnFrame). g.holdings) one ∙ same) b.both.held;
        known = subst Q parents ((pops b.queue).all b.parent n b.older b.pops);
      }
