-- The turns of poppers say the same of the state after each call that changes no rights.
use Rattle.std.proofs.Common.{◌≡◌, ◌≢◌, ℕ, ◌+◌, true, Some, None, List, [], ◌∷◌, ◌++◌, length, sym, ap, ◌∙◌, arith, length-append}
use Rattle.std.specs.Prelude.{slice_get}
use Rattle.pop_order.specs.Frames.{TurnFrame, Frames, lets_use}
use Rattle.pop_order.specs.Turns.{IsPoppingChild as PopsTurn}
use Rattle.swan_model.specs.declared.rights.Mode.{Mode}
use Rattle.swan_model.specs.declared.rights.Mode.TheVariants.{Pop}
use Rattle.swan_model.specs.QueueState.{ActiveFrame, QueueMaker, QueueRight, QueueState, active, holds_queue, IsPoppingChild}
use Rattle.queues.specs.Tree.{IsTree, has_queue, maker_path}
use Rattle.queues.specs.Turned.{AreTurns}
use Rattle.queues.proofs.Above.{under_maker}
use Rattle.queues.proofs.SameHolders.{AreSameHolders, holder_after, holder_before}
use Rattle.swan_model.proofs.Elements.{one_answer}

rights_hold : (frame now : ActiveFrame) (queue : ℕ) (mode : Mode) → now.rights ≡ frame.rights → holds_queue now queue mode ≡ holds_queue frame queue mode
rights_hold frame now queue mode same = ap (λ (rights : List QueueRight). holds_queue (record frame { rights = rights }) queue mode) same

pub turns_held : (state after : QueueState) (turns : Frames) → AreSameHolders state after → after.makers ≡ state.makers → AreTurns state turns → AreTurns after turns
turns_held state after turns holders makers is = record {
  apart = is.apart;
  known = λ n turn at.
      let was = is.known n turn at in
      let now = holder_after (active state n) (active after n) was.0 (holders n) was.1 in
      (now.0, now.1, now.2.parent ∙ was.2, λ queue mode held. rights_hold was.0 now.0 queue mode now.2.rights ∙ was.3 queue mode held);
  all = λ n parent queue mode now live of held apart.
      let was = holder_before (active state n) (active after n) now (holders n) live in
      is.all n parent queue mode was.0 was.1 (sym was.2.parent ∙ of) (sym (rights_hold was.0 now queue mode was.2.rights) ∙ held)
      (λ maker made same. apart maker (ap (λ (ms : List QueueMaker). slice_get ms queue) makers ∙ made) (was.2.path ∙ same));
}

-- a child of a frame that has a queue didn't make it
pub child_given : (state : QueueState) → IsTree state → (n child queue : ℕ) (frame below : ActiveFrame) → active state n ≡ Some frame → has_queue frame queue ≡ true
    → active state child ≡ Some below → below.parent ≡ Some n → (maker : QueueMaker) → slice_get state.makers queue ≡ Some maker → below.path ≢ maker_path maker
child_given state tree n child queue frame below live has live_below of maker made same =
    let spawned = tree.spawned child n below live_below of in
    let is_above : spawned.above ≡ frame = one_answer (active state n) spawned.above frame spawned.live live in
    let under = under_maker state tree n queue frame maker live has made in
    let path : below.path ≡ (maker_path maker ++ under.0) ++ spawned.index ∷ [] = spawned.path ∙ ap (λ (f : ActiveFrame). f.path ++ spawned.index ∷ []) is_above ∙ ap (λ p. p ++ spawned.index ∷ []) under.1 in
    let long : length below.path ≡ length (maker_path maker) + length under.0 + 1 =
    ap length path ∙ length-append (maker_path maker ++ under.0) (spawned.index ∷ []) ∙ ap (λ k. k + 1) (length-append (maker_path maker) under.0) in
    let short : length below.path ≡ length (maker_path maker) = ap length same in
    omega arith

module _ (state : QueueState) (tree : IsTree state) (turns : Frames) (is : AreTurns state turns) (n queue : ℕ) (frame : ActiveFrame) (live : active state n ≡ Some frame)
    (has : has_queue frame queue ≡ true) where
  pub pops_active : (child : ℕ) → PopsTurn turns n queue child → IsPoppingChild state n queue child
  pops_active child pops =
      let was = is.known child pops.0.frame pops.0.active in
      let both : Some pops.0.frame ≡ Some pops.1.frame = sym pops.0.active ∙ pops.1.active in
      let same : pops.1.frame ≡ pops.0.frame = cc in
      record {
        frame = was.0;
        live = was.1;
        of = was.2 ∙ ap Some pops.0.of;
        pops = was.3 queue Pop (ap (λ (t : TurnFrame). lets_use t.holdings queue Pop) (sym same) ∙ pops.1.held);
      }

  pub pops_turn : (child : ℕ) → IsPoppingChild state n queue child → PopsTurn turns n queue child
  pops_turn child pops =
      let turn = is.all child n queue Pop pops.frame pops.live pops.of pops.pops (child_given state tree n child queue frame pops.frame live has pops.live pops.of) in
      (record { frame = turn.0; active = turn.1; of = turn.2 }, record { frame = turn.0; active = turn.1; held = turn.3 })

pub turns_none : (state : QueueState) → ((n : ℕ) (frame : ActiveFrame) → active state n ≡ Some frame → frame.parent ≡ None) → AreTurns state []
turns_none state tops = record {
  apart = tt;
  known = λ n turn at. let never : None ≡ Some turn = at in absurd (cc);
  all = λ n parent queue mode frame live of held apart. let never : None ≡ Some parent = sym (tops n frame live) ∙ of in absurd (cc);
}
