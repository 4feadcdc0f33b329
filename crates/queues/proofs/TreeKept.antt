-- What the frames of a state keep of each other is so at the start, and each call keeps it.
use Rattle.std.proofs.Common.{◌≡◌, ℕ, zero, suc, Bool, true, false, cond, nat_eq, None, Some, List, [], length, refl, sym, ap, subst, ◌∙◌, arith}
use Rattle.std.proofs.lemmas.Bool.{eqb-true, false≢true}
use Rattle.std.proofs.lemmas.Option.{same_Some}
use Rattle.std.specs.Prelude.{slice_get}
use Rattle.swan_model.specs.QueueState.{ActiveFrame, LentEnd, QueueRight, QueueState, active, after_back, after_create, after_create_root, after_deed, after_finish, after_lend, after_spawn, after_take_rest, frame_after_change, child_of, holds_queue, IsUntouched, new_state, root_frame, with_deed, with_made}
use Rattle.queues.specs.Asks.{MayDo, MayJoin, MaySpawn}
use Rattle.queues.specs.Tree.{IsTree, has_queue}
use Rattle.queues.proofs.ActiveAfter.{one_child_more}
use Rattle.queues.proofs.TreeCalls.{back_changed, back_now, child_newest, create_changed, deed_changed, lend_changed, lent_now, maker_now, rest_changed, root_changed, tree_between, with_one_more}
use Rattle.queues.proofs.TreeAdded.{tree_added}
use Rattle.queues.proofs.TreeChanged.{tree_changed}
use Rattle.queues.proofs.TreeWithout.{tree_without}

-- ---- the start

pub only_root : (number : ℕ) (frame : ActiveFrame) → active new_state number ≡ Some frame → (number ≡ 0) × (frame ≡ root_frame)
only_root number frame = by (nat_eq 0 number) refl where
  by : (b : Bool) → nat_eq 0 number ≡ b → cond b (Some root_frame) None ≡ Some frame → (number ≡ 0) × (frame ≡ root_frame)
  by true is live = (sym (eqb-true 0 number is), sym (same_Some root_frame frame live))
  by false is live = absurd (cc)

root_only : (P : ActiveFrame → Type 0) → P root_frame → (number : ℕ) (frame : ActiveFrame) → active new_state number ≡ Some frame → P frame
root_only P root number frame live = subst P (sym (only_root number frame live).1) root

known_first : (index : ℕ) (frame : ActiveFrame) → slice_get new_state.frames index ≡ Some frame → active new_state frame.number ≡ Some frame
known_first zero frame stands =
    let same = same_Some root_frame frame stands in
    ap (λ (f : ActiveFrame). active new_state f.number) (sym same) ∙ ap Some same
known_first (suc index) frame stands = absurd (cc)

pub tree_new : IsTree new_state
tree_new = record {
  known = known_first;
  latest = λ number frame live. let zero = (only_root number frame live).0 in omega arith;
  root = λ frame live. root_only (λ f. (f.path ≡ []) × (f.parent ≡ None)) (refl, refl) 0 frame live;
  others = λ number frame live apart. absurd (apart (only_root number frame live).0);
  spawned = λ number parent frame live of. absurd (root_only (λ f. f.parent ≡ Some parent → ⊥) (λ is. let e : None ≡ Some parent = is in cc) number frame live of);
  older = λ number parent frame live of. absurd (root_only (λ f. f.parent ≡ Some parent → ⊥) (λ is. let e : None ≡ Some parent = is in cc) number frame live of);
  siblings = λ number other i j a b path one two at there less.
      let first = (only_root number a one).0 in let second = (only_root other b two).0 in absurd (omega arith);
  different = λ number other a b one two same. (only_root number a one).0 ∙ sym (only_root other b two).0;
  held = λ number queue frame live has. absurd (root_only (λ f. has_queue f queue ≡ true → ⊥) (λ is. false≢true is) number frame live has);
  modes = λ number queue frame mode live holds. absurd (root_only (λ f. holds_queue f queue mode ≡ true → ⊥) (λ is. false≢true is) number frame live holds);
}

-- ---- the calls

pub tree_root : (state : QueueState) → IsTree state → IsUntouched state → IsTree (after_create_root state)
tree_root state tree untouched = tree_changed state (after_create_root state) (frame_after_change 0 (with_made (length state.makers))) 0 tree (root_changed state tree)

pub tree_create : (state : QueueState) (n : ℕ) → IsTree state → (act : MayDo state n) → IsTree (after_create state act.frame)
tree_create state n tree act =
    tree_changed state (after_create state act.frame) (frame_after_change act.frame.number (maker_now state)) act.frame.number tree
    (create_changed state tree n act.frame act.may)

pub tree_deed : (state : QueueState) (n : ℕ) → IsTree state → MayDo state n → IsTree (after_deed state n)
tree_deed state n tree act = tree_changed state (after_deed state n) (frame_after_change n with_deed) n tree (deed_changed state tree n act.frame act.may)

pub tree_spawn : (state : QueueState) (p child : ℕ) (gives : List QueueRight) → IsTree state → (may : MaySpawn state p child gives)
    → IsTree (after_spawn state may.act.frame child gives)
tree_spawn state p child gives tree may =
    let frame = may.act.frame in
    tree_added (with_one_more state frame) (one_child_more frame) (child_of frame child gives) frame.children
    (tree_between state tree p child gives frame may.act.may may.newest may.lawful) (child_newest state tree p child gives frame may.act.may may.newest may.lawful)

pub tree_lend : (state : QueueState) (frame : ActiveFrame) (ends : List LentEnd) → IsTree state → IsTree (after_lend state frame ends)
tree_lend state frame ends tree =
    tree_changed state (after_lend state frame ends) (frame_after_change frame.number (lent_now frame ends)) frame.number tree (lend_changed state frame ends tree)

pub tree_back : (state : QueueState) (n deeds : ℕ) → IsTree state → IsTree (after_back state n deeds)
tree_back state n deeds tree = tree_changed state (after_back state n deeds) (frame_after_change n (back_now deeds)) n tree (back_changed state n deeds tree)

pub tree_finish : (state : QueueState) (n : ℕ) → IsTree state → MayJoin state n → IsTree (after_finish state n)
tree_finish state n tree may = tree_without state n tree may.alone

pub tree_rest : (state : QueueState) (queue : ℕ) → IsTree state → IsTree (after_take_rest state queue)
tree_rest state queue tree = tree_changed state (after_take_rest state queue) (λ f. f) 0 tree (rest_changed state queue tree)
