-- What holds of hyperqueues in plain form once the rest of a queue was taken.
use Rattle.std.proofs.Common.{◌≡◌, ◌≢◌, ℕ, ◌<◌, true, false, ◌==◌, Option, Some, None, List, [], length, refl, sym, ap, subst, ◌∙◌, inl, inr, arith}
use Rattle.std.proofs.lemmas.Bool.{cases_eq, false≢true, eq-eqb, ne_eqb}
use Rattle.std.specs.Prelude.{slice_get}
use Rattle.slab.specs.Slab.{Slab}
use Rattle.pop_order.specs.Frames.{Frames}
use Rattle.swan_model.specs.declared.script.Script.{Script}
use Rattle.swan_model.specs.declared.value.Value.{Value}
use Rattle.swan_model.specs.QueueFollows.{origin_in}
use Rattle.swan_model.specs.QueueState.{ActiveFrame, QueueMaker, planned, made_by, QueueState, active, after_take_rest, IsOfRoot}
use Rattle.swan_model.specs.Readings.{end_time}
use Rattle.queues.specs.Asks.{is_emptied, IsRestLeft}
use Rattle.queues.specs.Chunks.{HasOwners, Matches, items_in}
use Rattle.queue_book.specs.Chains.{Link, AreChained, in_line}
use Rattle.queue_book.specs.Live.{key_at, kept_of, Agrees}
use Rattle.queues.specs.Tells.{OnQueue, rest_of}
use Rattle.queues.specs.Tree.{maker_path}
use Rattle.queue_book.specs.Whole.{IsBook, IsLine}
use Rattle.queue_book.specs.declared.live_frames.LiveFrames.{LiveFrames}
use Rattle.queues.proofs.Above.{none_active}
use Rattle.queues.proofs.SameHolders.{holders_rest, in_use_back}
use Rattle.queues.proofs.Calls.{rest_follows}
use Rattle.queue_book.proofs.LiveKept.{agrees_on, key_none}
use Rattle.queues.proofs.Match.{matches_rest, rest_told}
use Rattle.queue_book.proofs.PlainSaid.{in_each, on_queue}
use Rattle.queues.proofs.TreeSpawners.{spawners_rest}
use Rattle.queues.proofs.TreeKept.{tree_rest}
use Rattle.queues.proofs.TreeOwners.{owners_kept_rest}
use Rattle.queues.proofs.TurnsCalls.{turns_rest}
use Rattle.swan_model.proofs.Lists.{some_within}
use Rattle.swan_model.proofs.Elements.{any_before, any_last}

-- a queue of the root was made at its path
pub root_path : (maker : QueueMaker) → IsOfRoot (Some maker) → maker_path maker ≡ []
root_path (planned index) is = refl
root_path (made_by path deeds) is = is

-- no frame has a chunk
none_owns : (state : QueueState) (queue : ℕ) → ((m : ℕ) (frame : ActiveFrame) → active state m ≡ Some frame → ⊥) → HasOwners state queue []
none_owns state queue none = record {
  owners = λ index number own. let never : None ≡ Some own.chunk = own.stands in absurd (cc);
  all = λ number frame live has. absurd (none number frame live);
  order = λ index later number other a b less own too live live_too. absurd (none number a live);
}

emptied_other : (state : QueueState) (queue q : ℕ) → q ≢ queue → is_emptied (after_take_rest state queue) q ≡ is_emptied state q
emptied_other state queue q other = any_before (λ k. k == q) state.emptied queue (ne_eqb queue q (λ same. other (sym same)))

emptied_now : (state : QueueState) (queue : ℕ) → is_emptied (after_take_rest state queue) queue ≡ true
emptied_now state queue = any_last (λ k. k == queue) state.emptied queue (eq-eqb queue queue refl)

module _ (name : Option Script) (state : QueueState) (frames : LiveFrames) (heads : List (Option ℕ)) (nodes : Slab Link) (turns : Frames) (is : IsBook name state frames heads nodes turns)
    (q : ℕ) (left : IsRestLeft state q) where
  pub rest_known : q < length heads
  rest_known = let less = left.known in omega (arith, is.count, less)

  pub rest_unowned : (m : ℕ) → key_at frames m q ≡ None
  rest_unowned m = key_none state frames is.live m q (λ frame live has. none_active state is.plain.tree left.over m frame live)

  maker : (one : QueueMaker) × (slice_get state.makers q ≡ Some one)
  maker = some_within state.makers q left.known

  is_root : IsOfRoot (Some maker.0)
  is_root = let P : Option QueueMaker → Type 0 = λ o. IsOfRoot o in subst P maker.1 left.made

  pub rest_is : is_emptied state q ≡ false → (items : List Value) → items ≡ items_in (is.lines q) → OnQueue name state q (λ s origin. items ≡ rest_of s origin)
  rest_is full items are =
      on_queue name state q maker.0 (λ s origin. items ≡ rest_of s origin) maker.1 (λ s named lawful.
      let line = is.plain.queues q maker.0 maker.1 in
      let matches = line.matches full (inl is_root) s named lawful in
      let P : List ℕ → Type 0 = λ path. Matches s state q (origin_in s maker.0) (end_time s path) (is.lines q) in
      are ∙ rest_told s lawful state q (origin_in s maker.0) (is.lines q) (subst P (root_path maker.0 is_root) matches)
      (λ index number own. let frame = line.owners.owners index number own in none_active state is.plain.tree left.over number frame.0 frame.1))

  pub book_rest : (after_heads : List (Option ℕ)) (after_nodes : Slab Link) → length after_heads ≡ length heads
      → AreChained (key_at frames) after_heads after_nodes (in_line q (λ chunks. []) is.lines) → IsBook name (after_take_rest state q) frames after_heads after_nodes turns
  book_rest after_heads after_nodes same chained = record {
    lines = in_line q (λ chunks. []) is.lines;
    plain = record {
      tree = tree_rest state q is.plain.tree;
      rests = λ p over. elim (cases_eq p q) [
        | inl here ↦ let known = left.known in omega arith
        | inr other ↦ is.plain.rests p (sym (emptied_other state q p other) ∙ over)
      ];
      follows = λ s named lawful. rest_follows s state (is.plain.follows s named lawful) q;
      spawners = λ s named. spawners_rest state q is.plain.tree (is.plain.spawners s named);
      queues = λ p one made.
          let line = is.plain.queues p one made in
          in_each (λ k chunks. IsLine name (after_take_rest state q) k one chunks) q (λ chunks. []) is.lines p
          (λ here. record {
            owners = none_owns (after_take_rest state q) p (none_active state is.plain.tree left.over);
            matches = λ full in_use s named lawful. absurd (false≢true (sym full ∙ ap (λ k. is_emptied (after_take_rest state q) k) here ∙ emptied_now state q));
            emptied = λ over. refl;
          })
          (λ other. record {
            owners = owners_kept_rest state q p (is.lines p) is.plain.tree line.owners;
            matches = λ full in_use s named lawful.
                matches_rest s lawful state p (origin_in s one) (end_time s (maker_path one)) (is.lines p)
                (line.matches (sym (emptied_other state q p other) ∙ full) (in_use_back state (after_take_rest state q) p one (holders_rest state q) in_use) s named lawful) q;
            emptied = λ over. line.emptied (sym (emptied_other state q p other) ∙ over);
          });
    };
    live = λ m. agrees_rest m;
    count = same ∙ is.count;
    chained = chained;
    turned = turns_rest state turns is.turned q;
  } where
    agrees_rest : (m : ℕ) → Agrees (after_take_rest state q) (kept_of frames m) (active (after_take_rest state q) m)
    agrees_rest m = agrees_on state (after_take_rest state q) (kept_of frames m) (active state m) (λ queue one less made. made)
        (λ frame live queue has. (is.plain.tree.held m queue frame live has).0) (is.live m)
