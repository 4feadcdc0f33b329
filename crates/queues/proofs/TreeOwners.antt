-- The chunks of each queue stay owned by those who have it, in serial order, over each call.
use Rattle.std.proofs.Common.{◌≡◌, ◌⊎◌, inl, ℕ, zero, suc, ◌<◌, ◌≤◌, true, false, cond, Some, None, List, [], ◌∷◌, ◌++◌, length, refl, sym, ap, subst, ◌∙◌, arith}
use Rattle.std.proofs.lemmas.Bool.{cases_lt, eq-eqb, false≢true}
use Rattle.std.proofs.lemmas.Option.{same_Some}
use Rattle.std.specs.List.{list_any}
use Rattle.std.specs.Prelude.{◌==◌, slice_get}
use Rattle.swan_model.specs.declared.value.Value.{Value}
use Rattle.swan_model.specs.QueueState.{ActiveFrame, LentEnd, QueueMaker, QueueRight, QueueState, active, after_back, after_create, after_create_root, after_deed, after_finish, after_lend, after_spawn, after_take_rest, frame_after_change, IsUntouched, with_deed, with_made}
use Rattle.queues.specs.Asks.{MayDo, MayJoin, MaySpawn}
use Rattle.queues.specs.Chunks.{Chunk, Chunks, after_close, after_hand_on, HasOwners, IsOwner, own, without_spent, with_item, without_first}
use Rattle.queues.specs.Tree.{IsTree, has_queue, maker_path}
use Rattle.queues.proofs.TreeCalls.{back_changed, back_now, create_changed, deed_changed, lend_changed, lent_now, maker_now, own_live, rest_changed, root_changed}
use Rattle.queues.proofs.ChunkOwners.{closed_gone, closed_other, closed_was, ordered_trimmed, owner_before, owner_behind, owner_left_out, owner_with_item, owner_without_first}
use Rattle.queues.proofs.Frames.{active_number}
use Rattle.queues.proofs.QueueHolders.{changed_new, changed_still, changed_was, gone_still, gone_was, has_made, none_after_maker}
use Rattle.queues.proofs.Owners.{has_owners, IsHolder, ordered_left_out, ordered_owners, ordered_same, ordered_without, owner_at, owns_at, owns_one}
use Rattle.queues.proofs.OwnersSpawned.{spawn_given, spawn_kept}
use Rattle.queues.proofs.TreeChanged.{EachIsChanged, still}
use Rattle.swan_model.proofs.Elements.{one_answer}

-- ---- the same chunks

-- the same holders, and chunks with the same owners
owners_same : (before after : QueueState) (queue : ℕ) (chunks now : Chunks) → ((number : ℕ) (path : List ℕ) → IsHolder after queue number path → IsHolder before queue number path)
    → ((number : ℕ) (path : List ℕ) → IsHolder before queue number path → IsHolder after queue number path)
    → ((index : ℕ) → owner_at now index ≡ owner_at chunks index) → HasOwners before queue chunks → HasOwners after queue now
owners_same before after queue chunks now was stays same owners =
    has_owners after queue now
    (ordered_same (IsHolder before queue) (owner_at chunks) (ordered_owners before queue chunks owners) (IsHolder after queue) (owner_at now) was stays same)

owners_changed : (before after : QueueState) (each : ActiveFrame → ActiveFrame) (actor : ℕ) → IsTree before → EachIsChanged before after each actor
    → (queue : ℕ) (chunks now : Chunks) → (queue < length before.makers) ⊎ (length after.makers ≤ queue) → ((index : ℕ) → owner_at now index ≡ owner_at chunks index)
    → HasOwners before queue chunks → HasOwners after queue now
owners_changed before after each actor tree change queue chunks now there same owners =
    owners_same before after queue chunks now (changed_was before after each actor tree change queue there) (changed_still before after each actor tree change queue) same owners

pub owners_kept_root : (state : QueueState) (q : ℕ) (chunks : Chunks) → IsTree state → q < length state.makers → HasOwners state q chunks
    → HasOwners (after_create_root state) q chunks
owners_kept_root state q chunks tree known owners =
    owners_changed state (after_create_root state) (frame_after_change 0 (with_made (length state.makers))) 0 tree (root_changed state tree) q chunks chunks (inl known) (λ index. refl) owners

pub owners_kept_create : (state : QueueState) (n q : ℕ) (chunks : Chunks) → IsTree state → (act : MayDo state n) → q < length state.makers → HasOwners state q chunks
    → HasOwners (after_create state act.frame) q chunks
owners_kept_create state n q chunks tree act known owners =
    owners_changed state (after_create state act.frame) (frame_after_change act.frame.number (maker_now state)) act.frame.number tree (create_changed state tree n act.frame act.may)
    q chunks chunks (inl known) (λ index. refl) owners

-- after a deed, with chunks of the same owners
owners_deed : (state : QueueState) (n q : ℕ) (chunks now : Chunks) → IsTree state → MayDo state n → ((index : ℕ) → owner_at now index ≡ owner_at chunks index)
    → HasOwners state q chunks → HasOwners (after_deed state n) q now
owners_deed state n q chunks now tree act same owners =
    owners_changed state (after_deed state n) (frame_after_change n with_deed) n tree (deed_changed state tree n act.frame act.may) q chunks now
    (cases_lt q (length state.makers)) same owners

pub owners_kept_deed : (state : QueueState) (n q : ℕ) (chunks : Chunks) → IsTree state → MayDo state n → HasOwners state q chunks → HasOwners (after_deed state n) q chunks
owners_kept_deed state n q chunks tree act owners = owners_deed state n q chunks chunks tree act (λ index. refl) owners

pub owners_kept_lend : (state : QueueState) (frame : ActiveFrame) (ends : List LentEnd) (q : ℕ) (chunks : Chunks) → IsTree state → HasOwners state q chunks
    → HasOwners (after_lend state frame ends) q chunks
owners_kept_lend state frame ends q chunks tree owners =
    owners_changed state (after_lend state frame ends) (frame_after_change frame.number (lent_now frame ends)) frame.number tree (lend_changed state frame ends tree) q chunks chunks
    (cases_lt q (length state.makers)) (λ index. refl) owners

pub owners_kept_back : (state : QueueState) (n deeds q : ℕ) (chunks : Chunks) → IsTree state → HasOwners state q chunks → HasOwners (after_back state n deeds) q chunks
owners_kept_back state n deeds q chunks tree owners =
    owners_changed state (after_back state n deeds) (frame_after_change n (back_now deeds)) n tree (back_changed state n deeds tree) q chunks chunks
    (cases_lt q (length state.makers)) (λ index. refl) owners

pub owners_kept_rest : (state : QueueState) (queue q : ℕ) (chunks : Chunks) → IsTree state → HasOwners state q chunks → HasOwners (after_take_rest state queue) q chunks
owners_kept_rest state queue q chunks tree owners =
    owners_changed state (after_take_rest state queue) (λ f. f) 0 tree (rest_changed state queue tree) q chunks chunks (cases_lt q (length state.makers)) (λ index. refl) owners

-- ---- items come and go

pub owners_push : (state : QueueState) (n q : ℕ) (value : Value) (chunks : Chunks) → IsTree state → MayDo state n → HasOwners state q chunks
    → HasOwners (after_deed state n) q (with_item n value chunks)
owners_push state n q value chunks tree act owners =
    owners_deed state n q chunks (with_item n value chunks) tree act (owner_with_item n value chunks) owners

pub owners_left_out : (state : QueueState) (q : ℕ) (before after : Chunks) (gone : Chunk) → gone.owner ≡ None → HasOwners state q (before ++ gone ∷ after)
    → HasOwners state q (before ++ after)
owners_left_out state q before after gone none owners =
    has_owners state q (before ++ after)
    (ordered_left_out (IsHolder state q) (owner_at (before ++ gone ∷ after)) (ordered_owners state q (before ++ gone ∷ after) owners) (length before)
    (owner_left_out before after gone ∙ none) (owner_at (before ++ after)) (owner_before before after gone) (owner_behind before after gone))

pub owners_trimmed : (state : QueueState) (q : ℕ) (chunks : Chunks) → HasOwners state q chunks → HasOwners state q (without_spent chunks)
owners_trimmed state q chunks owners =
    has_owners state q (without_spent chunks) (ordered_trimmed (IsHolder state q) chunks (ordered_owners state q chunks owners))

pub owners_without_first : (state : QueueState) (q : ℕ) (chunks : Chunks) → HasOwners state q chunks → HasOwners state q (without_first chunks)
owners_without_first state q chunks owners =
    owners_same state state q chunks (without_first chunks) (λ number path holds. holds) (λ number path holds. holds) (owner_without_first chunks) owners

-- ---- a new queue

-- the maker alone has it, and owns its only chunk
owners_new : (before after : QueueState) (each : ActiveFrame → ActiveFrame) (actor : ℕ) (frame : ActiveFrame) (first : List Value) → IsTree before → EachIsChanged before after each actor
    → active before actor ≡ Some frame → has_queue (each frame) (length before.makers) ≡ true → HasOwners after (length before.makers) (own actor first ∷ [])
owners_new before after each actor frame first tree change live has = has_owners after queue (own actor first ∷ []) (record {
  owners = λ index number at. (frame.path, subst (λ k. IsHolder after queue k frame.path) (one index number at) maker);
  all = λ number path now. (0, ap Some (sym (changed_new before after each actor tree change queue (omega arith) number path now)));
  order = λ index later number other a b less one_owns two_owns. absurd (one_place index later number other less two_owns);
})
  where
    queue : ℕ
    queue = length before.makers

    maker : IsHolder after queue actor frame.path
    maker = record { frame = each frame; live = still before after each actor tree change actor frame live; has = has; is = change.kept.path frame }

    one : (index number : ℕ) → owner_at (own actor first ∷ []) index ≡ Some number → actor ≡ number
    one zero number at = same_Some actor number at
    one (suc index) number at = absurd (cc)

    one_place : (index later number other : ℕ) → index < later → owner_at (own actor first ∷ []) later ≡ Some other → ⊥
    one_place index zero number other less at = absurd (omega arith)
    one_place index (suc later) number other less at = absurd (cc)

pub owners_root : (state : QueueState) (first : List Value) → IsTree state → IsUntouched state → HasOwners (after_create_root state) (length state.makers) (own 0 first ∷ [])
owners_root state first tree untouched =
    let root = untouched.root in
    let own_number = active_number state 0 root untouched.live in
    let now : frame_after_change 0 (with_made (length state.makers)) root ≡ with_made (length state.makers) root =
    ap (λ b. cond b (with_made (length state.makers) root) root) (eq-eqb root.number 0 own_number) in
    owners_new state (after_create_root state) (frame_after_change 0 (with_made (length state.makers))) 0 root first tree (root_changed state tree) untouched.live
    (ap (λ (f : ActiveFrame). has_queue f (length state.makers)) now ∙ has_made root.rights (length state.makers))

pub owners_create : (state : QueueState) (n : ℕ) (first : List Value) → IsTree state → (act : MayDo state n)
    → HasOwners (after_create state act.frame) (length state.makers) (own n first ∷ [])
owners_create state n first tree act =
    let frame = act.frame in
    let named = active_number state n frame act.may.live in
    let now : frame_after_change frame.number (maker_now state) frame ≡ maker_now state frame =
    ap (λ b. cond b (maker_now state frame) frame) (eq-eqb frame.number frame.number refl) in
    let has = ap (λ (f : ActiveFrame). has_queue f (length state.makers)) now ∙ has_made frame.rights (length state.makers) in
    subst (λ k. HasOwners (after_create state frame) (length state.makers) (own k first ∷ [])) named
    (owners_new state (after_create state frame) (frame_after_change frame.number (maker_now state)) frame.number frame first tree (create_changed state tree n frame act.may)
    (own_live state tree n frame act.may) has)

-- ---- a frame is spawned

-- The queue is given: the child takes over its parent's chunk.
pub owners_spawn : (state : QueueState) (p child : ℕ) (gives : List QueueRight) (q : ℕ) (chunks : Chunks) → IsTree state → (may : MaySpawn state p child gives)
    → list_any (λ right. right.queue == q) gives ≡ true → HasOwners state q chunks → HasOwners (after_spawn state may.act.frame child gives) q (after_hand_on p child chunks)
owners_spawn state p child gives q chunks tree may has owners = spawn_given state p child gives q tree may chunks has owners

-- The queue isn't given.
pub owners_kept_spawn : (state : QueueState) (p child : ℕ) (gives : List QueueRight) (q : ℕ) (chunks : Chunks) → IsTree state → (may : MaySpawn state p child gives)
    → list_any (λ right. right.queue == q) gives ≡ false → HasOwners state q chunks → HasOwners (after_spawn state may.act.frame child gives) q chunks
owners_kept_spawn state p child gives q chunks tree may hasnt owners = spawn_kept state p child gives q tree may chunks hasnt owners

-- ---- a frame finishes

pub owners_finish : (state : QueueState) (n q : ℕ) (chunks : Chunks) → HasOwners state q chunks → HasOwners (after_finish state n) q (after_close n chunks)
owners_finish state n q chunks owners =
    let ordered = ordered_owners state q chunks owners in
    has_owners (after_finish state n) q (after_close n chunks)
    (ordered_without (IsHolder state q) (owner_at chunks) ordered (IsHolder (after_finish state n) q) (owner_at (after_close n chunks)) n
    (gone_was state n q) (gone_still state n q)
    (λ index number is. (
      λ same. closed_gone n chunks (λ i j first second. owns_one (IsHolder state q) (owner_at chunks) ordered i j n first second) index (is ∙ ap Some same),
      closed_was n chunks index number is,
    ))
    (λ index number apart is. closed_other n chunks index number apart is))

-- It hasn't the queue.
pub owners_kept_finish : (state : QueueState) (n q : ℕ) (frame : ActiveFrame) (chunks : Chunks) → active state n ≡ Some frame → has_queue frame q ≡ false
    → HasOwners state q chunks → HasOwners (after_finish state n) q chunks
owners_kept_finish state n q frame chunks live hasnt owners =
    has_owners (after_finish state n) q chunks
    (ordered_same (IsHolder state q) (owner_at chunks) (ordered_owners state q chunks owners) (IsHolder (after_finish state n) q) (owner_at chunks)
    (λ number path now. (gone_was state n q number path now).1)
    (λ number path old. gone_still state n q number path (λ same.
    let one = one_answer (active state n) old.frame frame (ap (active state) (sym same) ∙ old.live) live in
    false≢true (sym hasnt ∙ ap (λ (f : ActiveFrame). has_queue f q) (sym one) ∙ old.has)) old)
    (λ index. refl))

-- Once the maker has finished, no active frame has the queue, and no chunk has an owner.
pub none_has : (state : QueueState) (n q : ℕ) (maker : QueueMaker) → IsTree state → (may : MayJoin state n) → slice_get state.makers q ≡ Some maker → may.frame.path ≡ maker_path maker
    → (number : ℕ) (frame : ActiveFrame) → active (after_finish state n) number ≡ Some frame → has_queue frame q ≡ true → ⊥
none_has state n q maker tree may at own number frame live has =
    none_after_maker state n q may.frame maker tree may.may.live may.alone at own number frame.path (record { frame = frame; live = live; has = has; is = refl })

-- So it is where all chunks are given up.
pub owners_none : (state : QueueState) (n q : ℕ) (maker : QueueMaker) → IsTree state → (may : MayJoin state n) → slice_get state.makers q ≡ Some maker → may.frame.path ≡ maker_path maker
    → HasOwners (after_finish state n) q []
owners_none state n q maker tree may at own = record {
  owners = λ index number is. absurd (nothing index number is);
  all = λ number frame live has. absurd (none_has state n q maker tree may at own number frame live has);
  order = λ index later number other a b less one. absurd (nothing index number one);
}
  where
    nothing : (index number : ℕ) → IsOwner (after_finish state n) [] index number → ⊥
    nothing index number is = let e = owns_at (after_finish state n) [] index number is in absurd (cc)
