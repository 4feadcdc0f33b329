-- The first owner before a frame's own chunk that may push.
use Rattle.std.proofs.Common.{◌≡◌, ◌≢◌, ℕ, zero, suc, ◌<◌, Bool, true, false, ◌==◌, Option, Some, None, [], ◌∷◌, refl, sym, ap, subst, ◌∙◌, ◌⊎◌, inl, inr, arith, rules}
use Rattle.std.proofs.lemmas.Bool.{cases_eq, false≢true, and_from, eq-eqb, or_left, or_right}
use Rattle.std.proofs.lemmas.List.Folds.{list_any-append}
use Rattle.std.specs.Option.{option_map_or}
use Rattle.std.specs.Prelude.{◌&&◌, slice_get, if◌then◌else◌}
use Rattle.swan_model.specs.declared.rights.Mode.TheVariants.{Push, PushPop}
use Rattle.swan_model.specs.QueueState.{ActiveFrame, QueueRight, QueueState, active, holds_queue, with_made}
use Rattle.swan_model.specs.Rights.{allows}
use Rattle.queues.specs.Chunks.{Chunk, Chunks, HasOwners, IsOwner}
use Rattle.queue_book.specs.Fronts.{first_open, open_or}
use Rattle.queue_book.specs.Live.{AreLive, is_pusher}
use Rattle.queues.specs.Tree.{has_queue}
use Rattle.queue_book.specs.declared.live_frame.OwnChunk.{OwnChunk}
use Rattle.queue_book.specs.declared.live_frames.LiveFrames.{LiveFrames}
use Rattle.queue_book.proofs.LiveKept.{has_key, own_chunk_of_key}
use Rattle.swan_model.proofs.Elements.{one_answer}

-- an owner has the queue
pub owner_has : (state : QueueState) (q : ℕ) (chunks : Chunks) → HasOwners state q chunks → (index m : ℕ) (g : ActiveFrame) → IsOwner state chunks index m
    → active state m ≡ Some g → has_queue g q ≡ true
owner_has state q chunks owners index m g owns live =
    let is = owners.owners index m owns in
    let P : ActiveFrame → Type 0 = λ f. has_queue f q ≡ true in
    subst P (one_answer (active state m) is.0 g is.1 live) is.2

-- whether it may push is kept
pub pushes_kept : (state : QueueState) (frames : LiveFrames) → AreLive state frames → (m q : ℕ) (g : ActiveFrame) → active state m ≡ Some g → has_queue g q ≡ true
    → is_pusher frames m q ≡ holds_queue g q Push
pushes_kept state frames live m q g there has =
    let key = has_key state frames live m q g there has in
    ap (λ o. option_map_or (λ (own_chunk : OwnChunk). own_chunk.pushes) o false) (own_chunk_of_key frames m q key.0 key.3 key.1 key.4) ∙ key.2.pushers q key.3 key.4

-- who made a queue may push to it
pub pushes_made : (frame : ActiveFrame) (queue : ℕ) → holds_queue (with_made queue frame) queue Push ≡ true
pushes_made frame queue =
    list_any-append (λ (r : QueueRight). (r.queue == queue) && allows r.mode Push) frame.rights _
    ∙ or_right _ _ (or_left _ false (and_from (queue == queue) (allows PushPop Push) (eq-eqb queue queue refl) refl))

module _ (frames : LiveFrames) (n q : ℕ) where
  -- a walk goes past an owner that may not push
  by_owner : (owner m : ℕ) (rest : Option ℕ) → open_or frames n q (Some owner) rest ≡ Some m → (owner ≢ n) × (((owner ≡ m) × (is_pusher frames m q ≡ true)) ⊎ ((rest ≡ Some m) × (is_pusher frames owner q ≡ false)))
  by_owner owner m rest met = by (owner == n) refl (is_pusher frames owner q) refl met where
    by : (own : Bool) → (owner == n) ≡ own → (may : Bool) → is_pusher frames owner q ≡ may → (if own then None else (if may then Some owner else rest)) ≡ Some m
        → (owner ≢ n) × (((owner ≡ m) × (is_pusher frames m q ≡ true)) ⊎ ((rest ≡ Some m) × (is_pusher frames owner q ≡ false)))
    by true is may so e = let never : None ≡ Some m = e in absurd (cc)
    by false is true so e =
        let same : owner ≡ m = cc in
        (λ own. false≢true (sym is ∙ ap (λ k. k == n) own ∙ eq-eqb n n refl), inl (same, ap (λ k. is_pusher frames k q) (sym same) ∙ so))
    by false is false so e = (λ own. false≢true (sym is ∙ ap (λ k. k == n) own ∙ eq-eqb n n refl), inr (e, so))

  -- Where the walk finds one, it owns a chunk and may push; none before it may, and the frame's own chunk is behind.
  pub record IsOpenFound (chunks : Chunks) (m : ℕ) : Type 0 where
    pub index : ℕ
    pub chunk : Chunk
    pub stands : slice_get chunks index ≡ Some chunk
    pub owns : chunk.owner ≡ Some m
    pub pushes : is_pusher frames m q ≡ true
    pub before : (own : ℕ) (other : Chunk) → slice_get chunks own ≡ Some other → other.owner ≡ Some n → index < own
    pub none : (early k : ℕ) (other : Chunk) → early < index → slice_get chunks early ≡ Some other → other.owner ≡ Some k → is_pusher frames k q ≡ false

  -- one chunk more before it
  later : (chunk : Chunk) (chunks : Chunks) (m : ℕ) → (chunk.owner ≡ Some n → ⊥) → ((k : ℕ) → chunk.owner ≡ Some k → is_pusher frames k q ≡ false)
      → IsOpenFound chunks m → IsOpenFound (chunk ∷ chunks) m
  later chunk chunks m not_own passed is = record {
    index = suc is.index;
    chunk = is.chunk;
    stands = is.stands;
    owns = is.owns;
    pushes = is.pushes;
    before = behind;
    none = nobody;
  } where
    behind : (own : ℕ) (other : Chunk) → slice_get (chunk ∷ chunks) own ≡ Some other → other.owner ≡ Some n → suc is.index < own
    behind zero other stands owner =
        let both : Some chunk ≡ Some other = stands in
        let same : chunk ≡ other = cc in
        absurd (not_own (ap (λ (c : Chunk). c.owner) same ∙ owner))
    behind (suc own) other stands owner = let less = is.before own other stands owner in omega (arith, less)

    nobody : (early k : ℕ) (other : Chunk) → early < suc is.index → slice_get (chunk ∷ chunks) early ≡ Some other → other.owner ≡ Some k → is_pusher frames k q ≡ false
    nobody zero k other less stands owner =
        let both : Some chunk ≡ Some other = stands in
        let same : chunk ≡ other = cc in
        passed k (ap (λ (c : Chunk). c.owner) same ∙ owner)
    nobody (suc early) k other less stands owner = is.none early k other (omega (arith, less)) stands owner

  pub open_found : (chunks : Chunks) (m : ℕ) → first_open frames n q chunks ≡ Some m → IsOpenFound chunks m
  open_found [] m met = let never : None ≡ Some m = met in absurd (cc)
  open_found (chunk ∷ chunks) m met = by chunk.owner refl (λ there. open_found chunks m there) met where
    by : (owner : Option ℕ) → chunk.owner ≡ owner → (first_open frames n q chunks ≡ Some m → IsOpenFound chunks m) → open_or frames n q owner (first_open frames n q chunks) ≡ Some m → IsOpenFound (chunk ∷ chunks) m
    by None is behind e =
        later chunk chunks m (λ own. let never : None ≡ Some n = sym is ∙ own in cc) (λ k theirs. let never : None ≡ Some k = sym is ∙ theirs in absurd (cc)) (behind e)
    by (Some owner) is behind e =
        let met_it = by_owner owner m (first_open frames n q chunks) e in
        elim met_it.1 [
          | inl here ↦ record {
            index = 0;
            chunk = chunk;
            stands = refl;
            owns = is ∙ ap Some here.0;
            pushes = here.1;
            before = λ own other stands theirs. elim (cases_eq own 0) [
              | inl first ↦
                  let both : Some chunk ≡ Some other = sym (ap (λ k. slice_get (chunk ∷ chunks) k) first) ∙ stands in
                  let same : chunk ≡ other = cc in
                  let two : Some owner ≡ Some n = sym is ∙ ap (λ (c : Chunk). c.owner) same ∙ theirs in
                  let one : owner ≡ n = cc in
                  absurd (met_it.0 one)
              | inr apart ↦ omega arith
            ];
            none = λ early k other less. absurd (omega (arith, less));
          }
          | inr passed ↦
              later chunk chunks m
              (λ own. let two : Some owner ≡ Some n = sym is ∙ own in let one : owner ≡ n = cc in met_it.0 one)
              (λ k theirs. let two : Some owner ≡ Some k = sym is ∙ theirs in let one : owner ≡ k = cc in ap (λ j. is_pusher frames j q) (sym one) ∙ passed.1)
              (behind passed.0)
        ]

  -- it finds none behind the frame's own chunk
  pub open_own_chunk : (first : Chunk) (rest : Chunks) → first.owner ≡ Some n → first_open frames n q (first ∷ rest) ≡ None
  open_own_chunk first rest own =
      ap (λ o. open_or frames n q o (first_open frames n q rest)) own
      ∙ ap (λ b. if b then None else (if is_pusher frames n q then Some n else first_open frames n q rest)) (eq-eqb n n refl)

  -- and ends at the first chunk where its owner may push
  pub open_first_owner : (m : ℕ) (first : Chunk) (rest : Chunks) → first.owner ≡ Some m → m ≢ n → is_pusher frames m q ≡ true → first_open frames n q (first ∷ rest) ≡ Some m
  open_first_owner m first rest owns differ pushes =
      let apart : (m == n) ≡ false = search rules in
      ap (λ o. open_or frames n q o (first_open frames n q rest)) owns
      ∙ ap (λ b. if b then None else (if is_pusher frames m q then Some m else first_open frames n q rest)) apart
      ∙ ap (λ b. if b then Some m else first_open frames n q rest) pushes
