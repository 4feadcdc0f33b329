-- A queue that was made keeps what holds of the frames and the chunks.
use Rattle.std.proofs.Common.{◌≡◌, ℕ, ◌+◌, ◌<◌, true, false, Option, Some, List, [], ◌∷◌, ◌++◌, length, refl, sym, ap, subst, ◌∙◌, inl, inr, arith, length-append}
use Rattle.std.proofs.lemmas.Bool.{cases_Bool, cases_eq}
use Rattle.std.proofs.lemmas.Option.{slice_get_within}
use Rattle.std.specs.Prelude.{slice_get}
use Rattle.swan_model.specs.declared.script.Deed.TheVariants as deed
use Rattle.swan_model.specs.declared.script.Script.{Script}
use Rattle.swan_model.specs.declared.value.Value.{Value}
use Rattle.swan_model.specs.Lawful.{IsLawful}
use Rattle.swan_model.specs.QueueFollows.{QueuesFollow, next_queue_deed, origin_in}
use Rattle.swan_model.specs.QueueState.{ActiveFrame, QueueMaker, planned, made_by, QueueState, active, after_create, after_create_root, with_deed, with_made, IsUntouched}
use Rattle.swan_model.specs.Readings.{end_time}
use Rattle.queues.specs.Asks.{is_emptied, MayDo, OnNext}
use Rattle.queues.specs.Chunks.{Chunks, own, HasOwners, Matches}
use Rattle.queue_book.specs.Chains.{in_line}
use Rattle.queues.specs.Tree.{SpawnersHaveTurns, IsTree, has_queue, maker_path, IsInUse}
use Rattle.queue_book.specs.Whole.{IsLine, IsPlain}
use Rattle.pop_order.specs.OneChange.{IsOnlyChange}
use Rattle.queues.proofs.ActiveAfter.{one_changed, one_goes_on}
use Rattle.queues.proofs.Creating.{created_follows, root_created_follows}
use Rattle.swan_model.proofs.Elements.{more_cases, one_answer}
use Rattle.queue_book.proofs.LivePut.{has_not_made}
use Rattle.queues.proofs.Match.{matches_create, matches_create_other, matches_root, matches_root_other}
use Rattle.queue_book.proofs.PlainSaid.{in_each, on_next}
use Rattle.queues.proofs.TreeSpawners.{spawners_create, spawners_root}
use Rattle.queues.proofs.TreeKept.{tree_create, tree_root}
use Rattle.queues.proofs.TreeOwners.{owners_create, owners_kept_create, owners_kept_root, owners_root}

-- Who has an older queue after a frame made one had it before.
pub made_in_use : (state after : QueueState) (n : ℕ) (frame later : ActiveFrame) → active state n ≡ Some frame → IsOnlyChange (active state) (active after) n (Some later)
    → (q : ℕ) (maker : QueueMaker) → (has_queue later q ≡ has_queue frame q) → IsInUse after q maker → IsInUse state q maker
made_in_use state after n frame later live one q maker same (inl of_root) = inl of_root
made_in_use state after n frame later live one q maker same (inr (number, found, live_found, has)) = elim (cases_eq number n) [
  | inl here ↦
      let is : found ≡ later = one_answer (active after n) found later (ap (active after) (sym here) ∙ live_found) one.changed in
      inr (n, frame, live, sym same ∙ ap (λ (f : ActiveFrame). has_queue f q) (sym is) ∙ has)
  | inr other ↦ inr (number, found, sym (one.others number other) ∙ live_found, has)
]

module _ (name : Option Script) (state after : QueueState) (lines : ℕ → Chunks) (is : IsPlain name state lines) (n : ℕ) (frame later : ActiveFrame) (maker : QueueMaker) (first : List Value)
    (live : active state n ≡ Some frame) (only : IsOnlyChange (active state) (active after) n (Some later)) (makers : after.makers ≡ state.makers ++ maker ∷ [])
    (emptied : after.emptied ≡ state.emptied) (same : (q : ℕ) → q < length state.makers → has_queue later q ≡ has_queue frame q) where
  full : is_emptied state (length state.makers) ≡ false
  full = elim (cases_Bool (is_emptied state (length state.makers))) [
    | inl over ↦ let never = is.rests (length state.makers) over in absurd (omega arith)
    | inr left ↦ left
  ]

  plain_made : IsTree after → ((s : Script) → name ≡ Some s → IsLawful s → QueuesFollow s after) → ((s : Script) → name ≡ Some s → SpawnersHaveTurns after)
      → ((q : ℕ) → q < length state.makers → HasOwners state q (lines q) → HasOwners after q (lines q))
      → ((s : Script) → name ≡ Some s → IsLawful s → (q : ℕ) (one : QueueMaker) → q < length state.makers → Matches s state q (origin_in s one) (end_time s (maker_path one)) (lines q)
      → Matches s after q (origin_in s one) (end_time s (maker_path one)) (lines q))
      → HasOwners after (length state.makers) (own n first ∷ [])
      → ((s : Script) → name ≡ Some s → IsLawful s → Matches s after (length state.makers) (origin_in s maker) (end_time s (maker_path maker)) (own n first ∷ []))
      → IsPlain name after (in_line (length state.makers) (λ old. own n first ∷ []) lines)
  plain_made tree follows spawners owners matches new_owners new_matches = record {
    rests = λ q over.
        let less : q < length state.makers = is.rests q (sym (ap (λ (es : List ℕ). is_emptied (record state { emptied = es }) q) emptied) ∙ over) in
        let long : length after.makers ≡ length state.makers + 1 = ap length makers ∙ length-append state.makers (maker ∷ []) in
        omega arith;
    tree = tree;
    follows = follows;
    spawners = spawners;
    queues = λ q one made.
        let at : slice_get (state.makers ++ maker ∷ []) q ≡ Some one = ap (λ (ms : List QueueMaker). slice_get ms q) (sym makers) ∙ made in
        elim (more_cases state.makers maker q one at) [
          | inl old ↦
              let less = slice_get_within state.makers q one old in
              let line = is.queues q one old in
              let left : is_emptied after q ≡ is_emptied state q = ap (λ (es : List ℕ). is_emptied (record state { emptied = es }) q) emptied in
              in_each (λ k chunks. IsLine name after k one chunks) (length state.makers) (λ chunks. own n first ∷ []) lines q
              (λ here. absurd (omega arith))
              (λ other. record {
                owners = owners q less line.owners;
                matches = λ free in_use s named lawful.
                    matches s named lawful q one less (line.matches (sym left ∙ free) (made_in_use state after n frame later live only q one (same q less) in_use) s named lawful);
                emptied = λ over. line.emptied (sym left ∙ over);
              })
          | inr new ↦
              let left : is_emptied after q ≡ false = ap (λ (es : List ℕ). is_emptied (record state { emptied = es }) q) emptied ∙ ap (λ k. is_emptied state k) new.0 ∙ full in
              in_each (λ k chunks. IsLine name after k one chunks) (length state.makers) (λ chunks. own n first ∷ []) lines q
              (λ here.
              let P : ℕ → QueueMaker → Type 0 = λ k m. IsLine name after k m (own n first ∷ []) in
              let Q : ℕ → Type 0 = λ k. P k one in
              let R : QueueMaker → Type 0 = λ m. P (length state.makers) m in
              subst Q (sym new.0) (subst R (sym new.1) (record {
                owners = new_owners;
                matches = λ free in_use s named lawful. new_matches s named lawful;
                emptied = λ over. let never : true ≡ false = sym over ∙ ap (λ k. is_emptied after k) (sym new.0) ∙ left in absurd (cc);
              })))
              (λ other. absurd (other new.0))
        ];
  }

module _ (name : Option Script) (state : QueueState) (lines : ℕ → Chunks) (is : IsPlain name state lines) where
  pub plain_create : (n : ℕ) (act : MayDo state n) → OnNext name state n (λ s f. next_queue_deed s f.path f.deeds ≡ Some deed.MakeQueue)
      → IsPlain name (after_create state act.frame) (in_line (length state.makers) (λ old. own n [] ∷ []) lines)
  plain_create n act next =
      let frame = act.frame in
      let i = length state.makers in
      let change : ActiveFrame → ActiveFrame = λ f. with_deed (with_made i f) in
      let told : (s : Script) → name ≡ Some s → next_queue_deed s frame.path frame.deeds ≡ Some deed.MakeQueue = λ s named.
      on_next name state n (λ t f. next_queue_deed t f.path f.deeds ≡ Some deed.MakeQueue) s frame next named act.may.live in
      plain_made name state (after_create state frame) lines is n frame (change frame) (made_by frame.path frame.deeds) [] act.may.live
      (one_goes_on state n frame change (λ f. refl) act.may.live) refl refl
      (λ q less. has_not_made frame i q (λ same. omega arith))
      (tree_create state n is.tree act)
      (λ s named lawful. created_follows s lawful state (is.follows s named lawful) n frame act.may.live (told s named))
      (λ s named. spawners_create state n is.tree act (is.spawners s named))
      (λ q less owners. owners_kept_create state n q (lines q) is.tree act less owners)
      (λ s named lawful q one less matches.
      matches_create_other s lawful state q (origin_in s one) (end_time s (maker_path one)) (lines q) matches n frame act.may.live (told s named) less)
      (owners_create state n [] is.tree act)
      (λ s named lawful. matches_create s lawful state n frame act.may.live (told s named))

  pub plain_create_root : (untouched : IsUntouched state) (first : List Value) → ((s : Script) → name ≡ Some s → slice_get s.queues (length state.makers) ≡ Some first)
      → IsPlain name (after_create_root state) (in_line (length state.makers) (λ old. own 0 first ∷ []) lines)
  plain_create_root untouched first next =
      let root = untouched.root in
      let i = length state.makers in
      plain_made name state (after_create_root state) lines is 0 root (with_made i root) (planned i) first untouched.live
      (one_changed state 0 (with_made i) (λ f. refl) root untouched.live) refl refl
      (λ q less. has_not_made root i q (λ same. omega arith))
      (tree_root state is.tree untouched)
      (λ s named lawful. root_created_follows s lawful state (is.follows s named lawful) first untouched (next s named))
      (λ s named. spawners_root state is.tree (is.spawners s named))
      (λ q less owners. owners_kept_root state q (lines q) is.tree less owners)
      (λ s named lawful q one less matches. matches_root_other s lawful state q (origin_in s one) (end_time s (maker_path one)) (lines q) matches root untouched.live less)
      (owners_root state first is.tree untouched)
      (λ s named lawful. matches_root s lawful state root first untouched.live (is.tree.root root untouched.live).0 untouched.deeds (next s named))
