-- A push, a pop and a test keep what holds of the frames and the chunks.
use Rattle.std.proofs.Common.{◌≡◌, ◌≢◌, ℕ, true, false, Option, Some, [], ◌∷◌, refl, sym, ap, subst, ◌∙◌, inl, inr}
use Rattle.std.proofs.lemmas.Bool.{cases_eq}
use Rattle.std.specs.Option.{option_map}
use Rattle.std.specs.Prelude.{slice_get}
use Rattle.swan_model.specs.declared.origin.Origin.{Origin}
use Rattle.swan_model.specs.declared.rights.Mode.TheVariants.{Pop}
use Rattle.swan_model.specs.declared.script.Deed.{Deed}
use Rattle.swan_model.specs.declared.script.Deed.TheVariants as deed
use Rattle.swan_model.specs.declared.script.Script.{Script}
use Rattle.swan_model.specs.declared.value.Value.{Value}
use Rattle.swan_model.specs.Lawful.{IsLawful}
use Rattle.swan_model.specs.QueueFollows.{next_queue_deed, origin_in, IsNextAbout}
use Rattle.swan_model.specs.QueueState.{QueueMaker, QueueState, after_deed, holds_queue, HasTurn, IsPoppingChild}
use Rattle.swan_model.specs.Readings.{end_time}
use Rattle.swan_model.specs.Told.{is_same}
use Rattle.queues.specs.Asks.{MayDo, IsOnTurn, OnNext}
use Rattle.queues.specs.Chunks.{Chunk, Chunks, HasOwners, IsOwner, Matches, without_spent, with_item, without_first}
use Rattle.queue_book.specs.Chains.{in_line}
use Rattle.queues.specs.Tells.{FindsNone}
use Rattle.queues.specs.Tree.{maker_path}
use Rattle.queue_book.specs.Whole.{IsLine, IsPlain}
use Rattle.queues.proofs.SameHolders.{holders_deed, in_use_back}
use Rattle.queues.proofs.Calls.{used_follows}
use Rattle.queues.proofs.Match.{leaves_empty, leaves_pop, leaves_push, leaves_test, matches_deed, matches_pop, matches_push, matches_trimmed, none_pops, other_origin}
use Rattle.queues.proofs.Frames.{has_held}
use Rattle.queues.proofs.MatchDeed.{LeavesQueue}
use Rattle.queues.proofs.MatchParts.{NonePops}
use Rattle.queues.proofs.Moving.{is_making}
use Rattle.queue_book.proofs.PlainSaid.{in_each, on_next, origin_of, turn_on}
use Rattle.queues.proofs.TreeSpawners.{spawners_deed}
use Rattle.queues.proofs.TreeKept.{tree_deed}
use Rattle.queues.proofs.TreeOwners.{owners_kept_deed, owners_push, owners_trimmed, owners_without_first}

module _ (name : Option Script) (state : QueueState) (lines : ℕ → Chunks) (is : IsPlain name state lines) (n : ℕ) (act : MayDo state n) (turn : IsOnTurn name state n) where
  had_turn : (s : Script) → name ≡ Some s → HasTurn state act.frame
  had_turn s named = turn_on name state n s act.frame turn named act.may.live

  -- a deed with what it makes of the chunks of each queue
  plain_deed : (now : ℕ → Chunks)
      → ((q : ℕ) (maker : QueueMaker) → slice_get state.makers q ≡ Some maker → HasOwners state q (lines q) → HasOwners (after_deed state n) q (now q))
      → ((q : ℕ) → lines q ≡ [] → now q ≡ [])
      → ((s : Script) → name ≡ Some s → IsLawful s → (d : Deed) × (next_queue_deed s act.frame.path act.frame.deeds ≡ Some d) × (is_making d ≡ false))
      → ((s : Script) → name ≡ Some s → IsLawful s → (q : ℕ) (maker : QueueMaker) → slice_get state.makers q ≡ Some maker
      → Matches s state q (origin_in s maker) (end_time s (maker_path maker)) (lines q)
      → Matches s (after_deed state n) q (origin_in s maker) (end_time s (maker_path maker)) (now q))
      → IsPlain name (after_deed state n) now
  plain_deed now owners empty does matches = record {
    rests = is.rests;
    tree = tree_deed state n is.tree act;
    follows = λ s named lawful.
        let d = does s named lawful in
        used_follows s lawful state (is.follows s named lawful) n act.frame d.0 act.may.live d.1 d.2;
    spawners = λ s named. spawners_deed state n is.tree act (is.spawners s named);
    queues = λ q maker made.
        let line = is.queues q maker made in
        record {
          owners = owners q maker made line.owners;
          matches = λ left in_use s named lawful.
              matches s named lawful q maker made (line.matches left (in_use_back state (after_deed state n) q maker (holders_deed state n act.frame act.may.live) in_use) s named lawful);
          emptied = λ over. empty q (line.emptied over);
        };
  }

  module _ (queue : ℕ) (maker : QueueMaker) (made : slice_get state.makers queue ≡ Some maker) where
    next_of : (does : Origin → Deed) → OnNext name state n (λ s f. IsNextAbout does s state f queue) → (s : Script) → name ≡ Some s
        → next_queue_deed s act.frame.path act.frame.deeds ≡ Some (does (origin_in s maker))
    next_of does next s named =
        on_next name state n (λ s f. IsNextAbout does s state f queue) s act.frame next named act.may.live ∙ ap (option_map does) (origin_of s state queue maker made)

    differs : (s : Script) → name ≡ Some s → IsLawful s → (q : ℕ) (other : QueueMaker) → slice_get state.makers q ≡ Some other → q ≢ queue → is_same (origin_in s maker) (origin_in s other) ≡ false
    differs s named lawful q other made_too apart =
        other_origin s state (is.follows s named lawful) queue q (origin_in s maker) (origin_in s other) (origin_of s state queue maker made) (origin_of s state q other made_too) (λ e. apart (sym e))

    pub plain_test : OnNext name state n (λ s f. IsNextAbout deed.Test s state f queue) → IsPlain name (after_deed state n) lines
    plain_test next =
        plain_deed lines (λ q other made_too owners. owners_kept_deed state n q (lines q) is.tree act owners) (λ q none. none)
        (λ s named lawful. (deed.Test (origin_in s maker), next_of deed.Test next s named, refl))
        (λ s named lawful q other made_too matches.
        matches_deed s lawful state q (origin_in s other) (end_time s (maker_path other)) (lines q) matches n act.frame act.may.live
        (deed.Test (origin_in s maker)) (next_of deed.Test next s named) (leaves_test s act.frame (origin_in s other) (origin_in s maker)))

    pub plain_empty : OnNext name state n (λ s f. IsNextAbout deed.Pop s state f queue)
        → ((s : Script) → name ≡ Some s → IsLawful s → FindsNone act.frame s (origin_in s maker)) → IsPlain name (after_deed state n) lines
    plain_empty next none =
        plain_deed lines (λ q other made_too owners. owners_kept_deed state n q (lines q) is.tree act owners) (λ q empty. empty)
        (λ s named lawful. (deed.Pop (origin_in s maker), next_of deed.Pop next s named, refl))
        (λ s named lawful q other made_too matches.
        matches_deed s lawful state q (origin_in s other) (end_time s (maker_path other)) (lines q) matches n act.frame act.may.live
        (deed.Pop (origin_in s maker)) (next_of deed.Pop next s named) (elim (cases_eq q queue) [
          | inl here ↦
              let both : Some maker ≡ Some other = sym made ∙ ap (λ k. slice_get state.makers k) (sym here) ∙ made_too in
              let same : maker ≡ other = cc in
              let P : QueueMaker → Type 0 = λ m. LeavesQueue s act.frame (origin_in s m) (deed.Pop (origin_in s maker)) in
              subst P same (leaves_empty s act.frame (origin_in s maker) (none s named lawful))
          | inr apart ↦ leaves_pop s act.frame (origin_in s other) (origin_in s maker) (differs s named lawful q other made_too apart)
        ]))

    pub plain_push : (value : Value) → OnNext name state n (λ s f. IsNextAbout (λ origin. deed.Push origin value) s state f queue)
        → IsPlain name (after_deed state n) (in_line queue (with_item n value) lines)
    plain_push value next =
        plain_deed (in_line queue (with_item n value) lines)
        (λ q other made_too owners. in_each (λ k chunks. HasOwners (after_deed state n) k chunks) queue (with_item n value) lines q
        (λ here. owners_push state n q value (lines q) is.tree act owners) (λ apart. owners_kept_deed state n q (lines q) is.tree act owners))
        (λ q empty. in_each (λ k chunks. chunks ≡ []) queue (with_item n value) lines q (λ here. ap (with_item n value) empty) (λ apart. empty))
        (λ s named lawful. (deed.Push (origin_in s maker) value, next_of (λ origin. deed.Push origin value) next s named, refl))
        (λ s named lawful q other made_too matches.
        in_each (λ k chunks. Matches s (after_deed state n) k (origin_in s other) (end_time s (maker_path other)) chunks) queue (with_item n value) lines q
        (λ here.
        let both : Some maker ≡ Some other = sym made ∙ ap (λ k. slice_get state.makers k) (sym here) ∙ made_too in
        let same : maker ≡ other = cc in
        matches_push s lawful state q (origin_in s other) (end_time s (maker_path other)) (lines q) matches n act.frame act.may.live (is.queues q other made_too).owners value
        (next_of (λ origin. deed.Push origin value) next s named ∙ ap (λ (m : QueueMaker). Some (deed.Push (origin_in s m) value)) same))
        (λ apart. matches_deed s lawful state q (origin_in s other) (end_time s (maker_path other)) (lines q) matches n act.frame act.may.live
        (deed.Push (origin_in s maker) value) (next_of (λ origin. deed.Push origin value) next s named)
        (leaves_push s act.frame (origin_in s other) (origin_in s maker) value (differs s named lawful q other made_too apart))))

    pub plain_pop : OnNext name state n (λ s f. IsNextAbout deed.Pop s state f queue) → holds_queue act.frame queue Pop ≡ true
        → ((child : ℕ) → ¬ IsPoppingChild state n queue child) → (first : Chunk) (rest : Chunks) (value : Value) → lines queue ≡ first ∷ rest → slice_get first.items 0 ≡ Some value
        → IsPlain name (after_deed state n) (in_line queue without_first lines)
    plain_pop next pops alone first rest value are item =
        plain_deed (in_line queue without_first lines)
        (λ q other made_too owners. in_each (λ k chunks. HasOwners (after_deed state n) k chunks) queue without_first lines q
        (λ here. owners_without_first (after_deed state n) q (lines q) (owners_kept_deed state n q (lines q) is.tree act owners))
        (λ apart. owners_kept_deed state n q (lines q) is.tree act owners))
        (λ q empty. in_each (λ k chunks. chunks ≡ []) queue without_first lines q (λ here. ap without_first empty) (λ apart. empty))
        (λ s named lawful. (deed.Pop (origin_in s maker), next_of deed.Pop next s named, refl))
        (λ s named lawful q other made_too matches.
        in_each (λ k chunks. Matches s (after_deed state n) k (origin_in s other) (end_time s (maker_path other)) chunks) queue without_first lines q
        (λ here.
        let both : Some maker ≡ Some other = sym made ∙ ap (λ k. slice_get state.makers k) (sym here) ∙ made_too in
        let same : maker ≡ other = cc in
        let line : lines q ≡ first ∷ rest = ap lines here ∙ are in
        let pops_q : holds_queue act.frame q Pop ≡ true = ap (λ k. holds_queue act.frame k Pop) here ∙ pops in
        let alone_q : (child : ℕ) → ¬ IsPoppingChild state n q child = λ child popper. let P : ℕ → Type 0 = λ k. IsPoppingChild state n k child in alone child (subst P here popper) in
        let owners = (is.queues q other made_too).owners in
        let own = owners.all n act.frame act.may.live (has_held act.frame q Pop pops_q) in
        let P : Chunks → Type 0 = λ chunks. Matches s state q (origin_in s other) (end_time s (maker_path other)) chunks in
        let Q : Chunks → Type 0 = λ chunks. HasOwners state q chunks in
        let R : Chunks → Type 0 = λ chunks. IsOwner state chunks own.0 n in
        let S : Chunks → Type 0 = λ chunks. Matches s (after_deed state n) q (origin_in s other) (end_time s (maker_path other)) (without_first chunks) in
        let T : Chunks → Type 0 = λ chunks. NonePops state q chunks own.0 in
        let popless = none_pops state q (lines q) n own.0 act.frame is.tree (is.spawners s named) owners act.may (had_turn s named) pops_q alone_q own.1 in
        subst S (sym line)
        (matches_pop s lawful state q (origin_in s other) (end_time s (maker_path other)) first rest (subst P line matches) (subst Q line owners) own.0 n act.frame
        (subst R line own.1) act.may.live pops_q (subst T line popless)
        (next_of deed.Pop next s named ∙ ap (λ (m : QueueMaker). Some (deed.Pop (origin_in s m))) same) value item))
        (λ apart. matches_deed s lawful state q (origin_in s other) (end_time s (maker_path other)) (lines q) matches n act.frame act.may.live
        (deed.Pop (origin_in s maker)) (next_of deed.Pop next s named)
        (leaves_pop s act.frame (origin_in s other) (origin_in s maker) (differs s named lawful q other made_too apart))))

-- chunks that nobody pushes to and that are empty may go
pub plain_trim : (name : Option Script) (state : QueueState) (lines : ℕ → Chunks) (queue : ℕ) → IsPlain name state lines → IsPlain name state (in_line queue without_spent lines)
plain_trim name state lines queue is = record {
  rests = is.rests;
  tree = is.tree;
  follows = is.follows;
  spawners = is.spawners;
  queues = λ q maker made.
      let line = is.queues q maker made in
      in_each (λ k chunks. IsLine name state k maker chunks) queue without_spent lines q
      (λ here. record {
        owners = owners_trimmed state q (lines q) line.owners;
        matches = λ left in_use s named lawful. matches_trimmed s state q (origin_in s maker) (end_time s (maker_path maker)) (lines q) (line.matches left in_use s named lawful);
        emptied = λ over. ap without_spent (line.emptied over);
      })
      (λ apart. line);
}
