-- Tasks that push the items of a list and end, run whole over any contents.
use Rattle.std.proofs.Common.{◌≡◌, ℕ, ◌+◌, ◌-◌, ◌≤◌, List, [], ◌∷◌, ◌++◌, Some, refl, sym, ap, subst, ◌∙◌, append_assoc, arith, length, set-set}
use Rattle.std.proofs.lemmas.List.{append-nil}
use Rattle.std.proofs.lemmas.Option.{slice_get_within}
use Rattle.std.specs.Prelude.{slice_get}
use Rattle.swan_model.proofs.Lists.{get-set_same}
use Rattle.swan_model.specs.declared.body.Answer.{Answer}
use Rattle.swan_model.specs.declared.body.Answer.TheVariants as answer
use Rattle.swan_model.specs.declared.body.Ask.TheVariants as ask
use Rattle.swan_model.specs.declared.body.Body.{Ghosts}
use Rattle.swan_model.specs.declared.rights.Mode.TheVariants.{Push}
use Rattle.swan_model.specs.declared.value.Value.{Value}
use Rattle.swan_model.specs.SerialState.{Activation, Holding}
use Rattle.swan_model.specs.SerialStep.{number_at}
use Rattle.whole_runs.specs.Whole.{Contents, with_queue, RunsWhole}
use Rattle.whole_runs.proofs.WholeSteps.{pushes, finishes}
use Rattle.serial_elision.proofs.Pops.{set-found}

pub with_queue-same : (c : Contents) (n : ℕ) (items : List Value) → slice_get c.queues n ≡ Some items → with_queue c n items ≡ c
with_queue-same c n items is = ap {B = Contents} (λ qs. record c { queues = qs }) (set-found c.queues n items is)

pub with_queue-twice : (c : Contents) (n : ℕ) (items now : List Value) → with_queue (with_queue c n items) n now ≡ with_queue c n now
with_queue-twice c n items now = ap {B = Contents} (λ qs. record c { queues = qs }) (set-set c.queues n items now)

-- a task whose local is what is left to push
pub record Pusher {B L : Type 0} (G : Ghosts B L) (body : B) : Type 0 where
  pub left : List Value → L
  pub end : L
  pub place : ℕ
  pub more : (x : Value) (xs : List Value) (fuel : ℕ) → G.next body (left (x ∷ xs)) answer.Nothing fuel ≡ (left xs, ask.Push place x)
  pub ends : (fuel : ℕ) → G.next body (left []) answer.Nothing fuel ≡ (end, ask.Finish)

module _ {B L : Type 0} {G : Ghosts B L} {body : B} (p : Pusher G body) where
  -- It may come from another local, if it takes the same step there.
  pub pushes_all : (xs before : List Value) (path : List ℕ) (local : L) (told : Answer) (fuel children failed number : ℕ) (holdings : List Holding) (c : Contents)
      → G.next body local told (fuel - 1) ≡ G.next body (p.left xs) answer.Nothing (fuel - 1) → length xs + 1 ≤ fuel → number_at holdings p.place Push ≡ Some number → slice_get c.queues number ≡ Some before
      → RunsWhole G body (record { path = path; local = local; answer = told; fuel = fuel; holdings = holdings; children = children; failed = failed }) c (with_queue c number (before ++ xs)) []
  pushes_all [] before path local told fuel children failed number holdings c is enough held there =
      let a : Activation L = record { path = path; local = local; answer = told; fuel = fuel; holdings = holdings; children = children; failed = failed } in
      let same : c ≡ with_queue c number (before ++ []) = sym (ap (with_queue c number) (append-nil before) ∙ with_queue-same c number before there) in
      subst (λ after. RunsWhole G body a c after []) same (finishes G (omega arith) (is ∙ p.ends (fuel - 1)))
  pushes_all (x ∷ xs) before path local told fuel children failed number holdings c is enough held there =
      let a : Activation L = record { path = path; local = local; answer = told; fuel = fuel; holdings = holdings; children = children; failed = failed } in
      let mid = with_queue c number (before ++ x ∷ []) in
      let same : with_queue mid number ((before ++ x ∷ []) ++ xs) ≡ with_queue c number (before ++ x ∷ xs) =
      with_queue-twice c number (before ++ x ∷ []) _ ∙ ap (with_queue c number) (append_assoc before (x ∷ []) xs) in
      subst (λ after. RunsWhole G body a c after []) same
      (pushes G (omega arith) (is ∙ p.more x xs (fuel - 1)) held there
      (pushes_all xs (before ++ x ∷ []) path (p.left xs) answer.Nothing (fuel - 1) children failed number holdings mid refl (omega arith) held (get-set_same c.queues number _ (slice_get_within c.queues number before there))))
