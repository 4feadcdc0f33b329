-- What giving a child back does, queue by queue.
use Rattle.std.proofs.Common.{◌≡◌, ◌≢◌, ℕ, ◌+◌, ◌<◌, Bool, true, false, ◌&&◌, ◌||◌, ◌==◌, Some, List, [], ◌∷◌, take, get_or, length, refl, sym, ap, subst, ◌∙◌, ◌⊎◌, inl, inr}
use Rattle.std.proofs.lemmas.Bool.{false≢true, eqb-true, or_cases}
use Rattle.std.proofs.lemmas.List.Folds.{list_any_more}
use Rattle.std.specs.List.Sorted.{IsStrictlySortedBy}
use Rattle.std.specs.Map.{keys_of}
use Rattle.std.specs.Ordering.{nat_cmp}
use Rattle.swan_model.specs.Rights.{allows}
use Rattle.swan_model.specs.SerialState.{Holding}
use Rattle.swan_model.specs.declared.rights.Mode.{Mode}
use Rattle.swan_model.specs.declared.rights.Mode.TheVariants.{Push, Pop}
use Rattle.pop_order.specs.Children.{ChildEntry}
use Rattle.pop_order.specs.Frames.{TurnFrame, Frames, frame_at, lets_use, without, HasNoChild}
use Rattle.pop_order.specs.Turns.{IsHolder}
use Rattle.pop_order.specs.Kept.{IsKeptFor}
use Rattle.pop_order.specs.NumberPairs.{NumberPair}
use Rattle.pop_order.specs.Steps.{IsShrunk, is_given, HoldsNoOther}
use Rattle.pop_order.proofs.Enlisting.{shrunk_without}
use Rattle.pop_order.proofs.Shrinking.{holders_untouched, givers_untouched}
use Rattle.swan_model.proofs.Elements.{one_answer}

-- a queue that isn't the last one of the holdings so far was among those before
pub given_before : (hs : List Holding) (i queue : ℕ) (h : Holding) → i < length hs → h ≡ get_or hs i h → queue ≢ h.number
    → is_given (take (i + 1) hs) queue ≡ true → is_given (take i hs) queue ≡ true
given_before hs i queue h l e apart t =
    let test : Holding → Bool = λ k. k.number == queue in
    let more : (is_given (take i hs) queue || test (get_or hs i h)) ≡ true = sym (list_any_more test hs i h l) ∙ t in
    elim (or_cases (is_given (take i hs) queue) (test (get_or hs i h)) more) [
      | inl before ↦ before
      | inr last ↦ absurd (apart (sym (eqb-true h.number queue (ap test e ∙ last))))
    ]

given_and : (a b c d : Bool) → ((a && b) || c) ≡ true → (c ≡ true → d ≡ true) → (a || d) ≡ true
given_and true b c d h next = refl
given_and false b c d h next = next h

-- who may use a queue has it
holds_given : (hs : List Holding) (queue : ℕ) (mode : Mode) → lets_use hs queue mode ≡ true → is_given hs queue ≡ true
holds_given [] queue mode h = h
holds_given (x ∷ xs) queue mode h =
    given_and (x.number == queue) (allows x.mode mode) (lets_use xs queue mode) (is_given xs queue) h (λ t. holds_given xs queue mode t)

module _ (before after : Frames) (parent child : ℕ) (shrunk : IsShrunk before after parent child) where
  settled_by : (poppers pushers : List ChildEntry) (givers : List NumberPair) (queue : ℕ) (hs : List Holding) (b : Bool) → is_given hs queue ≡ b → HoldsNoOther before child hs
      → IsKeptFor before poppers pushers givers queue ⊎ IsKeptFor after poppers pushers givers queue
      → (is_given hs queue ≡ true → IsKeptFor after poppers pushers givers queue)
      → IsKeptFor after poppers pushers givers queue
  settled_by poppers pushers givers queue hs true e other either done = done e
  settled_by poppers pushers givers queue hs false e other (inr kept) done = kept
  settled_by poppers pushers givers queue hs false e other (inl kept) done =
      let never : (mode : Mode) → IsHolder before queue mode child → ⊥ = λ mode holder. false≢true (sym e ∙ other queue mode holder) in
      record {
        pops = holders_untouched before after parent child shrunk Pop queue poppers kept.pops (never Pop);
        pushes = holders_untouched before after parent child shrunk Push queue pushers kept.pushes (never Push);
        gives = givers_untouched before after parent child shrunk queue pushers kept.pushes givers kept.gives;
      }

  -- the sets of each queue are right once the child is out of those of its own queues
  pub settled_all : (poppers pushers : List ChildEntry) (givers : List NumberPair) (queue : ℕ) (hs : List Holding) → HoldsNoOther before child hs
      → IsKeptFor before poppers pushers givers queue ⊎ IsKeptFor after poppers pushers givers queue
      → (is_given hs queue ≡ true → IsKeptFor after poppers pushers givers queue)
      → IsKeptFor after poppers pushers givers queue
  settled_all poppers pushers givers queue hs = settled_by poppers pushers givers queue hs (is_given hs queue) refl

module _ (frames after : Frames) (child parent : ℕ) (f : TurnFrame) (hs : List Holding) (active : frame_at frames child ≡ Some f) where
  pub is_shrunk : IsStrictlySortedBy nat_cmp (keys_of frames) → f.parent ≡ parent → HasNoChild frames child → after ≡ without frames child
      → IsShrunk frames after parent child
  is_shrunk sorted of none e =
      let P : Frames → Type 0 = λ fs. IsShrunk frames fs parent child in
      subst P (sym e) (shrunk_without frames parent child sorted (record { frame = f; active = active; of = of }) none)

  pub holds_no_other : f.holdings ≡ hs → HoldsNoOther frames child hs
  holds_no_other same queue mode holder =
      let P : List Holding → Type 0 = λ k. is_given k queue ≡ true in
      let Q : TurnFrame → Type 0 = λ g. lets_use g.holdings queue mode ≡ true in
      subst P same (holds_given f.holdings queue mode (subst Q (one_answer (frame_at frames child) holder.frame f holder.active active) holder.held))
