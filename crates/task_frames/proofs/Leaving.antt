-- What is left once the root has ended, one root object or queue after the other.
use Rattle.std.proofs.Common.{◌≡◌, ◌≢◌, inl, inr, ℕ, ◌+◌, ◌<◌, false, nat_eq, List, [], ◌∷◌, ◌++◌, Some, None, length, refl, sym, ap, ◌∙◌, subst, length-append}
use Rattle.std.proofs.lemmas.Bool.{ne_eqb}
use Rattle.std.proofs.lemmas.List.{length-map}
use Rattle.std.specs.List.{list_any}
use Rattle.std.specs.Prelude.{slice_get}
use Rattle.swan_model.specs.declared.body.Body.{Ghosts}
use Rattle.swan_model.specs.declared.origin.Origin.TheVariants.{Root}
use Rattle.swan_model.specs.declared.plan.Plan.{Plan}
use Rattle.swan_model.specs.declared.plan.RootQueue.{RootQueue}
use Rattle.swan_model.specs.declared.script.Script.{Script}
use Rattle.swan_model.specs.declared.value.Value.{Value}
use Rattle.swan_model.specs.Elision.{outcome}
use Rattle.swan_model.specs.QueueFollows.{queue_origin}
use Rattle.swan_model.specs.QueueState.{QueueState}
use Rattle.swan_model.specs.Script.{script}
use Rattle.swan_model.specs.Versions.{Placed, owed, placed_at, settled}
use Rattle.swan_model.proofs.Elements.{more_cases, any_before}
use Rattle.serial_elision.proofs.Lawful.{lawful}
use Rattle.queues.specs.Asks.{IsRestLeft, is_emptied}
use Rattle.queues.specs.Tells.{OnQueue, rest_of}
use Rattle.task_frames.specs.Cores.{IsCore, KeptView}
use Rattle.task_frames.specs.Records.{live_at}
use Rattle.task_frames.proofs.LeftOver.{lists-same, object-left, queue-root, rest-left, rest-may}

-- ---- lists that grow

-- these are the first so many of all
pub record AreFirst {X : Type 0} (xs : List X) (n : ℕ) (all : List X) : Type 0 where
  pub many : length xs ≡ n
  pub each : (i : ℕ) (x : X) → slice_get xs i ≡ Some x → slice_get all i ≡ Some x

pub first-none : {X : Type 0} (left : List X) → AreFirst [] 0 left
first-none left = record { many = refl; each = λ i x is. absurd (cc) }

pub first-more : {X : Type 0} (xs left : List X) (n : ℕ) (x : X) → AreFirst xs n left → slice_get left n ≡ Some x → AreFirst (xs ++ x ∷ []) (n + 1) left
first-more xs left n x are is = record {
  many = length-append xs (x ∷ []) ∙ ap (λ k. k + 1) are.many;
  each = λ i y at. elim (more_cases xs x i y at) [
    | inl before ↦ are.each i y before
    | inr last ↦ ap (slice_get left) (last.0 ∙ are.many) ∙ is ∙ ap Some (sym last.1)
  ];
}

pub first-all : {X : Type 0} (xs left : List X) (n : ℕ) → AreFirst xs n left → n ≡ length left → xs ≡ left
first-all xs left n are all = lists-same xs left (are.many ∙ all) are.each

pub fresh-more : (taken : List ℕ) (n queue : ℕ) → list_any (λ other. nat_eq other queue) taken ≡ false → n ≢ queue → list_any (λ other. nat_eq other queue) (taken ++ n ∷ []) ≡ false
fresh-more taken n queue none other = any_before (λ (k : ℕ). nat_eq k queue) taken n (ne_eqb n queue other) ∙ none

-- ---- what a core leaves

module _ {B L : Type 0} (G : Ghosts B L) (plan : Plan B L) (kept : KeptView) (core : IsCore G plan kept) (over : live_at kept.live 0 ≡ None) where
  abbrev s : Script
  s = script G plan

  many-queues : length s.queues ≡ length plan.roots.queues
  many-queues = length-map plan.roots.queues (λ (queue : RootQueue). queue.items)

  -- a root object stands at its place, with its value
  pub root-placed : (i : ℕ) → i < length plan.roots.objects → (object : Placed) × (placed_at kept.versions 0 (length plan.roots.queues + i) ≡ Some object)
  root-placed i less =
      let root = core.objects.roots i less in
      (root.object, ap (λ n. placed_at kept.versions 0 (n + i)) (sym many-queues) ∙ root.stands)

  pub value-left : (i : ℕ) → i < length plan.roots.objects → (value : Value)
      → ((object : Placed) → placed_at kept.versions 0 (length plan.roots.queues + i) ≡ Some object → object.present ≡ settled value) → slice_get (outcome G plan).objects i ≡ Some value
  value-left i less value is =
      let root = core.objects.roots i less in
      let here = ap (λ n. placed_at kept.versions 0 (n + i)) (sym many-queues) ∙ root.stands in
      object-left G plan (lawful G plan core.sound.lists) kept.reading kept.state kept.live kept.frames core.queues core.frames over kept.versions kept.objects core.objects i less root.object value root.stands (is root.object here)

  -- which nobody owes
  pub never-owed : (i owing : ℕ) → i < length plan.roots.objects
      → ((object : Placed) → placed_at kept.versions 0 (length plan.roots.queues + i) ≡ Some object → object.present ≡ owed owing) → ⊥
  never-owed i owing less is =
      let root = core.objects.roots i less in
      let here = ap (λ n. placed_at kept.versions 0 (n + i)) (sym many-queues) ∙ root.stands in
      let settled-so = (core.objects.over over).values (length s.queues + i) root.object root.stands in
      let both : owed owing ≡ settled settled-so.0 = sym (is root.object here) ∙ settled-so.1 in
      absurd (cc)

  -- the rest of a root queue may be taken, and is what the elision leaves
  pub rest-free : (now : QueueState) → now.frames ≡ kept.state.frames → now.makers ≡ kept.state.makers → (i : ℕ) → i < length plan.roots.queues → IsRestLeft now i
  rest-free now frames makers i less =
      rest-may G plan (lawful G plan core.sound.lists) kept.reading kept.state kept.live kept.frames core.queues core.frames over now frames makers i (subst (λ n. i < n) (sym many-queues) less)

  pub rest-is : (now : QueueState) → now.makers ≡ kept.state.makers → (i : ℕ) → i < length plan.roots.queues → is_emptied now i ≡ false → (rest : List Value)
      → (is_emptied now i ≡ false → OnQueue kept.name now i (λ s origin. rest ≡ rest_of s origin)) → slice_get (outcome G plan).queues i ≡ Some rest
  rest-is now makers i less fresh rest tells =
      let lawful-is = lawful G plan core.sound.lists in
      let within = subst (λ n. i < n) (sym many-queues) less in
      let root = queue-root G plan lawful-is kept.reading kept.state kept.live kept.frames core.queues core.frames over i within in
      let origin : queue_origin s now i ≡ Some (Root i) = ap (λ ms. queue_origin s (record now { makers = ms }) i) makers ∙ root in
      let is = tells fresh s core.name lawful-is (Root i) origin in
      rest-left G plan lawful-is kept.reading kept.state kept.live kept.frames core.queues core.frames over i within ∙ ap Some (sym is)
