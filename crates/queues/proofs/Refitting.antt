-- A reading whose frames have gone on, and which may have one frame more, fits.
use Rattle.std.proofs.Common.{◌≡◌, ◌⊎◌, inl, inr, ℕ, ◌<◌, ◌≤◌, true, false, nat_lt, List, [], ◌∷◌, ◌++◌, length, Option, Some, None, sym, ap, subst, ◌∙◌}
use Rattle.std.proofs.lemmas.Option.{same_Some}
use Rattle.std.proofs.lemmas.Bool.{and_from, cases_lt, lt-ltb}
use Rattle.std.proofs.lemmas.Map.Keys.{any_passes_from_place}
use Rattle.std.specs.List.{list_any}
use Rattle.std.specs.Option.{option_map_or}
use Rattle.std.specs.Prelude.{slice_get}
use Rattle.swan_model.specs.declared.script.Script.{Script}
use Rattle.swan_model.specs.Nested.{HasTasks, IsEntryOf, IsSpawned, spawn_time}
use Rattle.swan_model.specs.QueueFollows.{Fits, FitsFrame, queue_origin}
use Rattle.swan_model.specs.QueueState.{ActiveFrame, QueueState, active}
use Rattle.swan_model.specs.SerialTime.{Progress, Reading, frame_of, is_done, is_of, is_past, point, times}
use Rattle.swan_model.proofs.Points.{is_past-child}
use Rattle.swan_model.proofs.TaskEntries.{spawn_own}
use Rattle.queues.proofs.Between.{own_is}

-- what a frame of a reading has come past is done
pub past_done : (s : Script) (r : Reading) (index : ℕ) (p : Progress) (v : ℕ) → slice_get r.frames index ≡ Some p → IsEntryOf s p.path v → v < point s p → is_done s r v ≡ true
past_done s r index p v stands own past =
    ap (λ o. option_map_or (λ e. list_any (is_past s v e) r.frames) o false) own.stands
    ∙ any_passes_from_place (is_past s v own.entry) r.frames index p stands (and_from (is_of p.path own.entry) (nat_lt v (point s p)) (own_is s p.path own.entry own.own) (lt-ltb v (point s p) past))

-- a frame of the new reading that stood in the old one
pub record WasIn (r : Reading) (g : Progress → Progress) (index : ℕ) (now : Progress) : Type 0 where
  pub was : Progress
  pub stood : slice_get r.frames index ≡ Some was
  pub is : g was ≡ now

-- The other reading has the frames of the first, each as `g` makes it, and this one more where it is told.
pub record GoesTo (s : Script) (r other : Reading) (g : Progress → Progress) (born : Option Progress) : Type 0 where
  pub number : (index : ℕ) (p : Progress) → slice_get r.frames index ≡ Some p → (g p).number ≡ p.number
  pub path : (index : ℕ) (p : Progress) → slice_get r.frames index ≡ Some p → (g p).path ≡ p.path
  pub to : (index : ℕ) (p : Progress) → slice_get r.frames index ≡ Some p → slice_get other.frames index ≡ Some (g p)
  pub from : (index : ℕ) (now : Progress) → slice_get other.frames index ≡ Some now → WasIn r g index now ⊎ ((index ≡ length r.frames) × (born ≡ Some now))
  pub found : (number : ℕ) (p : Progress) → frame_of r number ≡ Some p → frame_of other number ≡ Some (g p)
  -- none has gone back before a spawn, and where one has come past a spawn the child is there
  pub still : (index : ℕ) (p : Progress) (child spawn : ℕ) → slice_get r.frames index ≡ Some p → spawn_time s p.path child ≡ Some spawn → spawn < point s p → spawn < point s (g p)
  pub children : (index : ℕ) (p : Progress) (child spawn : ℕ) → slice_get r.frames index ≡ Some p → spawn_time s p.path child ≡ Some spawn → point s p ≤ spawn → spawn < point s (g p)
      → (at : ℕ) × (q : Progress) × (slice_get other.frames at ≡ Some q) × (q.path ≡ p.path ++ child ∷ [])
  -- the new frame is another task, whose spawn is done, before its first entry
  pub apart : (now : Progress) → born ≡ Some now → (index : ℕ) (p : Progress) → slice_get r.frames index ≡ Some p → p.path ≡ now.path → ⊥
  pub known : (now : Progress) → born ≡ Some now → frame_of other now.number ≡ Some now
  pub spawned : (now : Progress) → born ≡ Some now → (path : List ℕ) (child : ℕ) → now.path ≡ path ++ child ∷ [] → IsSpawned s other path child
  pub first : (now : Progress) → born ≡ Some now → (v : ℕ) → IsEntryOf s now.path v → v < point s now → ⊥

module _ (s : Script) (state : QueueState) (r other : Reading) (fits : Fits s state r) (g : Progress → Progress) (born : Option Progress) (goes : GoesTo s r other g born) where
  path_is : (index : ℕ) (now : Progress) (x : WasIn r g index now) → now.path ≡ x.was.path
  path_is index now x = ap (λ (p : Progress). p.path) (sym x.is) ∙ goes.path index x.was x.stood

  -- what is done stays done
  still_done : (path : List ℕ) (child : ℕ) → IsSpawned s r path child → IsSpawned s other path child
  still_done path child spawned =
      let up = is_past-child s r fits.tasks path child spawned in
      let own : IsEntryOf s (g up.parent).path up.spawn = subst (λ q. IsEntryOf s q up.spawn) (sym (goes.path up.index up.parent up.stands ∙ up.own)) (spawn_own s path child up.spawn up.known) in
      let past = goes.still up.index up.parent child up.spawn up.stands (ap (λ q. spawn_time s q child) up.own ∙ up.known) up.past in
      record { spawn = up.spawn; known = up.known; done = past_done s other up.index (g up.parent) up.spawn (goes.to up.index up.parent up.stands) own past }

  pub tasks_go : HasTasks s other
  tasks_go =
      record {
        different = λ i j a b one two same. elim (goes.from i a one) [
          | inl x ↦ elim (goes.from j b two) [
            | inl y ↦ fits.tasks.different i j x.was y.was x.stood y.stood (sym (path_is i a x) ∙ same ∙ path_is j b y)
            | inr y ↦ absurd (goes.apart b y.1 i x.was x.stood (sym (path_is i a x) ∙ same))
          ]
          | inr x ↦ elim (goes.from j b two) [
            | inl y ↦ absurd (goes.apart a x.1 j y.was y.stood (sym (path_is j b y) ∙ sym same))
            | inr y ↦ x.0 ∙ sym y.0
          ]
        ];
        spawned = λ i now path child at is. elim (goes.from i now at) [
          | inl x ↦ still_done path child (fits.tasks.spawned i x.was path child x.stood (sym (path_is i now x) ∙ is))
          | inr x ↦ goes.spawned now x.1 path child is
        ];
      }

  all_go : (path : List ℕ) (child spawn : ℕ) → spawn_time s path child ≡ Some spawn → is_done s other spawn ≡ true
      → (at : ℕ) × (q : Progress) × (slice_get other.frames at ≡ Some q) × (q.path ≡ path ++ child ∷ [])
  all_go path child spawn known done =
      let up = is_past-child s other tasks_go path child (record { spawn = spawn; known = known; done = done }) in
      let same : up.spawn ≡ spawn = same_Some up.spawn spawn (sym up.known ∙ known) in
      let past : spawn < point s up.parent = subst (λ t. t < point s up.parent) same up.past in
      let own = spawn_own s path child spawn known in
      elim (goes.from up.index up.parent up.stands) [
        | inl x ↦
            let its : x.was.path ≡ path = sym (path_is up.index up.parent x) ∙ up.own in
            elim (cases_lt spawn (point s x.was)) [
              | inl before ↦
                  let here : IsEntryOf s x.was.path spawn = subst (λ q. IsEntryOf s q spawn) (sym its) own in
                  let q = fits.all path child spawn known (past_done s r up.index x.was spawn x.stood here before) in
                  (q.0, g q.1, goes.to q.0 q.1 q.2, goes.path q.0 q.1 q.2 ∙ q.3)
              | inr now ↦
                  let there : spawn < point s (g x.was) = subst (λ p. spawn < point s p) (sym x.is) past in
                  let q = goes.children up.index x.was child spawn x.stood (ap (λ p. spawn_time s p child) its ∙ known) now there in
                  (q.0, q.1, q.2, q.3 ∙ ap (λ p. p ++ child ∷ []) its)
            ]
        | inr x ↦ absurd (goes.first up.parent x.1 spawn (subst (λ q. IsEntryOf s q spawn) (sym up.own) own) past)
      ]

  -- So the other reading fits a state that has the same frames, and the same queues.
  pub refits : (new : QueueState)
      → ((number : ℕ) (frame : ActiveFrame) → active new number ≡ Some frame → (progress : Progress) × (frame_of other number ≡ Some progress) × FitsFrame s frame progress)
      → ((index : ℕ) (p : Progress) → slice_get r.frames index ≡ Some p → active new p.number ≡ None → (g p).done ≡ length (times s p.path))
      → ((now : Progress) → born ≡ Some now → active new now.number ≡ None → ⊥)
      → ((queue : ℕ) → slice_get other.queues queue ≡ queue_origin s new queue) → Fits s new other
  refits new frames over live queues =
      record {
        tasks = tasks_go;
        frames = frames;
        ended = λ i now at none. elim (goes.from i now at) [
          | inl x ↦
              let number : now.number ≡ x.was.number = ap (λ (p : Progress). p.number) (sym x.is) ∙ goes.number i x.was x.stood in
              ap (λ (p : Progress). p.done) (sym x.is)
              ∙ over i x.was x.stood (ap (active new) (sym number) ∙ none)
              ∙ ap (λ q. length (times s q)) (sym (path_is i now x))
          | inr x ↦ absurd (live now x.1 none)
        ];
        numbers = λ i now at. elim (goes.from i now at) [
          | inl x ↦
              let number : now.number ≡ x.was.number = ap (λ (p : Progress). p.number) (sym x.is) ∙ goes.number i x.was x.stood in
              ap (frame_of other) number ∙ goes.found x.was.number x.was (fits.numbers i x.was x.stood) ∙ ap Some x.is
          | inr x ↦ goes.known now x.1
        ];
        all = all_go;
        root = (fits.root.0, g fits.root.1, goes.to fits.root.0 fits.root.1 fits.root.2, goes.path fits.root.0 fits.root.1 fits.root.2 ∙ fits.root.3);
        queues = queues;
      }
