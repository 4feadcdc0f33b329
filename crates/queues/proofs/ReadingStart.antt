-- The reading of a run before its first step fits new hyperqueues.
use Rattle.std.proofs.Common.{◌≡◌, ℕ, zero, suc, ◌<◌, true, List, [], ◌∷◌, Some, None, refl, sym, ap, subst, ◌∙◌, arith}
use Rattle.std.proofs.lemmas.Option.{same_Some}
use Rattle.std.specs.Prelude.{slice_get}
use Rattle.swan_model.specs.declared.origin.Origin.{Origin}
use Rattle.swan_model.specs.declared.script.Script.{Script}
use Rattle.swan_model.specs.Lawful.{IsLawful}
use Rattle.swan_model.specs.Nested.{HasTasks, IsEntryOf, spawn_time}
use Rattle.swan_model.specs.QueueFollows.{Fits, FitsFrame}
use Rattle.swan_model.specs.QueueState.{active, new_state, root_frame}
use Rattle.swan_model.specs.Readings.{at_start}
use Rattle.swan_model.specs.SerialTime.{Progress, frame_of, is_done, point}
use Rattle.swan_model.proofs.Lists.{some_within}
use Rattle.swan_model.proofs.Points.{is_past-child}
use Rattle.swan_model.proofs.TaskEntries.{first_time, point_at, some_own}
use Rattle.queues.proofs.Calls.{only_root}
use Rattle.swan_model.proofs.Paths.{not_root}

abbrev root_progress : Progress
root_progress = record { number = 0; path = []; done = 0 }

-- the only frame
is_root : (i : ℕ) (p : Progress) → slice_get (root_progress ∷ []) i ≡ Some p → (root_progress ≡ p) × (i ≡ 0)
is_root zero p is = (same_Some root_progress p is, refl)
is_root (suc i) p is = absurd (cc)

module _ (s : Script) (lawful : IsLawful s) (objects : List Origin) where
  first_own : IsEntryOf s [] 0
  first_own =
      let first = some_within s.entries 0 (let some = lawful.some in omega (arith, some)) in
      record { entry = first.0; stands = first.1; own = lawful.first first.0 first.1 }

  point_first : point s root_progress ≡ 0
  point_first = point_at s root_progress 0 (first_time s [] 0 first_own (λ v less own. omega (arith, less)))

  root_tasks : HasTasks s (at_start [] objects)
  root_tasks =
      record {
        different = λ i j a b one two same. (is_root i a one).1 ∙ sym (is_root j b two).1;
        spawned = λ i p path child at is. absurd (not_root path [] child (sym (ap (λ (q : Progress). q.path) (is_root i p at).0 ∙ is)));
      }

  fits_root : FitsFrame s root_frame root_progress
  fits_root = record { path = refl; left = some_own s [] 0 first_own; deeds = refl }

  nothing_done : (path : List ℕ) (child spawn : ℕ) → spawn_time s path child ≡ Some spawn → is_done s (at_start [] objects) spawn ≡ true → ⊥
  nothing_done path child spawn is done =
      let up = is_past-child s (at_start [] objects) root_tasks path child (record { spawn = spawn; known = is; done = done }) in
      let root = (is_root up.index up.parent up.stands).0 in
      let past : up.spawn < point s root_progress = subst (λ p. up.spawn < point s p) (sym root) up.past in
      omega (arith, past, point_first)

  pub start_fits : Fits s new_state (at_start [] objects)
  start_fits =
      let r = at_start [] objects in
      record {
        tasks = root_tasks;
        frames = λ n frame live.
            let root = only_root n frame live in
            (root_progress, ap (frame_of r) root.1, subst (λ f. FitsFrame s f root_progress) root.0 fits_root);
        ended = λ i p at none.
            let number : p.number ≡ 0 = ap (λ (q : Progress). q.number) (sym (is_root i p at).0) in
            let both : Some root_frame ≡ None = ap (active new_state) (sym number) ∙ none in
            absurd (cc);
        numbers = λ i p at. subst (λ q. frame_of r q.number ≡ Some q) (is_root i p at).0 refl;
        all = λ path child spawn is done. absurd (nothing_done path child spawn is done);
        root = (0, root_progress, refl, refl);
        queues = λ queue. refl;
      }
