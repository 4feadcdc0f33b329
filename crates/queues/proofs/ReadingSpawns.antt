-- A reading in which a frame has spawned a child fits, where the hyperqueues have that child too.
use Rattle.std.proofs.Common.{◌≡◌, inl, inr, ℕ, ◌+◌, ◌<◌, ◌≤◌, nat_eq, List, [], ◌∷◌, ◌++◌, length, map, Some, None, refl, sym, ap, subst, ◌∙◌, append-nil, append_assoc, arith}
use Rattle.std.proofs.lemmas.Bool.{cases_eq, cases_lt, eq-eqb, eqb-true}
use Rattle.std.proofs.lemmas.List.{length-map, same_from_push}
use Rattle.std.proofs.lemmas.Option.{slice_get-map, same_Some}
use Rattle.std.specs.List.{find}
use Rattle.std.specs.Option.{option_map}
use Rattle.std.specs.Prelude.{slice_get}
use Rattle.swan_model.specs.declared.script.Deed.TheVariants as deed
use Rattle.swan_model.specs.declared.script.OriginGive.{OriginGive}
use Rattle.swan_model.specs.declared.script.Script.{Script}
use Rattle.swan_model.specs.Granted.{child_path, children_before}
use Rattle.swan_model.specs.Lawful.{IsLawful}
use Rattle.swan_model.specs.Nested.{IsEntryOf, IsSpawned, spawn_time}
use Rattle.swan_model.specs.QueueFollows.{Fits, FitsFrame, QueuesFollow}
use Rattle.swan_model.specs.QueueState.{ActiveFrame, QueueRight, QueueState, active, after_spawn, changing, child_of, with_deed}
use Rattle.swan_model.specs.Readings.{more_by, next_deed, reading_after_spawn}
use Rattle.swan_model.specs.SerialTime.{Progress, Reading, frame_of, point, times}
use Rattle.swan_model.proofs.Paths.{not_below-itself}
use Rattle.swan_model.proofs.Places.{passing, placed}
use Rattle.swan_model.proofs.Points.{is_past-child, same_frame}
use Rattle.swan_model.proofs.ScriptSteps.{IsSpawnOf, spawn_moves}
use Rattle.swan_model.proofs.TaskEntries.{is_spawn_of, spawn_own}
use Rattle.queues.proofs.Advancing.{fits_next, fits_same, more_left, own_now}
use Rattle.queues.proofs.Continuing.{became, changed_gone, its, more_number, more_path, other_more, others_kept, own_more}
use Rattle.swan_model.proofs.Elements.{before_more, find_map, last_more, mapped_is, more_cases, found_before, found_cases, found_last, found_none}
use Rattle.queues.proofs.Fitting.{fits_comes}
use Rattle.queues.proofs.Lineage.{spawns_by}
use Rattle.queues.proofs.Refitting.{GoesTo, past_done, refits}
use Rattle.queues.proofs.Rereading.{fit_of, live_left}
use Rattle.queues.proofs.Frames.{active_number}
use Rattle.swan_model.proofs.MovedFrames.{frame_in, frame_number}

module _ (s : Script) (lawful : IsLawful s) (state : QueueState) (follows : QueuesFollow s state) (r : Reading) (fits : Fits s state r) (child : ℕ) (parent : ActiveFrame) (p : Progress) (gives : List OriginGive) (queues : List QueueRight)
    (same : p.number ≡ parent.number) (live : active state parent.number ≡ Some parent) (known : frame_of r p.number ≡ Some p)
    (free : active state child ≡ None) (unread : frame_of r child ≡ None) (next : next_deed s p ≡ Some (deed.Spawn gives)) where
  abbrev born : Progress
  born = record { number = child; path = child_path s p.path (point s p); done = 0 }

  abbrev g : Progress → Progress
  g = more_by p.number 1

  abbrev after : Progress
  after = record p { done = p.done + 1 }

  abbrev other : Reading
  other = reading_after_spawn s r p child

  moves : IsSpawnOf s p (child_path s p.path (point s p))
  moves = spawn_moves s lawful p gives next

  mapped_at : (i : ℕ) → slice_get (map g r.frames) i ≡ option_map g (slice_get r.frames i)
  mapped_at i = slice_get-map g r.frames i

  mapped_of : (n : ℕ) → find (λ (f : Progress). nat_eq f.number n) (map g r.frames) ≡ option_map g (frame_of r n)
  mapped_of n = find_map (λ (f : Progress). nat_eq f.number n) g (λ f. ap (λ k. nat_eq k n) (more_number p.number 1 (nat_eq f.number p.number) f)) r.frames

  known_on : (n : ℕ) (x : Progress) → frame_of r n ≡ Some x → frame_of other n ≡ Some (g x)
  known_on n x is = found_before (λ (f : Progress). nat_eq f.number n) (map g r.frames) born (g x) (mapped_of n ∙ ap (option_map g) is)

  born_known : frame_of other child ≡ Some born
  born_known = found_last (λ (f : Progress). nat_eq f.number child) (map g r.frames) born (mapped_of child ∙ ap (option_map g) unread) (eq-eqb child child refl)

  after_later : point s p + 1 < point s after
  after_later = let ends = moves.ends in let long = moves.long in omega (arith, ends, long)

  -- no other child is spawned by then
  this_child : (number spawn : ℕ) → spawn_time s p.path number ≡ Some spawn → point s p ≤ spawn → spawn < point s after → born.path ≡ p.path ++ number ∷ []
  this_child number spawn is from before =
      let found = placed (is_spawn_of p.path) 0 s.entries number spawn is in
      let here : found.i ≡ spawn = omega (arith, found.is) in
      let count : children_before s p.path spawn ≡ number = ap (λ i. passing (is_spawn_of p.path) i s.entries) (sym here) ∙ found.before in
      elim (cases_lt (point s p) spawn) [
        | inl past ↦
            let own = spawn_own s p.path number spawn is in
            let ends = moves.ends in
            let under = moves.under spawn own.entry past (omega (arith, before, ends)) own.stands in
            absurd (not_below-itself p.path under.0 (children_before s p.path (point s p))
            (sym own.own ∙ under.1 ∙ append_assoc p.path (children_before s p.path (point s p) ∷ []) under.0))
        | inr at ↦
            let now : point s p ≡ spawn = omega (arith, at, from) in
            ap (λ k. p.path ++ k ∷ []) (ap (children_before s p.path) now ∙ count)
      ]

  not_yet : (i : ℕ) (x : Progress) → slice_get r.frames i ≡ Some x → x.path ≡ born.path → ⊥
  not_yet i x at path =
      let up = is_past-child s r fits.tasks p.path (children_before s p.path (point s p)) (fits.tasks.spawned i x p.path (children_before s p.path (point s p)) at path) in
      let place = frame_in r.frames p.number p known in
      let one = same_frame s r fits.tasks up.index place.index up.parent p up.stands place.stands up.own in
      let past : up.spawn < point s p = subst (λ f. up.spawn < point s f) one up.past in
      let time = same_Some up.spawn (point s p) (sym up.known ∙ moves.known) in
      omega (arith, past, time)

  spawn_done : IsSpawned s other p.path (children_before s p.path (point s p))
  spawn_done =
      let place = frame_in r.frames p.number p known in
      let there : slice_get other.frames place.index ≡ Some (g p) = before_more (map g r.frames) born place.index (g p) (mapped_at place.index ∙ ap (option_map g) place.stands) in
      let own : IsEntryOf s (g p).path (point s p) = subst (λ q. IsEntryOf s q (point s p)) (sym (more_path p.number 1 (nat_eq p.number p.number) p)) (own_now s p (deed.Spawn gives) next) in
      let later = after_later in
      let past : point s p < point s (g p) = subst (λ f. point s p < point s f) (sym (own_more s state r fits p.number 1 p known)) (omega (arith, later)) in
      record { spawn = point s p; known = moves.known; done = past_done s other place.index (g p) (point s p) there own past }

  goes : GoesTo s r other g (Some born)
  goes =
      record {
        number = λ i x at. more_number p.number 1 (nat_eq x.number p.number) x;
        path = λ i x at. more_path p.number 1 (nat_eq x.number p.number) x;
        to = λ i x at. before_more (map g r.frames) born i (g x) (mapped_at i ∙ ap (option_map g) at);
        from = λ i now at. elim (more_cases (map g r.frames) born i now at) [
          | inl before ↦
              let found = mapped_is g (slice_get r.frames i) now (sym (mapped_at i) ∙ before) in
              inl (record { was = found.0; stood = found.1; is = found.2 })
          | inr last ↦ inr (last.0 ∙ length-map r.frames g, ap Some (sym last.1))
        ];
        found = known_on;
        still = λ i x number spawn at is before. elim (cases_eq x.number p.number) [
          | inl one ↦
              let later = after_later in
              let here : point s p ≤ point s (g p) = subst (λ y. point s p ≤ point s y) (sym (own_more s state r fits p.number 1 p known)) (omega (arith, later)) in
              let on : point s x ≤ point s (g x) = subst (λ y. point s y ≤ point s (g y)) (its s state r fits p.number 1 p known i x at one) here in
              omega (arith, before, on)
          | inr apart ↦ subst (λ y. spawn < point s y) (sym (other_more s state r fits p.number 1 p known x apart)) before
        ];
        children = λ i x number spawn at is from before. elim (cases_eq x.number p.number) [
          | inl one ↦
              let e = sym (its s state r fits p.number 1 p known i x at one) in
              let end : spawn < point s after = subst (λ y. spawn < point s y) (ap g e ∙ own_more s state r fits p.number 1 p known) before in
              let path = this_child number spawn (ap (λ (y : Progress). spawn_time s y.path number) (sym e) ∙ is) (subst (λ y. point s y ≤ spawn) e from) end in
              (length (map g r.frames), born, last_more (map g r.frames) born, path ∙ ap (λ (y : Progress). y.path ++ number ∷ []) (sym e))
          | inr apart ↦
              let still : spawn < point s x = subst (λ y. spawn < point s y) (other_more s state r fits p.number 1 p known x apart) before in
              absurd (omega (arith, still, from))
        ];
        apart = λ now is i x at path. not_yet i x at (path ∙ ap (λ (y : Progress). y.path) (sym (same_Some born now is)));
        known = λ now is. subst (λ (y : Progress). frame_of other y.number ≡ Some y) (same_Some born now is) born_known;
        spawned = λ now is path number ends.
            let both = same_from_push p.path path (children_before s p.path (point s p)) number (ap (λ (y : Progress). y.path) (same_Some born now is) ∙ ends) in
            subst (λ q. IsSpawned s other q number) both.0 (subst (IsSpawned s other p.path) both.1 spawn_done);
        first = λ now is v own before.
            let one = sym (same_Some born now is) in
            let mine : IsEntryOf s born.path v = subst (λ (y : Progress). IsEntryOf s y.path v) one own in
            let early : v < point s born = subst (λ y. v < point s y) one before in
            let starts = moves.starts child in
            let all = moves.all v mine.entry [] mine.stands (mine.own ∙ sym (append-nil born.path)) in
            omega (arith, early, starts, all.0);
      }

  abbrev more_children : ActiveFrame → ActiveFrame
  more_children = λ f. with_deed (record f { children = f.children + 1 })

  abbrev grown : QueueState
  grown = changing state parent.number more_children

  abbrev new : QueueState
  new = after_spawn state parent child queues

  fit : FitsFrame s parent p
  fit = fit_of s lawful state r fits p.number p known parent (ap (active state) same ∙ live)

  -- the child is the task that the parent spawns
  child_is : born.path ≡ parent.path ++ parent.children ∷ []
  child_is =
      let many : parent.children ≡ children_before s parent.path (point s p) = (follows.tasks parent.number parent live).children ∙ spawns_by s parent.path parent.deeds (point s p) (fits_comes s parent p fit).before in
      ap (λ q. q ++ children_before s q (point s p) ∷ []) fit.path ∙ ap (λ k. parent.path ++ k ∷ []) (sym many)

  child_fits : FitsFrame s (child_of parent child queues) born
  child_fits =
      let task = sym child_is in
      let many : length (times s (parent.path ++ parent.children ∷ [])) ≡ length (times s born.path) = ap (λ q. length (times s q)) task in
      let some = moves.some in
      record {
        path = child_is;
        left = omega (arith, some, many);
        deeds = refl;
      }

  left_then : p.done + 1 < length (times s p.path)
  left_then = more_left s lawful p (deed.Spawn gives) next (λ is. let e : deed.Spawn gives ≡ deed.Quiet = is in cc) (λ queue is. let e : deed.Spawn gives ≡ deed.Pop queue = is in cc)

  parent_fits : (n : ℕ) (frame : ActiveFrame) → n ≡ parent.number → active grown n ≡ Some frame → FitsFrame s frame after
  parent_fits n frame is now =
      let b = became state grown parent.number more_children (λ f. refl) refl frame (ap (active grown) (sym is) ∙ now) in
      fits_next s b.was frame p (deed.Spawn gives) (fit_of s lawful state r fits p.number p known b.was (ap (active state) same ∙ b.live)) next
      (ap (λ (x : ActiveFrame). x.path) (sym b.is)) (ap (λ (x : ActiveFrame). x.deeds) (sym b.is)) left_then

  fitting : (n : ℕ) (frame : ActiveFrame) → active new n ≡ Some frame → (progress : Progress) × (frame_of other n ≡ Some progress) × FitsFrame s frame progress
  fitting n frame now = elim (found_cases (λ (f : ActiveFrame). nat_eq f.number n) grown.frames (child_of parent child queues) frame now) [
    | inr it ↦ (born, ap (frame_of other) (sym (eqb-true child n it.1)) ∙ born_known, subst (λ f. FitsFrame s f born) it.2 child_fits)
    | inl before ↦ elim (cases_eq n parent.number) [
      | inl is ↦
          (g p, known_on n p (ap (frame_of r) (is ∙ sym same) ∙ known), subst (FitsFrame s frame) (sym (own_more s state r fits p.number 1 p known)) (parent_fits n frame is before))
      | inr apart ↦
          let w = (others_kept state grown parent.number more_children (λ f. refl) refl).still n frame apart before in
          let q = fits.frames n w.was w.live in
          let still = other_more s state r fits p.number 1 p known q.0 (λ e. apart (sym (frame_number r.frames n q.0 q.1) ∙ e ∙ same)) in
          (g q.0, known_on n q.0 q.1, subst (FitsFrame s frame) (sym still) (fits_same s w.was frame q.0 q.2 w.path w.deeds))
    ]
  ]

  spawned_fits-own : Fits s new other
  spawned_fits-own =
      refits s state r other fits g (Some born) goes new fitting
      (λ i x at none.
      let gone = changed_gone state grown parent.number more_children (λ f. refl) refl x.number (found_none (λ (f : ActiveFrame). nat_eq f.number x.number) grown.frames (child_of parent child queues) none) in
      let apart : x.number ≡ p.number → ⊥ = λ is. live_left s lawful state r fits p.number p known (let left = left_then in omega (arith, left)) (ap (active state) (sym is) ∙ gone) in
      ap (λ (y : Progress). y.done) (other_more s state r fits p.number 1 p known x apart) ∙ fits.ended i x at gone)
      (λ now is none.
      let gone = subst (λ (y : Progress). active new y.number ≡ None) (sym (same_Some born now is)) none in
      let before = changed_gone state grown parent.number more_children (λ f. refl) refl child (found_none (λ (f : ActiveFrame). nat_eq f.number child) grown.frames (child_of parent child queues) gone) in
      let there = found_last (λ (f : ActiveFrame). nat_eq f.number child) grown.frames (child_of parent child queues) (found_none (λ (f : ActiveFrame). nat_eq f.number child) grown.frames (child_of parent child queues) gone) (eq-eqb child child refl) in
      let both : Some (child_of parent child queues) ≡ None = sym there ∙ gone in
      absurd (cc))
      fits.queues

pub spawned_fits : (s : Script) → IsLawful s → (state : QueueState) → QueuesFollow s state → (r : Reading) → Fits s state r → (number child : ℕ) (parent : ActiveFrame) (p : Progress) (gives : List OriginGive) (queues : List QueueRight)
    → active state number ≡ Some parent → frame_of r number ≡ Some p → active state child ≡ None → frame_of r child ≡ None → next_deed s p ≡ Some (deed.Spawn gives)
    → Fits s (after_spawn state parent child queues) (reading_after_spawn s r p child)
spawned_fits s lawful state follows r fits number child parent p gives queues live known free unread next =
    let one = active_number state number parent live in
    let two = frame_number r.frames number p known in
    spawned_fits-own s lawful state follows r fits child parent p gives queues (two ∙ sym one) (ap (active state) one ∙ live) (ap (frame_of r) two ∙ known) free unread next
