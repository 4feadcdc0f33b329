-- What the frames keep of each other is kept where a child of one of them comes in, behind all its siblings, with rights of its parent.
use Rattle.std.proofs.Common.{◌≡◌, ◌≢◌, ◌⊎◌, inl, inr, ℕ, ◌<◌, ◌≤◌, true, Some, List, [], ◌∷◌, ◌++◌, length, sym, ap, subst, ◌∙◌, append_assoc, arith, None, refl}
use Rattle.std.proofs.lemmas.Bool.{eq-eqb}
use Rattle.std.proofs.lemmas.List.{same_from_push}
use Rattle.std.specs.Prelude.{slice_get, ◌==◌}
use Rattle.swan_model.specs.declared.rights.Mode.{Mode}
use Rattle.swan_model.specs.QueueFollows.{IsChildOf}
use Rattle.swan_model.specs.QueueState.{ActiveFrame, QueueState, active, holds_queue, IsOlderPopper}
use Rattle.swan_model.specs.Rights.{is_queue_mode}
use Rattle.swan_model.proofs.Paths.{not_below-itself}
use Rattle.queues.specs.Tree.{IsHeld, made, given, IsTree, has_queue, maker_path}
use Rattle.queues.proofs.Above.{under_maker}
use Rattle.queues.proofs.Frames.{active_number}
use Rattle.swan_model.proofs.Elements.{more_cases, found_before, found_cases, found_last, option_cases}

-- the state with one more frame, which is the latest
abbrev pub with_frame : QueueState → ActiveFrame → QueueState
with_frame state frame = record state { frames = state.frames ++ frame ∷ []; latest = frame.number }

-- a frame that may come in as a child of this one
pub record IsNewest (state : QueueState) (parent new : ActiveFrame) (index : ℕ) : Type 0 where
  pub live : active state parent.number ≡ Some parent
  pub number : state.latest < new.number
  pub of : new.parent ≡ Some parent.number
  pub path : new.path ≡ parent.path ++ index ∷ []
  pub spawned : index < parent.children
  pub none : new.children ≡ 0
  -- it is behind all its siblings
  pub later : (number other : ℕ) (frame : ActiveFrame) → active state number ≡ Some frame → frame.path ≡ parent.path ++ other ∷ [] → other < index
  pub has : (queue : ℕ) → has_queue new queue ≡ true → has_queue parent queue ≡ true
  pub holds : (queue : ℕ) (mode : Mode) → holds_queue new queue mode ≡ true → holds_queue parent queue mode ≡ true

-- a path is none of those below it
below_not : (path rest : List ℕ) (last : ℕ) → path ≡ path ++ (rest ++ last ∷ []) → ⊥
below_not path [] last is = not_below-itself path [] last is
below_not path (part ∷ rest) last is = not_below-itself path (rest ++ last ∷ []) part is

module _ (state : QueueState) (parent new : ActiveFrame) (index : ℕ) (tree : IsTree state) (is : IsNewest state parent new index) where
  abbrev after : QueueState
  after = with_frame state new

  pub still_live : (number : ℕ) (frame : ActiveFrame) → active state number ≡ Some frame → active after number ≡ Some frame
  still_live number frame live = found_before (λ (f : ActiveFrame). f.number == number) state.frames new frame live

  pub new_live : active after new.number ≡ Some new
  new_live = found_last (λ (f : ActiveFrame). f.number == new.number) state.frames new free (eq-eqb new.number new.number refl)
    where
      free : active state new.number ≡ None
      free = elim (option_cases (active state new.number)) [
        | inl none ↦ none
        | inr old ↦ let upto = tree.latest new.number old.0 old.1 in let least = is.number in absurd (omega arith)
      ]

  pub was_live : (number : ℕ) (frame : ActiveFrame) → active after number ≡ Some frame → (active state number ≡ Some frame) ⊎ (frame ≡ new)
  was_live number frame live = elim (found_cases (λ (f : ActiveFrame). f.number == number) state.frames new frame live) [
    | inl old ↦ inl old
    | inr last ↦ inr (sym last.2)
  ]

  -- what holds of the frames and of the new one
  pub for_both : (P : ℕ → ActiveFrame → Type 0) → ((number : ℕ) (frame : ActiveFrame) → active state number ≡ Some frame → P number frame) → P new.number new
      → (number : ℕ) (frame : ActiveFrame) → active after number ≡ Some frame → P number frame
  for_both P old newest number frame live = elim (was_live number frame live) [
    | inl was ↦ old number frame was
    | inr same ↦
        let own : new.number ≡ number = ap (λ (f : ActiveFrame). f.number) (sym same) ∙ active_number after number frame live in
        let Q : ActiveFrame → Type 0 = λ f. P new.number f in
        subst (λ n. P n frame) own (subst Q (sym same) newest)
  ]

  known_too : (place : ℕ) (frame : ActiveFrame) → slice_get after.frames place ≡ Some frame → active after frame.number ≡ Some frame
  known_too place frame stands = elim (more_cases state.frames new place frame stands) [
    | inl was ↦ still_live frame.number frame (tree.known place frame was)
    | inr last ↦ ap (λ (f : ActiveFrame). active after f.number) last.1 ∙ new_live ∙ ap Some (sym last.1)
  ]

  spawned_too : (number above : ℕ) (frame : ActiveFrame) → active state number ≡ Some frame → frame.parent ≡ Some above → IsChildOf after frame above
  spawned_too number above frame live of =
      let from = tree.spawned number above frame live of in
      record { above = from.above; live = still_live above from.above from.live; index = from.index; path = from.path; spawned = from.spawned }

  new_spawned : (above : ℕ) → new.parent ≡ Some above → IsChildOf after new above
  new_spawned above of =
      let same : parent.number ≡ above = let e : Some parent.number ≡ Some above = sym is.of ∙ of in cc in
      record {
        above = parent;
        live = ap (active after) (sym same) ∙ still_live parent.number parent is.live;
        index = index;
        path = is.path;
        spawned = is.spawned;
      }

  new_older : (above : ℕ) → new.parent ≡ Some above → above < new.number
  new_older above of =
      let same : parent.number ≡ above = let e : Some parent.number ≡ Some above = sym is.of ∙ of in cc in
      let upto = tree.latest parent.number parent is.live in
      let least = is.number in
      omega arith

  -- the numbers of siblings rise to the new one
  siblings_too : (number other i j : ℕ) (a b : ActiveFrame) (path : List ℕ) → active after number ≡ Some a → active after other ≡ Some b
      → a.path ≡ path ++ i ∷ [] → b.path ≡ path ++ j ∷ [] → number < other → i < j
  siblings_too number other i j a b path one two at there less = by (was_live number a one) (was_live other b two) where
    by : (active state number ≡ Some a) ⊎ (a ≡ new) → (active state other ≡ Some b) ⊎ (b ≡ new) → i < j
    by (inl first) (inl second) = tree.siblings number other i j a b path first second at there less
    by (inl first) (inr last) =
        let paths = same_from_push path parent.path j index (sym there ∙ ap (λ (f : ActiveFrame). f.path) last ∙ is.path) in
        let before = is.later number i a first (at ∙ ap (λ p. p ++ i ∷ []) paths.0) in
        let same = paths.1 in
        omega arith
    by (inr last) (inl second) =
        let upto = tree.latest other b second in
        let least = is.number in
        let own : new.number ≡ number = ap (λ (f : ActiveFrame). f.number) (sym last) ∙ active_number after number a one in
        absurd (omega arith)
    by (inr last) (inr too) =
        let own : new.number ≡ number = ap (λ (f : ActiveFrame). f.number) (sym last) ∙ active_number after number a one in
        let own_too : new.number ≡ other = ap (λ (f : ActiveFrame). f.number) (sym too) ∙ active_number after other b two in
        absurd (omega arith)

  no_twin : (number : ℕ) (frame : ActiveFrame) → active state number ≡ Some frame → frame.path ≡ new.path → ⊥
  no_twin number frame live same =
      let before = is.later number index frame live (same ∙ is.path) in
      absurd (omega arith)

  different_too : (number other : ℕ) (a b : ActiveFrame) → active after number ≡ Some a → active after other ≡ Some b → a.path ≡ b.path → number ≡ other
  different_too number other a b one two same = by (was_live number a one) (was_live other b two) where
    by : (active state number ≡ Some a) ⊎ (a ≡ new) → (active state other ≡ Some b) ⊎ (b ≡ new) → number ≡ other
    by (inl first) (inl second) = tree.different number other a b first second same
    by (inl first) (inr last) = absurd (no_twin number a first (same ∙ ap (λ (f : ActiveFrame). f.path) last))
    by (inr last) (inl second) = absurd (no_twin other b second (sym same ∙ ap (λ (f : ActiveFrame). f.path) last))
    by (inr last) (inr too) =
        sym (active_number after number a one) ∙ ap (λ (f : ActiveFrame). f.number) (last ∙ sym too) ∙ active_number after other b two

  held_too : (queue : ℕ) (frame : ActiveFrame) → IsHeld state frame queue → IsHeld after frame queue
  held_too queue frame (made maker at own) = made maker at own
  held_too queue frame (given upper above of live has modes apart) = given upper above of (still_live upper above live) has modes apart

  -- the new one isn't the maker of what its parent has
  new_held : (queue : ℕ) → has_queue new queue ≡ true → (queue < length state.makers) × IsHeld after new queue
  new_held queue has =
      let too = is.has queue has in
      let held = tree.held parent.number queue parent is.live too in (
        held.0,
        given parent.number parent is.of (still_live parent.number parent is.live) too (λ mode holds. is.holds queue mode holds) (λ maker at same.
            let under = under_maker state tree parent.number queue parent maker is.live too at in
            below_not (maker_path maker) under.0 index
            (sym same ∙ is.path ∙ ap (λ p. p ++ index ∷ []) under.1 ∙ append_assoc (maker_path maker) under.0 (index ∷ []))),
      )

  -- the new one is no older popper, since it is the latest
  pub older_before : (number older : ℕ) (frame : ActiveFrame) → active state number ≡ Some frame → IsOlderPopper after frame older → IsOlderPopper state frame older
  older_before number older frame live popper = by (was_live older popper.older popper.live) where
    by : (active state older ≡ Some popper.older) ⊎ (popper.older ≡ new) → IsOlderPopper state frame older
    by (inl was) = record {
      older = popper.older;
      live = was;
      parent = popper.parent;
      of = popper.of;
      sibling = popper.sibling;
      before = popper.before;
      queue = popper.queue;
      pops = popper.pops;
      pops_too = popper.pops_too;
    }
    by (inr last) =
        let upto = tree.latest number frame live in
        let own = active_number state number frame live in
        let least = is.number in
        let less = popper.before in
        let named : new.number ≡ older = ap (λ (f : ActiveFrame). f.number) (sym last) ∙ active_number after older popper.older popper.live in
        absurd (omega arith)

  pub tree_added : IsTree after
  tree_added = record {
    known = known_too;
    latest = for_both (λ number frame. number ≤ new.number) (λ number frame live.
        let upto = tree.latest number frame live in let least = is.number in omega arith) (omega arith);
    root = λ frame live. elim (was_live 0 frame live) [
      | inl was ↦ tree.root frame was
      | inr last ↦
          let own : new.number ≡ 0 = ap (λ (f : ActiveFrame). f.number) (sym last) ∙ active_number after 0 frame live in
          let least = is.number in
          absurd (omega arith)
    ];
    others = for_both (λ number frame. number ≢ 0 → (above : ℕ) × (frame.parent ≡ Some above)) tree.others (λ apart. (parent.number, is.of));
    spawned = λ number above frame live. for_both (λ n f. f.parent ≡ Some above → IsChildOf after f above)
        (λ n f alive. spawned_too n above f alive) (new_spawned above) number frame live;
    older = λ number above frame live. for_both (λ n f. f.parent ≡ Some above → above < f.number)
        (λ n f alive. tree.older n above f alive) (new_older above) number frame live;
    siblings = siblings_too;
    different = different_too;
    held = λ number queue frame live. for_both (λ n f. has_queue f queue ≡ true → (queue < length state.makers) × IsHeld after f queue)
        (λ n f alive has. let held = tree.held n queue f alive has in (held.0, held_too queue f held.1)) (new_held queue) number frame live;
    modes = λ number queue frame mode live. for_both (λ n f. holds_queue f queue mode ≡ true → is_queue_mode mode ≡ true)
        (λ n f alive. tree.modes n queue f mode alive) (λ holds. tree.modes parent.number queue parent mode is.live (is.holds queue mode holds)) number frame live;
  }
