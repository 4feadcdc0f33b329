-- A reading in which one frame has gone on fits a state in which that frame has.
use Rattle.std.proofs.Common.{◌≡◌, inl, inr, ℕ, ◌+◌, ◌<◌, ◌≤◌, Bool, true, false, nat_eq, cond, length, map, Option, Some, None, refl, sym, ap, subst, ◌∙◌, arith}
use Rattle.std.proofs.lemmas.Bool.{cases_eq, eq-eqb, ne_eqb}
use Rattle.std.proofs.lemmas.Option.{slice_get-map, same_Some}
use Rattle.std.specs.List.{find}
use Rattle.std.specs.Option.{option_map}
use Rattle.std.specs.Prelude.{slice_get}
use Rattle.swan_model.specs.declared.script.Script.{Script}
use Rattle.swan_model.specs.Nested.{spawn_time}
use Rattle.swan_model.specs.QueueFollows.{Fits, FitsFrame, queue_origin}
use Rattle.swan_model.specs.QueueState.{ActiveFrame, QueueState, active, frame_after_change}
use Rattle.swan_model.specs.Readings.{more_by}
use Rattle.swan_model.specs.SerialTime.{Progress, Reading, frame_of, point, times}
use Rattle.queues.proofs.Advancing.{fits_same}
use Rattle.swan_model.proofs.Elements.{find_map, mapped_is}
use Rattle.queues.proofs.Refitting.{GoesTo, refits}
use Rattle.queues.proofs.Frames.{active_number}
use Rattle.swan_model.proofs.MovedFrames.{frame_number}

-- ---- the frames of a state in which one has changed

-- a frame that is active, with the same task and as many queue deeds
pub record WasActive (state : QueueState) (number : ℕ) (frame : ActiveFrame) : Type 0 where
  pub was : ActiveFrame
  pub live : active state number ≡ Some was
  pub path : frame.path ≡ was.path
  pub deeds : frame.deeds ≡ was.deeds

-- All other frames are as they were.
pub record KeepsOthers (state new : QueueState) (number : ℕ) : Type 0 where
  pub still : (other : ℕ) (frame : ActiveFrame) → (other ≡ number → ⊥) → active new other ≡ Some frame → WasActive state other frame
  pub gone : (other : ℕ) → (other ≡ number → ⊥) → active new other ≡ None → active state other ≡ None

module _ (state new : QueueState) (number : ℕ) (change : ActiveFrame → ActiveFrame) (kept : (f : ActiveFrame) → (change f).number ≡ f.number) (frames : new.frames ≡ map (frame_after_change number change) state.frames) where
  number_kept : (b : Bool) (f : ActiveFrame) → (cond b (change f) f).number ≡ f.number
  number_kept true f = kept f
  number_kept false f = refl

  pub active_changed : (n : ℕ) → active new n ≡ option_map (frame_after_change number change) (active state n)
  active_changed n =
      ap (find (λ (f : ActiveFrame). nat_eq f.number n)) frames
      ∙ find_map (λ (f : ActiveFrame). nat_eq f.number n) (frame_after_change number change) (λ f. ap (λ k. nat_eq k n) (number_kept (nat_eq f.number number) f)) state.frames

  pub changed_gone : (n : ℕ) → active new n ≡ None → active state n ≡ None
  changed_gone n none = by (active state n) (sym (active_changed n) ∙ none)
    where
      by : (o : Option ActiveFrame) → option_map (frame_after_change number change) o ≡ None → o ≡ None
      by None is = refl
      by (Some f) is = absurd (cc)

  -- the frame that has changed
  pub record Became (frame : ActiveFrame) : Type 0 where
    pub was : ActiveFrame
    pub live : active state number ≡ Some was
    pub is : change was ≡ frame

  pub became : (frame : ActiveFrame) → active new number ≡ Some frame → Became frame
  became frame now =
      let found = mapped_is (frame_after_change number change) (active state number) frame (sym (active_changed number) ∙ now) in
      let same = eq-eqb found.0.number number (active_number state number found.0 found.1) in
      record { was = found.0; live = found.1; is = ap (λ b. cond b (change found.0) found.0) (sym same) ∙ found.2 }

  pub others_kept : KeepsOthers state new number
  others_kept =
      record {
        still = λ n frame apart now.
            let found = mapped_is (frame_after_change number change) (active state n) frame (sym (active_changed n) ∙ now) in
            let other = ne_eqb found.0.number number (λ same. apart (sym (active_number state n found.0 found.1) ∙ same)) in
            let is : found.0 ≡ frame = ap (λ b. cond b (change found.0) found.0) (sym other) ∙ found.2 in
            record { was = found.0; live = found.1; path = ap (λ (f : ActiveFrame). f.path) (sym is); deeds = ap (λ (f : ActiveFrame). f.deeds) (sym is) };
        gone = λ n apart none. changed_gone n none;
      }

  -- all are as they were, where the change is of what readings don't see
  pub all_kept : ((f : ActiveFrame) → (change f).path ≡ f.path) → ((f : ActiveFrame) → (change f).deeds ≡ f.deeds) → (n : ℕ) (frame : ActiveFrame) → active new n ≡ Some frame → WasActive state n frame
  all_kept path deeds n frame now = elim (cases_eq n number) [
    | inl same ↦
        let b = became frame (ap (active new) (sym same) ∙ now) in
        record { was = b.was; live = ap (active state) same ∙ b.live; path = ap (λ (f : ActiveFrame). f.path) (sym b.is) ∙ path b.was; deeds = ap (λ (f : ActiveFrame). f.deeds) (sym b.is) ∙ deeds b.was }
    | inr apart ↦ others_kept.still n frame apart now
  ]

-- ---- a reading in which one frame has gone on

pub more_number : (number many : ℕ) (b : Bool) (p : Progress) → (cond b (record p { done = p.done + many }) p).number ≡ p.number
more_number number many true p = refl
more_number number many false p = refl

pub more_path : (number many : ℕ) (b : Bool) (p : Progress) → (cond b (record p { done = p.done + many }) p).path ≡ p.path
more_path number many true p = refl
more_path number many false p = refl

module _ (s : Script) (state : QueueState) (r : Reading) (fits : Fits s state r) (number many : ℕ) (p : Progress) (known : frame_of r number ≡ Some p) where
  abbrev after : Progress
  after = record p { done = p.done + many }

  pub its : (index : ℕ) (x : Progress) → slice_get r.frames index ≡ Some x → x.number ≡ number → p ≡ x
  its index x at same = same_Some p x (sym known ∙ ap (frame_of r) (sym same) ∙ fits.numbers index x at)

  pub own_more : more_by number many p ≡ after
  own_more = ap (λ b. cond b after p) (eq-eqb p.number number (frame_number r.frames number p known))

  pub other_more : (x : Progress) → (x.number ≡ number → ⊥) → more_by number many x ≡ x
  other_more x apart = ap (λ b. cond b (record x { done = x.done + many }) x) (ne_eqb x.number number apart)

  pub goes_by : (other : Reading) → other.frames ≡ map (more_by number many) r.frames → point s p ≤ point s after
      → ((child spawn : ℕ) → spawn_time s p.path child ≡ Some spawn → point s p ≤ spawn → spawn < point s after → ⊥) → GoesTo s r other (more_by number many) None
  goes_by other frames later none =
      let g = more_by number many in
      let at_by : (index : ℕ) → slice_get other.frames index ≡ option_map g (slice_get r.frames index) =
      λ index. ap (λ xs. slice_get xs index) frames ∙ slice_get-map g r.frames index in
      record {
        number = λ i x at. more_number number many (nat_eq x.number number) x;
        path = λ i x at. more_path number many (nat_eq x.number number) x;
        to = λ i x at. at_by i ∙ ap (option_map g) at;
        from = λ i now at.
            let found = mapped_is g (slice_get r.frames i) now (sym (at_by i) ∙ at) in
            inl (record { was = found.0; stood = found.1; is = found.2 });
        found = λ n x is.
            ap (find (λ (f : Progress). nat_eq f.number n)) frames
            ∙ find_map (λ (f : Progress). nat_eq f.number n) g (λ f. ap (λ k. nat_eq k n) (more_number number many (nat_eq f.number number) f)) r.frames
            ∙ ap (option_map g) is;
        still = λ i x child spawn at is before. elim (cases_eq x.number number) [
          | inl same ↦
              let here : point s p ≤ point s (g p) = subst (λ y. point s p ≤ point s y) (sym own_more) later in
              let on : point s x ≤ point s (g x) = subst (λ y. point s y ≤ point s (g y)) (its i x at same) here in
              omega (arith, before, on)
          | inr apart ↦ subst (λ y. spawn < point s y) (sym (other_more x apart)) before
        ];
        children = λ i x child spawn at is from before. elim (cases_eq x.number number) [
          | inl same ↦
              let e = sym (its i x at same) in
              let end : spawn < point s after = subst (λ y. spawn < point s y) (ap g e ∙ own_more) before in
              absurd (none child spawn (ap (λ (y : Progress). spawn_time s y.path child) (sym e) ∙ is) (subst (λ y. point s y ≤ spawn) e from) end)
          | inr apart ↦
              let still : spawn < point s x = subst (λ y. spawn < point s y) (other_more x apart) before in
              absurd (omega (arith, still, from))
        ];
        apart = λ now is i x at path. absurd (cc);
        known = λ now is. absurd (cc);
        spawned = λ now is path child ends. absurd (cc);
        first = λ now is v own before. absurd (cc);
      }

  pub fits_by : (other : Reading) (goes : GoesTo s r other (more_by number many) None) (new : QueueState) → KeepsOthers state new number
      → ((frame : ActiveFrame) → active new number ≡ Some frame → FitsFrame s frame after) → (active new number ≡ None → after.done ≡ length (times s p.path))
      → ((queue : ℕ) → slice_get other.queues queue ≡ queue_origin s new queue) → Fits s new other
  fits_by other goes new keeps own over queues =
      let g = more_by number many in
      refits s state r other fits g None goes new
      (λ n frame live. elim (cases_eq n number) [
        | inl same ↦ (g p, goes.found n p (ap (frame_of r) same ∙ known), subst (FitsFrame s frame) (sym own_more) (own frame (ap (active new) (sym same) ∙ live)))
        | inr apart ↦
            let w = keeps.still n frame apart live in
            let q = fits.frames n w.was w.live in
            let other_one = other_more q.0 (λ same. apart (sym (frame_number r.frames n q.0 q.1) ∙ same)) in
            (g q.0, goes.found n q.0 q.1, subst (FitsFrame s frame) (sym other_one) (fits_same s w.was frame q.0 q.2 w.path w.deeds))
      ])
      (λ i x at none. elim (cases_eq x.number number) [
        | inl same ↦
            let e = its i x at same in
            let here : (g p).done ≡ length (times s p.path) = ap (λ (y : Progress). y.done) own_more ∙ over (ap (active new) (sym same) ∙ none) in
            subst (λ (y : Progress). (g y).done ≡ length (times s y.path)) e here
        | inr apart ↦
            ap (λ (y : Progress). y.done) (other_more x apart) ∙ fits.ended i x at (keeps.gone x.number apart none)
      ])
      (λ now is none. absurd (cc)) queues
