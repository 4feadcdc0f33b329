-- A reading fits that differs from one that fits only in what queues aren't told of.
use Rattle.std.proofs.Common.{◌≡◌, inl, inr, ℕ, Bool, true, nat_eq, nat_lt, Some, None, sym, ap, subst, ◌∙◌, arith}
use Rattle.std.proofs.lemmas.Bool.{eq-eqb, eqb-true, lt-ltb, ltb-true}
use Rattle.std.proofs.lemmas.Option.{slice_get_within, same_Some}
use Rattle.std.specs.Option.{option_map_or}
use Rattle.std.specs.Prelude.{slice_get}
use Rattle.swan_model.specs.declared.script.Script.{Script}
use Rattle.swan_model.specs.Lawful.{IsLawful}
use Rattle.swan_model.specs.QueueFollows.{Fits, FitsFrame, queue_point}
use Rattle.swan_model.specs.QueueState.{ActiveFrame, QueueState, active}
use Rattle.swan_model.specs.SerialTime.{Progress, Reading, frame_of, is_queue_deed, point}
use Rattle.swan_model.specs.Told.{deed_at}
use Rattle.swan_model.proofs.Lists.{some_within}
use Rattle.queues.specs.Reads.{DiffersIdly}
use Rattle.queues.proofs.Done.{spawn_deed}
use Rattle.swan_model.proofs.Elements.{find_some, found_is, option_cases}
use Rattle.queues.proofs.Fitting.{fits_still, same_side}
use Rattle.queues.proofs.Refitting.{GoesTo, refits}
use Rattle.swan_model.proofs.MovedFrames.{frame_in, frame_number}

point_same : (s : Script) (a b : Progress) → b.path ≡ a.path → b.done ≡ a.done → point s b ≡ point s a
point_same s a b path done =
    ap (λ q. point s (record { number = b.number; path = q; done = b.done })) path
    ∙ ap (λ k. point s (record { number = b.number; path = a.path; done = k })) done

module _ (s : Script) (lawful : IsLawful s) (state : QueueState) (r other : Reading) (fits : Fits s state r) (differs : DiffersIdly s state r other) where
  -- the frame that stands for another in the other reading
  abbrev g : Progress → Progress
  g p = option_map_or (λ q. q) (frame_of other p.number) p

  record HasPair (index : ℕ) (a : Progress) : Type 0 where
    pub b : Progress
    pub stands : slice_get other.frames index ≡ Some b
    pub number : b.number ≡ a.number
    pub path : b.path ≡ a.path
    pub live : (frame : ActiveFrame) → active state a.number ≡ Some frame → FitsFrame s frame b
    pub over : active state a.number ≡ None → b.done ≡ a.done
    pub found : frame_of other a.number ≡ Some b
    pub is : g a ≡ b

  -- the frame at the same place of the other reading is the one of the same number there
  same_place : (index : ℕ) (a b : Progress) → slice_get r.frames index ≡ Some a → slice_get other.frames index ≡ Some b → (at : ℕ) (c d : Progress) → slice_get r.frames at ≡ Some c → slice_get other.frames at ≡ Some d → d.number ≡ a.number → d ≡ b
  same_place index a b stands also at c d there found number =
      let own : c.number ≡ a.number = sym (differs.frames at c d there found).0 ∙ number in
      let one : c ≡ a = same_Some c a (sym (fits.numbers at c there) ∙ ap (frame_of r) own ∙ fits.numbers index a stands) in
      let place : at ≡ index = fits.tasks.different at index c a there stands (ap (λ (q : Progress). q.path) one) in
      same_Some d b (sym found ∙ ap (slice_get other.frames) place ∙ also)

  found_there : (index : ℕ) (a b : Progress) → slice_get r.frames index ≡ Some a → slice_get other.frames index ≡ Some b → b.number ≡ a.number → frame_of other a.number ≡ Some b
  found_there index a b stands also number =
      let test : Progress → Bool = λ f. nat_eq f.number a.number in
      let some = find_some test other.frames index b also (eq-eqb b.number a.number number) in
      let found = found_is test other.frames some.0 some.1 in
      let within = slice_get_within other.frames found.index some.0 found.stands in
      let many = differs.many in
      let there = some_within r.frames found.index (omega (arith, within, many)) in
      some.1 ∙ ap Some (same_place index a b stands also found.index there.0 some.0 there.1 found.stands (eqb-true some.0.number a.number found.passes))

  pair : (index : ℕ) (a : Progress) → slice_get r.frames index ≡ Some a → HasPair index a
  pair index a at =
      let within = slice_get_within r.frames index a at in
      let many = differs.many in
      let here = some_within other.frames index (omega (arith, within, many)) in
      let parts = differs.frames index a here.0 at here.1 in
      let known = found_there index a here.0 at here.1 parts.0 in
      record { b = here.0; stands = here.1; number = parts.0; path = parts.1; live = parts.2; over = parts.3; found = known; is = ap (λ o. option_map_or (λ q. q) o a) known }

  -- both stand on the same side of each queue deed
  side : (index : ℕ) (a : Progress) (at : slice_get r.frames index ≡ Some a) (v : ℕ) → is_queue_deed (deed_at s v) ≡ true → nat_lt v (point s a) ≡ nat_lt v (point s (g a))
  side index a at v deed =
      let two = pair index a at in
      elim (option_cases (active state a.number)) [
        | inl none ↦ ap (nat_lt v) (sym (point_same s a two.b two.path (two.over none)))
        | inr found ↦
            let frame = found.0 in
            let q = fits.frames a.number frame found.1 in
            let fit : FitsFrame s frame a = subst (FitsFrame s frame) (same_Some q.0 a (sym q.1 ∙ fits.numbers index a at)) q.2 in
            let m = queue_point s frame.path frame.deeds in
            sym (same_side s frame.path (point s a) m v (fits_still s lawful frame a fit) deed)
            ∙ same_side s frame.path (point s two.b) m v (fits_still s lawful frame two.b (two.live frame found.1)) deed
      ] ∙ ap (λ q. nat_lt v (point s q)) (sym two.is)

  agree : GoesTo s r other g None
  agree =
      record {
        number = λ i a at. let two = pair i a at in ap (λ (q : Progress). q.number) two.is ∙ two.number;
        path = λ i a at. let two = pair i a at in ap (λ (q : Progress). q.path) two.is ∙ two.path;
        to = λ i a at. let two = pair i a at in two.stands ∙ ap Some (sym two.is);
        from = λ i now at.
            let within = slice_get_within other.frames i now at in
            let many = differs.many in
            let a = some_within r.frames i (omega (arith, within, many)) in
            let two = pair i a.0 a.1 in
            inl (record { was = a.0; stood = a.1; is = two.is ∙ same_Some two.b now (sym two.stands ∙ at) });
        found = λ n a is.
            let place = frame_in r.frames n a is in
            let two = pair place.index a place.stands in
            ap (frame_of other) (sym (frame_number r.frames n a is)) ∙ two.found ∙ ap Some (sym two.is);
        still = λ i a child spawn at is before. ltb-true spawn (point s (g a)) (sym (side i a at spawn (spawn_deed s a.path child spawn is)) ∙ lt-ltb spawn (point s a) before);
        children = λ i a child spawn at is from before.
            let early = ltb-true spawn (point s a) (side i a at spawn (spawn_deed s a.path child spawn is) ∙ lt-ltb spawn (point s (g a)) before) in
            absurd (omega (arith, early, from));
        apart = λ now is i p at path. absurd (cc);
        known = λ now is. absurd (cc);
        spawned = λ now is path child ends. absurd (cc);
        first = λ now is v own before. absurd (cc);
      }

  pub agree_fits : Fits s state other
  agree_fits =
      refits s state r other fits g None agree state
      (λ n frame live.
      let q = fits.frames n frame live in
      let place = frame_in r.frames n q.0 q.1 in
      let two = pair place.index q.0 place.stands in
      let number = frame_number r.frames n q.0 q.1 in
      (two.b, ap (frame_of other) (sym number) ∙ two.found, two.live frame (ap (active state) number ∙ live)))
      (λ i a at none. let two = pair i a at in ap (λ (q : Progress). q.done) two.is ∙ two.over none ∙ fits.ended i a at none)
      (λ now is none. absurd (cc))
      (λ queue. ap (λ os. slice_get os queue) differs.queues ∙ fits.queues queue)
