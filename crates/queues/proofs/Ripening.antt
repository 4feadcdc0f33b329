-- The next item of a queue is ripe among active frames where it is so in each full reading that fits.
use Rattle.std.proofs.Common.{◌≡◌, ℕ, ◌-◌, Bool, true, false, nat_eq, nat_lt, List, length, Option, Some, None, refl, sym, ap, ◌∙◌, arith}
use Rattle.std.specs.List.{list_all}
use Rattle.std.specs.Option.{option_map_or}
use Rattle.std.specs.Prelude.{◌&&◌, ◌||◌, not, slice_get, filter}
use Rattle.swan_model.specs.declared.origin.Origin.{Origin}
use Rattle.swan_model.specs.declared.rights.Mode.{Mode}
use Rattle.swan_model.specs.declared.rights.Mode.TheVariants.{Push}
use Rattle.swan_model.specs.declared.script.Deed.{Deed}
use Rattle.swan_model.specs.declared.script.Deed.TheVariants as deed
use Rattle.swan_model.specs.declared.script.Script.{Script}
use Rattle.swan_model.specs.Granted.{holds, may_use}
use Rattle.swan_model.specs.Lawful.{IsLawful}
use Rattle.swan_model.specs.QueueFollows.{AreActive, Fits, QueuesFollow, is_done_among, is_ripe_among, queue_origin, queue_point}
use Rattle.swan_model.specs.QueueFollows as among
use Rattle.swan_model.specs.QueueState.{ActiveFrame, QueueState, holds_queue}
use Rattle.swan_model.specs.Rights.{is_queue_mode}
use Rattle.swan_model.specs.Ripe.{is_push_to, is_ripe, push_time}
use Rattle.swan_model.specs.Ripe as ripe
use Rattle.swan_model.specs.SerialTime.{Progress, Reading, is_done, is_queue_deed, point}
use Rattle.swan_model.specs.Told.{deed_at, first_items, taken}
use Rattle.swan_model.proofs.Places.{placed}
use Rattle.swan_model.proofs.ScriptSteps.{deed_is}
use Rattle.queues.proofs.Done.{done_same}
use Rattle.swan_model.proofs.Elements.{answers_same, filtered_each, filtered_from, found_is}
use Rattle.queues.proofs.Fitting.{same_side}
use Rattle.queues.proofs.Kept.{still_grants, use_kept}
use Rattle.queues.proofs.QueuePoints.{still_same}
use Rattle.queues.proofs.Frames.{active_number}
use Rattle.queues.proofs.SerialPoints.{IsRead, is_read}
use Rattle.swan_model.proofs.MovedFrames.{frame_number}

-- the push of an item is a queue deed
push_is : (queue : Origin) (d : Deed) → is_push_to queue d ≡ true → is_queue_deed d ≡ true
push_is queue (deed.Push origin value) is = refl
push_is queue deed.MakeQueue is = refl
push_is queue (deed.MakeObject value) is = absurd (cc)
push_is queue (deed.Spawn gives) is = refl
push_is queue (deed.Pop origin) is = refl
push_is queue (deed.Test origin) is = refl
push_is queue (deed.Read origin) is = absurd (cc)
push_is queue (deed.Write origin value) is = absurd (cc)
push_is queue deed.Sync is = absurd (cc)
push_is queue deed.Quiet is = absurd (cc)

push_deed : (s : Script) (queue : Origin) (index t : ℕ) → push_time s queue index ≡ Some t → is_queue_deed (deed_at s t) ≡ true
push_deed s queue index t is =
    let found = placed (λ entry. is_push_to queue entry.deed) 0 s.entries (index - length (first_items s queue)) t is in
    let here : found.i ≡ t = omega (arith, found.is) in
    ap is_queue_deed (deed_is s t found.entry (ap (slice_get s.entries) (sym here) ∙ found.stands)) ∙ push_is queue found.entry.deed found.passes

module _ (s : Script) (lawful : IsLawful s) (state : QueueState) (follows : QueuesFollow s state) (r : Reading) (fits : Fits s state r) where
  -- an active frame may use a queue as its task may at the frame's point
  pub rights_same : (number : ℕ) (frame : ActiveFrame) (p : Progress) → IsRead s lawful state r fits number frame p → (queue : ℕ) (origin : Origin) (mode : Mode) → is_queue_mode mode ≡ true → queue_origin s state queue ≡ Some origin
      → holds_queue frame queue mode ≡ may_use (holds s p.path (point s p)) mode origin
  rights_same number frame p read queue origin mode queues made =
      let m = queue_point s frame.path frame.deeds in
      (follows.tasks number frame read.live).rights queue mode origin queues made
      ∙ use_kept s frame.path mode origin (point s p) m (still_grants s frame.path mode origin (point s p) m read.still queues)
      ∙ ap (λ q. may_use (holds s q (point s p)) mode origin) (sym read.fit.path)

  module _ (number : ℕ) (frame : ActiveFrame) (a : Progress) (read : IsRead s lawful state r fits number frame a) (queue : ℕ) (origin : Origin) (made : queue_origin s state queue ≡ Some origin) (actives : List Progress) (are : AreActive state r actives) where
    -- who else may push
    others_same : (other : ℕ) (f : ActiveFrame) (p : Progress) → IsRead s lawful state r fits other f p → among.active_may_push_too frame queue f ≡ ripe.may_push_too s a origin p
    others_same other f p also =
        let one : f.number ≡ p.number = active_number state other f also.live ∙ sym (frame_number r.frames other p also.known) in
        let two : frame.number ≡ a.number = active_number state number frame read.live ∙ sym (frame_number r.frames number a read.known) in
        ap (λ n. not (nat_eq n frame.number) && holds_queue f queue Push) one
        ∙ ap (λ n. not (nat_eq p.number n) && holds_queue f queue Push) two
        ∙ ap (λ b. not (nat_eq p.number a.number) && b) (rights_same other f p also queue origin Push refl made)

    -- and has come past a push
    past_same : (t : ℕ) → is_queue_deed (deed_at s t) ≡ true → (other : ℕ) (f : ActiveFrame) (p : Progress) → IsRead s lawful state r fits other f p → nat_lt t (queue_point s f.path f.deeds) ≡ nat_lt t (point s p)
    past_same t deed other f p also = same_side s f.path (point s p) (queue_point s f.path f.deeds) t also.still deed

    all_past : (t : ℕ) → is_queue_deed (deed_at s t) ≡ true
        → list_all (λ (f : ActiveFrame). nat_lt t (queue_point s f.path f.deeds)) (filter (among.active_may_push_too frame queue) state.frames)
        ≡ list_all (λ p. nat_lt t (point s p)) (filter (ripe.may_push_too s a origin) actives)
    all_past t deed =
        let before : ActiveFrame → Bool = λ f. nat_lt t (queue_point s f.path f.deeds) in
        let past : Progress → Bool = λ p. nat_lt t (point s p) in
        answers_same
        (list_all before (filter (among.active_may_push_too frame queue) state.frames))
        (list_all past (filter (ripe.may_push_too s a origin) actives))
        (λ all. filtered_from (ripe.may_push_too s a origin) past actives (λ i p at may.
        let it = are.only i p at in
        let also = is_read s lawful state r fits p.number it.0 p it.1 it.2 in
        let found = found_is (λ (f : ActiveFrame). nat_eq f.number p.number) state.frames it.0 it.1 in
        sym (past_same t deed p.number it.0 p also)
        ∙ filtered_each (among.active_may_push_too frame queue) before state.frames found.index it.0 all found.stands (others_same p.number it.0 p also ∙ may)))
        (λ all. filtered_from (among.active_may_push_too frame queue) before state.frames (λ i f at may.
        let live = follows.known i f at in
        let q = fits.frames f.number f live in
        let also = is_read s lawful state r fits f.number f q.0 live q.1 in
        let there = are.all f.number f q.0 live q.1 in
        past_same t deed f.number f q.0 also
        ∙ filtered_each (ripe.may_push_too s a origin) past actives there.0 q.0 all there.1 (sym (others_same f.number f q.0 also) ∙ may)))

    pushed_same : (o : Option ℕ) → ((t : ℕ) → o ≡ Some t → is_queue_deed (deed_at s t) ≡ true)
        → option_map_or (λ t. is_done_among s state t && list_all (λ (f : ActiveFrame). nat_lt t (queue_point s f.path f.deeds)) (filter (among.active_may_push_too frame queue) state.frames)) o false
        ≡ option_map_or (λ t. is_done s r t && list_all (λ p. nat_lt t (point s p)) (filter (ripe.may_push_too s a origin) actives)) o false
    pushed_same None deed = refl
    pushed_same (Some t) deed =
        ap (λ b. b && list_all (λ (f : ActiveFrame). nat_lt t (queue_point s f.path f.deeds)) (filter (among.active_may_push_too frame queue) state.frames)) (done_same s lawful state follows r fits t (deed t refl))
        ∙ ap (λ b. is_done s r t && b) (all_past t (deed t refl))

    pub ripe_same : is_ripe_among s state frame queue origin ≡ is_ripe s r actives a origin
    ripe_same =
        let m = queue_point s frame.path frame.deeds in
        let same = (still_same s origin frame.path (point s a) m read.still).takes in
        let rest : ℕ → Bool = λ k. option_map_or (λ t. is_done_among s state t && list_all (λ (f : ActiveFrame). nat_lt t (queue_point s f.path f.deeds)) (filter (among.active_may_push_too frame queue) state.frames)) (push_time s origin k) false in
        ap (λ k. nat_lt k (length (first_items s origin)) || rest k) same
        ∙ ap (λ b. nat_lt (taken s origin (point s a)) (length (first_items s origin)) || b)
        (pushed_same (push_time s origin (taken s origin (point s a))) (λ t is. push_deed s origin (taken s origin (point s a)) t is))
