use Rattle.std.proofs.Common.{◌≡◌, ◌-◌, Some, refl, sym, subst, ap, ◌∙◌}
use Rattle.std.proofs.lemmas.Option.{same_Some}
use Rattle.std.specs.Option.{option_map}
use Rattle.swan_model.specs.Readings.{gone_on_by}
use Rattle.swan_model.proofs.Elements.{some_is, some_of}
use Rattle.task_frames.specs.Cores.{IsCore, KeptView}
use Rattle.task_frames.specs.Records.{IsOnlyLive, LiveFrame, come_to, live_at}
use Rattle.task_frames.specs.Frames.{TaskView}
use Rattle.task_frames.proofs.Taking.{come-so, has-taken, path-so, stands-so, stay-from, taken-stay}
use Rattle.task_frames.proofs.kept.Kept.take_in.Goals as goal

pub come_back-requires-clause-own : goal.come_back-requires-clause-own
come_back-requires-clause-own g c κs within =
    let core = subst (λ k. IsCore g.B.Body c.args.frame.task.plan k) (sym c.self.view_is) c.requires.core in
    let whole = some_of c.args.frame.stage (c.number-number.ensures.marked c.requires.mark) in
    let frame = c.number-number.ensures.frame whole.0 whole.1 in
    (frame.lent.named ∙ sym core.name, c.requires.run ∙ ap (λ (k : KeptView). k.run) (sym c.self.view_is))

pub come_back-requires-clause-path : goal.come_back-requires-clause-path
come_back-requires-clause-path g c κs within =
    let core = subst (λ k. IsCore g.B.Body c.args.frame.task.plan k) (sym c.self.view_is) c.requires.core in
    let number = c.number-number.ensures.number in
    let of = stands-so _ c.args.frame.task c.in-Some.live.now (subst (λ n. live_at c.self.inside.live n ≡ Some c.in-Some.live.now) number c.in-Some.ensures.some) (c.stands_as.ensures.yes c.if-not-stands_as.false) in
    λ s named own live. path-so g.B.Body _ c.args.frame.task core of own live

pub returns-in-Ok-clause-has : goal.returns-in-Ok-clause-has
returns-in-Ok-clause-has g c =
    let core = subst (λ k. IsCore g.B.Body c.args.frame.task.plan k) (sym c.self.view_is) c.requires.core in
    let number = c.number-number.ensures.number in
    let of = stands-so _ c.args.frame.task c.in-Some.live.now (subst (λ n. live_at c.self.inside.live n ≡ Some c.in-Some.live.now) number c.in-Some.ensures.some) (c.stands_as.ensures.yes c.if-not-stands_as.false) in
    let done = c.done-done.ensures ∙ ap (λ (t : TaskView g.row.B.Denot g.row.B-Local.Denot). t.done) c.in-Ok.ensures.task in
    has-taken g.B.Body _ c.args.frame.task core of _ _ _ c.in-Ok.ensures.is _ _ _ _ _ _ _ c.in-Ok.ensures.same.0 c.in-Ok.ensures.same.1 c.in-Ok.ensures.ok (subst (λ n. c.gone_on_by.result ≡ gone_on_by c.self.inside.reading n (c.done-done.result - c.live.inside.done)) number c.gone_on_by.ensures)
    (ap (λ k. k - c.live.inside.done) done ∙ ap (λ k. c.args.frame.task.done - k) (ap (λ (l : LiveFrame). l.done) c.live.view_is ∙ (c.stands_as.ensures.yes c.if-not-stands_as.false).1)) done
    (subst (λ n. IsOnlyLive c.self.inside.live c.come_on.new.self n (option_map (come_to c.done-done.result) (live_at c.self.inside.live n))) number c.come_on.ensures.only) c.in-Ok.ensures.by_ends
    c.in-Ok.at c.in-Ok.ensures.task refl

pub returns-in-Ok-clause-others : goal.returns-in-Ok-clause-others
returns-in-Ok-clause-others g c =
    let core = subst (λ k. IsCore g.B.Body c.args.frame.task.plan k) (sym c.self.view_is) c.requires.core in
    let number = c.number-number.ensures.number in
    let of = stands-so _ c.args.frame.task c.in-Some.live.now (subst (λ n. live_at c.self.inside.live n ≡ Some c.in-Some.live.now) number c.in-Some.ensures.some) (c.stands_as.ensures.yes c.if-not-stands_as.false) in
    let done = c.done-done.ensures ∙ ap (λ (t : TaskView g.row.B.Denot g.row.B-Local.Denot). t.done) c.in-Ok.ensures.task in
    stay-from _ _ _ _ c.self.view_is
    (taken-stay g.B.Body _ c.args.frame.task core of _ _ _ c.in-Ok.ensures.is _ _ _ _ _ _ _ c.in-Ok.ensures.same.0 c.in-Ok.ensures.same.1 c.in-Ok.ensures.ok (subst (λ n. c.gone_on_by.result ≡ gone_on_by c.self.inside.reading n (c.done-done.result - c.live.inside.done)) number c.gone_on_by.ensures)
    (ap (λ k. k - c.live.inside.done) done ∙ ap (λ k. c.args.frame.task.done - k) (ap (λ (l : LiveFrame). l.done) c.live.view_is ∙ (c.stands_as.ensures.yes c.if-not-stands_as.false).1)) done
    (subst (λ n. IsOnlyLive c.self.inside.live c.come_on.new.self n (option_map (come_to c.done-done.result) (live_at c.self.inside.live n))) number c.come_on.ensures.only) c.in-Ok.ensures.by_ends)

pub returns-in-Ok-clause-come : goal.returns-in-Ok-clause-come
returns-in-Ok-clause-come g c =
    let number = c.number-number.ensures.number in
    let done = c.done-done.ensures ∙ ap (λ (t : TaskView g.row.B.Denot g.row.B-Local.Denot). t.done) c.in-Ok.ensures.task in
    let since = ap (λ (l : LiveFrame). l.done) c.live.view_is ∙ (c.stands_as.ensures.yes c.if-not-stands_as.false).1 in
    come-so _ _ c.args.frame.task (g.Q.Ends.LocalEnds.ends c.args.frame.ends) _ _ _ _ _ _ _ _ c.self.view_is number done since c.in-Ok.ensures.same.0 c.in-Ok.ensures.same.1 c.in-Ok.ensures.ok c.gone_on_by.ensures c.come_on.ensures.come

pub come_on-requires : goal.come_on-requires
come_on-requires g c = record {
  live = some_is (live_at c.self.inside.live c.number-number.result) c.in-Some.live.now c.in-Some.ensures.some;
  since = λ live is. ap (λ (l : LiveFrame). l.done) (same_Some live c.in-Some.live.now (sym is ∙ c.in-Some.ensures.some)) ∙ sym (ap (λ (l : LiveFrame). l.done) c.live.view_is);
}
