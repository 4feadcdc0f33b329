use Rattle.std.proofs.Common.{refl, sym, subst, ◌≡◌}
use Rattle.swan_model.specs.QueueState.{after_lend}
use Rattle.task_frames.specs.Cores.{HasIt}
use Rattle.task_frames.specs.Resumes.{ends_of}
use Rattle.task_frames.proofs.Taking.{by-number, core-so, frame-so, given-so, lent-now}
use Rattle.task_frames.proofs.kept.Kept.give.Goals as goal

pub given-requires-clause-frame : goal.given-requires-clause-frame
given-requires-clause-frame g c κs within =
    let has = subst (λ k. HasIt g.B.Body k c.args.at) (sym c.self.view_is) c.requires.has in
    let ends = g.Q.Ends.LocalEnds.ends c.lend-ends.result in
    let lent = by-number (g.Q.Queues.state c.self.inside.queues) _ _ (λ n x. ends ≡ record { frame = n; path = x.path; before = x.deeds; deeds = x.deeds; list = ends.list }) c.number.ensures c.lend-ends.ensures.lent in
    frame-so g.B.Body _ c.args.at has (g.Q.Ends.LocalEnds.name c.lend-ends.result) ends c.lend-ends.ensures.own.0 lent c.lend-ends.ensures.segments

pub returns-clause-given : goal.returns-clause-given
returns-clause-given g c =
    let has = subst (λ k. HasIt g.B.Body k c.args.at) (sym c.self.view_is) c.requires.has in
    let ends = g.Q.Ends.LocalEnds.ends c.lend-ends.result in
    let lent = by-number (g.Q.Queues.state c.self.inside.queues) _ _ (λ n x. ends ≡ record { frame = n; path = x.path; before = x.deeds; deeds = x.deeds; list = ends.list }) c.number.ensures c.lend-ends.ensures.lent in
    let after = by-number (g.Q.Queues.state c.self.inside.queues) _ _ (λ n x. g.Q.Queues.state c.lend-ends.new.self ≡ after_lend (g.Q.Queues.state c.self.inside.queues) x ends.list) c.number.ensures c.lend-ends.ensures.after in
    given-so g.B.Body _ c.args.at has (g.Q.Ends.LocalEnds.name c.lend-ends.result) ends c.lend-ends.ensures.own.0 lent _ _ _ c.lend-ends.ensures.same.0 c.lend-ends.ensures.same.1 after
    (ends_of g.Q.Ends.LocalEnds) c.given.result c.lend-ends.result c.given.ensures refl c.lend-ends.ensures.own.1

pub returns-clause-core : goal.returns-clause-core
returns-clause-core g c =
    let has = subst (λ k. HasIt g.B.Body k c.args.at) (sym c.self.view_is) c.requires.has in
    let ends = g.Q.Ends.LocalEnds.ends c.lend-ends.result in
    let lent = by-number (g.Q.Queues.state c.self.inside.queues) _ _ (λ n x. ends ≡ record { frame = n; path = x.path; before = x.deeds; deeds = x.deeds; list = ends.list }) c.number.ensures c.lend-ends.ensures.lent in
    let after = by-number (g.Q.Queues.state c.self.inside.queues) _ _ (λ n x. g.Q.Queues.state c.lend-ends.new.self ≡ after_lend (g.Q.Queues.state c.self.inside.queues) x ends.list) c.number.ensures c.lend-ends.ensures.after in
    core-so g.B.Body _ c.args.at has (g.Q.Ends.LocalEnds.name c.lend-ends.result) ends c.lend-ends.ensures.own.0 lent _ _ _ c.lend-ends.ensures.same.0 c.lend-ends.ensures.same.1 after

pub returns-clause-lent : goal.returns-clause-lent
returns-clause-lent g c =
    let has = subst (λ k. HasIt g.B.Body k c.args.at) (sym c.self.view_is) c.requires.has in
    let ends = g.Q.Ends.LocalEnds.ends c.lend-ends.result in
    let lent = by-number (g.Q.Queues.state c.self.inside.queues) _ _ (λ n x. ends ≡ record { frame = n; path = x.path; before = x.deeds; deeds = x.deeds; list = ends.list }) c.number.ensures c.lend-ends.ensures.lent in
    let after = by-number (g.Q.Queues.state c.self.inside.queues) _ _ (λ n x. g.Q.Queues.state c.lend-ends.new.self ≡ after_lend (g.Q.Queues.state c.self.inside.queues) x ends.list) c.number.ensures c.lend-ends.ensures.after in
    lent-now g.B.Body _ c.args.at has (g.Q.Ends.LocalEnds.name c.lend-ends.result) ends c.lend-ends.ensures.own.0 lent _ _ _ c.lend-ends.ensures.same.0 c.lend-ends.ensures.same.1 after c.args.self.now c.self.view_is
