use Rattle.std.proofs.Common.{◌≡◌, ◌<◌, ◌≤◌, get_or, length, ap, ◌∙◌, arith}
use Rattle.job_body.specs.Firsts.{firsts_of}
use Rattle.job_body.proofs.Firsts.{first_is, length_firsts, none_is}
use Rattle.job_body.proofs.source.Source.step_from.Goals as goal

pub returns-then-at-len : goal.returns-then-at-len
returns-then-at-len c =
    let table : c.self.inside.firsts.items ≡ firsts_of c.args.self.now = c.self.invariant ∙ ap firsts_of c.self.view_is in
    let past : length c.args.self.now ≤ c.args.from = omega (arith, ap length table, length_firsts c.args.self.now) in
    none_is c.args.self.now c.args.from past

pub returns : goal.returns
returns c =
    let table : c.self.inside.firsts.items ≡ firsts_of c.args.self.now = c.self.invariant ∙ ap firsts_of c.self.view_is in
    let within : c.args.from < length c.args.self.now = omega (arith, ap length table, length_firsts c.args.self.now) in
    c.index.ensures
    ∙ ap (λ firsts. get_or firsts c.args.from c.index.result.now) table
    ∙ first_is c.args.self.now c.args.from c.index.result.now within
