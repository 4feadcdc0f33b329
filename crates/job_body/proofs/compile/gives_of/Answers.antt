use Rattle.std.proofs.Common.{◌++◌, flat_map, sym, ap, ◌∙◌}
use Rattle.std.proofs.lemmas.List.{append-nil}
use Rattle.job_body.specs.Compiled.{give_given}
use Rattle.job_body.proofs.Suffixes.{zip_past}
use Rattle.job_body.proofs.compile.gives_of.Goals as goal

pub returns-then-index-args : goal.returns-then-index-args
returns-then-index-args c =
    sym (append-nil c.loop-index.all)
    ∙ ap (λ pairs. c.loop-index.all ++ flat_map (give_given c.args.scope.now) pairs) (sym (zip_past c.args.takes.now c.args.args.now c.loop-index.index c.if-index-args.true))
    ∙ c.loop-index.invariant.made
