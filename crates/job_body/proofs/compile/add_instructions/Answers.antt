use Rattle.std.proofs.Common.{◌≡◌, ◌<◌, ◌+◌, ◌++◌, ◌∷◌, [], Some, length, drop, get_or, slice_get, arith, subst, sym, ap, ◌∙◌, append_assoc, refl}
use Rattle.std.proofs.lemmas.Option.{slice_get_read}
use Rattle.job_body.specs.Blocks.{exit_at}
use Rattle.job_body.specs.Compiled.{KnowsFew, TakeFew, scope_past, instruction_of, instructions_from, seen_at, tasks_of}
use Rattle.job_body.proofs.FewNames.{knows_more}
use Rattle.job_body.proofs.FewTakes.{few_takes}
use Rattle.job_body.proofs.Known.{seen-next}
use Rattle.job_body.proofs.Suffixes.{exit_is, length_exits}
use Rattle.swan_model.proofs.Lists.{drop_next}
use Rattle.job_body.proofs.compile.add_instructions.Goals as goal

pub index-exit-requires : goal.index-exit-requires
index-exit-requires c =
    let within : c.loop-index.index < length c.args.job.now = subst (λ lines. c.loop-index.index < length lines) c.lines-lines.ensures c.loop-index-test.true in
    omega (arith, within, ap length c.requires.exits, length_exits (length c.args.job.now) 0 c.args.job.now)

pub loop-index-preserved : goal.loop-index-preserved
loop-index-preserved c =
    let line : slice_get c.args.job.now c.loop-index.index ≡ Some c.index-lines-index.result =
    subst (λ lines. slice_get lines c.loop-index.index ≡ Some c.index-lines-index.result) c.lines-lines.ensures
    (slice_get_read c.lines-lines.result.now (length c.lines-lines.result.now) c.loop-index.index c.index-lines-index.result refl c.loop-index-test.true c.index-lines-index.is) in
    let within : c.loop-index.index < length c.args.job.now = subst (λ lines. c.loop-index.index < length lines) c.lines-lines.ensures c.loop-index-test.true in
    let exit : c.index-exit.result.now ≡ exit_at c.args.job.now c.loop-index.index =
    c.index-exit.ensures
    ∙ ap (λ exits. get_or exits c.loop-index.index c.index-exit.result.now) c.requires.exits
    ∙ exit_is c.args.job.now c.loop-index.index c.index-exit.result.now within in
    let pushed : c.add_instruction.new.program ≡ c.loop-index.program ++ instruction_of c.args.job.now (tasks_of c.args.job.now) (seen_at c.args.job.now c.loop-index.index) (exit_at c.args.job.now c.loop-index.index) c.loop-index.index c.index-lines-index.result ∷ [] =
    c.in_ok-add_instruction.ensures
    ∙ ap (λ tasks. c.loop-index.program ++ instruction_of c.args.job.now tasks c.loop-index.scope c.index-exit.result.now c.loop-index.index c.index-lines-index.result ∷ []) c.requires.tasks
    ∙ ap (λ scope. c.loop-index.program ++ instruction_of c.args.job.now (tasks_of c.args.job.now) scope c.index-exit.result.now c.loop-index.index c.index-lines-index.result ∷ []) c.loop-index.invariant.known
    ∙ ap (λ exit. c.loop-index.program ++ instruction_of c.args.job.now (tasks_of c.args.job.now) (seen_at c.args.job.now c.loop-index.index) exit c.loop-index.index c.index-lines-index.result ∷ []) exit in
    record {
      few = subst (λ scope. KnowsFew scope (c.loop-index.index + 1)) (sym c.in_ok-enter.ensures) (knows_more _ c.loop-index.scope c.index-lines-index.result c.loop-index.index c.loop-index.invariant.few);
      known =
          c.in_ok-enter.ensures
          ∙ ap (λ scope. scope_past c.loop-index.index scope c.index-lines-index.result) c.loop-index.invariant.known
          ∙ seen-next c.args.job.now c.loop-index.index c.index-lines-index.result line;
      made =
          ap (λ program. program ++ instructions_from c.args.job.now (c.loop-index.index + 1) (drop (c.loop-index.index + 1) c.args.job.now)) pushed
          ∙ append_assoc c.loop-index.program (instruction_of c.args.job.now (tasks_of c.args.job.now) (seen_at c.args.job.now c.loop-index.index) (exit_at c.args.job.now c.loop-index.index) c.loop-index.index c.index-lines-index.result ∷ []) (instructions_from c.args.job.now (c.loop-index.index + 1) (drop (c.loop-index.index + 1) c.args.job.now))
          ∙ ap (λ rest. c.loop-index.program ++ instructions_from c.args.job.now c.loop-index.index rest) (sym (drop_next c.args.job.now c.loop-index.index c.index-lines-index.result line))
          ∙ c.loop-index.invariant.made;
    }

pub add_instruction-requires-clause-few : goal.add_instruction-requires-clause-few
add_instruction-requires-clause-few c = subst TakeFew (sym c.requires.tasks) (few_takes c.args.job.now c.requires.few)
