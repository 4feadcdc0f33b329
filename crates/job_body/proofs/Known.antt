-- What is known at a line once one more line is read.
use Rattle.std.proofs.Common.{◌≡◌, ℕ, ◌+◌, Some, List, [], ◌∷◌, ◌++◌, length, take, flat_map, slice_get, refl, sym, ap, ◌∙◌, arith, length-take-le}
use Rattle.std.proofs.lemmas.List.{append-nil}
use Rattle.std.proofs.lemmas.Grind.{flat_map-append}
use Rattle.std.proofs.lemmas.Option.{slice_get_within}
use Rattle.job_reader.specs.declared.line.Line.{Line}
use Rattle.job_reader.specs.declared.line.Line.TheVariants as line
use Rattle.job_body.specs.declared.block.BlockWithLine.{BlockWithLine}
use Rattle.job_body.specs.declared.scope.Scope.{Scope}
use Rattle.job_body.specs.Blocks.{blocks_after, blocks_at, blocks_from}
use Rattle.job_body.specs.Compiled.{scope_past, seen_at}
use Rattle.job_body.specs.Tasks.{TaskSoFar, access_name_of, made_of, param_of, roots, so_far_after, so_far_at, so_far_from, top_lines, var_of}
use Rattle.privilege_check.specs.Names.{is_main}
use Rattle.swan_model.proofs.Lists.{take_next}

-- what a task so far and its open blocks say
abbrev seen : List (List ℕ) → TaskSoFar → List BlockWithLine → Scope
seen names so_far blocks = record {
  roots = names;
  is_main = is_main so_far.name;
  params = flat_map param_of so_far.lines;
  vars = flat_map var_of so_far.lines;
  accesses = flat_map access_name_of so_far.lines;
  made = flat_map made_of so_far.lines;
  blocks = blocks;
}

seen-after : (i : ℕ) (names : List (List ℕ)) (so_far : TaskSoFar) (blocks : List BlockWithLine) (line : Line) → scope_past i (seen names so_far blocks) line ≡ seen names (so_far_after so_far line) (blocks_after i blocks line)
seen-after i names so_far blocks (line.Task name) = refl
seen-after i names so_far blocks line = simp (flat_map-append, append-nil)

pub so_far-push : (so_far : TaskSoFar) (lines : List Line) (line : Line) → so_far_from so_far (lines ++ line ∷ []) ≡ so_far_after (so_far_from so_far lines) line
so_far-push so_far [] line = refl
so_far-push so_far (first ∷ lines) line = so_far-push (so_far_after so_far first) lines line

blocks-push : (i : ℕ) (blocks : List BlockWithLine) (lines : List Line) (line : Line) → blocks_from i blocks (lines ++ line ∷ []) ≡ blocks_after (i + length lines) (blocks_from i blocks lines) line
blocks-push i blocks [] line = ap (λ k. blocks_after k blocks line) (omega arith)
blocks-push i blocks (first ∷ lines) line =
    blocks-push (i + 1) (blocks_after i blocks first) lines line
    ∙ ap (λ k. blocks_after k (blocks_from (i + 1) (blocks_after i blocks first) lines) line) (omega arith)

-- what is known after the line at an index
pub seen-next : (lines : List Line) (i : ℕ) (line : Line) → slice_get lines i ≡ Some line → scope_past i (seen_at lines i) line ≡ seen_at lines (i + 1)
seen-next lines i line h =
    seen-after i (roots (top_lines lines)) (so_far_at lines i) (blocks_at lines i) line
    ∙ ap (λ so_far. seen (roots (top_lines lines)) so_far (blocks_after i (blocks_at lines i) line)) (sym one_more)
    ∙ ap (λ blocks. seen (roots (top_lines lines)) (so_far_at lines (i + 1)) blocks) (sym blocks) where
      one_more : so_far_at lines (i + 1) ≡ so_far_after (so_far_at lines i) line
      one_more = ap (λ taken. so_far_from (record { name = []; lines = [] }) taken) (take_next lines i line h) ∙ so_far-push _ (take i lines) line

      at_index : 0 + length (take i lines) ≡ i
      at_index = omega (arith, length-take-le i lines (omega (arith, slice_get_within lines i line h)))

      blocks : blocks_at lines (i + 1) ≡ blocks_after i (blocks_at lines i) line
      blocks =
          ap (λ taken. blocks_from 0 [] taken) (take_next lines i line h)
          ∙ blocks-push 0 [] (take i lines) line
          ∙ ap (λ k. blocks_after k (blocks_at lines i) line) at_index
