-- The sum so far and the lines that are left give the fold of all, and its first bad line.
use Rattle.std.proofs.Common.{◌≡◌, length, map}
use Rattle.std.specs.Prelude.{pos}
use Rattle.std.specs.Option.{option_or}
use Rattle.swan_model.specs.Values.{bytes_of}
use Rattle.swan_reducers.specs.LineFolds.{bad_number}
use Rattle.swan_reducers.specs.Sums.{lines_summed, number_part}
use Rattle.swan_reducers.proofs.sum_reducer.lines_summed.Given as goal

abbrev pub invariant-loop-line : goal.invariant-loop-line
invariant-loop-line l = record {
  sum : lines_summed l.sum (map bytes_of l.block.lines) ≡ lines_summed (pos 0) (map bytes_of l.fn.block.lines);
  bad : option_or l.bad (bad_number number_part l.block.number (map bytes_of l.block.lines)) ≡ bad_number number_part l.fn.block.number (map bytes_of l.fn.block.lines);
  number : l.number ≡ l.block.number;
}

abbrev pub decreases-loop-line : goal.decreases-loop-line
decreases-loop-line l = length l.block.lines
