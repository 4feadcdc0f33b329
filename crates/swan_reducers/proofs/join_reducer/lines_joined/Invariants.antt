-- The part so far and the lines that are left give the fold of all.
use Rattle.std.proofs.Common.{◌≡◌, [], length, map}
use Rattle.swan_model.specs.Values.{bytes_of}
use Rattle.swan_reducers.specs.Joins.{bytes_joined, bytes_part, line_part}
use Rattle.swan_reducers.specs.LineFolds.{joined_lines}
use Rattle.swan_reducers.proofs.JoinBlocks.{IsWhole}
use Rattle.swan_reducers.proofs.join_reducer.lines_joined.Given as goal

abbrev pub invariant-loop-line : goal.invariant-loop-line
invariant-loop-line l = record {
  whole : IsWhole l.part.items;
  fold : joined_lines line_part bytes_joined l.part.items (map bytes_of l.block.lines) ≡ joined_lines line_part bytes_joined (bytes_part []) (map bytes_of l.fn.block.lines);
}

abbrev pub decreases-loop-line : goal.decreases-loop-line
decreases-loop-line l = length l.block.lines
