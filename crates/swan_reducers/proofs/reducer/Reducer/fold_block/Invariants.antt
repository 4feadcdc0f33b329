-- The fold so far and the lines that are left give the fold of all, and its first bad line.
use Rattle.std.proofs.Common.{◌≡◌, true, length, map}
use Rattle.std.specs.Option.{option_or}
use Rattle.swan_model.specs.Values.{bytes_of}
use Rattle.swan_reducers.specs.Fold.{fold_of, joined_from}
use Rattle.swan_reducers.specs.LineFolds.{bad_number}
use Rattle.swan_reducers.proofs.reducer.Reducer.fold_block.Given as goal

abbrev pub invariant-loop-line : goal.invariant-loop-line
invariant-loop-line g l = record {
  is_part : g.Self.Reducer.is_part l.self l.fold.part ≡ true;
  part : joined_from g.Self.Reducer l.self l.fold.part (map bytes_of l.block.lines) ≡ fold_of g.Self.Reducer l.self (map bytes_of l.fn.block.lines);
  bad : option_or l.fold.bad (bad_number (g.Self.Reducer.part_of l.self) l.block.number (map bytes_of l.block.lines)) ≡ bad_number (g.Self.Reducer.part_of l.self) l.fn.block.number (map bytes_of l.fn.block.lines);
  number : l.number ≡ l.block.number;
}

abbrev pub decreases-loop-line : goal.decreases-loop-line
decreases-loop-line g l = length l.block.lines
