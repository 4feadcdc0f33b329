-- The generated workload: a job that sums the numbers of its input in blocks of 100 lines, and the input.
use Rattle.std.specs.Prelude.{ℕ, zero, suc, ◌+◌, ◌*◌, ◌%◌, List, [], ◌∷◌, ◌++◌, codes, flat_map}
use Rattle.std.specs.Fmt.{decimal}
use Rattle.swan_model.specs.Texts.{line}

-- the lines of the job before the one that tells the fuel of the last task
abbrev pub lines_before : List (List ℕ)
lines_before =
    codes "swan 1"
    ∷ codes "input lines"
    ∷ codes "output summary int"
    ∷ codes "object total int"
    ∷ codes "object count int"
    ∷ codes "task parse"
    ∷ codes "  param block bytes"
    ∷ codes "  push nums int"
    ∷ codes "  var from int"
    ∷ codes "  var to int"
    ∷ codes "  var piece bytes"
    ∷ codes "  var n int"
    ∷ codes "  var size int"
    ∷ codes "  var more int"
    ∷ codes "  do"
    ∷ codes "  size = len block"
    ∷ codes "  more = lt from size"
    ∷ codes "  while more"
    ∷ codes "    to = find block 32 from"
    ∷ codes "    piece = slice block from to"
    ∷ codes "    n = num piece"
    ∷ codes "    push nums n"
    ∷ codes "    from = add to 1"
    ∷ codes "    more = lt from size"
    ∷ codes "  end"
    ∷ codes "end"
    ∷ codes "task fold"
    ∷ codes "  pop nums int"
    ∷ codes "  out total int"
    ∷ codes "  out count int"
    ∷ codes "  push summary int"
    ∷ codes "  var n int"
    ∷ codes "  var sum int"
    ∷ codes "  var items int"
    ∷ codes "  var none int"
    ∷ codes "  var more int"
    ∷ codes "  do"
    ∷ codes "  empty none nums"
    ∷ codes "  more = not none"
    ∷ codes "  while more"
    ∷ codes "    pop n nums"
    ∷ codes "    sum = add sum n"
    ∷ codes "    items = add items 1"
    ∷ codes "    empty none nums"
    ∷ codes "    more = not none"
    ∷ codes "  end"
    ∷ codes "  write total sum"
    ∷ codes "  write count items"
    ∷ codes "  push summary sum"
    ∷ codes "  push summary items"
    ∷ codes "end"
    ∷ codes "task main"
    ∷ codes "  queue nums int"
    ∷ codes "  var block bytes"
    ∷ codes "  var line bytes"
    ∷ codes "  var held int"
    ∷ codes "  var none int"
    ∷ codes "  var more int"
    ∷ codes "  var full int"
    ∷ codes "  do"
    ∷ codes "  empty none lines"
    ∷ codes "  more = not none"
    ∷ codes "  while more"
    ∷ codes "    pop line lines"
    ∷ codes "    block = cat block line"
    ∷ codes "    block = cat block \" \""
    ∷ codes "    held = add held 1"
    ∷ codes "    full = eq held 100"
    ∷ codes "    if full"
    ∷ codes "      spawn 1000 parse block nums"
    ∷ codes "      block = set \"\""
    ∷ codes "      held = set 0"
    ∷ codes "    end"
    ∷ codes "    empty none lines"
    ∷ codes "    more = not none"
    ∷ codes "  end"
    ∷ codes "  spawn 1000 parse block nums"
    ∷ []

-- what the last task needs for so many numbers
abbrev pub fold_fuel : ℕ → ℕ
fold_fuel size = 7 * size + 8

abbrev pub fold_line : ℕ → List ℕ
fold_line fuel = codes "  spawn " ++ (decimal fuel ++ codes " fold nums total count summary")

-- the job for an input of so many lines
abbrev pub bulk_job : ℕ → List ℕ
bulk_job size = flat_map line lines_before ++ (line (fold_line (fold_fuel size)) ++ line (codes "end"))

-- the fuel that it runs with
abbrev pub bulk_fuel : ℕ → ℕ
bulk_fuel size = 30 * size + 2000

-- the number after one; 1000 numbers in a row are the numbers below 1000, each once
abbrev pub number_after : ℕ → ℕ
number_after number = (21 * number + 7) % 1000

-- a number and those after it, so many together, one on each line
abbrev pub number_lines : ℕ → ℕ → List ℕ
number_lines number zero = []
number_lines number (suc count) = line (decimal number) ++ number_lines (number_after number) count

-- the input of so many lines
abbrev pub bulk_input : ℕ → ℕ → List ℕ
bulk_input number size = number_lines (number % 1000) size
