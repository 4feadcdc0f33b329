-- What lines push, and which faults they book.
use Rattle.std.proofs.Common.{◌≡◌, ℕ, suc, ◌+◌, ◌*◌, ◌/◌, ◌%◌, ◌^◌, ◌≤◌, ◌<◌, Option, Some, None, List, [], ◌∷◌, ◌++◌, length, map, refl, sym, ap, ◌∙◌, arith, append_assoc}
use Rattle.std.proofs.lemmas.List.{map-append}
use Rattle.swan_model.specs.declared.fault.Fault.{Fault}
use Rattle.swan_model.specs.declared.fault.FaultKind.TheVariants as kind
use Rattle.swan_model.specs.declared.fault.Trouble.{Trouble}
use Rattle.swan_model.specs.declared.value.Value.{Value}
use Rattle.swan_model.specs.declared.value.Value.TheVariants.{Bytes}
use Rattle.swan_model.specs.Values.{bytes_of, COUNT_MOST}
use Rattle.line_blocks.specs.LineBlocks.{later}
use Rattle.record_pipeline.specs.Conversion.{fault_at_line, faults_from, records_of, trouble_of, unless_trouble}
use Rattle.record_pipeline.specs.Netstrings.{netstrings}

-- what a line pushes
abbrev pub pushed_of : Option Trouble → List ℕ → List Value
pushed_of None line = Bytes (netstrings line) ∷ []
pushed_of (Some trouble) line = []

-- which fault its task books, of this path and number
abbrev pub booked_of : List ℕ → ℕ → Option Trouble → List Fault
booked_of path number None = []
booked_of path number (Some trouble) = (record { path = path; place = number; kind = kind.Trouble trouble }) ∷ []

module _ (width : ℕ) where
  abbrev pub trouble : Value → Option Trouble
  trouble line = trouble_of width (bytes_of line)

  -- what lines push
  abbrev pub pushed : List Value → List Value
  pushed [] = []
  pushed (line ∷ lines) = pushed_of (trouble line) (bytes_of line) ++ pushed lines

  pub pushed-append : (xs ys : List Value) → pushed (xs ++ ys) ≡ pushed xs ++ pushed ys
  pushed-append [] ys = refl
  pushed-append (x ∷ xs) ys =
      ap (λ v. pushed_of (trouble x) (bytes_of x) ++ v) (pushed-append xs ys) ∙ sym (append_assoc (pushed_of (trouble x) (bytes_of x)) (pushed xs) (pushed ys))

  -- the faults of lines of a block: the task of the first of them has this number, and it this line number
  abbrev pub block_faults : List ℕ → ℕ → ℕ → List Value → List Fault
  block_faults path i number [] = []
  block_faults path i number (line ∷ lines) = booked_of (path ++ i ∷ []) number (trouble line) ++ block_faults path (i + 1) (later number 1) lines

  -- the faults of lines that have so many lines before them
  abbrev pub line_faults : ℕ → List Value → List Fault
  line_faults before [] = []
  line_faults before (line ∷ lines) = booked_of ((before / 64) ∷ (before % 64) ∷ []) (later 1 before) (trouble line) ++ line_faults (before + 1) lines

  pub line_faults-append : (before : ℕ) (xs ys : List Value) → line_faults before (xs ++ ys) ≡ line_faults before xs ++ line_faults (before + length xs) ys
  line_faults-append before [] ys = ap (λ i. line_faults i ys) (let e : before ≡ before + 0 = omega arith in e)
  line_faults-append before (x ∷ xs) ys =
      let head = booked_of ((before / 64) ∷ (before % 64) ∷ []) (later 1 before) (trouble x) in
      ap (λ v. head ++ v) (line_faults-append (before + 1) xs ys ∙ ap (λ i. line_faults (before + 1) xs ++ line_faults i ys) (let e : before + 1 + length xs ≡ before + suc (length xs) = omega arith in e))
      ∙ sym (append_assoc head (line_faults (before + 1) xs) _)

  -- a block's faults, by how many lines stand before each line
  pub one_block : (xs : List Value) (n i before : ℕ) → n * 64 + i ≡ before → i + length xs ≤ 64 → block_faults (n ∷ []) i (later 1 before) xs ≡ line_faults before xs
  one_block [] n i before is short = refl
  one_block (x ∷ xs) n i before is short =
      let block_is : n ≡ before / 64 = omega (arith, is, short) in
      let line_is : i ≡ before % 64 = omega (arith, is, short) in
      let next_is : later (later 1 before) 1 ≡ later 1 (before + 1) = omega arith in
      ap (λ b. booked_of (b ∷ i ∷ []) (later 1 before) (trouble x) ++ block_faults (n ∷ []) (i + 1) (later (later 1 before) 1) xs) block_is
      ∙ ap (λ l. booked_of ((before / 64) ∷ l ∷ []) (later 1 before) (trouble x) ++ block_faults (n ∷ []) (i + 1) (later (later 1 before) 1) xs) line_is
      ∙ ap (λ m. booked_of ((before / 64) ∷ (before % 64) ∷ []) (later 1 before) (trouble x) ++ block_faults (n ∷ []) (i + 1) m xs) next_is
      ∙ ap (λ v. booked_of ((before / 64) ∷ (before % 64) ∷ []) (later 1 before) (trouble x) ++ v) (one_block xs n (i + 1) (before + 1) (omega (arith, is)) (omega (arith, short)))

  -- ---- they are those of the conversion

  one_record : (t : Option Trouble) (line : List ℕ) → pushed_of t line ≡ map Bytes (unless_trouble t line)
  one_record None line = refl
  one_record (Some t) line = refl

  pub records_are : (ls : List (List ℕ)) → pushed (map Bytes ls) ≡ map Bytes (records_of width ls)
  records_are [] = refl
  records_are (line ∷ ls) =
      ap (λ v. v ++ pushed (map Bytes ls)) (one_record (trouble_of width line) line)
      ∙ ap (λ v. map Bytes (unless_trouble (trouble_of width line) line) ++ v) (records_are ls)
      ∙ sym (map-append Bytes (unless_trouble (trouble_of width line) line) (records_of width ls))

  one_fault : (before : ℕ) (t : Option Trouble) → before + 1 < 2 ^ 64 → booked_of ((before / 64) ∷ (before % 64) ∷ []) (later 1 before) t ≡ fault_at_line before t
  one_fault before None fits = refl
  one_fault before (Some t) fits =
      ap {B = List Fault} (λ n. (record { path = (before / 64) ∷ (before % 64) ∷ []; place = n; kind = kind.Trouble t }) ∷ []) (let e : later 1 before ≡ before + 1 = omega arith in e)

  pub faults_are : (before : ℕ) (ls : List (List ℕ)) → before + length ls < COUNT_MOST → line_faults before (map Bytes ls) ≡ faults_from before width ls
  faults_are before [] fits = refl
  faults_are before (line ∷ ls) fits =
      ap (λ v. v ++ line_faults (before + 1) (map Bytes ls)) (one_fault before (trouble_of width line) (omega arith))
      ∙ ap (λ v. fault_at_line before (trouble_of width line) ++ v) (faults_are (before + 1) ls (omega arith))
