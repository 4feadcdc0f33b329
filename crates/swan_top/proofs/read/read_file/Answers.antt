use Rattle.std.proofs.Common.{Err, ap, inl, inr}
use Rattle.swan_top.proofs.TextsRead.{Stops-map}
use Rattle.swan_top.proofs.read.read_file.Goals as goal

pub returns-in-Err-Failed-clause-refused : goal.returns-in-Err-Failed-clause-refused
returns-in-Err-Failed-clause-refused g c =
    let rose = c.in-Err-Failed.ensures.failed (ap (λ e. Err e) c.in-Err-Failed.field-0-is) in
    let short = c.in-Err-Failed.ensures.no_long_read (λ is. cc) in
    Stops-map ⊥ _ _ _ (λ never. absurd never) (λ verdict is. inl (is, rose, short)) c.refuse_read.result c.refuse_read.ensures

pub returns-in-Err-TooLong-clause-refused : goal.returns-in-Err-TooLong-clause-refused
returns-in-Err-TooLong-clause-refused g c =
    let is_long = ap (λ e. Err e) c.in-Err-TooLong.field-0-is in
    let rose = c.in-Err-TooLong.ensures.long is_long in
    let told = c.in-Err-TooLong.ensures.long_where_told is_long in
    let well = c.in-Err-TooLong.ensures.no_fault (λ is. cc) in
    Stops-map ⊥ _ _ _ (λ never. absurd never) (λ verdict is. inr (is, rose, well, told)) c.refuse_read-in-Err-TooLong.result c.refuse_read-in-Err-TooLong.ensures
