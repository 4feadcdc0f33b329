-- The fold of lines by the reducer of joins is the lines' bytes.
use Rattle.std.proofs.Common.{◌≡◌, ℕ, ◌≤◌, ◌<◌, Bool, true, false, cond, nat_lt, List, [], ◌∷◌, ◌++◌, length, refl, sym, ap, ◌∙◌, append_assoc, rules, tests}
use Rattle.std.proofs.lemmas.List.{append-nil}
use Rattle.std.specs.Prelude.{Ok, Err}
use Rattle.swan_model.specs.declared.fault.Trouble.TheVariants.{TooLong}
use Rattle.swan_reducers.specs.contracts.join_reducer.JoinReducerReducer.TheImpl.{ghosts}
use Rattle.swan_reducers.specs.declared.join_reducer.JoinReducer.{JoinReducer}
use Rattle.swan_reducers.specs.declared.join_reducer.TheConstants.{JOIN_MOST}
use Rattle.swan_reducers.specs.Fold.{fold_of, joined_from}
use Rattle.swan_reducers.specs.JoinLaws.{part_few, part_many, parts_join, whole_not_long}
use Rattle.swan_reducers.specs.Joins.{all_bytes, bytes_part, join_end, whole_text}

joins_all : (reducer : JoinReducer) (whole : List ℕ) (ls : List (List ℕ)) → joined_from ghosts reducer (bytes_part whole) ls ≡ bytes_part (whole ++ all_bytes ls)
joins_all reducer whole [] = ap bytes_part (sym (append-nil whole))
joins_all reducer whole (line ∷ ls) =
    ap (λ v. joined_from ghosts reducer v ls) (parts_join whole line)
    ∙ joins_all reducer (whole ++ line) ls
    ∙ ap bytes_part (append_assoc whole line (all_bytes ls))

ends_whole : (bytes : List ℕ) → join_end (bytes_part bytes) ≡ whole_text bytes
ends_whole bytes = by_case (nat_lt JOIN_MOST (length bytes)) refl
  where
    by_case : (b : Bool) → nat_lt JOIN_MOST (length bytes) ≡ b → join_end (bytes_part bytes) ≡ whole_text bytes
    by_case true is =
        let many : JOIN_MOST < length bytes = search (rules, tests) in
        ap join_end (part_many bytes many) ∙ sym (ap (λ b. cond b (Err TooLong) (Ok bytes)) is)
    by_case false is =
        let few : length bytes ≤ JOIN_MOST = search (rules, tests) in
        ap join_end (part_few bytes few) ∙ ap (λ b. cond b (Err TooLong) (Ok bytes)) (whole_not_long bytes) ∙ sym (ap (λ b. cond b (Err TooLong) (Ok bytes)) is)

pub joins_are_whole : (reducer : JoinReducer) (ls : List (List ℕ)) → join_end (fold_of ghosts reducer ls) ≡ whole_text (all_bytes ls)
joins_are_whole reducer ls = ap join_end (joins_all reducer [] ls) ∙ ends_whole (all_bytes ls)
