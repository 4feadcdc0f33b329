use Rattle.std.proofs.Common.{◌≡◌, ℕ, List, sym, ◌∙◌, subst, Some, bytes_eq, string_bytes}
use Rattle.std.proofs.lemmas.Map.Text.{btree_map_updates_text}
use Rattle.std.specs.BTreeMap.{get_by_text}
use Rattle.std.specs.Map.{update}
use Rattle.job_body.proofs.NameLemmas.{placed}
use Rattle.job_body.proofs.name_table.places_with.Goals as goal

pub returns : goal.returns
returns c = λ other.
    let updated : get_by_text c.insert.new.self other ≡ update bytes_eq (get_by_text c.args.places) (string_bytes c.in_ok-key.key) (Some c.args.place) other =
    btree_map_updates_text _ c.args.places c.insert.new.self _ c.in_ok-insert.ensures.updates other in
    placed (get_by_text c.args.places) c.args.name.now other c.args.place _ (sym c.contains_key.ensures ∙ c.if-contains_key.false)
    (let P : List ℕ → Type 0 = λ k. get_by_text c.insert.new.self other ≡ update bytes_eq (get_by_text c.args.places) k (Some c.args.place) other in subst P c.in_ok-key.ensures.ok updated)
