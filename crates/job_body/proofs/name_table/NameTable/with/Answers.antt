use Rattle.std.proofs.Common.{rules, ◌≡◌, ◌++◌, ◌∷◌, [], ℕ, List, arith, ◌∙◌, sym, ap, length, length-append}
use Rattle.std.specs.BTreeMap.{get_by_text}
use Rattle.job_body.specs.Names.{slot}
use Rattle.job_body.proofs.NameLemmas.{places-with}
use Rattle.job_body.proofs.name_table.NameTable.with.Goals as goal

pub invariant_of-result : goal.invariant_of-result
invariant_of-result c =
    let pushed : c.push.new.self ≡ c.self.inside.names ++ c.args.name.now ∷ [] = search rules in
    let longer : length c.push.new.self ≡ length (c.self.inside.names ++ c.args.name.now ∷ []) = ap length pushed in
    record {
      few = omega (arith, longer, length-append {A = List ℕ}, c.requires, ap length c.self.view_is);
      finds = λ other.
          places-with c.self.inside.names (get_by_text c.self.inside.places) (get_by_text c.in_ok-places.places) c.as_str-text.result.now c.len-place.result c.len-place.ensures
          c.self.invariant.finds c.in_ok-places.ensures other
          ∙ ap (λ name. slot (c.self.inside.names ++ name ∷ []) other) c.as_str-text.ensures
          ∙ ap (λ names. slot names other) (sym pushed);
    }
