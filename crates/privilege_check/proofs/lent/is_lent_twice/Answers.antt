use Rattle.std.proofs.Common.{◌≡◌, sym, ap, ◌∙◌, ◌-◌, List, ℕ, true, Option, Some, drop, arith}
use Rattle.std.specs.List.{list_any}
use Rattle.std.specs.Map.{update}
use Rattle.std.specs.Str.{bytes_eq}
use Rattle.std.proofs.lemmas.Bool.{or_from, or_left}
use Rattle.swan_model.specs.declared.rights.Mode.{Mode}
use Rattle.privilege_check.specs.Checking.{by_name}
use Rattle.privilege_check.specs.Lending.{clashes}
use Rattle.privilege_check.specs.Spawns.{lends_clash, is_lent_twice, lent}
use Rattle.privilege_check.proofs.Lends.{clash_later, lent_more, lent_twice_from, modes_more}
use Rattle.privilege_check.proofs.lent.is_lent_twice.Goals as goal

pub returns-then-branch : goal.returns-then-branch
returns-then-branch c =
    let takes = c.args.takes.now in
    let args = c.args.args.now in
    let i = c.loop-index.index in
    let name = c.in-Held-Name.name in
    let mode = c.in-Held-Name.mode in
    let later = lent (drop i takes) (drop i args) in
    let more = lent_more takes args i _ _ mode c.in-Held-Name.field-1-0 name (omega arith) (omega arith) (omega arith) c.in-Held-Name.is-0 (sym c.index-args-index.is ∙ c.in-Held-Name.is-1) in
    let clash_is : c.in_ok-lend.field-0 ≡ list_any (lends_clash (name, mode)) later =
    c.in_ok-lend.ensures.clash
    ∙ ap (λ n. clashes mode (by_name c.loop-index.lent n)) c.as_str.ensures
    ∙ ap (λ (f : List ℕ → Option Mode). clashes mode (f name)) c.loop-index.invariant.known
    ∙ sym (clash_later name mode later c.loop-index.invariant.once) in
    let twice : is_lent_twice (lent (drop (i - 1) takes) (drop (i - 1) args)) ≡ true =
    ap is_lent_twice more ∙ or_left (list_any (lends_clash (name, mode)) later) (is_lent_twice later) (sym clash_is ∙ c.if-branch.true) in
    sym (lent_twice_from (i - 1) takes args twice)

pub loop-index-preserved-in-Name-1 : goal.loop-index-preserved-in-Name-1
loop-index-preserved-in-Name-1 c =
    let takes = c.args.takes.now in
    let args = c.args.args.now in
    let i = c.loop-index.index in
    let name = c.in-Held-Name.name in
    let mode = c.in-Held-Name.mode in
    let later = lent (drop i takes) (drop i args) in
    let more = lent_more takes args i _ _ mode c.in-Held-Name.field-1-0 name (omega arith) (omega arith) (omega arith) c.in-Held-Name.is-0 (sym c.index-args-index.is ∙ c.in-Held-Name.is-1) in
    let clash_is : c.in_ok-lend.field-0 ≡ list_any (lends_clash (name, mode)) later =
    c.in_ok-lend.ensures.clash
    ∙ ap (λ n. clashes mode (by_name c.loop-index.lent n)) c.as_str.ensures
    ∙ ap (λ (f : List ℕ → Option Mode). clashes mode (f name)) c.loop-index.invariant.known
    ∙ sym (clash_later name mode later c.loop-index.invariant.once) in
    record {
      once = ap is_lent_twice more ∙ or_from (list_any (lends_clash (name, mode)) later) (is_lent_twice later) (sym clash_is ∙ c.if-branch.false) c.loop-index.invariant.once;
      known =
          c.in_ok-lend.ensures.lent
          ∙ ap (λ n. update bytes_eq (by_name c.loop-index.lent) n (Some mode)) c.as_str.ensures
          ∙ ap (λ (f : List ℕ → Option Mode). update bytes_eq f name (Some mode)) c.loop-index.invariant.known
          ∙ modes_more name mode later _ more;
    }
