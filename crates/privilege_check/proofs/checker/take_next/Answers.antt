use Rattle.std.proofs.Common.{◌≡◌, Some, ap, ◌∙◌, rules, option_map, [], ◌∷◌, ◌++◌}
use Rattle.std.specs.Map.{update}
use Rattle.std.specs.Str.{bytes_eq}
use Rattle.std.proofs.Math.Path.{fun_ext}
use Rattle.std.proofs.lemmas.Map.Text.{btree_map_updates_str}
use Rattle.privilege_check.specs.Checking.{by_name}
use Rattle.privilege_check.proofs.checker.take_next.Goals as goal

pub returns-in-Ok : goal.returns-in-Ok
returns-in-Ok c =
    let v = c.push.new.self in
    let tasks = by_name c.args.tasks.now in
    let found : Some c.in-Some.takes.now ≡ tasks c.args.task.now = c.in-Some.ensures.value ∙ ap tasks c.as_str.ensures in
    fun_ext (btree_map_updates_str c.as_str.result.now c.args.tasks.now (c.get_mut.follows.lender v) (Some v) ((c.get_mut.follows.holds v).3 (search rules)))
    ∙ ap (λ task. update bytes_eq tasks task (Some v)) c.as_str.ensures
    ∙ ap (λ takes. update bytes_eq tasks c.args.task.now (Some takes)) c.in-Ok.ensures.ok
    ∙ ap (λ takes. update bytes_eq tasks c.args.task.now (option_map (λ it. it ++ c.args.declaration ∷ []) takes)) found
