use Rattle.std.proofs.Common.{◌++◌, ◌∷◌, [], ap, ◌∙◌, sym}
use Rattle.std.specs.Prelude.{Some}
use Rattle.named_lock.proofs.Keeps.{opens_with}
use Rattle.named_lock.proofs.lock.NamedLock.with_one.Goals as goal

pub new-requires : goal.new-requires
new-requires g c = opens_with _ _ _ _ _ c.args.state (c.push_reserved.ensures.items ∙ ap (λ l. l ++ Some c.args.state ∷ []) c.in_ok-slots.ensures.items) (sym c.of.ensures)
