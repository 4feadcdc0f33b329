use Rattle.std.proofs.Common.{rules, arith, ◌∷◌, ap, ◌∙◌, sym}
use Rattle.std.specs.Prelude.{Some}
use Rattle.atomic_table.specs.Table.{rest}
use Rattle.named_lock.proofs.Keeps.{takes_word}
use Rattle.named_lock.proofs.lock.NamedLock.try_take.Goals as goal

pub compare_exchange-requires : goal.compare_exchange-requires
compare_exchange-requires g c = (search rules, search rules, takes_word _ _ _ _ _ _ _ _ c.requires.3 (omega (arith, c.requires.1)))

pub exchange-requires : goal.exchange-requires
exchange-requires g c = let t = c.compare_exchange.ensures.2.0 (search rules) in (search rules, (Some t.0, ap (λ m. m.1) t.1 ∙ sym (ap (λ m. (0, Some t.0) ∷ rest m.1) t.1)))
