use Rattle.std.proofs.Common.{◌≡◌, Some, sym, ap, ◌∙◌, refl}
use Rattle.std.specs.Prelude.{slice_get, slice_set}
use Rattle.std.proofs.lemmas.Option.{slice_get_read}
use Rattle.swan_model.specs.declared.rights.Mode.TheVariants.{Pop}
use Rattle.swan_model.specs.SerialState.{Store}
use Rattle.serial_elision.proofs.Pops.{popped-first, popped-none, queue_at-found}
use Rattle.serial_elision.proofs.store.Store.pop.Goals as goal

pub returns-in_default-pop : goal.returns-in_default-pop
returns-in_default-pop c =
    let store : Store = c.args.self.now in
    let number = c.in-Some.number in
    let found : slice_get store.queues number ≡ Some c.in-Some-get_mut.queue.now = ap (λ s. slice_get s.queues number) (sym c.self.view_is) ∙ slice_get_read _ _ _ _ refl c.in-Some-get_mut.ensures.item.3.0 c.in-Some-get_mut.ensures.value in
    let at = queue_at-found store c.args.holdings.now c.args.place Pop number _ c.in-Some.ensures found in
    let both = popped-none store _ number _ c.pop.new.self at found c.in_default-pop.ensures.first c.in_default-pop.ensures.none in
    record { item = both.0; store = ap {B = Store} (λ s. record { cells = s.cells; queues = slice_set s.queues number c.pop.new.self }) c.self.view_is ∙ both.1 }

pub returns : goal.returns
returns c =
    let store : Store = c.args.self.now in
    let number = c.in-Some.number in
    let found : slice_get store.queues number ≡ Some c.in-Some-get_mut.queue.now = ap (λ s. slice_get s.queues number) (sym c.self.view_is) ∙ slice_get_read _ _ _ _ refl c.in-Some-get_mut.ensures.item.3.0 c.in-Some-get_mut.ensures.value in
    let at = queue_at-found store c.args.holdings.now c.args.place Pop number _ c.in-Some.ensures found in
    let both = popped-first store _ number _ c.pop.new.self c.in-Some-pop.item at c.in-Some-pop.ensures.first c.in-Some-pop.ensures.origin in
    record { item = both.0; store = ap {B = Store} (λ s. record { cells = s.cells; queues = slice_set s.queues number c.pop.new.self }) c.self.view_is ∙ both.1 }
