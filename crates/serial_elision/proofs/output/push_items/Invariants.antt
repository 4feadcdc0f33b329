use Rattle.std.proofs.Common.{◌≡◌, ◌++◌, drop, flat_map}
use Rattle.swan_model.specs.Texts.{item_text, line}
use Rattle.serial_elision.proofs.output.push_items.Given as goal

abbrev pub invariant-loop-item : goal.invariant-loop-item
invariant-loop-item l =
    l.out ++ flat_map (λ item. line (item_text item)) (drop l.item-index l.items) ≡ l.initial.out ++ flat_map (λ item. line (item_text item)) l.items
