use Rattle.std.proofs.Common.{◌≡◌, ◌+◌, ◌<◌, ◌++◌, ◌∷◌, [], ap, sym, ◌∙◌, arith, length, take}
use Rattle.std.proofs.lemmas.List.{take_more}
use Rattle.serial_elision.proofs.Scripts.{gives_of-push}
use Rattle.serial_elision.proofs.deeds.named.Goals as goal

pub loop-holding-preserved : goal.loop-holding-preserved
loop-holding-preserved c =
    let held = c.args.holdings.now in
    let i = c.loop-holding.holding-index in
    let holding = c.holding-item.result in
    let within : i < length held = omega arith in
    let more : take (i + 1) held ≡ take i held ++ holding ∷ [] = take_more held i holding within ∙ ap (λ h. take i held ++ h ∷ []) (sym c.holding-item.is) in
    let push = gives_of-push c.args.store.now (take i held) holding in cc c.in_ok-name.ensures
