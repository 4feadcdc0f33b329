use Rattle.std.proofs.Common.{◌≡◌, ◌≢◌, Some, None, sym, ap, ◌∙◌}
use Rattle.slab.specs.Slab.{get, with_value}
use Rattle.queue_book.specs.Chains.{Link}
use Rattle.queue_book.proofs.ChainKept.{updates_with}
use Rattle.queue_book.proofs.ChainGrowth.{IsHandedOn, chained_hand_on}
use Rattle.swan_model.proofs.Elements.{one_answer}
use Rattle.queue_book.proofs.chains.Chains.hand_on.Goals as goal

pub returns-clause-handed : goal.returns-clause-handed
returns-clause-handed c at lines is queue mine chunkless =
    let heads = c.args.self.now.heads.items in
    let nodes = c.args.self.now.nodes in
    let inserted = c.insert.new.self in
    let key = c.args.key in
    let new = c.in_ok-new.new in
    let child = c.args.child in
    let parent = c.args.parent in
    let link : Link = c.in-Some.node.now in
    let after = with_value inserted key c.hand_on.new.self in
    let stands : get nodes key ≡ Some link = sym c.in-Some.ensures in
    let apart : key ≢ new = λ same. let never : None ≡ Some link = sym c.in_ok-new.ensures.was_vacant ∙ ap (λ k. get nodes k) (sym same) ∙ stands in cc in
    let here : get inserted key ≡ Some c.in-Some-get_mut.node.now = sym c.in-Some-get_mut.ensures.value in
    let same : c.in-Some-get_mut.node.now ≡ link = one_answer (get inserted key) c.in-Some-get_mut.node.now link here (c.in_ok-new.ensures.updates.others key apart ∙ stands) in
    let is_first : c.hand_on.new.self ≡ record link { owner = Some child; next = Some new } =
    c.hand_on.ensures ∙ ap (λ (l : Link). record l { owner = Some child; next = Some new }) same in
    let updates = updates_with inserted key c.in-Some-get_mut.node.now c.hand_on.new.self here in
    let handed : IsHandedOn nodes after key new parent child link = record {
      stands = stands;
      vacant = c.in_ok-new.ensures.was_vacant;
      first = updates.changed ∙ ap Some is_first;
      behind = updates.others new (λ e. apart (sym e)) ∙ c.in_ok-new.ensures.updates.changed ∙ ap Some c.behind-behind.ensures;
      others = λ j not_key not_new. updates.others j not_key ∙ c.in_ok-new.ensures.updates.others j not_new;
    } in
    chained_hand_on at heads nodes after lines is queue key new parent child link handed mine chunkless c.requires.two
