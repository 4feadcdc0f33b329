use Rattle.std.proofs.Common.{◌≡◌, ◌≢◌, true, false, ◌&&◌, not, ◌==◌, None, refl, sym, ap, subst, ◌∙◌}
use Rattle.std.proofs.lemmas.Bool.{not-true, not-false}
use Rattle.std.specs.Prelude.{IsSome}
use Rattle.queues.specs.Chunks.{after_close}
use Rattle.queue_book.specs.Chains.{in_line, put_at}
use Rattle.queue_book.proofs.ChainEnds.{chained_closed, chained_over, none_but_own}
use Rattle.queue_book.proofs.ending.end_chunk.Goals as goal

pub close-requires : goal.close-requires
close-requires c =
    let owned = c.requires.owned in
    let node = owned.2.owned c.args.number c.args.queue c.args.own_chunk.key owned.3 in
    record { known = subst IsSome (sym node.1) refl }

pub give_up-requires-clause-unowned : goal.give_up-requires-clause-unowned
give_up-requires-clause-unowned c =
    let number = c.args.number in
    let queue = c.args.queue in
    let owned = c.requires.owned in (
      put_at number queue None owned.0,
      in_line queue (after_close number) owned.1,
      c.close.ensures.closed owned.0 owned.1 owned.2 number queue owned.3,
      none_but_own number queue owned.0 (owned.4 (not-false c.args.own_chunk.is_maker c.if-not-own_chunk.false) c.if-number-eq0.false),
    )

pub returns-then-not-own_chunk-clause-ended : goal.returns-then-not-own_chunk-clause-ended
returns-then-not-own_chunk-clause-ended c at lines is key alone =
    let number = c.args.number in
    let own_chunk = c.args.own_chunk in
    chained_closed (put_at number c.args.queue None at) c.close.new.self.heads.items c.close.new.self.nodes lines number c.args.queue own_chunk
    (ap (λ b. b && not (number == 0)) (not-true own_chunk.is_maker c.if-not-own_chunk.true)) (c.close.ensures.closed at lines is number c.args.queue key)

pub returns-then-number-eq0-clause-ended : goal.returns-then-number-eq0-clause-ended
returns-then-number-eq0-clause-ended c at lines is key alone =
    let number = c.args.number in
    let own_chunk = c.args.own_chunk in
    let root : number ≡ 0 = c.if-number-eq0.true in
    let stays : (own_chunk.is_maker && not (number == 0)) ≡ false =
    ap (λ b. b && not (number == 0)) (not-false own_chunk.is_maker c.if-not-own_chunk.false) ∙ ap (λ k. true && not (k == 0)) root in
    chained_closed (put_at number c.args.queue None at) c.close.new.self.heads.items c.close.new.self.nodes lines number c.args.queue own_chunk stays
    (c.close.ensures.closed at lines is number c.args.queue key)

pub returns-clause-ended : goal.returns-clause-ended
returns-clause-ended c at lines is key alone =
    let number = c.args.number in
    let queue = c.args.queue in
    let own_chunk = c.args.own_chunk in
    let other : number ≢ 0 = c.if-number-eq0.false in
    chained_over (put_at number queue None at) c.give_up.new.self.heads.items c.give_up.new.self.nodes lines number queue own_chunk (not-false own_chunk.is_maker c.if-not-own_chunk.false) other
    (c.give_up.ensures.given_up (put_at number queue None at) (in_line queue (after_close number) lines) (c.close.ensures.closed at lines is number queue key)
    (none_but_own number queue at (alone (not-false own_chunk.is_maker c.if-not-own_chunk.false) other)))
