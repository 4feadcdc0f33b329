use Rattle.std.proofs.Common.{◌≡◌, ℕ, ◌+◌, ◌<◌, ◌≢◌, false, Option, Some, List, [], ◌∷◌, ◌++◌, take, length, refl, sym, ap, subst, ◌∙◌, arith}
use Rattle.std.proofs.lemmas.List.{take_more, take_all}
use Rattle.std.proofs.lemmas.Option.{slice_get-get_or}
use Rattle.std.specs.Prelude.{slice_get}
use Rattle.swan_model.specs.declared.rights.Mode.TheVariants.{Push}
use Rattle.swan_model.specs.QueueState.{QueueRight}
use Rattle.swan_model.specs.Rights.{allows}
use Rattle.queue_book.specs.Handed.{AreGiven, IsHandedIn}
use Rattle.queue_book.specs.KeptFrames.{KeptFrame, OwnChunks}
use Rattle.queue_book.specs.Live.{kept_of, key_in}
use Rattle.pop_order.specs.OneChange.{IsOnlyChange}
use Rattle.queue_book.proofs.GivingSteps.{given_more, given_none, has_now, may_get_now, newest_now, stands_now}
use Rattle.queues.proofs.GivingTurns.{queue_mode_at}
use Rattle.swan_model.proofs.Elements.{some_is}
use Rattle.queue_book.proofs.store.QueueStore.spawn.Goals as goal

pub loop-one-init : goal.loop-one-init
loop-one-init c =
    let fresh : record { deeds = c.frame.inside.deeds; is_lent = c.frame.inside.is_lent; own_chunks = c.frame.inside.own_chunks.entries } ≡ record { deeds = 0; is_lent = false; own_chunks = [] } = c.frame.view_is ∙ c.new-frame.ensures in
    let Given : OwnChunks → Type 0 = λ ps. AreGiven c.args.self.now.frames c.args.self.now.frames c.args.parent c.args.child [] ps c.args.self.now.chains.heads.items c.args.self.now.chains.nodes c.args.self.now.chains.nodes
    c.args.self.now.turns c.args.self.now.turns in
    record {
      deeds = ap (λ (k : KeptFrame). k.deeds) fresh;
      lent = ap (λ (k : KeptFrame). k.is_lent) fresh;
      heads = refl;
      given = subst Given (sym (ap (λ (k : KeptFrame). k.own_chunks) fresh))
          (given_none c.args.self.now.frames c.args.parent c.args.child c.args.gives.now c.args.self.now.chains.heads.items c.args.self.now.chains.nodes c.args.self.now.turns c.requires.may);
    }

pub give-requires-clause-has : goal.give-requires-clause-has
give-requires-clause-has c =
    let all = c.args.gives.now in
    let i = c.loop-one.one-index in
    let give : QueueRight = c.one-item.result in
    let within : i < length all = omega arith in
    let at : slice_get all i ≡ Some give = slice_get-get_or all i give within ∙ ap Some (sym c.one-item.is) in
    has_now c.args.self.now.frames c.loop-one.self.frames c.args.parent c.args.child all i give c.loop-one.frame-inside.own_chunks.entries c.args.self.now.chains.heads.items c.args.self.now.chains.nodes
    c.loop-one.self.chains.nodes c.args.self.now.turns c.loop-one.self.turns c.requires.may at c.loop-one.invariant.given

pub give-requires-clause-stands : goal.give-requires-clause-stands
give-requires-clause-stands c =
    let all = c.args.gives.now in
    let i = c.loop-one.one-index in
    let give : QueueRight = c.one-item.result in
    let within : i < length all = omega arith in
    let at : slice_get all i ≡ Some give = slice_get-get_or all i give within ∙ ap Some (sym c.one-item.is) in
    stands_now c.args.self.now.frames c.loop-one.self.frames c.args.parent c.args.child all i give c.loop-one.frame-inside.own_chunks.entries c.args.self.now.chains.heads.items c.args.self.now.chains.nodes
    c.loop-one.self.chains.nodes c.args.self.now.turns c.loop-one.self.turns c.requires.may at c.loop-one.invariant.given c.requires.stand.0 c.requires.stand.1 (λ q. ap (λ kept. key_in kept q) c.requires.free)

pub give-requires-clause-newest : goal.give-requires-clause-newest
give-requires-clause-newest c =
    let all = c.args.gives.now in
    let i = c.loop-one.one-index in
    let give : QueueRight = c.one-item.result in
    let within : i < length all = omega arith in
    let at : slice_get all i ≡ Some give = slice_get-get_or all i give within ∙ ap Some (sym c.one-item.is) in
    newest_now c.args.self.now.frames c.loop-one.self.frames c.args.parent c.args.child all i give c.loop-one.frame-inside.own_chunks.entries c.args.self.now.chains.heads.items c.args.self.now.chains.nodes
    c.loop-one.self.chains.nodes c.args.self.now.turns c.loop-one.self.turns c.requires.may at c.loop-one.invariant.given

pub give-requires-clause-fits : goal.give-requires-clause-fits
give-requires-clause-fits c =
    let all = c.args.gives.now in
    let i = c.loop-one.one-index in
    let give : QueueRight = c.one-item.result in
    let within : i < length all = omega arith in
    let at : slice_get all i ≡ Some give = slice_get-get_or all i give within ∙ ap Some (sym c.one-item.is) in
    may_get_now c.args.self.now.frames c.loop-one.self.frames c.args.parent c.args.child all i give c.loop-one.frame-inside.own_chunks.entries c.args.self.now.chains.heads.items c.args.self.now.chains.nodes
    c.loop-one.self.chains.nodes c.args.self.now.turns c.loop-one.self.turns c.requires.may at c.loop-one.invariant.given

pub give-requires-clause-of_queues : goal.give-requires-clause-of_queues
give-requires-clause-of_queues c =
    let all = c.args.gives.now in
    let i = c.loop-one.one-index in
    let give : QueueRight = c.one-item.result in
    let within : i < length all = omega arith in
    let at : slice_get all i ≡ Some give = slice_get-get_or all i give within ∙ ap Some (sym c.one-item.is) in
    queue_mode_at c.requires.may.frame all c.requires.may.lawful i give at

pub loop-one-preserved : goal.loop-one-preserved
loop-one-preserved c =
    let all = c.args.gives.now in
    let i = c.loop-one.one-index in
    let give : QueueRight = c.one-item.result in
    let within : i < length all = omega arith in
    let at : slice_get all i ≡ Some give = slice_get-get_or all i give within ∙ ap Some (sym c.one-item.is) in
    let more : take (i + 1) all ≡ take i all ++ give ∷ [] = take_more all i give within ∙ ap (λ h. take i all ++ h ∷ []) (sym c.one-item.is) in
    let heads_now = c.loop-one.invariant.heads in
    let Handed : List (Option ℕ) → Type 0 = λ hs. IsHandedIn c.loop-one.self.frames c.give.new.self.frames c.args.parent c.args.child give.queue (allows give.mode Push) c.loop-one.frame-inside.own_chunks.entries
    c.give.new.own_chunks.entries hs c.loop-one.self.chains.nodes c.give.new.self.chains.nodes in
    let handed = subst Handed heads_now c.in_ok-give.ensures.given in
    let Given : List QueueRight → Type 0 = λ gs. AreGiven c.args.self.now.frames c.give.new.self.frames c.args.parent c.args.child gs c.give.new.own_chunks.entries c.args.self.now.chains.heads.items
    c.args.self.now.chains.nodes c.give.new.self.chains.nodes c.args.self.now.turns c.give.new.self.turns in
    record {
      deeds = c.loop-one.invariant.deeds;
      lent = c.loop-one.invariant.lent;
      heads = c.in_ok-give.ensures.heads ∙ heads_now;
      given = subst Given (sym more) (given_more c.args.self.now.frames c.loop-one.self.frames c.args.parent c.args.child all i give c.loop-one.frame-inside.own_chunks.entries c.args.self.now.chains.heads.items c.args.self.now.chains.nodes
          c.loop-one.self.chains.nodes c.args.self.now.turns c.loop-one.self.turns c.requires.may at c.loop-one.invariant.given
          c.give.new.self.frames c.give.new.own_chunks.entries c.give.new.self.chains.nodes c.give.new.self.turns handed c.in_ok-give.ensures.turns);
    }

pub count_deed-requires : goal.count_deed-requires
count_deed-requires c =
    let may = c.requires.may in
    let was = c.loop-one.invariant.given.moved may.kept may.live in
    record {
      active = some_is (kept_of c.loop-one.self.frames c.args.parent) was.0 was.1;
      room = λ kept at.
          let both : Some was.0 ≡ Some kept = sym was.1 ∙ at in
          let same : was.0 ≡ kept = cc in
          let deeds : kept.deeds ≡ may.kept.deeds = ap (λ (k : KeptFrame). k.deeds) (sym same) ∙ was.2.deeds in
          let room = may.room in
          omega (arith, room, deeds);
    }

pub add-requires-clause-free : goal.add-requires-clause-free
add-requires-clause-free c =
    let other : c.args.child ≢ c.args.parent = λ same. let rising = c.requires.may.rising in omega (arith, rising, same) in
    c.count_deed.ensures.others c.args.child other ∙ c.loop-one.invariant.given.others c.args.child other ∙ c.requires.free

pub returns-clause-spawned : goal.returns-clause-spawned
returns-clause-spawned c =
    let all = c.args.gives.now in
    let own_chunks = c.loop-one.frame-inside.own_chunks.entries in
    let whole : take c.loop-one.one-index all ≡ all = take_all c.loop-one.one-index all (omega arith) in
    let Given : List QueueRight → Type 0 = λ gs. AreGiven c.args.self.now.frames c.loop-one.self.frames c.args.parent c.args.child gs own_chunks c.args.self.now.chains.heads.items
    c.args.self.now.chains.nodes c.loop-one.self.chains.nodes c.args.self.now.turns c.loop-one.self.turns in
    let One : KeptFrame → Type 0 = λ k. IsOnlyChange (kept_of c.count_deed.new.self) (kept_of c.add.new.self) c.args.child (Some k) in
    let kept : record { deeds = c.loop-one.frame-inside.deeds; is_lent = c.loop-one.frame-inside.is_lent; own_chunks = own_chunks } ≡ record { deeds = 0; is_lent = false; own_chunks = own_chunks } =
    ap (λ d. record { deeds = d; is_lent = c.loop-one.frame-inside.is_lent; own_chunks = own_chunks }) c.loop-one.invariant.deeds
    ∙ ap (λ b. record { deeds = 0; is_lent = b; own_chunks = own_chunks }) c.loop-one.invariant.lent in
    record {
      middle = c.loop-one.self.frames;
      own_chunks = own_chunks;
      given = subst Given whole c.loop-one.invariant.given;
      counted = c.count_deed.new.self;
      parent_now = c.count_deed.ensures;
      child_now = subst One kept c.in_ok-add.ensures;
    }
