use Rattle.std.proofs.Common.{◌≡◌, ◌≢◌, ℕ, ◌<◌, None, Some, List, [], ◌∷◌, length, refl, sym, ap, ◌∙◌, inl, inr, arith}
use Rattle.std.proofs.lemmas.Bool.{cases_eq, false≢true}
use Rattle.queue_book.specs.Ended.{own_keys}
use Rattle.queue_book.specs.KeptFrames.{own_chunk_in}
use Rattle.queue_book.proofs.ChainEnds.{alone_still, chained_all, chained_one_more, left_lines, own_key}
use Rattle.swan_model.proofs.Lookups.{untied}
use Rattle.queue_book.proofs.ending.end_chunks.Goals as goal

pub end_chunk-requires-clause-owned : goal.end_chunk-requires-clause-owned
end_chunk-requires-clause-owned c =
    let number = c.args.number in
    let all = c.args.own_chunks.entries in
    let own_chunks = c.loop-queue.own_chunks.entries in
    let after = c.pop_first.new.self.entries in
    let queue = c.in-Some.queue in
    let own_chunk = c.in-Some.own_chunk in
    let here : own_chunk_in own_chunks queue ≡ Some own_chunk = c.in-Some.ensures.value in
    let gone : own_chunk_in after queue ≡ None = c.in-Some.ensures.updates.1 in
    let others : (q : ℕ) → q ≢ queue → own_chunk_in after q ≡ own_chunk_in own_chunks q = λ q ne. c.in-Some.ensures.updates.2 q (untied queue q ne) in
    let first : own_chunk_in all queue ≡ Some own_chunk = elim (c.loop-queue.invariant.left queue) [
      | inl none ↦ let never : None ≡ Some own_chunk = sym none ∙ here in absurd (cc)
      | inr same ↦ sym same ∙ here
    ] in
    let at = c.requires.owned.0 in
    let lines = c.requires.owned.1 in (
      own_keys number own_chunks at,
      left_lines number own_chunks all lines,
      c.loop-queue.invariant.kept at lines c.requires.owned.2 c.requires.owned.3,
      own_key number queue own_chunk all own_chunks after at lines here first gone others,
      alone_still number queue own_chunk all own_chunks after at lines here first gone others c.requires.owned.3,
    )

pub loop-queue-preserved : goal.loop-queue-preserved
loop-queue-preserved c =
    let number = c.args.number in
    let all = c.args.own_chunks.entries in
    let own_chunks = c.loop-queue.own_chunks.entries in
    let after = c.pop_first.new.self.entries in
    let queue = c.in-Some.queue in
    let own_chunk = c.in-Some.own_chunk in
    let here : own_chunk_in own_chunks queue ≡ Some own_chunk = c.in-Some.ensures.value in
    let gone : own_chunk_in after queue ≡ None = c.in-Some.ensures.updates.1 in
    let others : (q : ℕ) → q ≢ queue → own_chunk_in after q ≡ own_chunk_in own_chunks q = λ q ne. c.in-Some.ensures.updates.2 q (untied queue q ne) in
    let first : own_chunk_in all queue ≡ Some own_chunk = elim (c.loop-queue.invariant.left queue) [
      | inl none ↦ let never : None ≡ Some own_chunk = sym none ∙ here in absurd (cc)
      | inr same ↦ sym same ∙ here
    ] in
    record {
      same = c.end_chunk.ensures.same ∙ c.loop-queue.invariant.same;
      left = λ q. elim (cases_eq q queue) [
        | inl at ↦ inl (ap (λ k. own_chunk_in after k) at ∙ gone)
        | inr ne ↦ elim (c.loop-queue.invariant.left q) [ inl none ↦ inl (others q ne ∙ none) | inr same ↦ inr (others q ne ∙ same) ]
      ];
      kept = λ at lines is alone.
          chained_one_more number queue own_chunk all own_chunks after at lines here first gone others c.end_chunk.new.chains.heads.items c.end_chunk.new.chains.nodes
          (c.end_chunk.ensures.ended (own_keys number own_chunks at) (left_lines number own_chunks all lines) (c.loop-queue.invariant.kept at lines is alone)
          (own_key number queue own_chunk all own_chunks after at lines here first gone others)
          (alone_still number queue own_chunk all own_chunks after at lines here first gone others alone));
    }

empty_of : {X : Type 0} (xs : List X) → (0 < length xs → ⊥) → xs ≡ []
empty_of [] none = refl
empty_of (x ∷ xs) none = absurd (none (omega arith))

pub returns-clause-ended : goal.returns-clause-ended
returns-clause-ended c at lines is alone =
    let own_chunks = c.loop-queue.own_chunks.entries in
    chained_all c.args.number c.args.own_chunks.entries at lines own_chunks c.loop-queue.chains.heads.items c.loop-queue.chains.nodes
    (empty_of own_chunks (λ some. false≢true (c.in_default.ensures.variant.1 some))) (c.loop-queue.invariant.kept at lines is alone)
