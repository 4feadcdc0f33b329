-- What the end of a frame makes of the chains.
use Rattle.std.proofs.Common.{◌≡◌, ◌≢◌, ℕ, true, false, ◌&&◌, not, ◌==◌, Option, None, Some, List, [], refl, sym, ap, subst, ◌∙◌, ◌⊎◌, inl, inr, rules}
use Rattle.std.proofs.lemmas.Bool.{cases_eq, eq-eqb}
use Rattle.std.specs.Option.{option_map}
use Rattle.std.specs.Prelude.{if◌then◌else◌}
use Rattle.slab.specs.Slab.{Slab}
use Rattle.queues.specs.Chunks.{Chunks, after_close}
use Rattle.queue_book.specs.Chains.{Link, AreChained, in_line, put_at}
use Rattle.queue_book.specs.Ended.{line_after_end, lines_after_end, own_keys, IsAlone, IsAloneIn}
use Rattle.queue_book.specs.KeptFrames.{OwnChunks, own_chunk_in}
use Rattle.queue_book.specs.declared.live_frame.OwnChunk.{OwnChunk}
use Rattle.queue_book.proofs.ChainChanges.{chained_same, put_other, put_same}
use Rattle.queue_book.proofs.ChainLoops.{line_is, line_other, line_same}

pub ended_stays : (number : ℕ) (own_chunk : OwnChunk) (chunks : Chunks) → (own_chunk.is_maker && not (number == 0)) ≡ false → line_after_end number (Some own_chunk) chunks ≡ after_close number chunks
ended_stays number own_chunk chunks e = ap (λ b. if b then [] else after_close number chunks) e

pub ended_over : (number : ℕ) (own_chunk : OwnChunk) (chunks : Chunks) → own_chunk.is_maker ≡ true → number ≢ 0 → line_after_end number (Some own_chunk) chunks ≡ []
ended_over number own_chunk chunks made other =
    let test : (number == 0) ≡ false = search rules in
    ap (λ b. if b then [] else after_close number chunks) (ap (λ b. b && not (number == 0)) made ∙ ap (λ b. true && not b) test)

-- the chunk of a frame's own is closed, and that is all
pub chained_closed : (at : ℕ → ℕ → Option ℕ) (heads : List (Option ℕ)) (nodes : Slab Link) (lines : ℕ → Chunks) (number queue : ℕ) (own_chunk : OwnChunk)
    → (own_chunk.is_maker && not (number == 0)) ≡ false → AreChained at heads nodes (in_line queue (after_close number) lines)
    → AreChained at heads nodes (in_line queue (line_after_end number (Some own_chunk)) lines)
chained_closed at heads nodes lines number queue own_chunk stays is =
    chained_same at at heads nodes (in_line queue (after_close number) lines) (in_line queue (line_after_end number (Some own_chunk)) lines) (λ n q. refl)
    (line_is queue (line_after_end number (Some own_chunk)) lines (in_line queue (after_close number) lines)
    (line_same queue (after_close number) lines ∙ sym (ended_stays number own_chunk (lines queue) stays)) (λ q other. line_other queue (after_close number) lines q other)) is

-- all chunks of the queue are given up
pub chained_over : (at : ℕ → ℕ → Option ℕ) (heads : List (Option ℕ)) (nodes : Slab Link) (lines : ℕ → Chunks) (number queue : ℕ) (own_chunk : OwnChunk)
    → own_chunk.is_maker ≡ true → number ≢ 0 → AreChained at heads nodes (in_line queue (λ chunks. []) (in_line queue (after_close number) lines))
    → AreChained at heads nodes (in_line queue (line_after_end number (Some own_chunk)) lines)
chained_over at heads nodes lines number queue own_chunk made other is =
    chained_same at at heads nodes (in_line queue (λ chunks. []) (in_line queue (after_close number) lines)) (in_line queue (line_after_end number (Some own_chunk)) lines) (λ n q. refl)
    (line_is queue (line_after_end number (Some own_chunk)) lines (in_line queue (λ chunks. []) (in_line queue (after_close number) lines))
    (line_same queue (λ chunks. []) (in_line queue (after_close number) lines) ∙ sym (ended_over number own_chunk (lines queue) made other))
    (λ q apart. line_other queue (λ chunks. []) (in_line queue (after_close number) lines) q apart ∙ line_other queue (after_close number) lines q apart)) is

pub none_but_own : (number queue : ℕ) (at : ℕ → ℕ → Option ℕ) → ((other : ℕ) → other ≢ number → at other queue ≡ None) → (other : ℕ) → put_at number queue None at other queue ≡ None
none_but_own number queue at none other = elim (cases_eq other number) [
  | inl same ↦ ap (λ k. put_at number queue None at k queue) same ∙ put_same number queue None at
  | inr apart ↦ put_other number queue None at other queue (λ e here. apart e) ∙ none other apart
]

-- ---- one own chunk after the other

-- the chunks of a queue where these own chunks are left of a frame that ends: the others of its own have ended
abbrev pub left_line : ℕ → Option OwnChunk → Option OwnChunk → Chunks → Chunks
left_line number left all chunks = by left where
  by : Option OwnChunk → Chunks
  by None = line_after_end number all chunks
  by (Some own_chunk) = chunks

abbrev pub left_lines : ℕ → (left all : OwnChunks) → (ℕ → Chunks) → ℕ → Chunks
left_lines number left all lines queue = left_line number (own_chunk_in left queue) (own_chunk_in all queue) (lines queue)

pub own_keys_here : (number : ℕ) (own_chunks : OwnChunks) (at : ℕ → ℕ → Option ℕ) (q : ℕ) → own_keys number own_chunks at number q ≡ option_map (λ (own_chunk : OwnChunk). own_chunk.key) (own_chunk_in own_chunks q)
own_keys_here number own_chunks at q = ap (λ b. if b then option_map (λ (own_chunk : OwnChunk). own_chunk.key) (own_chunk_in own_chunks q) else at number q) (eq-eqb number number refl)

pub own_keys_elsewhere : (number : ℕ) (own_chunks : OwnChunks) (at : ℕ → ℕ → Option ℕ) (other q : ℕ) → other ≢ number → own_keys number own_chunks at other q ≡ at other q
own_keys_elsewhere number own_chunks at other q apart =
    let test : (other == number) ≡ false = search rules in
    ap (λ b. if b then option_map (λ (own_chunk : OwnChunk). own_chunk.key) (own_chunk_in own_chunks q) else at other q) test

module _ (number queue : ℕ) (own_chunk : OwnChunk) (all own_chunks after : OwnChunks) (at : ℕ → ℕ → Option ℕ) (lines : ℕ → Chunks)
    (here : own_chunk_in own_chunks queue ≡ Some own_chunk) (first : own_chunk_in all queue ≡ Some own_chunk) (gone : own_chunk_in after queue ≡ None)
    (others : (q : ℕ) → q ≢ queue → own_chunk_in after q ≡ own_chunk_in own_chunks q) where
  pub own_key : own_keys number own_chunks at number queue ≡ Some own_chunk.key
  own_key = own_keys_here number own_chunks at queue ∙ ap (option_map (λ (p : OwnChunk). p.key)) here

  pub alone_still : IsAlone number all at → IsAloneIn queue number own_chunk (own_keys number own_chunks at)
  alone_still alone made top other apart = own_keys_elsewhere number own_chunks at other queue apart ∙ alone queue own_chunk first made top other apart

  keys : (m q : ℕ) → own_keys number after at m q ≡ put_at number queue None (own_keys number own_chunks at) m q
  keys m q = by (cases_eq m number) (cases_eq q queue) where
    by : (m ≡ number) ⊎ (m ≢ number) → (q ≡ queue) ⊎ (q ≢ queue) → own_keys number after at m q ≡ put_at number queue None (own_keys number own_chunks at) m q
    by (inl own) (inl same) =
        ap (λ k. own_keys number after at k q) own ∙ ap (λ k. own_keys number after at number k) same ∙ own_keys_here number after at queue ∙ ap (option_map (λ (p : OwnChunk). p.key)) gone
        ∙ sym (put_same number queue None (own_keys number own_chunks at)) ∙ sym (ap (λ k. put_at number queue None (own_keys number own_chunks at) k queue) own)
        ∙ sym (ap (λ k. put_at number queue None (own_keys number own_chunks at) m k) same)
    by (inl own) (inr apart) =
        ap (λ k. own_keys number after at k q) own ∙ own_keys_here number after at q ∙ ap (option_map (λ (p : OwnChunk). p.key)) (others q apart)
        ∙ sym (own_keys_here number own_chunks at q) ∙ sym (ap (λ k. own_keys number own_chunks at k q) own) ∙ sym (put_other number queue None (own_keys number own_chunks at) m q (λ e same. apart same))
    by (inr other) c =
        own_keys_elsewhere number after at m q other ∙ sym (own_keys_elsewhere number own_chunks at m q other) ∙ sym (put_other number queue None (own_keys number own_chunks at) m q (λ e same. other e))

  -- what is left after one more
  lines_now : (q : ℕ) → left_lines number after all lines q ≡ in_line queue (line_after_end number (Some own_chunk)) (left_lines number own_chunks all lines) q
  lines_now q = sym (line_is queue (line_after_end number (Some own_chunk)) (left_lines number own_chunks all lines) (left_lines number after all lines)
      (ap (λ o. left_line number o (own_chunk_in all queue) (lines queue)) gone ∙ ap (λ o. line_after_end number o (lines queue)) first
      ∙ sym (ap (λ o. line_after_end number (Some own_chunk) (left_line number o (own_chunk_in all queue) (lines queue))) here))
      (λ p apart. ap (λ o. left_line number o (own_chunk_in all p) (lines p)) (others p apart)) q)

  pub chained_one_more : (heads : List (Option ℕ)) (nodes : Slab Link)
      → AreChained (put_at number queue None (own_keys number own_chunks at)) heads nodes (in_line queue (line_after_end number (Some own_chunk)) (left_lines number own_chunks all lines))
      → AreChained (own_keys number after at) heads nodes (left_lines number after all lines)
  chained_one_more heads nodes is =
      chained_same (put_at number queue None (own_keys number own_chunks at)) (own_keys number after at) heads nodes
      (in_line queue (line_after_end number (Some own_chunk)) (left_lines number own_chunks all lines)) (left_lines number after all lines) keys lines_now is

-- with no own chunk left all have ended
pub chained_all : (number : ℕ) (all : OwnChunks) (at : ℕ → ℕ → Option ℕ) (lines : ℕ → Chunks) (own_chunks : OwnChunks) (heads : List (Option ℕ)) (nodes : Slab Link) → own_chunks ≡ []
    → AreChained (own_keys number own_chunks at) heads nodes (left_lines number own_chunks all lines) → AreChained (own_keys number [] at) heads nodes (lines_after_end number all lines)
chained_all number all at lines own_chunks heads nodes none is =
    let P : OwnChunks → Type 0 = λ ps. AreChained (own_keys number ps at) heads nodes (left_lines number ps all lines) in
    subst P none is
