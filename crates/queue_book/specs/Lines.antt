-- What the calls on the chains say: of the chunks of each queue, and of where each frame's own chunks stand.
use Rattle.std.specs.Prelude.{◌≡◌, ℕ, Option, Some, None}
use Rattle.queues.specs.Chunks.{Chunks}
use Rattle.queue_book.specs.Chains.{AreChained}
use Rattle.queue_book.specs.declared.chains.Chains.{Chains}

-- each frame's own chunks stand there, and these are the chunks of the queues
abbrev pub HaveLines : Chains → (at : ℕ → ℕ → Option ℕ) → (lines : ℕ → Chunks) → Type 0
HaveLines chains at lines = AreChained at chains.heads.items chains.nodes lines

-- they are the chunks of some queues, and each frame's own ones stand there
abbrev pub HaveSomeLines : Chains → Type 0
HaveSomeLines chains = (at : ℕ → ℕ → Option ℕ) × (lines : ℕ → Chunks) × HaveLines chains at lines

-- and in this queue no frame has a chunk
abbrev pub HaveSomeUnowned : Chains → (queue : ℕ) → Type 0
HaveSomeUnowned chains queue = (at : ℕ → ℕ → Option ℕ) × (lines : ℕ → Chunks) × HaveLines chains at lines × ((number : ℕ) → at number queue ≡ None)

-- what holds of them, whatever they have
abbrev pub OnLines : Chains → ((at : ℕ → ℕ → Option ℕ) → (lines : ℕ → Chunks) → Type 0) → Type 0
OnLines chains Holds = (at : ℕ → ℕ → Option ℕ) (lines : ℕ → Chunks) → HaveLines chains at lines → Holds at lines

-- and of a queue in which no frame has a chunk
abbrev pub OnUnowned : Chains → (queue : ℕ) → ((at : ℕ → ℕ → Option ℕ) → (lines : ℕ → Chunks) → Type 0) → Type 0
OnUnowned chains queue Holds = OnLines chains (λ at lines. ((number : ℕ) → at number queue ≡ None) → Holds at lines)

-- and of a frame whose own chunk of a queue this key has
abbrev pub OnOwn : Chains → (key : ℕ) → ((at : ℕ → ℕ → Option ℕ) → (lines : ℕ → Chunks) → (owner queue : ℕ) → Type 0) → Type 0
OnOwn chains key Holds = OnLines chains (λ at lines. (owner queue : ℕ) → at owner queue ≡ Some key → Holds at lines owner queue)
