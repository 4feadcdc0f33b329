-- Faults of a line, and how the first one of several is named.
use Rattle.std.specs.Prelude.{◌≡◌, ℕ, nat_le, Option, Some, None, Result, Ok, Err, if◌then◌else◌}
use Rattle.job_reader.specs.declared.fault.JobKind.{JobKind}
use Rattle.job_reader.specs.declared.fault.JobKind.TheVariants as kind
use Rattle.job_reader.specs.declared.fault.ReadLine.{ReadLine}
use Rattle.job_reader.specs.declared.fault.ReadLine.TheVariants as refusal

-- The order of the kinds: where a line has several faults, the one that comes first here is named.
abbrev pub order_of : JobKind → ℕ
order_of kind.BadByte = 0
order_of kind.Limit = 1
order_of kind.BadHeader = 2
order_of kind.BadLine = 3
order_of kind.BadName = 4
order_of kind.BadNumber = 5
order_of kind.Unbalanced = 6
order_of _ = 7

abbrev pub first_kind : JobKind → JobKind → JobKind
first_kind a b = if nat_le (order_of a) (order_of b) then a else b

-- the one that is named of a kind and those before it, where there are any
abbrev pub named : Option JobKind → JobKind → JobKind
named None next = next
named (Some k) next = first_kind k next

-- both of two readings, or the first fault of them
abbrev pub both : {A B : Type 0} → Result A JobKind → Result B JobKind → Result (A × B) JobKind
both (Ok a) (Ok b) = Ok (a, b)
both (Ok a) (Err k) = Err k
both (Err j) (Ok b) = Err j
both (Err j) (Err k) = Err (first_kind j k)

-- a reading that goes on with what was read
infixl 10 ◌>>=◌
abbrev pub ◌>>=◌ : {A B : Type 0} → Result A JobKind → (A → Result B JobKind) → Result B JobKind
(Ok a) >>= f = f a
(Err k) >>= f = Err k

-- what a function answered is this reading, unless memory ran out
abbrev pub IsRefusedAs : {A : Type 0} → ReadLine → Result A JobKind → Type 0
IsRefusedAs (refusal.Refused k) reading = reading ≡ Err k
IsRefusedAs refusal.NoMemory reading = Unit {0}

abbrev pub IsReadAs : {A : Type 0} → Result A ReadLine → Result A JobKind → Type 0
IsReadAs (Ok a) reading = reading ≡ Ok a
IsReadAs (Err refused) reading = IsRefusedAs refused reading
