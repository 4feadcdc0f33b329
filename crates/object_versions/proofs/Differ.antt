-- Versions and modes: which aren't the same, and who owes a version.
use Rattle.std.proofs.Common.{◌≡◌, ℕ, true, Some, sym, ap, ◌∙◌}
use Rattle.std.proofs.lemmas.Bool.{false≢true}
use Rattle.swan_model.specs.declared.rights.Mode.{Mode}
use Rattle.swan_model.specs.declared.rights.Mode.TheVariants.{In, Out, InOut, Push, Pop, PushPop}
use Rattle.swan_model.specs.declared.value.Value.{Value}
use Rattle.swan_model.specs.Rights.{allows}
use Rattle.swan_model.specs.Versions.{Version, settled, owed, owing}

pub settled_not-owed : (value : Value) (frame : ℕ) → settled value ≡ owed frame → ⊥
settled_not-owed value frame e = cc

pub owed_same : (a b : ℕ) → owed a ≡ owed b → a ≡ b
owed_same a b e = cc

-- the frame that is told to owe a version owes it
pub owing_owed : (version : Version) (frame : ℕ) → owing version ≡ Some frame → version ≡ owed frame
owing_owed (settled value) frame is = absurd (cc)
owing_owed (owed other) frame is = let e : other ≡ frame = cc in ap owed e

-- who may write has another mode than In
pub writes_not-in : (mode : Mode) → allows mode Out ≡ true → mode ≡ In → ⊥
writes_not-in mode may is = false≢true (ap (λ m. allows m Out) (sym is) ∙ may)

-- who may only read gives nothing to be written
pub reads_not-out : (mode : Mode) → allows In mode ≡ true → allows mode Out ≡ true → ⊥
reads_not-out In reads out = cc
reads_not-out Out reads out = cc
reads_not-out InOut reads out = cc
reads_not-out Push reads out = cc
reads_not-out Pop reads out = cc
reads_not-out PushPop reads out = cc
