use Rattle.std.proofs.Common.{◌≡◌, ◌++◌, ◌∷◌, take}
use Rattle.std.specs.Prelude.{flat_map}
use Rattle.job_reader.specs.CanonicalText.{atom_text}
use Rattle.job_reader.specs.Characters.{space}
use Rattle.job_reader.proofs.write_atom.push_atoms.Given as goal

abbrev pub invariant-loop-atom : goal.invariant-loop-atom
invariant-loop-atom l = l.out.items ≡ l.fn.out.items ++ flat_map (λ atom. space ∷ atom_text atom) (take l.atom-index l.atoms)
