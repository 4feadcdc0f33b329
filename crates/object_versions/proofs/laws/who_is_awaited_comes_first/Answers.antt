use Rattle.object_versions.proofs.OwnersEarlier.{owner_earlier, owner_other}
use Rattle.object_versions.proofs.laws.who_is_awaited_comes_first.Goals as goal

pub returns : goal.returns
returns c = record {
  owner = λ s r state n place owing frame object lawful follows known left stands owes owner there more.
      owner_earlier s lawful r state follows n frame known left owing owner there more (place, object, stands, owes);
  no_root = λ s r state n place owing frame object lawful follows known left stands owes.
      owner_other s lawful r state follows n frame known left owing (place, object, stands, owes);
}
