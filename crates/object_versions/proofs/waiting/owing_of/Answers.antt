use Rattle.object_versions.proofs.waiting.owing_of.Goals as goal

pub value_at-requires : goal.value_at-requires
value_at-requires c = c.requires c.in-Some.given c.in-Some.is
