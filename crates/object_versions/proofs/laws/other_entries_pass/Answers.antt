use Rattle.object_versions.proofs.GivingBegins.{spawn_passes}
use Rattle.object_versions.proofs.GivingMeanwhile.{pass_giving, spawn_meanwhile}
use Rattle.object_versions.proofs.PassFollows.{others_pass}
use Rattle.object_versions.proofs.laws.other_entries_pass.Goals as goal

pub returns-clause-passes : goal.returns-clause-passes
returns-clause-passes c = others_pass

pub returns-clause-spawns : goal.returns-clause-spawns
returns-clause-spawns c = spawn_passes

pub returns-clause-meanwhile : goal.returns-clause-meanwhile
returns-clause-meanwhile c = pass_giving

pub returns-clause-spawns_meanwhile : goal.returns-clause-spawns_meanwhile
returns-clause-spawns_meanwhile c = spawn_meanwhile
