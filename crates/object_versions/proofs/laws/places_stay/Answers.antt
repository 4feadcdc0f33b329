use Rattle.object_versions.proofs.PlacesAfter.{at_placed, made_object}
use Rattle.object_versions.proofs.PlacesStay.{access_gives, access_keeps, access_leaves, create_keeps, finish_forgets, finish_keeps, write_keeps, write_leaves}
use Rattle.object_versions.proofs.laws.places_stay.Goals as goal

pub returns : goal.returns
returns c = record {
  create = create_keeps;
  created = λ state frame place first. at_placed state frame place (made_object state first);
  access = access_keeps;
  left = access_leaves;
  got = access_gives;
  write = write_keeps;
  written = write_leaves;
  finish = finish_keeps;
  forgotten = finish_forgets;
}
