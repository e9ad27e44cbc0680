use Rattle.cbor_item.proofs.OfPlace.Counting.{paths_alike, places_counted}
use Rattle.cbor_item.proofs.place.path_of_each_place.Goals as goal

pub returns-clause-paths : goal.returns-clause-paths
returns-clause-paths c = paths_alike

pub returns-clause-count : goal.returns-clause-count
returns-clause-count c = places_counted
