-- The items that a session notes.
use Rattle.cbor_data.specs.Sequence.{Found}
use Rattle.cbor_data.specs.Value.{uint}
use Rattle.read_building.specs.Spelled.{spelled_by}
use Rattle.seq_run.specs.declared.session.FoundItem.{FoundItem}
use Rattle.seq_run.specs.declared.session.FoundItem.TheVariants.{Small, Spelled, Other}

abbrev pub found_of : FoundItem → Found
found_of (Small offset n) = record { offset = offset; item = uint n }
found_of (Spelled offset bytes) = record { offset = offset; item = spelled_by bytes }
found_of (Other offset item) = record { offset = offset; item = item }
