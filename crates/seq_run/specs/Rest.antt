-- What a session keeps beside its specification.
use Rattle.std.specs.Prelude.{map}
use Rattle.seq_run.specs.FoundItem.{found_of}
use Rattle.seq_run.specs.Judge.{Judge}
use Rattle.seq_run.specs.Parts.{AreParts, parts_of}
use Rattle.seq_run.specs.Progress.{Progress}
use Rattle.seq_run.specs.declared.session.Rest.{Rest}

-- what callers see of the session by this judge that keeps it
abbrev pub progress_of : Judge → Rest → Progress
progress_of judge r = record { judge = judge; limits = r.reader.limits; fed = r.fed; taken = map found_of r.taken; stopped = r.stopped }

-- what holds of it, in a session by this judge
abbrev pub AreRest : Judge → Rest → Type 0
AreRest judge r = AreParts r.stopped judge r.reader.limits r.fed (map found_of r.taken) (parts_of r.reader r.count.items r.count.offset r.count.bytes r.rejected)
