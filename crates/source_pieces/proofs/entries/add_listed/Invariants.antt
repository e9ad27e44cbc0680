use Rattle.std.proofs.Common.{length}
use Rattle.source_pieces.specs.Walk.{listed_entries, view_around}
use Rattle.source_pieces.proofs.Listing.{Follows}
use Rattle.source_pieces.proofs.entries.add_listed.Given as goal

abbrev pub invariant-each : goal.invariant-each
invariant-each l = Follows l.fn.found.items l.found.items l.rule (λ read. listed_entries read (view_around read l.around) l.alternative l.left) (λ read. listed_entries read (view_around read l.around) l.alternative l.fn.entries)

abbrev pub decreases-each : goal.decreases-each
decreases-each l = length l.left
