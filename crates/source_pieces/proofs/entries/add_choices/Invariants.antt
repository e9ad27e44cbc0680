use Rattle.std.proofs.Common.{length}
use Rattle.source_pieces.specs.Walk.{listed_choices, view_around}
use Rattle.source_pieces.proofs.Listing.{Follows}
use Rattle.source_pieces.proofs.entries.add_choices.Given as goal

abbrev pub invariant-each : goal.invariant-each
invariant-each l = Follows l.fn.found.items l.found.items l.rule (λ read. listed_choices read (view_around read l.around) l.left) (λ read. listed_choices read (view_around read l.around) l.fn.choices)

abbrev pub decreases-each : goal.decreases-each
decreases-each l = length l.left
