use Rattle.std.proofs.Common.{length}
use Rattle.cddl_mismatch.proofs.places.+words_behind.Given as goal

abbrev pub decreases-words_behind : goal.decreases-words_behind
decreases-words_behind l = length l.strings.now
