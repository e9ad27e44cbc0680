-- What pairs came to by the first entries of an alternative, as it is for one that begins with the same.
use Rattle.std.specs.Prelude.{ℕ, ◌++◌, take, drop, List}
use Rattle.cddl_meaning.specs.Forms as F
use Rattle.cddl_meaning.specs.Moves as M

-- the tally of pairs that belong to some of the first entries, for others after these
abbrev pub widened : {N : Type 0} → List ℕ → List (F.MapEntry N) → M.Tally → M.Tally
widened counts others t = record { counts = counts ++ M.no_counts others; stray = t.stray; failing = t.failing }

abbrev pub counted_again : {N : Type 0} → ℕ → List (F.MapEntry N) → M.Tally → M.Tally
counted_again told es t = widened (take told t.counts) (drop told es) t
