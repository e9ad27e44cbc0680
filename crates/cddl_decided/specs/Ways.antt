-- Free references of which each way ends.
use Rattle.std.specs.Prelude.{List}
use Rattle.cddl_language.specs.Terms.{Definition}
use Rattle.cddl_language.specs.Reach.{Point}
use Rattle.cddl_language.specs.Free.{IsFreeInMeaning}

-- Each way of points ends that begins at this one, each free in what the one before means.
pub data WaysEnd (ds : List Definition) : Point → Type 0 where
  ends : {p : Point} → ((q : Point) → IsFreeInMeaning ds q p → WaysEnd ds q) → WaysEnd ds p
