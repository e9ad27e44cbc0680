-- Chains of links: a link leads to another by its number, or ends the chain with an answer.
use Rattle.std.specs.Prelude.{◌≡◌, ℕ, zero, suc, ◌<◌, List, length, Option, Some, None, slice_get, slice_index_or}
use Rattle.graphs.specs.declared.chains.Link.{Link}
use Rattle.graphs.specs.declared.chains.Link.TheVariants as LinkV

-- The answer with which the chain that begins at the link i ends, if it ends within so many links. A number of no link leads
-- nowhere. (`next`: that of the link to which one leads.)
abbrev pub end_by : (ℕ → Option ℕ) → Link → Option ℕ
end_by next (LinkV.End a) = Some a
end_by next (LinkV.Next j) = next j

abbrev pub end_within : List Link → ℕ → ℕ → Option ℕ
end_within links zero i = None
end_within links (suc k) i = end_by (λ j. end_within links k j) (slice_index_or links i (LinkV.Next i))

-- for each link its answer
pub record AreEnds (links : List Link) (most : ℕ) (ends : List (Option ℕ)) : Type 0 where
  pub all : length ends ≡ length links
  pub each : (i : ℕ) → i < length links → slice_get ends i ≡ Some (end_within links most i)
