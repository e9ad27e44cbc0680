-- Where chains are on the way.
use Rattle.std.specs.Prelude.{◌≡◌, ℕ, zero, suc, ◌<◌, List, [], ◌∷◌, length, Option, Some, None, slice_get, slice_index_or}
use Rattle.graphs.specs.declared.chains.Link.{Link}
use Rattle.graphs.specs.declared.chains.Link.TheVariants as LinkV

-- where a link leads, if not to its chain's end
abbrev pub joined : List Link → Link → Link
joined links (LinkV.End a) = LinkV.End a
joined links (LinkV.Next j) = slice_index_or links j (LinkV.Next j)

-- where a chain is after so many links from the link
abbrev pub after : List Link → ℕ → Link → Link
after links zero l = l
after links (suc k) l = after links k (joined links l)

abbrev pub answer : Link → Option ℕ
answer (LinkV.End a) = Some a
answer (LinkV.Next j) = None

abbrev pub numbers_from : ℕ → ℕ → List Link
numbers_from i zero = []
numbers_from i (suc n) = LinkV.Next i ∷ numbers_from (suc i) n

abbrev pub own_numbers : ℕ → List Link
own_numbers n = numbers_from 0 n

-- for each link, where its chain is after so many
pub record IsAfter (links : List Link) (k : ℕ) (v : List Link) : Type 0 where
  pub all : length v ≡ length links
  pub each : (i : ℕ) → i < length links → slice_get v i ≡ Some (after links k (LinkV.Next i))
