-- The flags of what follows are those of the groups that may take no item.
use Rattle.std.proofs.Common.{◌≡◌, ℕ, zero, suc, ◌<◌, Bool, true, false, List, [], ◌∷◌, take, length, Some, slice_get, slice_index_or, sym, subst, arith}
use Rattle.graphs.specs.Implications.Implications.{AreFollowing, Follows}
use Rattle.cddl_meaning.specs.Ranks.Flags.{AreFlags}
use Rattle.table_nodes.specs.Nodes.{language_in}
use Rattle.table_nodes.specs.Ranks.{flag_in}
use Rattle.table_nodes.specs.declared.nodes.Node.{Node}
use Rattle.table_nodes.specs.declared.nodes.Group.{Group}
use Rattle.table_nodes.specs.Flags.Rules.{all_rules, link_at}
use Rattle.table_nodes.proofs.OfFlags.Complete.{complete}
use Rattle.table_nodes.proofs.OfFlags.Places.{is_there}
use Rattle.table_nodes.proofs.OfFlags.Sound.{sound}

from_first : (n : ℕ) (flags : List Bool) (k : ℕ) → slice_index_or (take n flags) k false ≡ true → (k < n) × (slice_get flags k ≡ Some true)
from_first zero flags k e = cc
from_first (suc n) [] k e = cc
from_first (suc n) (b ∷ flags) zero e = (omega arith, cc)
from_first (suc n) (b ∷ flags) (suc k) e = let h = from_first n flags k e in (omega (arith, h.0), h.1)

to_first : (n : ℕ) (flags : List Bool) (k : ℕ) → k < n → slice_get flags k ≡ Some true → slice_index_or (take n flags) k false ≡ true
to_first zero flags k l e = absurd (omega (arith, l))
to_first (suc n) [] k l e = cc
to_first (suc n) (b ∷ flags) zero l e = cc
to_first (suc n) (b ∷ flags) (suc k) l e = to_first n flags k (omega (arith, l)) e

pub are_flags : (types : List Node) (groups : List Group) (facts : ℕ) (flags : List Bool) → facts ≡ link_at (length groups) (length (all_rules (length groups) 0 0 groups)) → AreFollowing facts (all_rules (length groups) 0 0 groups) flags → AreFlags (language_in types groups) (flag_in (take (length groups) flags))
are_flags types groups facts flags all h g = (
  λ e. let f = from_first (length groups) flags g.number e in sound types groups facts g.number f.0 ((h.each g.number).0 f.1),
  λ e. to_first (length groups) flags g.number (is_there types groups g.number e) ((h.each g.number).1 (subst (λ n. Follows n (all_rules (length groups) 0 0 groups) g.number) (sym all) (complete types groups g.number e))),
)
