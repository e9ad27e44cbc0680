-- What contracts see of the links between positions.
use Rattle.std.specs.Prelude.{◌≡◌, ℕ, List, length}
use Rattle.next_same.specs.Chains.{AreBelow, AreHeads, AreLinks, are_linked_once}
use Rattle.next_same.specs.declared.Chains.{Chains}

-- These are the links of this list of numbers.
abbrev pub AreChains : List ℕ → Chains → Type 0
AreChains ns c = (length c.links.items ≡ length ns) × (AreBelow (length c.heads.items) ns × (AreHeads ns 0 c.heads.items × AreLinks ns 0 c.links.items))

-- That has one proof at most, so what has them may hold it.
pub are_chains_once : (ns : List ℕ) (c : Chains) → IsProp (AreChains ns c)
are_chains_once ns c = are_linked_once ns c.heads.items c.links.items
