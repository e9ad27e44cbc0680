-- Which members of a choice of types are asked.
use Rattle.std.specs.Prelude.{◌≡◌, ℕ, ◌-◌, ◌<◌, ◌≤◌, List, drop, length, Bool, true, false, Option, Some, None, IfSome}
use Rattle.std.specs.Borrow.{Bor}
use Rattle.cbor_data.specs.Value.{Value}
use Rattle.cddl_meaning.specs.Forms.{Language}
use Rattle.cddl_meaning.specs.Judges.{Reply, Fails}
use Rattle.cddl_meaning.specs.Moves.{Answered, Asks, InChoice, LeadsTo, OfType, next_member}
use Rattle.cddl_match.specs.Ahead.{ComesTo}
use Rattle.cddl_match.specs.declared.calls.Said.{Said}
use Rattle.cddl_match.specs.declared.calls.Said.TheVariants as S
use Rattle.cddl_match.specs.declared.choosing.Members.{Members}
use Rattle.table_nodes.specs.Indexes.{AreNext, IsIndexOf, first_of}
use Rattle.table_nodes.specs.declared.indexes.Candidates.{Candidates}
use Rattle.table_nodes.specs.declared.indexes.LiteralIndex.{LiteralIndex}
use Rattle.table_nodes.specs.declared.nodes.GroupId.{GroupId}
use Rattle.table_nodes.specs.declared.nodes.TypeId.{TypeId}

-- the members that are left
abbrev pub left_of : Members → List TypeId
left_of m = drop m.from m.members.now

-- the position of the next one that may say yes
abbrev pub first_at : Option (Bor LiteralIndex × Candidates) → ℕ → ℕ
first_at None from = from
first_at (Some i) from = first_of i.1

abbrev pub first_in : Members → ℕ
first_in m = first_at m.index m.from

-- what is said where no member is left
abbrev pub is_no : Bool → ℕ → Said
is_no true far = S.Spent
is_no false far = S.No far

module _ (l : Language TypeId GroupId) (x : Value) where
  -- No more is passed over than an index of the members says.
  abbrev pub IsAsking : Members → Type 0
  IsAsking m = (m.spent ≡ false) × ((m.from ≤ length m.members.now) × IfSome m.index (λ i. IsIndexOf l.type_at m.members.now i.0.now × AreNext l.type_at m.members.now x m.from i.1))

  -- A member is asked next, after those that were passed over with so many steps.
  abbrev pub GoesOn : (p far steps left : ℕ) → Members → Members → TypeId → Type 0
  GoesOn p far steps left m k n = IsAsking k × ((length (left_of k) < length (left_of m)) × ((left ≤ steps) × ComesTo l (next_member (left_of m) p x far) (Asks (OfType n p x) (InChoice (left_of k) p x far)) (steps - left)))

  -- No member is asked any more: all of them said no, or the steps are spent.
  abbrev pub Ended : (p far steps left : ℕ) → Members → Members → Type 0
  Ended p far steps left m k = (k.spent ≡ true → (r : Reply) (w : ℕ) → LeadsTo l (next_member (left_of m) p x far) r w → steps < w) × (k.spent ≡ false → (left ≤ steps) × ComesTo l (next_member (left_of m) p x far) (Answered (Fails far)) (steps - left))
