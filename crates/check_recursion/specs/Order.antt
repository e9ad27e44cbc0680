-- What the order of a specification is.
use Rattle.std.specs.Prelude.{◌≡◌, ◌↔◌, ℕ, ◌+◌, ◌*◌, ◌<◌, ◌≤◌, List, length, Bool, true, Option, Some, None, slice_get}
use Rattle.graphs.specs.declared.cycles.Edge.{Edge}
use Rattle.graphs.specs.Cycles.Graph.{AreRanks, AreOnCycles}
use Rattle.cddl_language.specs.Terms.{Text, Term, Ref, Definition}
use Rattle.cddl_language.specs.Kinds.{part_of}
use Rattle.cddl_language.specs.Reach.{Point, points, ref_at}
use Rattle.cddl_language.specs.Free.{IsOnCycle, LeadsBack}
use Rattle.check_terms.specs.Table.{Table}
use Rattle.check_terms.specs.Trees.{IsTerm}
use Rattle.check_instances.specs.Closed.Closed.{AreReached}
use Rattle.check_instances.specs.declared.openings.openings.Part.{Part}
use Rattle.check_instances.specs.Openings.Openings.{IsPart}
use Rattle.check_recursion.specs.declared.node.Layout.{Layout}
use Rattle.check_recursion.specs.declared.node.Node.{Node}
use Rattle.check_recursion.specs.declared.graph.Ranks.{Ranks}
use Rattle.check_recursion.specs.declared.graph.Order.{Order}
use Rattle.check_recursion.specs.declared.graph.Order.TheVariants as OrderV
use Rattle.check_recursion.specs.Edges.{AreFlags, number}
use Rattle.check_recursion.specs.Standing.{IsStep}

-- for the row of a closed type below the number, the entry that it is
abbrev pub AreParts : List Definition → Text → List Ref → Table → ℕ → List Part → Type 0
AreParts xs root refs t count parts = (n : ℕ) (x : Term) → n < count → IsTerm t n x → AreReached xs root (points x) → (q : Part) × (slice_get parts n ≡ Some q) × IsPart t refs (part_of xs x) q

abbrev pub rank_in : Option ℕ → ℕ
rank_in None = 0
rank_in (Some r) = r

abbrev pub rank_at : List ℕ → Option ℕ → ℕ
rank_at ranks None = 0
rank_at ranks (Some i) = rank_in (slice_get ranks i)

abbrev pub rank : Ranks → Node → ℕ
rank r n = rank_at r.ranks.items (number r.layout.rows r.layout.places n)

abbrev pub bound : Ranks → ℕ
bound r = length r.ranks.items

module _ (xs : List Definition) (root : Text) (refs : List Ref) where
  -- nothing leads back to itself
  abbrev pub HasNoCycle : Type 0
  HasNoCycle = (p : Point) → LeadsBack xs root p → ⊥

  -- the ranks go down along each step
  pub record AreRanked (t : Table) (r : Ranks) : Type 0 where
    pub no_cycle : HasNoCycle
    pub down : (n m : Node) → IsStep xs root refs t n m → rank r m < rank r n
    pub most : (n : Node) → rank r n ≤ bound r

  -- Of each instance it is known whether a reference to it leads back to itself, by itself, after `~` or after `&`; where none does,
  -- whether a choice through its name does. One does.
  pub record AreCycles (flags : List Bool) : Type 0 where
    pub all : length flags ≡ length refs
    pub each : (k : ℕ) (r : Ref) → slice_get refs k ≡ Some r → (slice_get flags k ≡ Some true) ↔ ((p : Point) × (ref_at p ≡ r) × IsOnCycle xs root p)
    pub one : (p : Point) × IsOnCycle xs root p

  abbrev pub IsOrder : Table → Order → Type 0
  IsOrder t (OrderV.Ranks r) = AreRanked t r
  IsOrder t (OrderV.Cycles v) = AreCycles v.items

abbrev pub nodes_of : Layout → ℕ
nodes_of l = 2 * l.rows + 5 * l.places

-- the same of a graph with these edges
pub record AreRanksOf (l : Layout) (edges : List Edge) (r : Ranks) : Type 0 where
  pub layout : r.layout ≡ l
  pub ranks : AreRanks (nodes_of l) edges r.ranks.items

pub record AreFlagsOf (l : Layout) (edges : List Edge) (flags : List Bool) : Type 0 where
  pub marks : List Bool
  pub are_marks : AreOnCycles (nodes_of l) edges marks
  pub are_flags : AreFlags l.rows l.places marks flags

abbrev pub IsOrdered : Layout → List Edge → Order → Type 0
IsOrdered l edges (OrderV.Ranks r) = AreRanksOf l edges r
IsOrdered l edges (OrderV.Cycles v) = AreFlagsOf l edges v.items
