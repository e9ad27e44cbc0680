-- Which spliced entries lead back to the reference in whose group they stand.
use Rattle.std.specs.Prelude.{◌≡◌, ◌↔◌, ℕ, ◌<◌, List, length, Bool, true, Option, Some, slice_get}
use Rattle.graphs.specs.declared.cycles.Edge.{Edge}
use Rattle.graphs.specs.Cycles.Graph.{LeadsOn}
use Rattle.cddl_language.specs.Terms.{Text, Ref, Entry, Definition}
use Rattle.cddl_language.specs.Reach.{Point, entry_points}
use Rattle.cddl_language.specs.MapFaults.{IsLedToBy, point_in}
use Rattle.check_terms.specs.Table.{Table}
use Rattle.check_terms.specs.Trees.{IsEntry}
use Rattle.check_instances.specs.Closed.Closed.{AreReached}
use Rattle.check_maps.specs.declared.spliced.listing.Spliced.{Spliced}
use Rattle.check_maps.specs.declared.spliced.owners.Owner.{Owner}
use Rattle.check_maps.specs.Spliced.Spliced.{IsOwner, IsTarget}
use Rattle.check_maps.specs.declared.map_cycles.layout.Layout.{Layout}
use Rattle.check_maps.specs.MapCycles.Edges.{entry_node, nodes}

-- the entry leads to a reference in whose group it stands, where this is its owner
pub record LeadsBack (ds : List Definition) (refs : List Ref) (w : Owner) (e : Entry) : Type 0 where
  pub reference : Point
  pub owns : IsOwner ds refs w (Some reference)
  pub back : IsLedToBy ds reference e

-- for each entry of the list, where all references that stand in it are instances, whether it does
pub record AreComingBack (ds : List Definition) (root : Text) (t : Table) (refs : List Ref) (spliced : List Spliced) (flags : List Bool) : Type 0 where
  pub all : length flags ≡ length spliced
  pub each : (i : ℕ) (x : Spliced) (e : Entry) → slice_get spliced i ≡ Some x → IsEntry t x.row e → AreReached ds root (entry_points e) → (slice_get flags i ≡ Some true) ↔ LeadsBack ds refs x.owner e

-- for the row of a closed entry below the number, to whose group it leads
abbrev pub AreTargets : List Definition → Text → List Ref → Table → ℕ → List (Option Owner) → Type 0
AreTargets ds root refs t count targets = (n : ℕ) (e : Entry) → n < count → IsEntry t n e → AreReached ds root (entry_points e) → (o : Option Owner) × (slice_get targets n ≡ Some o) × IsTarget ds refs (point_in ds e) o

-- for each entry of the list whether its node leads back to itself
pub record AreMarked (l : Layout) (edges : List Edge) (flags : List Bool) : Type 0 where
  pub all : length flags ≡ l.entries
  pub each : (i : ℕ) → i < l.entries → (slice_get flags i ≡ Some true) ↔ LeadsOn (nodes l) edges (entry_node l i) (entry_node l i)
