-- What one step of the walk adds to the list.
use Rattle.std.specs.Prelude.{◌≡◌, List, ◌++◌, map}
use Rattle.std.specs.List.{flat_map}
use Rattle.cddl_token.specs.declared.Token.{Token}
use Rattle.tree_nodes.specs.Syntax.Syntax as S
use Rattle.tree_nodes.specs.declared.tree.Leaf.{Leaf}
use Rattle.tree_nodes.specs.declared.tree.Entry.{Entry}
use Rattle.tree_nodes.specs.declared.tree.GrpChoice.{GrpChoice}
use Rattle.tree_nodes.specs.declared.tree.GrpEnt.TheViews.{out-GrpChoice}
use Rattle.tree_nodes.specs.View.{view_grpent}
use Rattle.check_sites.specs.declared.entries.entry.TextEntry.{TextEntry}
use Rattle.check_sites.specs.declared.entries.push.Place.{Place}
use Rattle.check_sites.specs.Entries.Entries.{Standing, entry_inside, standing, view_found}

-- the list has grown by these, whatever token a leaf is read as
pub record Lists (old new : List TextEntry) (added : (Leaf → Token) → List Standing) : Type 0 where
  pub each : (read : Leaf → Token) → map (view_found read) new ≡ map (view_found read) old ++ added read

-- by entries at one place
pub record Adds (old new : List TextEntry) (place : Place) (added : (Leaf → Token) → List S.GrpEnt) : Type 0 where
  pub lists : Lists old new (λ read. standing place.rule place.holder (added read))

-- those of an entry of a list, and of a further choice

abbrev pub entry_part : (Leaf → Token) → Entry → List S.GrpEnt
entry_part read e = entry_inside (view_grpent read e.grpent)

abbrev pub choice_part : (Leaf → Token) → GrpChoice → List S.GrpEnt
choice_part read c = flat_map (entry_part read) (out-GrpChoice c).entries.items
