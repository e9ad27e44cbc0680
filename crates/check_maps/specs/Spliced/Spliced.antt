-- The entries of the text that are spliced into maps, by rows.
use Rattle.std.specs.Prelude.{◌≡◌, ℕ, false, List, Contains, Option, Some, None, slice_get}
use Rattle.cddl_meaning.specs.Alike.{AlikeAll}
use Rattle.tree_nodes.specs.Syntax.Syntax as S
use Rattle.cddl_language.specs.Terms.{Term, Text, Ref, Entry, Definition}
use Rattle.cddl_language.specs.Reading.{definitions_in}
use Rattle.cddl_language.specs.Reach.{Point, at_name, at_unwrapping, entry_points}
use Rattle.cddl_language.specs.MapFaults.{IsSpliced, closed_entry, entry_at, point_in}
use Rattle.check_terms.specs.Table.{Table}
use Rattle.check_terms.specs.Trees.{IsEntry}
use Rattle.check_instances.specs.Closed.Closed.{AreReached}
use Rattle.check_instances.specs.Openings.Endings.{IsOneType, LeadsOn, is_name}
use Rattle.check_sites.specs.Entries.Spliced.{IsSplicedPoint}
use Rattle.check_reached.specs.declared.asked.Asked.{Asked}
use Rattle.check_maps.specs.declared.spliced.listing.Spliced.{Spliced}
use Rattle.check_maps.specs.declared.spliced.owners.Owner.{Owner}
use Rattle.check_maps.specs.declared.spliced.owners.Owner.TheVariants as OwnerV
use Rattle.check_maps.specs.declared.spliced.owners.Way.{Way}
use Rattle.check_maps.specs.Spliced.Steps.{owner_of}

-- In whose group an entry stands, with instances by their places among these: an instance is opened by `~` of each reference
-- of which the way ends there.
pub data IsOwner (ds : List Definition) (refs : List Ref) : Owner → Option Point → Type 0 where
  a_map : IsOwner ds refs OwnerV.Map None
  a_name : {k : ℕ} {f : Ref} → slice_get refs k ≡ Some f → IsOwner ds refs (OwnerV.Named k) (Some (at_name f))
  an_opening : {k : ℕ} {f e : Ref} {x : Term} → slice_get refs k ≡ Some e → LeadsOn ds f e → IsOneType ds e x → is_name x ≡ false → IsOwner ds refs (OwnerV.Opened k) (Some (at_unwrapping f))

-- to whose group an entry leads
pub data IsTarget (ds : List Definition) (refs : List Ref) : Option Point → Option Owner → Type 0 where
  nowhere : IsTarget ds refs None None
  somewhere : {p : Point} {w : Owner} → IsOwner ds refs w (Some p) → IsTarget ds refs (Some p) (Some w)

-- what is reported for the entry of which it was asked, if all references that stand in it are instances
pub record IsWay (ds : List Definition) (root : Text) (t : Table) (refs : List Ref) (places : List (Option ℕ)) (a : Asked) (w : Way) : Type 0 where
  pub owner : w.owner ≡ owner_of places a
  pub target : (x : Entry) → IsEntry t a.row x → AreReached ds root (entry_points x) → IsTarget ds refs (point_in ds x) w.target

abbrev pub AreWays : List Definition → Text → Table → List Ref → List (Option ℕ) → List Asked → List Way → Type 0
AreWays ds root t refs places asked ways = AlikeAll (IsWay ds root t refs places) asked ways

module _ (rs : List S.Rule) (root : Text) (t : Table) (refs : List Ref) where
  -- the group of this owner is spliced into a map
  pub data IsSplicedOwner : Option Point → Type 0 where
    of_map : IsSplicedOwner None
    of_point : {p : Point} → IsSplicedPoint rs root p → IsSplicedOwner (Some p)

  -- An entry that is reported is spliced into a map by each of its owners that is, and there is one. All references that stand in
  -- it are instances.
  pub record IsSplicedEntry (x : Spliced) : Type 0 where
    pub rule : S.Rule
    pub arguments : List Term
    pub entry : S.GrpEnt
    pub row : IsEntry t x.row (closed_entry rule arguments entry)
    pub offset : x.at ≡ entry_at entry
    pub reached : AreReached (definitions_in rs) root (entry_points (closed_entry rule arguments entry))
    pub each : (q : Option Point) → IsOwner (definitions_in rs) refs x.owner q → IsSplicedOwner q → IsSpliced rs root rule arguments q entry
    pub owner : Option Point
    pub owns : IsOwner (definitions_in rs) refs x.owner owner
    pub spliced : IsSplicedOwner owner

  pub record WasSpliced (xs : List Spliced) (rule : S.Rule) (arguments : List Term) (q : Option Point) (entry : S.GrpEnt) : Type 0 where
    pub found : Spliced
    pub contained : Contains xs found
    pub row : IsEntry t found.row (closed_entry rule arguments entry)
    pub offset : found.at ≡ entry_at entry
    pub reached : AreReached (definitions_in rs) root (entry_points (closed_entry rule arguments entry))
    pub owns : IsOwner (definitions_in rs) refs found.owner q

  pub record AreSpliced (xs : List Spliced) : Type 0 where
    pub sound : (x : Spliced) → Contains xs x → IsSplicedEntry x
    pub complete : (r : S.Rule) (ys : List Term) (q : Option Point) (e : S.GrpEnt) → IsSpliced rs root r ys q e → WasSpliced xs r ys q e
