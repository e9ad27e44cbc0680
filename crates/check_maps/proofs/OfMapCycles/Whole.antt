-- What is told, from what the inner functions tell.
use Rattle.std.proofs.Common.{◌≡◌, ℕ, suc, List, length, Bool, Option, refl, ap, subst, ◌∙◌}
use Rattle.std.specs.Prelude.{Contains}
use Rattle.graphs.specs.declared.cycles.Edge.{Edge}
use Rattle.cddl_meaning.specs.Alike.{AlikeAll, none, both}
use Rattle.cddl_language.specs.Environment.{definitions_of}
use Rattle.cddl_language.specs.Faults.{Specification, definitions, rules}
use Rattle.cddl_language.specs.Reading.{definition_of, name_in}
use Rattle.cddl_language.specs.Terms.{Text, Ref, Definition}
use Rattle.tree_nodes.specs.Syntax.Syntax as S
use Rattle.check_terms.specs.Table.{Table}
use Rattle.check_names.specs.declared.kinds.kinds.Kinds.{Kinds}
use Rattle.check_names.specs.Kinds.Kinds.{AreKinds}
use Rattle.cddl_language.specs.Live.Live.{IsClear}
use Rattle.check_instances.specs.declared.closed.closed.Closed.{Closed}
use Rattle.check_instances.specs.Closed.Closed.{IsClosed}
use Rattle.check_instances.specs.declared.openings.openings.Opening.{Opening}
use Rattle.check_instances.specs.Openings.Endings.{AreEndings}
use Rattle.check_instances.specs.Openings.Openings.{AreOpenings}
use Rattle.alternatives.specs.declared.Part.{Part}
use Rattle.check_groups.specs.Splices.Parts.{AreParts}
use Rattle.check_maps.specs.declared.spliced.listing.Spliced.{Spliced}
use Rattle.check_maps.specs.declared.spliced.owners.Owner.{Owner}
use Rattle.check_maps.specs.Spliced.Spliced.{AreSpliced}
use Rattle.check_maps.specs.declared.map_cycles.layout.Layout.{Layout}
use Rattle.check_maps.specs.MapCycles.Coming.{AreComingBack, AreMarked, AreTargets}
use Rattle.check_maps.specs.MapCycles.Edges.{all_edges}
use Rattle.check_maps.proofs.OfMapCycles.Back.{More, are_coming_back}
use Rattle.check_maps.proofs.OfMapCycles.Standing.{all_stand}

alike_length : {A B : Type 0} (R : A → B → Type 0) (xs : List A) (ys : List B) → AlikeAll R xs ys → length ys ≡ length xs
alike_length R _ _ none = refl
alike_length R _ _ (both {ns = xs} {ms = ys} h hs) = ap suc (alike_length R xs ys hs)

module _ (more : (ds : List Definition) → More ds) (defined : (s : Specification) → IsClear s → (r : S.Rule) → Contains (rules s) r → Contains (definitions_of (definitions s) (name_in r)) (definition_of r)) (t : Table) (closed : Closed) (kinds : Kinds) (openings : List Opening) (endings : List (Option ℕ)) (spliced : List Spliced) (parts : List Part) (targets : List (Option Owner)) (l : Layout) where
  abbrev Given : (List Definition → Text → List Ref → Type 0) → Type 0
  Given P = (xs : List Definition) (root : Text) (refs : List Ref) → IsClosed xs root refs t closed → AreKinds t.texts xs kinds → AreOpenings xs t refs openings → P xs root refs

  pub told_back : Given (λ xs root refs. AreParts xs root t parts) → Given (λ xs root refs. AreEndings xs t refs endings → AreTargets xs root refs t l.parts targets) → l.parts ≡ length parts → l.entries ≡ length spliced → l.places ≡ length closed.meanings.items → (edges : List Edge) → edges ≡ all_edges l parts targets spliced → (flags : List Bool) → AreMarked l edges flags → (s : Specification) (root : Text) (refs : List Ref) → IsClear s → IsClosed (definitions s) root refs t closed → AreKinds t.texts (definitions s) kinds → AreOpenings (definitions s) t refs openings → AreEndings (definitions s) t refs endings → AreSpliced (rules s) root t refs spliced → AreComingBack (definitions s) root t refs spliced flags
  told_back are_parts are_targets some_parts some_entries some_places edges same flags marked s root refs clear is ki op en are =
      let ds = definitions s in
      let stand = all_stand (rules s) (defined s clear) root (more ds) t refs spliced are in
      let places = some_places ∙ alike_length _ refs closed.meanings.items is.meanings in
      are_coming_back ds root t refs (more ds) is.instances.once parts (are_parts ds root refs is ki op) l some_parts targets (are_targets ds root refs is ki op en) spliced some_entries places stand flags (subst (λ es. AreMarked l es flags) same marked)
