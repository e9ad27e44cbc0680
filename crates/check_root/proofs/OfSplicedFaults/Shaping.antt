-- Groups in maps that come back to themselves, or that may not occur so.
use Rattle.std.proofs.Common.{◌≡◌, ℕ, Bool, true, false, ◌||◌, List, Option, Some, None, slice_get, refl, sym, ap, ◌∙◌}
use Rattle.lists.proofs.Lemmas.{contains_at, or_true}
use Rattle.tree_nodes.specs.Syntax.Syntax as S
use Rattle.cddl_language.specs.Faults.{Specification, definitions, rules}
use Rattle.cddl_language.specs.MapFaults.{HasMapShape, IsSpliced, IsLedToBy, closed_entry, comes_back, occurs_badly, point_in}
use Rattle.cddl_language.specs.Reach.{Point}
use Rattle.cddl_language.specs.Reading.{definitions_in}
use Rattle.cddl_language.specs.Terms.{Ref, Term, Text}
use Rattle.check_maps.specs.declared.map_faults.MapFaults.{MapFaults}
use Rattle.check_maps.specs.MapFaults.Faults.{AreFaults}
use Rattle.check_maps.specs.declared.spliced.listing.Spliced.{Spliced}
use Rattle.check_maps.specs.Spliced.Spliced.{AreSpliced, IsSplicedEntry, of_point}
use Rattle.lists.specs.Least.{IsLeast}
use Rattle.check_terms.specs.Table.{Table}
use Rattle.check_maps.specs.MapCycles.Coming.{AreComingBack, LeadsBack}
use Rattle.all_offsets.specs.Offsets.{AreOffsets, IsAtPlace, IsSaid}
use Rattle.all_offsets.proofs.Lemmas.{all_at_places}
use Rattle.check_root.specs.Least.{least_from}
use Rattle.check_root.specs.SplicedFaults.Lookups as L
use Rattle.check_root.specs.SplicedFaults.Lookups.{flag_in, is_set, shape_at, told_if}
use Rattle.check_root.proofs.Least.{least_at_places}
use Rattle.check_root.proofs.OfSplicedFaults.Rows as R
use Rattle.check_root.proofs.OfSplicedFaults.Rows.{place_in, told_parts}

set_true : (o : Option Bool) → flag_in o ≡ true → o ≡ Some true
set_true None e = cc
set_true (Some b) e = ap Some e

-- where an entry that stands in a map leads to a reference, one that stands in a map has it
abbrev pub HaveReferences : List S.Rule → Text → Type 0
HaveReferences rs root = (r : S.Rule) (xs : List Term) (q : Option Point) (e : S.GrpEnt) (p : Point) → IsSpliced rs root r xs q e → IsLedToBy (definitions_in rs) p (closed_entry r xs e) → (v : S.Rule) × (ys : List Term) × (u : Option Point) × (d : S.GrpEnt) × IsSpliced rs root v ys u d × (point_in (definitions_in rs) (closed_entry v ys d) ≡ Some p)

module _ (s : Specification) (root : Text) (have : HaveReferences (rules s) root) (t : Table) (refs : List Ref) (spliced : List Spliced) (faults : List MapFaults) (coming : List Bool) (are : AreSpliced (rules s) root t refs spliced) (wrong : AreFaults (definitions s) root t faults) (back : AreComingBack (definitions s) root t refs spliced coming) where
  by_flag : (x : Spliced) (at : ℕ) (it : IsSplicedEntry (rules s) root t refs x) → x.at ≡ at → LeadsBack (definitions s) refs x.owner (closed_entry it.rule it.arguments it.entry) → HasMapShape (rules s) root at
  by_flag x at it e l =
      let w = have it.rule it.arguments it.owner it.entry l.reference (it.each it.owner it.owns it.spliced) l.back in
      comes_back (it.each (Some l.reference) l.owns (of_point (record { rule = w.0; arguments = w.1; owner = w.2; entry = w.3; spliced = w.4; point = w.5 }))) l.back (sym e ∙ it.offset)

  sound : (i : ℕ) (x : Spliced) (at : ℕ) → slice_get spliced i ≡ Some x → shape_at faults coming i x ≡ Some at → HasMapShape (rules s) root at
  sound i x at h e = by (is_set coming i) refl told.0
    where
      it : IsSplicedEntry (rules s) root t refs x
      it = are.sound x (contains_at spliced i x h)

      told : ((is_set coming i || L.occurs_badly faults x.row) ≡ true) × (x.at ≡ at)
      told = told_parts (is_set coming i || L.occurs_badly faults x.row) x.at at e

      by : (b : Bool) → is_set coming i ≡ b → (b || L.occurs_badly faults x.row) ≡ true → HasMapShape (rules s) root at
      by true g k = by_flag x at it told.1 ((back.each i x (closed_entry it.rule it.arguments it.entry) h it.row it.reached).0 (set_true (slice_get coming i) g))
      by false g k = occurs_badly (it.each it.owner it.owns it.spliced) ((R.occurs_badly (definitions s) root t faults wrong x.row (closed_entry it.rule it.arguments it.entry) it.row it.reached).0 k) (sym told.1 ∙ it.offset)

  complete : (at : ℕ) → HasMapShape (rules s) root at → (i : ℕ) × (x : Spliced) × (slice_get spliced i ≡ Some x) × (shape_at faults coming i x ≡ Some at)
  complete at (comes_back {r = r} {xs = xs} {p = p} {e = e} sp l o) =
      let was = are.complete r xs (Some p) e sp in
      let place = place_in spliced was.found was.contained in
      let flag = (back.each place.0 was.found (closed_entry r xs e) place.1 was.row was.reached).1 (record { reference = p; owns = was.owns; back = l }) in
      (place.0, was.found, place.1, ap (λ b. told_if (b || L.occurs_badly faults was.found.row) was.found.at) (ap flag_in flag) ∙ ap Some (was.offset ∙ sym o))
  complete at (occurs_badly {r = r} {xs = xs} {q = q} {e = e} sp b o) =
      let was = are.complete r xs q e sp in
      let place = place_in spliced was.found was.contained in
      let told = (R.occurs_badly (definitions s) root t faults wrong was.found.row (closed_entry r xs e) was.row was.reached).1 b in
      (place.0, was.found, place.1, ap (λ c. told_if (is_set coming place.0 || c) was.found.at) told ∙ ap (λ c. told_if c was.found.at) (or_true (is_set coming place.0)) ∙ ap Some (was.offset ∙ sym o))

  pub least_shape : IsLeast (HasMapShape (rules s) root) (least_from (shape_at faults coming) 0 None spliced)
  least_shape = least_at_places (shape_at faults coming) (HasMapShape (rules s) root) spliced sound complete

  pub all_shapes : (offsets : List ℕ) → AreOffsets (IsAtPlace (IsSaid (shape_at faults coming)) spliced) offsets → AreOffsets (HasMapShape (rules s) root) offsets
  all_shapes offsets are = all_at_places (shape_at faults coming) (HasMapShape (rules s) root) spliced offsets sound complete are
