-- Entries without keys.
use Rattle.std.proofs.Common.{◌≡◌, ℕ, List, Some, None, slice_get, sym, ap, ◌∙◌}
use Rattle.lists.proofs.Lemmas.{contains_at}
use Rattle.cddl_language.specs.Faults.{Specification, definitions, rules}
use Rattle.cddl_language.specs.MapFaults.{HasNoKey, closed_entry}
use Rattle.cddl_language.specs.Terms.{Ref, Text}
use Rattle.check_maps.specs.declared.map_faults.MapFaults.{MapFaults}
use Rattle.check_maps.specs.MapFaults.Faults.{AreFaults}
use Rattle.check_maps.specs.declared.spliced.listing.Spliced.{Spliced}
use Rattle.check_maps.specs.Spliced.Spliced.{AreSpliced}
use Rattle.lists.specs.Least.{IsLeast}
use Rattle.check_terms.specs.Table.{Table}
use Rattle.all_offsets.specs.Offsets.{AreOffsets, IsAtPlace, IsSaid}
use Rattle.all_offsets.proofs.Lemmas.{all_at_places}
use Rattle.check_root.specs.Least.{least_over}
use Rattle.check_root.specs.SplicedFaults.Lookups as L
use Rattle.check_root.specs.SplicedFaults.Lookups.{keyless_at, told_if}
use Rattle.check_root.proofs.Least.{least_of_all}
use Rattle.check_root.proofs.OfSplicedFaults.Rows.{lacks_key, place_in, told_parts}

module _ (s : Specification) (root : Text) (t : Table) (refs : List Ref) (spliced : List Spliced) (faults : List MapFaults) (are : AreSpliced (rules s) root t refs spliced) (wrong : AreFaults (definitions s) root t faults) where
  sound : (i : ℕ) (x : Spliced) (at : ℕ) → slice_get spliced i ≡ Some x → keyless_at faults x ≡ Some at → HasNoKey (rules s) root at
  sound i x at h e =
      let it = are.sound x (contains_at spliced i x h) in
      let told = told_parts (L.lacks_key faults x.row) x.at at e in
      record {
        rule = it.rule;
        arguments = it.arguments;
        owner = it.owner;
        entry = it.entry;
        spliced = it.each it.owner it.owns it.spliced;
        lacks = (lacks_key (definitions s) root t faults wrong x.row (closed_entry it.rule it.arguments it.entry) it.row it.reached).0 told.0;
        offset = sym told.1 ∙ it.offset;
      }

  complete : (at : ℕ) → HasNoKey (rules s) root at → (i : ℕ) × (x : Spliced) × (slice_get spliced i ≡ Some x) × (keyless_at faults x ≡ Some at)
  complete at h =
      let was = are.complete h.rule h.arguments h.owner h.entry h.spliced in
      let place = place_in spliced was.found was.contained in
      let told = (lacks_key (definitions s) root t faults wrong was.found.row (closed_entry h.rule h.arguments h.entry) was.row was.reached).1 h.lacks in
      (place.0, was.found, place.1, ap (λ b. told_if b was.found.at) told ∙ ap Some (was.offset ∙ sym h.offset))

  pub least_keyless : IsLeast (HasNoKey (rules s) root) (least_over (keyless_at faults) None spliced)
  least_keyless = least_of_all (keyless_at faults) (HasNoKey (rules s) root) spliced sound complete

  pub all_keyless : (offsets : List ℕ) → AreOffsets (IsAtPlace (IsSaid (λ k. keyless_at faults)) spliced) offsets → AreOffsets (HasNoKey (rules s) root) offsets
  all_keyless offsets are = all_at_places (λ k. keyless_at faults) (HasNoKey (rules s) root) spliced offsets sound complete are
