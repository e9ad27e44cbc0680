-- What is wrong at parts is wrong at their rows.
use Rattle.std.proofs.Common.{◌≡◌, ◌↔◌, ℕ, List, length, Some, ◌∙◌, slice_get}
use Rattle.cddl_language.specs.Terms.{Text, Definition}
use Rattle.check_terms.specs.Table.{Table}
use Rattle.alternatives.specs.declared.Part.{Part}
use Rattle.check_groups.specs.Splices.Parts.{AreParts}
use Rattle.check_maps.specs.declared.map_faults.MapFaults.{MapFaults}
use Rattle.check_maps.specs.MapFaults.Faults.{AreFaults, HasFaults}
use Rattle.check_maps.specs.MapFaults.Large.{HasPartFaults}
use Rattle.check_maps.proofs.OfMapFaults.Meaning.{lacks_key, occurs_badly}
use Rattle.check_maps.proofs.OfMapFaults.Parts.{OccurAlike, StandAlike}
use Rattle.check_maps.proofs.OfMapFaults.Spliced.{has_too_many}

through : {A B C : Type 0} → A ↔ B → B ↔ C → A ↔ C
through f g = ((λ a. g.0 (f.0 a)), (λ c. f.1 (g.1 c)))

module _ (xs : List Definition) (root : Text) (t : Table) (parts : List Part) (are : AreParts xs root t parts) where
  module _ (same : StandAlike xs root t parts) (alike : OccurAlike t) where
    has_faults : (n : ℕ) (f : MapFaults) → HasPartFaults parts n f → HasFaults xs root t n f
    has_faults n f h = record {
      lacks_key = λ e k r. through h.lacks_key (lacks_key xs root t parts are n e k r);
      occurs_badly = λ e k r. through h.occurs_badly (occurs_badly xs root t parts are same alike n e k r);
      has_too_many = λ g k r. through h.has_too_many (has_too_many xs root t parts are same n g k r);
    }

    pub are_faults : (faults : List MapFaults) → length faults ≡ length parts → ((n : ℕ) (f : MapFaults) → slice_get faults n ≡ Some f → HasPartFaults parts n f) → AreFaults xs root t faults
    are_faults faults all told = record { all = all ∙ are.all; each = λ n f e. has_faults n f (told n f e) }
