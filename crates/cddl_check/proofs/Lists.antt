-- All offsets of what the root reaches, by the codes.
use Rattle.std.proofs.Common.{◌≡◌, ℕ, List, Some, sym, subst}
use Rattle.all_offsets.specs.Offsets.{AreOffsets}
use Rattle.cddl_language.specs.Faults.{OfRoot, Specification, root_of}
use Rattle.cddl_language.specs.Literals.{Values}
use Rattle.cddl_language.specs.Terms.{Text}
use Rattle.cddl_check.specs.Outcome.{IsStopped}
use Rattle.cddl_check.specs.RootFaults.{HasEarlyFault}
use Rattle.cddl_check.specs.Told.{IsEarly}
use Rattle.cddl_check.specs.declared.stopped.Stopped.{Stopped}
use Rattle.cddl_check.specs.declared.stopped.Stopped.TheVariants as StoppedV

-- with the root, which there is
pub of_root : (s : Specification) (root : Text) → root_of s ≡ Some root → (P : Text → ℕ → Type 0) (offsets : List ℕ) → AreOffsets (P root) offsets → AreOffsets (λ at. OfRoot (root_of s) (λ n. P n at)) offsets
of_root s root rooted P offsets h = subst (λ r. AreOffsets (λ at. OfRoot r (λ n. P n at)) offsets) (sym rooted) h

pub early_fault : (s : Specification) (worth : Values) (e : Stopped) → IsStopped s worth e → IsEarly e → HasEarlyFault s worth e
early_fault s worth (StoppedV.Refused f) h early = record { code = f.code; at = f.at; stands = h.present; early = early }
early_fault s worth StoppedV.Memory h early = tt
