use Rattle.std.proofs.Common.{◌≡◌, ℕ, ◌||◌, drop, slice_get}
use Rattle.check_text.specs.SiteFaults.Marks.{has_mark, is_parameter_of}
use Rattle.check_text.proofs.OfSiteFaults.Marking.{has_parameter}
use Rattle.check_text.proofs.site_faults.marks.marks_of.Given as goal

abbrev pub invariant-loop-rule : goal.invariant-loop-rule
invariant-loop-rule l = (r k : ℕ) → (has_mark l.marks.keys r k || has_parameter l.rule (drop l.rule l.definitions) r k) ≡ is_parameter_of (slice_get l.definitions r) k
