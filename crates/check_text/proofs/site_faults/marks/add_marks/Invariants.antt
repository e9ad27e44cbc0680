use Rattle.std.proofs.Common.{◌≡◌, ℕ, nat_eq, ◌&&◌, ◌||◌, drop}
use Rattle.check_text.specs.SiteFaults.Marks.{has_mark, is_among}
use Rattle.check_text.proofs.site_faults.marks.add_marks.Given as goal

abbrev pub invariant-loop-name : goal.invariant-loop-name
invariant-loop-name l = (r k : ℕ) → (has_mark l.marks.keys r k || (nat_eq r l.rule && is_among k (drop l.name-index l.parameters))) ≡ (has_mark l.initial.marks.keys r k || (nat_eq r l.rule && is_among k l.parameters))
