-- How the count of failures goes on.
use Rattle.std.proofs.Common.{◌≡◌, ℕ, ◌<◌, false, ◌&&◌, ◌==◌, nat_lt, arith, refl, ◌∙◌}
use Rattle.std.specs.Prelude.{if◌then◌else◌}
use Rattle.std.proofs.lemmas.Bool.Decides.{nat_tests}
use Rattle.item_nodes.specs.Counted.{one_more}

-- a write that took some bytes is no failure
pub same_count : (taken len count : ℕ) {new : ℕ} → 0 < taken →
    new ≡ (if taken == 0 && nat_lt 0 len then one_more count else count) → new ≡ count
same_count taken len count some is =
    let no : (taken == 0) ≡ false = grind (arith, nat_tests) in
    is ∙ (rw no refl)
