use Rattle.std.proofs.Common.{◌≡◌, ◌<◌, ℕ, Bool, true, false, List, refl}
use Rattle.check_recursion.specs.Edges.{AreFlags, of_references, of_choices, flags_below, has_reference}
use Rattle.check_recursion.proofs.flags.flags_of.Goals as goal

-- by the one sort of marks or by the other
by_either : (rows places : ℕ) (marks flags : List Bool) (c : Bool) → (c ≡ true → (k : ℕ) × (k < places) × (has_reference rows places marks k ≡ true)) → (c ≡ false → (k : ℕ) → k < places → has_reference rows places marks k ≡ false) → flags ≡ flags_below rows places marks c places → AreFlags rows places marks flags
by_either rows places marks flags true some none e = let k = some refl in of_references {k = k.0} k.1 k.2 e
by_either rows places marks flags false some none e = of_choices (none refl) e

pub returns : goal.returns
returns c = by_either c.args.layout.rows c.args.layout.places c.args.marks.now c.in_ok-flags.flags.items c.is_any_reference-references.result c.is_any_reference-references.ensures.some c.is_any_reference-references.ensures.none c.in_ok-flags.ensures
