use Rattle.std.proofs.lemmas.Result.{on_ok_weaker}
use Rattle.check_reading.specs.Survey.Survey.{defined_in}
use Rattle.check_text.specs.RuleFaults.Arity.{HasOtherCount}
use Rattle.check_text.specs.RuleFaults.Kinds.{IsClashAt}
use Rattle.all_offsets.proofs.Lemmas.{gains_least}
use Rattle.check_text.proofs.OfEverywhere.OfRules.{one_clash, one_count}
use Rattle.check_text.proofs.everywhere.rules.push_told.Goals as goal

pub returns-in-Duplicate : goal.returns-in-Duplicate
returns-in-Duplicate c = rw c.in-Duplicate.is c.push_duplicates.ensures

pub returns-in-KindClash : goal.returns-in-KindClash
returns-in-KindClash c =
    rw c.in-KindClash.is (on_ok_weaker c.push_found.result (λ gains tree r is there begins. gains_least (IsClashAt (defined_in tree) r) c.clash_at.result _ _ (c.clash_at.ensures tree r is there begins) (one_clash (defined_in tree) r) gains) c.push_found.ensures)

pub returns-in-Arity : goal.returns-in-Arity
returns-in-Arity c =
    rw c.in-Arity.is (on_ok_weaker c.push_found-in-Arity.result (λ gains tree r is there begins. gains_least (HasOtherCount (defined_in tree) r) c.other_count.result _ _ (c.other_count.ensures c.args.terms.now tree r is there begins) (one_count (defined_in tree) r) gains) c.push_found-in-Arity.ensures)
