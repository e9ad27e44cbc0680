use Rattle.std.proofs.Common.{option_map, refl, sym, ap, ◌∙◌}
use Rattle.lists.proofs.Lemmas.{on_ok}
use Rattle.check_reading.specs.Words.{spelled_said}
use Rattle.check_reading.proofs.OfWords.Listing.{one_added, one_skipped, unspelled}
use Rattle.check_reading.proofs.words.listing.add_some.Goals as goal

-- of a site without a word
pub returns-in_default-clause-added : goal.returns-in_default-clause-added
returns-in_default-clause-added c ps p e so = one_skipped c.args.terms.now c.args.words.now.items ps c.args.rule p (sym e ∙ unspelled c.args.spelled c.in_default.not-Some) so

pub returns-clause-added : goal.returns-clause-added
returns-clause-added c = on_ok c.push.result _ _ (λ pushed ps p e so. one_added c.args.terms.now c.add_text.new.self c.in_ok-text.ensures.grows c.args.words.now.items c.push.new.items.items _ ps c.args.rule p _ pushed refl (sym e ∙ ap (option_map spelled_said) c.in-Some.is) (record { at = refl; role = refl; text = c.in_ok-text.ensures.there; arguments = refl }) so) c.push.ensures
