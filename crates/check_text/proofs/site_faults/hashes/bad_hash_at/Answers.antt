use Rattle.std.proofs.Common.{option_map, sym, ap, ◌∙◌}
use Rattle.check_text.proofs.OfSiteFaults.Wrong.{bad_hash, good_hash, its_text, no_text}
use Rattle.check_text.proofs.site_faults.hashes.bad_hash_at.Goals as goal

pub returns-in_err-text : goal.returns-in_err-text
returns-in_err-text c ds r x said = absurd (no_text c.args.terms.now c.args.word x said (sym (ap (option_map (λ s. s.now)) c.in_err-text.was) ∙ c.text.ensures))

pub returns-then-is_bad_hash : goal.returns-then-is_bad_hash
returns-then-is_bad_hash c ds r x said =
    let text = its_text c.args.terms.now c.args.word x said c.in_ok-text.field-0.now (sym (ap (option_map (λ s. s.now)) c.in_ok-text.was) ∙ c.text.ensures) in
    bad_hash c.args.terms.now ds r c.args.word x said c.in_ok-text.field-0.now text c.in-Hash.is (c.is_bad_hash.ensures.0 c.if-is_bad_hash.true)

pub returns-else-is_bad_hash : goal.returns-else-is_bad_hash
returns-else-is_bad_hash c ds r x said =
    let text = its_text c.args.terms.now c.args.word x said c.in_ok-text.field-0.now (sym (ap (option_map (λ s. s.now)) c.in_ok-text.was) ∙ c.text.ensures) in
    good_hash c.args.terms.now ds r c.args.word x said c.in_ok-text.field-0.now text (λ h. let k = sym c.if-is_bad_hash.false ∙ c.is_bad_hash.ensures.1 h in cc)
