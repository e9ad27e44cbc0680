use Rattle.check_terms.proofs.Adding.{text-added}
use Rattle.check_terms.proofs.Numbering.{numbered_texts}
use Rattle.check_terms.proofs.terms.Terms.add_text.Goals as goal

pub invariant_of-self : goal.invariant_of-self
invariant_of-self c =
    let numbered = c.text_number.ensures.numbered in
    let is = text-added _ c.args.text.now _ c.self.invariant.0 (numbered_texts _ _ _ numbered) c.text_number.ensures.adds in
    (is, numbered, c.self.invariant.2)
