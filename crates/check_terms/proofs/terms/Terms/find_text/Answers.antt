use Rattle.std.proofs.Common.{◌≡◌, ℕ, List, Some, ap, subst, sym, ◌∙◌, slice_get}
use Rattle.std.specs.Prelude.{◌↔◌}
use Rattle.cddl_language.specs.Terms.{Text}
use Rattle.check_terms.specs.Table.{texts_in}
use Rattle.check_terms.proofs.Numbering.{found, missing}
use Rattle.check_terms.proofs.terms.Terms.find_text.Goals as goal

-- what the table for looking them up says of the text
told : (c : goal.After-copied) → (n : ℕ) → (c.copied.result ≡ Some n) ↔ (slice_get c.args.self.now.texts n ≡ Some c.args.text.now)
told c n =
    let is = c.copied.ensures ∙ c.get.ensures.value in
    let of_view = subst (λ o. (o ≡ Some n) ↔ (slice_get (texts_in c.self.inside.texts.items) n ≡ Some c.args.text.now)) (sym is) (c.self.invariant.1 c.args.text n) in
    subst (λ (ts : List Text). (c.copied.result ≡ Some n) ↔ (slice_get ts n ≡ Some c.args.text.now)) (ap (λ t. t.texts) c.self.view_is) of_view

pub returns-clause-found : goal.returns-clause-found
returns-clause-found c = found c.args.self.now.texts c.args.text.now c.copied.result (told c)

pub returns-clause-missing : goal.returns-clause-missing
returns-clause-missing c = missing c.args.self.now.texts c.args.text.now c.copied.result (told c)
