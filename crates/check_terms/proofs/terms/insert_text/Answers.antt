use Rattle.std.proofs.Common.{List, ◌∷◌, [], ◌++◌, ℕ, Bor, sym, ap, subst, ◌∙◌, slice_get}
use Rattle.std.specs.HashMap.{get}
use Rattle.std.proofs.lemmas.List.{length-map, map-append}
use Rattle.std.specs.contracts.prelude.RefStrPartialEq.TheImpl as text_eq
use Rattle.lists.proofs.Lemmas.{push_there as get-added}
use Rattle.check_terms.specs.Numbers.{AreNumbered}
use Rattle.check_terms.specs.Table.{texts_in}
use Rattle.check_terms.proofs.Equal.{alike_texts, same_text}
use Rattle.check_terms.proofs.Numbering.{numbered_more, pushed, when_ok}
use Rattle.check_terms.proofs.terms.insert_text.Goals as goal

pub returns-in-Some-clause-there : goal.returns-in-Some-clause-there
returns-in-Some-clause-there c = (c.requires.numbered c.args.text c.in-Some.number).0 (sym c.get.ensures.value ∙ sym c.copied.ensures ∙ c.in-Some.is)

pub returns-clause-there : goal.returns-clause-there
returns-clause-there c =
    let old = c.args.texts.now.items in
    let longer = ap texts_in (pushed c.push.result c.push.new.self.items old c.args.text (sym c.is_err.ensures.value ∙ c.if-is_err.false) c.push.ensures.items) ∙ map-append (λ (t : Bor (List ℕ)). t.now) old (c.args.text ∷ []) in
    let next = c.in_ok-number.ensures ∙ c.len.ensures ∙ c.args.texts.now.ok.0 ∙ sym (length-map old (λ (t : Bor (List ℕ)). t.now)) in
    ap (λ ts. slice_get ts c.in_ok-number.number) longer ∙ ap (slice_get (texts_in old ++ c.args.text.now ∷ [])) next ∙ get-added (texts_in old) c.args.text.now

pub returns-clause-numbered : goal.returns-clause-numbered
returns-clause-numbered c =
    let eq = (text_eq.ghosts).eq in
    let old = c.args.texts.now.items in
    let longer = ap texts_in (pushed c.push.result c.push.new.self.items old c.args.text (sym c.is_err.ensures.value ∙ c.if-is_err.false) c.push.ensures.items) ∙ map-append (λ (t : Bor (List ℕ)). t.now) old (c.args.text ∷ []) in
    let updates = when_ok c.insert.result _ (sym c.is_err-2.ensures.value ∙ c.if-is_err-2.false) c.insert.ensures.updates in
    let none = sym c.get.ensures.value ∙ sym c.copied.ensures ∙ c.in_default.is in
    let next = c.in_ok-number.ensures ∙ c.len.ensures ∙ c.args.texts.now.ok.0 ∙ sym (length-map old (λ (t : Bor (List ℕ)). t.now)) in
    subst (λ ts. AreNumbered (λ (t : Bor (List ℕ)). t.now) (get eq c.insert.new.self) ts) (sym longer) (numbered_more eq (λ (t : Bor (List ℕ)). t.now) alike_texts same_text (get eq c.args.numbers.now) (get eq c.insert.new.self) (texts_in old) c.args.text c.in_ok-number.number c.requires.numbered none next updates.0)
