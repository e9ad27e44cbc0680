use Rattle.std.proofs.Common.{subst}
use Rattle.lists.proofs.Lemmas.{ok_then}
use Rattle.cddl_language.specs.Reading.{parameter_tokens, rule_name, term_of, entry_of, texts_of}
use Rattle.cddl_language.specs.Terms as L
use Rattle.check_terms.specs.Definitions.{IsDefinition, types, entry}
use Rattle.tree_nodes.specs.View.{token_of, view_grpent, view_name, view_types}
use Rattle.check_reading.proofs.OfReader.Growing.{grown}
use Rattle.check_reading.proofs.reader.definitions.read_rule.Goals as goal

pub returns-in_ok-body-in-TypeRule-clause-grows : goal.returns-in_ok-body-in-TypeRule-clause-grows
returns-in_ok-body-in-TypeRule-clause-grows c = grown _ _ _ c.in_ok-body-in-TypeRule.ensures.grows c.define.ensures.grows

pub returns-in_ok-body-in-TypeRule-clause-definition : goal.returns-in_ok-body-in-TypeRule-clause-definition
returns-in_ok-body-in-TypeRule-clause-definition c =
    let read = token_of c.args.tree.now in
    let name = view_name read c.in-TypeRule.name in
    let body = L.of_types (term_of (view_types read c.in-TypeRule.types)) in
    simp c.in-TypeRule.is
    (ok_then c.define.result _ _
    (λ d h. subst (λ s. IsDefinition c.define.new.terms d (record { name = rule_name name; parameters = texts_of (parameter_tokens name); sign = s; body = body })) (c.type_sign.ensures c.args.tree.now) (h body (types c.in_ok-body-in-TypeRule.ensures.term)))
    c.define.ensures.definition)

pub returns-in_ok-body-in-GroupRule-clause-grows : goal.returns-in_ok-body-in-GroupRule-clause-grows
returns-in_ok-body-in-GroupRule-clause-grows c = grown _ _ _ c.in_ok-body-in-GroupRule.ensures.grows c.define-in-GroupRule.ensures.grows

pub returns-in_ok-body-in-GroupRule-clause-definition : goal.returns-in_ok-body-in-GroupRule-clause-definition
returns-in_ok-body-in-GroupRule-clause-definition c =
    let read = token_of c.args.tree.now in
    let name = view_name read c.in-GroupRule.name in
    let body = L.of_entry (entry_of (view_grpent read c.in-GroupRule.grpent)) in
    simp c.in-GroupRule.is
    (ok_then c.define-in-GroupRule.result _ _
    (λ d h. subst (λ s. IsDefinition c.define-in-GroupRule.new.terms d (record { name = rule_name name; parameters = texts_of (parameter_tokens name); sign = s; body = body })) (c.group_sign.ensures c.args.tree.now) (h body (entry c.in_ok-body-in-GroupRule.ensures.entry)))
    c.define-in-GroupRule.ensures.definition)
