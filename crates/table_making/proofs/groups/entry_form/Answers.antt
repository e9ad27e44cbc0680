use Rattle.std.proofs.Common.{sym, ap, ◌∙◌}
use Rattle.cddl_meaning.specs.Forms as F
use Rattle.cddl_language.specs.Numbers as N
use Rattle.cddl_language.specs.Terms.{occurrence_of}
use Rattle.table_nodes.specs.Nodes.{most_view}
use Rattle.table_making.proofs.Forming.{an_occurrence, never_formed, no_occurrence, often_formed, once_formed}
use Rattle.table_making.proofs.groups.entry_form.Goals as goal

pub returns-in_default : goal.returns-in_default
returns-in_default c s e src is re = once_formed s c.args.terms.now e (occurrence_of e) _ (no_occurrence c.args.terms.now.texts (occurrence_of e) (c.in_default.ensures e is)) (c.round_form.ensures s e src is re)

pub returns-then-are_once : goal.returns-then-are_once
returns-then-are_once c s e src is re =
    let o = an_occurrence c.args.terms.now.texts (occurrence_of e) c.in-Some.text (c.in-Some.ensures e is) in
    let least = c.in_ok-times.ensures.least o.0 o.2 in
    let most = c.in_ok-times.ensures.most o.0 o.2 in
    once_formed s c.args.terms.now e (occurrence_of e) _ (ap N.occurs_once o.1 ∙ sym (ap (λ n. N.is_once n (most_view c.in_ok-times.times.most)) least ∙ ap (N.is_once (N.least_in o.0)) most) ∙ sym c.if-are_once.ensures) (c.round_form-then-are_once.ensures s e src is re)

pub returns-then-are_impossible : goal.returns-then-are_impossible
returns-then-are_impossible c s e src is re =
    let o = an_occurrence c.args.terms.now.texts (occurrence_of e) c.in-Some.text (c.in-Some.ensures e is) in
    let least = c.in_ok-times.ensures.least o.0 o.2 in
    let most = c.in_ok-times.ensures.most o.0 o.2 in
    never_formed s c.args.terms.now e (occurrence_of e) _ _ _ (ap F.Alternatives c.new.ensures.items) (ap N.occurs_once o.1 ∙ sym (ap (λ n. N.is_once n (most_view c.in_ok-times.times.most)) least ∙ ap (N.is_once (N.least_in o.0)) most) ∙ sym c.if-are_once.ensures) (sym c.if-are_impossible.ensures) (least ∙ sym (ap N.least_of o.1)) (most ∙ sym (ap N.most_of o.1))

pub returns : goal.returns
returns c s e src is re =
    let o = an_occurrence c.args.terms.now.texts (occurrence_of e) c.in-Some.text (c.in-Some.ensures e is) in
    let least = c.in_ok-times.ensures.least o.0 o.2 in
    let most = c.in_ok-times.ensures.most o.0 o.2 in
    often_formed s c.args.terms.now e (occurrence_of e) c.args.row _ _ (ap N.occurs_once o.1 ∙ sym (ap (λ n. N.is_once n (most_view c.in_ok-times.times.most)) least ∙ ap (N.is_once (N.least_in o.0)) most) ∙ sym c.if-are_once.ensures) (sym c.if-are_impossible.ensures) is re (least ∙ sym (ap N.least_of o.1)) (most ∙ sym (ap N.most_of o.1))
