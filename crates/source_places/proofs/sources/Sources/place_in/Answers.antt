use Rattle.std.proofs.Common.{◌≡◌, ◌==◌, ℕ, List, length, sym, ap, subst, ◌∙◌}
use Rattle.cddl_language.specs.Terms.{arguments_of}
use Rattle.check_terms.specs.Filled.{term_trees}
use Rattle.check_terms.specs.Fill.Templates.{AreTrees}
use Rattle.std.proofs.lemmas.Bool.{eqb-true}
use Rattle.source_pieces.specs.Instances.{all_as_written, term_in}
use Rattle.source_places.proofs.LastInstance.{arguments, filled_in, instance, is_last, is_last_of, none_has, not_empty, plain_in, some_have}
use Rattle.source_places.proofs.Stepping.{none_then, ok_then, some_then}
use Rattle.source_places.proofs.sources.Sources.place_in.Goals as goal

pub returns-then-is_empty-clause-some : goal.returns-then-is_empty-clause-some
returns-then-is_empty-clause-some c =
    let x = c.args.self.now in
    let chain = c.args.chain.now in
    let i = c.args.instance in
    let ns = c.in-Ok.arguments.items in
    let none : length ns ≡ 0 = eqb-true (length ns) 0 (sym (c.is_empty.ensures ∙ ap (λ n. n == 0) c.in-Ok.arguments.ok.0) ∙ c.if-is_empty.true) in
    ok_then c.place.result _ _
    (λ o f. some_then o _ _
    (λ p g s table known.
    let are = arguments s table x known chain i c.requires ns c.in-Ok.ensures in
    g s known.terms known.nodes (instance s table x known chain i c.requires) (plain_in s table x known chain i c.requires ns (c.equal_terms.ensures all_as_written (term_in (instance s table x known chain i c.requires))) none are) (is_last s table x known chain i c.requires) (none_has s table x known chain i c.requires ns none are)) f)
    c.place.ensures.some

pub returns-then-is_empty-clause-none : goal.returns-then-is_empty-clause-none
returns-then-is_empty-clause-none c = ok_then c.place.result _ _ (λ o f. none_then o _ _ (λ g s table known. g s known.terms known.nodes all_as_written known.types) f) c.place.ensures.none

pub returns-in-Ok-filled-clause-some : goal.returns-in-Ok-filled-clause-some
returns-in-Ok-filled-clause-some c =
    let x = c.args.self.now in
    let chain = c.args.chain.now in
    let i = c.args.instance in
    let ns = c.deref.result.now in
    let y = c.in-Ok-filled.text in
    ok_then c.place-in-Ok-filled.result _ _
    (λ o f. some_then o _ _
    (λ p g s table known.
    let are = subst (λ (ms : List ℕ). AreTrees x.terms ms (term_trees (arguments_of (instance s table x known chain i c.requires)))) (sym c.deref.ensures.value) (arguments s table x known chain i c.requires c.in-Ok.arguments.items c.in-Ok.ensures) in
    g s known.terms known.nodes (instance s table x known chain i c.requires) (filled_in s table x known chain i c.requires ns y c.in-Ok-filled.ensures.filled are) (is_last_of s table x known chain i c.requires y c.in-Ok-filled.ensures.origins c.in-Ok-filled.ensures.numbers c.in-Ok-filled.ensures.rules) (c.in-Ok-filled.ensures.is_filled ∙ some_have s table x known chain i c.requires c.in-Ok.arguments.items (not_empty c.in-Ok.arguments.items (sym (c.is_empty.ensures ∙ ap (λ n. n == 0) c.in-Ok.arguments.ok.0) ∙ c.if-is_empty.false)) (arguments s table x known chain i c.requires c.in-Ok.arguments.items c.in-Ok.ensures))) f)
    c.place-in-Ok-filled.ensures.some

pub returns-in-Ok-filled-clause-none : goal.returns-in-Ok-filled-clause-none
returns-in-Ok-filled-clause-none c =
    let x = c.args.self.now in
    let chain = c.args.chain.now in
    let i = c.args.instance in
    let ns = c.deref.result.now in
    ok_then c.place-in-Ok-filled.result _ _
    (λ o f. none_then o _ _
    (λ g s table known.
    let q = instance s table x known chain i c.requires in
    let are = subst (λ (ms : List ℕ). AreTrees x.terms ms (term_trees (arguments_of q))) (sym c.deref.ensures.value) (arguments s table x known chain i c.requires c.in-Ok.arguments.items c.in-Ok.ensures) in
    g s known.terms known.nodes (term_in q) (filled_in s table x known chain i c.requires ns c.in-Ok-filled.text c.in-Ok-filled.ensures.filled are)) f)
    c.place-in-Ok-filled.ensures.none
