use Rattle.std.proofs.Common.{List, Some, ◌∙◌, sym, subst}
use Rattle.cddl_language.specs.Prelude.{prelude}
use Rattle.cddl_language.specs.Terms.{call, no_terms}
use Rattle.check_names.specs.declared.environment.environment.Name.{Name}
use Rattle.check_names.specs.Environment.Names.{AreNames}
use Rattle.check_terms.specs.declared.definition.Definition.{Definition}
use Rattle.check_terms.specs.Definitions.{AreDefinitions}
use Rattle.check_terms.specs.Trees.{ref_tree}
use Rattle.check_instances.specs.Found.{IsFound}
use Rattle.check_instances.proofs.OfOutlines.Reaching.{outlines_too_many}
use Rattle.check_instances.proofs.found.count_outlines.Goals as goal

pub returns-in-Ok-TooMany-clause-found : goal.returns-in-Ok-TooMany-clause-found
returns-in-Ok-TooMany-clause-found c = λ xs n known own root.
    let keeps = c.growing_keeps.ensures in
    let old = c.args.terms.now in
    let mid = c.outlines.new.terms in
    let made = c.in_ok-outlines.ensures in
    let so = made.outlines xs own in
    let its = subst (λ (ds : List Definition). AreDefinitions mid ds so.outlines) (sym c.deref-3.ensures.value) so.hold in
    let named = subst (λ (ns : List Name). AreNames c.text_count.result c.args.known.now c.deref.result.now ns) (sym c.deref-2.ensures.value) c.in-Ok.ensures in
    let names = subst (λ (ds : List Definition). AreNames c.text_count.result c.args.known.now ds c.deref-2.result.now) (c.deref.ensures.value ∙ sym c.deref-3.ensures.value) named in
    outlines_too_many so.outlines xs n so.are_outlines (subst (IsFound so.outlines n c.instances_of.new.terms) c.in-Ok-TooMany.field-0-is (c.in-Ok-TooMany.ensures.found so.outlines n c.text_count.result (keeps.definitions old mid made.grows c.args.known.now prelude known) its names (keeps.tree old mid made.grows (Some c.args.root) (ref_tree (call n no_terms)) root)))
