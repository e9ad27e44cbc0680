use Rattle.std.proofs.Common.{List, subst}
use Rattle.tree_nodes.specs.View.{view}
use Rattle.tree_nodes.specs.declared.tree.Tree.{Tree}
use Rattle.cddl_language.specs.Reading.{rules_of}
use Rattle.check_instances.specs.declared.closed.closed.Meaning.{Meaning}
use Rattle.table_making.specs.declared.origin.TypeOrigin.{TypeOrigin}
use Rattle.source_places.specs.Sources.{IsTold}
use Rattle.cddl_sources.proofs.compile_with_sources.Goals as goal

pub compile_with_origins-requires : goal.compile_with_origins-requires
compile_with_origins-requires c = (c.args.spec.now.tree, c.args.spec.now.root, c.findings-findings.ensures)

pub returns-in-Ok-clause-stands : goal.returns-in-Ok-clause-stands
returns-in-Ok-clause-stands c = c.in_ok-traced.ensures.stands c.args.spec.now.tree c.args.spec.now.root c.findings-findings.ensures

pub returns-in-Ok-clause-sources : goal.returns-in-Ok-clause-sources
returns-in-Ok-clause-sources c = λ worth right.
    let f = c.findings-findings.result.now in
    let t = c.in_ok-traced.ensures.traced c.args.spec.now.tree c.args.spec.now.root c.findings-findings.ensures worth right in
    let o = t.2 in
    let named = subst (λ (ms : List Meaning). IsTold f.terms ms (rules_of (view c.tree.result.now)) c.in_ok-traced.traced.origins.items c.in-Ok.sources) c.deref.ensures.value c.in-Ok.ensures in
    let told = subst (λ (tree : Tree). IsTold f.terms f.meant.closed.meanings.items (rules_of (view tree)) c.in_ok-traced.traced.origins.items c.in-Ok.sources) c.tree.ensures named in
    let all = subst (λ (os : List TypeOrigin). IsTold f.terms f.meant.closed.meanings.items (rules_of (view c.args.spec.now.tree)) os c.in-Ok.sources) o.same_origins told in (
      t.0,
      t.1.meant.closed.instances,
      record {
        terms = f.terms;
        nodes = o.nodes;
        types = record {
          meanings = f.meant.closed.meanings.items;
          are_nodes = o.are_nodes;
          are_meanings = λ k q e. let m = c.meaning_at.ensures _ _ t.0 f.terms f.meant.closed k q t.1.meant.closed e in (m.0, m.1, m.2.ref);
          made = all.made;
        };
        kept = all.kept;
        same_language = o.same_language;
        same_root = o.same_root;
      },
    )
