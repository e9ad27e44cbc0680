use Rattle.std.proofs.Common.{[], sym, subst}
use Rattle.check_terms.specs.Definitions.{AreTexts, no_texts}
use Rattle.tree_nodes.specs.View.{token_of}
use Rattle.check_reading.proofs.OfReader.Defining.{all_named, first_named, next_named}
use Rattle.check_reading.proofs.OfReader.Growing.{grown}
use Rattle.check_reading.proofs.reader.definitions.read_names.Goals as goal

pub loop-parameter-init : goal.loop-parameter-init
loop-parameter-init c = record {
  grows = c.in_ok-add_name.ensures.grows;
  are =
      first_named (token_of c.args.tree.now) c.args.parameters.now c.add_name.new.terms c.add_name.new.names.items c.deref-parameter-items.result.now c.deref-parameter-items.ensures.value
      (c.in_ok-add_name.ensures.added [] (subst (λ ns. AreTexts c.args.terms.now.texts ns []) (sym c.new-names.ensures.items) no_texts));
}

pub returns-in_err-add_name-2-clause-grows : goal.returns-in_err-add_name-2-clause-grows
returns-in_err-add_name-2-clause-grows c = grown _ _ _ c.loop-parameter.invariant.grows c.in_err-add_name-2.ensures.grows

pub loop-parameter-preserved : goal.loop-parameter-preserved
loop-parameter-preserved c = record {
  grows = grown _ _ _ c.loop-parameter.invariant.grows c.in_ok-add_name-2.ensures.grows;
  are = next_named (token_of c.args.tree.now) c.args.parameters.now c.loop-parameter.terms c.add_name-in-loop-parameter.new.terms c.loop-parameter.names.items c.add_name-in-loop-parameter.new.names.items c.deref-parameter-items.result.now c.loop-parameter.parameter-index _ c.loop-parameter-test.true c.loop-parameter.invariant.are c.in_ok-add_name-2.ensures.added;
}

pub returns-clause-parameters : goal.returns-clause-parameters
returns-clause-parameters c = all_named (token_of c.args.tree.now) c.args.parameters.now c.loop-parameter.terms c.loop-parameter.names.items c.deref-parameter-items.result.now c.loop-parameter.parameter-index c.loop-parameter-test.false c.loop-parameter.invariant.are
