use Rattle.std.proofs.Common.{sym, subst}
use Rattle.std.proofs.lemmas.Result.{IfOk-weaker}
use Rattle.cddl_language.specs.Prelude.{prelude}
use Rattle.check_instances.specs.Bodies.{ArePatterns}
use Rattle.check_instances.proofs.found.instances_of.Goals as goal

pub returns-clause-found : goal.returns-clause-found
returns-clause-found c =
    let t = c.args.terms.now in
    let keeps = c.growing_keeps.ensures in
    IfOk-weaker c.search_from.result _ _ (λ f found xs n count known own are root. found xs n (record {
      stand = λ new grows is k m name g h. c.names_stand.ensures new count k c.args.known.now c.args.definitions.now c.args.names.now xs m name is (keeps.definitions t new grows c.args.known.now prelude known) (keeps.definitions t new grows c.args.definitions.now xs own) are g h;
      of_prelude = subst (λ ps. ArePatterns t ps prelude) (sym c.deref.ensures.value) (c.in_ok-known.ensures prelude known);
      of_text = subst (λ ps. ArePatterns t ps xs) (sym c.deref-2.ensures.value) (c.in_ok-own.ensures xs own);
    }) root) c.search_from.ensures.found
