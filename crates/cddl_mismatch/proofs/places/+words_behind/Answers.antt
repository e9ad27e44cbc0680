use Rattle.std.proofs.Common.{ap, arith, length, string_bytes}
use Rattle.std.proofs.lemmas.Result.{IfOk-weaker}
use Rattle.item_nodes.specs.View.{view}
use Rattle.cddl_mismatch.proofs.Paths.{inside_there, no_more, unheld_there}
use Rattle.cddl_mismatch.proofs.places.+words_behind.Goals as goal

pub returns-in_default : goal.returns-in_default
returns-in_default t c = IfOk-weaker c.words_at.result _ _ (λ words h. no_more c.args.path.items (view c.args.item.now) c.args.strings.now c.args.place (string_bytes words) c.in_default.ensures.cases h) c.words_at.ensures

pub returns-in_default-2 : goal.returns-in_default-2
returns-in_default-2 t c = IfOk-weaker c.words_at-in_default-2.result _ _ (λ words h. unheld_there c.args.path.items (view c.args.item.now) c.args.strings.now c.in-Some.others.now c.in-Some.string.now c.args.place (string_bytes words) c.in-Some.ensures.cases.0 (rw c.in_default-2.is at c.in_ok-held.ensures) h) c.words_at-in_default-2.ensures

pub returns : goal.returns
returns t c = IfOk-weaker c.words_behind.result _ _ (λ words h. inside_there c.args.path.items c.push_steps.new.path.items c.extend_from_slice.new.self.items (view c.args.item.now) (view c.in-Some-2.held) c.args.strings.now c.in-Some.others.now c.in-Some.string.now c.args.place (string_bytes words) c.in-Some.ensures.cases.0 c.in_ok-push_steps.ensures c.in_ok-extend_from_slice.ensures.items (rw c.in-Some-2.is at c.in_ok-held.ensures) h) c.words_behind.ensures

pub words_behind-requires : goal.words_behind-requires
words_behind-requires t c = omega (arith, ap length c.in-Some.ensures.cases.0)
