use Rattle.std.proofs.Common.{sym}
use Rattle.std.proofs.lemmas.Bool.{ltb-false, ltb-true}
use Rattle.check_names.proofs.OfEnvironment.Adding.{unwritten, written}
use Rattle.check_names.proofs.environment.places.add_place.Goals as goal

pub returns-in_ok-push : goal.returns-in_ok-push
returns-in_ok-push c = written c.args.name c.args.place c.args.places.now.items c.in-Some.own.now c.push.new.self (ltb-true _ _ (sym c.in-Some.ensures.item.0)) c.in-Some.ensures.item.1 c.in_ok-push.ensures.items

pub returns-in_default : goal.returns-in_default
returns-in_default c = sym (unwritten c.args.name c.args.place c.args.places.now.items (ltb-false _ _ (sym c.in_default.ensures.item.0)))
