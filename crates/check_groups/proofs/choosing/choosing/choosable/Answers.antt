use Rattle.std.proofs.lemmas.Result.{IfOk-weaker}
use Rattle.check_groups.proofs.OfChoosing.Meaning.{are_choosable}
use Rattle.check_groups.proofs.choosing.choosing.choosable.Goals as goal

pub returns : goal.returns
returns c = IfOk-weaker c.flags_of.result _ _ (λ v f xs root refs have k a o. let found = f xs root refs (record { closed = k; kinds = a; openings = o }) in are_choosable xs root c.args.terms.now found.0 found.1 have refs k.instances (c.opened_is_reached.ensures.group xs root) k.few v.items found.2) c.flags_of.ensures
