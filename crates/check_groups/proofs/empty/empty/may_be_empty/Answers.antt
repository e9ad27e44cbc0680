use Rattle.std.proofs.lemmas.Result.{IfOk-weaker}
use Rattle.check_groups.proofs.OfEmpty.Emptiness.{are_empty}
use Rattle.check_groups.proofs.empty.empty.may_be_empty.Goals as goal

pub returns : goal.returns
returns c = IfOk-weaker c.flags_of.result _ _ (λ v f xs root refs k a o. let found = f xs root refs (record { closed = k; kinds = a; openings = o }) in are_empty xs root c.args.terms.now found.0 found.1 v.items found.2) c.flags_of.ensures
