use Rattle.std.proofs.Common.{Some, None, ap, length, arith}
use Rattle.std.proofs.lemmas.Option.{slice_get_within}
use Rattle.std.proofs.lemmas.Result.{IfOk-weaker}
use Rattle.check_terms.specs.declared.row.Form.TheVariants as F
use Rattle.check_terms.specs.Table.{node, nothing, no_part, no_text, some_text}
use Rattle.check_instances.proofs.found.root_call.Goals as goal

pub add-requires-2 : goal.add-requires-2
add-requires-2 c =
    let t = c.add.new.self in
    let count = c.text_count.ensures in
    let same = ap length c.in_ok-none.ensures.adds.0 in
    record { parts = (omega (arith, count, same), slice_get_within t.rows c.in_ok-none.none _ c.in_ok-none.ensures.there, tt) }

pub returns-clause-stands : goal.returns-clause-stands
returns-clause-stands c =
    let none = node F.NoTerms None nothing nothing in
    IfOk-weaker c.add-2.result _ _ (λ n h x e. h (Some x) none nothing (some_text (c.in_ok-none.ensures.grows.texts c.args.root x e)) (c.in_ok-none.ensures.stands None nothing nothing no_text no_part no_part) no_part) c.add-2.ensures.stands
