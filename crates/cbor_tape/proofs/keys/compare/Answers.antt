use Rattle.std.proofs.Common.{sym, ◌∙◌}
use Rattle.std.specs.Ordering.{nat_cmp}
use Rattle.cbor_tape.proofs.Marks.{by_heads, by_strings}
use Rattle.cbor_tape.proofs.keys.compare.Goals as goal

pub returns-in-Equal : goal.returns-in-Equal
returns-in-Equal c =
    let k = c.args.key.now in
    let o = c.args.other.now in
    c.cmp.ensures ∙ by_strings (nat_cmp k.kind o.kind) (nat_cmp k.argument o.argument) _ (sym c.by_heads.ensures ∙ c.in-Equal.is)

pub returns-in_default : goal.returns-in_default
returns-in_default c =
    let k = c.args.key.now in
    let o = c.args.other.now in
    by_heads (nat_cmp k.kind o.kind) (nat_cmp k.argument o.argument) _ c.by_heads.result c.by_heads.ensures c.in_default.not-Equal
