use Rattle.std.proofs.Common.{refl, sym, ◌∙◌, subst}
use Rattle.cbor_tape.specs.Keys.{mark_of, IsWithKey}
use Rattle.cbor_tape.proofs.Marks.{with_first, with_higher, with_other}
use Rattle.cbor_tape.proofs.keys.highest_with.Goals as goal

pub returns-in_default : goal.returns-in_default
returns-in_default c = λ own k.
    subst (λ o. IsWithKey c.args.bytes.now c.args.tape.now c.args.first c.args.last o c.args.at own) (sym c.in_default.is) (with_first c.args.bytes.now c.args.tape.now c.args.first c.args.last c.args.at own k)

pub returns-in-Less : goal.returns-in-Less
returns-in-Less c = λ own k.
    let b = c.args.bytes.now in
    let t = c.args.tape.now in
    let top = c.in_ok-top.top in
    let key = c.in_ok-key.key in
    subst (λ o. IsWithKey b t c.args.first c.args.last o c.args.at own) (sym c.in-Some.is)
    (with_higher b t c.args.first c.args.last c.in-Some.before c.args.at (mark_of top) (mark_of key) c.in_ok-top.ensures c.in_ok-key.ensures (sym c.compare.ensures ∙ c.in-Less.is) own k)

pub returns-in-Greater : goal.returns-in-Greater
returns-in-Greater c = λ own k.
    let b = c.args.bytes.now in
    let t = c.args.tape.now in
    let top = c.in_ok-top.top in
    let key = c.in_ok-key.key in
    subst (λ o. IsWithKey b t c.args.first c.args.last o c.in-Some.before own) (sym c.in-Some.is)
    (with_other b t c.args.first c.args.last c.in-Some.before c.args.at (mark_of top) (mark_of key) c.in_ok-top.ensures c.in_ok-key.ensures (sym c.compare.ensures ∙ c.in-Greater.is) (c.if-is_new.ensures refl) own k)
