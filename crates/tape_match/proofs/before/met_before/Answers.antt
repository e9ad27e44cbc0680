use Rattle.std.proofs.Common.{◌≡◌, ◌-◌, Some, length, refl, sym, ◌∙◌, subst, arith}
use Rattle.std.proofs.lemmas.Option.{slice_get_read}
use Rattle.tape_match.specs.Told.{IsPairToldAt}
use Rattle.tape_match.specs.declared.told.Meets.TheVariants as M
use Rattle.tape_match.proofs.Left.{met_again}
use Rattle.tape_match.proofs.before.met_before.Goals as goal

pub returns-clause-told : goal.returns-clause-told
returns-clause-told c = λ l ws t es next many met.
    let m = c.in-Some-Some.pair in
    let way : m.way ≡ c.args.number - 1 = omega (arith, c.if-pair-saturating_sub.false, c.saturating_sub.ensures) in
    let key : m.key ≡ c.args.key = omega (arith, c.if-pair-key.false) in
    let held : m.held ≡ c.args.held = omega (arith, c.if-pair-held.false) in
    let told = met_again l ws t c.args.number c.args.same es m next way (omega (arith, c.if-pair-same.false)) (met c.args.index (Some m) (slice_get_read _ (length c.args.met.now) c.args.index (Some m) refl c.in-Some-Some.ensures.lookup.3.0 (sym c.in-Some-Some.field-0-is ∙ c.in-Some-Some.ensures.lookup.3.1 (Some m)))) in
    subst (λ n. IsPairToldAt l es t c.args.key c.args.held (M.Takes (n - 1 - m.number) m.asked)) many (subst (λ n. IsPairToldAt l es t c.args.key n (M.Takes (length es - 1 - m.number) m.asked)) held (subst (λ n. IsPairToldAt l es t n m.held (M.Takes (length es - 1 - m.number) m.asked)) key told))
