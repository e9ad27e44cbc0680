use Rattle.std.proofs.Common.{◌≡◌, ℕ, ◌-◌, length, slice_get, refl, sym, ap, ◌∙◌, subst, arith}
use Rattle.std.proofs.lemmas.Option.{slice_get_read}
use Rattle.lists.proofs.Lemmas.{same_some}
use Rattle.table_nodes.specs.Nodes.{alternatives_view, entries_view}
use Rattle.tape_match.specs.Says.{BeginSame}
use Rattle.tape_match.proofs.Left.{alike_same, way_view}
use Rattle.tape_match.proofs.pairs.same_as_before.Goals as goal

pub returns-in-Some : goal.returns-in-Some
returns-in-Some c = λ before there alike.
    let es = entries_view c.args.entries.now in
    let all = alternatives_view c.args.ways.now in
    let at : c.saturating_sub.result ≡ c.args.number - 1 = omega (arith, c.saturating_sub.ensures) in
    let read = slice_get_read c.args.ways.now (length c.args.ways.now) c.saturating_sub.result c.in-Some.before.now refl c.in-Some.ensures.lookup.3.0 (c.in-Some.ensures.lookup.3.1 c.in-Some.before.now) in
    let one = same_some (sym (way_view c.args.ways.now c.saturating_sub.result c.in-Some.before.now read) ∙ (ap (λ (k : ℕ). slice_get all k) at ∙ there)) in
    let is : entries_view c.as_slice.result.now ≡ before = ap entries_view c.as_slice.ensures.value ∙ one in
    subst (λ xs. BeginSame c.same_from.result xs es) is (c.same_from.ensures (subst (λ xs. BeginSame c.args.front xs es) (sym is) (alike_same c.args.front before es alike)))
