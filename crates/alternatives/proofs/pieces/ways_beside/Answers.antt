use Rattle.std.proofs.Common.{◌≡◌, ◌++◌, ◌∙◌, ap, map, refl, sym, vec_items, length, arith}
use Rattle.std.proofs.lemmas.Option.{slice_get_read}
use Rattle.alternatives.specs.Splices.{ways}
use Rattle.alternatives.proofs.Making.{one_second, ways_one}
use Rattle.alternatives.proofs.pieces.ways_beside.Goals as goal

pub returns : goal.returns
returns c =
    let first = map vec_items c.args.first.items in
    let second = c.args.second.now in
    let one : length second ≡ 1 = c.if-second-ne1.false in
    let x = c.index-second-0.result in
    let second_is = one_second second x one (slice_get_read second (length second) 0 x refl (omega (arith, one)) c.index-second-0.is) in
    c.in_ok-put_behind.ensures ∙ (ap (λ ns. map (λ ms. ms ++ ns) first) c.deref-2.ensures.value ∙ (ways_one first x.items ∙ ap (λ xs. ways first (map vec_items xs)) (sym second_is)))
