use Rattle.std.proofs.Common.{drop, subst, arith}
use Rattle.read_items.specs.Form.Progress as form
use Rattle.read_building.proofs.Steps.{are_bytes, rest_is, more_noted, noted_end, noted_refused, noted_full}
use Rattle.read_building.proofs.work.follow.Goals as goal

pub returns-in-More : goal.returns-in-More
returns-in-More c =
    let d = c.args.depth in
    let piece = c.args.piece.now in
    let from = c.args.from in
    let place = c.args.place in
    let m = c.args.form.now in
    let n = c.read.new.self in
    let bytes = are_bytes piece (λ i. omega (arith, c.type_inv.piece i)) in
    let w = subst (λ p. form.IsProgress d m (drop from piece) p n) c.in-More.is (subst (λ b. form.IsProgress d m b c.in_ok-read.field-0 n) (rest_is piece from) c.in_ok-read.ensures.answer) in
    λ o fed s b. more_noted d o fed piece m n from place b bytes c.in_ok-read.ensures.next w

pub returns-in-Whole : goal.returns-in-Whole
returns-in-Whole c =
    let d = c.args.depth in
    let piece = c.args.piece.now in
    let from = c.args.from in
    let place = c.args.place in
    let m = c.args.form.now in
    let n = c.read.new.self in
    let bytes = are_bytes piece (λ i. omega (arith, c.type_inv.piece i)) in
    let w = subst (λ p. form.IsProgress d m (drop from piece) p n) c.in-Whole.is (subst (λ b. form.IsProgress d m b c.in_ok-read.field-0 n) (rest_is piece from) c.in_ok-read.ensures.answer) in
    λ o fed s b. noted_end d o fed piece m n from c.in-Whole.used place c.requires b bytes w

pub returns-in-Refused : goal.returns-in-Refused
returns-in-Refused c =
    let d = c.args.depth in
    let piece = c.args.piece.now in
    let from = c.args.from in
    let place = c.args.place in
    let m = c.args.form.now in
    let n = c.read.new.self in
    let bytes = are_bytes piece (λ i. omega (arith, c.type_inv.piece i)) in
    let w = subst (λ p. form.IsProgress d m (drop from piece) p n) c.in-Refused.is (subst (λ b. form.IsProgress d m b c.in_ok-read.field-0 n) (rest_is piece from) c.in_ok-read.ensures.answer) in
    λ o fed s b. noted_refused d o fed piece m n from c.in-Refused.used place c.in-Refused.kind b bytes c.in_ok-read.ensures.next w

pub returns-in-TooDeep : goal.returns-in-TooDeep
returns-in-TooDeep c =
    let d = c.args.depth in
    let piece = c.args.piece.now in
    let from = c.args.from in
    let place = c.args.place in
    let m = c.args.form.now in
    let n = c.read.new.self in
    let bytes = are_bytes piece (λ i. omega (arith, c.type_inv.piece i)) in
    let w = subst (λ p. form.IsProgress d m (drop from piece) p n) c.in-TooDeep.is (subst (λ b. form.IsProgress d m b c.in_ok-read.field-0 n) (rest_is piece from) c.in_ok-read.ensures.answer) in
    λ o fed s b. noted_full d o fed piece m n from c.in-TooDeep.used place b bytes c.in_ok-read.ensures.next w
