use Rattle.std.proofs.Common.{◌++◌, sym, subst, arith}
use Rattle.std.proofs.lemmas.Result.{IfOk-weaker}
use Rattle.read_building.specs.Progress as build
use Rattle.read_building.specs.Progress.{state_in}
use Rattle.read_building.specs.Working.{IsWork}
use Rattle.read_building.proofs.Steps.{are_bytes, more, whole, bad_end, bad_on, refused, full}
use Rattle.read_building.proofs.work.build.Goals as goal

pub returns-in-More : goal.returns-in-More
returns-in-More c =
    let d = c.args.depth in
    let at = c.args.at in
    let piece = c.args.piece.now in
    let s = state_in c.args.builder.now in
    let t = state_in c.build.new.self in
    let bytes = are_bytes piece (λ i. omega (arith, c.type_inv.piece i)) in
    let w = subst (λ p. build.IsProgress d at s piece p t) c.in-More.is c.in_ok-build.ensures.answer in
    λ o fed e b. subst (IsWork d o (fed ++ piece) t c.args.form.now) (sym c.requires.none) (more d o at fed piece s t e b bytes c.in_ok-build.ensures.next w)

pub returns-in-Whole : goal.returns-in-Whole
returns-in-Whole c =
    let d = c.args.depth in
    let at = c.args.at in
    let piece = c.args.piece.now in
    let s = state_in c.args.builder.now in
    let t = state_in c.build.new.self in
    let bytes = are_bytes piece (λ i. omega (arith, c.type_inv.piece i)) in
    let w = subst (λ p. build.IsProgress d at s piece p t) c.in-Whole.is c.in_ok-build.ensures.answer in
    λ o fed e b. whole d o at fed piece s t c.args.form.now c.args.noted.now c.in-Whole.used _ e c.requires.none b bytes w

pub returns-in-None : goal.returns-in-None
returns-in-None c =
    let d = c.args.depth in
    let at = c.args.at in
    let piece = c.args.piece.now in
    let s = state_in c.args.builder.now in
    let t = state_in c.build.new.self in
    let bytes = are_bytes piece (λ i. omega (arith, c.type_inv.piece i)) in
    let w = subst (λ p. build.IsProgress d at s piece p t) c.in-BadText.is c.in_ok-build.ensures.answer in
    λ o fed e b. bad_end d o at fed piece s t c.in-BadText.used c.in-BadText.place e b bytes (subst (λ a. build.IsBad d at s piece c.in-BadText.used c.in-BadText.place a t) c.in-None.is w)

pub follow-requires : goal.follow-requires
follow-requires c =
    let d = c.args.depth in
    let at = c.args.at in
    let piece = c.args.piece.now in
    let s = state_in c.args.builder.now in
    let t = state_in c.build.new.self in
    let w = subst (λ p. build.IsProgress d at s piece p t) c.in-BadText.is c.in_ok-build.ensures.answer in
    w.within

pub returns-in-Some : goal.returns-in-Some
returns-in-Some c =
    let d = c.args.depth in
    let at = c.args.at in
    let piece = c.args.piece.now in
    let s = state_in c.args.builder.now in
    let t = state_in c.build.new.self in
    let w = subst (λ p. build.IsProgress d at s piece p t) c.in-BadText.is c.in_ok-build.ensures.answer in
    let bytes = are_bytes piece (λ i. omega (arith, c.type_inv.piece i)) in
    IfOk-weaker c.follow.result _ _ (λ step f. λ o fed e b. f o fed t (bad_on d o at fed piece s t c.in-BadText.used c.in-BadText.place c.in-Some.after e b bytes (subst (λ a. build.IsBad d at s piece c.in-BadText.used c.in-BadText.place a t) c.in-Some.is w))) c.follow.ensures

pub returns-in-Refused : goal.returns-in-Refused
returns-in-Refused c =
    let d = c.args.depth in
    let at = c.args.at in
    let piece = c.args.piece.now in
    let s = state_in c.args.builder.now in
    let t = state_in c.build.new.self in
    let bytes = are_bytes piece (λ i. omega (arith, c.type_inv.piece i)) in
    let w = subst (λ p. build.IsProgress d at s piece p t) c.in-Refused.is c.in_ok-build.ensures.answer in
    λ o fed e b. refused d o at fed piece s t c.in-Refused.used c.in-Refused.kind e b bytes c.in_ok-build.ensures.next w

pub returns-in-TooDeep : goal.returns-in-TooDeep
returns-in-TooDeep c =
    let d = c.args.depth in
    let at = c.args.at in
    let piece = c.args.piece.now in
    let s = state_in c.args.builder.now in
    let t = state_in c.build.new.self in
    let bytes = are_bytes piece (λ i. omega (arith, c.type_inv.piece i)) in
    let w = subst (λ p. build.IsProgress d at s piece p t) c.in-TooDeep.is c.in_ok-build.ensures.answer in
    λ o fed e b. full d o at fed piece s t c.in-TooDeep.used e b bytes c.in_ok-build.ensures.next w
