use Rattle.std.proofs.Common.{◌≡◌, ◌<◌, Some, length, refl, slice_get, subst, arith}
use Rattle.std.proofs.lemmas.Option.{slice_get_read}
use Rattle.cddl_match.proofs.Passed.{all_no, goes_past, is_spent}
use Rattle.cddl_match.proofs.choosing.Members.next.Goals as goal

pub returns-in_default : goal.returns-in_default
returns-in_default c = λ l x p far h s. ((λ e r w d. is_spent l x p far s c.args.self.now h c.args.means.now.left c.saturating_sub-passed.result (omega (arith, c.saturating_sub-passed.ensures, c.first-first.ensures)) (omega (arith, c.in_default.ensures)) r w d), λ e. absurd (cc e))

pub returns-in_default-get : goal.returns-in_default-get
returns-in_default-get c = λ l x p far h s. ((λ e. absurd (cc (h.0, e))), λ e. all_no l x p far s c.args.self.now h (omega (arith, c.in_default-get.ensures.lookup, c.first-first.ensures)) c.args.means.now.left c.in-Some.left c.saturating_sub-passed.result (omega (arith, c.saturating_sub-passed.ensures, c.first-first.ensures)) (omega (arith, c.in-Some.ensures)))

pub returns : goal.returns
returns c = λ l x p far h s.
    let m = c.args.self.now in
    let inside : c.first-first.result < length m.members.now = omega (arith, c.in-Some-get.ensures.lookup) in
    let there = slice_get_read m.members.now _ c.first-first.result c.in-Some-get.member.now refl inside c.in-Some-get.ensures.lookup.1 in
    goes_past l x p far s m c.after.result c.in-Some-get.member.now h (c.after.ensures.asking l x h c.first-first.ensures) (omega (arith, inside, c.first-first.ensures)) (subst (λ j. slice_get m.members.now j ≡ Some c.in-Some-get.member.now) c.first-first.ensures there) (rw c.first-first.ensures at c.after.ensures.left) c.args.means.now.left c.in-Some.left c.saturating_sub-passed.result (omega (arith, c.saturating_sub-passed.ensures, c.first-first.ensures)) (omega (arith, c.in-Some.ensures))
