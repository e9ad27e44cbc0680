-- What is wrong with the root is told at one offset at most.
use Rattle.std.proofs.Common.{◌≡◌, ℕ, Some, sym, ap, subst, ◌∙◌}
use Rattle.cddl_language.specs.Faults.{HasBadRoot, HasNoRoot, no_rule, no_such, Specification, first_rule, root_of, rules}
use Rattle.cddl_language.specs.Reading.{name_at}
use Rattle.lists.proofs.Lemmas.{one_of}
use Rattle.all_offsets.proofs.Lemmas.{IsOne}

at_zero : (s : Specification) (p : ℕ) → HasNoRoot s p → p ≡ 0
at_zero s p (no_rule e f) = f
at_zero s p (no_such e d f) = f

pub one_no_root : (s : Specification) → IsOne (HasNoRoot s)
one_no_root s p q h k = at_zero s p h ∙ sym (at_zero s q k)

pub one_bad_root : (s : Specification) → IsOne (HasBadRoot s)
one_bad_root s p q h k =
    let same = one_of (root_of s) k.root h.root k.rooted h.rooted in
    let first = subst (λ n. first_rule (rules s) n ≡ Some k.rule) same k.first in
    h.offset ∙ ap name_at (one_of (first_rule (rules s) h.root) h.rule k.rule h.first first) ∙ sym k.offset
