-- What callers' proofs may name of this crate.
use Rattle.std.proofs.Common.{◌≡◌, ℕ, ◌↔◌, Some, [], ◌∷◌, refl, sym, ap, subst, ◌∙◌}
use Rattle.cddl_language.specs.Terms.{Text}
use Rattle.cddl_language.specs.Numbers as N
use Rattle.cddl_language.specs.Faults.{IsOver}
use Rattle.check_terms.specs.declared.texts.occurrences.Occurrence.{Occurrence}
use Rattle.check_terms.specs.Texts.Occurrence.{IsOccurrence, most_in}
use Rattle.check_terms.specs.declared.texts.tags.TagNumber.{TagNumber}
use Rattle.check_terms.specs.declared.texts.tags.TagNumber.TheVariants.{Any, Exactly, TooGreat}
use Rattle.check_terms.specs.Texts.TagNumber.{Answers, IsTagNumber}

-- An occurrence of a text is once exactly where the text says so, and over its maximum likewise.

pub once : (t : Text) (o : Occurrence) → IsOccurrence t o → N.is_once o.least (most_in o.most) ≡ N.occurs_once (Some t)
once t o h = ap (λ n. N.is_once n (most_in o.most)) h.least_is ∙ ap (N.is_once (N.least_in t)) h.most_is

pub over : (t : Text) (o : Occurrence) → IsOccurrence t o → IsOver o.least (most_in o.most) ↔ IsOver (N.least_of (Some t)) (N.most_of (Some t))
over t o h = (λ k. subst (IsOver (N.least_in t)) h.most_is (subst (λ n. IsOver n (most_in o.most)) h.least_is k), λ k. subst (λ n. IsOver n (most_in o.most)) (sym h.least_is) (subst (IsOver (N.least_in t)) (sym h.most_is) k))

-- A tag number is the same for any names of types.

same_answer : (X : Type 0) (rest : Text) (a : TagNumber) → Answers (N.number_or_any rest {N = ℕ}) a → Answers (N.number_or_any rest {N = X}) a
same_answer X [] Any h = refl
same_answer X [] (Exactly n) h = cc
same_answer X [] TooGreat h = absurd h
same_answer X (b ∷ bs) Any h = cc
same_answer X (b ∷ bs) (Exactly n) h = cc
same_answer X (b ∷ bs) TooGreat h = h

pub tag_anywhere : (X : Type 0) (t : Text) (a : TagNumber) → IsTagNumber t a → Answers (N.tag_number t {N = X}) a
tag_anywhere X t a h = same_answer X (N.after 46 t) a h
