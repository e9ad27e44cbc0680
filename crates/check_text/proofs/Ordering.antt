-- The codes of the whole text come before that of too many instances, and those of what the root reaches after it.
use Rattle.std.proofs.Common.{◌≡◌, ℕ, ◌<◌, inl, inr, List, [], ◌∷◌, Some, None, sym, subst, arith}
use Rattle.cddl_token.specs.declared.Code.{Code}
use Rattle.cddl_token.specs.declared.Code.TheVariants as C
use Rattle.lists.specs.Least.{IsLeast}
use Rattle.cddl_language.specs.Faults.{HasTooManyInstances, IsFaultAt, OfRoot, Specification, number_of, root_of}
use Rattle.cddl_language.specs.Literals.{Values}
use Rattle.cddl_language.specs.Terms.{Text}
use Rattle.check_text.specs.Codes.{text_codes}
use Rattle.check_text.specs.First.{IsFirst}
use Rattle.check_text.specs.declared.fault.Fault.{Fault}

abbrev AreBelow : List Code → Type 0
AreBelow [] = Unit {0}
AreBelow (c ∷ cs) = (number_of c < 10) × AreBelow cs

below : (P : Code → ℕ → Type 0) (cs : List Code) (f : Fault) → AreBelow cs → IsFirst P cs (Some f) → number_of f.code < 10
below P [] f b h = absurd h
below P (c ∷ cs) f b (inl h) = subst (λ d. number_of d < 10) (sym h.0) b.0
below P (c ∷ cs) f b (inr h) = below P cs f b.1 h.1

pub text_below : (s : Specification) (worth : Values) (f : Fault) → IsFirst (IsFaultAt s worth) text_codes (Some f) → number_of f.code < number_of C.TooManyInstances
text_below s worth f h = below (IsFaultAt s worth) text_codes f (omega arith, (omega arith, (omega arith, (omega arith, (omega arith, (omega arith, (omega arith, (omega arith, (omega arith, tt))))))))) h

module _ (s : Specification) (worth : Values) (root : Text) (rooted : root_of s ≡ Some root) (clear : IsFirst (IsFaultAt s worth) text_codes None) (few : IsLeast (HasTooManyInstances s root) None) where
  pub reached_above : (code : Code) (at : ℕ) → IsFaultAt s worth code at → number_of C.TooManyInstances < number_of code
  reached_above C.Duplicate p h = absurd (clear.0 p h)
  reached_above C.KindClash p h = absurd (clear.1.0 p h)
  reached_above C.Undefined p h = absurd (clear.1.1.0 p h)
  reached_above C.Arity p h = absurd (clear.1.1.1.0 p h)
  reached_above C.NoRoot p h = absurd (clear.1.1.1.1.0 p h)
  reached_above C.BadRoot p h = absurd (clear.1.1.1.1.1.0 p h)
  reached_above C.GroupAsType p h = absurd (clear.1.1.1.1.1.1.0 p h)
  reached_above C.HashForm p h = absurd (clear.1.1.1.1.1.1.1.0 p h)
  reached_above C.UnknownControl p h = absurd (clear.1.1.1.1.1.1.1.1.0 p h)
  reached_above C.TooManyInstances p h = absurd (few p (subst (λ o. OfRoot o (λ n. HasTooManyInstances s n p)) rooted h))
  reached_above C.NotUnwrappable p h = omega arith
  reached_above C.Recursion p h = omega arith
  reached_above C.NotLiteral p h = omega arith
  reached_above C.BadRange p h = omega arith
  reached_above C.BadController p h = omega arith
  reached_above C.NoKey p h = omega arith
  reached_above C.MapShape p h = omega arith
  reached_above C.TooManyAlternatives p h = omega arith
  reached_above C.NotUtf8 p h = absurd h
  reached_above C.BadCharacter p h = absurd h
  reached_above C.Unclosed p h = absurd h
  reached_above C.BadEscape p h = absurd h
  reached_above C.BadNumber p h = absurd h
  reached_above C.FloatLiteral p h = absurd h
  reached_above C.NumberTooLarge p h = absurd h
  reached_above C.BadBytes p h = absurd h
  reached_above C.SourceTooLong p h = absurd h
  reached_above C.Unexpected p h = absurd h
  reached_above C.TooNested p h = absurd h
