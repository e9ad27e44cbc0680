-- The values of literals that are written in a specification.
use Rattle.std.specs.Prelude.{List, ℕ, Option, Some, None, length}
use Rattle.cddl_literal.specs.Literals.{IsPrefixedBytes}
use Rattle.cddl_language.specs.Terms as L
use Rattle.check_literals.specs.declared.values.Written.{Written}
use Rattle.check_literals.specs.declared.values.Written.TheVariants as WrittenV

-- the literal that is written
abbrev pub literal_of : Written → L.Literal
literal_of (WrittenV.Number t) = L.number t.now
literal_of (WrittenV.Text t) = L.text t.now
literal_of (WrittenV.Bytes t) = L.bytes t.now

-- one of these, or none where there is none
abbrev pub Answers : {A : Type 0} → (A → Type 0) → Option A → Type 0
Answers {A} P None = (a : A) → P a → ⊥
Answers P (Some a) = P a

-- the whole text is a byte string with prefix that stands for v
abbrev pub IsCoded : List ℕ → List ℕ → Type 0
IsCoded s v = IsPrefixedBytes s 0 (length s) v
