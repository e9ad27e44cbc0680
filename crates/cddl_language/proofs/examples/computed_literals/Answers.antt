use Rattle.std.specs.Prelude.{if◌then◌else◌, slice_index}
use Rattle.std.proofs.Common.{◌≡◌, ℕ, zero, suc, ◌<◌, Bool, true, Ok, Err, codes, refl, ap, arith}
use Rattle.std.specs.Str.{is_utf8}
use Rattle.std.proofs.lemmas.Str.{IsUtf8-from_ascii, is_utf8-from_IsUtf8}
use Rattle.cddl_literal.specs.Numbers.{TextOf, digit_value}
use Rattle.cddl_literal.specs.declared.operators.Fault.TheVariants.{NotUtf8}
use Rattle.cddl_language.specs.Examples as E
use Rattle.cddl_language.specs.Literals.{answer_of}
use Rattle.cddl_language.specs.Prelude.{prelude}
use Rattle.cddl_language.specs.Reach.{most_instances}
use Rattle.cddl_language.proofs.Circles.{circle_has_no_literal}
use Rattle.cddl_language.proofs.examples.computed_literals.Goals as goal

ascii_word : (i : ℕ) → slice_index (codes "ab") i < 128
ascii_word zero = omega arith
ascii_word (suc zero) = omega arith
ascii_word (suc (suc i)) = omega arith

ascii_lines : (i : ℕ) → slice_index (codes "a\nb") i < 128
ascii_lines zero = omega arith
ascii_lines (suc zero) = omega arith
ascii_lines (suc (suc zero)) = omega arith
ascii_lines (suc (suc (suc i))) = omega arith

word_is_text : is_utf8 (codes "ab") ≡ true
word_is_text = is_utf8-from_IsUtf8 (codes "ab") (IsUtf8-from_ascii (codes "ab") ascii_word)

lines_are_text : is_utf8 (codes "a\nb") ≡ true
lines_are_text = is_utf8-from_IsUtf8 (codes "a\nb") (IsUtf8-from_ascii (codes "a\nb") ascii_lines)

pub returns-clause-join : goal.returns-clause-join
unfolding prelude
returns-clause-join c = ap (λ (b : Bool). answer_of (if b then Ok (TextOf (codes "ab")) else Err NotUtf8)) word_is_text

pub returns-clause-line : goal.returns-clause-line
returns-clause-line c = ap (λ (b : Bool). answer_of (if b then Ok (TextOf (codes "a\nb")) else Err NotUtf8)) lines_are_text

pub returns-clause-sum : goal.returns-clause-sum
unfolding digit_value
returns-clause-sum c = refl

pub returns-clause-unlike : goal.returns-clause-unlike
unfolding digit_value
returns-clause-unlike c = refl

pub returns-clause-circle : goal.returns-clause-circle
returns-clause-circle c = (circle_has_no_literal E.worth most_instances).0
