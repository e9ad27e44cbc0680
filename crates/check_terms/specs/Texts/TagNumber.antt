-- Tag numbers by 64 bits. What a text says of them is the same for any names of types (`tag_anywhere` of the lemmas).
use Rattle.std.specs.Prelude.{◌≡◌, ℕ, ◌≤◌, ◌^◌}
use Rattle.cddl_meaning.specs.Forms as F
use Rattle.cddl_language.specs.Terms.{Text}
use Rattle.cddl_language.specs.Numbers as N
use Rattle.check_terms.specs.declared.texts.tags.TagNumber.{TagNumber}
use Rattle.check_terms.specs.declared.texts.tags.TagNumber.TheVariants.{Any, Exactly, TooGreat}

-- 2^64 or more
abbrev pub IsGreat : {N : Type 0} → F.TagNumber N → Type 0
IsGreat F.any_number = ⊥
IsGreat (F.exactly n) = 2 ^ 64 ≤ n
IsGreat (F.such_as x) = ⊥

-- the answer is this tag number
abbrev pub Answers : {N : Type 0} → F.TagNumber N → TagNumber → Type 0
Answers t Any = t ≡ F.any_number
Answers t (Exactly n) = t ≡ F.exactly n
Answers t TooGreat = IsGreat t

-- the answer is what the text says
abbrev pub IsTagNumber : Text → TagNumber → Type 0
IsTagNumber text a = Answers (N.tag_number text {N = ℕ}) a
