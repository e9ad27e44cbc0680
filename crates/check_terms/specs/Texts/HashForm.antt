-- Forms of `#` by 64 bits.
use Rattle.std.specs.Prelude.{◌≡◌, ℕ, ◌<◌, ◌≤◌, ◌^◌, ◌⊎◌}
use Rattle.cddl_language.specs.Terms.{Text}
use Rattle.cddl_language.specs.Numbers as N
use Rattle.check_terms.specs.declared.texts.hashes.HashForm.{HashForm}
use Rattle.check_terms.specs.declared.texts.hashes.HashForm.TheVariants.{AnyItem, Major, Numbered}

-- the form, in the words of the definitions
abbrev pub form : HashForm → N.HashForm
form AnyItem = N.any_item
form (Major digit) = N.major digit
form (Numbered digit number) = N.numbered digit number

-- a number of 2^64 or more
abbrev pub IsGreat : N.HashForm → Type 0
IsGreat N.any_item = ⊥
IsGreat (N.major d) = ⊥
IsGreat (N.numbered d n) = 2 ^ 64 ≤ n

-- the form is that of the text
abbrev pub IsHashForm : Text → HashForm → Type 0
IsHashForm text f = form f ≡ N.hash_form text

-- the text's number is 2^64 or more
abbrev pub IsTooGreat : Text → Type 0
IsTooGreat text = IsGreat (N.hash_form text)

-- a number of `#7.n` that no simple value and no float has
abbrev pub IsBadNumber : ℕ → Type 0
IsBadNumber n = (n ≡ 24) ⊎ (((27 < n) × (n < 32)) ⊎ (255 < n))
