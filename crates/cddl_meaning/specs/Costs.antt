-- What is counted of a language in two ways: every entry of a map, asked or not, which is the weight; or those that are asked,
-- where literal keys are known.
use Rattle.std.specs.Prelude.{◌≡◌, List, [], ◌∷◌, Option, Some}
use Rattle.cbor_data.specs.Value.{Value}
use Rattle.cddl_meaning.specs.Forms.{equals, Plain, Ref, Choice, Counting, every_entry, by_keys, Language}

-- the same types and groups, where every entry counts
abbrev pub weighed : {N G : Type 0} → Language N G → Language N G
weighed l = record { type_at = l.type_at; group_at = l.group_at; counting = every_entry }

-- The type is this value alone: as it is written, or by a name, or by a choice of one.
pub data IsLiteral {N G : Type 0} (l : Language N G) : N → Value → Type 0 where
  written : {n : N} {v : Value} → l.type_at n ≡ Plain (equals v) → IsLiteral l n v
  named : {n m : N} {v : Value} → l.type_at n ≡ Ref m → IsLiteral l m v → IsLiteral l n v
  only_one : {n m : N} {v : Value} → l.type_at n ≡ Choice (m ∷ []) → IsLiteral l m v → IsLiteral l n v

abbrev pub AreLiterals : {N G : Type 0} → Language N G → Counting N → Type 0
AreLiterals l every_entry = Unit {0}
AreLiterals {N = N} l (by_keys f) = (n : N) (v : Value) → f n ≡ Some v → IsLiteral l n v

-- What is known of keys is so.
abbrev pub HasLiterals : {N G : Type 0} → Language N G → Type 0
HasLiterals l = AreLiterals l l.counting
