-- Languages whose literals have no parts, as all that a specification can write or compute (RFC 8610 section 2): they are
-- numbers, texts and byte strings.
use Rattle.std.specs.Prelude.{◌≡◌, Option, Some}
use Rattle.cbor_data.specs.Value.{Value, array, pairs, tag}
use Rattle.cddl_meaning.specs.Forms.{Test, equals, differs_from, Node, Plain, Such, Counting, every_entry, by_keys, Language}

-- neither an array nor a map nor a tag
abbrev pub HasNoParts : Value → Type 0
HasNoParts (array xs) = ⊥
HasNoParts (pairs ps) = ⊥
HasNoParts (tag n x) = ⊥
HasNoParts _ = Unit {0}

-- The literal to which a test asks an item to be equal, or not to be, has no parts. Ends of ranges and the like are compared
-- as whole numbers alone.
abbrev pub IsPlainTest : Test → Type 0
IsPlainTest (equals v) = HasNoParts v
IsPlainTest (differs_from v) = HasNoParts v
IsPlainTest _ = Unit {0}

abbrev pub IsPlainNode : {N G : Type 0} → Node N G → Type 0
IsPlainNode (Plain t) = IsPlainTest t
IsPlainNode (Such m t) = IsPlainTest t
IsPlainNode _ = Unit {0}

-- the values that key types are known to be have no parts
abbrev pub HasPlainKeys : {N : Type 0} → Counting N → Type 0
HasPlainKeys every_entry = Unit {0}
HasPlainKeys {N = N} (by_keys f) = (n : N) (v : Value) → f n ≡ Some v → HasNoParts v

-- each type that a name stands for has only such literals, and so has what is known of keys
pub record HasPlainLiterals {N G : Type 0} (l : Language N G) : Type 0 where
  pub plain : (n : N) → IsPlainNode (l.type_at n)
  pub keys : HasPlainKeys l.counting
