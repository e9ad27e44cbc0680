-- What a name stands for: its definitions, in the order of the text, over the prelude (RFC 8610 section 3.9 and appendix D).
use Rattle.std.specs.Prelude.{ℕ, ◌+◌, length, nat_eq, Bool, true, false, if◌then◌else◌, List, [], ◌∷◌, ◌++◌, filter}
use Rattle.std.specs.Cmp.Lexicographic.{pointwise}
use Rattle.std.specs.List.{list_any}
use Rattle.cddl_language.specs.Terms.{Text, Sign, is, type_or, group_or, Definition}
use Rattle.cddl_language.specs.Prelude.{prelude}

abbrev pub is_same : Text → Text → Bool
is_same a b = pointwise nat_eq a b

abbrev pub is_in : List Text → Text → Bool
is_in ns n = list_any (λ m. is_same m n) ns

-- the definitions of the name, in order
abbrev pub named_so : Text → List Definition → List Definition
named_so n ds = filter (λ (d : Definition). is_same d.name n) ds

abbrev pub is_equals : Sign → Bool
is_equals is = true
is_equals type_or = false
is_equals group_or = false

-- whether one is by `=`
abbrev pub has_equals : List Definition → Bool
has_equals ds = list_any (λ (d : Definition). is_equals d.sign) ds

-- The definitions that count, of all of one name: each further `=` adds nothing. The flag says that a `=` came before.
abbrev pub counting : Bool → List Definition → List Definition
counting met [] = []
counting false (d ∷ ds) = d ∷ counting (is_equals d.sign) ds
counting true (d ∷ ds) = if is_equals d.sign then counting true ds else d ∷ counting true ds

-- what the prelude says of the name: `=` in the text replaces it, `/=` extends it (RFC 8610 leaves this open)
abbrev pub from_prelude : List Definition → Text → List Definition
from_prelude ds n = if has_equals (named_so n ds) then [] else named_so n prelude

-- The environment: the definitions of the name n, where the text has the definitions ds. Bodies of the prelude see what the
-- text says of a name, too. A socket that nothing defines has no definition: it is the empty choice (section 3.9).
abbrev pub definitions_of : List Definition → Text → List Definition
definitions_of ds n = from_prelude ds n ++ counting false (named_so n ds)

abbrev pub has_any : List Definition → Bool
has_any [] = false
has_any (d ∷ ds) = true

abbrev pub is_in_prelude : Text → Bool
is_in_prelude n = has_any (named_so n prelude)

-- `$name` and `$$name`: sockets, of types and of groups (section 3.9)
abbrev pub is_socket : Text → Bool
is_socket [] = false
is_socket (b ∷ bs) = nat_eq b 36

abbrev pub is_group_socket : Text → Bool
is_group_socket [] = false
is_group_socket (b ∷ bs) = if nat_eq b 36 then is_socket bs else false

-- A way from name to name that is longer comes back to one.
abbrev pub most_names : List Definition → ℕ
most_names ds = length prelude + length ds
