-- The literals that a text can write are numbers, texts and byte strings.
use Rattle.std.proofs.Common.{ℕ, Bool, true, false, cond, nat_eq, List, Option, Some, None}
use Rattle.cbor_data.specs.declared.Width.TheVariants.{W16, W32, W64}
use Rattle.cbor_data.specs.Value.{Value}
use Rattle.cddl_meaning.specs.Forms as F
use Rattle.cddl_meaning.specs.Forms.{Node}
use Rattle.cddl_literal.specs.Numbers.{Meaning, UintOf, NintOf, TextOf, BytesOf}
use Rattle.cddl_language.specs.Controls.{Comparison, equal, different, less, at_most, greater, at_least, is_ordering, Control, left_alone, left_and_right, held_item, held_sequence, compared, Membership, of_size, of_bits, member, computed, control_of}
use Rattle.cddl_language.specs.Numbers.{HashForm, any_item, major, numbered, hash_form, hash_test}
use Rattle.cddl_language.specs.Terms.{Term, literal, named, parens, map_of, array_of, unwrapped, choice_of, choice_of_name, tagged, tagged_by, simple_by, hash, range, control, or, Definition, name_of}
use Rattle.cddl_language.specs.Kinds.{Opened, opens_type, opens_group, opened, is_group}
use Rattle.cddl_language.specs.Literals.{Values, item_of, whole, whole_of, computed_literal, literal_of}
use Rattle.cddl_language.specs.Sizes.{Sizes, members_of}
use Rattle.cddl_language.specs.Choices.{chosen, chosen_by_name}
use Rattle.cddl_language.specs.Maps.{Alternatives, map_alternatives}
use Rattle.cddl_language.specs.Language.{TypeName, type, reference, chosen_of, word, GroupName, nothing, choice, content, between, map_node, comparand, such_as_compares, such_as_member, equal_to, control_node, term_node, type_node}
use Rattle.cddl_meaning.specs.Literals.{HasNoParts, IsPlainTest, IsPlainNode}

item_plain : (m : Meaning) → HasNoParts (item_of m)
item_plain (UintOf n) = tt
item_plain (NintOf n) = tt
item_plain (TextOf b) = tt
item_plain (BytesOf b) = tt

by_test : (b : Bool) (m n : Node TypeName GroupName) → IsPlainNode m → IsPlainNode n → IsPlainNode (cond b m n)
by_test true m n h k = h
by_test false m n h k = k

content_plain : (o : Option Opened) → IsPlainNode (content o)
content_plain None = tt
content_plain (Some (opens_type t)) = tt
content_plain (Some (opens_group g)) = tt

choice_plain : (o : Option (List Term)) (ns : List TypeName) → IsPlainNode (choice o ns)
choice_plain None ns = tt
choice_plain (Some ts) ns = tt

between_plain : (c : Bool) (o u : Option Value) → IsPlainNode (between c o u)
between_plain c (Some a) (Some b) = tt
between_plain c (Some a) None = tt
between_plain c None u = tt

map_plain : (o : Option Alternatives) → IsPlainNode (map_node o)
map_plain (Some mss) = tt
map_plain None = tt

float_or : (a b c : Bool) (n : ℕ) → IsPlainTest (cond a (F.float_of W16) (cond b (F.float_of W32) (cond c (F.float_of W64) (F.simple_value n))))
float_or true b c n = tt
float_or false true c n = tt
float_or false false true n = tt
float_or false false false n = tt

hash_plain : (h : HashForm) → IsPlainTest (hash_test h)
hash_plain any_item = tt
hash_plain (major d) = tt
hash_plain (numbered d n) = float_or (nat_eq n 25) (nat_eq n 26) (nat_eq n 27) n

compares_plain : (c : Comparison) (m : Option Meaning) (a : Term) → IsPlainNode (such_as_compares c (comparand (is_ordering c) m) a)
compares_plain equal (Some m) a = item_plain m
compares_plain equal None a = tt
compares_plain different (Some m) a = item_plain m
compares_plain different None a = tt
compares_plain less m a = ordered (whole m)
  where
    ordered : (o : Option Value) → IsPlainNode (such_as_compares less o a)
    ordered (Some v) = tt
    ordered None = tt
compares_plain at_most m a = ordered (whole m)
  where
    ordered : (o : Option Value) → IsPlainNode (such_as_compares at_most o a)
    ordered (Some v) = tt
    ordered None = tt
compares_plain greater m a = ordered (whole m)
  where
    ordered : (o : Option Value) → IsPlainNode (such_as_compares greater o a)
    ordered (Some v) = tt
    ordered None = tt
compares_plain at_least m a = ordered (whole m)
  where
    ordered : (o : Option Value) → IsPlainNode (such_as_compares at_least o a)
    ordered (Some v) = tt
    ordered None = tt

member_plain : (m : Membership) (o : Option Sizes) (a : Term) → IsPlainNode (such_as_member m o a)
member_plain of_size (Some rs) a = tt
member_plain of_bits (Some rs) a = tt
member_plain m None a = tt

equal_plain : (o : Option Meaning) → IsPlainNode (equal_to o)
equal_plain (Some m) = item_plain m
equal_plain None = tt

module _ (worth : Values) (ds : List Definition) where
  control_plain : (o : Option Control) (a b : Term) → IsPlainNode (control_node worth ds o a b)
  control_plain (Some left_alone) a b = tt
  control_plain (Some left_and_right) a b = tt
  control_plain (Some held_item) a b = tt
  control_plain (Some held_sequence) a b = tt
  control_plain (Some (compared c)) a b = compares_plain c (literal_of worth ds b) a
  control_plain (Some (member m)) a b = member_plain m (members_of m worth ds b) a
  control_plain (Some (computed c)) a b = equal_plain (computed_literal c (literal_of worth ds a) (literal_of worth ds b))
  control_plain None a b = tt

  term_plain : (t : Term) → IsPlainNode (term_node worth ds t)
  term_plain (literal v) = item_plain (worth v)
  term_plain (named r) = by_test (is_group ds (name_of r)) nothing (F.Ref (reference r)) tt tt
  term_plain (parens t) = tt
  term_plain (array_of g) = tt
  term_plain (unwrapped r) = content_plain (opened ds r)
  term_plain (choice_of g) = choice_plain (chosen ds g) _
  term_plain (choice_of_name r) = choice_plain (chosen_by_name ds r) _
  term_plain (tagged n t) = tt
  term_plain (tagged_by h t) = tt
  term_plain (simple_by h) = tt
  term_plain (hash n) = hash_plain (hash_form n)
  term_plain (range a c b) = between_plain c (whole_of worth ds a) (whole_of worth ds b)
  term_plain (or t u) = tt
  term_plain (map_of g) = map_plain (map_alternatives ds g)
  term_plain (control a n b) = control_plain (control_of n) a b

  pub node_plain : (n : TypeName) → IsPlainNode (type_node worth ds n)
  node_plain (type t) = term_plain t
  node_plain (reference r) = tt
  node_plain (chosen_of ess) = tt
  node_plain (word n) = tt
