-- How names lead to names.
use Rattle.std.specs.Prelude.{ℕ, ◌+◌, nat_eq, Bool, true, false, if◌then◌else◌, List, [], ◌∷◌, Option, Some, None, slice_get}
use Rattle.graphs.specs.declared.chains.Link.{Link}
use Rattle.graphs.specs.declared.chains.Link.TheVariants as LinkV
use Rattle.cddl_language.specs.Terms.{Text}
use Rattle.cddl_language.specs.Environment.{is_socket, is_group_socket}
use Rattle.check_terms.specs.declared.definition.Definition.{Definition}
use Rattle.check_terms.specs.declared.definition.Sign.{Sign}
use Rattle.check_terms.specs.declared.definition.Sign.TheVariants as SignV
use Rattle.check_names.specs.Environment.Names.{Standing}
use Rattle.check_names.specs.declared.kinds.heads.Head.{Head}
use Rattle.check_names.specs.declared.kinds.heads.Head.TheVariants as HeadV

-- The answers with which chains end: a group, a type or content, and nothing.

abbrev pub group_answer : ℕ
group_answer = 0

abbrev pub type_answer : ℕ
type_answer = 1

abbrev pub no_answer : ℕ
no_answer = 2

abbrev pub text_there : Option Text → Text
text_there None = []
text_there (Some n) = n

abbrev pub opening_of : Head → Link
opening_of (HeadV.Name m) = LinkV.Next m
opening_of HeadV.Container = LinkV.End group_answer
opening_of HeadV.Tag = LinkV.End type_answer
opening_of _ = LinkV.End no_answer

-- the head of the name's definition, where it has one alone

abbrev pub single : List Head → List ℕ → Option Head
single own (p ∷ []) = slice_get own p
single own _ = None

abbrev pub known_alone : List Head → ℕ → List ℕ → Option Head
known_alone known p [] = slice_get known p
known_alone known p (q ∷ qs) = None

abbrev pub only_by : List Head → List Head → (replaced known_at : Option ℕ) → List ℕ → Option Head
only_by known own None (Some p) ps = known_alone known p ps
only_by known own _ _ ps = single own ps

abbrev pub only_head : List Head → List Head → Standing → Option Head
only_head known own s = only_by known own s.first_equals s.known s.counting

abbrev pub opening_by : Option Head → Link
opening_by None = LinkV.End no_answer
opening_by (Some h) = opening_of h

abbrev pub opening_link : Text → List Head → List Head → Standing → Link
opening_link n known own s = if is_group_socket n then LinkV.End no_answer else opening_by (only_head known own s)

-- of the names from the number k on
abbrev pub opening_links : List Text → List Head → List Head → ℕ → List Standing → List Link
opening_links texts known own k [] = []
opening_links texts known own k (s ∷ ss) = opening_link (text_there (slice_get texts k)) known own s ∷ opening_links texts known own (k + 1) ss

abbrev pub end_of : Bool → Link
end_of true = LinkV.End group_answer
end_of false = LinkV.End type_answer

abbrev pub opens_group : Option (Option ℕ) → Bool
opens_group (Some (Some a)) = nat_eq a group_answer
opens_group _ = false

abbrev pub kind_of : List (Option ℕ) → Sign → Head → Link
kind_of opened SignV.TypeOr h = LinkV.End type_answer
kind_of opened SignV.GroupOr h = LinkV.End group_answer
kind_of opened SignV.Is HeadV.Entry = LinkV.End group_answer
kind_of opened SignV.Is (HeadV.Name m) = LinkV.Next m
kind_of opened SignV.Is (HeadV.Unwrapped m) = end_of (opens_group (slice_get opened m))
kind_of opened SignV.Is _ = LinkV.End type_answer

abbrev pub kind_at : List (Option ℕ) → Option Definition → Option Head → Link
kind_at opened (Some d) (Some h) = kind_of opened d.sign h
kind_at opened _ _ = LinkV.End type_answer

abbrev pub kind_by : List Definition → List Head → List (Option ℕ) → (known_at first_at : Option ℕ) → Link
kind_by ds own opened None (Some p) = kind_at opened (slice_get ds p) (slice_get own p)
kind_by ds own opened _ _ = LinkV.End type_answer

abbrev pub kind_link : Text → List Definition → List Head → List (Option ℕ) → Standing → Link
kind_link n ds own opened s = if is_socket n then end_of (is_group_socket n) else kind_by ds own opened s.known s.first

abbrev pub kind_links : List Text → List Definition → List Head → List (Option ℕ) → ℕ → List Standing → List Link
kind_links texts ds own opened k [] = []
kind_links texts ds own opened k (s ∷ ss) = kind_link (text_there (slice_get texts k)) ds own opened s ∷ kind_links texts ds own opened (k + 1) ss
