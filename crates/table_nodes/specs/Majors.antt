-- What types say by the major type alone (RFC 8949 section 3.1): of every item of that major type, wherever it is.
use Rattle.std.specs.Prelude.{◌≡◌, ℕ, zero, suc, ◌+◌, List, [], ◌∷◌, Option, Some, None, Bool, true, false, nat_eq, nat_le, nat_lt, slice_get}
use Rattle.std.specs.Coded.{Coded-set, Π_prop, coded×, coded_bool, coded_ℕ, coded_option}
use Rattle.cbor_data.specs.Value.{Value}
use Rattle.cddl_meaning.specs.Forms as F
use Rattle.cddl_meaning.specs.Forms.{Language, Test, anything, of_major, simple_value, float_of, equals, between, major_of}
use Rattle.cddl_meaning.specs.Judges.{Answer, Yes, No, Says}
use Rattle.table_nodes.specs.Nodes.{type_view}
use Rattle.table_nodes.specs.declared.nodes.GroupId.{GroupId}
use Rattle.table_nodes.specs.declared.nodes.Node.{Node}
use Rattle.table_nodes.specs.declared.nodes.TypeId.{TypeId}
use Rattle.table_nodes.specs.declared.majors.Told.{Told}
use Rattle.table_nodes.specs.declared.majors.Told.TheVariants as D

-- yes; or no, which shows at the item
abbrev pub answer_at : ℕ → Bool → Answer
answer_at p true = Yes
answer_at p false = No p

-- The type says this of each item of the major type, at each place, in so many judgements.
abbrev pub TellsOf : {N G : Type 0} → Language N G → N → (major : ℕ) → (says : Bool) → (cost : ℕ) → Type 0
TellsOf l n m says cost = (p : ℕ) (x : Value) → major_of x ≡ m → Says l (l.type_at n) p x (answer_at p says) cost

-- A form shows what a type says by the major type: whether that is yes, and the number of judgements; or it shows nothing.

-- no, but of items of a certain major type
abbrev pub no_but : Bool → Option Bool
no_but true = None
no_but false = Some false

-- A value, and a range of whole numbers, are of their own major types alone.
abbrev pub test_shows : Test → ℕ → Option Bool
test_shows anything m = Some true
test_shows (of_major k) m = Some (nat_eq m k)
test_shows (simple_value n) m = no_but (nat_eq m 7)
test_shows (float_of w) m = no_but (nat_eq m 7)
test_shows (equals v) m = no_but (nat_eq m (major_of v))
test_shows (between least last closed) m = no_but (nat_le m 1)
test_shows _ m = None

-- in one judgement
abbrev pub at_once : Option Bool → Option (Bool × ℕ)
at_once None = None
at_once (Some says) = Some (says, 1)

-- in one judgement more
abbrev pub one_more : Option (Bool × ℕ) → Option (Bool × ℕ)
one_more None = None
one_more (Some t) = Some (t.0, suc t.1)

-- only a no, in one judgement more
abbrev pub no_more : Option (Bool × ℕ) → Option (Bool × ℕ)
no_more None = None
no_more (Some (true, cost)) = None
no_more (Some (false, cost)) = Some (false, suc cost)

-- in so many judgements more
abbrev pub after : ℕ → Option (Bool × ℕ) → Option (Bool × ℕ)
after n None = None
after n (Some t) = Some (t.0, n + t.1)

-- a yes; or what is shown after a no
abbrev pub or_else : Option (Bool × ℕ) → Option (Bool × ℕ) → Option (Bool × ℕ)
or_else None later = None
or_else (Some (true, cost)) later = Some (true, cost)
or_else (Some (false, cost)) later = after cost later

-- members, asked in order, by what is shown of each
abbrev pub members_show : {N : Type 0} → (N → Option (Bool × ℕ)) → List N → Option (Bool × ℕ)
members_show shown [] = Some (false, 0)
members_show shown (n ∷ ns) = or_else (shown n) (members_show shown ns)

-- a form, by what is shown of the types that it asks of the same item
abbrev pub form_shows : {N G : Type 0} → (N → Option (Bool × ℕ)) → F.Node N G → ℕ → Option (Bool × ℕ)
form_shows shown (F.Plain t) m = at_once (test_shows t m)
form_shows shown (F.Ref n) m = one_more (shown n)
form_shows shown (F.Choice ns) m = one_more (members_show shown ns)
form_shows shown (F.ArrayOf g) m = at_once (no_but (nat_eq m 4))
form_shows shown (F.TagOf t n) m = at_once (no_but (nat_eq m 6))
form_shows shown (F.SimpleBy n) m = at_once (no_but (nat_eq m 7))
form_shows shown (F.MapOf ess) m = at_once (no_but (nat_eq m 5))
form_shows shown (F.Both n o) m = no_more (shown n)
form_shows shown (F.Such n t) m = no_more (shown n)
form_shows shown (F.Holding n c o) m = no_more (shown n)

-- What takes more judgements than this is not kept, and there are eight major types.
abbrev pub kept_where : Bool → Option (Bool × ℕ) → Option (Bool × ℕ)
kept_where true o = o
kept_where false o = None

abbrev pub kept : Option (Bool × ℕ) → Option (Bool × ℕ)
kept None = None
kept (Some t) = kept_where (nat_le t.1 65535) (Some t)

-- what the form of a type shows, if the type is there
abbrev pub maybe_shows : {N G : Type 0} → (N → Option (Bool × ℕ)) → Option (F.Node N G) → ℕ → Option (Bool × ℕ)
maybe_shows shown None m = None
maybe_shows shown (Some f) m = kept (form_shows shown f m)

abbrev pub next_shows : {N G : Type 0} → (N → Option (F.Node N G)) → (N → ℕ → Option (Bool × ℕ)) → N → ℕ → Option (Bool × ℕ)
next_shows types shown n m = kept_where (nat_lt m 8) (maybe_shows (λ o. shown o m) (types n) m)

-- what types show through so many forms
unfoldable pub shows : {N G : Type 0} → (N → Option (F.Node N G)) → ℕ → N → ℕ → Option (Bool × ℕ)
shows types zero n m = None
shows types (suc k) n m = kept_where (nat_lt m 8) (maybe_shows (λ o. shows types k o m) (types n) m)

-- so many forms are gone through
unfoldable pub most_shown : ℕ
most_shown = 16

-- the types of a list
abbrev pub form_of : Option Node → Option (F.Node TypeId GroupId)
form_of None = None
form_of (Some x) = Some (type_view x)

abbrev pub types_in : List Node → TypeId → Option (F.Node TypeId GroupId)
types_in types n = form_of (slice_get types n.number)

-- what is kept of a major type, and what rows keep, one for each type
abbrev pub told_view : Told → Option (Bool × ℕ)
told_view D.Nothing = None
told_view (D.Yes cost) = Some (true, cost)
told_view (D.No cost) = Some (false, cost)

abbrev pub maybe_told : Option Told → Option (Bool × ℕ)
maybe_told None = None
maybe_told (Some t) = told_view t

abbrev pub row_tells : Option (List Told) → ℕ → Option (Bool × ℕ)
row_tells None m = None
row_tells (Some row) m = maybe_told (slice_get row m)

abbrev pub told_in : List (List Told) → TypeId → ℕ → Option (Bool × ℕ)
told_in rows n m = row_tells (slice_get rows n.number) m

-- What is kept of types is what they show.
abbrev pub AreShown : List Node → List (List Told) → Type 0
AreShown types rows = (n : TypeId) (m : ℕ) (t : Bool × ℕ) → told_in rows n m ≡ Some t → shows (types_in types) most_shown n m ≡ Some t

-- That has one proof at most, so a table may hold it.
pub are_shown_once : (types : List Node) (rows : List (List Told)) → IsProp (AreShown types rows)
are_shown_once types rows = Π_prop (λ n. Π_prop (λ m. Π_prop (λ t. Π_prop (λ e. Coded-set (coded_option (coded× coded_bool coded_ℕ)) _ _))))
