-- Written values, and the types that are one value: written, or computed from others (RFC 8610 section 3.1, RFC 9165 section 2).
--
-- What the texts of values stand for is given by `cddl_literal`, as a relation. So what follows is said for each table of
-- values, `worth`, and of a specification for the tables that are right for it, which agree on all that it holds.
use Rattle.std.specs.Prelude.{◌≡◌, ℕ, zero, suc, length, if◌then◌else◌, List, [], ◌∷◌, Option, Some, None, Result, Ok, Err, Contains}
use Rattle.cbor_data.specs.Value as V
use Rattle.cbor_data.specs.Value.{Value}
use Rattle.cddl_literal.specs.Numbers.{Meaning, UintOf, NintOf, TextOf, BytesOf, IsNumber}
use Rattle.cddl_literal.specs.Literals.{IsText, IsBytes}
use Rattle.cddl_literal.specs.declared.operators.Fault.{Fault}
use Rattle.cddl_literal.specs.Operators.Sums.{plus}
use Rattle.cddl_literal.specs.Operators.Joins.{joined}
use Rattle.cddl_token.specs.Answers.{IsAnswered}
use Rattle.cddl_token.specs.declared.Token.{Token}
use Rattle.cddl_token.specs.declared.Kind.{Kind}
use Rattle.cddl_token.specs.declared.Kind.TheVariants as K
use Rattle.tree_nodes.specs.Syntax.Syntax as S
use Rattle.cddl_language.specs.Controls.{Computation, sum, join, Control, computed, control_of}
use Rattle.cddl_language.specs.Terms.{Literal, number, text, bytes, Term, literal, named, parens, control, Definition, name_of}
use Rattle.cddl_language.specs.Reading.{text_of}
use Rattle.cddl_language.specs.Substitution.{type_choices}
use Rattle.cddl_language.specs.Kinds.{is_group}
use Rattle.cddl_language.specs.Reach.{most_instances}

-- the written value stands for this
abbrev pub Means : Literal → Meaning → Type 0
Means (number t) m = IsNumber t 0 (length t) m
Means (text t) m = (v : List ℕ) × IsText t 0 (length t) v × (m ≡ TextOf v)
Means (bytes t) m = (v : List ℕ) × IsBytes t 0 (length t) v × (m ≡ BytesOf v)

abbrev pub item_of : Meaning → Value
item_of (UintOf n) = V.uint n
item_of (NintOf n) = V.nint n
item_of (TextOf b) = V.text b
item_of (BytesOf b) = V.bytes b

-- what each written value is taken to stand for
abbrev pub Values : Type 0
Values = Literal → Meaning

-- the written value that a token of this kind is, where it is one
abbrev pub written : Kind → Token → Option Literal
written K.Number t = Some (number (text_of t))
written K.Text t = Some (text (text_of t))
written K.Bytes t = Some (bytes (text_of t))
written _ t = None

-- Each leaf of the tree is a token as `tokens` answers it, of the kind that the grammar has for it.
abbrev pub AreTokens : S.Cddl → Type 0
AreTokens x = (l : S.Lexeme) → Contains (S.flat x) l → ((l.1).kind ≡ l.0) × IsAnswered l.1

-- the value stands in the tree
abbrev pub Holds : S.Cddl → Literal → Type 0
Holds x v = (l : S.Lexeme) × Contains (S.flat x) l × (written l.0 l.1 ≡ Some v)

-- each value in the tree is taken for what it stands for
abbrev pub AreRight : S.Cddl → Values → Type 0
AreRight x worth = (v : Literal) → Holds x v → Means v (worth v)

-- the whole number that a value is
abbrev pub whole : Option Meaning → Option Value
whole (Some (UintOf n)) = Some (V.uint n)
whole (Some (NintOf n)) = Some (V.nint n)
whole _ = None

-- The literal that is computed from two, or why there is none (RFC 9165 section 2).

abbrev pub computed_from : Computation → Meaning → Meaning → Result Meaning Fault
computed_from sum a b = plus a b
computed_from (join j) a b = joined j a b

abbrev pub answer_of : Result Meaning Fault → Option Meaning
answer_of (Ok m) = Some m
answer_of (Err f) = None

abbrev pub computed_literal : Computation → Option Meaning → Option Meaning → Option Meaning
computed_literal c (Some a) (Some b) = answer_of (computed_from c a b)
computed_literal c _ _ = None

-- the literal that a control is, by those that its sides are
abbrev pub controlled_literal : Option Control → Option Meaning → Option Meaning → Option Meaning
controlled_literal (Some (computed c)) a b = computed_literal c a b
controlled_literal _ a b = None

module _ (worth : Values) (ds : List Definition) where
  -- The value that a type is: a written one, that of a name with one choice, or one that is computed, through names and
  -- parentheses. (`next`: the value of the type that a name stands for.)

  abbrev pub only_choice : (Term → Option Meaning) → List Term → Option Meaning
  only_choice next (t ∷ []) = next t
  only_choice next _ = None

  abbrev pub literal_by : (Term → Option Meaning) → Term → Option Meaning
  literal_by next (literal v) = Some (worth v)
  literal_by next (named r) = if is_group ds (name_of r) then None else only_choice next (type_choices ds r)
  literal_by next (parens t) = literal_by next t
  literal_by next (control a n b) = controlled_literal (control_of n) (literal_by next a) (literal_by next b)
  literal_by next _ = None

  -- through so many names at most
  abbrev pub literal_in : ℕ → Term → Option Meaning
  literal_in zero t = literal_by (λ u. None) t
  literal_in (suc k) t = literal_by (λ u. literal_in k u) t

  -- Of a closed type. A way through more names than there may be instances comes back to one: what needs itself is none.
  abbrev pub literal_of : Term → Option Meaning
  literal_of t = literal_in most_instances t

  -- the whole number that a type is
  abbrev pub whole_of : Term → Option Value
  whole_of t = whole (literal_of t)
