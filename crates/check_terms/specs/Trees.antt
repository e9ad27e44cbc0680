-- A tree for each term and each part of one.
use Rattle.std.specs.Prelude.{ℕ, Bool, true, false, Some, None}
use Rattle.cddl_language.specs.Terms.{Literal, number, text, bytes, Term, literal, named, parens, map_of, array_of, unwrapped, choice_of, choice_of_name, tagged, tagged_by, simple_by, hash, range, control, or, Ref, call, Terms, no_terms, term, Group, sole, orelse, Entries, no_entries, entries, Entry, typed, keyed, grouped, Key, of_type, bareword, of_value}
use Rattle.check_terms.specs.declared.row.Form.TheVariants as F
use Rattle.check_terms.specs.declared.row.Form.{Form}
use Rattle.check_terms.specs.Table.{Table, Tree, nothing, node, Holds}

abbrev pub literal_tree : Literal → Tree
literal_tree (number x) = node F.Number (Some x) nothing nothing
literal_tree (text x) = node F.Text (Some x) nothing nothing
literal_tree (bytes x) = node F.Bytes (Some x) nothing nothing

abbrev pub range_form : (closed : Bool) → Form
range_form true = F.Range
range_form false = F.RangeBelow

abbrev pub entries_form : (comma : Bool) → Form
entries_form true = F.EntriesComma
entries_form false = F.Entries

abbrev pub key_form : (cut : Bool) → Form
key_form true = F.CutKey
key_form false = F.TypeKey

abbrev mutual
  pub term_tree : Term → Tree
  term_tree (literal v) = literal_tree v
  term_tree (named r) = node F.Named None (ref_tree r) nothing
  term_tree (parens t) = node F.Parens None (term_tree t) nothing
  term_tree (map_of g) = node F.MapOf None (group_tree g) nothing
  term_tree (array_of g) = node F.ArrayOf None (group_tree g) nothing
  term_tree (unwrapped r) = node F.Unwrapped None (ref_tree r) nothing
  term_tree (choice_of g) = node F.ChoiceOf None (group_tree g) nothing
  term_tree (choice_of_name r) = node F.ChoiceOfName None (ref_tree r) nothing
  term_tree (tagged x t) = node F.Tagged (Some x) (term_tree t) nothing
  term_tree (tagged_by h t) = node F.TaggedBy None (term_tree h) (term_tree t)
  term_tree (simple_by h) = node F.SimpleBy None (term_tree h) nothing
  term_tree (hash x) = node F.Hash (Some x) nothing nothing
  term_tree (range a c b) = node (range_form c) None (term_tree a) (term_tree b)
  term_tree (control a x b) = node F.Control (Some x) (term_tree a) (term_tree b)
  term_tree (or t u) = node F.Or None (term_tree t) (term_tree u)

  pub ref_tree : Ref → Tree
  ref_tree (call x ts) = node F.Call (Some x) (terms_tree ts) nothing

  pub terms_tree : Terms → Tree
  terms_tree no_terms = node F.NoTerms None nothing nothing
  terms_tree (term t ts) = node F.Argument None (term_tree t) (terms_tree ts)

  pub group_tree : Group → Tree
  group_tree (sole es) = node F.Sole None (entries_tree es) nothing
  group_tree (orelse g es) = node F.OrElse None (group_tree g) (entries_tree es)

  pub entries_tree : Entries → Tree
  entries_tree no_entries = node F.NoEntries None nothing nothing
  entries_tree (entries es e c) = node (entries_form c) None (entries_tree es) (entry_tree e)

  pub entry_tree : Entry → Tree
  entry_tree (typed o t) = node F.Typed o (term_tree t) nothing
  entry_tree (keyed o k t) = node F.Keyed o (key_tree k) (term_tree t)
  entry_tree (grouped o g) = node F.Grouped o (group_tree g) nothing

  pub key_tree : Key → Tree
  key_tree (of_type t c) = node (key_form c) None (term_tree t) nothing
  key_tree (bareword x) = node F.Bareword (Some x) nothing nothing
  key_tree (of_value v) = node F.LiteralKey None (literal_tree v) nothing

-- What a number stands for, as each part of a term.

abbrev pub IsTerm : Table → ℕ → Term → Type 0
IsTerm t n x = Holds t (Some n) (term_tree x)

abbrev pub IsRef : Table → ℕ → Ref → Type 0
IsRef t n x = Holds t (Some n) (ref_tree x)

abbrev pub IsTerms : Table → ℕ → Terms → Type 0
IsTerms t n x = Holds t (Some n) (terms_tree x)

abbrev pub IsGroup : Table → ℕ → Group → Type 0
IsGroup t n x = Holds t (Some n) (group_tree x)

abbrev pub IsEntries : Table → ℕ → Entries → Type 0
IsEntries t n x = Holds t (Some n) (entries_tree x)

abbrev pub IsEntry : Table → ℕ → Entry → Type 0
IsEntry t n x = Holds t (Some n) (entry_tree x)

abbrev pub IsKey : Table → ℕ → Key → Type 0
IsKey t n x = Holds t (Some n) (key_tree x)
