-- The tree of a term tells which term it is.
use Rattle.std.proofs.Common.{◌≡◌, refl, ap, Option, Some, None, true, false, []}
use Rattle.cddl_language.specs.Terms.{Text, Literal, number, text, bytes, Term, literal, named, parens, map_of, array_of, unwrapped, choice_of, choice_of_name, tagged, tagged_by, simple_by, hash, range, control, or, Ref, call, Terms, no_terms, term, Group, sole, orelse, Entries, no_entries, entries, Entry, typed, keyed, grouped, Key, of_type, bareword, of_value}
use Rattle.check_terms.specs.declared.row.Form.TheVariants as F
use Rattle.check_terms.specs.Table.{Tree, nothing, node}
use Rattle.check_terms.specs.Trees.{literal_tree, term_tree, ref_tree, terms_tree, group_tree, entries_tree, entry_tree, key_tree}

text_in : Option Text → Text
text_in None = []
text_in (Some x) = x

literal_from : Tree → Literal
literal_from (node F.Text x a b) = text (text_in x)
literal_from (node F.Bytes x a b) = bytes (text_in x)
literal_from (node f x a b) = number (text_in x)
literal_from nothing = number []

mutual
  pub term_from : Tree → Term
  term_from (node F.Number x a b) = literal (number (text_in x))
  term_from (node F.Text x a b) = literal (text (text_in x))
  term_from (node F.Bytes x a b) = literal (bytes (text_in x))
  term_from (node F.Named x a b) = named (ref_from a)
  term_from (node F.Parens x a b) = parens (term_from a)
  term_from (node F.MapOf x a b) = map_of (group_from a)
  term_from (node F.ArrayOf x a b) = array_of (group_from a)
  term_from (node F.Unwrapped x a b) = unwrapped (ref_from a)
  term_from (node F.ChoiceOf x a b) = choice_of (group_from a)
  term_from (node F.ChoiceOfName x a b) = choice_of_name (ref_from a)
  term_from (node F.Tagged x a b) = tagged (text_in x) (term_from a)
  term_from (node F.TaggedBy x a b) = tagged_by (term_from a) (term_from b)
  term_from (node F.SimpleBy x a b) = simple_by (term_from a)
  term_from (node F.Range x a b) = range (term_from a) true (term_from b)
  term_from (node F.RangeBelow x a b) = range (term_from a) false (term_from b)
  term_from (node F.Control x a b) = control (term_from a) (text_in x) (term_from b)
  term_from (node F.Or x a b) = or (term_from a) (term_from b)
  term_from (node f x a b) = hash (text_in x)
  term_from nothing = hash []

  pub ref_from : Tree → Ref
  ref_from (node f x a b) = call (text_in x) (terms_from a)
  ref_from nothing = call [] no_terms

  pub terms_from : Tree → Terms
  terms_from (node F.Argument x a b) = term (term_from a) (terms_from b)
  terms_from (node f x a b) = no_terms
  terms_from nothing = no_terms

  pub group_from : Tree → Group
  group_from (node F.OrElse x a b) = orelse (group_from a) (entries_from b)
  group_from (node f x a b) = sole (entries_from a)
  group_from nothing = sole no_entries

  pub entries_from : Tree → Entries
  entries_from (node F.Entries x a b) = entries (entries_from a) (entry_from b) false
  entries_from (node F.EntriesComma x a b) = entries (entries_from a) (entry_from b) true
  entries_from (node f x a b) = no_entries
  entries_from nothing = no_entries

  pub entry_from : Tree → Entry
  entry_from (node F.Keyed x a b) = keyed x (key_from a) (term_from b)
  entry_from (node F.Grouped x a b) = grouped x (group_from a)
  entry_from (node f x a b) = typed x (term_from a)
  entry_from nothing = typed None (hash [])

  pub key_from : Tree → Key
  key_from (node F.TypeKey x a b) = of_type (term_from a) false
  key_from (node F.CutKey x a b) = of_type (term_from a) true
  key_from (node F.LiteralKey x a b) = of_value (literal_from a)
  key_from (node f x a b) = bareword (text_in x)
  key_from nothing = bareword []

literal_back : (v : Literal) → literal_from (literal_tree v) ≡ v
unfolding literal_from text_in
literal_back (number x) = refl
literal_back (text x) = refl
literal_back (bytes x) = refl

mutual
  unfolding literal_from text_in term_from

  pub term_back : (t : Term) → term_from (term_tree t) ≡ t
  term_back (literal (number x)) = refl
  term_back (literal (text x)) = refl
  term_back (literal (bytes x)) = refl
  term_back (named r) = ap named (ref_back r)
  term_back (parens t) = ap parens (term_back t)
  term_back (map_of g) = ap map_of (group_back g)
  term_back (array_of g) = ap array_of (group_back g)
  term_back (unwrapped r) = ap unwrapped (ref_back r)
  term_back (choice_of g) = ap choice_of (group_back g)
  term_back (choice_of_name r) = ap choice_of_name (ref_back r)
  term_back (tagged x t) = ap (tagged x) (term_back t)
  term_back (tagged_by h t) = λ i. tagged_by (term_back h i) (term_back t i)
  term_back (simple_by h) = ap simple_by (term_back h)
  term_back (hash x) = refl
  term_back (range a true b) = λ i. range (term_back a i) true (term_back b i)
  term_back (range a false b) = λ i. range (term_back a i) false (term_back b i)
  term_back (control a x b) = λ i. control (term_back a i) x (term_back b i)
  term_back (or t u) = λ i. or (term_back t i) (term_back u i)

  pub ref_back : (r : Ref) → ref_from (ref_tree r) ≡ r
  ref_back (call x ts) = ap (call x) (terms_back ts)

  pub terms_back : (ts : Terms) → terms_from (terms_tree ts) ≡ ts
  terms_back no_terms = refl
  terms_back (term t ts) = λ i. term (term_back t i) (terms_back ts i)

  pub group_back : (g : Group) → group_from (group_tree g) ≡ g
  group_back (sole es) = ap sole (entries_back es)
  group_back (orelse g es) = λ i. orelse (group_back g i) (entries_back es i)

  pub entries_back : (es : Entries) → entries_from (entries_tree es) ≡ es
  entries_back no_entries = refl
  entries_back (entries es e true) = λ i. entries (entries_back es i) (entry_back e i) true
  entries_back (entries es e false) = λ i. entries (entries_back es i) (entry_back e i) false

  pub entry_back : (e : Entry) → entry_from (entry_tree e) ≡ e
  entry_back (typed o t) = ap (typed o) (term_back t)
  entry_back (keyed o k t) = λ i. keyed o (key_back k i) (term_back t i)
  entry_back (grouped o g) = ap (grouped o) (group_back g)

  pub key_back : (k : Key) → key_from (key_tree k) ≡ k
  key_back (of_type t true) = λ i. of_type (term_back t i) true
  key_back (of_type t false) = λ i. of_type (term_back t i) false
  key_back (bareword x) = refl
  key_back (of_value v) = ap of_value (literal_back v)
