-- Closed references: a name with closed arguments, which means its name's definitions with the arguments in the place of
-- the parameters (RFC 8610 section 3.10). Two are the same where their names and arguments are.
use Rattle.std.specs.Prelude.{if◌then◌else◌, List, [], ◌∷◌, ◌++◌, map, flat_map, Option, Some, None}
use Rattle.cddl_language.specs.Terms.{Text, Term, literal, named, parens, map_of, array_of, unwrapped, choice_of, choice_of_name, tagged, tagged_by, simple_by, hash, range, control, or, Ref, call, Terms, no_terms, term, Group, sole, orelse, Entries, no_entries, entries, Entry, typed, keyed, grouped, Key, of_type, bareword, of_value, Body, of_types, of_entry, Definition, term_list, choices, alternatives, lone}
use Rattle.cddl_language.specs.Environment.{is_same, definitions_of}

-- what stands for the parameter n, of these parameters and arguments
abbrev pub argument : List Text → List Term → Text → Option Term
argument [] xs n = None
argument (p ∷ ps) [] n = None
argument (p ∷ ps) (x ∷ xs) n = if is_same p n then Some x else argument ps xs n

abbrev pub or_else : Option Term → Term → Term
or_else (Some t) u = t
or_else None u = u

-- A parameter is a name without arguments. `~p` of a parameter p opens nothing and is refused; its argument counts as used,
-- so it stands in the place of `~p`.
abbrev mutual
  pub fill : List Text → List Term → Term → Term
  fill ps xs (literal v) = literal v
  fill ps xs (named r) = or_else (argument_for ps xs r) (named (fill_ref ps xs r))
  fill ps xs (parens t) = parens (fill ps xs t)
  fill ps xs (map_of g) = map_of (fill_group ps xs g)
  fill ps xs (array_of g) = array_of (fill_group ps xs g)
  fill ps xs (unwrapped r) = or_else (argument_for ps xs r) (unwrapped (fill_ref ps xs r))
  fill ps xs (choice_of g) = choice_of (fill_group ps xs g)
  fill ps xs (choice_of_name r) = choice_of_name (fill_ref ps xs r)
  fill ps xs (tagged n t) = tagged n (fill ps xs t)
  fill ps xs (tagged_by h t) = tagged_by (fill ps xs h) (fill ps xs t)
  fill ps xs (simple_by h) = simple_by (fill ps xs h)
  fill ps xs (hash n) = hash n
  fill ps xs (range a c b) = range (fill ps xs a) c (fill ps xs b)
  fill ps xs (control a n b) = control (fill ps xs a) n (fill ps xs b)
  fill ps xs (or t u) = or (fill ps xs t) (fill ps xs u)

  pub argument_for : List Text → List Term → Ref → Option Term
  argument_for ps xs (call n no_terms) = argument ps xs n
  argument_for ps xs (call n (term t ts)) = None

  pub fill_ref : List Text → List Term → Ref → Ref
  fill_ref ps xs (call n ts) = call n (fill_all ps xs ts)

  pub fill_all : List Text → List Term → Terms → Terms
  fill_all ps xs no_terms = no_terms
  fill_all ps xs (term t ts) = term (fill ps xs t) (fill_all ps xs ts)

  pub fill_group : List Text → List Term → Group → Group
  fill_group ps xs (sole es) = sole (fill_entries ps xs es)
  fill_group ps xs (orelse g es) = orelse (fill_group ps xs g) (fill_entries ps xs es)

  pub fill_entries : List Text → List Term → Entries → Entries
  fill_entries ps xs no_entries = no_entries
  fill_entries ps xs (entries es e c) = entries (fill_entries ps xs es) (fill_entry ps xs e) c

  pub fill_entry : List Text → List Term → Entry → Entry
  fill_entry ps xs (typed o t) = typed o (fill ps xs t)
  fill_entry ps xs (keyed o k t) = keyed o (fill_key ps xs k) (fill ps xs t)
  fill_entry ps xs (grouped o g) = grouped o (fill_group ps xs g)

  pub fill_key : List Text → List Term → Key → Key
  fill_key ps xs (of_type t c) = of_type (fill ps xs t) c
  fill_key ps xs (bareword n) = bareword n
  fill_key ps xs (of_value v) = of_value v

abbrev pub fill_body : List Text → List Term → Body → Body
fill_body ps xs (of_types t) = of_types (fill ps xs t)
fill_body ps xs (of_entry e) = of_entry (fill_entry ps xs e)

-- what a closed reference means, one body a definition
abbrev pub bodies : List Definition → Ref → List Body
bodies ds (call n ts) = map (λ (d : Definition). fill_body d.parameters (term_list ts) d.body) (definitions_of ds n)

-- as a type: the choices of all its definitions, in order
abbrev pub types_in : List Body → List Term
types_in [] = []
types_in (of_types t ∷ bs) = choices t ++ types_in bs
types_in (of_entry e ∷ bs) = types_in bs

abbrev pub type_choices : List Definition → Ref → List Term
type_choices ds r = types_in (bodies ds r)

-- As a group: the alternatives of all its definitions, in order. Parentheses round a whole body are the group itself.
abbrev pub body_alternatives : Body → List Entries
body_alternatives (of_types t) = lone (typed None t) ∷ []
body_alternatives (of_entry (grouped None g)) = alternatives g
body_alternatives (of_entry e) = lone e ∷ []

abbrev pub group_choices : List Definition → Ref → List Entries
group_choices ds r = flat_map body_alternatives (bodies ds r)
