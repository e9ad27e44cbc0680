-- Names after `&`, wherever they stand in a term, in arguments and keys too.
use Rattle.std.proofs.Common.{if◌then◌else◌, List, [], ◌∷◌, ◌++◌, Option, Some, None, Bool, true, false}
use Rattle.cddl_language.specs.Terms.{Text, Term, literal, named, parens, map_of, array_of, unwrapped, choice_of, choice_of_name, tagged, tagged_by, simple_by, hash, range, control, or, Ref, call, Terms, no_terms, term, Group, sole, orelse, Entries, no_entries, entries, Entry, typed, keyed, grouped, Key, of_type, bareword, of_value, Body, of_types, of_entry, alternatives, choices, name_of, stripped, term_list}
use Rattle.cddl_language.specs.Environment.{is_same}
use Rattle.cddl_language.specs.Substitution.{argument, argument_for, or_else, fill, fill_ref, fill_all, fill_group, fill_entries, fill_entry, fill_key, fill_body}

-- each of them is of this sort
module _ (P : Text → Type 0) where
  abbrev mutual
    pub AllIn : Term → Type 0
    AllIn (literal v) = Unit {0}
    AllIn (named r) = AllInRef r
    AllIn (parens t) = AllIn t
    AllIn (map_of g) = AllInGroup g
    AllIn (array_of g) = AllInGroup g
    AllIn (unwrapped r) = AllInRef r
    AllIn (choice_of g) = AllInGroup g
    AllIn (choice_of_name r) = P (name_of r) × AllInRef r
    AllIn (tagged n t) = AllIn t
    AllIn (tagged_by h t) = AllIn h × AllIn t
    AllIn (simple_by h) = AllIn h
    AllIn (hash n) = Unit {0}
    AllIn (range a c b) = AllIn a × AllIn b
    AllIn (control a n b) = AllIn a × AllIn b
    AllIn (or t u) = AllIn t × AllIn u

    pub AllInRef : Ref → Type 0
    AllInRef (call n ts) = AllInTerms ts

    pub AllInTerms : Terms → Type 0
    AllInTerms no_terms = Unit {0}
    AllInTerms (term t ts) = AllIn t × AllInTerms ts

    pub AllInGroup : Group → Type 0
    AllInGroup (sole es) = AllInEntries es
    AllInGroup (orelse g es) = AllInGroup g × AllInEntries es

    pub AllInEntries : Entries → Type 0
    AllInEntries no_entries = Unit {0}
    AllInEntries (entries es e c) = AllInEntries es × AllInEntry e

    pub AllInEntry : Entry → Type 0
    AllInEntry (typed o t) = AllIn t
    AllInEntry (keyed o k t) = AllInKey k × AllIn t
    AllInEntry (grouped o g) = AllInGroup g

    pub AllInKey : Key → Type 0
    AllInKey (of_type t c) = AllIn t
    AllInKey (bareword n) = Unit {0}
    AllInKey (of_value v) = Unit {0}

  abbrev pub AllInBody : Body → Type 0
  AllInBody (of_types t) = AllIn t
  AllInBody (of_entry e) = AllInEntry e

  -- Arguments in the place of parameters bring their own.

  abbrev pub AllTerms : List Term → Type 0
  AllTerms [] = Unit {0}
  AllTerms (t ∷ ts) = AllIn t × AllTerms ts

  abbrev pub InOption : Option Term → Type 0
  InOption None = Unit {0}
  InOption (Some t) = AllIn t

  pub as_list : (ts : Terms) → AllInTerms ts → AllTerms (term_list ts)
  as_list no_terms h = tt
  as_list (term t ts) h = (h.0, as_list ts h.1)

  one_of_two : (b : Bool) (x : Term) (o : Option Term) → AllIn x → InOption o → InOption (if b then Some x else o)
  one_of_two true x o h k = h
  one_of_two false x o h k = k

  in_argument : (ps : List Text) (xs : List Term) (n : Text) → AllTerms xs → InOption (argument ps xs n)
  in_argument [] xs n h = tt
  in_argument (p ∷ ps) [] n h = tt
  in_argument (p ∷ ps) (x ∷ xs) n h = one_of_two (is_same p n) x (argument ps xs n) h.0 (in_argument ps xs n h.1)

  in_argument_for : (ps : List Text) (xs : List Term) (r : Ref) → AllTerms xs → InOption (argument_for ps xs r)
  in_argument_for ps xs (call n no_terms) h = in_argument ps xs n h
  in_argument_for ps xs (call n (term t ts)) h = tt

  either : (o : Option Term) (u : Term) → InOption o → AllIn u → AllIn (or_else o u)
  either None u h k = k
  either (Some t) u h k = h

  module _ (ps : List Text) (xs : List Term) (given : AllTerms xs) where
    mutual
      pub in_filled : (t : Term) → AllIn t → AllIn (fill ps xs t)
      in_filled (literal v) h = tt
      in_filled (named r) h = either (argument_for ps xs r) (named (fill_ref ps xs r)) (in_argument_for ps xs r given) (in_filled_ref r h)
      in_filled (parens t) h = in_filled t h
      in_filled (map_of g) h = in_filled_group g h
      in_filled (array_of g) h = in_filled_group g h
      in_filled (unwrapped r) h = either (argument_for ps xs r) (unwrapped (fill_ref ps xs r)) (in_argument_for ps xs r given) (in_filled_ref r h)
      in_filled (choice_of g) h = in_filled_group g h
      in_filled (choice_of_name (call n ts)) h = (h.0, in_filled_all ts h.1)
      in_filled (tagged n t) h = in_filled t h
      in_filled (tagged_by u t) h = (in_filled u h.0, in_filled t h.1)
      in_filled (simple_by u) h = in_filled u h
      in_filled (hash n) h = tt
      in_filled (range a c b) h = (in_filled a h.0, in_filled b h.1)
      in_filled (control a n b) h = (in_filled a h.0, in_filled b h.1)
      in_filled (or t u) h = (in_filled t h.0, in_filled u h.1)

      pub in_filled_ref : (r : Ref) → AllInRef r → AllInRef (fill_ref ps xs r)
      in_filled_ref (call n ts) h = in_filled_all ts h

      pub in_filled_all : (ts : Terms) → AllInTerms ts → AllInTerms (fill_all ps xs ts)
      in_filled_all no_terms h = tt
      in_filled_all (term t ts) h = (in_filled t h.0, in_filled_all ts h.1)

      pub in_filled_group : (g : Group) → AllInGroup g → AllInGroup (fill_group ps xs g)
      in_filled_group (sole es) h = in_filled_entries es h
      in_filled_group (orelse g es) h = (in_filled_group g h.0, in_filled_entries es h.1)

      pub in_filled_entries : (es : Entries) → AllInEntries es → AllInEntries (fill_entries ps xs es)
      in_filled_entries no_entries h = tt
      in_filled_entries (entries es e c) h = (in_filled_entries es h.0, in_filled_entry e h.1)

      pub in_filled_entry : (e : Entry) → AllInEntry e → AllInEntry (fill_entry ps xs e)
      in_filled_entry (typed o t) h = in_filled t h
      in_filled_entry (keyed o k t) h = (in_filled_key k h.0, in_filled t h.1)
      in_filled_entry (grouped o g) h = in_filled_group g h

      pub in_filled_key : (k : Key) → AllInKey k → AllInKey (fill_key ps xs k)
      in_filled_key (of_type t c) h = in_filled t h
      in_filled_key (bareword n) h = tt
      in_filled_key (of_value v) h = tt

    pub in_filled_body : (b : Body) → AllInBody b → AllInBody (fill_body ps xs b)
    in_filled_body (of_types t) h = in_filled t h
    in_filled_body (of_entry e) h = in_filled_entry e h

  -- Choices, alternatives and entries have those of what they are of.

  pub joined : (ts us : List Term) → AllTerms ts → AllTerms us → AllTerms (ts ++ us)
  joined [] us h k = k
  joined (t ∷ ts) us h k = (h.0, joined ts us h.1 k)

  abbrev pub AllAlternatives : List Entries → Type 0
  AllAlternatives [] = Unit {0}
  AllAlternatives (es ∷ ess) = AllInEntries es × AllAlternatives ess

  pub joined_alternatives : (ls ms : List Entries) → AllAlternatives ls → AllAlternatives ms → AllAlternatives (ls ++ ms)
  joined_alternatives [] ms h k = k
  joined_alternatives (l ∷ ls) ms h k = (h.0, joined_alternatives ls ms h.1 k)

  pub in_choices : (t : Term) → AllIn t → AllTerms (choices t)
  in_choices (or t u) h = joined (choices t) (u ∷ []) (in_choices t h.0) (h.1, tt)
  in_choices (literal v) h = (h, tt)
  in_choices (named r) h = (h, tt)
  in_choices (parens t) h = (h, tt)
  in_choices (map_of g) h = (h, tt)
  in_choices (array_of g) h = (h, tt)
  in_choices (unwrapped r) h = (h, tt)
  in_choices (choice_of g) h = (h, tt)
  in_choices (choice_of_name r) h = (h, tt)
  in_choices (tagged n t) h = (h, tt)
  in_choices (tagged_by u t) h = (h, tt)
  in_choices (simple_by u) h = (h, tt)
  in_choices (hash n) h = (h, tt)
  in_choices (range a c b) h = (h, tt)
  in_choices (control a n b) h = (h, tt)

  pub in_stripped : (t : Term) → AllIn t → AllIn (stripped t)
  in_stripped (parens t) h = in_stripped t h
  in_stripped (literal v) h = h
  in_stripped (named r) h = h
  in_stripped (map_of g) h = h
  in_stripped (array_of g) h = h
  in_stripped (unwrapped r) h = h
  in_stripped (choice_of g) h = h
  in_stripped (choice_of_name r) h = h
  in_stripped (tagged n t) h = h
  in_stripped (tagged_by u t) h = h
  in_stripped (simple_by u) h = h
  in_stripped (hash n) h = h
  in_stripped (range a c b) h = h
  in_stripped (control a n b) h = h
  in_stripped (or t u) h = h

  pub in_alternatives : (g : Group) → AllInGroup g → AllAlternatives (alternatives g)
  in_alternatives (sole es) h = (h, tt)
  in_alternatives (orelse g es) h = joined_alternatives (alternatives g) (es ∷ []) (in_alternatives g h.0) (h.1, tt)
