-- All written values in a term, in its arguments and keys too, are of one sort.
use Rattle.cddl_language.specs.Terms.{Literal, Term, literal, named, parens, map_of, array_of, unwrapped, choice_of, choice_of_name, tagged, tagged_by, simple_by, hash, range, control, or, Ref, call, Terms, no_terms, term, Group, sole, orelse, Entries, no_entries, entries, Entry, typed, keyed, grouped, Key, of_type, bareword, of_value, Body, of_types, of_entry}
use Rattle.cddl_language.specs.Literals.{Means, Values}

module _ (P : Literal → Type 0) where
  abbrev mutual
    pub AllIn : Term → Type 0
    AllIn (literal v) = P v
    AllIn (named r) = AllInRef r
    AllIn (parens t) = AllIn t
    AllIn (map_of g) = AllInGroup g
    AllIn (array_of g) = AllInGroup g
    AllIn (unwrapped r) = AllInRef r
    AllIn (choice_of g) = AllInGroup g
    AllIn (choice_of_name r) = AllInRef r
    AllIn (tagged n t) = AllIn t
    AllIn (tagged_by h t) = AllIn h × AllIn t
    AllIn (simple_by h) = AllIn h
    AllIn (hash n) = Unit {0}
    AllIn (range a c b) = AllIn a × AllIn b
    AllIn (control a n b) = AllIn a × AllIn b
    AllIn (or t u) = AllIn t × AllIn u

    pub AllInRef : Ref → Type 0
    AllInRef (call n ts) = AllInTerms ts

    pub AllInTerms : Terms → Type 0
    AllInTerms no_terms = Unit {0}
    AllInTerms (term t ts) = AllIn t × AllInTerms ts

    pub AllInGroup : Group → Type 0
    AllInGroup (sole es) = AllInEntries es
    AllInGroup (orelse g es) = AllInGroup g × AllInEntries es

    pub AllInEntries : Entries → Type 0
    AllInEntries no_entries = Unit {0}
    AllInEntries (entries es e c) = AllInEntries es × AllInEntry e

    pub AllInEntry : Entry → Type 0
    AllInEntry (typed o t) = AllIn t
    AllInEntry (keyed o k t) = AllInKey k × AllIn t
    AllInEntry (grouped o g) = AllInGroup g

    pub AllInKey : Key → Type 0
    AllInKey (of_type t c) = AllIn t
    AllInKey (bareword n) = Unit {0}
    AllInKey (of_value v) = P v

  abbrev pub AllInBody : Body → Type 0
  AllInBody (of_types t) = AllIn t
  AllInBody (of_entry e) = AllInEntry e

-- the value is taken for what it stands for
abbrev pub IsMeant : Values → Literal → Type 0
IsMeant worth v = Means v (worth v)
