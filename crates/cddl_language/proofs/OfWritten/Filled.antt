-- Arguments in the place of parameters bring their own written values.
use Rattle.std.proofs.Common.{if◌then◌else◌, List, [], ◌∷◌, Option, Some, None, Bool, true, false}
use Rattle.cddl_language.specs.Terms.{Text, Literal, Term, literal, named, parens, map_of, array_of, unwrapped, choice_of, choice_of_name, tagged, tagged_by, simple_by, hash, range, control, or, Ref, call, Terms, no_terms, term, Group, sole, orelse, Entries, no_entries, entries, Entry, typed, keyed, grouped, Key, of_type, bareword, of_value, Body, of_types, of_entry, term_list}
use Rattle.cddl_language.specs.Environment.{is_same}
use Rattle.cddl_language.specs.Substitution.{argument, argument_for, or_else, fill, fill_ref, fill_all, fill_group, fill_entries, fill_entry, fill_key, fill_body}
use Rattle.cddl_language.specs.Written.Written.{AllIn, AllInRef, AllInTerms, AllInGroup, AllInEntries, AllInEntry, AllInKey, AllInBody}

module _ (P : Literal → Type 0) where
  abbrev pub AllTerms : List Term → Type 0
  AllTerms [] = Unit {0}
  AllTerms (t ∷ ts) = AllIn P t × AllTerms ts

  abbrev pub InOption : Option Term → Type 0
  InOption None = Unit {0}
  InOption (Some t) = AllIn P t

  pub as_list : (ts : Terms) → AllInTerms P ts → AllTerms (term_list ts)
  as_list no_terms h = tt
  as_list (term t ts) h = (h.0, as_list ts h.1)

  one_of_two : (b : Bool) (x : Term) (o : Option Term) → AllIn P x → InOption o → InOption (if b then Some x else o)
  one_of_two true x o h k = h
  one_of_two false x o h k = k

  in_argument : (ps : List Text) (xs : List Term) (n : Text) → AllTerms xs → InOption (argument ps xs n)
  in_argument [] xs n h = tt
  in_argument (p ∷ ps) [] n h = tt
  in_argument (p ∷ ps) (x ∷ xs) n h = one_of_two (is_same p n) x (argument ps xs n) h.0 (in_argument ps xs n h.1)

  in_argument_for : (ps : List Text) (xs : List Term) (r : Ref) → AllTerms xs → InOption (argument_for ps xs r)
  in_argument_for ps xs (call n no_terms) h = in_argument ps xs n h
  in_argument_for ps xs (call n (term t ts)) h = tt

  either : (o : Option Term) (u : Term) → InOption o → AllIn P u → AllIn P (or_else o u)
  either None u h k = k
  either (Some t) u h k = h

  module _ (ps : List Text) (xs : List Term) (given : AllTerms xs) where
    mutual
      pub in_filled : (t : Term) → AllIn P t → AllIn P (fill ps xs t)
      in_filled (literal v) h = h
      in_filled (named r) h = either (argument_for ps xs r) (named (fill_ref ps xs r)) (in_argument_for ps xs r given) (in_filled_ref r h)
      in_filled (parens t) h = in_filled t h
      in_filled (map_of g) h = in_filled_group g h
      in_filled (array_of g) h = in_filled_group g h
      in_filled (unwrapped r) h = either (argument_for ps xs r) (unwrapped (fill_ref ps xs r)) (in_argument_for ps xs r given) (in_filled_ref r h)
      in_filled (choice_of g) h = in_filled_group g h
      in_filled (choice_of_name r) h = in_filled_ref r h
      in_filled (tagged n t) h = in_filled t h
      in_filled (tagged_by u t) h = (in_filled u h.0, in_filled t h.1)
      in_filled (simple_by u) h = in_filled u h
      in_filled (hash n) h = tt
      in_filled (range a c b) h = (in_filled a h.0, in_filled b h.1)
      in_filled (control a n b) h = (in_filled a h.0, in_filled b h.1)
      in_filled (or t u) h = (in_filled t h.0, in_filled u h.1)

      pub in_filled_ref : (r : Ref) → AllInRef P r → AllInRef P (fill_ref ps xs r)
      in_filled_ref (call n ts) h = in_filled_all ts h

      pub in_filled_all : (ts : Terms) → AllInTerms P ts → AllInTerms P (fill_all ps xs ts)
      in_filled_all no_terms h = tt
      in_filled_all (term t ts) h = (in_filled t h.0, in_filled_all ts h.1)

      pub in_filled_group : (g : Group) → AllInGroup P g → AllInGroup P (fill_group ps xs g)
      in_filled_group (sole es) h = in_filled_entries es h
      in_filled_group (orelse g es) h = (in_filled_group g h.0, in_filled_entries es h.1)

      pub in_filled_entries : (es : Entries) → AllInEntries P es → AllInEntries P (fill_entries ps xs es)
      in_filled_entries no_entries h = tt
      in_filled_entries (entries es e c) h = (in_filled_entries es h.0, in_filled_entry e h.1)

      pub in_filled_entry : (e : Entry) → AllInEntry P e → AllInEntry P (fill_entry ps xs e)
      in_filled_entry (typed o t) h = in_filled t h
      in_filled_entry (keyed o k t) h = (in_filled_key k h.0, in_filled t h.1)
      in_filled_entry (grouped o g) h = in_filled_group g h

      pub in_filled_key : (k : Key) → AllInKey P k → AllInKey P (fill_key ps xs k)
      in_filled_key (of_type t c) h = in_filled t h
      in_filled_key (bareword n) h = tt
      in_filled_key (of_value v) h = h

    pub in_filled_body : (b : Body) → AllInBody P b → AllInBody P (fill_body ps xs b)
    in_filled_body (of_types t) h = in_filled t h
    in_filled_body (of_entry e) h = in_filled_entry e h
