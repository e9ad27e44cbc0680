-- Choices, alternatives and entries have the written values of what they are of.
use Rattle.std.proofs.Common.{List, [], ◌∷◌, ◌++◌}
use Rattle.cddl_language.specs.Terms.{Literal, Term, literal, named, parens, map_of, array_of, unwrapped, choice_of, choice_of_name, tagged, tagged_by, simple_by, hash, range, control, or, Group, sole, orelse, Entries, choices, alternatives, stripped}
use Rattle.cddl_language.specs.Written.Written.{AllIn, AllInGroup, AllInEntries}
use Rattle.cddl_language.proofs.OfWritten.Filled.{AllTerms}

module _ (P : Literal → Type 0) where
  pub joined : (ts us : List Term) → AllTerms P ts → AllTerms P us → AllTerms P (ts ++ us)
  joined [] us h k = k
  joined (t ∷ ts) us h k = (h.0, joined ts us h.1 k)

  abbrev pub AllAlternatives : List Entries → Type 0
  AllAlternatives [] = Unit {0}
  AllAlternatives (es ∷ ess) = AllInEntries P es × AllAlternatives ess

  pub joined_alternatives : (ls ms : List Entries) → AllAlternatives ls → AllAlternatives ms → AllAlternatives (ls ++ ms)
  joined_alternatives [] ms h k = k
  joined_alternatives (l ∷ ls) ms h k = (h.0, joined_alternatives ls ms h.1 k)

  pub in_choices : (t : Term) → AllIn P t → AllTerms P (choices t)
  in_choices (or t u) h = joined (choices t) (u ∷ []) (in_choices t h.0) (h.1, tt)
  in_choices (literal v) h = (h, tt)
  in_choices (named r) h = (h, tt)
  in_choices (parens t) h = (h, tt)
  in_choices (map_of g) h = (h, tt)
  in_choices (array_of g) h = (h, tt)
  in_choices (unwrapped r) h = (h, tt)
  in_choices (choice_of g) h = (h, tt)
  in_choices (choice_of_name r) h = (h, tt)
  in_choices (tagged n t) h = (h, tt)
  in_choices (tagged_by u t) h = (h, tt)
  in_choices (simple_by u) h = (h, tt)
  in_choices (hash n) h = (h, tt)
  in_choices (range a c b) h = (h, tt)
  in_choices (control a n b) h = (h, tt)

  pub in_stripped : (t : Term) → AllIn P t → AllIn P (stripped t)
  in_stripped (parens t) h = in_stripped t h
  in_stripped (literal v) h = h
  in_stripped (named r) h = h
  in_stripped (map_of g) h = h
  in_stripped (array_of g) h = h
  in_stripped (unwrapped r) h = h
  in_stripped (choice_of g) h = h
  in_stripped (choice_of_name r) h = h
  in_stripped (tagged n t) h = h
  in_stripped (tagged_by u t) h = h
  in_stripped (simple_by u) h = h
  in_stripped (hash n) h = h
  in_stripped (range a c b) h = h
  in_stripped (control a n b) h = h
  in_stripped (or t u) h = h

  pub in_alternatives : (g : Group) → AllInGroup P g → AllAlternatives (alternatives g)
  in_alternatives (sole es) h = (h, tt)
  in_alternatives (orelse g es) h = joined_alternatives (alternatives g) (es ∷ []) (in_alternatives g h.0) (h.1, tt)
