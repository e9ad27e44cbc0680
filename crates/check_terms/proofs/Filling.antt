-- The tree of a filled term is the filled tree.
use Rattle.std.proofs.Common.{◌≡◌, List, [], ◌∷◌, Bool, true, false, refl, ◌∙◌, Option, Some, None, if◌then◌else◌}
use Rattle.std.specs.Prelude.{option_map}
use Rattle.cddl_language.specs.Environment.{is_same}
use Rattle.cddl_language.specs.Substitution.{argument, or_else, fill, argument_for, fill_ref, fill_all, fill_group, fill_entries, fill_entry, fill_key}
use Rattle.cddl_language.specs.Terms.{Text, number, text, bytes, Term, literal, named, parens, map_of, array_of, unwrapped, choice_of, choice_of_name, tagged, tagged_by, simple_by, hash, range, control, or, Ref, call, Terms, no_terms, term, Group, sole, orelse, Entries, no_entries, entries, Entry, typed, keyed, grouped, Key, of_type, bareword, of_value}
use Rattle.check_terms.specs.declared.row.Form.TheVariants as F
use Rattle.check_terms.specs.Filled.{tree_argument, parameter, tree_or, filled, term_trees}
use Rattle.check_terms.specs.Table.{nothing, node}
use Rattle.check_terms.specs.Trees.{term_tree, ref_tree, terms_tree, group_tree, entries_tree, entry_tree, key_tree}

same_argument : (ps : List Text) (xs : List Term) (n : Text) → tree_argument ps (term_trees xs) n ≡ option_map term_tree (argument ps xs n)
same_argument [] xs n = refl
same_argument (p ∷ ps) [] n = refl
same_argument (p ∷ ps) (x ∷ xs) n = by (is_same p n) (same_argument ps xs n)
  where
    by : (b : Bool) → tree_argument ps (term_trees xs) n ≡ option_map term_tree (argument ps xs n) → (if b then Some (term_tree x) else tree_argument ps (term_trees xs) n) ≡ option_map term_tree (if b then Some x else argument ps xs n)
    by true e = refl
    by false e = e

same_parameter : (ps : List Text) (xs : List Term) (r : Ref) → parameter ps (term_trees xs) (ref_tree r) ≡ option_map term_tree (argument_for ps xs r)
same_parameter ps xs (call n no_terms) = same_argument ps xs n
same_parameter ps xs (call n (term t ts)) = refl

same_or : (o : Option Term) (t : Term) → tree_or (option_map term_tree o) (term_tree t) ≡ term_tree (or_else o t)
same_or (Some u) t = refl
same_or None t = refl

module _ (ps : List Text) (xs : List Term) where
  mutual
    pub term_filled : (t : Term) → filled ps (term_trees xs) (term_tree t) ≡ term_tree (fill ps xs t)
    term_filled (literal (number x)) = refl
    term_filled (literal (text x)) = refl
    term_filled (literal (bytes x)) = refl
    term_filled (named r) = (λ i. tree_or (same_parameter ps xs r i) (node F.Named None (ref_filled r i) nothing)) ∙ same_or (argument_for ps xs r) (named (fill_ref ps xs r))
    term_filled (parens t) = λ i. node F.Parens None (term_filled t i) nothing
    term_filled (map_of g) = λ i. node F.MapOf None (group_filled g i) nothing
    term_filled (array_of g) = λ i. node F.ArrayOf None (group_filled g i) nothing
    term_filled (unwrapped r) = (λ i. tree_or (same_parameter ps xs r i) (node F.Unwrapped None (ref_filled r i) nothing)) ∙ same_or (argument_for ps xs r) (unwrapped (fill_ref ps xs r))
    term_filled (choice_of g) = λ i. node F.ChoiceOf None (group_filled g i) nothing
    term_filled (choice_of_name r) = λ i. node F.ChoiceOfName None (ref_filled r i) nothing
    term_filled (tagged x t) = λ i. node F.Tagged (Some x) (term_filled t i) nothing
    term_filled (tagged_by h t) = λ i. node F.TaggedBy None (term_filled h i) (term_filled t i)
    term_filled (simple_by h) = λ i. node F.SimpleBy None (term_filled h i) nothing
    term_filled (hash x) = refl
    term_filled (range a true b) = λ i. node F.Range None (term_filled a i) (term_filled b i)
    term_filled (range a false b) = λ i. node F.RangeBelow None (term_filled a i) (term_filled b i)
    term_filled (control a x b) = λ i. node F.Control (Some x) (term_filled a i) (term_filled b i)
    term_filled (or t u) = λ i. node F.Or None (term_filled t i) (term_filled u i)

    pub ref_filled : (r : Ref) → filled ps (term_trees xs) (ref_tree r) ≡ ref_tree (fill_ref ps xs r)
    ref_filled (call n ts) = λ i. node F.Call (Some n) (terms_filled ts i) nothing

    pub terms_filled : (ts : Terms) → filled ps (term_trees xs) (terms_tree ts) ≡ terms_tree (fill_all ps xs ts)
    terms_filled no_terms = refl
    terms_filled (term t ts) = λ i. node F.Argument None (term_filled t i) (terms_filled ts i)

    pub group_filled : (g : Group) → filled ps (term_trees xs) (group_tree g) ≡ group_tree (fill_group ps xs g)
    group_filled (sole es) = λ i. node F.Sole None (entries_filled es i) nothing
    group_filled (orelse g es) = λ i. node F.OrElse None (group_filled g i) (entries_filled es i)

    pub entries_filled : (es : Entries) → filled ps (term_trees xs) (entries_tree es) ≡ entries_tree (fill_entries ps xs es)
    entries_filled no_entries = refl
    entries_filled (entries es e true) = λ i. node F.EntriesComma None (entries_filled es i) (entry_filled e i)
    entries_filled (entries es e false) = λ i. node F.Entries None (entries_filled es i) (entry_filled e i)

    pub entry_filled : (e : Entry) → filled ps (term_trees xs) (entry_tree e) ≡ entry_tree (fill_entry ps xs e)
    entry_filled (typed o t) = λ i. node F.Typed o (term_filled t i) nothing
    entry_filled (keyed o k t) = λ i. node F.Keyed o (key_filled k i) (term_filled t i)
    entry_filled (grouped o g) = λ i. node F.Grouped o (group_filled g i) nothing

    pub key_filled : (k : Key) → filled ps (term_trees xs) (key_tree k) ≡ key_tree (fill_key ps xs k)
    key_filled (of_type t true) = λ i. node F.CutKey None (term_filled t i) nothing
    key_filled (of_type t false) = λ i. node F.TypeKey None (term_filled t i) nothing
    key_filled (bareword x) = refl
    key_filled (of_value (number x)) = refl
    key_filled (of_value (text x)) = refl
    key_filled (of_value (bytes x)) = refl
