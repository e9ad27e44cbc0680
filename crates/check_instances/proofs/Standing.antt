-- The references that stand in a tree are those of what the tree is of.
use Rattle.std.proofs.Common.{◌≡◌, List, [], ◌∷◌, ◌++◌, map, true, false, refl, sym, ◌∙◌}
use Rattle.std.proofs.lemmas.List.{map-append}
use Rattle.lists.proofs.Lemmas.{none_more}
use Rattle.cddl_language.specs.Reach.{Point, points, group_points, entries_points, entry_points, key_points, body_points}
use Rattle.cddl_language.specs.Terms as L
use Rattle.cddl_language.specs.Terms.{number, text, bytes, Term, literal, named, parens, map_of, array_of, unwrapped, choice_of, choice_of_name, tagged, tagged_by, simple_by, hash, range, control, or, Ref, call, Group, sole, orelse, Entries, no_entries, entries, Entry, typed, keyed, grouped, Key, of_type, bareword, of_value}
use Rattle.check_terms.specs.Table.{Tree}
use Rattle.check_terms.specs.Trees.{term_tree, ref_tree, group_tree, entries_tree, entry_tree, key_tree}
use Rattle.check_instances.specs.Calls.{body_tree, calls, point_tree}

alone : (xs : List Tree) (ps : List Point) → xs ≡ map point_tree ps → xs ++ [] ≡ map point_tree ps
alone xs ps e = none_more xs ∙ e

both : (xs ys : List Tree) (ps qs : List Point) → xs ≡ map point_tree ps → ys ≡ map point_tree qs → xs ++ ys ≡ map point_tree (ps ++ qs)
both xs ys ps qs e f = (λ i. e i ++ f i) ∙ sym (map-append point_tree ps qs)

itself : (r : Ref) → calls (ref_tree r) ≡ ref_tree r ∷ []
itself (call x ts) = refl

at : (r : Ref) → calls (ref_tree r) ++ [] ≡ ref_tree r ∷ []
at r = none_more (calls (ref_tree r)) ∙ itself r

mutual
  pub term_stands : (t : Term) → calls (term_tree t) ≡ map point_tree (points t)
  term_stands (literal (number x)) = refl
  term_stands (literal (text x)) = refl
  term_stands (literal (bytes x)) = refl
  term_stands (named r) = at r
  term_stands (parens t) = alone _ (points t) (term_stands t)
  term_stands (map_of g) = alone _ (group_points g) (group_stands g)
  term_stands (array_of g) = alone _ (group_points g) (group_stands g)
  term_stands (unwrapped r) = at r
  term_stands (choice_of g) = alone _ (group_points g) (group_stands g)
  term_stands (choice_of_name r) = at r
  term_stands (tagged x t) = alone _ (points t) (term_stands t)
  term_stands (tagged_by h t) = both _ _ (points h) (points t) (term_stands h) (term_stands t)
  term_stands (simple_by h) = alone _ (points h) (term_stands h)
  term_stands (hash x) = refl
  term_stands (range a true b) = both _ _ (points a) (points b) (term_stands a) (term_stands b)
  term_stands (range a false b) = both _ _ (points a) (points b) (term_stands a) (term_stands b)
  term_stands (control a x b) = both _ _ (points a) (points b) (term_stands a) (term_stands b)
  term_stands (or t u) = both _ _ (points t) (points u) (term_stands t) (term_stands u)

  pub group_stands : (g : Group) → calls (group_tree g) ≡ map point_tree (group_points g)
  group_stands (sole es) = alone _ (entries_points es) (entries_stand es)
  group_stands (orelse g es) = both _ _ (group_points g) (entries_points es) (group_stands g) (entries_stand es)

  pub entries_stand : (es : Entries) → calls (entries_tree es) ≡ map point_tree (entries_points es)
  entries_stand no_entries = refl
  entries_stand (entries es e true) = both _ _ (entries_points es) (entry_points e) (entries_stand es) (entry_stands e)
  entries_stand (entries es e false) = both _ _ (entries_points es) (entry_points e) (entries_stand es) (entry_stands e)

  pub entry_stands : (e : Entry) → calls (entry_tree e) ≡ map point_tree (entry_points e)
  entry_stands (typed o t) = alone _ (points t) (term_stands t)
  entry_stands (keyed o k t) = both _ _ (key_points k) (points t) (key_stands k) (term_stands t)
  entry_stands (grouped o g) = alone _ (group_points g) (group_stands g)

  pub key_stands : (k : Key) → calls (key_tree k) ≡ map point_tree (key_points k)
  key_stands (of_type t true) = alone _ (points t) (term_stands t)
  key_stands (of_type t false) = alone _ (points t) (term_stands t)
  key_stands (bareword x) = refl
  key_stands (of_value (number x)) = refl
  key_stands (of_value (text x)) = refl
  key_stands (of_value (bytes x)) = refl

pub body_stands : (b : L.Body) → calls (body_tree b) ≡ map point_tree (body_points b)
body_stands (L.of_types t) = term_stands t
body_stands (L.of_entry e) = entry_stands e
