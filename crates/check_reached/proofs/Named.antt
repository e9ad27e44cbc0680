-- The rows of the instances of a name stand for the references to it.
use Rattle.std.proofs.Common.{◌≡◌, ◌≢◌, ℕ, Bool, true, false, if◌then◌else◌, List, ◌∷◌, ◌⊎◌, inl, inr, map, Option, Some, refl, sym, ap, subst, ◌∙◌, slice_get, nat_eq}
use Rattle.std.specs.Cmp.Lexicographic.{same_text}
use Rattle.std.proofs.lemmas.Cmp.{nat_list_eq_equiv}
use Rattle.std.proofs.lemmas.Bool.Decides.{eqb_tells}
use Rattle.cddl_language.specs.Environment.{is_same}
use Rattle.cddl_language.specs.Terms as L
use Rattle.cddl_language.specs.Terms.{Ref, Text, arguments_of, call, name_of, term_list}
use Rattle.check_terms.specs.Table.{Holds, part, HoldsText, some_text, IsTable, Table}
use Rattle.check_terms.specs.declared.row.Row.{Row}
use Rattle.check_terms.specs.Filled.{term_trees}
use Rattle.check_terms.specs.Trees.{IsRef, ref_tree, terms_tree}
use Rattle.check_terms.specs.Fill.Templates.{AreTrees, no_trees, further_tree}
use Rattle.check_instances.specs.declared.found.Instance.{Instance}
use Rattle.check_instances.specs.Found.{AreFound, none_found, further_found}
use Rattle.check_reached.specs.Calls.{calls_named, has_number, name_number, number_in_row, refs_named}
use Rattle.check_reached.proofs.Lists.{one_of}

text_number : (xs : List Text) (m : Option ℕ) (n : Text) → HoldsText xs m (Some n) → (k : ℕ) × (m ≡ Some k) × (slice_get xs k ≡ Some n)
text_number xs m n (some_text {n = k} e) = (k, refl, e)

number_of : (t : Table) (k : ℕ) (r : Ref) → IsRef t k r → (j : ℕ) × (name_number t.rows k ≡ Some j) × (slice_get t.texts j ≡ Some (name_of r))
number_of t k (call n ts) (part {m = m} {i = i} {j = j} h d p q) = let w = text_number t.texts m n d in (w.0, ap number_in_row h ∙ w.1, w.2)

module _ (t : Table) (is : IsTable t) (k : ℕ) (n : Text) (named : slice_get t.texts k ≡ Some n) where
  -- a number is that of the name exactly where its text is the name's
  same_number : (j : ℕ) (x : Text) → slice_get t.texts j ≡ Some x → nat_eq j k ≡ is_same x n
  same_number j x h = by (eqb_tells j k)
    where
      other_text : j ≢ k → (b : Bool) → b ≡ is_same x n → false ≡ b
      other_text e false f = refl
      other_text e true f = absurd (e (is.texts j k n (h ∙ ap Some (same_text x n f)) named))

      by : ((nat_eq j k ≡ true) × (j ≡ k)) ⊎ ((nat_eq j k ≡ false) × (j ≢ k)) → nat_eq j k ≡ is_same x n
      by (inl e) = e.0 ∙ sym (subst (λ z. is_same z n ≡ true) (one_of (slice_get t.texts k) n x named (ap (slice_get t.texts) (sym e.1) ∙ h)) (nat_list_eq_equiv.refl n))
      by (inr e) = e.0 ∙ other_text e.1 (is_same x n) refl

  has_same : (c : ℕ) (r : Ref) → IsRef t c r → has_number k (name_number t.rows c) ≡ is_same (name_of r) n
  has_same c r h = let w = number_of t c r h in ap (has_number k) w.1 ∙ same_number w.0 (name_of r) w.2

  pub named_trees : (xs : List L.Definition) (found : List Instance) (refs : List Ref) → AreFound xs t found refs → AreTrees t (calls_named t.rows k found) (map ref_tree (refs_named n refs))
  named_trees xs found refs none_found = no_trees
  named_trees xs found refs (further_found {i = i} {r = r} {is = js} {rs = rs} h hs) = subst (λ b. AreTrees t (if b then i.call ∷ calls_named t.rows k js else calls_named t.rows k js) (map ref_tree (if is_same (name_of r) n then r ∷ refs_named n rs else refs_named n rs))) (sym (has_same i.call r h.ref)) (by (is_same (name_of r) n) (named_trees xs js rs hs))
    where
      by : (b : Bool) → AreTrees t (calls_named t.rows k js) (map ref_tree (refs_named n rs)) → AreTrees t (if b then i.call ∷ calls_named t.rows k js else calls_named t.rows k js) (map ref_tree (if b then r ∷ refs_named n rs else refs_named n rs))
      by true so = further_tree h.ref so
      by false so = so

-- the arguments of a reference, by its row
pub ref_arguments : (t : Table) (k : ℕ) (row : Row) (r : Ref) (ns : List ℕ) → slice_get t.rows k ≡ Some row → ((ts : L.Terms) → Holds t row.first (terms_tree ts) → AreTrees t ns (term_trees (term_list ts))) → IsRef t k r → AreTrees t ns (term_trees (arguments_of r))
ref_arguments t k row (call n ts) ns e so (part {m = m} {i = i} {j = j} h d p q) = so ts (subst (λ (x : Row). Holds t x.first (terms_tree ts)) (one_of (slice_get t.rows k) _ row h e) p)
