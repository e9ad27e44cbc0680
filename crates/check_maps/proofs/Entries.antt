-- The entries of choices.
use Rattle.std.proofs.Common.{◌⊎◌, inl, inr, List, [], ◌∷◌, ◌++◌, refl, subst}
use Rattle.std.specs.Prelude.{Contains}
use Rattle.cddl_language.specs.Terms.{Entries, entries, Entry, entry_list, lone}
use Rattle.cddl_language.specs.MapFaults.{all_entries}
use Rattle.std.specs.Prelude.{Bool}
use Rattle.lists.proofs.Lemmas.{IsIn, from_contains, from_flat, in_cases, in_left, in_right, to_contains, to_flat}

in_one : (es : Entries) (e : Entry) → IsIn e (all_entries (es ∷ [])) → IsIn e (entry_list es)
in_one es e h = by (in_cases (entry_list es) [] e h)
  where
    by : IsIn e (entry_list es) ⊎ IsIn e [] → IsIn e (entry_list es)
    by (inl k) = k
    by (inr k) = absurd k

pub of_one : (es : Entries) (e : Entry) → Contains (all_entries (es ∷ [])) e → IsIn e (entry_list es)
of_one es e c = in_one es e (from_contains (all_entries (es ∷ [])) e c)

pub to_one : (es : Entries) (e : Entry) → IsIn e (entry_list es) → Contains (all_entries (es ∷ [])) e
to_one es e h = to_contains (all_entries (es ∷ [])) e (in_left (entry_list es) [] e h)

pub in_lone : (e : Entry) → Contains (all_entries (lone e ∷ [])) e
in_lone e = to_one (lone e) e (inl refl)

-- of choices and one more
pub of_choices : (ess : List Entries) (es : Entries) (e : Entry) → Contains (all_entries (ess ++ es ∷ [])) e → Contains (all_entries ess) e ⊎ IsIn e (entry_list es)
of_choices ess es e c =
    let b = from_flat entry_list (ess ++ es ∷ []) e (from_contains (all_entries (ess ++ es ∷ [])) e c) in
    by b.0 b.2 (in_cases ess (es ∷ []) b.0 b.1)
  where
    by : (fs : Entries) → IsIn e (entry_list fs) → IsIn fs ess ⊎ IsIn fs (es ∷ []) → Contains (all_entries ess) e ⊎ IsIn e (entry_list es)
    by fs h (inl i) = inl (to_contains (all_entries ess) e (to_flat entry_list ess fs e i h))
    by fs h (inr (inl i)) = inr (subst (λ gs. IsIn e (entry_list gs)) i h)
    by fs h (inr (inr i)) = absurd i

pub in_choices : (ess : List Entries) (es : Entries) (e : Entry) → Contains (all_entries ess) e → Contains (all_entries (ess ++ es ∷ [])) e
in_choices ess es e c =
    let b = from_flat entry_list ess e (from_contains (all_entries ess) e c) in
    to_contains (all_entries (ess ++ es ∷ [])) e (to_flat entry_list (ess ++ es ∷ []) b.0 e (in_left ess (es ∷ []) b.0 b.1) b.2)

pub in_last_choice : (ess : List Entries) (es : Entries) (e : Entry) → Contains (all_entries (es ∷ [])) e → Contains (all_entries (ess ++ es ∷ [])) e
in_last_choice ess es e c = to_contains (all_entries (ess ++ es ∷ [])) e (to_flat entry_list (ess ++ es ∷ []) es e (in_right ess (es ∷ []) es (inl refl)) (of_one es e c))

-- of entries and one more
pub in_earlier : (es : Entries) (x : Entry) (b : Bool) (e : Entry) → Contains (all_entries (es ∷ [])) e → Contains (all_entries (entries es x b ∷ [])) e
in_earlier es x b e c = to_one (entries es x b) e (in_left (entry_list es) (x ∷ []) e (of_one es e c))

pub in_last : (es : Entries) (x : Entry) (b : Bool) (e : Entry) → Contains (all_entries (lone x ∷ [])) e → Contains (all_entries (entries es x b ∷ [])) e
in_last es x b e c = to_one (entries es x b) e (in_right (entry_list es) (x ∷ []) e (of_one (lone x) e c))
