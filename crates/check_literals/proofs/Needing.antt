-- What each row needs, row by row.
use Rattle.std.proofs.Common.{◌≡◌, ℕ, ◌+◌, inl, inr, List, [], ◌∷◌, ◌++◌, length, map, refl, sym, ap, subst, ◌∙◌, arith}
use Rattle.check_terms.specs.Table.{Table}
use Rattle.check_names.specs.declared.kinds.kinds.Kinds.{Kinds}
use Rattle.check_instances.specs.declared.closed.closed.Closed.{Closed}
use Rattle.check_literals.specs.declared.needs.Need as D
use Rattle.check_literals.specs.Needs.{AreNeeds, Need, need_at, need_view}
use Rattle.check_literals.proofs.Lists.{last_or}

view_last : (ds : List D.Need) (d : D.Need) → map need_view (ds ++ d ∷ []) ≡ map need_view ds ++ need_view d ∷ []
view_last [] d = refl
view_last (x ∷ ds) d = ap (λ es. need_view x ∷ es) (view_last ds d)

length_last : (ds : List Need) (d : Need) → length (ds ++ d ∷ []) ≡ length ds + 1
length_last [] d = refl
length_last (x ∷ ds) d = omega (arith, length_last ds d)

module _ (t : Table) (c : Closed) (ks : Kinds) where
  one_more : (n : ℕ) (ds : List Need) (d : Need) → AreNeeds t c ks n ds → d ≡ need_at t c ks n → AreNeeds t c ks (n + 1) (ds ++ d ∷ [])
  one_more n ds d are e = record {
    all = length_last ds d ∙ ap (λ k. k + 1) are.all;
    each = λ k x h. elim (last_or ds d k x h) [ inl g ↦ are.each k x g | inr g ↦ sym g.1 ∙ e ∙ ap (need_at t c ks) (sym (g.0 ∙ are.all)) ];
  }

  pub needs_more : (n : ℕ) (ds es : List D.Need) (d : D.Need) → AreNeeds t c ks n (map need_view ds) → need_view d ≡ need_at t c ks n → es ≡ ds ++ d ∷ [] → AreNeeds t c ks (n + 1) (map need_view es)
  needs_more n ds es d are e h = subst (AreNeeds t c ks (n + 1)) (sym (ap (map need_view) h ∙ view_last ds d)) (one_more n (map need_view ds) (need_view d) are e)
