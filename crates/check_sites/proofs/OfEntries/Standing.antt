-- The entries that are listed are those that stand in the text.
use Rattle.std.proofs.Common.{◌≡◌, ℕ, zero, suc, ◌+◌, ◌⊎◌, inl, inr, List, [], ◌∷◌, ◌++◌, length, map, Some, slice_get, refl, sym, ap, subst, ◌∙◌, arith}
use Rattle.std.specs.List.{Contains}
use Rattle.std.proofs.lemmas.List.{append-nil}
use Rattle.std.proofs.lemmas.Option.{get_or_from_slice_get, slice_get_read, slice_get_within}
use Rattle.cddl_token.specs.declared.Token.{Token}
use Rattle.tree_nodes.specs.Syntax.Syntax as S
use Rattle.tree_nodes.specs.declared.tree.Leaf.{Leaf}
use Rattle.tree_nodes.specs.declared.tree.Rule.{Rule}
use Rattle.tree_nodes.specs.declared.tree.Tree.{Tree}
use Rattle.tree_nodes.specs.View.{token_of, view, view_rule, with_rules}
use Rattle.cddl_language.specs.Reading.{rule_list, rules_of}
use Rattle.cddl_language.specs.Sites.{Site, a_choice_of, a_choice_of_name, a_hash, a_map, a_name, an_entry, an_operation, an_unwrapping}
use Rattle.check_sites.specs.declared.sites.site.Found.{Found}
use Rattle.check_sites.specs.Sites.View.{view_site}
use Rattle.check_sites.specs.declared.entries.entry.Holder.{Holder}
use Rattle.check_sites.specs.declared.entries.entry.Holder.TheVariants as HolderV
use Rattle.check_sites.specs.declared.entries.entry.TextEntry.{TextEntry}
use Rattle.check_sites.specs.Entries.Entries.{AreEntries, Standing, Stands, WasListed, group_inside, in_map, in_opened, in_rule, of_rule, of_rules, of_site, of_sites, opened_inside, rule_inside, standing, view_found, view_node}

module _ {A : Type 0} where
  abbrev pub IsIn : A → List A → Type 0
  IsIn x [] = ⊥
  IsIn x (y ∷ ys) = (x ≡ y) ⊎ IsIn x ys

  at_place : (xs : List A) (k : ℕ) (x : A) → slice_get xs k ≡ Some x → IsIn x xs
  at_place [] k x e = cc
  at_place (y ∷ xs) zero x e = let same : x ≡ y = cc in inl same
  at_place (y ∷ xs) (suc k) x e = inr (at_place xs k x e)

  place_in : (xs : List A) (x : A) → IsIn x xs → (k : ℕ) × (slice_get xs k ≡ Some x)
  place_in [] x h = absurd h
  place_in (y ∷ xs) x (inl e) = (0, ap Some (sym e))
  place_in (y ∷ xs) x (inr h) = let w = place_in xs x h in (suc w.0, w.1)

  is_in : (xs : List A) (x : A) → Contains xs x → IsIn x xs
  is_in xs x h = at_place xs h.0 x (slice_get_read xs (length xs) h.0 x refl h.1 (sym h.2))

  contains : (xs : List A) (x : A) → IsIn x xs → Contains xs x
  contains xs x h = let w = place_in xs x h in (w.0, slice_get_within xs w.0 x w.1, get_or_from_slice_get xs w.0 x x w.1)

  in_either : (xs ys : List A) (x : A) → IsIn x (xs ++ ys) → IsIn x xs ⊎ IsIn x ys
  in_either [] ys x h = inr h
  in_either (y ∷ xs) ys x (inl e) = inl (inl e)
  in_either (y ∷ xs) ys x (inr h) = elim (in_either xs ys x h) [ inl k ↦ inl (inr k) | inr k ↦ inr k ]

  in_first : (xs ys : List A) (x : A) → IsIn x xs → IsIn x (xs ++ ys)
  in_first [] ys x h = absurd h
  in_first (y ∷ xs) ys x (inl e) = inl e
  in_first (y ∷ xs) ys x (inr h) = inr (in_first xs ys x h)

  in_second : (xs ys : List A) (x : A) → IsIn x ys → IsIn x (xs ++ ys)
  in_second [] ys x h = h
  in_second (y ∷ xs) ys x h = inr (in_second xs ys x h)

mapped : {A B : Type 0} (f : A → B) (xs : List A) (x : A) → IsIn x xs → IsIn (f x) (map f xs)
mapped f [] x h = absurd h
mapped f (y ∷ xs) x (inl e) = inl (ap f e)
mapped f (y ∷ xs) x (inr h) = inr (mapped f xs x h)

mapped_from : {A B : Type 0} (f : A → B) (xs : List A) (y : B) → IsIn y (map f xs) → (x : A) × (IsIn x xs × (f x ≡ y))
mapped_from f [] y h = absurd h
mapped_from f (x ∷ xs) y (inl e) = (x, (inl refl, sym e))
mapped_from f (x ∷ xs) y (inr h) = let w = mapped_from f xs y h in (w.0, (inr w.1.0, w.1.1))

rule_list_with : (read : Leaf → Token) (rs : S.Rules) (xs : List Rule) → rule_list (with_rules read rs xs) ≡ rule_list rs ++ map (view_rule read) xs
rule_list_with read rs [] = sym (append-nil (rule_list rs))
rule_list_with read rs (x ∷ xs) = rule_list_with read (S.rules rs (view_rule read x)) xs ∙ after (rule_list rs) (view_rule read x) (map (view_rule read) xs)
  where
    after : (qs : List S.Rule) (r : S.Rule) (bs : List S.Rule) → (qs ++ r ∷ []) ++ bs ≡ qs ++ (r ∷ bs)
    after [] r bs = refl
    after (q ∷ qs) r bs = ap (λ (cs : List S.Rule). q ∷ cs) (after qs r bs)

pub rules_view : (t : Tree) → rules_of (view t) ≡ map (view_rule (token_of t)) t.rules.items
rules_view t = rule_list_with (token_of t) S.no_rules t.rules.items

-- Of rules, from a place on.

rule_there : (k : ℕ) (rs : List S.Rule) (s : Standing) → IsIn s (of_rules k rs) → (j : ℕ) × (r : S.Rule) × (slice_get rs j ≡ Some r) × IsIn s (of_rule (k + j) r)
rule_there k [] s h = absurd h
rule_there k (r ∷ rs) s h = by (in_either (of_rule k r) (of_rules (k + 1) rs) s h) (λ m. rule_there (k + 1) rs s m)
  where
    here : k ≡ k + 0
    here = omega arith

    next : (j : ℕ) → k + 1 + j ≡ k + suc j
    next j = omega arith

    by : IsIn s (of_rule k r) ⊎ IsIn s (of_rules (k + 1) rs) → (IsIn s (of_rules (k + 1) rs) → (j : ℕ) × (q : S.Rule) × (slice_get rs j ≡ Some q) × IsIn s (of_rule (k + 1 + j) q)) → (j : ℕ) × (q : S.Rule) × (slice_get (r ∷ rs) j ≡ Some q) × IsIn s (of_rule (k + j) q)
    by (inl m) so = (zero, r, refl, subst (λ i. IsIn s (of_rule i r)) here m)
    by (inr m) so = let w = so m in (suc w.0, w.1, w.2, subst (λ i. IsIn s (of_rule i w.1)) (next w.0) w.3)

there_rule : (k : ℕ) (rs : List S.Rule) (s : Standing) (j : ℕ) (r : S.Rule) → slice_get rs j ≡ Some r → IsIn s (of_rule (k + j) r) → IsIn s (of_rules k rs)
there_rule k [] s j r e h = cc
there_rule k (q ∷ rs) s zero r e h =
    let same : r ≡ q = cc in
    in_first (of_rule k q) (of_rules (k + 1) rs) s (subst (λ x. IsIn s (of_rule k x)) same (subst (λ i. IsIn s (of_rule i r)) here h))
  where
    here : k + 0 ≡ k
    here = omega arith
there_rule k (q ∷ rs) s (suc j) r e h = in_second (of_rule k q) (of_rules (k + 1) rs) s (there_rule (k + 1) rs s j r e (subst (λ i. IsIn s (of_rule i r)) next h))
  where
    next : k + suc j ≡ k + 1 + j
    next = omega arith

module _ (rs : List S.Rule) (read : Leaf → Token) (sites : List Found) where
  stands_at : (s : Standing) (k : ℕ) (h : Holder) (es : List S.GrpEnt) → IsIn s (standing k h es) → ((e : S.GrpEnt) → IsIn e es → Stands rs read sites k h e) → Stands rs read sites s.rule s.holder s.entry
  stands_at s k h es m so =
      let w = mapped_from (λ (e : S.GrpEnt). record { rule = k; holder = h; entry = e }) es s m in
      subst (λ (z : Standing). Stands rs read sites z.rule z.holder z.entry) w.1.1 (so w.0 w.1.0)

  site_stands : (f : Found) (p : Site) (s : Standing) → IsIn f sites → view_site read f.site ≡ p → IsIn s (of_site f.rule p) → Stands rs read sites s.rule s.holder s.entry
  site_stands f (a_map u g) s c is m = stands_at s f.rule HolderV.Map (group_inside g) m (λ e k. in_map {f = f} {u = u} {g = g} {e = e} (contains sites f c) is (contains (group_inside g) e k))
  site_stands f (a_name b r) s c is m = absurd m
  site_stands f (an_unwrapping b u r) s c is m = absurd m
  site_stands f (a_choice_of u g) s c is m = absurd m
  site_stands f (a_choice_of_name u r) s c is m = absurd m
  site_stands f (a_hash u) s c is m = absurd m
  site_stands f (an_operation x o y) s c is m = absurd m
  site_stands f (an_entry e) s c is m = absurd m

  sites_stand : (fs : List Found) → ((f : Found) → IsIn f fs → IsIn f sites) → (s : Standing) → IsIn s (of_sites read fs) → Stands rs read sites s.rule s.holder s.entry
  sites_stand [] all s m = absurd m
  sites_stand (f ∷ fs) all s m = by (in_either (of_site f.rule (view_site read f.site)) (of_sites read fs) s m) (λ k. sites_stand fs (λ g h. all g (inr h)) s k)
    where
      by : IsIn s (of_site f.rule (view_site read f.site)) ⊎ IsIn s (of_sites read fs) → (IsIn s (of_sites read fs) → Stands rs read sites s.rule s.holder s.entry) → Stands rs read sites s.rule s.holder s.entry
      by (inl k) so = site_stands f (view_site read f.site) s (all f (inl refl)) refl k
      by (inr k) so = so k

  rule_stands : (k : ℕ) (r : S.Rule) (s : Standing) → slice_get rs k ≡ Some r → IsIn s (of_rule k r) → Stands rs read sites s.rule s.holder s.entry
  rule_stands k r s e m = by (in_either (standing k HolderV.Rule (rule_inside r)) (standing k HolderV.Opened (opened_inside r)) s m)
    where
      by : IsIn s (standing k HolderV.Rule (rule_inside r)) ⊎ IsIn s (standing k HolderV.Opened (opened_inside r)) → Stands rs read sites s.rule s.holder s.entry
      by (inl h) = stands_at s k HolderV.Rule (rule_inside r) h (λ d c. in_rule {k = k} {r = r} {e = d} e (contains (rule_inside r) d c))
      by (inr h) = stands_at s k HolderV.Opened (opened_inside r) h (λ d c. in_opened {k = k} {r = r} {e = d} e (contains (opened_inside r) d c))

  zero_more : (j : ℕ) → 0 + j ≡ j
  zero_more j = omega arith

  stands : (s : Standing) → IsIn s (of_sites read sites ++ of_rules 0 rs) → Stands rs read sites s.rule s.holder s.entry
  stands s m = by (in_either (of_sites read sites) (of_rules 0 rs) s m)
    where
      by : IsIn s (of_sites read sites) ⊎ IsIn s (of_rules 0 rs) → Stands rs read sites s.rule s.holder s.entry
      by (inl k) = sites_stand sites (λ f h. h) s k
      by (inr k) = let w = rule_there 0 rs s k in rule_stands w.0 w.1 s w.2 (subst (λ i. IsIn s (of_rule i w.1)) (zero_more w.0) w.3)

  in_sites : (fs : List Found) (f : Found) (p : Site) (s : Standing) → IsIn f fs → view_site read f.site ≡ p → IsIn s (of_site f.rule p) → IsIn s (of_sites read fs)
  in_sites [] f p s h is m = absurd h
  in_sites (g ∷ fs) f p s (inl e) is m = in_first (of_site g.rule (view_site read g.site)) (of_sites read fs) s (subst (λ (x : Found). IsIn s (of_site x.rule (view_site read x.site))) e (subst (λ q. IsIn s (of_site f.rule q)) (sym is) m))
  in_sites (g ∷ fs) f p s (inr h) is m = in_second (of_site g.rule (view_site read g.site)) (of_sites read fs) s (in_sites fs f p s h is m)

  there : (k : ℕ) (h : Holder) (e : S.GrpEnt) → Stands rs read sites k h e → IsIn (record { rule = k; holder = h; entry = e }) (of_sites read sites ++ of_rules 0 rs)
  there k h e (in_map {f = f} {u = u} {g = g} c is m) =
      let s : Standing = record { rule = f.rule; holder = HolderV.Map; entry = e } in
      in_first (of_sites read sites) (of_rules 0 rs) s (in_sites sites f (a_map u g) s (is_in sites f c) is (mapped (λ (d : S.GrpEnt). record { rule = f.rule; holder = HolderV.Map; entry = d }) (group_inside g) e (is_in (group_inside g) e m)))
  there k h e (in_rule {r = r} at m) =
      let s : Standing = record { rule = k; holder = HolderV.Rule; entry = e } in
      in_second (of_sites read sites) (of_rules 0 rs) s (there_rule 0 rs s k r at (subst (λ i. IsIn s (of_rule i r)) (sym (zero_more k)) (in_first (standing k HolderV.Rule (rule_inside r)) (standing k HolderV.Opened (opened_inside r)) s (mapped (λ (d : S.GrpEnt). record { rule = k; holder = HolderV.Rule; entry = d }) (rule_inside r) e (is_in (rule_inside r) e m)))))
  there k h e (in_opened {r = r} at m) =
      let s : Standing = record { rule = k; holder = HolderV.Opened; entry = e } in
      in_second (of_sites read sites) (of_rules 0 rs) s (there_rule 0 rs s k r at (subst (λ i. IsIn s (of_rule i r)) (sym (zero_more k)) (in_second (standing k HolderV.Rule (rule_inside r)) (standing k HolderV.Opened (opened_inside r)) s (mapped (λ (d : S.GrpEnt). record { rule = k; holder = HolderV.Opened; entry = d }) (opened_inside r) e (is_in (opened_inside r) e m)))))

  pub are_entries : (xs : List TextEntry) → map (view_found read) xs ≡ of_sites read sites ++ of_rules 0 rs → AreEntries rs read sites xs
  are_entries xs same = record { sound = sound; complete = complete }
    where
      sound : (x : TextEntry) → Contains xs x → Stands rs read sites x.rule x.holder (view_node read x.node)
      sound x c = stands (view_found read x) (subst (IsIn (view_found read x)) same (mapped (view_found read) xs x (is_in xs x c)))

      complete : (k : ℕ) (h : Holder) (e : S.GrpEnt) → Stands rs read sites k h e → WasListed rs read sites xs k h e
      complete k h e so =
          let s : Standing = record { rule = k; holder = h; entry = e } in
          let w = mapped_from (view_found read) xs s (subst (IsIn s) (sym same) (there k h e so)) in
          record { found = w.0; contained = contains xs w.0 w.1.0; place = ap (λ (z : Standing). z.rule) w.1.1; same_holder = ap (λ (z : Standing). z.holder) w.1.1; same = ap (λ (z : Standing). z.entry) w.1.1 }
