-- What stands in parentheses of what is spliced into a map is spliced into it.
use Rattle.std.proofs.Common.{◌≡◌, zero, suc, List, [], ◌∷◌, ◌++◌, Option, Some, None, refl, sym, subst, arith}
use Rattle.std.specs.List.{Contains}
use Rattle.std.proofs.lemmas.List.Elements.{Contains-append_left, Contains-append_right, Contains-append_cases}
use Rattle.lists.proofs.Lemmas.{beyond_zero, either}
use Rattle.cddl_token.specs.declared.Token.{Token}
use Rattle.tree_nodes.specs.Syntax.Syntax as S
use Rattle.cddl_language.specs.Terms.{Term, Text}
use Rattle.cddl_language.specs.Reach.{Point, at_name, at_unwrapping}
use Rattle.cddl_language.specs.MapFaults.{IsBare, in_parens, itself, IsSpliced, of_map, of_name, of_opened, of_parens, choice_entries, group_between, group_entries, rule_entries}
use Rattle.check_sites.specs.Entries.Entries.{bare_operand, bare_types, choice_inside, entry_inside, group_inside, rule_inside}
use Rattle.check_sites.specs.Entries.Spliced.{AreSplicedIn, IsAmongSpliced, IsBareGroup, of_a_map, of_a_name, of_an_opening}

none_in : {X C : Type 0} {x : X} → Contains [] x → C
none_in c = absurd (beyond_zero c.0 c.1)

at_head : {X : Type 0} (x : X) (xs : List X) → Contains (x ∷ xs) x
at_head x xs = (zero, omega arith, refl)

behind : {X : Type 0} (x : X) (xs : List X) {y : X} → Contains xs y → Contains (x ∷ xs) y
behind x xs (k, h, e) = (suc k, omega arith, e)

on_cons : {X C : Type 0} (x : X) (xs : List X) (y : X) → Contains (x ∷ xs) y → (x ≡ y → C) → (Contains xs y → C) → C
on_cons x xs y (zero, h, e) f g = f e
on_cons x xs y (suc k, h, e) f g = g (k, omega arith, e)

on_both : {X C : Type 0} (xs ys : List X) (y : X) → Contains (xs ++ ys) y → (Contains xs y → C) → (Contains ys y → C) → C
on_both xs ys y c f g = either (Contains-append_cases xs ys y c) f g

only_one : {X C : Type 0} (x y : X) → Contains (x ∷ []) y → (x ≡ y → C) → C
only_one x y c f = on_cons x [] y c f (λ d. none_in d)

-- A property that goes into parentheses holds of all inside.
module _ (P : S.GrpEnt → Type 0) (enters : (o : Option Token) (p c : Token) (g : S.Group) → P (S.grouped o p g c) → (e : S.GrpEnt) → Contains (group_entries g) e → P e) where
  mutual
    pub in_group : (g : S.Group) → ((e : S.GrpEnt) → Contains (group_entries g) e → P e) → (e : S.GrpEnt) → Contains (group_inside g) e → P e
    in_group (S.sole es) h e c = in_choice es h e c
    in_group (S.orelse g s es) h e c = on_both (group_inside g) (choice_inside es) e c (λ d. in_group g (λ f k. h f (Contains-append_left (group_entries g) (choice_entries es) f k)) e d) (λ d. in_choice es (λ f k. h f (Contains-append_right (group_entries g) (choice_entries es) f k)) e d)

    pub in_choice : (es : S.GrpChoice) → ((e : S.GrpEnt) → Contains (choice_entries es) e → P e) → (e : S.GrpEnt) → Contains (choice_inside es) e → P e
    in_choice S.no_entries h e c = none_in c
    in_choice (S.entries es d z) h e c = on_both (choice_inside es) (entry_inside d) e c (λ k. in_choice es (λ f m. h f (Contains-append_left (choice_entries es) (d ∷ []) f m)) e k) (λ k. in_entry d (h d (Contains-append_right (choice_entries es) (d ∷ []) d (at_head d []))) e k)

    pub in_entry : (d : S.GrpEnt) → P d → (e : S.GrpEnt) → Contains (entry_inside d) e → P e
    in_entry (S.typed o t) h e c = only_one (S.typed o t) e c (λ same. subst P same h)
    in_entry (S.keyed o k t) h e c = only_one (S.keyed o k t) e c (λ same. subst P same h)
    in_entry (S.grouped o p g z) h e c = on_cons (S.grouped o p g z) (group_inside g) e c (λ same. subst P same h) (λ d. in_group g (λ f k. enters o p z g h f k) e d)

  pub in_rule : (r : S.Rule) → ((e : S.GrpEnt) → Contains (rule_entries r) e → P e) → (e : S.GrpEnt) → Contains (rule_inside r) e → P e
  in_rule (S.type_rule n a t) h e c = h e c
  in_rule (S.group_rule n a (S.grouped None p g z)) h e c = in_group g h e c
  in_rule (S.group_rule n a (S.grouped (Some o) p g z)) h e c = in_entry (S.grouped (Some o) p g z) (h (S.grouped (Some o) p g z) (at_head (S.grouped (Some o) p g z) [])) e c
  in_rule (S.group_rule n a (S.typed o t)) h e c = in_entry (S.typed o t) (h (S.typed o t) (at_head (S.typed o t) [])) e c
  in_rule (S.group_rule n a (S.keyed o k t)) h e c = in_entry (S.keyed o k t) (h (S.keyed o k t) (at_head (S.keyed o k t) [])) e c

-- The entries of a group are inside of it.

entry_itself : (e : S.GrpEnt) → Contains (entry_inside e) e
entry_itself (S.typed o t) = at_head (S.typed o t) []
entry_itself (S.keyed o k t) = at_head (S.keyed o k t) []
entry_itself (S.grouped o p g z) = at_head (S.grouped o p g z) (group_inside g)

choice_has : (es : S.GrpChoice) (e : S.GrpEnt) → Contains (choice_entries es) e → Contains (choice_inside es) e
choice_has S.no_entries e c = none_in c
choice_has (S.entries es d z) e c = on_both (choice_entries es) (d ∷ []) e c (λ k. Contains-append_left (choice_inside es) (entry_inside d) e (choice_has es e k)) (λ k. Contains-append_right (choice_inside es) (entry_inside d) e (only_one d e k (λ same. subst (λ x. Contains (entry_inside d) x) same (entry_itself d))))

group_has : (g : S.Group) (e : S.GrpEnt) → Contains (group_entries g) e → Contains (group_inside g) e
group_has (S.sole es) e c = choice_has es e c
group_has (S.orelse g s es) e c = on_both (group_entries g) (choice_entries es) e c (λ k. Contains-append_left (group_inside g) (choice_inside es) e (group_has g e k)) (λ k. Contains-append_right (group_inside g) (choice_inside es) e (choice_has es e k))

rule_has : (r : S.Rule) (e : S.GrpEnt) → Contains (rule_entries r) e → Contains (rule_inside r) e
rule_has (S.type_rule n a t) e c = c
rule_has (S.group_rule n a (S.grouped None p g z)) e c = group_has g e c
rule_has (S.group_rule n a (S.grouped (Some o) p g z)) e c = only_one (S.grouped (Some o) p g z) e c (λ same. subst (λ x. Contains (entry_inside (S.grouped (Some o) p g z)) x) same (entry_itself (S.grouped (Some o) p g z)))
rule_has (S.group_rule n a (S.typed o t)) e c = only_one (S.typed o t) e c (λ same. subst (λ x. Contains (entry_inside (S.typed o t)) x) same (entry_itself (S.typed o t)))
rule_has (S.group_rule n a (S.keyed o k t)) e c = only_one (S.keyed o k t) e c (λ same. subst (λ x. Contains (entry_inside (S.keyed o k t)) x) same (entry_itself (S.keyed o k t)))

-- What is in parentheses inside is inside.
module _ (o : Option Token) (p z : Token) (g : S.Group) (e : S.GrpEnt) (m : Contains (group_entries g) e) where
  mutual
    group_keeps : (h : S.Group) → Contains (group_inside h) (S.grouped o p g z) → Contains (group_inside h) e
    group_keeps (S.sole es) c = choice_keeps es c
    group_keeps (S.orelse h s es) c = on_both (group_inside h) (choice_inside es) (S.grouped o p g z) c (λ k. Contains-append_left (group_inside h) (choice_inside es) e (group_keeps h k)) (λ k. Contains-append_right (group_inside h) (choice_inside es) e (choice_keeps es k))

    choice_keeps : (es : S.GrpChoice) → Contains (choice_inside es) (S.grouped o p g z) → Contains (choice_inside es) e
    choice_keeps S.no_entries c = none_in c
    choice_keeps (S.entries es d y) c = on_both (choice_inside es) (entry_inside d) (S.grouped o p g z) c (λ k. Contains-append_left (choice_inside es) (entry_inside d) e (choice_keeps es k)) (λ k. Contains-append_right (choice_inside es) (entry_inside d) e (entry_keeps d k))

    entry_keeps : (d : S.GrpEnt) → Contains (entry_inside d) (S.grouped o p g z) → Contains (entry_inside d) e
    entry_keeps (S.typed q t) c = only_one (S.typed q t) (S.grouped o p g z) c (λ same. cc)
    entry_keeps (S.keyed q k t) c = only_one (S.keyed q k t) (S.grouped o p g z) c (λ same. cc)
    entry_keeps (S.grouped q a h b) c = on_cons (S.grouped q a h b) (group_inside h) (S.grouped o p g z) c (λ same. behind (S.grouped q a h b) (group_inside h) (group_has h e (subst (λ x. Contains (group_entries x) e) (sym (same_group same)) m))) (λ k. behind (S.grouped q a h b) (group_inside h) (group_keeps h k))
      where
        same_group : S.grouped q a h b ≡ S.grouped o p g z → h ≡ g
        same_group same = cc

  rule_keeps : (r : S.Rule) → Contains (rule_inside r) (S.grouped o p g z) → Contains (rule_inside r) e
  rule_keeps (S.type_rule n a t) c = only_one (S.typed None t) (S.grouped o p g z) c (λ same. cc)
  rule_keeps (S.group_rule n a (S.grouped None q h b)) c = group_keeps h c
  rule_keeps (S.group_rule n a (S.grouped (Some i) q h b)) c = entry_keeps (S.grouped (Some i) q h b) c
  rule_keeps (S.group_rule n a (S.typed i t)) c = entry_keeps (S.typed i t) c
  rule_keeps (S.group_rule n a (S.keyed i k t)) c = entry_keeps (S.keyed i k t) c

module _ (rs : List S.Rule) (root : Text) where
  pub each_spliced : (r : S.Rule) (xs : List Term) (q : Option Point) (es : List S.GrpEnt) (e : S.GrpEnt) → AreSplicedIn rs root r xs q es → Contains es e → IsSpliced rs root r xs q e
  each_spliced r xs q es e (of_a_map {t = t} {g = g} h) c = in_group (IsSpliced rs root r xs None) (λ o p z k d f m. of_parens {o = o} {p = p} {c = z} {g = k} d m) g (λ d k. of_map {t = t} {g = g} h k) e c
  each_spliced r xs q es e (of_a_name {s = s} {f = f} w k n) c = in_rule (IsSpliced rs root r xs (Some (at_name f))) (λ o p z h d y m. of_parens {o = o} {p = p} {c = z} {g = h} d m) r (λ d m. of_name {r = w.rule} {xs = w.arguments} {q = w.owner} {d = w.entry} {f = f} w.spliced w.point k n m) e c
  each_spliced r xs q es e (of_an_opening {f = f} {g = g} w k) c = in_group (IsSpliced rs root r xs (Some (at_unwrapping f))) (λ o p z h d y m. of_parens {o = o} {p = p} {c = z} {g = h} d m) g (λ d m. of_opened {r = w.rule} {xs = w.arguments} {q = w.owner} {d = w.entry} {f = f} {g = g} w.spliced w.point k m) e c

  keeps : (r : S.Rule) (xs : List Term) (q : Option Point) (es : List S.GrpEnt) → AreSplicedIn rs root r xs q es → (o : Option Token) (p z : Token) (g : S.Group) (e : S.GrpEnt) → Contains (group_entries g) e → Contains es (S.grouped o p g z) → Contains es e
  keeps r xs q es (of_a_map {g = h} k) o p z g e m c = group_keeps o p z g e m h c
  keeps r xs q es (of_a_name w k n) o p z g e m c = rule_keeps o p z g e m r c
  keeps r xs q es (of_an_opening {g = h} w k) o p z g e m c = group_keeps o p z g e m h c

  pub every_spliced : (r : S.Rule) (xs : List Term) (q : Option Point) (e : S.GrpEnt) → IsSpliced rs root r xs q e → IsAmongSpliced rs root r xs q e
  every_spliced r xs q e (of_map {t = t} {g = g} h c) = record { entries = group_inside g; are = of_a_map {t = t} {g = g} h; contained = group_has g e c }
  every_spliced r xs q e (of_parens {o = o} {p = p} {c = z} {g = g} h m) = let w = every_spliced r xs q (S.grouped o p g z) h in record { entries = w.entries; are = w.are; contained = keeps r xs q w.entries w.are o p z g e m w.contained }
  every_spliced r xs q e (of_name {r = v} {xs = ys} {q = u} {d = d} {f = f} h p k n m) = record { entries = rule_inside r; are = of_a_name {f = f} (record { rule = v; arguments = ys; owner = u; entry = d; spliced = h; point = p }) k n; contained = rule_has r e m }
  every_spliced r xs q e (of_opened {r = v} {xs = ys} {q = u} {d = d} {f = f} {g = g} h p k m) = record { entries = group_inside g; are = of_an_opening {f = f} {g = g} (record { rule = v; arguments = ys; owner = u; entry = d; spliced = h; point = p }) k; contained = group_has g e m }

-- Maps and arrays in parentheses.

pub bare_found : (g : S.Group) (x : S.Type2) (t : S.Types) → IsBare x t → group_between x ≡ Some g → bare_types t ≡ Some g
bare_found g x t itself e = of_operand x e
  where
    of_operand : (x : S.Type2) → group_between x ≡ Some g → bare_operand x ≡ Some g
    of_operand (S.map_of o h z) e = e
    of_operand (S.array_of o h z) e = e
    of_operand (S.literal v) e = cc
    of_operand (S.typename r) e = cc
    of_operand (S.parens o t z) e = cc
    of_operand (S.unwrapped u r) e = cc
    of_operand (S.choice_of a o h z) e = cc
    of_operand (S.choice_of_name a r) e = cc
    of_operand (S.tagged o t z) e = cc
    of_operand (S.tagged_by o h a p t z) e = cc
    of_operand (S.simple_by o h z) e = cc
    of_operand (S.hash t) e = cc
bare_found g x t (in_parens {t = u} h) e = bare_found g x u h e

pub bare_only : (t : S.Types) (g : S.Group) → bare_types t ≡ Some g → IsBareGroup t g
bare_only (S.or t s x) g e = cc
bare_only (S.only (S.operation x o y)) g e = cc
bare_only (S.only (S.one (S.parens o t z))) g e = let w = bare_only t g e in (w.0, (in_parens {o = o} {c = z} {t = t} w.1.0, w.1.1))
bare_only (S.only (S.one (S.map_of o h z))) g e = (S.map_of o h z, (itself, e))
bare_only (S.only (S.one (S.array_of o h z))) g e = (S.array_of o h z, (itself, e))
bare_only (S.only (S.one (S.literal v))) g e = cc
bare_only (S.only (S.one (S.typename r))) g e = cc
bare_only (S.only (S.one (S.unwrapped u r))) g e = cc
bare_only (S.only (S.one (S.choice_of a o h z))) g e = cc
bare_only (S.only (S.one (S.choice_of_name a r))) g e = cc
bare_only (S.only (S.one (S.tagged o t z))) g e = cc
bare_only (S.only (S.one (S.tagged_by o h a p t z))) g e = cc
bare_only (S.only (S.one (S.simple_by o h z))) g e = cc
bare_only (S.only (S.one (S.hash t))) g e = cc
