-- What outlines lead to, the definitions lead to.
use Rattle.std.proofs.Common.{◌≡◌, ◌⊎◌, inl, inr, Bool, true, false, ◌||◌, List, [], ◌∷◌, ◌++◌, map, refl, sym, ap, subst}
use Rattle.std.specs.Prelude.{flat_map, if◌then◌else◌}
use Rattle.cddl_language.specs.Environment as E
use Rattle.cddl_language.specs.Environment.{definitions_of, from_prelude, has_equals, is_equals, is_same, named_so}
use Rattle.cddl_language.specs.Prelude.{prelude}
use Rattle.cddl_language.specs.Reach.{Point, body_points, points_in, Reaches, at_root, onward}
use Rattle.cddl_language.specs.Substitution.{fill_body}
use Rattle.cddl_language.specs.Terms.{Text, Term, Ref, call, term_list, Definition}
use Rattle.check_instances.specs.Found.{HasTooMany}
use Rattle.check_instances.specs.Lists.{IsIn}
use Rattle.check_instances.specs.Outlines.{AreOutlines, no_outlines, further_outline, IsOutline}
use Rattle.check_instances.proofs.Lists.{from_contains, in_cases, in_left, in_right, to_contains}

-- Definitions and their outlines.

own_outline : (x : Definition) → IsOutline x x
own_outline x = record { name = refl; parameters = refl; sign = refl; among = λ ts p h. h }

own_outlines : (xs : List Definition) → AreOutlines xs xs
own_outlines [] = no_outlines
own_outlines (x ∷ xs) = further_outline (own_outline x) (own_outlines xs)

both : (cs bs xs ys : List Definition) → AreOutlines cs xs → AreOutlines bs ys → AreOutlines (cs ++ bs) (xs ++ ys)
both cs bs xs ys no_outlines k = k
both es bs xs ys (further_outline {ys = cs} {xs = zs} h hs) k = further_outline h (both cs bs zs ys hs k)

named : (n : Text) (ys xs : List Definition) → AreOutlines ys xs → AreOutlines (named_so n ys) (named_so n xs)
named n ys xs no_outlines = no_outlines
named n ys xs (further_outline {y = y} {x = x} {ys = cs} {xs = zs} h hs) = subst (λ m. AreOutlines (if is_same m n then y ∷ named_so n cs else named_so n cs) (if is_same x.name n then x ∷ named_so n zs else named_so n zs)) (sym h.name) (by (is_same x.name n) (named n cs zs hs))
  where
    by : (b : Bool) → AreOutlines (named_so n cs) (named_so n zs) → AreOutlines (if b then y ∷ named_so n cs else named_so n cs) (if b then x ∷ named_so n zs else named_so n zs)
    by true r = further_outline h r
    by false r = r

equals : (ys xs : List Definition) → AreOutlines ys xs → has_equals ys ≡ has_equals xs
equals ys xs no_outlines = refl
equals ys xs (further_outline {y = y} {x = x} {ys = cs} {xs = zs} h hs) = λ i. is_equals (h.sign i) || equals cs zs hs i

counting : (met : Bool) (ys xs : List Definition) → AreOutlines ys xs → AreOutlines (E.counting met ys) (E.counting met xs)
counting true ys xs no_outlines = no_outlines
counting false ys xs no_outlines = no_outlines
counting false ys xs (further_outline {y = y} {x = x} {ys = cs} {xs = zs} h hs) = further_outline h (subst (λ s. AreOutlines (E.counting (is_equals s) cs) (E.counting (is_equals x.sign) zs)) (sym h.sign) (counting (is_equals x.sign) cs zs hs))
counting true ys xs (further_outline {y = y} {x = x} {ys = cs} {xs = zs} h hs) = subst (λ s. AreOutlines (if is_equals s then E.counting true cs else y ∷ E.counting true cs) (if is_equals x.sign then E.counting true zs else x ∷ E.counting true zs)) (sym h.sign) (by (is_equals x.sign) (counting true cs zs hs))
  where
    by : (b : Bool) → AreOutlines (E.counting true cs) (E.counting true zs) → AreOutlines (if b then E.counting true cs else y ∷ E.counting true cs) (if b then E.counting true zs else x ∷ E.counting true zs)
    by true r = r
    by false r = further_outline h r

module _ (ys xs : List Definition) (are : AreOutlines ys xs) where
  known : (n : Text) → AreOutlines (from_prelude ys n) (from_prelude xs n)
  known n = subst (λ b. AreOutlines (if b then [] else named_so n prelude) (from_prelude xs n)) (sym (equals (named_so n ys) (named_so n xs) (named n ys xs are))) (own_outlines (from_prelude xs n))

  environment : (n : Text) → AreOutlines (definitions_of ys n) (definitions_of xs n)
  environment n = both (from_prelude ys n) (E.counting false (named_so n ys)) (from_prelude xs n) (E.counting false (named_so n xs)) (known n) (counting false (named_so n ys) (named_so n xs) (named n ys xs are))

-- What stands in outlines with arguments.

in_bodies : (ts : List Term) (p : Point) (ys xs : List Definition) → AreOutlines ys xs → IsIn p (flat_map body_points (map (λ (d : Definition). fill_body d.parameters ts d.body) ys)) → IsIn p (flat_map body_points (map (λ (d : Definition). fill_body d.parameters ts d.body) xs))
in_bodies ts p ys xs no_outlines g = g
in_bodies ts p ys xs (further_outline {y = y} {x = x} {ys = cs} {xs = zs} h hs) g = by (in_cases (body_points (fill_body y.parameters ts y.body)) (flat_map body_points (map (λ (d : Definition). fill_body d.parameters ts d.body) cs)) p g) (in_bodies ts p cs zs hs)
  where
    by : IsIn p (body_points (fill_body y.parameters ts y.body)) ⊎ IsIn p (flat_map body_points (map (λ (d : Definition). fill_body d.parameters ts d.body) cs)) → (IsIn p (flat_map body_points (map (λ (d : Definition). fill_body d.parameters ts d.body) cs)) → IsIn p (flat_map body_points (map (λ (d : Definition). fill_body d.parameters ts d.body) zs))) → IsIn p (body_points (fill_body x.parameters ts x.body) ++ flat_map body_points (map (λ (d : Definition). fill_body d.parameters ts d.body) zs))
    by (inl k) r = in_left (body_points (fill_body x.parameters ts x.body)) (flat_map body_points (map (λ (d : Definition). fill_body d.parameters ts d.body) zs)) p (h.among ts p k)
    by (inr k) r = in_right (body_points (fill_body x.parameters ts x.body)) (flat_map body_points (map (λ (d : Definition). fill_body d.parameters ts d.body) zs)) p (r k)

module _ (ys xs : List Definition) (root : Text) (are : AreOutlines ys xs) where
  in_reference : (r : Ref) (p : Point) → IsIn p (points_in ys r) → IsIn p (points_in xs r)
  in_reference (call n ts) p g = in_bodies (term_list ts) p (definitions_of ys n) (definitions_of xs n) (environment ys xs are n) g

  reaches : (r : Ref) → Reaches ys root r → Reaches xs root r
  reaches r at_root = at_root
  reaches r (onward {r = q} {p = p} h c e) = onward (reaches q h) (to_contains (points_in xs q) p (in_reference q p (from_contains (points_in ys q) p c))) e

  pub outlines_too_many : HasTooMany ys root → HasTooMany xs root
  outlines_too_many so = record { refs = so.refs; reached = λ r h. reaches r (so.reached r h); distinct = so.distinct; many = so.many }
