-- The sorts of alternatives one beside the other, and of all ways to take two.
use Rattle.std.proofs.Common.{◌≡◌, List, [], ◌∷◌, ◌++◌, Bool, true, false, ◌&&◌, ◌||◌, if◌then◌else◌, refl, sym, ap, ◌∙◌, nat_eq}
use Rattle.std.specs.List.{list_all}
use Rattle.alternatives.specs.declared.Member.{Member}
use Rattle.alternatives.specs.declared.summary.Sorts.{Sorts}
use Rattle.alternatives.specs.Splices.{Alternatives, behind, ways, is_needed, is_optional}
use Rattle.alternatives.specs.Sorts.{Sort, empty, optional, needed, other, sort, no_sorts, only, joined, sorts_of}
use Rattle.alternatives.specs.Search.{beside_sorts}

-- the sort of two alternatives one beside the other
abbrev pub beside : Sort → Sort → Sort
beside empty l = l
beside optional empty = optional
beside optional optional = optional
beside optional needed = other
beside optional other = other
beside needed empty = needed
beside needed optional = other
beside needed needed = other
beside needed other = other
beside other l = other

beside_empty : (k : Sort) → beside k empty ≡ k
beside_empty empty = refl
beside_empty optional = refl
beside_empty needed = refl
beside_empty other = refl

beside_assoc : (k l j : Sort) → beside (beside k l) j ≡ beside k (beside l j)
beside_assoc empty l j = refl
beside_assoc other l j = refl
beside_assoc optional empty j = refl
beside_assoc optional optional empty = refl
beside_assoc optional optional optional = refl
beside_assoc optional optional needed = refl
beside_assoc optional optional other = refl
beside_assoc optional needed empty = refl
beside_assoc optional needed optional = refl
beside_assoc optional needed needed = refl
beside_assoc optional needed other = refl
beside_assoc optional other j = refl
beside_assoc needed empty j = refl
beside_assoc needed optional empty = refl
beside_assoc needed optional optional = refl
beside_assoc needed optional needed = refl
beside_assoc needed optional other = refl
beside_assoc needed needed empty = refl
beside_assoc needed needed optional = refl
beside_assoc needed needed needed = refl
beside_assoc needed needed other = refl
beside_assoc needed other j = refl

by_tests : (a b c d : Bool) → (if (a && c) then optional else other) ≡ beside (if (a && true) then optional else (if b then needed else other)) (if c then optional else (if d then needed else other))
by_tests true b true d = refl
by_tests true b false true = refl
by_tests true b false false = refl
by_tests false true true d = refl
by_tests false true false true = refl
by_tests false true false false = refl
by_tests false false c d = refl

sort_cons : (m : Member) (ms : List Member) → sort (m ∷ ms) ≡ beside (sort (m ∷ [])) (sort ms)
sort_cons m [] = sym (beside_empty (sort (m ∷ [])))
sort_cons m (n ∷ ms) = by_tests (is_optional m) (nat_eq m.bounds.least 1) (is_optional n && list_all is_optional ms) (is_needed (n ∷ ms))

pub sort_append : (ms ns : List Member) → sort (ms ++ ns) ≡ beside (sort ms) (sort ns)
sort_append [] ns = refl
sort_append (m ∷ ms) ns = sort_cons m (ms ++ ns) ∙ (ap (beside (sort (m ∷ []))) (sort_append ms ns) ∙ (sym (beside_assoc (sort (m ∷ [])) (sort ms) (sort ns)) ∙ ap (λ k. beside k (sort ns)) (sym (sort_cons m ms))))

-- sets of sorts

same_four : {a b c d e f g h : Bool} (make : Bool → Bool → Bool → Bool → Sorts) → a ≡ e → b ≡ f → c ≡ g → d ≡ h → make a b c d ≡ make e f g h
same_four make p q r s = cc

pub same_sorts : (s t : Sorts) → s.empty ≡ t.empty → s.optional ≡ t.optional → s.needed ≡ t.needed → s.other ≡ t.other → s ≡ t
same_sorts s t p q r o = same_four (λ a b c d. record { empty = a; optional = b; needed = c; other = d }) p q r o

pub same_joined : {s t u v : Sorts} → s ≡ t → u ≡ v → joined s u ≡ joined t v
same_joined {s = s} {t = t} {u = u} {v = v} p q = ap (λ x. joined x u) p ∙ ap (joined t) q

or_assoc : (a b c : Bool) → (a || b) || c ≡ a || (b || c)
or_assoc true b c = refl
or_assoc false b c = refl

joined_assoc : (s t u : Sorts) → joined (joined s t) u ≡ joined s (joined t u)
joined_assoc s t u = same_sorts _ _ (or_assoc s.empty t.empty u.empty) (or_assoc s.optional t.optional u.optional) (or_assoc s.needed t.needed u.needed) (or_assoc s.other t.other u.other)

pub sorts_append : (mss nss : Alternatives) → sorts_of (mss ++ nss) ≡ joined (sorts_of mss) (sorts_of nss)
sorts_append [] nss = refl
sorts_append (ms ∷ mss) nss = ap (joined (only (sort ms))) (sorts_append mss nss) ∙ sym (joined_assoc (only (sort ms)) (sorts_of mss) (sorts_of nss))

-- the sorts of those after an alternative of this sort
abbrev shifted : Sort → Sorts → Sorts
shifted empty t = t
shifted optional t = record { empty = false; optional = t.empty || t.optional; needed = false; other = t.needed || t.other }
shifted needed t = record { empty = false; optional = false; needed = t.empty; other = t.optional || (t.needed || t.other) }
shifted other t = record { empty = false; optional = false; needed = false; other = t.empty || (t.optional || (t.needed || t.other)) }

shifted_none : (k : Sort) → no_sorts ≡ shifted k no_sorts
shifted_none empty = refl
shifted_none optional = refl
shifted_none needed = refl
shifted_none other = refl

abbrev set_of : Bool → Bool → Bool → Bool → Sorts
set_of e o n x = record { empty = e; optional = o; needed = n; other = x }

shifted_more : (k l : Sort) (e o n x : Bool) → joined (only (beside k l)) (shifted k (set_of e o n x)) ≡ shifted k (joined (only l) (set_of e o n x))
shifted_more empty l e o n x = refl
shifted_more optional empty e o n x = refl
shifted_more optional optional true o n x = refl
shifted_more optional optional false o n x = refl
shifted_more optional needed e o n x = refl
shifted_more optional other e o true x = refl
shifted_more optional other e o false x = refl
shifted_more needed empty e o n x = refl
shifted_more needed optional e o n x = refl
shifted_more needed needed e true n x = refl
shifted_more needed needed e false n x = refl
shifted_more needed other e true n x = refl
shifted_more needed other e false true x = refl
shifted_more needed other e false false x = refl
shifted_more other empty e o n x = refl
shifted_more other optional true o n x = refl
shifted_more other optional false o n x = refl
shifted_more other needed true o n x = refl
shifted_more other needed false true n x = refl
shifted_more other needed false false n x = refl
shifted_more other other true o n x = refl
shifted_more other other false true n x = refl
shifted_more other other false false true x = refl
shifted_more other other false false false x = refl

sorts_behind : (ms : List Member) (nss : Alternatives) → sorts_of (behind ms nss) ≡ shifted (sort ms) (sorts_of nss)
sorts_behind ms [] = shifted_none (sort ms)
sorts_behind ms (ns ∷ nss) =
    let t = sorts_of nss in
    same_joined (ap only (sort_append ms ns)) (sorts_behind ms nss) ∙ shifted_more (sort ms) (sort ns) t.empty t.optional t.needed t.other

-- what was there already changes nothing

once_more : (b c : Bool) → b || (c && b) ≡ b
once_more true c = refl
once_more false true = refl
once_more false false = refl

at_first : (b c r : Bool) → b || ((c && b) || r) ≡ b || r
at_first true c r = refl
at_first false true r = refl
at_first false false r = refl

at_end : (b p c : Bool) → b || (p || (c && b)) ≡ p || b
at_end true true c = refl
at_end true false c = refl
at_end false true c = refl
at_end false false true = refl
at_end false false false = refl

at_second : (b p c r : Bool) → b || (p || ((c && b) || r)) ≡ p || (b || r)
at_second true true c r = refl
at_second true false c r = refl
at_second false true c r = refl
at_second false false true r = refl
at_second false false false r = refl

at_third : (b p q c r : Bool) → b || (p || (q || ((c && b) || r))) ≡ p || (q || (b || r))
at_third true true q c r = refl
at_third true false true c r = refl
at_third true false false c r = refl
at_third false true q c r = refl
at_third false false true c r = refl
at_third false false false true r = refl
at_third false false false false r = refl

at_fourth : (b p q r c : Bool) → b || (p || (q || (r || (c && b)))) ≡ p || (q || (r || b))
at_fourth true true q r c = refl
at_fourth true false true r c = refl
at_fourth true false false true c = refl
at_fourth true false false false c = refl
at_fourth false true q r c = refl
at_fourth false false true r c = refl
at_fourth false false false true c = refl
at_fourth false false false false true = refl
at_fourth false false false false false = refl

beside_more : (k : Sort) (s t : Sorts) → joined (shifted k t) (beside_sorts s t) ≡ beside_sorts (joined (only k) s) t
beside_more empty s t = same_sorts _ _ (once_more t.empty s.empty) (at_first t.optional s.empty _) (at_first t.needed s.empty _) (at_first t.other s.empty _)
beside_more optional s t = same_sorts _ _ refl (at_end (t.empty || t.optional) _ s.optional) refl (at_second (t.needed || t.other) _ s.optional _)
beside_more needed s t = same_sorts _ _ refl refl (at_end t.empty _ s.needed) (at_third (t.optional || (t.needed || t.other)) (s.empty && t.other) (s.optional && (t.needed || t.other)) s.needed _)
beside_more other s t = same_sorts _ _ refl refl refl (at_fourth (t.empty || (t.optional || (t.needed || t.other))) (s.empty && t.other) (s.optional && (t.needed || t.other)) (s.needed && (t.optional || (t.needed || t.other))) s.other)

pub sorts_ways : (mss nss : Alternatives) → sorts_of (ways mss nss) ≡ beside_sorts (sorts_of mss) (sorts_of nss)
sorts_ways [] nss = refl
sorts_ways (ms ∷ mss) nss = sorts_append (behind ms nss) (ways mss nss) ∙ (same_joined (sorts_behind ms nss) (sorts_ways mss nss) ∙ beside_more (sort ms) (sorts_of mss) (sorts_of nss))
