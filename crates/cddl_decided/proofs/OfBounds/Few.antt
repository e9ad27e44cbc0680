-- Where instances are few, so are places that are each told by its instance.
use Rattle.std.proofs.Common.{◌≡◌, ◌≢◌, ◌≤◌, inl, inr, Bool, true, false, List, [], ◌∷◌, map, length, refl, sym, ap, subst, ◌∙◌, arith}
use Rattle.std.specs.Prelude.{AllPairs, Contains}
use Rattle.std.proofs.lemmas.Bool.{cases_lt}
use Rattle.lists.proofs.Lemmas.{IsIn, from_contains}
use Rattle.cddl_language.specs.Faults.{HasTooManyInstances, Specification, definitions}
use Rattle.cddl_language.specs.Kinds.{is_group, is_opened_group, opened}
use Rattle.cddl_language.specs.Reach.{Reaches, most_instances}
use Rattle.cddl_language.specs.Terms.{Definition, Ref, Text, name_of}
use Rattle.cddl_decided.proofs.Apart.{AreApart, pairs}

pub few_pairs : (s : Specification) (root : Text) → (HasTooManyInstances s root 0 → ⊥) → (rs : List Ref) → ((r : Ref) → Contains rs r → Reaches (definitions s) root r) → AllPairs (λ (q r : Ref). q ≢ r) rs → length rs ≤ most_instances
few_pairs s root no_more rs reached apart = elim (cases_lt most_instances (length rs)) [ inl h ↦ absurd (no_more (record { instances = rs; reached = reached; distinct = apart; many = h; offset = refl })) | inr h ↦ h ]

pub few_instances : (s : Specification) (root : Text) → (HasTooManyInstances s root 0 → ⊥) → (rs : List Ref) → ((r : Ref) → IsIn r rs → Reaches (definitions s) root r) → AreApart rs → length rs ≤ most_instances
few_instances s root no_more rs reached apart = few_pairs s root no_more rs (λ r c. reached r (from_contains rs r c)) (pairs rs apart)

-- what is asked of an instance: what it means as a type or as a group, or the group that `~` of it opens
pub data Place : Type 0 where
  type_of : Ref → Place
  group_of : Ref → Place
  opened_of : Ref → Place

abbrev pub ref_of : Place → Ref
ref_of (type_of r) = r
ref_of (group_of r) = r
ref_of (opened_of r) = r

abbrev pub place_by : (named opens : Bool) → Ref → Place
place_by true b r = group_of r
place_by false true r = opened_of r
place_by false false r = type_of r

-- the one that is asked of it, by the kind of its name and what it opens
abbrev pub place_of : List Definition → Ref → Place
place_of ds r = place_by (is_group ds (name_of r)) (is_opened_group (opened ds r)) r

abbrev pub IsPlaced : List Definition → Text → Place → Type 0
IsPlaced ds root x = Reaches ds root (ref_of x) × (x ≡ place_of ds (ref_of x))

from_map : {A B : Type 0} (g : A → B) (xs : List A) (y : B) → IsIn y (map g xs) → (x : A) × IsIn x xs × (y ≡ g x)
from_map g [] y i = absurd i
from_map g (x ∷ xs) y (inl e) = (x, inl refl, e)
from_map g (x ∷ xs) y (inr i) = let r = from_map g xs y i in (r.0, inr r.1, r.2)

map_apart : {A B : Type 0} (g : A → B) (back : B → A) (xs : List A) → ((x : A) → IsIn x xs → x ≡ back (g x)) → AreApart xs → AreApart (map g xs)
map_apart g back [] told h = tt
map_apart g back (x ∷ xs) told h = (apart, map_apart g back xs (λ y i. told y (inr i)) h.1)
  where
    apart : IsIn (g x) (map g xs) → ⊥
    apart i = let r = from_map g xs (g x) i in h.0 (subst (λ z. IsIn z xs) (told r.0 (inr r.1) ∙ ap back (sym r.2) ∙ sym (told x (inl refl))) r.1)

map_length : {A B : Type 0} (g : A → B) (xs : List A) → length xs ≡ length (map g xs)
map_length g [] = refl
map_length g (x ∷ xs) = let h = map_length g xs in omega (arith, h)

pub few_places : (s : Specification) (root : Text) → (HasTooManyInstances s root 0 → ⊥) → (xs : List Place) → ((x : Place) → IsIn x xs → IsPlaced (definitions s) root x) → AreApart xs → length xs ≤ most_instances
few_places s root no_more xs placed apart =
    let few = few_instances s root no_more (map ref_of xs) reached (map_apart ref_of (place_of (definitions s)) xs (λ x i. (placed x i).1) apart) in
    let same = map_length ref_of xs in
    omega (arith, few, same)
  where
    reached : (r : Ref) → IsIn r (map ref_of xs) → Reaches (definitions s) root r
    reached r i = let m = from_map ref_of xs r i in subst (λ q. Reaches (definitions s) root q) (sym m.2) (placed m.0 m.1).0
