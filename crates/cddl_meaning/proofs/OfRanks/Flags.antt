-- What may take no item is flagged.
use Rattle.std.proofs.Common.{◌≡◌, ℕ, zero, suc, ◌≤◌, List, [], ◌∷◌, Bool, true, false, ◌&&◌, ◌||◌, ◌⊎◌, inl, inr, refl}
use Rattle.cddl_meaning.specs.Forms.{Group, Entry, GroupRef, Sequence, Alternatives, Repeat, Language}
use Rattle.cddl_meaning.specs.Judges.{is_over}
use Rattle.cddl_meaning.specs.Ranks.Ranked.{MayBeEmpty, named, every_part, one_of_them, no_minimum, no_round, an_empty_round, AllMayBeEmpty, no_part, this_part, OneMayBeEmpty, this_one, another, Name, a_type, a_group, IsRanked}
use Rattle.cddl_meaning.specs.Ranks.Flags.{AreFlags, all_flagged, one_flagged, flag_of, LeadsDownBy, IsGroupRankedBy, IsRankedBy}
use Rattle.cddl_meaning.proofs.OfRanks.ByForm.{LeadsDown, IsGroupRanked, types_by, groups_by, by_form, from_forms}

both_true : (a b : Bool) → a ≡ true → b ≡ true → a && b ≡ true
both_true true b h i = i
both_true false b h i = h

first_true : (a b : Bool) → a ≡ true → a || b ≡ true
first_true true b h = refl
first_true false b h = cc

second_true : (a b : Bool) → b ≡ true → a || b ≡ true
second_true true b h = refl
second_true false b h = h

module _ {N G : Type 0} (l : Language N G) (flag : G → Bool) (flags : (g : G) → flag_of flag (l.group_at g) ≡ true → flag g ≡ true) where
  mutual
    covered : {f : Group N G} → MayBeEmpty l f → flag_of flag f ≡ true
    covered (named {g = g} h) = flags g (covered h)
    covered (every_part h) = all_covered h
    covered (one_of_them h) = one_covered h
    covered no_minimum = refl
    covered (no_round {least = zero} h) = refl
    covered (no_round {least = suc least} {g = g} h) = first_true _ (flag g) h
    covered (an_empty_round {least = zero} h) = refl
    covered (an_empty_round {least = suc least} {g = g} h) = second_true _ (flag g) (flags g (covered h))

    all_covered : {gs : List G} → AllMayBeEmpty l gs → all_flagged flag gs ≡ true
    all_covered no_part = refl
    all_covered (this_part {g = g} {gs = gs} h i) = both_true (flag g) (all_flagged flag gs) (flags g (covered h)) (all_covered i)

    one_covered : {gs : List G} → OneMayBeEmpty l gs → one_flagged flag gs ≡ true
    one_covered (this_one {g = g} {gs = gs} h) = first_true (flag g) (one_flagged flag gs) (flags g (covered h))
    one_covered (another {g = g} {gs = gs} h) = second_true (flag g) (one_flagged flag gs) (one_covered h)

  leads_down : (rank : G → ℕ) (r : ℕ) (gs : List G) → LeadsDownBy flag rank r gs → LeadsDown l rank r gs
  leads_down rank r [] h = tt
  leads_down rank r (g ∷ gs) h = (h.0, λ e. leads_down rank r gs (h.1 (flags g (covered e))))

  group_ranked : (rank : G → ℕ) (r : ℕ) (f : Group N G) → IsGroupRankedBy flag rank r f → IsGroupRanked l rank r f
  group_ranked rank r (Entry m) h = tt
  group_ranked rank r (GroupRef g) h = h
  group_ranked rank r (Sequence gs) h = leads_down rank r gs h
  group_ranked rank r (Alternatives gs) h = h
  group_ranked rank r (Repeat least most g) h = h

module _ {N G : Type 0} (l : Language N G) (flag : G → Bool) (rank : Name N G → ℕ) where
  pub ranked_by : {bound : ℕ} → IsRankedBy l flag (types_by l rank) (groups_by l rank) → ((a : Name N G) → rank a ≤ bound) → IsRanked l rank bound
  ranked_by h most = from_forms l rank (record {
    types = h.types;
    groups = λ g. group_ranked l flag h.flags (groups_by l rank) (groups_by l rank g) (l.group_at g) (h.groups g);
    type_bound = λ n. most (a_type n);
    group_bound = λ g. most (a_group g);
  })

both_are : (a b : Bool) → a && b ≡ true → (a ≡ true) × (b ≡ true)
both_are true b h = (refl, h)
both_are false b h = cc

one_is : (a b : Bool) → a || b ≡ true → (a ≡ true) ⊎ (b ≡ true)
one_is true b h = inl refl
one_is false b h = inr h

-- Where just the groups that may take no item are flagged, so are their forms, and ranks go down by the flags.
module _ {N G : Type 0} (l : Language N G) (flag : G → Bool) (exact : AreFlags l flag) where
  all_empty : (gs : List G) → all_flagged flag gs ≡ true → AllMayBeEmpty l gs
  all_empty [] h = no_part
  all_empty (g ∷ gs) h = let b = both_are (flag g) (all_flagged flag gs) h in this_part ((exact g).0 b.0) (all_empty gs b.1)

  one_empty : (gs : List G) → one_flagged flag gs ≡ true → OneMayBeEmpty l gs
  one_empty [] h = cc
  one_empty (g ∷ gs) h = elim (one_is (flag g) (one_flagged flag gs) h) [ inl e ↦ this_one ((exact g).0 e) | inr e ↦ another (one_empty gs e) ]

  empty : (f : Group N G) → flag_of flag f ≡ true → MayBeEmpty l f
  empty (Entry m) h = cc
  empty (GroupRef g) h = named ((exact g).0 h)
  empty (Sequence gs) h = every_part (all_empty gs h)
  empty (Alternatives gs) h = one_of_them (one_empty gs h)
  empty (Repeat zero most g) h = no_minimum
  empty (Repeat (suc least) most g) h = elim (one_is (is_over most) (flag g) h) [ inl e ↦ no_round e | inr e ↦ an_empty_round ((exact g).0 e) ]

  down_by : (rank : G → ℕ) (r : ℕ) (gs : List G) → LeadsDown l rank r gs → LeadsDownBy flag rank r gs
  down_by rank r [] h = tt
  down_by rank r (g ∷ gs) h = (h.0, λ e. down_by rank r gs (h.1 ((exact g).0 e)))

  group_by : (rank : G → ℕ) (r : ℕ) (f : Group N G) → IsGroupRanked l rank r f → IsGroupRankedBy flag rank r f
  group_by rank r (Entry m) h = tt
  group_by rank r (GroupRef g) h = h
  group_by rank r (Sequence gs) h = down_by rank r gs h
  group_by rank r (Alternatives gs) h = h
  group_by rank r (Repeat least most g) h = h

  pub by_flags : (rank : Name N G → ℕ) {bound : ℕ} → IsRanked l rank bound → IsRankedBy l flag (types_by l rank) (groups_by l rank)
  by_flags rank ranked = let k = by_form l rank ranked in record {
    flags = λ g h. (exact g).1 (empty (l.group_at g) h);
    types = k.types;
    groups = λ g. group_by (groups_by l rank) (groups_by l rank g) (l.group_at g) (k.groups g);
  }
