-- Forms over names as forms over numbers.
use Rattle.std.proofs.Common.{ℕ, List, [], ◌∷◌, refl}
use Rattle.cddl_meaning.specs.Alike.{AlikeAll, none, both, AlikeTypes, plain, refs, choices, arrays, tags, simples, maps, boths, suches, holdings, AlikeNumbers, any_numbers, same_number, heads, AlikeEntries, no_entries, entry, AlikeMaps, no_alternatives, alternative, AlikeGroups, entries, group_refs, sequences, alternates, repeats}
use Rattle.cddl_meaning.specs.Forms.{TagNumber, any_number, exactly, such_as, MapEntry, Node, Plain, Ref, Choice, ArrayOf, TagOf, SimpleBy, MapOf, Both, Such, Holding, Group, Entry, GroupRef, Sequence, Alternatives, Repeat}
use Rattle.cddl_meaning.proofs.OfRanks.Lemmas.{AreAll, HasEntry, HasGroupParts, HasNumber, HasTypeParts}

numbers : {A : Type 0} (P : A → Type 0) (R : A → ℕ → Type 0) → ((a : A) → P a → (i : ℕ) × R a i) → (xs : List A) → AreAll P xs → (is : List ℕ) × AlikeAll R xs is
numbers P R f [] h = ([], none)
numbers P R f (x ∷ xs) h =
    let i = f x h.0 in
    let r = numbers P R f xs h.1 in
    (i.0 ∷ r.0, both i.1 r.1)

module _ {N G : Type 0} (P : N → Type 0) (Q : G → Type 0) (R : N → ℕ → Type 0) (S : G → ℕ → Type 0) (type_number : (n : N) → P n → (i : ℕ) × R n i) (group_number : (g : G) → Q g → (i : ℕ) × S g i) where
  entry_numbers : (es : List (MapEntry N)) → AreAll (HasEntry P) es → (ds : List (MapEntry ℕ)) × AlikeEntries R es ds
  entry_numbers [] h = ([], no_entries)
  entry_numbers (e ∷ es) h =
      let k = type_number e.key_type h.0.0 in
      let v = type_number e.value_type h.0.1 in
      let r = entry_numbers es h.1 in
      (record { least = e.least; most = e.most; key_type = k.0; cuts = e.cuts; value_type = v.0 } ∷ r.0, entry refl refl refl k.1 v.1 r.1)

  map_numbers : (ess : List (List (MapEntry N))) → AreAll (AreAll (HasEntry P)) ess → (dss : List (List (MapEntry ℕ))) × AlikeMaps R ess dss
  map_numbers [] h = ([], no_alternatives)
  map_numbers (es ∷ ess) h =
      let d = entry_numbers es h.0 in
      let r = map_numbers ess h.1 in
      (d.0 ∷ r.0, alternative d.1 r.1)

  tag_numbers : (t : TagNumber N) → HasNumber P t → (s : TagNumber ℕ) × AlikeNumbers R t s
  tag_numbers any_number h = (any_number, any_numbers)
  tag_numbers (exactly n) h = (exactly n, same_number)
  tag_numbers (such_as m) h = let i = type_number m h in (such_as i.0, heads i.1)

  pub type_numbers : (m : Node N G) → HasTypeParts P Q m → (k : Node ℕ ℕ) × AlikeTypes R S m k
  type_numbers (Plain t) h = (Plain t, plain)
  type_numbers (Ref n) h = let i = type_number n h in (Ref i.0, refs i.1)
  type_numbers (Choice ns) h = let r = numbers P R type_number ns h in (Choice r.0, choices r.1)
  type_numbers (ArrayOf g) h = let i = group_number g h in (ArrayOf i.0, arrays i.1)
  type_numbers (TagOf t n) h =
      let s = tag_numbers t h.0 in
      let i = type_number n h.1 in
      (TagOf s.0 i.0, tags s.1 i.1)
  type_numbers (SimpleBy n) h = let i = type_number n h in (SimpleBy i.0, simples i.1)
  type_numbers (MapOf ess) h = let r = map_numbers ess h in (MapOf r.0, maps r.1)
  type_numbers (Both m n) h =
      let i = type_number m h.0 in
      let j = type_number n h.1 in
      (Both i.0 j.0, boths i.1 j.1)
  type_numbers (Such m t) h = let i = type_number m h in (Such i.0 t, suches i.1 (λ x. refl) (λ x. refl))
  type_numbers (Holding m c n) h =
      let i = type_number m h.0 in
      let j = type_number n h.1 in
      (Holding i.0 c j.0, holdings i.1 j.1)

  pub group_numbers : (m : Group N G) → HasGroupParts P Q m → (k : Group ℕ ℕ) × AlikeGroups R S m k
  group_numbers (Entry n) h = let i = type_number n h in (Entry i.0, entries i.1)
  group_numbers (GroupRef g) h = let i = group_number g h in (GroupRef i.0, group_refs i.1)
  group_numbers (Sequence gs) h = let r = numbers Q S group_number gs h in (Sequence r.0, sequences r.1)
  group_numbers (Alternatives gs) h = let r = numbers Q S group_number gs h in (Alternatives r.0, alternates r.1)
  group_numbers (Repeat least most g) h = let i = group_number g h in (Repeat least most i.0, repeats i.1)
