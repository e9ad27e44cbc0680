-- Lists that are made of others, item by item, and entries of maps that are alike.
use Rattle.std.specs.declared.alloc.Global.{Global}
use Rattle.std.specs.declared.vec.Vec.{Vec}
use Rattle.std.proofs.Common.{◌≡◌, List, [], ◌∷◌, ◌++◌, map, refl, sym, subst, ◌∙◌}
use Rattle.lists.proofs.Lemmas.{none_more as append_none}
use Rattle.cddl_meaning.specs.Alike.{AlikeAll, none, both, AlikeEntries, no_entries, entry, AlikeMaps, no_alternatives, alternative}
use Rattle.cddl_meaning.specs.Forms.{MapEntry}
use Rattle.table_making.specs.Entries.{IsAlikeEntry}
use Rattle.table_making.proofs.Listing.{alike_pushed, appended}

-- of the first so many of all, these are made, and these are left
pub record IsPairing {A B C : Type 0} (P : A → B → Type 0) (R : A → C → Type 0) (all : List A) (left : List B) (out : List C) : Type 0 where
  pub done : List A
  pub rest : List A
  pub joins : done ++ rest ≡ all
  pub made : AlikeAll R done out
  pub further : AlikeAll P rest left

module _ {A B C : Type 0} (P : A → B → Type 0) (R : A → C → Type 0) where
  pub pairing_begun : (all : List A) (left : List B) (out : List C) → out ≡ [] → AlikeAll P all left → IsPairing P R all left out
  pairing_begun all left out e h = record { done = []; rest = all; joins = refl; made = subst (AlikeAll R []) (sym e) none; further = h }

  pub pairing_on : (all : List A) (left more : List B) (b : B) (out later : List C) (c : C) → left ≡ b ∷ more → later ≡ out ++ c ∷ [] → ((a : A) → P a b → R a c) → IsPairing P R all left out → IsPairing P R all more later
  pairing_on all left more b out later c e f g w = by w.rest w.joins (subst (AlikeAll P w.rest) e w.further)
    where
      by : (rest : List A) → w.done ++ rest ≡ all → AlikeAll P rest (b ∷ more) → IsPairing P R all more later
      by [] j h = elim h [ ]
      by (a ∷ rest) j (both h hs) = record { done = w.done ++ a ∷ []; rest = rest; joins = appended w.done (a ∷ []) rest ∙ j; made = subst (AlikeAll R (w.done ++ a ∷ [])) (sym f) (alike_pushed R w.done out a c w.made (g a h)); further = hs }

  pub pairing_ended : (all : List A) (left : List B) (out : List C) → left ≡ [] → IsPairing P R all left out → AlikeAll R all out
  pairing_ended all left out e w = by w.rest w.joins (subst (AlikeAll P w.rest) e w.further)
    where
      by : (rest : List A) → w.done ++ rest ≡ all → AlikeAll P rest [] → AlikeAll R all out
      by [] j h = subst (λ (xs : List A). AlikeAll R xs out) (sym (append_none w.done) ∙ j) w.made
      by (a ∷ rest) j h = elim h [ ]

-- Entries of maps.
module _ {N M : Type 0} (R : N → M → Type 0) where
  module _ {A B : Type 0} (f : A → MapEntry N) (g : B → MapEntry M) where
    pub entries_alike : (xs : List A) (ys : List B) → AlikeAll (λ (x : A) (y : B). IsAlikeEntry R (f x) (g y)) xs ys → AlikeEntries R (map f xs) (map g ys)
    entries_alike [] [] none = no_entries
    entries_alike [] (y ∷ ys) h = elim h [ ]
    entries_alike (x ∷ xs) [] h = elim h [ ]
    entries_alike (x ∷ xs) (y ∷ ys) (both h hs) = entry h.least h.most h.cuts h.key h.value (entries_alike xs ys hs)

    pub map_alike : (xss : List (Vec A Global)) (yss : List (Vec B Global)) → AlikeAll (λ (xs : Vec A Global) (ys : Vec B Global). AlikeAll (λ (x : A) (y : B). IsAlikeEntry R (f x) (g y)) xs.items ys.items) xss yss → AlikeMaps R (map (λ (xs : Vec A Global). map f xs.items) xss) (map (λ (ys : Vec B Global). map g ys.items) yss)
    map_alike [] [] none = no_alternatives
    map_alike [] (ys ∷ yss) h = elim h [ ]
    map_alike (xs ∷ xss) [] h = elim h [ ]
    map_alike (xs ∷ xss) (ys ∷ yss) (both h hs) = alternative (entries_alike xs.items ys.items h) (map_alike xss yss hs)

    -- of the first ones as lists
    pub lists_alike : (xss : List (List A)) (yss : List (Vec B Global)) → AlikeAll (λ (xs : List A) (ys : Vec B Global). AlikeAll (λ (x : A) (y : B). IsAlikeEntry R (f x) (g y)) xs ys.items) xss yss → AlikeMaps R (map (map f) xss) (map (λ (ys : Vec B Global). map g ys.items) yss)
    lists_alike [] [] none = no_alternatives
    lists_alike [] (ys ∷ yss) h = elim h [ ]
    lists_alike (xs ∷ xss) [] h = elim h [ ]
    lists_alike (xs ∷ xss) (ys ∷ yss) (both h hs) = alternative (entries_alike xs ys.items h) (lists_alike xss yss hs)

  -- back again
  module _ {B : Type 0} (g : B → MapEntry M) where
    entries_back : (ds : List (MapEntry N)) (ys : List B) → AlikeEntries R ds (map g ys) → AlikeAll (λ (d : MapEntry N) (y : B). IsAlikeEntry R d (g y)) ds ys
    entries_back [] [] no_entries = none
    entries_back [] (y ∷ ys) h = elim h [ ]
    entries_back (d ∷ ds) [] h = elim h [ ]
    entries_back (d ∷ ds) (y ∷ ys) (entry least most cuts key value later) = both (record { least = least; most = most; cuts = cuts; key = key; value = value }) (entries_back ds ys later)

    pub map_back : (dss : List (List (MapEntry N))) (yss : List (Vec B Global)) → AlikeMaps R dss (map (λ (ys : Vec B Global). map g ys.items) yss) → AlikeAll (λ (ds : List (MapEntry N)) (ys : Vec B Global). AlikeAll (λ (d : MapEntry N) (y : B). IsAlikeEntry R d (g y)) ds ys.items) dss yss
    map_back [] [] no_alternatives = none
    map_back [] (ys ∷ yss) h = elim h [ ]
    map_back (ds ∷ dss) [] h = elim h [ ]
    map_back (ds ∷ dss) (ys ∷ yss) (alternative a later) = both (entries_back ds ys.items a) (map_back dss yss later)
