-- Lists of origins, one for one with names.
use Rattle.std.proofs.Common.{◌≡◌, ℕ, ◌<◌, zero, suc, ◌+◌, List, [], ◌∷◌, ◌++◌, map, Some, length, refl, sym, ap, subst, ◌∙◌, slice_get, get_or, drop, arith}
use Rattle.std.proofs.Math.Seq.{drop-cons}
use Rattle.lists.proofs.Lemmas.{none_more as append_none}
use Rattle.cddl_meaning.specs.Alike.{AlikeAll, none, both}

pub appended : {A : Type 0} (xs ys zs : List A) → (xs ++ ys) ++ zs ≡ xs ++ (ys ++ zs)
appended [] ys zs = refl
appended {A = A} (x ∷ xs) ys zs = ap (λ (us : List A). x ∷ us) (appended xs ys zs)

pub alike_at : {N M : Type 0} (R : N → M → Type 0) (ns : List N) (ms : List M) → AlikeAll R ns ms → (k : ℕ) (n : N) → slice_get ns k ≡ Some n → (m : M) × (slice_get ms k ≡ Some m) × R n m
alike_at R [] [] none k n e = cc
alike_at R [] (m ∷ ms) h k n e = elim h [ ]
alike_at R (n ∷ ns) [] h k x e = elim h [ ]
alike_at {N = N} R (n ∷ ns) (m ∷ ms) (both h hs) zero x e = (m, refl, subst (λ y. R y m) (one n x e) h)
  where
    one : (n x : N) → Some n ≡ Some x → n ≡ x
    one n x e = cc
alike_at R (n ∷ ns) (m ∷ ms) (both h hs) (suc k) x e = alike_at R ns ms hs k x e

pub alike_more : {N M : Type 0} (R S : N → M → Type 0) → ((n : N) (m : M) → R n m → S n m) → (ns : List N) (ms : List M) → AlikeAll R ns ms → AlikeAll S ns ms
alike_more R S f [] [] none = none
alike_more R S f [] (m ∷ ms) h = elim h [ ]
alike_more R S f (n ∷ ns) [] h = elim h [ ]
alike_more R S f (n ∷ ns) (m ∷ ms) (both h hs) = both (f n m h) (alike_more R S f ns ms hs)

pub alike_pushed : {N M : Type 0} (R : N → M → Type 0) (ns : List N) (ms : List M) (n : N) (m : M) → AlikeAll R ns ms → R n m → AlikeAll R (ns ++ n ∷ []) (ms ++ m ∷ [])
alike_pushed R [] [] n m none h = both h none
alike_pushed R [] (l ∷ ms) n m g h = elim g [ ]
alike_pushed R (l ∷ ns) [] n m g h = elim g [ ]
alike_pushed R (k ∷ ns) (l ∷ ms) n m (both g gs) h = both g (alike_pushed R ns ms n m gs h)

-- A walk over a list: what was made of the items so far, and what is left.

abbrev pub flat : {A N : Type 0} → (A → List N) → List A → List N
flat f [] = []
flat f (a ∷ xs) = f a ++ flat f xs

pub record IsWalk {A B N M : Type 0} (P : A → B → Type 0) (R : N → M → Type 0) (f : A → List N) (all : List N) (left : List B) (out : List M) : Type 0 where
  pub done : List N
  pub rest : List A
  pub joins : done ++ flat f rest ≡ all
  pub made : AlikeAll R done out
  pub further : AlikeAll P rest left

pub flat_map_one : {A N : Type 0} (f : A → N) (xs : List A) → flat (λ a. f a ∷ []) xs ≡ map f xs
flat_map_one f [] = refl
flat_map_one {N = N} f (a ∷ xs) = ap (λ (ns : List N). f a ∷ ns) (flat_map_one f xs)

module _ {A B N M : Type 0} (P : A → B → Type 0) (R : N → M → Type 0) (f : A → List N) where
  pub walk_ended : (all : List N) (left : List B) (out : List M) → left ≡ [] → IsWalk P R f all left out → AlikeAll R all out
  walk_ended all left out e w = by w.rest w.joins (subst (AlikeAll P w.rest) e w.further)
    where
      by : (rest : List A) → w.done ++ flat f rest ≡ all → AlikeAll P rest [] → AlikeAll R all out
      by [] j h = subst (λ ns. AlikeAll R ns out) (sym (append_none w.done) ∙ j) w.made
      by (a ∷ xs) j h = elim h [ ]

  pub walk_on : (S : N → M → Type 0) (all : List N) (left more : List B) (b : B) (out new : List M) → left ≡ b ∷ more → ((a : A) → P a b → (ns : List N) → AlikeAll R ns out → AlikeAll S (ns ++ f a) new) → IsWalk P R f all left out → IsWalk P S f all more new
  walk_on S all left more b out new e step w = by w.rest w.joins (subst (AlikeAll P w.rest) e w.further)
    where
      by : (rest : List A) → w.done ++ flat f rest ≡ all → AlikeAll P rest (b ∷ more) → IsWalk P S f all more new
      by [] j h = elim h [ ]
      by (a ∷ xs) j (both h hs) = record { done = w.done ++ f a; rest = xs; joins = appended w.done (f a) (flat f xs) ∙ j; made = step a h w.done w.made; further = hs }

pub next_row : (xs : List ℕ) (i : ℕ) → i < length xs → drop i xs ≡ get_or xs i 0 ∷ drop (i + 1) xs
next_row xs i h = drop-cons xs i 0 h ∙ ap (λ j. get_or xs i 0 ∷ drop j xs) step
  where
    step : suc i ≡ i + 1
    step = omega arith

pub next_item : {A : Type 0} (xs : List A) (i : ℕ) (d : A) → i < length xs → drop i xs ≡ get_or xs i d ∷ drop (i + 1) xs
next_item xs i d h = drop-cons xs i d h ∙ ap (λ j. get_or xs i d ∷ drop j xs) step
  where
    step : suc i ≡ i + 1
    step = omega arith

pub alike_length : {N M : Type 0} (R : N → M → Type 0) (ns : List N) (ms : List M) → AlikeAll R ns ms → length ns ≡ length ms
alike_length R [] [] none = refl
alike_length R [] (m ∷ ms) h = elim h [ ]
alike_length R (n ∷ ns) [] h = elim h [ ]
alike_length R (n ∷ ns) (m ∷ ms) (both h hs) = ap suc (alike_length R ns ms hs)
