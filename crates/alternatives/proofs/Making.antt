-- How lists of alternatives grow while they are made.
use Rattle.std.proofs.Common.{◌≡◌, ℕ, zero, suc, ◌+◌, ◌<◌, List, [], ◌∷◌, ◌++◌, map, length, take, drop, set, replicate, Some, slice_get, slice_index_or, refl, sym, ap, ◌∙◌, append_assoc, arith}
use Rattle.lists.proofs.Lemmas.{never_some, there as there_is}
use Rattle.alternatives.specs.declared.Member.{Member}
use Rattle.alternatives.specs.Splices.{Alternatives, members, behind, ways, from, each_needed}
use Rattle.alternatives.proofs.Once.{same_some}
use Rattle.alternatives.proofs.Lists.{read_there}

drop_suc : {A : Type 0} (s : List A) (i : ℕ) (x : A) → slice_get s i ≡ Some x → drop i s ≡ x ∷ drop (suc i) s
drop_suc [] i x e = absurd (never_some x e)
drop_suc (y ∷ s) zero x e = ap (λ z. z ∷ s) (same_some y x e)
drop_suc (y ∷ s) (suc i) x e = drop_suc s i x e

one_more : (i : ℕ) → suc i ≡ i + 1
one_more i = omega arith

drop_more : {A : Type 0} (s : List A) (i : ℕ) (x : A) → slice_get s i ≡ Some x → drop i s ≡ x ∷ drop (i + 1) s
drop_more s i x e = drop_suc s i x e ∙ ap (λ k. x ∷ drop k s) (one_more i)

take_suc : {A : Type 0} (s : List A) (i : ℕ) (x : A) → slice_get s i ≡ Some x → take (suc i) s ≡ take i s ++ x ∷ []
take_suc [] i x e = absurd (never_some x e)
take_suc (y ∷ s) zero x e = ap (λ z. z ∷ []) (same_some y x e)
take_suc (y ∷ s) (suc i) x e = ap (λ zs. y ∷ zs) (take_suc s i x e)

pub map_push : {A B : Type 0} (f : A → B) (xs : List A) (v : A) → map f (xs ++ v ∷ []) ≡ map f xs ++ f v ∷ []
map_push f [] v = refl
map_push f (x ∷ xs) v = ap (λ ys. f x ∷ ys) (map_push f xs v)

map_append : {A B : Type 0} (f : A → B) (xs ys : List A) → map f (xs ++ ys) ≡ map f xs ++ map f ys
map_append f [] ys = refl
map_append f (x ∷ xs) ys = ap (λ zs. f x ∷ zs) (map_append f xs ys)

drop_map : {A B : Type 0} (f : A → B) (xs : List A) (i : ℕ) → drop i (map f xs) ≡ map f (drop i xs)
drop_map f [] zero = refl
drop_map f [] (suc i) = refl
drop_map f (x ∷ xs) zero = refl
drop_map f (x ∷ xs) (suc i) = drop_map f xs i

get_map : {A B : Type 0} (f : A → B) (xs : List A) (i : ℕ) (x : A) → slice_get xs i ≡ Some x → slice_get (map f xs) i ≡ Some (f x)
get_map f [] i x e = absurd (never_some x e)
get_map f (y ∷ xs) zero x e = ap (λ z. Some (f z)) (same_some y x e)
get_map f (y ∷ xs) (suc i) x e = get_map f xs i x e

pub length_map : {A B : Type 0} (f : A → B) (xs : List A) → length (map f xs) ≡ length xs
length_map f [] = refl
length_map f (x ∷ xs) = ap suc (length_map f xs)

replicate_suc : {A : Type 0} (n : ℕ) (v : A) → replicate (suc n) v ≡ replicate n v ++ v ∷ []
replicate_suc zero v = refl
replicate_suc (suc n) v = ap (λ xs. v ∷ xs) (replicate_suc n v)

-- a list made of others by `f`, so far
module _ {X : Type 0} (f : X → List Member) where
  pub one_empty : (xs ys : List X) (v : X) (n : ℕ) → ys ≡ xs ++ v ∷ [] → f v ≡ [] → map f xs ≡ replicate n [] → map f ys ≡ replicate (n + 1) []
  one_empty xs ys v n e g h = ap (map f) e ∙ (map_push f xs v ∙ (ap (λ ms. map f xs ++ ms ∷ []) g ∙ (ap (λ mss. mss ++ [] ∷ []) h ∙ (sym (replicate_suc n []) ∙ ap (λ k. replicate k []) (one_more n)))))

  pub one_behind : (xs ys : List X) (v x : X) (before : List Member) (s : List X) (i : ℕ) (all : Alternatives) → slice_get s i ≡ Some x → ys ≡ xs ++ v ∷ [] → f v ≡ before ++ f x → map f xs ++ behind before (map f (drop i s)) ≡ all → map f ys ++ behind before (map f (drop (i + 1) s)) ≡ all
  one_behind xs ys v x before s i all at e g h =
      let rest = behind before (map f (drop (i + 1) s)) in
      ap (λ zs. map f zs ++ rest) e ∙ (ap (λ mss. mss ++ rest) (map_push f xs v) ∙ (ap (λ ms. (map f xs ++ ms ∷ []) ++ rest) g ∙ (append_assoc (map f xs) ((before ++ f x) ∷ []) rest ∙ (ap (λ zs. map f xs ++ behind before (map f zs)) (sym (drop_more s i x at)) ∙ h))))

  pub one_way : (mss nss : Alternatives) (x : X) (second : Alternatives) (s : List X) (i : ℕ) (all : Alternatives) → slice_get s i ≡ Some x → nss ≡ mss ++ behind (f x) second → mss ++ ways (map f (drop i s)) second ≡ all → nss ++ ways (map f (drop (i + 1) s)) second ≡ all
  one_way mss nss x second s i all at e h =
      let rest = ways (map f (drop (i + 1) s)) second in
      ap (λ kss. kss ++ rest) e ∙ (append_assoc mss (behind (f x) second) rest ∙ (ap (λ zs. mss ++ ways (map f zs) second) (sym (drop_more s i x at)) ∙ h))

  pub one_loose : (ms ns : List Member) (x : X) (s : List X) (i : ℕ) (all : List Member) → slice_get s i ≡ Some x → ns ≡ ms ++ map (from 0) (f x) → ms ++ map (from 0) (members (map f (drop i s))) ≡ all → ns ++ map (from 0) (members (map f (drop (i + 1) s))) ≡ all
  one_loose ms ns x s i all at e h =
      let rest = members (map f (drop (i + 1) s)) in
      ap (λ ks. ks ++ map (from 0) rest) e ∙ (append_assoc ms (map (from 0) (f x)) (map (from 0) rest) ∙ (ap (λ ks. ms ++ ks) (sym (map_append (from 0) (f x) rest)) ∙ (ap (λ zs. ms ++ map (from 0) (members (map f zs))) (sym (drop_more s i x at)) ∙ h)))

  pub one_in_turn : (xs ys : List X) (v : X) (loose : List Member) (i : ℕ) → i < length loose → ys ≡ xs ++ v ∷ [] → ((d : Member) → f v ≡ take i loose ++ from 1 (slice_index_or loose i d) ∷ drop (i + 1) loose) → (ms : List Member) → loose ≡ map (from 0) ms → map f xs ++ each_needed (take i loose) (drop i ms) ≡ each_needed [] ms → map f ys ++ each_needed (take (i + 1) loose) (drop (i + 1) ms) ≡ each_needed [] ms
  one_in_turn xs ys v loose i l e g ms is h =
      let found = there_is ms i (let k = ap length is in let n = length_map (from 0) ms in omega (arith, l, k, n)) in
      let m = found.0 in
      let at : slice_get loose i ≡ Some (from 0 m) = ap (λ ks. slice_get ks i) is ∙ get_map (from 0) ms i m found.1 in
      let rest = drop (i + 1) ms in
      let before = take i loose in
      let made : f v ≡ before ++ from 1 m ∷ map (from 0) rest = g m ∙ (ap (λ k. before ++ from 1 k ∷ drop (i + 1) loose) (read_there loose i m (from 0 m) at) ∙ ap (λ ks. before ++ from 1 m ∷ ks) (ap (drop (i + 1)) is ∙ drop_map (from 0) ms (i + 1))) in
      let taken : take (i + 1) loose ≡ before ++ from 0 m ∷ [] = ap (λ k. take k loose) (sym (one_more i)) ∙ take_suc loose i (from 0 m) at in
      let later = each_needed (before ++ from 0 m ∷ []) rest in
      ap (λ ks. map f ys ++ each_needed ks rest) taken ∙ (ap (λ zs. map f zs ++ later) e ∙ (ap (λ mss. mss ++ later) (map_push f xs v) ∙ (ap (λ ks. (map f xs ++ ks ∷ []) ++ later) made ∙ (append_assoc (map f xs) ((before ++ from 1 m ∷ map (from 0) rest) ∷ []) later ∙ (ap (λ ks. map f xs ++ each_needed before ks) (sym (drop_more ms i m found.1)) ∙ h)))))

pub one_member : (ms ns : List Member) (x : Member) (s : List Member) (i : ℕ) (all : List Member) → slice_get s i ≡ Some x → ns ≡ ms ++ from 0 x ∷ [] → ms ++ map (from 0) (drop i s) ≡ all → ns ++ map (from 0) (drop (i + 1) s) ≡ all
one_member ms ns x s i all at e h =
    let rest = map (from 0) (drop (i + 1) s) in
    ap (λ ks. ks ++ rest) e ∙ (append_assoc ms (from 0 x ∷ []) rest ∙ (ap (λ zs. ms ++ map (from 0) zs) (sym (drop_more s i x at)) ∙ h))

-- the members are put after each alternative, in its place

map_set : {A B : Type 0} (f : A → B) (xs : List A) (i : ℕ) (v : A) → map f (set xs i v) ≡ set (map f xs) i (f v)
map_set f [] i v = refl
map_set f (x ∷ xs) zero v = refl
map_set f (x ∷ xs) (suc i) v = ap (λ ys. f x ∷ ys) (map_set f xs i v)

-- the place where the one list ends
one_put : (g : List Member → List Member) (mss kss : Alternatives) (i : ℕ) (m : List Member) → slice_get kss i ≡ Some m → mss ≡ map g (take i kss) ++ drop i kss → set mss i (g m) ≡ map g (take (suc i) kss) ++ drop (suc i) kss
one_put g mss kss i m e h = ap (λ xs. set xs i (g m)) h ∙ at_place kss i e
  where
    at_place : (kss : Alternatives) (i : ℕ) → slice_get kss i ≡ Some m → set (map g (take i kss) ++ drop i kss) i (g m) ≡ map g (take (suc i) kss) ++ drop (suc i) kss
    at_place [] i f = absurd (never_some m f)
    at_place (k ∷ kss) zero f = ap (λ z. g z ∷ kss) (sym (same_some k m f))
    at_place (k ∷ kss) (suc i) f = ap (λ zs. g k ∷ zs) (at_place kss i f)

get_back : (kss : Alternatives) (g : List Member → List Member) (i : ℕ) (m : List Member) → slice_get (map g (take i kss) ++ drop i kss) i ≡ Some m → slice_get kss i ≡ Some m
get_back [] g zero m e = e
get_back [] g (suc i) m e = absurd (never_some m e)
get_back (k ∷ kss) g zero m e = e
get_back (k ∷ kss) g (suc i) m e = get_back kss g i m e

module _ {X : Type 0} (f : X → List Member) where
  pub put_one : (xs ys : List X) (v x : X) (ns : List Member) (kss : Alternatives) (i : ℕ) → slice_get xs i ≡ Some x → ys ≡ set xs i v → f v ≡ f x ++ ns → map f xs ≡ map (λ ms. ms ++ ns) (take i kss) ++ drop i kss → map f ys ≡ map (λ ms. ms ++ ns) (take (i + 1) kss) ++ drop (i + 1) kss
  put_one xs ys v x ns kss i at e h is =
      let there : slice_get kss i ≡ Some (f x) = get_back kss (λ ms. ms ++ ns) i (f x) (ap (λ zs. slice_get zs i) (sym is) ∙ get_map f xs i x at) in
      ap (map f) e ∙ (map_set f xs i v ∙ (ap (λ w. set (map f xs) i w) h ∙ (one_put (λ ms. ms ++ ns) (map f xs) kss i (f x) there is ∙ ap (λ k. map (λ ms. ms ++ ns) (take k kss) ++ drop k kss) (one_more i))))

pub ways_one : (mss : Alternatives) (ns : List Member) → map (λ ms. ms ++ ns) mss ≡ ways mss (ns ∷ [])
ways_one [] ns = refl
ways_one (ms ∷ mss) ns = ap (λ kss. (ms ++ ns) ∷ kss) (ways_one mss ns)

pub one_second : {X : Type 0} (xs : List X) (x : X) → length xs ≡ 1 → slice_get xs 0 ≡ Some x → xs ≡ x ∷ []
one_second [] x e h = absurd (never_some x h)
one_second (y ∷ []) x e h = ap (λ z. z ∷ []) (same_some y x h)
one_second (y ∷ z ∷ xs) x e h = absurd (omega (arith, e))
