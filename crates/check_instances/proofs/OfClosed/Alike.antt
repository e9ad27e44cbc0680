-- Lists that are related one by one, and loops over the second of them.
use Rattle.std.proofs.Common.{◌≡◌, ℕ, zero, suc, ◌+◌, ◌<◌, List, [], ◌∷◌, ◌++◌, length, drop, get_or, append_assoc, Some, slice_get, refl, sym, ◌∙◌, subst, drop-cons, add-one}
use Rattle.std.proofs.lemmas.Option.{get_or_from_slice_get, same_Some, slice_get-get_or}
use Rattle.lists.proofs.Lemmas.{none_more}
use Rattle.cddl_meaning.specs.Alike.{AlikeAll, none, both}

pub alike_push : {A B : Type 0} (R : A → B → Type 0) (xs : List A) (ys : List B) (x : A) (y : B) → AlikeAll R xs ys → R x y → AlikeAll R (xs ++ x ∷ []) (ys ++ y ∷ [])
alike_push R xs ys x y none h = both h none
alike_push R xs ys x y (both {ns = us} {ms = vs} k ks) h = both k (alike_push R us vs x y ks h)

pub alike_join : {A B : Type 0} (R : A → B → Type 0) (xs : List A) (ys : List B) (us : List A) (vs : List B) → AlikeAll R xs ys → AlikeAll R us vs → AlikeAll R (xs ++ us) (ys ++ vs)
alike_join R xs ys us vs none h = h
alike_join R xs ys us vs (both {ns = ps} {ms = qs} k ks) h = both k (alike_join R ps qs us vs ks h)

pub alike_kept : {A B : Type 0} (R S : A → B → Type 0) → ((x : A) (y : B) → R x y → S x y) → (xs : List A) (ys : List B) → AlikeAll R xs ys → AlikeAll S xs ys
alike_kept R S f xs ys none = none
alike_kept R S f xs ys (both {n = x} {m = y} {ns = us} {ms = vs} k ks) = both (f x y k) (alike_kept R S f us vs ks)

pub alike_at : {A B : Type 0} (R : A → B → Type 0) (xs : List A) (ys : List B) → AlikeAll R xs ys → (k : ℕ) (x : A) → slice_get xs k ≡ Some x → (y : B) × (slice_get ys k ≡ Some y) × R x y
alike_at R xs ys none k x e = cc
alike_at R xs ys (both {n = u} {m = y} {ns = us} {ms = vs} h hs) zero x e = (y, refl, subst (λ z. R z y) (same_Some u x e) h)
alike_at R xs ys (both {ns = us} {ms = vs} h hs) (suc k) x e = alike_at R us vs hs k x e

pub alike_back : {A B : Type 0} (R : A → B → Type 0) (xs : List A) (ys : List B) → AlikeAll R xs ys → (k : ℕ) (y : B) → slice_get ys k ≡ Some y → (x : A) × (slice_get xs k ≡ Some x) × R x y
alike_back R xs ys none k y e = cc
alike_back R xs ys (both {n = x} {m = v} {ns = us} {ms = vs} h hs) zero y e = (x, refl, subst (R x) (same_Some v y e) h)
alike_back R xs ys (both {ns = us} {ms = vs} h hs) (suc k) y e = alike_back R us vs hs k y e

-- Some are done, and these are left.
pub record AreSome {A B : Type 0} (R : A → B → Type 0) (Done : List A → Type 0) (all : List A) (left : List B) : Type 0 where
  pub before : List A
  pub after : List A
  pub whole : all ≡ before ++ after
  pub are_left : AlikeAll R after left
  pub are_done : Done before

pub none_done : {A B : Type 0} (R : A → B → Type 0) (Done : List A → Type 0) (all : List A) (ys : List B) → AlikeAll R all ys → Done [] → AreSome R Done all ys
none_done R Done all ys h d = record { before = []; after = all; whole = refl; are_left = h; are_done = d }

one_done : {A B : Type 0} (R : A → B → Type 0) (Done More : List A → Type 0) (all : List A) (y : B) (ys : List B) → ((xs : List A) (x : A) → R x y → Done xs → More (xs ++ x ∷ [])) → AreSome R Done all (y ∷ ys) → AreSome R More all ys
one_done {A = A} R Done More all y ys f so = by so.after so.whole so.are_left
  where
    by : (after : List A) → all ≡ so.before ++ after → AlikeAll R after (y ∷ ys) → AreSome R More all ys
    by after w (both {n = x} {ns = us} h hs) = record {
      before = so.before ++ x ∷ [];
      after = us;
      whole = w ∙ sym (append_assoc so.before (x ∷ []) us);
      are_left = hs;
      are_done = f so.before x h so.are_done;
    }

-- the same by the place
pub next_done : {A B : Type 0} (R : A → B → Type 0) (Done More : List A → Type 0) (all : List A) (ys : List B) (i : ℕ) (y : B) → i < length ys → y ≡ get_or ys i y → ((xs : List A) (x : A) → R x y → Done xs → More (xs ++ x ∷ [])) → AreSome R Done all (drop i ys) → AreSome R More all (drop (i + 1) ys)
next_done R Done More all ys i y l e f so =
    let parts : drop i ys ≡ y ∷ drop (i + 1) ys = drop-cons ys i y l ∙ (λ z. sym e z ∷ drop (sym (add-one i) z) ys) in
    one_done R Done More all y (drop (i + 1) ys) f (subst (λ zs. AreSome R Done all zs) parts so)

pub all_done : {A B : Type 0} (R : A → B → Type 0) (Done : List A → Type 0) (all : List A) (left : List B) → left ≡ [] → AreSome R Done all left → Done all
all_done {A = A} R Done all left empty so = by so.after so.whole (subst (AlikeAll R so.after) empty so.are_left)
  where
    by : (after : List A) → all ≡ so.before ++ after → AlikeAll R after [] → Done all
    by after w none = subst Done (sym (w ∙ none_more so.before)) so.are_done

-- an item that was read is so whatever else would be read
pub read_so : {A : Type 0} (ys : List A) (i : ℕ) (d : A) → i < length ys → get_or ys i d ≡ get_or ys i (get_or ys i d)
read_so ys i d l = sym (get_or_from_slice_get ys i (get_or ys i d) (get_or ys i d) (slice_get-get_or ys i d l))
