-- The least offset of what is told of the elements of a list, from what is told of each.
use Rattle.std.proofs.Common.{◌≡◌, ℕ, zero, suc, ◌+◌, ◌<◌, ◌≤◌, ◌⊎◌, inl, inr, List, [], ◌∷◌, length, drop, get_or, Option, Some, None, refl, sym, ap, subst, ◌∙◌, arith}
use Rattle.std.specs.List.{Contains}
use Rattle.std.proofs.Math.ListN.{drop_of_length-le}
use Rattle.lists.proofs.Lemmas.{at_head as at_first, first_or_later, later_in as later, lesser_least as either, next_drop, none_in, same_least as alike}
use Rattle.lists.specs.Least.{IsLeast, lesser_of}
use Rattle.all_offsets.specs.Offsets.{IsAmong}

read_alike : {X : Type 0} (xs : List X) (i : ℕ) (d e : X) → i < length xs → get_or xs i d ≡ get_or xs i e
read_alike [] i d e l = absurd (below_none i l)
  where
    below_none : (k : ℕ) → k < 0 → ⊥
    below_none k n = omega arith
read_alike (x ∷ xs) zero d e l = refl
read_alike (x ∷ xs) (suc i) d e l = read_alike xs i d e (omega arith)

further : (a b c : Option ℕ) → lesser_of (lesser_of a b) c ≡ lesser_of a (lesser_of b c)
further None b c = refl
further (Some a) None c = refl
further (Some a) (Some b) None = refl
further (Some a) (Some b) (Some c) = ap Some (omega arith)

with_none : (a : Option ℕ) → lesser_of a None ≡ a
with_none None = refl
with_none (Some a) = refl

-- What is so far the least, with the least in the rest of the list, gives the least in all.
pub record Goes {A : Type 0} (P : A → ℕ → Type 0) (all rest : List A) (least : Option ℕ) : Type 0 where
  pub go : (o : Option ℕ) → IsLeast (IsAmong P rest) o → IsLeast (IsAmong P all) (lesser_of least o)

module _ {A : Type 0} (P : A → ℕ → Type 0) where
  pub none_told : (all : List A) → Goes P all all None
  none_told all = record { go = λ o h. h }

  first_or_further : (x : A) (more : List A) (a o : Option ℕ) → IsLeast (P x) a → IsLeast (IsAmong P more) o → IsLeast (IsAmong P (x ∷ more)) (lesser_of a o)
  first_or_further x more a o h k = alike (λ p. P x p ⊎ IsAmong P more p) (IsAmong P (x ∷ more)) to from (lesser_of a o) (either (P x) (IsAmong P more) a o h k)
    where
      to : (p : ℕ) → P x p ⊎ IsAmong P more p → IsAmong P (x ∷ more) p
      to p (inl t) = record { one = x; present = at_first x more; told = t }
      to p (inr t) = record { one = t.one; present = later x t.one more t.present; told = t.told }

      from : (p : ℕ) → IsAmong P (x ∷ more) p → P x p ⊎ IsAmong P more p
      from p t = by (first_or_later x more t.one t.present)
        where
          by : (x ≡ t.one) ⊎ Contains more t.one → P x p ⊎ IsAmong P more p
          by (inl e) = inl (subst (λ y. P y p) (sym e) t.told)
          by (inr g) = inr (record { one = t.one; present = g; told = t.told })

  pub steps : (all : List A) (i : ℕ) (x : A) (least a new : Option ℕ) → i < length all → x ≡ get_or all i x → IsLeast (P x) a → new ≡ lesser_of least a → Goes P all (drop i all) least → Goes P all (drop (i + 1) all) new
  steps all i x least a new l is h n g = record {
    go = λ o k. subst (IsLeast (IsAmong P all)) (sym (ap (λ b. lesser_of b o) n ∙ further least a o)) (g.go (lesser_of a o) (subst (λ xs. IsLeast (IsAmong P xs) (lesser_of a o)) (sym (next_drop all i x l is)) (first_or_further x (drop (i + 1) all) a o h k)));
  }

  pub step_at : (all : List A) (i : ℕ) (d : A) (least a new : Option ℕ) → i < length all → (Contains all (get_or all i d) → IsLeast (P (get_or all i d)) a) → new ≡ lesser_of least a → Goes P all (drop i all) least → Goes P all (drop (i + 1) all) new
  step_at all i d least a new l h n g = let same = read_alike all i (get_or all i d) d l in steps all i (get_or all i d) least a new l (sym same) (h (i, l, same)) n g

  pub finished : (all : List A) (i : ℕ) (least : Option ℕ) → length all ≤ i → Goes P all (drop i all) least → IsLeast (IsAmong P all) least
  finished all i least l g = subst (IsLeast (IsAmong P all)) (with_none least) (g.go None (subst (λ xs. (p : ℕ) → IsAmong P xs p → ⊥) (sym (drop_of_length-le all l)) none))
    where
      none : (p : ℕ) → IsAmong P [] p → ⊥
      none p h = none_in h.one h.present
