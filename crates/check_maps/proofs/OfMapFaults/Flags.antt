-- Flags of parts.
use Rattle.std.proofs.Common.{◌≡◌, ◌↔◌, ◌⊎◌, inl, inr, ◌<◌, ℕ, Bool, true, false, ◌||◌, List, [], ◌∷◌, ◌++◌, length, Some, refl, sym, ap, subst, ◌∙◌, slice_get}
use Rattle.lists.proofs.Lemmas.{after_push, there, within}
use Rattle.alternatives.specs.declared.Part.{Part}
use Rattle.alternatives.specs.declared.summary.Summary.{Summary}
use Rattle.alternatives.specs.Splices.{Alternatives, HasAlternatives, stands}
use Rattle.alternatives.specs.Summaries.{AreTooMany, Describes, HasSummary}
use Rattle.check_maps.specs.MapFaults.Large.{AreFlags, IsLarge}
use Rattle.check_maps.proofs.OfMapFaults.Lists.{from_set, to_set}
use Rattle.check_maps.specs.MapFaults.Rules.{is_set}

pub has_part : (parts : List Part) (n : ℕ) (mss : Alternatives) → HasAlternatives parts n mss → n < length parts
has_part parts n mss (stands {p = p} e s) = within parts n p e

pub large_within : (parts : List Part) (n : ℕ) → IsLarge parts n → n < length parts
large_within parts n h = has_part parts n h.alternatives h.stands_for

-- by a summary of the part
pub is_large_by : (parts : List Part) (n : ℕ) (s : Summary) (b : Bool) → ((mss nss : Alternatives) → HasAlternatives parts n mss → HasAlternatives parts n nss → mss ≡ nss) → ((mss : Alternatives) → Describes mss s → (b ≡ true) ↔ AreTooMany mss) → HasSummary parts n s → (b ≡ true) ↔ IsLarge parts n
is_large_by parts n s b one large h = (
  (λ e. record { alternatives = h.alternatives; stands_for = h.stands_for; too_many = (large h.alternatives h.described).0 e }),
  (λ (k : IsLarge parts n). (large h.alternatives h.described).1 (subst AreTooMany (one k.alternatives h.alternatives k.stands_for h.stands_for) k.too_many)),
)

pub are_flags : (P : ℕ → Type 0) (parts : List Part) (flags : List Bool) → length flags ≡ length parts → ((n : ℕ) → P n → n < length parts) → ((n : ℕ) (b : Bool) → slice_get flags n ≡ Some b → (b ≡ true) ↔ P n) → AreFlags P parts flags
are_flags P parts flags all inside told = record {
  all = all;
  each = λ n. (
    (λ e. (told n true e).0 refl),
    (λ h. let f = there flags n (subst (λ k. n < k) (sym all) (inside n h)) in f.1 ∙ ap Some ((told n f.0 f.1).1 h)),
  );
}

-- what holds at each place of a list that grew by one
pub one_more : {A : Type 0} (P : ℕ → A → Type 0) (xs : List A) (v : A) → ((n : ℕ) (x : A) → slice_get xs n ≡ Some x → P n x) → P (length xs) v → (n : ℕ) (x : A) → slice_get (xs ++ v ∷ []) n ≡ Some x → P n x
one_more P xs v f h n x e = by (after_push xs v n x e)
  where
    by : ((length xs ≡ n) × (v ≡ x)) ⊎ (slice_get xs n ≡ Some x) → P n x
    by (inl i) = subst (λ m. P m x) i.0 (subst (P (length xs)) i.1 h)
    by (inr i) = f n x i

pub either_set : (P Q : ℕ → Type 0) (parts : List Part) (first second : List Bool) → AreFlags P parts first → AreFlags Q parts second → (n : ℕ) (b c : Bool) → b ≡ is_set first n → c ≡ is_set second n → ((b || c) ≡ true) ↔ (P n ⊎ Q n)
either_set P Q parts first second f g n b c i j = ((λ e. to b c i j e), from)
  where
    to : (x y : Bool) → x ≡ is_set first n → y ≡ is_set second n → (x || y) ≡ true → P n ⊎ Q n
    to true y k l e = inl ((f.each n).0 (from_set first n (sym k)))
    to false y k l e = inr ((g.each n).0 (from_set second n (sym l ∙ e)))

    or_true : (x : Bool) → (x || true) ≡ true
    or_true true = refl
    or_true false = refl

    from : P n ⊎ Q n → (b || c) ≡ true
    from (inl h) = ap (λ x. x || c) (i ∙ to_set first n ((f.each n).1 h))
    from (inr h) = ap (λ y. b || y) (j ∙ to_set second n ((g.each n).1 h)) ∙ or_true b
