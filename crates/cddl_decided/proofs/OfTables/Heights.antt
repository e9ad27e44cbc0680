-- Where what is asked of names ends, and they are finitely many, each has a height: what is free in it has a lower one.
use Rattle.std.proofs.Common.{ℕ, zero, suc, ◌+◌, ◌<◌, ◌≤◌, inl, inr, List, [], ◌∷◌, arith}
use Rattle.std.proofs.lemmas.Bool.{cases_lt}
use Rattle.lists.proofs.Lemmas.{IsIn}
use Rattle.cddl_meaning.specs.Forms.{Language}
use Rattle.cddl_meaning.specs.Ranks.Ranked.{IsFree, Name}
use Rattle.cddl_meaning.proofs.OfRanks.Lemmas.{AreAll, IsFounded, founded}
use Rattle.cddl_decided.proofs.OfTables.Sure.{IsSure, at_all, either}

module _ {N G : Type 0} (l : Language N G) where
  -- no way from the name goes over so many names, each free in the one before
  abbrev pub IsLow : ℕ → Name N G → Type 0
  IsLow zero a = ⊥
  IsLow (suc k) a = (b : Name N G) → IsFree l a b → IsLow k b

  raise : (k m : ℕ) → k ≤ m → (a : Name N G) → IsLow k a → IsLow m a
  raise zero m le a h = absurd h
  raise (suc k) zero le a h = absurd (omega (arith, le))
  raise (suc k) (suc m) le a h = λ b f. raise k m (omega (arith, le)) b (h b f)

  all_raised : (a : Name N G) (k m : ℕ) → k ≤ m → (bs : List (Name N G)) → AreAll (λ b. IsFree l a b → IsLow k b) bs → AreAll (λ b. IsFree l a b → IsLow m b) bs
  all_raised a k m le [] h = tt
  all_raised a k m le (b ∷ bs) h = (λ f. raise k m le b (h.0 f), all_raised a k m le bs h.1)

  -- a height for all of these that are free in the name
  bounded : (a : Name N G) (bs : List (Name N G)) → ((b : Name N G) → IsFree l a b → IsSure ((k : ℕ) × IsLow k b)) → IsSure ((k : ℕ) × AreAll (λ b. IsFree l a b → IsLow k b) bs)
  bounded a [] h = λ n. n (0, tt)
  bounded a (b ∷ bs) h = λ n. bounded a bs h (λ r. either (IsFree l a b) (λ c. elim c [ inl f ↦ h b f (λ k. n (k.0 + r.0, (λ g. raise k.0 (k.0 + r.0) (omega arith) b k.1, all_raised a r.0 (k.0 + r.0) (omega arith) bs r.1))) | inr never ↦ n (r.0, (λ g. absurd (never g), r.1)) ]))

  module _ (Has : Name N G → Type 0) (goes_on : (a b : Name N G) → Has a → IsFree l a b → Has b) (names : List (Name N G)) (listed : (a : Name N G) → Has a → IsIn a names) where
    some_height : (a : Name N G) → IsFounded l a → Has a → IsSure ((k : ℕ) × IsLow k a)
    some_height a (founded f) h = λ n. bounded a names (λ b i. some_height b (f b i) (goes_on a b h i)) (λ r. n (suc r.0, λ b i. at_all (λ c. IsFree l a c → IsLow r.0 c) names r.1 b (listed b (goes_on a b h i)) i))

  pub record IsHeight (a : Name N G) (k : ℕ) : Type 0 where
    pub low : IsLow k a
    pub least : (j : ℕ) → IsLow j a → k ≤ j

  above : (k j : ℕ) (a : Name N G) → (IsLow k a → ⊥) → IsLow j a → suc k ≤ j
  above k j a never i = elim (cases_lt j (suc k)) [ inl lt ↦ absurd (never (raise j k (omega (arith, lt)) a i)) | inr le ↦ le ]

  lowest : (k : ℕ) (a : Name N G) → IsLow k a → IsSure ((h : ℕ) × IsHeight a h)
  lowest zero a h = absurd h
  lowest (suc k) a h = λ n. either (IsLow k a) (λ c. elim c [ inl low ↦ lowest k a low n | inr never ↦ n (suc k, record { low = h; least = λ j i. above k j a never i }) ])

  pub height : (Has : Name N G → Type 0) → ((a b : Name N G) → Has a → IsFree l a b → Has b) → (names : List (Name N G)) → ((a : Name N G) → Has a → IsIn a names) → (a : Name N G) → IsFounded l a → Has a → IsSure ((h : ℕ) × IsHeight a h)
  height Has goes_on names listed a f h = λ n. some_height Has goes_on names listed a f h (λ k. lowest k.0 a k.1 n)

  pub goes_down : (a b : Name N G) (h k : ℕ) → IsFree l a b → IsHeight a h → IsHeight b k → k < h
  goes_down a b zero k f p q = absurd p.low
  goes_down a b (suc h) k f p q = let le = q.least h (p.low b f) in omega (arith, le)
