-- Which kind of byte string a first byte shows.
use Rattle.std.proofs.Common.{◌≡◌, ◌≢◌, ℕ, inl, inr, true, false, List, Some, Result, slice_index, length, subst, sym, ◌∙◌, arith}
use Rattle.std.proofs.lemmas.Bool.{false≢true}
use Rattle.std.proofs.lemmas.Bool.Decides.{nat_tests}
use Rattle.std.specs.Prelude.{IfOk}
use Rattle.cddl_literal.specs.Bytes.{is_h, is_b}
use Rattle.cddl_literal.specs.Prefixed.{IsPrefixed, coded_bytes}
use Rattle.cddl_literal.specs.Literals.{IsBytes}
use Rattle.cddl_literal.specs.declared.Coding.TheVariants.{Hex, Base64}

h_not_b : (b : ℕ) → is_h b ≡ true → is_b b ≡ true → ⊥
h_not_b b h k = grind (arith, nat_tests)

h_no_quote : (b : ℕ) → is_h b ≡ true → b ≢ 39
h_no_quote b h = grind (arith, nat_tests)

b_no_quote : (b : ℕ) → is_b b ≡ true → b ≢ 39
b_no_quote b h = grind (arith, nat_tests)

pub hex_only : (s : List ℕ) (b : ℕ) (v : List ℕ) → is_h (slice_index s 0) ≡ true → IsBytes s 0 b v → (d : List ℕ) × IsPrefixed Hex s 0 b d × (coded_bytes Hex d ≡ Some v)
hex_only s b v first (inl q) = absurd (h_no_quote (slice_index s 0) first q.opens)
hex_only s b v first (inr (Hex, d, p, e)) = (d, p, e)
hex_only s b v first (inr (Base64, d, p, e)) = absurd (h_not_b (slice_index s 0) first p.opens.0)

pub base64_only : (s : List ℕ) (b : ℕ) (v : List ℕ) → slice_index s 0 ≢ 39 → is_h (slice_index s 0) ≡ false → IsBytes s 0 b v → (d : List ℕ) × IsPrefixed Base64 s 0 b d × (coded_bytes Base64 d ≡ Some v)
base64_only s b v quote other (inl q) = absurd (quote q.opens)
base64_only s b v quote other (inr (Hex, d, p, e)) = absurd (false≢true (sym other ∙ p.opens.0))
base64_only s b v quote other (inr (Base64, d, p, e)) = (d, p, e)

-- what is so of each reading with the prefix that is there is so of each; s is t
pub hex_answer : {V E : Type 0} (items : V → List ℕ) (s t : List ℕ) (r : Result V E) → s ≡ t → is_h (slice_index s 0) ≡ true → ((d v : List ℕ) → IsPrefixed Hex s 0 (length s) d → coded_bytes Hex d ≡ Some v → IfOk r (λ b. items b ≡ v)) → (v : List ℕ) → IsBytes t 0 (length t) v → IfOk r (λ b. items b ≡ v)
hex_answer items s t r same first h v k = let p = hex_only s (length s) v first (subst (λ l. IsBytes l 0 (length l) v) (sym same) k) in h p.0 v p.1 p.2

pub base64_answer : {V E : Type 0} (items : V → List ℕ) (s t : List ℕ) (r : Result V E) → s ≡ t → slice_index s 0 ≢ 39 → is_h (slice_index s 0) ≡ false → ((d v : List ℕ) → IsPrefixed Base64 s 0 (length s) d → coded_bytes Base64 d ≡ Some v → IfOk r (λ b. items b ≡ v)) → (v : List ℕ) → IsBytes t 0 (length t) v → IfOk r (λ b. items b ≡ v)
base64_answer items s t r same quote other h v k = let p = base64_only s (length s) v quote other (subst (λ l. IsBytes l 0 (length l) v) (sym same) k) in h p.0 v p.1 p.2
