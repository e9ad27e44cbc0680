-- The two ways to say what an id is.
use Rattle.std.proofs.Common.{◌≡◌, ℕ, zero, suc, ◌+◌, ◌-◌, ◌<◌, ◌≤◌, true, false, List, slice_index, sym, ap, ◌∙◌, ⊎_elim, arith}
use Rattle.std.proofs.lemmas.Bool.{false≢true, cases_lt, cases_Bool, or_left, or_right, or_cases}
use Rattle.std.proofs.lemmas.Bool.Decides.{nat_tests}
use Rattle.cddl_literal.specs.Bytes.{Each}
use Rattle.cddl_token.specs.Bytes.{is_ealpha, is_mark, is_id_byte, is_id_end}
use Rattle.cddl_token.specs.Spelling.{IsId, IdRest, no_more, once_more, IsGrammarId}
use Rattle.cddl_token.proofs.EachFacts.{each_more}

end_no_mark : (b : ℕ) → is_id_end b ≡ true → is_mark b ≡ false
end_no_mark b h = grind (arith, nat_tests)

rest_le : {s : List ℕ} {i j : ℕ} → IdRest s i j → i ≤ j
rest_le (no_more e) = omega arith
rest_le (once_more le marks here r) = let h = rest_le r in omega arith

rest_holds : {s : List ℕ} {i j : ℕ} → IdRest s i j → Each is_id_byte s i j
rest_holds (no_more e) = λ k low high. absurd (omega arith)
rest_holds {s} (once_more {k = m} le marks here r) = λ k low high.
    ⊎_elim
    (λ lt. or_right _ _ (marks k low lt))
    (λ ge. ⊎_elim (λ gt. rest_holds r k (omega arith) high) (λ same. let e : m ≡ k = omega arith in or_left _ _ (ap (λ n. is_id_end (slice_index s n)) (sym e) ∙ here)) (cases_lt m k))
    (cases_lt k m)

rest_ends : {s : List ℕ} {i j : ℕ} → IdRest s i j → i < j → is_mark (slice_index s (j - 1)) ≡ false
rest_ends (no_more e) some = absurd (omega arith)
rest_ends {s} {j = j} (once_more {k = m} le marks here r) some =
    let past = rest_le r in
    ⊎_elim (λ lt. rest_ends r lt) (λ ge. let e : m ≡ j - 1 = omega arith in ap (λ n. is_mark (slice_index s n)) (sym e) ∙ end_no_mark (slice_index s m) here) (cases_lt (m + 1) j)

-- from k on n bytes are left, and from i on marks have passed
built : (n : ℕ) (s : List ℕ) (i k j : ℕ) → i ≤ k → k + n ≡ j → Each is_mark s i k → Each is_id_byte s k j → (i < j → is_mark (slice_index s (j - 1)) ≡ false) → IdRest s i j
built zero s i k j le sum marks holds ends = ⊎_elim (λ lt. absurd (false≢true (sym (ends lt) ∙ marks (j - 1) (omega arith) (omega arith)))) (λ ge. no_more (omega arith)) (cases_lt i j)
built (suc n) s i k j le sum marks holds ends =
    ⊎_elim
    (λ mark. built n s i (k + 1) j (omega arith) (omega arith) (each_more is_mark s i k marks mark) (λ m low high. holds m (omega arith) high) ends)
    (λ other.
    let here : is_id_end (slice_index s k) ≡ true = ⊎_elim (λ e. e) (λ mark. absurd (false≢true (sym other ∙ mark))) (or_cases _ _ (holds k (omega arith) (omega arith))) in
    once_more le marks here (built n s (k + 1) (k + 1) j (omega arith) (omega arith) (λ m low high. absurd (omega arith)) (λ m low high. holds m (omega arith) high) (λ lt. ends (omega arith))))
    (cases_Bool (is_mark (slice_index s k)))

letter_byte : (b : ℕ) → is_ealpha b ≡ true → (is_id_byte b ≡ true) × (is_mark b ≡ false)
letter_byte b h = grind (arith, nat_tests)

pub to_grammar : (s : List ℕ) (a b : ℕ) → IsId s a b → IsGrammarId s a b
to_grammar s a b id =
    let some = id.nonempty in
    (id.begins, built (b - (a + 1)) s (a + 1) (a + 1) b (omega arith) (omega arith) (λ m low high. absurd (omega arith)) (λ m low high. id.holds m (omega arith) high) (λ lt. id.ends))

pub from_grammar : (s : List ℕ) (a b : ℕ) → IsGrammarId s a b → IsId s a b
from_grammar s a b id =
    let le = rest_le id.1 in
    record {
      nonempty = omega arith;
      begins = id.0;
      holds = λ k low high. ⊎_elim (λ lt. rest_holds id.1 k (omega arith) high) (λ ge. let e : a ≡ k = omega arith in ap (λ n. is_id_byte (slice_index s n)) (sym e) ∙ (letter_byte (slice_index s a) id.0).0) (cases_lt a k);
      ends = ⊎_elim (λ lt. rest_ends id.1 lt) (λ ge. let e : a ≡ b - 1 = omega arith in ap (λ n. is_mark (slice_index s n)) (sym e) ∙ (letter_byte (slice_index s a) id.0).1) (cases_lt (a + 1) b);
    }
