-- One byte more, and where the end is then.
use Rattle.std.proofs.Common.{ℕ, List, [], ◌∷◌, ◌++◌, ◌+◌, ◌≡◌, ◌<◌, length, take, get_or, true, false, refl, sym, ap, subst, ◌∙◌, inl, inr, arith, append_assoc, cond, Bool}
use Rattle.std.proofs.lemmas.List.{take_more}
use Rattle.std.proofs.lemmas.Bool.Decides.{nat_tests}
use Rattle.std.proofs.lemmas.List.Sums.{sum_by-append}
use Rattle.std.specs.List.{count_by}
use Rattle.text_position.specs.Positions.{IsAt, begins_character, is_line_feed}

pub at_first : IsAt [] 1 1
at_first = record { lines = []; rest = []; whole = refl; closed = inl refl; open_line = refl; line_is = refl; column_is = refl }

counted : (p : ℕ → Bool) (xs : List ℕ) (byte : ℕ) → count_by p (xs ++ byte ∷ []) ≡ count_by p xs + cond (p byte) 1 0
counted p xs byte = let h = sum_by-append (λ x. cond (p x) 1 0) xs (byte ∷ []) in let one : count_by p (byte ∷ []) ≡ cond (p byte) 1 0 = omega arith in omega (arith, h)

one_for : (b : Bool) → b ≡ true → cond {A = ℕ} b 1 0 ≡ 1
one_for b e = rw e refl

none_for : (b : Bool) → b ≡ false → cond {A = ℕ} b 1 0 ≡ 0
none_for b e = rw e refl

append_nothing : (xs : List ℕ) → xs ++ [] ≡ xs
append_nothing [] = refl
append_nothing (x ∷ xs) = ap (λ ys. x ∷ ys) (append_nothing xs)

counted_over : (p : ℕ → Bool) (xs ys : List ℕ) → count_by p (xs ++ ys) ≡ count_by p xs + count_by p ys
counted_over p xs ys = sum_by-append (λ x. cond (p x) 1 0) xs ys

-- a line feed ends the line
pub after_line_feed : (bytes : List ℕ) (line column byte : ℕ) → IsAt bytes line column → byte ≡ 10 → IsAt (bytes ++ byte ∷ []) (line + 1) 1
after_line_feed bytes line column byte at e =
    let feeds = counted is_line_feed bytes byte in
    let over = counted_over is_line_feed at.lines at.rest in
    let same : count_by is_line_feed bytes ≡ count_by is_line_feed (at.lines ++ at.rest) = ap (λ xs. count_by is_line_feed xs) at.whole in
    let none = at.open_line in
    let one = one_for (is_line_feed byte) (ap is_line_feed e) in
    let line_is = at.line_is in
    record {
      lines = bytes ++ byte ∷ [];
      rest = [];
      whole = sym (append_nothing (bytes ++ byte ∷ []));
      closed = inr (bytes, ap (λ b. bytes ++ b ∷ []) e);
      open_line = refl;
      line_is = omega arith;
      column_is = refl;
    }

-- another byte stays in the line
pub after_other : (bytes : List ℕ) (line column byte : ℕ) → IsAt bytes line column → is_line_feed byte ≡ false → IsAt (bytes ++ byte ∷ []) line (column + cond (begins_character byte) 1 0)
after_other bytes line column byte at e =
    let feeds = counted is_line_feed at.rest byte in
    let none = none_for (is_line_feed byte) e in
    let characters = counted begins_character at.rest byte in
    let open_line = at.open_line in
    let column_is = at.column_is in
    record {
      lines = at.lines;
      rest = at.rest ++ byte ∷ [];
      whole = ap (λ xs. xs ++ byte ∷ []) at.whole ∙ append_assoc at.lines at.rest (byte ∷ []);
      closed = at.closed;
      open_line = omega arith;
      line_is = at.line_is;
      column_is = omega arith;
    }

pub more_feed : (text : List ℕ) (i line column : ℕ) → i < length text → IsAt (take i text) line column → get_or text i 0 ≡ 10 → IsAt (take (i + 1) text) (line + 1) 1
more_feed text i line column h at e = subst (λ xs. IsAt xs (line + 1) 1) (sym (take_more text i 0 h)) (after_line_feed (take i text) line column (get_or text i 0) at e)

pub more_begins : (text : List ℕ) (i line column : ℕ) → i < length text → IsAt (take i text) line column → is_line_feed (get_or text i 0) ≡ false → begins_character (get_or text i 0) ≡ true → IsAt (take (i + 1) text) line (column + 1)
more_begins text i line column h at e b =
    subst (λ xs. IsAt xs line (column + 1)) (sym (take_more text i 0 h))
    (subst (λ t. IsAt (take i text ++ get_or text i 0 ∷ []) line (column + cond t 1 0)) b (after_other (take i text) line column (get_or text i 0) at e))

pub more_within : (text : List ℕ) (i line column : ℕ) → i < length text → IsAt (take i text) line column → is_line_feed (get_or text i 0) ≡ false → begins_character (get_or text i 0) ≡ false → IsAt (take (i + 1) text) line column
more_within text i line column h at e b =
    let same : column + cond false 1 0 ≡ column = omega arith in
    subst (λ xs. IsAt xs line column) (sym (take_more text i 0 h))
    (subst (λ c. IsAt (take i text ++ get_or text i 0 ∷ []) line c) same
    (subst (λ t. IsAt (take i text ++ get_or text i 0 ∷ []) line (column + cond t 1 0)) b (after_other (take i text) line column (get_or text i 0) at e)))

pub no_feed : (byte : ℕ) → (byte ≡ 10 → ⊥) → is_line_feed byte ≡ false
no_feed byte h = grind (arith, nat_tests)
