-- What a token stands for, its text alone stands for too.
use Rattle.std.proofs.Common.{◌≡◌, ℕ, List, length, Some, sym, ap, subst, ◌∙◌, ⊎_elim}
use Rattle.std.specs.Prelude.{slice_range}
use Rattle.cddl_literal.specs.Numbers.{Meaning, TextOf, BytesOf, IsNumber}
use Rattle.cddl_literal.specs.Literals.{IsText, IsBytes, view}
use Rattle.cddl_literal.specs.declared.Literal.{Literal}
use Rattle.cddl_token.specs.declared.Token.{Token}
use Rattle.cddl_token.specs.declared.Kind.{Kind}
use Rattle.cddl_token.specs.declared.Kind.TheVariants.{Number, Text, Bytes, End}
use Rattle.cddl_token.specs.Spelling.{Good, Spells}
use Rattle.cddl_token.specs.Answers.{IsReadFrom, IsReadAs, IsReadAsOf}

spelled_of : (k : Kind) (t : Token) (s : List ℕ) → t.kind ≡ k → (k ≡ End → ⊥) → IsReadFrom s t → Spells (Good k) s t.start t.end
spelled_of k t s is no_end r = ⊎_elim (λ e. absurd (no_end (sym is ∙ e))) (λ h. subst (λ n. Spells (Good n) s t.start t.end) is h) r.1

number_no_end : Number ≡ End → ⊥
number_no_end e = cc

text_no_end : Text ≡ End → ⊥
text_no_end e = cc

bytes_no_end : Bytes ≡ End → ⊥
bytes_no_end e = cc

-- a literal of one kind, with what it means as M
module _ {M : Type 0} (Is : List ℕ → ℕ → ℕ → M → Type 0) (law : (s : List ℕ) (a b : ℕ) (m : M) → Is s a b m → let part = slice_range s a b in Is part 0 (length part) m) where
  cut : (t : Token) (s text : List ℕ) (m : M) → text ≡ slice_range s t.start t.end → Is s t.start t.end m → Is text 0 (length text) m
  cut t s text m e h = subst (λ l. Is l 0 (length l) m) (sym e) (law s t.start t.end m h)

module _ (t : Token) (s : List ℕ) (r : IsReadFrom s t) (text : List ℕ) (same : text ≡ t.text.now) where
  module _ (law : (s : List ℕ) (a b : ℕ) (m : Meaning) → IsNumber s a b m → let part = slice_range s a b in IsNumber part 0 (length part) m) (is : t.kind ≡ Number) where
    pub number_text : (m : Meaning) × IsNumber text 0 (length text) m
    number_text = let h = spelled_of Number t s is number_no_end r in (h.0, cut IsNumber law t s text h.0 (same ∙ r.0) h.1)

    pub number_stands : (l : Literal) → ((m : Meaning) → IsNumber text 0 (length text) m → view l ≡ m) → IsReadAs s t (Some l)
    number_stands l found = subst (λ k. IsReadAsOf k s t.start t.end (Some l)) (sym is) (λ m h. ap Some (found m (cut IsNumber law t s text m (same ∙ r.0) h)))

  module _ (law : (s : List ℕ) (a b : ℕ) (v : List ℕ) → IsText s a b v → let part = slice_range s a b in IsText part 0 (length part) v) (is : t.kind ≡ Text) where
    pub text_text : (v : List ℕ) × IsText text 0 (length text) v
    text_text = let h = spelled_of Text t s is text_no_end r in (h.0, cut IsText law t s text h.0 (same ∙ r.0) h.1)

    pub text_stands : (l : Literal) (w : List ℕ) → view l ≡ TextOf w → ((v : List ℕ) → IsText text 0 (length text) v → w ≡ v) → IsReadAs s t (Some l)
    text_stands l w shown found = subst (λ k. IsReadAsOf k s t.start t.end (Some l)) (sym is) (λ v h. ap Some (shown ∙ ap TextOf (found v (cut IsText law t s text v (same ∙ r.0) h))))

  module _ (law : (s : List ℕ) (a b : ℕ) (v : List ℕ) → IsBytes s a b v → let part = slice_range s a b in IsBytes part 0 (length part) v) (is : t.kind ≡ Bytes) where
    pub bytes_text : (v : List ℕ) × IsBytes text 0 (length text) v
    bytes_text = let h = spelled_of Bytes t s is bytes_no_end r in (h.0, cut IsBytes law t s text h.0 (same ∙ r.0) h.1)

    pub bytes_stands : (l : Literal) (w : List ℕ) → view l ≡ BytesOf w → ((v : List ℕ) → IsBytes text 0 (length text) v → w ≡ v) → IsReadAs s t (Some l)
    bytes_stands l w shown found = subst (λ k. IsReadAsOf k s t.start t.end (Some l)) (sym is) (λ v h. ap Some (shown ∙ ap BytesOf (found v (cut IsBytes law t s text v (same ∙ r.0) h))))
