-- The written values of a specification have one right table.
use Rattle.std.specs.Prelude.{◌≡◌, ◌≢◌, ℕ, zero, suc, ◌⊎◌, length, List, [], ◌∷◌, slice_range, Contains, Option, Some, None, Bool, true, false, if◌then◌else◌}
use Rattle.std.specs.Cmp.Lexicographic.{same_text, other_text}
use Rattle.std.proofs.Common.{refl, sym, ap, ◌∙◌, subst, arith, inl, inr}
use Rattle.cddl_literal.specs.Numbers.{Meaning, UintOf, TextOf, BytesOf, IsNumber}
use Rattle.cddl_literal.specs.Literals.{IsText, IsBytes}
use Rattle.cddl_token.specs.Answers.{IsAnswered}
use Rattle.cddl_token.specs.Spelling.{Good, Spells}
use Rattle.cddl_token.specs.declared.Kind.{Kind}
use Rattle.cddl_token.specs.declared.Kind.TheVariants as K
use Rattle.cddl_token.specs.declared.Token.{Token}
use Rattle.tree_nodes.specs.Syntax.Syntax as S
use Rattle.std.proofs.lemmas.Bool.{false≢true}
use Rattle.lists.proofs.Lemmas.{no_some as none_is_some, same_some}
use Rattle.cddl_language.proofs.Basics.{none_in}
use Rattle.cddl_language.specs.Terms.{Literal, number, text, bytes}
use Rattle.cddl_language.specs.Environment.{is_same}
use Rattle.cddl_language.specs.Literals.{Means, Values, written, Holds, AreTokens, AreRight}

-- what `cddl_literal` says of spellings
pub record Laws : Type 0 where
  pub number_cut : (s : List ℕ) (a b : ℕ) (m : Meaning) → IsNumber s a b m → IsNumber (slice_range s a b) 0 (length (slice_range s a b)) m
  pub text_cut : (s : List ℕ) (a b : ℕ) (v : List ℕ) → IsText s a b v → IsText (slice_range s a b) 0 (length (slice_range s a b)) v
  pub bytes_cut : (s : List ℕ) (a b : ℕ) (v : List ℕ) → IsBytes s a b v → IsBytes (slice_range s a b) 0 (length (slice_range s a b)) v
  pub one_number : (s : List ℕ) (a b : ℕ) (m n : Meaning) → IsNumber s a b m → IsNumber s a b n → n ≡ m
  pub one_text : (s : List ℕ) (a b c : ℕ) (v w : List ℕ) → IsText s a b v → IsText s a c w → (c ≡ b) × (w ≡ v)
  pub one_string : (s : List ℕ) (a b c : ℕ) (v w : List ℕ) → IsBytes s a b v → IsBytes s a c w → (c ≡ b) × (w ≡ v)

-- Each written value of a token stands for something.

abbrev IsEnd : Kind → Type 0
IsEnd K.End = Unit {0}
IsEnd _ = ⊥

spelled : (t : Token) (k : Kind) (s : List ℕ) → t.kind ≡ k → (IsEnd k → ⊥) → (t.kind ≡ K.End) ⊎ Spells (Good t.kind) s t.start t.end → Spells (Good k) s t.start t.end
spelled t k s e other (inl h) = absurd (other (subst IsEnd (sym h ∙ e) tt))
spelled t k s e other (inr h) = subst (λ k. Spells (Good k) s t.start t.end) e h

module _ (laws : Laws) where
  number_alone : (t : Token) (s : List ℕ) → t.text.now ≡ slice_range s t.start t.end → Spells (Good K.Number) s t.start t.end → (m : Meaning) × Means (number t.text.now) m
  number_alone t s cut h = (h.0, subst (λ x. IsNumber x 0 (length x) h.0) (sym cut) (laws.number_cut s t.start t.end h.0 h.1))

  text_alone : (t : Token) (s : List ℕ) → t.text.now ≡ slice_range s t.start t.end → Spells (Good K.Text) s t.start t.end → (m : Meaning) × Means (text t.text.now) m
  text_alone t s cut h = (TextOf h.0, (h.0, subst (λ x. IsText x 0 (length x) h.0) (sym cut) (laws.text_cut s t.start t.end h.0 h.1), refl))

  bytes_alone : (t : Token) (s : List ℕ) → t.text.now ≡ slice_range s t.start t.end → Spells (Good K.Bytes) s t.start t.end → (m : Meaning) × Means (bytes t.text.now) m
  bytes_alone t s cut h = (BytesOf h.0, (h.0, subst (λ x. IsBytes x 0 (length x) h.0) (sym cut) (laws.bytes_cut s t.start t.end h.0 h.1), refl))

  meant : (k : Kind) (t : Token) → t.kind ≡ k → IsAnswered t → (v : Literal) → written k t ≡ Some v → (m : Meaning) × Means v m
  meant K.Number t e a v w = subst (λ u. (m : Meaning) × Means u m) (same_some w) (number_alone t a.0 (a.1).0 (spelled t K.Number a.0 e (λ h. h) (a.1).1))
  meant K.Text t e a v w = subst (λ u. (m : Meaning) × Means u m) (same_some w) (text_alone t a.0 (a.1).0 (spelled t K.Text a.0 e (λ h. h) (a.1).1))
  meant K.Bytes t e a v w = subst (λ u. (m : Meaning) × Means u m) (same_some w) (bytes_alone t a.0 (a.1).0 (spelled t K.Bytes a.0 e (λ h. h) (a.1).1))
  meant _ t e a v w = absurd (none_is_some w)

-- A table, from the values of a list of tokens.

abbrev same : Literal → Literal → Bool
same (number a) (number b) = is_same a b
same (text a) (text b) = is_same a b
same (bytes a) (bytes b) = is_same a b
same _ _ = false

told_same : (u v : Literal) → true ≡ same u v → u ≡ v
told_same (number a) (number b) h = ap number (same_text a b h)
told_same (text a) (text b) h = ap text (same_text a b h)
told_same (bytes a) (bytes b) h = ap bytes (same_text a b h)
told_same (number a) (text b) h = absurd (false≢true (sym h))
told_same (number a) (bytes b) h = absurd (false≢true (sym h))
told_same (text a) (number b) h = absurd (false≢true (sym h))
told_same (text a) (bytes b) h = absurd (false≢true (sym h))
told_same (bytes a) (number b) h = absurd (false≢true (sym h))
told_same (bytes a) (text b) h = absurd (false≢true (sym h))

same_as_itself : (u : Literal) → false ≡ same u u → ⊥
same_as_itself (number a) h = other_text a a h refl
same_as_itself (text a) h = other_text a a h refl
same_as_itself (bytes a) h = other_text a a h refl

told_other : (u v : Literal) → false ≡ same u v → u ≢ v
told_other u v h e = same_as_itself u (subst (λ z. false ≡ same u z) (sym e) h)

abbrev HeldIn : List S.Lexeme → Literal → Type 0
HeldIn ls v = (l : S.Lexeme) × Contains ls l × (written l.0 l.1 ≡ Some v)

abbrev RightFor : List S.Lexeme → Values → Type 0
RightFor ls worth = (v : Literal) → HeldIn ls v → Means v (worth v)

deeper : (l : S.Lexeme) (ls : List S.Lexeme) (v : Literal) → HeldIn ls v → HeldIn (l ∷ ls) v
deeper l ls v (k, (i, h, e), w) = (k, (suc i, omega arith, e), w)

-- found in the rest, where not by the first
held_later : (l : S.Lexeme) (ls : List S.Lexeme) (v : Literal) → (written l.0 l.1 ≡ Some v → ⊥) → HeldIn (l ∷ ls) v → HeldIn ls v
held_later l ls v other (k, (zero, h, e), w) = absurd (other (ap (λ z. written z.0 z.1) e ∙ w))
held_later l ls v other (k, (suc i, h, e), w) = (k, (i, omega arith, e), w)

module _ (l : S.Lexeme) (ls : List S.Lexeme) (rest : (worth : Values) × RightFor ls worth) where
  passed_over : written l.0 l.1 ≡ None → (worth : Values) × RightFor (l ∷ ls) worth
  passed_over e = (rest.0, λ v k. rest.1 v (held_later l ls v (λ w. none_is_some (sym e ∙ w)) k))

  added : (u : Literal) → written l.0 l.1 ≡ Some u → (m : Meaning) × Means u m → (worth : Values) × RightFor (l ∷ ls) worth
  added u e m = (λ v. if same u v then m.0 else rest.0 v, λ v k. go v k (same u v) refl)
    where
      go : (v : Literal) → HeldIn (l ∷ ls) v → (b : Bool) → b ≡ same u v → Means v (if b then m.0 else rest.0 v)
      go v k true h = subst (λ z. Means z m.0) (told_same u v h) m.1
      go v k false h = rest.1 v (held_later l ls v (λ w. told_other u v h (same_some (sym e ∙ w))) k)

  with_first : ((v : Literal) → HeldIn (l ∷ ls) v → (m : Meaning) × Means v m) → (o : Option Literal) → written l.0 l.1 ≡ o → (worth : Values) × RightFor (l ∷ ls) worth
  with_first each None e = passed_over e
  with_first each (Some u) e = added u e (each u (l, (0, omega arith, refl), e))

table : (ls : List S.Lexeme) → ((v : Literal) → HeldIn ls v → (m : Meaning) × Means v m) → (worth : Values) × RightFor ls worth
table [] each = (λ v. UintOf 0, λ v k. absurd (none_in k.1))
table (l ∷ ls) each = with_first l ls (table ls (λ v k. each v (deeper l ls v k))) each (written l.0 l.1) refl

pub some_table : Laws → (x : S.Cddl) → AreTokens x → (worth : Values) × AreRight x worth
some_table laws x tokens = table (S.flat x) (λ v k. meant laws (k.0).0 (k.0).1 (tokens k.0 k.1).0 (tokens k.0 k.1).1 v k.2)

one_meaning : Laws → (v : Literal) (m n : Meaning) → Means v m → Means v n → m ≡ n
one_meaning laws (number t) m n h k = laws.one_number t 0 (length t) n m k h
one_meaning laws (text t) m n (v, h, e) (w, k, f) = e ∙ ap TextOf (laws.one_text t 0 (length t) (length t) w v k h).1 ∙ sym f
one_meaning laws (bytes t) m n (v, h, e) (w, k, f) = e ∙ ap BytesOf (laws.one_string t 0 (length t) (length t) w v k h).1 ∙ sym f

pub same_values : Laws → (x : S.Cddl) (u w : Values) → AreRight x u → AreRight x w → (v : Literal) → Holds x v → u v ≡ w v
same_values laws x u w first second v h = one_meaning laws v (u v) (w v) (first v h) (second v h)
