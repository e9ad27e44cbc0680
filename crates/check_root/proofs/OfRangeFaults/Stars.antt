-- The numbers of an occurrence's token are below 2^64.
use Rattle.std.proofs.Common.{◌≡◌, ◌≢◌, ℕ, ◌+◌, ◌-◌, ◌^◌, ◌<◌, ◌≤◌, ◌⊎◌, inl, inr, List, [], ◌∷◌, length, slice_index, sym, subst, ◌∙◌, arith}
use Rattle.std.specs.Prelude.{slice_range}
use Rattle.std.proofs.lemmas.List.{get_or_past}
use Rattle.std.proofs.lemmas.Bool.{cases_lt}
use Rattle.cddl_literal.specs.Numbers.{IsUint}
use Rattle.cddl_meaning.specs.Forms.{any_number_of, at_most}
use Rattle.cddl_token.specs.declared.Kind.TheVariants as K
use Rattle.cddl_token.specs.declared.Token.{Token}
use Rattle.cddl_token.specs.Answers.{IsAnswered}
use Rattle.cddl_token.specs.Numbers.{IsBound, IsStar}
use Rattle.cddl_token.specs.Spelling.{Good, Spells}
use Rattle.cddl_language.specs.Numbers.{least_in, most_in}
use Rattle.cddl_language.specs.Reading.{text_of}
use Rattle.check_terms.specs.Texts.Occurrence.{IsGreat, IsTooGreat}
use Rattle.check_root.proofs.OfRangeFaults.Cutting.{byte_cut, one_byte, part_of, uint_cut}

-- the laws of numbers in texts
pub record Numbers : Type 0 where
  pub inside : (s : List ℕ) (a b n : ℕ) → IsUint s a b n → (a < b) × (b ≤ length s)
  pub least : (s : List ℕ) (low high : ℕ) → IsStar s 0 (length s) low high → least_in s ≡ low
  pub most : (s : List ℕ) (low high : ℕ) (h : IsStar s 0 (length s) low high) → h.star + 1 ≢ length s → most_in s ≡ at_most high
  pub no_most : (s : List ℕ) (low high : ℕ) (h : IsStar s 0 (length s) low high) → h.star + 1 ≡ length s → most_in s ≡ any_number_of

within : (s : List ℕ) (k c : ℕ) → 0 < c → slice_index s k ≡ c → k < length s
within s k c some e = elim (cases_lt k (length s)) [ inl h ↦ h | inr past ↦ absurd (let z = get_or_past s k 0 past in omega arith) ]

module _ (laws : Numbers) where
  front_inside : (s : List ℕ) (a star n : ℕ) → IsBound s a star n → a ≤ star
  front_inside s a star n (inl (e, f)) = omega arith
  front_inside s a star n (inr h) = let l = (laws.inside s a star n h).0 in omega arith

  back_inside : (s : List ℕ) (star b n : ℕ) → star < length s → IsBound s (star + 1) b n → (star < b) × (b ≤ length s)
  back_inside s star b n l (inl (e, f)) = (omega arith, omega arith)
  back_inside s star b n l (inr h) = let i = laws.inside s (star + 1) b n h in let low = i.0 in (omega arith, i.1)

  module _ (s : List ℕ) (a b low high : ℕ) (h : IsStar s a b low high) where
    sign_within : h.star < length s
    sign_within = within s h.star 42 (omega arith) h.sign

    after_front : a ≤ h.star
    after_front = front_inside s a h.star low h.before

    before_end : (h.star < b) × (b ≤ length s)
    before_end = back_inside s h.star b high sign_within h.after

    star_cut : IsStar (slice_range s a b) 0 (length (slice_range s a b)) low high
    star_cut =
        let first = after_front in
        let last = before_end.0 in
        let part = part_of s a b (omega arith) before_end.1 in
        let size = part.whole in
        let place : h.star ≡ a + (h.star - a) = omega arith in
        record {
          star = h.star - a;
          before = in_front first last h.before;
          sign = byte_cut s (slice_range s a b) a (b - a) part (h.star - a) h.star 42 place (omega arith) h.sign;
          after = in_back first last h.after;
        }
      where
        in_front : a ≤ h.star → h.star < b → IsBound s a h.star low → IsBound (slice_range s a b) 0 (h.star - a) low
        in_front first last (inl (e, f)) = inl (omega arith, f)
        in_front first last (inr u) = inr (uint_cut s (slice_range s a b) a (b - a) (part_of s a b (omega arith) before_end.1) 0 (h.star - a) a h.star low (omega arith) (omega arith) (omega arith) u)

        in_back : a ≤ h.star → h.star < b → IsBound s (h.star + 1) b high → IsBound (slice_range s a b) (h.star - a + 1) (length (slice_range s a b)) high
        in_back first last (inl (e, f)) = let size = (part_of s a b (omega arith) before_end.1).whole in inl (omega arith, f)
        in_back first last (inr u) = let part = part_of s a b (omega arith) before_end.1 in let size = part.whole in inr (uint_cut s (slice_range s a b) a (b - a) part (h.star - a + 1) (length (slice_range s a b)) (h.star + 1) b high (omega arith) (omega arith) (omega arith) u)

  small_most : (t : List ℕ) (low high : ℕ) → IsStar t 0 (length t) low high → high < 2 ^ 64 → IsGreat (most_in t) → ⊥
  small_most t low high h less great = by (cases_lt (h.star + 1) (length t)) (cases_lt (length t) (h.star + 1))
    where
      at_some : h.star + 1 ≢ length t → ⊥
      at_some more = let g : 2 ^ 64 ≤ high = subst IsGreat (laws.most t low high h more) great in omega (arith, g, less)

      by : (h.star + 1 < length t) ⊎ (length t ≤ h.star + 1) → (length t < h.star + 1) ⊎ (h.star + 1 ≤ length t) → ⊥
      by (inl l) o = at_some (λ e. omega (arith, l, e))
      by (inr l) (inl m) = at_some (λ e. omega (arith, m, e))
      by (inr l) (inr m) = subst IsGreat (laws.no_most t low high h (omega (arith, l, m))) great

  small_star : (t : List ℕ) (low high : ℕ) → IsStar t 0 (length t) low high → low < 2 ^ 64 → high < 2 ^ 64 → IsTooGreat t → ⊥
  small_star t low high h less more (inl g) = let e = laws.least t low high h in omega (arith, g, e, less)
  small_star t low high h less more (inr g) = small_most t low high h more g

  small_plus : IsTooGreat (43 ∷ []) → ⊥
  small_plus (inl g) = omega (arith, g)
  small_plus (inr g) = g

  small_question : IsTooGreat (63 ∷ []) → ⊥
  small_question (inl g) = omega (arith, g)
  small_question (inr g) = omega (arith, g)

  small_spelled : (s : List ℕ) (a b : ℕ) → Spells (Good K.Occur) s a b → IsTooGreat (slice_range s a b) → ⊥
  small_spelled s a b (inl (inl (e, c))) g = small_plus (subst IsTooGreat (one_byte s a b 43 (within s a 43 (omega arith) c) e c) g)
  small_spelled s a b (inl (inr (e, c))) g = small_question (subst IsTooGreat (one_byte s a b 63 (within s a 63 (omega arith) c) e c) g)
  small_spelled s a b (inr (low, high, h, less, more)) g = small_star (slice_range s a b) low high (star_cut s a b low high h) less more g

  pub small_token : (t : Token) → t.kind ≡ K.Occur → IsAnswered t → IsTooGreat (text_of t) → ⊥
  small_token t e a g = by (a.1).1
    where
      by : (t.kind ≡ K.End) ⊎ Spells (Good t.kind) a.0 t.start t.end → ⊥
      by (inl k) = absurd (other (sym e ∙ k))
        where
          other : K.Occur ≡ K.End → ⊥
          other h = cc
      by (inr h) = small_spelled a.0 t.start t.end (subst (λ k. Spells (Good k) a.0 t.start t.end) e h) (subst IsTooGreat (a.1).0 g)
