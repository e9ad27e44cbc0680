-- What the machine does over the bytes of one turn.
use Rattle.std.proofs.Common.{◌≡◌, ℕ, zero, suc, ◌+◌, ◌-◌, ◌<◌, ◌≤◌, List, [], ◌∷◌, ◌++◌, length, take, drop, get_or, ◌⊎◌, inl, inr, Some, option_and_then, true, false, refl, sym, ap, ap₂, ◌∙◌, subst, arith, append_assoc, append-nil, length-take}
use Rattle.std.specs.Str.{IsUtf8}
use Rattle.std.proofs.lemmas.List.{take_all, take-append-le, drop-append-le, take-append-drop}
use Rattle.std.proofs.Math.Seq.{take-add}
use Rattle.read_building.proofs.Builds.{steps_in-append}
use Rattle.read_building.proofs.Forms.{form_of-give}
use Rattle.read_building.specs.Building.{State, Frame, string, chunk, chunk_string, give, string_of, Text, text_ended, ended, step_in, steps_in}
use Rattle.read_building.specs.Texts.{AreTexts}
use Rattle.read_building.specs.Builds.{IsRun, IsBadRun}
use Rattle.read_building.specs.Turns.{IsOn, IsBadOn}

-- one byte that ends no text chunk
pub on_one : (d at : ℕ) (s t : State) (bytes : List ℕ) → 0 < length bytes → step_in d at s (get_or bytes 0 0) ≡ Some t → ((T : List Text) → ended s (get_or bytes 0 0) T ≡ T) → IsOn d at s bytes 1 t
on_one d at s t [] some e quiet = absurd (omega arith)
on_one d at s t (b ∷ bytes) some e quiet = record {
  some = omega arith;
  within = omega arith;
  run = λ T h. record {
    told = T;
    is = ap (option_and_then (λ u. steps_in d (suc at) (ended s b T) u [])) e ∙ ap (λ U. Some (U, t)) (quiet T);
    utf8 = h;
  };
}

-- a part of a string
string_part : (d : ℕ) (c : List ℕ) (at from m left : ℕ) (s : List ℕ) (T : List Text) (K : List Frame) → length c ≤ left → steps_in d at T (string from m left s K) c ≡ Some (T, string from m (left - length c) (s ++ c) K)
string_part d [] at from m left s T K h = ap₂ (λ k u. Some (T, string from m k u K)) (omega arith) (sym (append-nil s))
string_part d (b ∷ c) at from m zero s T K h = absurd (omega arith)
string_part d (b ∷ c) at from m (suc left) s T K h =
    string_part d c (suc at) from m left (s ++ b ∷ []) T K (omega arith) ∙ ap₂ (λ k u. Some (T, string from m k u K)) (omega arith) (append_assoc s (b ∷ []) c)

-- the rest of a string
pub string_whole : (d : ℕ) (c : List ℕ) (at from m left : ℕ) (s : List ℕ) (T : List Text) (K : List Frame) → length c ≡ left + 1 → steps_in d at T (string from m left s K) c ≡ Some (text_ended m from (s ++ c) T, give (string_of m (s ++ c)) K)
string_whole d [] at from m left s T K h = absurd (omega arith)
string_whole d (b ∷ []) at from m zero s T K h = refl
string_whole d (b ∷ e ∷ c) at from m zero s T K h = absurd (omega arith)
string_whole d (b ∷ c) at from m (suc left) s T K h =
    string_whole d c (suc at) from m left (s ++ b ∷ []) T K (omega arith) ∙ ap (λ u. Some (text_ended m from u T, give (string_of m u) K)) (append_assoc s (b ∷ []) c)

chunk_part : (d : ℕ) (c : List ℕ) (at from m left : ℕ) (s e : List ℕ) (T : List Text) (K : List Frame) → length c ≤ left → steps_in d at T (chunk_string from m left s e K) c ≡ Some (T, chunk_string from m (left - length c) s (e ++ c) K)
chunk_part d [] at from m left s e T K h = ap₂ (λ k u. Some (T, chunk_string from m k s u K)) (omega arith) (sym (append-nil e))
chunk_part d (b ∷ c) at from m zero s e T K h = absurd (omega arith)
chunk_part d (b ∷ c) at from m (suc left) s e T K h =
    chunk_part d c (suc at) from m left s (e ++ b ∷ []) T K (omega arith) ∙ ap₂ (λ k u. Some (T, chunk_string from m k s u K)) (omega arith) (append_assoc e (b ∷ []) c)

chunk_whole : (d : ℕ) (c : List ℕ) (at from m left : ℕ) (s e : List ℕ) (T : List Text) (K : List Frame) → length c ≡ left + 1 → steps_in d at T (chunk_string from m left s e K) c ≡ Some (text_ended m from (e ++ c) T, chunk m (s ++ (e ++ c)) K)
chunk_whole d [] at from m left s e T K h = absurd (omega arith)
chunk_whole d (b ∷ []) at from m zero s e T K h = refl
chunk_whole d (b ∷ x ∷ c) at from m zero s e T K h = absurd (omega arith)
chunk_whole d (b ∷ c) at from m (suc left) s e T K h =
    chunk_whole d c (suc at) from m left s (e ++ b ∷ []) T K (omega arith) ∙ ap (λ u. Some (text_ended m from u T, chunk m (s ++ u) K)) (append_assoc e (b ∷ []) c)

-- where what ended is no text, or a text that is UTF-8, all texts stay so
pub text_ended_good : (m from : ℕ) (s : List ℕ) (T : List Text) → (m ≡ 3 → IsUtf8 s) → (m ≡ 2) ⊎ (m ≡ 3) → AreTexts T → AreTexts (text_ended m from s T)
text_ended_good m from s T good (inl e) h = subst (λ k. AreTexts (text_ended k from s T)) (sym e) h
text_ended_good m from s T good (inr e) h = subst (λ k. AreTexts (text_ended k from s T)) (sym e) (good e, h)

-- turns over strings

pub string_on : (d at from m left : ℕ) (held bytes held' : List ℕ) (K : List Frame) → 0 < length bytes → length bytes ≤ left → held' ≡ held ++ bytes → IsOn d at (string from m left held K) bytes (length bytes) (string from m (left - length bytes) held' K)
string_on d at from m left held bytes held' K some few e = record {
  some = some;
  within = omega arith;
  run = λ T h. record {
    told = T;
    is = ap (steps_in d at T (string from m left held K)) (take_all (length bytes) bytes (omega arith)) ∙ (string_part d bytes at from m left held T K few ∙ ap (λ u. Some (T, string from m (left - length bytes) u K)) (sym e));
    utf8 = h;
  };
}

pub string_ends : (d at from m left : ℕ) (held bytes content : List ℕ) (K : List Frame) (t : State) → left < length bytes → (m ≡ 2) ⊎ (m ≡ 3) → content ≡ held ++ take (left + 1) bytes → (m ≡ 3 → IsUtf8 content) → t ≡ give (string_of m content) K →
    IsOn d at (string from m left held K) bytes (left + 1) t
string_ends d at from m left held bytes content K t more kind e good f = record {
  some = omega arith;
  within = omega arith;
  run = λ T h. record {
    told = text_ended m from content T;
    is = string_whole d (take (left + 1) bytes) at from m left held T K (omega (arith, length-take (left + 1) bytes)) ∙ (ap (λ u. Some (text_ended m from u T, give (string_of m u) K)) (sym e) ∙ ap (λ u. Some (text_ended m from content T, u)) (sym f));
    utf8 = text_ended_good m from content T good kind h;
  };
}

pub string_bad : (d at from left : ℕ) (held bytes content : List ℕ) (K : List Frame) → left < length bytes → content ≡ held ++ take (left + 1) bytes → (IsUtf8 content → ⊥) → IsBadOn d at (string from 3 left held K) bytes (left + 1) from false K
string_bad d at from left held bytes content K more e bad = record {
  some = omega arith;
  within = omega arith;
  state = give (string_of 3 content) K;
  run = λ T h. record {
    told = text_ended 3 from content T;
    is = string_whole d (take (left + 1) bytes) at from 3 left held T K (omega (arith, length-take (left + 1) bytes)) ∙ ap (λ u. Some (text_ended 3 from u T, give (string_of 3 u) K)) (sym e);
    bad = inr (h, bad, refl);
  };
  form = form_of-give (string_of 3 content) K;
}

-- turns over chunks; what is held before the chunk ends after `start` bytes

pub chunk_on : (d at from m left start : ℕ) (held bytes held' : List ℕ) (K : List Frame) → 0 < length bytes → length bytes ≤ left → start ≤ length held → held' ≡ held ++ bytes →
    IsOn d at (chunk_string from m left (take start held) (drop start held) K) bytes (length bytes) (chunk_string from m (left - length bytes) (take start held') (drop start held') K)
chunk_on d at from m left start held bytes held' K some few inside e = record {
  some = some;
  within = omega arith;
  run = λ T h. record {
    told = T;
    is = ap (steps_in d at T (chunk_string from m left (take start held) (drop start held) K)) (take_all (length bytes) bytes (omega arith))
        ∙ (chunk_part d bytes at from m left (take start held) (drop start held) T K few
        ∙ ap₂ (λ a u. Some (T, chunk_string from m (left - length bytes) a u K)) (sym (take-append-le start held bytes inside) ∙ ap (take start) (sym e)) (sym (drop-append-le start held bytes inside) ∙ ap (drop start) (sym e)));
    utf8 = h;
  };
}

all_held : (start : ℕ) (held c held' : List ℕ) → held' ≡ held ++ c → take start held ++ (drop start held ++ c) ≡ held'
all_held start held c held' e = sym (append_assoc (take start held) (drop start held) c) ∙ (ap (λ u. u ++ c) (take-append-drop start held) ∙ sym e)

pub chunk_ends : (d at from m left start : ℕ) (held bytes held' : List ℕ) (K : List Frame) → left < length bytes → start ≤ length held → (m ≡ 2) ⊎ (m ≡ 3) → held' ≡ held ++ take (left + 1) bytes → (m ≡ 3 → IsUtf8 (drop start held')) →
    IsOn d at (chunk_string from m left (take start held) (drop start held) K) bytes (left + 1) (chunk m held' K)
chunk_ends d at from m left start held bytes held' K more inside kind e good =
    let c = take (left + 1) bytes in
    let rest : drop start held ++ c ≡ drop start held' = sym (drop-append-le start held c inside) ∙ ap (drop start) (sym e) in
    record {
      some = omega arith;
      within = omega arith;
      run = λ T h. record {
        told = text_ended m from (drop start held') T;
        is = chunk_whole d c at from m left (take start held) (drop start held) T K (omega (arith, length-take (left + 1) bytes))
            ∙ ap₂ (λ u a. Some (text_ended m from u T, chunk m a K)) rest (all_held start held c held' e);
        utf8 = text_ended_good m from (drop start held') T good kind h;
      };
    }

pub chunk_bad : (d at from left start : ℕ) (held bytes held' : List ℕ) (K : List Frame) → left < length bytes → start ≤ length held → held' ≡ held ++ take (left + 1) bytes → (IsUtf8 (drop start held') → ⊥) →
    IsBadOn d at (chunk_string from 3 left (take start held) (drop start held) K) bytes (left + 1) from true K
chunk_bad d at from left start held bytes held' K more inside e bad =
    let c = take (left + 1) bytes in
    let rest : drop start held ++ c ≡ drop start held' = sym (drop-append-le start held c inside) ∙ ap (drop start) (sym e) in
    record {
      some = omega arith;
      within = omega arith;
      state = chunk 3 held' K;
      run = λ T h. record {
        told = text_ended 3 from (drop start held') T;
        is = chunk_whole d c at from 3 left (take start held) (drop start held) T K (omega (arith, length-take (left + 1) bytes))
            ∙ ap₂ (λ u a. Some (text_ended 3 from u T, chunk 3 a K)) rest (all_held start held c held' e);
        bad = inr (h, bad, refl);
      };
      form = refl;
    }

-- one run after another

pub joined : (d at : ℕ) (s t u : State) (piece : List ℕ) (used count : ℕ) → used ≤ length piece → IsRun d at s (take used piece) t → IsRun d (at + used) t (take count (drop used piece)) u → IsRun d at s (take (used + count) piece) u
joined d at s t u piece used count within f g = λ T h.
    let r = f T h in
    let q = g r.told r.utf8 in
    record {
      told = q.told;
      is = ap (steps_in d at T s) (take-add used count piece)
          ∙ steps_in-append d (take used piece) (take count (drop used piece)) at T s (r.told, t) (Some (q.told, u)) r.is (ap (λ n. steps_in d n r.told t (take count (drop used piece))) (omega (arith, length-take used piece)) ∙ q.is);
      utf8 = q.utf8;
    }

pub joined_bad : (d at : ℕ) (s t u : State) (piece : List ℕ) (used count place : ℕ) → used ≤ length piece → IsRun d at s (take used piece) t → IsBadRun d (at + used) t (take count (drop used piece)) u place → IsBadRun d at s (take (used + count) piece) u place
joined_bad d at s t u piece used count place within f g = λ T h.
    let r = f T h in
    let q = g r.told r.utf8 in
    record {
      told = q.told;
      is = ap (steps_in d at T s) (take-add used count piece)
          ∙ steps_in-append d (take used piece) (take count (drop used piece)) at T s (r.told, t) (Some (q.told, u)) r.is (ap (λ n. steps_in d n r.told t (take count (drop used piece))) (omega (arith, length-take used piece)) ∙ q.is);
      bad = q.bad;
    }
