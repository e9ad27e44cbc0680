-- It can be told what any bytes hold: numbers that are no bytes hold nothing.
use Rattle.std.proofs.Common.{ℕ, zero, suc, ◌/◌, ◌<◌, ◌≤◌, ◌^◌, ◌⊎◌, inl, inr, List, [], ◌∷◌, ◌++◌, length, sym, subst, arith}
use Rattle.std.proofs.lemmas.Bool.{cases_lt}
use Rattle.std.proofs.Math.Nat.{mod-lt}
use Rattle.std.specs.Int.{byte_at, bytes_high_first}
use Rattle.cbor_data.specs.declared.Width.{Width}
use Rattle.cbor_data.specs.declared.Width.TheVariants.{W16, W32, W64}
use Rattle.cbor_data.specs.Value.{Value, array, AreBytes}
use Rattle.cbor_data.specs.Preferred.{float_bytes}
use Rattle.cbor_data.specs.Forms.{ArgumentSize, inside, one, two, four, eight, FitsSize, Chunk, chunks_bytes, head_in, Form, uint_form, nint_form, bytes_form, bytes_chunks, text_form, text_chunks, array_form, array_to_break, pairs_form, pairs_to_break, tag_form, simple_inside, simple_next, float_form, Forms, no_forms, form, PairForms, no_pair_forms, pair_form, forms_len, pair_forms_len, to_break, flat, forms_flat, pair_forms_flat, AreChunksOk, IsOk, AreFormsOk, ArePairFormsOk, Spells}
use Rattle.cbor_data.specs.Embedded.{EmbedsAll, none, one_more}
use Rattle.cbor_data.proofs.OfMachine.Lemmas.{bytes-append, held_told, item_told}
use Rattle.cddl_meaning.specs.Forms.{Content, one_item, sequence_of_items}
use Rattle.cddl_meaning.specs.Held.{Holds, item, items}

byte_small : (k n : ℕ) → byte_at k n < 256
byte_small zero n = mod-lt n (omega arith)
byte_small (suc k) n = mod-lt (n / 256 ^ suc k) (omega arith)

high_bytes : (k n : ℕ) → AreBytes (bytes_high_first k n)
high_bytes zero n = tt
high_bytes (suc k) n = (byte_small k n, high_bytes k n)

head_bytes : (p : ArgumentSize) (m n : ℕ) → m < 8 → FitsSize p n → AreBytes (head_in p m n)
head_bytes inside m n h f = (omega (arith, h, f), tt)
head_bytes one m n h f = (omega (arith, h), high_bytes 1 n)
head_bytes two m n h f = (omega (arith, h), high_bytes 2 n)
head_bytes four m n h f = (omega (arith, h), high_bytes 4 n)
head_bytes eight m n h f = (omega (arith, h), high_bytes 8 n)

broken_bytes : (m : ℕ) (b : List ℕ) → m < 7 → AreBytes b → AreBytes (to_break m b)
broken_bytes m b h k = (omega (arith, h), bytes-append b (255 ∷ []) k (omega arith, tt))

chunks_are_bytes : (m : ℕ) (cs : List Chunk) → m < 8 → AreChunksOk cs → AreBytes (chunks_bytes m cs)
chunks_are_bytes m [] h ok = tt
chunks_are_bytes m (c ∷ cs) h ok =
    bytes-append (head_in c.size m (length c.content) ++ c.content) (chunks_bytes m cs) (bytes-append (head_in c.size m (length c.content)) c.content (head_bytes c.size m (length c.content) h ok.0.0) ok.0.1) (chunks_are_bytes m cs h ok.1)

width_are_bytes : (w : Width) (n : ℕ) → AreBytes (float_bytes w n)
width_are_bytes W16 n = (omega arith, high_bytes 2 n)
width_are_bytes W32 n = (omega arith, high_bytes 4 n)
width_are_bytes W64 n = (omega arith, high_bytes 8 n)

mutual
  form_bytes : (f : Form) → IsOk f → AreBytes (flat f)
  form_bytes (uint_form p n) ok = head_bytes p 0 n (omega arith) ok
  form_bytes (nint_form p n) ok = head_bytes p 1 n (omega arith) ok
  form_bytes (bytes_form p s) ok = bytes-append (head_in p 2 (length s)) s (head_bytes p 2 (length s) (omega arith) ok.0) ok.1
  form_bytes (bytes_chunks cs) ok = broken_bytes 2 (chunks_bytes 2 cs) (omega arith) (chunks_are_bytes 2 cs (omega arith) ok)
  form_bytes (text_form p s) ok = bytes-append (head_in p 3 (length s)) s (head_bytes p 3 (length s) (omega arith) ok.0) ok.1
  form_bytes (text_chunks cs) ok = broken_bytes 3 (chunks_bytes 3 cs) (omega arith) (chunks_are_bytes 3 cs (omega arith) ok)
  form_bytes (array_form p fs) ok = bytes-append (head_in p 4 (forms_len fs)) (forms_flat fs) (head_bytes p 4 (forms_len fs) (omega arith) ok.0) (forms_bytes fs ok.1)
  form_bytes (array_to_break fs) ok = broken_bytes 4 (forms_flat fs) (omega arith) (forms_bytes fs ok)
  form_bytes (pairs_form p ps) ok = bytes-append (head_in p 5 (pair_forms_len ps)) (pair_forms_flat ps) (head_bytes p 5 (pair_forms_len ps) (omega arith) ok.0) (pair_forms_bytes ps ok.1)
  form_bytes (pairs_to_break ps) ok = broken_bytes 5 (pair_forms_flat ps) (omega arith) (pair_forms_bytes ps ok)
  form_bytes (tag_form p n f) ok = bytes-append (head_in p 6 n) (flat f) (head_bytes p 6 n (omega arith) ok.0) (form_bytes f ok.1)
  form_bytes (simple_inside n) ok = (omega (arith, ok), tt)
  form_bytes (simple_next n) ok = (omega arith, (ok.1, tt))
  form_bytes (float_form w n) ok = width_are_bytes w n

  forms_bytes : (fs : Forms) → AreFormsOk fs → AreBytes (forms_flat fs)
  forms_bytes no_forms ok = tt
  forms_bytes (form f fs) ok = bytes-append (flat f) (forms_flat fs) (form_bytes f ok.0) (forms_bytes fs ok.1)

  pair_forms_bytes : (ps : PairForms) → ArePairFormsOk ps → AreBytes (pair_forms_flat ps)
  pair_forms_bytes no_pair_forms ok = tt
  pair_forms_bytes (pair_form k v ps) ok = bytes-append (flat k) (flat v ++ pair_forms_flat ps) (form_bytes k ok.0) (bytes-append (flat v) (pair_forms_flat ps) (form_bytes v ok.1) (pair_forms_bytes ps ok.2))

spelled_bytes : {x : Value} {b : List ℕ} → Spells x b → AreBytes b
spelled_bytes s = subst AreBytes (sym s.is) (form_bytes s.written s.ok)

embedded_bytes : {b : List ℕ} {xs : _} → EmbedsAll b xs → AreBytes b
embedded_bytes none = tt
embedded_bytes (one_more {b = b} {c = c} h t) = bytes-append b c (spelled_bytes h.spells) (embedded_bytes t)

held_bytes : {c : Content} {b : List ℕ} {y : Value} → Holds c b y → AreBytes b
held_bytes (item h) = spelled_bytes h.spells
held_bytes (items h) = embedded_bytes h

bytes_told : (b : List ℕ) → AreBytes b ⊎ (AreBytes b → ⊥)
bytes_told [] = inl tt
bytes_told (x ∷ b) = both (cases_lt x 256) (bytes_told b)
  where
    both : (x < 256) ⊎ (256 ≤ x) → AreBytes b ⊎ (AreBytes b → ⊥) → (AreBytes (x ∷ b)) ⊎ (AreBytes (x ∷ b) → ⊥)
    both (inl h) (inl k) = inl (h, k)
    both (inl h) (inr n) = inr (λ k. n k.1)
    both (inr h) k = inr (λ k. absurd (omega (arith, h, k.0)))

abbrev pub Told : Content → List ℕ → Type 0
Told c b = ((y : Value) × Holds c b y) ⊎ ((y : Value) → Holds c b y → ⊥)

told_of_bytes : (c : Content) (b : List ℕ) → AreBytes b → Told c b
told_of_bytes one_item b h = elim (item_told b h) [
  | inl t ↦ inl (t.0, item t.1)
  | inr n ↦ inr (λ y k. elim k [ item e ↦ n y e ])
]
told_of_bytes sequence_of_items b h = elim (held_told b h) [
  | inl t ↦ inl (array t.0, items t.1)
  | inr n ↦ inr (λ y k. none_held b n k)
]
  where
    none_held : (b : List ℕ) → ((xs : _) → EmbedsAll b xs → ⊥) → {y : Value} → Holds sequence_of_items b y → ⊥
    none_held b n (items {xs = xs} e) = n xs e

pub told : (c : Content) (b : List ℕ) → Told c b
told c b = elim (bytes_told b) [
  | inl h ↦ told_of_bytes c b h
  | inr n ↦ inr (λ y k. n (held_bytes k))
]
