-- The preferred bytes of an item are at most nine times as many as those of any spelling.
use Rattle.std.proofs.Common.{ℕ, ◌*◌, ◌<◌, ◌≤◌, ◌^◌, List, ◌++◌, length, nat_lt, inl, inr, sym, subst, arith, length-append}
use Rattle.lists.proofs.Lemmas.{tested}
use Rattle.cbor_data.specs.Preferred.{shortest_head, simple_bytes, preferred, values_preferred, pairs_preferred}
use Rattle.cbor_data.specs.Value.{Value, values_len, pairs_len}
use Rattle.cbor_data.specs.Forms.{Form, uint_form, nint_form, bytes_form, bytes_chunks, text_form, text_chunks, array_form, array_to_break, pairs_form, pairs_to_break, tag_form, simple_inside, simple_next, float_form, Forms, no_forms, form, PairForms, no_pair_forms, pair_form, chunks_bytes, joined, to_break, flat, forms_flat, pair_forms_flat, forms_len, pair_forms_len, meaning, meanings, pair_meanings, Spells, head_in}
use Rattle.cbor_data.proofs.PreferredSpells.{joined_len, broken_len, head_some}

pub shortest_head_len : (m n : ℕ) → length (shortest_head m n) ≤ 9
shortest_head_len m n = elim (tested (nat_lt n 24)) [
  | inl t ↦ rw t (omega arith)
  | inr t ↦ elim (tested (nat_lt n (2 ^ 8))) [
    | inl u ↦ rw (t, u) (omega arith)
    | inr u ↦ elim (tested (nat_lt n (2 ^ 16))) [
      | inl v ↦ rw (t, u, v) (omega arith)
      | inr v ↦ elim (tested (nat_lt n (2 ^ 32))) [
        | inl w ↦ rw (t, u, v, w) (omega arith)
        | inr w ↦ rw (t, u, v, w) (omega arith)
      ]
    ]
  ]
]

pub shortest_head_some : (m n : ℕ) → 1 ≤ length (shortest_head m n)
shortest_head_some m n = elim (tested (nat_lt n 24)) [
  | inl t ↦ rw t (omega arith)
  | inr t ↦ elim (tested (nat_lt n (2 ^ 8))) [
    | inl u ↦ rw (t, u) (omega arith)
    | inr u ↦ elim (tested (nat_lt n (2 ^ 16))) [
      | inl v ↦ rw (t, u, v) (omega arith)
      | inr v ↦ elim (tested (nat_lt n (2 ^ 32))) [
        | inl w ↦ rw (t, u, v, w) (omega arith)
        | inr w ↦ rw (t, u, v, w) (omega arith)
      ]
    ]
  ]
]

simple_len : (n : ℕ) → length (simple_bytes n) ≤ 2
simple_len n = elim (tested (nat_lt n 24)) [
  | inl t ↦ rw t (omega arith)
  | inr t ↦ rw t (omega arith)
]

pub simple_some : (n : ℕ) → 1 ≤ length (simple_bytes n)
simple_some n = elim (tested (nat_lt n 24)) [
  | inl t ↦ rw t (omega arith)
  | inr t ↦ rw t (omega arith)
]

-- a head, and then some bytes
headed : (m n : ℕ) (before bytes after : List ℕ) → 0 < length before → length bytes ≤ 9 * length after →
    length (shortest_head m n ++ bytes) ≤ 9 * length (before ++ after)
headed m n before bytes after some h =
    omega (arith, shortest_head_len m n, length-append (shortest_head m n) bytes, length-append before after)

-- the same, before a form with a break
broken : (m n k : ℕ) (bytes inner : List ℕ) → length bytes ≤ 9 * length inner →
    length (shortest_head m n ++ bytes) ≤ 9 * length (to_break k inner)
broken m n k bytes inner h =
    omega (arith, shortest_head_len m n, length-append (shortest_head m n) bytes, broken_len k inner)

mutual
  form_length : (f : Form) → length (preferred (meaning f)) ≤ 9 * length (flat f)
  form_length (uint_form p n) = omega (arith, shortest_head_len 0 n, head_some p 0 n)
  form_length (nint_form p n) = omega (arith, shortest_head_len 1 n, head_some p 1 n)
  form_length (bytes_form p s) = headed 2 (length s) (head_in p 2 (length s)) s s (head_some p 2 (length s)) (omega arith)
  form_length (bytes_chunks cs) = broken 2 (length (joined cs)) 2 (joined cs) (chunks_bytes 2 cs) (omega (arith, joined_len 2 cs))
  form_length (text_form p s) = headed 3 (length s) (head_in p 3 (length s)) s s (head_some p 3 (length s)) (omega arith)
  form_length (text_chunks cs) = broken 3 (length (joined cs)) 3 (joined cs) (chunks_bytes 3 cs) (omega (arith, joined_len 3 cs))
  form_length (array_form p fs) =
      headed 4 (values_len (meanings fs)) (head_in p 4 (forms_len fs)) (values_preferred (meanings fs)) (forms_flat fs) (head_some p 4 (forms_len fs)) (forms_length fs)
  form_length (array_to_break fs) = broken 4 (values_len (meanings fs)) 4 (values_preferred (meanings fs)) (forms_flat fs) (forms_length fs)
  form_length (pairs_form p ps) =
      headed 5 (pairs_len (pair_meanings ps)) (head_in p 5 (pair_forms_len ps)) (pairs_preferred (pair_meanings ps)) (pair_forms_flat ps) (head_some p 5 (pair_forms_len ps)) (pair_forms_length ps)
  form_length (pairs_to_break ps) = broken 5 (pairs_len (pair_meanings ps)) 5 (pairs_preferred (pair_meanings ps)) (pair_forms_flat ps) (pair_forms_length ps)
  form_length (tag_form p n f) = headed 6 n (head_in p 6 n) (preferred (meaning f)) (flat f) (head_some p 6 n) (form_length f)
  form_length (simple_inside n) = omega (arith, simple_len n)
  form_length (simple_next n) = omega (arith, simple_len n)
  form_length (float_form w n) = omega arith

  forms_length : (fs : Forms) → length (values_preferred (meanings fs)) ≤ 9 * length (forms_flat fs)
  forms_length no_forms = omega arith
  forms_length (form f fs) =
      omega (arith, form_length f, forms_length fs, length-append (preferred (meaning f)) (values_preferred (meanings fs)), length-append (flat f) (forms_flat fs))

  pair_forms_length : (ps : PairForms) → length (pairs_preferred (pair_meanings ps)) ≤ 9 * length (pair_forms_flat ps)
  pair_forms_length no_pair_forms = omega arith
  pair_forms_length (pair_form k v ps) =
      let rest = pairs_preferred (pair_meanings ps) in
      omega (
        arith,
        form_length k,
        form_length v,
        pair_forms_length ps,
        length-append (preferred (meaning k)) (preferred (meaning v) ++ rest),
        length-append (preferred (meaning v)) rest,
        length-append (flat k) (flat v ++ pair_forms_flat ps),
        length-append (flat v) (pair_forms_flat ps),
      )

-- no spelling is shorter than a ninth of the preferred bytes
pub preferred_len : (x : Value) (b : List ℕ) → Spells x b → length (preferred x) ≤ 9 * length b
preferred_len x b s =
    subst (λ y. length (preferred y) ≤ 9 * length b) (sym s.meant) (subst (λ c. length (preferred (meaning s.written)) ≤ 9 * length c) (sym s.is) (form_length s.written))
