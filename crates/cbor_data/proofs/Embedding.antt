-- Bytes hold one list of items at most.
use Rattle.std.proofs.Common.{◌≡◌, ℕ, List, [], ◌++◌, length, refl, sym, ap, ap₂, ◌∙◌, subst, arith, append_assoc, length-append}
use Rattle.cbor_data.specs.Value.{Value, Values, value}
use Rattle.cbor_data.specs.Forms.{IsWellFormed, Spells}
use Rattle.cbor_data.specs.Embedded.{Embeds, EmbedsAll, none, one_more}
use Rattle.cbor_data.proofs.PreferredSpells.{form_some}
use Rattle.cbor_data.proofs.Unique.{unique, unique_front}

written : {x : Value} {b : List ℕ} → Spells x b → IsWellFormed b
written s = record { written = s.written; ok = s.ok; is = s.is }

-- an item has bytes
some_bytes : (b c : List ℕ) (x : Value) → Embeds b x → b ++ c ≡ [] → ⊥
some_bytes b c x h e = omega (arith, form_some h.spells.written, ap length h.spells.is, ap length e, length-append b c)

one : {b c : List ℕ} {xs ys : Values} → EmbedsAll b xs → EmbedsAll c ys → b ≡ c → xs ≡ ys
one none none e = refl
one none (one_more {b = b} {c = c} {x = x} h t) e = absurd (some_bytes b c x h (sym e))
one (one_more {b = b} {c = c} {x = x} h t) none e = absurd (some_bytes b c x h e)
one (one_more {b = b} {c = c} h t) (one_more {b = d} {c = r} k u) e =
    let rest : c ≡ r = (unique_front b c d r (written h.spells) (written k.spells) e).1 in
    ap₂ value (unique b c d r h.spells k.spells e).1 (one t u rest)

pub one_embedded : (b : List ℕ) (xs ys : Values) → EmbedsAll b xs → EmbedsAll b ys → xs ≡ ys
one_embedded b xs ys h k = one h k refl

-- where some bytes hold items, and so do the same bytes with others after them, these others do too
after : {a e : List ℕ} {us xs : Values} (r : List ℕ) → EmbedsAll a us → EmbedsAll e xs → e ≡ a ++ r → (ys : Values) × EmbedsAll r ys
after {xs = xs} r none h is = (xs, subst (λ c. EmbedsAll c xs) is h)
after r (one_more {b = b} {c = c} {x = x} h t) none is = absurd (some_bytes b (c ++ r) x h (sym (append_assoc b c r) ∙ sym is))
after r (one_more {b = b} {c = c} h t) (one_more {b = d} {c = f} k u) is =
    after r t u ((unique_front d f b (c ++ r) (written k.spells) (written h.spells) (is ∙ append_assoc b c r)).1)

pub embedded_after : (a r : List ℕ) (us xs : Values) → EmbedsAll a us → EmbedsAll (a ++ r) xs → (ys : Values) × EmbedsAll r ys
embedded_after a r us xs h k = after r h k refl
