-- Unsigned integers below 24, which are one byte.
use Rattle.std.proofs.Common.{◌≡◌, ℕ, ◌+◌, ◌*◌, ◌<◌, [], ◌∷◌, nat_lt, true, refl, sym, ap, subst, rules, arith}
use Rattle.std.proofs.lemmas.Bool.Decides.{nat_tests}
use Rattle.cbor_data.specs.Forms.{inside, uint_form}
use Rattle.cbor_data.specs.Preferred.{preferred}
use Rattle.cbor_data.specs.Sound.{HasShortSpelling}
use Rattle.cbor_data.specs.Value.{uint}
use Rattle.item_nodes.specs.View.{view}
use Rattle.item_nodes.specs.declared.item.Item.{the_lemmas}
use Rattle.item_nodes.specs.declared.item.Item.TheVariants as item

initial_is : (n : ℕ) → n ≡ 32 * 0 + n
initial_is n = omega arith

small_spelling : (n : ℕ) → n < 24 → HasShortSpelling (uint n)
small_spelling n h = record {
  spelling = n ∷ [];
  spells = record { written = uint_form inside n; ok = h; text = tt; is = ap (λ (m : ℕ). m ∷ []) (initial_is n); meant = refl };
  short = omega arith;
}

view-Uint : (n : ℕ) → view (item.Uint n) ≡ uint n
view-Uint n = search (rules, the_lemmas)

pub small_item : (n : ℕ) → n < 24 → HasShortSpelling (view (item.Uint n))
small_item n h = subst HasShortSpelling (sym (view-Uint n)) (small_spelling n h)

pub small_preferred : (n : ℕ) → n < 24 → preferred (uint n) ≡ n ∷ []
small_preferred n h =
    let t : nat_lt n 24 ≡ true = grind (arith, nat_tests) in
    rw t (ap (λ (m : ℕ). m ∷ []) (sym (initial_is n)))
