-- The byte string at a place, and what it holds.
use Rattle.std.proofs.Common.{◌≡◌, ℕ, List, Option, Some, None, MatchOption, slice_get, sym, subst}
use Rattle.item_nodes.specs.View.{view}
use Rattle.item_nodes.specs.declared.item.Item.{Item}
use Rattle.cbor_data.specs.Value.{Value, places}
use Rattle.cddl_meaning.specs.Forms.{Content, bytes_in}
use Rattle.cddl_meaning.specs.Held.{Holds}
use Rattle.cddl_mismatch.specs.Places.{HoldsAt}

pub held_there : (x : Value) (s : ℕ × Content) (z : Value) (b : List ℕ) (held : Option Item) → Some z ≡ slice_get (places x) s.0 → bytes_in z ≡ Some b → MatchOption held ((y : Value) → Holds s.1 b y → ⊥) (λ i. Holds s.1 b (view i)) → MatchOption held ((y : Value) → HoldsAt x s y → ⊥) (λ i. HoldsAt x s (view i))
held_there x s z b (Some i) at is h = (z, b, sym at, is, h)
held_there x s z b None at is h = λ y k.
    let same : k.0 ≡ z = cc (at, k.2) in
    let bytes : k.1 ≡ b = cc (same, k.3, is) in
    h y (subst (λ c. Holds s.1 c y) bytes k.4)

pub nothing_there : (x : Value) (s : ℕ × Content) → None ≡ slice_get (places x) s.0 → (y : Value) → HoldsAt x s y → ⊥
nothing_there x s at y k = cc (at, k.2)

pub no_string : (x : Value) (s : ℕ × Content) (z : Value) → Some z ≡ slice_get (places x) s.0 → bytes_in z ≡ None → (y : Value) → HoldsAt x s y → ⊥
no_string x s z at is y k =
    let same : k.0 ≡ z = cc (at, k.2) in
    cc (same, k.3, is)
