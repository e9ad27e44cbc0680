-- The value of a key is that of the type that its form leads to, with one form less to go through.
use Rattle.std.proofs.Common.{◌≡◌, ℕ, zero, suc, ◌-◌, inl, inr, List, [], ◌∷◌, ◌++◌, length, Option, None, refl, subst, arith}
use Rattle.lists.proofs.Lemmas.{after_push}
use Rattle.cbor_data.specs.Value.{Value}
use Rattle.cddl_meaning.specs.Forms as F
use Rattle.cddl_meaning.specs.Forms.{key_by, key_in, most_forms}
use Rattle.table_nodes.specs.Choices.{type_in}
use Rattle.table_nodes.specs.Keys.{AreLiterals}
use Rattle.table_nodes.specs.declared.nodes.Node.{Node}
use Rattle.table_nodes.specs.declared.nodes.TypeId.{TypeId}

module _ {N G : Type 0} (type_at : N → F.Node N G) where
  -- The form shows the value by itself, or shows none.
  pub by_form : (k : ℕ) (n : N) (o : Option Value) → ((next : N → Option Value) → key_by next (type_at n) ≡ o) → key_in type_at k n ≡ o
  unfolding key_in
  by_form zero n o h = h (λ m. None)
  by_form (suc k) n o h = h (λ m. key_in type_at k m)

  -- No more forms are gone through.
  pub by_none : (k : ℕ) (n : N) (o : Option Value) → k ≡ 0 → key_by (λ m. None) (type_at n) ≡ o → key_in type_at k n ≡ o
  unfolding key_in
  by_none zero n o z h = h
  by_none (suc k) n o z h = absurd (omega (arith, z))

  -- The form leads to another type.
  pub by_next : (k : ℕ) (n m : N) → (k ≡ 0 → ⊥) → ((next : N → Option Value) → key_by next (type_at n) ≡ next m) → key_in type_at k n ≡ key_in type_at (k - 1) m
  unfolding key_in
  by_next zero n m z h = absurd (z refl)
  by_next (suc k) n m z h = let e : k ≡ suc k - 1 = omega arith in subst (λ j. key_in type_at (suc k) n ≡ key_in type_at j m) e (h (λ m. key_in type_at k m))

-- One type more is kept, for the next number.
pub one_literal_more : (types : List Node) (literals : List TypeId) (n : TypeId) → key_in (type_in types) most_forms (record { number = length literals }) ≡ key_in (type_in types) 0 n → AreLiterals types literals → AreLiterals types (literals ++ n ∷ [])
one_literal_more types literals n is h i m e = elim (after_push literals n i m e) [
  | inl k ↦ subst (λ (j : ℕ). key_in (type_in types) most_forms (record { number = j }) ≡ key_in (type_in types) 0 m) k.0 (subst (λ t. key_in (type_in types) most_forms (record { number = length literals }) ≡ key_in (type_in types) 0 t) k.1 is)
  | inr k ↦ h i m k
]

pub no_literals : (types : List Node) → AreLiterals types []
no_literals types i n e = absurd (cc)
