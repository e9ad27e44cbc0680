-- Numbers that are marked as accepted.
use Rattle.std.proofs.Common.{◌≡◌, ℕ, zero, suc, ◌≤◌, ◌⊎◌, inl, inr, List, [], ◌∷◌, Bool, true, Some, slice_get, refl, sym, ap, subst}
use Rattle.std.proofs.Math.ListN.{set}
use Rattle.cbor_data.specs.Value.{Value, uint}
use Rattle.cddl_meaning.specs.Forms.{major_of}
use Rattle.cddl_meaning.specs.Judges.{Says, Yes}
use Rattle.seq_run.specs.Accepted.{AreAccepted}
use Rattle.seq_run.specs.Ends.{Accepts}
use Rattle.seq_run.specs.Judge.{Judge, judge_of}
use Rattle.table_nodes.specs.Language.{language_of, root_of}
use Rattle.table_nodes.specs.Majors.{TellsOf, told_view}
use Rattle.table_nodes.specs.declared.majors.Told.{Told}
use Rattle.table_nodes.specs.declared.majors.Told.TheVariants as told
use Rattle.table_nodes.specs.declared.nodes.TypeId.{TypeId}
use Rattle.table_nodes.specs.declared.table.Table.{Table}

-- what is marked is the one that came, or was marked before
marked : (marks : List Bool) (m n : ℕ) → slice_get (set marks m true) n ≡ Some true → (n ≡ m) ⊎ (slice_get marks n ≡ Some true)
marked [] m n e = inr e
marked (x ∷ xs) zero zero e = inl refl
marked (x ∷ xs) zero (suc n) e = inr e
marked (x ∷ xs) (suc m) zero e = inr e
marked (x ∷ xs) (suc m) (suc n) e = elim (marked xs m n e) [ inl same ↦ inl (ap suc same) | inr before ↦ inr before ]

pub mark_accepted : (judge : Judge) (marks : List Bool) (m : ℕ) → AreAccepted judge marks → Accepts judge (uint m) [] → AreAccepted judge (set marks m true)
mark_accepted judge marks m before accepts n e =
    elim (marked marks m n e) [ inl same ↦ subst (λ k. Accepts judge (uint k) []) (sym same) accepts | inr there ↦ before n there ]

-- what a table tells of the root type and a major type, in no more judgements than the steps, is accepted
pub told_accepted : (table : Table) (root : TypeId) (steps cost major : ℕ) (what : Told) (now : Judge) → judge_of table steps ≡ now → root ≡ root_of table → what ≡ told.Yes cost →
    ((t : Bool × ℕ) → told_view what ≡ Some t → TellsOf (language_of table) root major t.0 t.1) → cost ≤ steps → (x : Value) → major_of x ≡ major → Accepts now x []
told_accepted table root steps cost major what now same at is says few x kind =
    let said = says (true, cost) (ap told_view is) 0 x kind in
    subst (λ j. Accepts j x []) same (cost, subst (λ n. Says (language_of table) ((language_of table).type_at n) 0 x Yes cost) at said, few)
