-- What an entry says of a pair's key whose key type is a test: it takes two steps, or is passed over.
use Rattle.std.proofs.Common.{◌≡◌, ℕ, zero, suc, ◌+◌, ◌<◌, Bool, true, false, not, refl, sym, ap, ◌∙◌, arith}
use Rattle.std.specs.Prelude.{Option, Some, None, if◌then◌else◌}
use Rattle.cbor_data.specs.Same.{same_value}
use Rattle.cbor_data.specs.Value.{Value}
use Rattle.item_nodes.specs.View.{view}
use Rattle.item_nodes.specs.declared.item.Item.{Item}
use Rattle.cddl_meaning.specs.Forms as F
use Rattle.cddl_meaning.specs.Forms.{Node, Plain, Test, equals, by_forms, is_other, is_passed_over, key_by, key_in, most_forms, passes}
use Rattle.cddl_meaning.specs.Moves as M
use Rattle.cddl_meaning.specs.Moves.{Asks, LeadsTo, OfType}
use Rattle.table_nodes.specs.Language.{language_of}
use Rattle.table_nodes.specs.Nodes.{test_view}
use Rattle.table_nodes.specs.declared.nodes.Test as Declared
use Rattle.table_nodes.specs.declared.nodes.Test.TheVariants as T
use Rattle.table_nodes.specs.declared.nodes.TypeId.{TypeId}
use Rattle.table_nodes.specs.declared.nodes.GroupId.{GroupId}
use Rattle.table_nodes.specs.declared.table.Table.{Table}
use Rattle.cddl_match.specs.Tellings.{KeySays, sorting_of}
use Rattle.cddl_match.specs.Within.{Replied, Stopped}
use Rattle.cddl_match.specs.declared.calls.Stop.TheVariants.{Spent}
use Rattle.cddl_match.proofs.Handing.{key_asked, key_passed}
use Rattle.cddl_match.proofs.Sayings.{test_on}
use Rattle.cddl_match.proofs.Ways.{enters_on}

-- the one value that a test asks for
abbrev value_of : Test → Option Value
value_of (equals v) = Some v
value_of _ = None

by_test : (N G : Type 0) (next : N → Option Value) (t : Test) → key_by {N = N} {G = G} next (Plain t) ≡ value_of t
by_test N G next (equals v) = refl
by_test N G next _ = refl

test_shows : {N G : Type 0} (type_at : N → Node N G) (k : ℕ) (n : N) (t : Test) → type_at n ≡ Plain t → key_in type_at k n ≡ value_of t
unfolding key_in
test_shows {N = N} {G = G} type_at zero n t e = ap (λ f. key_by (λ m. None) f) e ∙ by_test N G (λ m. None) t
test_shows {N = N} {G = G} type_at (suc k) n t e = ap (λ f. key_by (λ m. key_in type_at k m) f) e ∙ by_test N G (λ m. key_in type_at k m) t

is_over : {N G : Type 0} (type_at : N → Node N G) (n : N) (k : Value) (t : Test) → type_at n ≡ Plain t → is_passed_over (by_forms type_at) n k ≡ is_other (value_of t) k
is_over type_at n k t e = ap (λ o. is_other o k) (test_shows type_at most_forms n t e)

-- a literal, and another test
pub of_literal : {N G : Type 0} (type_at : N → Node N G) (n : N) (k v : Value) (t : Test) (b : Bool) → t ≡ equals v → type_at n ≡ Plain t → passes t k ≡ b → ◌≡◌ {A = ℕ} (if b then 2 else 0) (if is_passed_over (by_forms type_at) n k then 0 else 2)
of_literal type_at n k v t b i e h =
    let same : same_value k v ≡ b = ap (λ t. passes t k) (sym i) ∙ h in
    rw (is_over type_at n k t e, i, same) (by b)
  where
    by : (b : Bool) → ◌≡◌ {A = ℕ} (if b then 2 else 0) (if not b then 0 else 2)
    by true = refl
    by false = refl

no_literal : (t : Declared.Test) → ((i : Item) → t ≡ T.Equals i → ⊥) → value_of (test_view t) ≡ None
no_literal (T.Equals i) h = absurd (h i refl)
no_literal _ h = refl

pub of_other : {N G : Type 0} (type_at : N → Node N G) (n : N) (k : Value) (t : Declared.Test) → ((i : Item) → t ≡ T.Equals i → ⊥) → type_at n ≡ Plain (test_view t) → ◌≡◌ {A = ℕ} 2 (if is_passed_over (by_forms type_at) n k then 0 else 2)
of_other type_at n k t h e = rw (is_over type_at n k (test_view t) e, no_literal t h) refl

-- A key that passes the test is not another one.
over_fails : (t : Test) (k : Value) → is_other (value_of t) k ≡ true → passes t k ≡ false
over_fails (equals v) k h = by (same_value k v) h
  where
    by : (b : Bool) → not b ≡ true → b ≡ false
    by true e = cc e
    by false e = refl
over_fails _ k h = cc h

module _ (t : Table) (place : ℕ) (both : Item × Item) (e : F.MapEntry TypeId) (test : Test) (is : (language_of t).type_at e.key_type ≡ Plain test) where
  abbrev over : Bool
  over = is_passed_over (by_forms (language_of t).type_at) e.key_type (view both.0)

  pub test_says_key : (steps left asked : ℕ) → asked ≡ (if over then 0 else 2) → asked + left ≡ steps → KeySays (language_of t) place both e steps left (Replied (M.test_reply place (view both.0) (passes test (view both.0))))
  test_says_key steps left asked i h = by over refl
    where
      by : (b : Bool) → over ≡ b → KeySays (language_of t) place both e steps left (Replied (M.test_reply place (view both.0) (passes test (view both.0))))
      by true o =
          let n : steps ≡ left = omega (arith, h, i ∙ ap (λ b. if b then 0 else 2) o) in
          let fails = over_fails test (view both.0) (sym (is_over (language_of t).type_at e.key_type (view both.0) test is) ∙ o) in
          rw (n, fails) (key_passed (language_of t) place both e place left o)
      by false o =
          let n : 2 + left ≡ steps = omega (arith, h, i ∙ ap (λ b. if b then 0 else 2) o) in
          key_asked (language_of t) place both e steps (1 + left) left (Replied (M.test_reply place (view both.0) (passes test (view both.0)))) o (omega (arith, n)) (test_on (language_of t) place (view both.0) test (1 + left) left is refl)

  pub too_few_for_key : (steps left asked : ℕ) → asked ≡ (if over then 0 else 2) → steps < asked → KeySays (language_of t) place both e steps left (Stopped Spent)
  too_few_for_key steps left asked i h = by over refl
    where
      a_question : {q : M.Question TypeId GroupId} {o : M.Pending TypeId GroupId} (r : _) (w : ℕ) → LeadsTo (language_of t) (Asks q o) r w → 0 < w
      a_question r w (M.after (M.replies d) f) = omega arith

      by : (b : Bool) → over ≡ b → KeySays (language_of t) place both e steps left (Stopped Spent)
      by true o = absurd (omega (arith, h, i ∙ ap (λ b. if b then 0 else 2) o))
      by false o = λ es all base rest tally r w d.
          let x = (enters_on (language_of t) e es (sorting_of all base place both rest tally) o).comes r w d in
          omega (arith, x.2, h, a_question r x.0 x.1, i ∙ ap (λ b. if b then 0 else 2) o)
