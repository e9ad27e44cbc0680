-- How deep the meaning of a well-formed item is.
use Rattle.std.proofs.Common.{◌≡◌, ℕ, ◌+◌, ◌≤◌, List, [], ◌++◌, inl, inr, nat_le, cond, Option, Some, None, sym, ap, ◌∙◌, arith, append-nil}
use Rattle.std.proofs.lemmas.Bool.Decides.{nat_tests}
use Rattle.lists.proofs.Lemmas.{tested}
use Rattle.cbor_data.specs.Value.{depth_of}
use Rattle.cbor_data.specs.Forms.{Form, flat, IsOk, meaning}
use Rattle.cbor_data.specs.Machine.Machine.{State, item, done, steps_in}
use Rattle.cbor_data.specs.Machine.Reads.{LeadsWithin}
use Rattle.cbor_data.proofs.OfMachine.Lemmas.{item_in}

-- a form that the bounded machine reads to its end is no deeper

fits : (a d : ℕ) (o : Option State) (t : State) → cond (nat_le (a + 0) d) o None ≡ Some t → a ≤ d
fits a d o t e = elim (tested (nat_le (a + 0) d)) [
  | inl u ↦ let le : a + 0 ≤ d = grind (arith, nat_tests) in omega arith
  | inr u ↦ let e1 = rw u at e in absurd (cc)
]

pub shallow : (d : ℕ) (b : List ℕ) (f : Form) → LeadsWithin d b done → IsOk f → b ≡ flat f → depth_of (meaning f) ≤ d
shallow d b f l ok is =
    let read : steps_in d (item []) (flat f ++ []) ≡ Some done = ap (steps_in d (item [])) (append-nil (flat f) ∙ sym is) ∙ l.is in
    fits (depth_of (meaning f)) d (Some done) done (sym (item_in d f [] [] ok (omega arith)) ∙ read)
