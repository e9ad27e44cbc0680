-- The bytes of a rest have one fault at most.
use Rattle.std.proofs.Common.{◌≡◌, ◌≢◌, ℕ, zero, suc, ◌+◌, ◌-◌, ◌<◌, ◌≤◌, List, [], ◌∷◌, ◌++◌, length, take, drop, get_or, Option, Some, None, inl, inr, refl, sym, ap, ◌∙◌, subst, arith, append-nil}
use Rattle.std.proofs.lemmas.List.{take-append-drop, take_more, length-take-le}
use Rattle.std.proofs.Math.Seq.{take-append-add}
use Rattle.std.proofs.lemmas.Bool.{cases_lt}
use Rattle.cbor_data.specs.Value.{AreBytes}
use Rattle.cbor_data.specs.Validity.{IsFirstRepeatedKey}
use Rattle.cbor_data.specs.Forms.{Form, HasText, meaning, IsWellFormed, Begins, IsUnfinished}
use Rattle.cbor_data.specs.Faults.{Bounds, IsFormFaultAt, malformed, deep, long, IsBadTextAt, IsWholeFront, IsKindOf, IsFaultOf, of_form, of_end, of_text, of_key}
use Rattle.cbor_data.specs.declared.FaultKind.{FaultKind}
use Rattle.cbor_data.proofs.Lemmas.{one_form, unfinished_no_front, good_text, one_text}
use Rattle.cbor_data.specs.Machine.Machine.{State, item, done, step, steps}
use Rattle.cbor_data.specs.Machine.Reads.{Leads}
use Rattle.cbor_data.proofs.OfMachine.Forward.{refused}
use Rattle.cbor_data.proofs.OfMachine.Keeping.{done_whole}
use Rattle.cbor_data.proofs.OfMachine.Refusing.{step_begins, only_kind}
use Rattle.cbor_data.proofs.OfMachine.Telling.{within_begins}

bytes-take : (n : ℕ) (b : List ℕ) → AreBytes b → AreBytes (take n b)
bytes-take zero b are = tt
bytes-take (suc n) [] are = tt
bytes-take (suc n) (x ∷ b) are = (are.0, bytes-take n b are.1)

-- a machine that has read a proper beginning is not done
not_done : (b : List ℕ) (s : State) → Leads b s → IsUnfinished b → s ≢ done
not_done b s l u e = unfinished_no_front b b [] u (done_whole b l.are (l.is ∙ ap Some e)) (sym (append-nil b))

begun : (b : List ℕ) → IsUnfinished b → Begins b
begun b u = (u.0 ∷ u.1, u.2)

-- a byte with which nothing begins is wrong in one way
one_kind : (a : List ℕ) (x : ℕ) (j k : FaultKind) → AreBytes a → x < 256 → IsUnfinished a → (Begins (a ++ x ∷ []) → ⊥) → IsKindOf a x j → IsKindOf a x k → j ≡ k
one_kind a x j k are small u none r t = read (steps (item []) a) refl
  where
    stuck : (s : State) → Leads a s → (o : Option State) → step s x ≡ o → step s x ≡ None
    stuck s l None e = e
    stuck s l (Some next) e = absurd (none (step_begins a s next x l small e))

    read : (o : Option State) → steps (item []) a ≡ o → j ≡ k
    read None e = absurd (refused a e (begun a u))
    read (Some s) e =
        let l : Leads a s = record { are = are; is = e } in
        let live : s ≢ done = not_done a s l u in
        let refuses : step s x ≡ None = stuck s l (step s x) refl in
        only_kind a s x j l live refuses r ∙ sym (only_kind a s x k l live refuses t)

small_at : (b : List ℕ) (i : ℕ) → AreBytes b → get_or b i 0 < 256
small_at [] i are = omega arith
small_at (x ∷ b) zero are = are.0
small_at (x ∷ b) (suc i) are = small_at b i are.1

same_kind : (l : Bounds) (o : ℕ) (b : List ℕ) (p : ℕ) (j k : FaultKind) → AreBytes b → IsUnfinished (take p b) → IsFormFaultAt l o b p j → IsFormFaultAt l o b p k → j ≡ k
same_kind l o b p j k are u (malformed h none r) (malformed g never t) =
    one_kind (take p b) (get_or b p 0) _ _ (bytes-take p b are) (small_at b p are) u (λ w. none (subst Begins (sym (take_more b p 0 h)) w)) r t
same_kind l o b p j k are u (malformed h none r) (deep g begins not) = absurd (none begins)
same_kind l o b p j k are u (malformed h none r) (long w at) = absurd (none (within_begins l.depth (take (p + 1) b) w))
same_kind l o b p j k are u (deep h begins not) (malformed g none r) = absurd (none begins)
same_kind l o b p j k are u (deep h begins not) (deep g begin never) = refl
same_kind l o b p j k are u (deep h begins not) (long w at) = absurd (not w)
same_kind l o b p j k are u (long w at) (malformed g none r) = absurd (none (within_begins l.depth (take (p + 1) b) w))
same_kind l o b p j k are u (long w at) (deep g begins not) = absurd (not w)
same_kind l o b p j k are u (long w at) (long v to) = refl

whole_formed : (l : Bounds) (o : ℕ) (b : List ℕ) (n : ℕ) (f : Form) → IsWholeFront l o b n f → IsWellFormed (take n b)
whole_formed l o b n f w = record { written = f; ok = w.ok; is = w.is }

-- where a front is whole the form goes wrong nowhere
form_no_whole : (l : Bounds) (o : ℕ) (b : List ℕ) (p n : ℕ) (k : FaultKind) (f : Form) → IsUnfinished (take p b) → IsFormFaultAt l o b p k → IsWholeFront l o b n f → ⊥
form_no_whole l o b p n k f u fault w = elim (cases_lt p n) [
  | inl h ↦ w.before p k h fault
  | inr h ↦ unfinished_no_front (take p b) (take n b) (take (p - n) (drop n b)) u (whole_formed l o b n f w) (parts h)
]
  where
    parts : n ≤ p → take p b ≡ take n b ++ take (p - n) (drop n b)
    parts h =
        let sum : p ≡ length (take n b) + (p - n) = omega (arith, h, length-take-le n b w.within) in
        ap (take p) (sym (take-append-drop n b)) ∙ (ap (λ i. take i (take n b ++ drop n b)) sum ∙ take-append-add (take n b) (drop n b) (p - n))

end_no_whole : (l : Bounds) (o : ℕ) (b : List ℕ) (n : ℕ) (f : Form) → IsUnfinished b → IsWholeFront l o b n f → ⊥
end_no_whole l o b n f u w = unfinished_no_front b (take n b) (drop n b) u (whole_formed l o b n f w) (sym (take-append-drop n b))

-- one form is whole
same_form : (l : Bounds) (o : ℕ) (b : List ℕ) (n m : ℕ) (f g : Form) → IsWholeFront l o b n f → IsWholeFront l o b m g → f ≡ g
same_form l o b n m f g v w =
    (one_form f g (drop n b) (drop m b) v.ok w.ok
    (ap (λ a. a ++ drop n b) (sym v.is) ∙ (take-append-drop n b ∙ (sym (take-append-drop m b) ∙ ap (λ a. a ++ drop m b) w.is)))).0

text_no_key : (l : Bounds) (o : ℕ) (b : List ℕ) (n m i : ℕ) (f g : Form) → IsWholeFront l o b n f → IsBadTextAt f i → IsWholeFront l o b m g → HasText g → ⊥
text_no_key l o b n m i f g v bad w text = good_text f i (subst HasText (sym (same_form l o b n m f g v w)) text) bad

pub one : (l : Bounds) (o : ℕ) (b : List ℕ) (j k : FaultKind) (at to : ℕ) → AreBytes b → IsFaultOf l o b j at → IsFaultOf l o b k to → (j ≡ k) × (at ≡ to)
one l o b j k at to are (of_form p h u s c e) (of_form q g v t d f) = elim (cases_lt p q) [
  | inl below ↦ absurd (d p _ below s)
  | inr above ↦ elim (cases_lt q p) [
    | inl below ↦ absurd (c q _ below t)
    | inr up ↦
        let same : p ≡ q = omega (arith, above, up) in
        (same_kind l o b p j k are u s (subst (λ n. IsFormFaultAt l o b n k) (sym same) t), e ∙ (ap (λ n. o + n) same ∙ sym f))
  ]
]
one l o b j k at to are (of_form p h u s c e) (of_end some v d f) = absurd (d p _ (omega (arith, h)) s)
one l o b j k at to are (of_form p h u s c e) (of_text n i g w bad f) = absurd (form_no_whole l o b p n _ g u s w)
one l o b j k at to are (of_form p h u s c e) (of_key n g w text r) = absurd (form_no_whole l o b p n _ g u s w)
one l o b j k at to are (of_end some u c e) (of_form q g v t d f) = absurd (c q _ (omega (arith, g)) t)
one l o b j k at to are (of_end some u c e) (of_end any v d f) = (refl, e ∙ sym f)
one l o b j k at to are (of_end some u c e) (of_text n i g w bad f) = absurd (end_no_whole l o b n g u w)
one l o b j k at to are (of_end some u c e) (of_key n g w text r) = absurd (end_no_whole l o b n g u w)
one l o b j k at to are (of_text n i g w bad e) (of_form q h v t d f) = absurd (form_no_whole l o b q n _ g v t w)
one l o b j k at to are (of_text n i g w bad e) (of_end some v d f) = absurd (end_no_whole l o b n g v w)
one l o b j k at to are (of_text n i g w bad e) (of_text m i' g' w' bad' e') =
    let same : g ≡ g' = same_form l o b n m g g' w w' in
    let place : i ≡ i' = one_text g i i' bad (subst (λ f. IsBadTextAt f i') (sym same) bad') in
    (refl, e ∙ (ap (λ n. o + n) place ∙ sym e'))
one l o b j k at to are (of_text n i g w bad e) (of_key m g' w' text r) = absurd (text_no_key l o b n m i g g' w bad w' text)
one l o b j k at to are (of_key n g w text r) (of_form q h v t d f) = absurd (form_no_whole l o b q n _ g v t w)
one l o b j k at to are (of_key n g w text r) (of_end some v d f) = absurd (end_no_whole l o b n g v w)
one l o b j k at to are (of_key n g w text r) (of_text m i g' w' bad e) = absurd (text_no_key l o b m n i g' g w' bad w text)
one l o b j k at to are (of_key n g w text r) (of_key m g' w' text' r') =
    let same : g ≡ g' = same_form l o b n m g g' w w' in
    let other : IsFirstRepeatedKey (meaning g) to = subst (λ f. IsFirstRepeatedKey (meaning f) to) (sym same) r' in
    let up : at ≤ to = r.least to other.repeated in
    let down : to ≤ at = other.least at r.repeated in
    (refl, omega (arith, up, down))
