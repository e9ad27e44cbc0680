-- There is one run of a stream.
use Rattle.std.proofs.Common.{◌≡◌, ℕ, ◌+◌, ◌<◌, ◌≤◌, List, [], ◌∷◌, ◌++◌, length, refl, sym, ap, ap₂, ◌∙◌, subst, arith, append_assoc, length-append}
use Rattle.cbor_data.specs.Value.{Value}
use Rattle.cbor_data.specs.Forms.{inside, uint_form, IsWellFormed}
use Rattle.cbor_data.specs.Faults.{Bounds, IsItem}
use Rattle.cbor_data.specs.Sequence.{Found, Takes, none, next, IsRunOf}
use Rattle.cbor_data.proofs.Lemmas.{unique, unique_front}
use Rattle.seq_run.proofs.Fronts.{formed}

-- no item has no bytes
pub formed_some : (front : List ℕ) → IsWellFormed front → 0 < length front
formed_some [] w =
    let zero_formed : IsWellFormed (0 ∷ []) = record { written = uint_form inside 0; ok = omega arith; is = refl } in
    let parts = unique_front [] (0 ∷ []) (0 ∷ []) [] w zero_formed refl in
    omega (arith, ap length parts.0)
formed_some (b ∷ bs) w = omega arith

pub item_some : (l : Bounds) (o : ℕ) (x : Value) (front : List ℕ) → IsItem l o x front → 0 < length front
item_some l o x front item = formed_some front (formed item.spells)

-- one item at most is at a front
pub same_front : (l m : Bounds) (o p : ℕ) (x y : Value) (a r b s : List ℕ) → IsItem l o x a → IsItem m p y b → a ++ r ≡ b ++ s → (a ≡ b) × (r ≡ s) × (x ≡ y)
same_front l m o p x y a r b s i j e =
    let fronts = unique_front a r b s (formed i.spells) (formed j.spells) e in
    let items = unique a r b s i.spells j.spells e in
    (fronts.0, fronts.1, items.1)

module _ (l : Bounds) (accepts : Value → List ℕ → Type 0) where
  -- at this offset the rest begins with no accepted item
  abbrev pub EndsHere : ℕ → List ℕ → Type 0
  EndsHere o rest = (x : Value) (front back : List ℕ) → rest ≡ front ++ back → IsItem l o x front → accepts x front → ⊥

  -- where no item can follow, no list of items is longer
  pub longest : {o : ℕ} {b : List ℕ} {found : List Found} {rest : List ℕ} {others : List Found} {left : List ℕ} → Takes l accepts o b found rest → Takes l accepts o b others left →
      (at : ℕ) → at + length rest ≡ o + length b → EndsHere at rest → length others ≤ length found
  longest none none at e end = omega arith
  longest {o = o} none (next y front back f j d u) at e end =
      let here : at ≡ o = omega (arith, e) in
      absurd (end y front back f (subst (λ n. IsItem l n y front) (sym here) j) d)
  longest (next x front back e i c t) none at is end = omega arith
  longest {o = o} {b = b} {rest = rest} {left = left} (next {found = found} x a r e i c t) (next {found = others} y a' r' f j d u) at is end =
      let same = same_front l l o o x y a r a' r' i j (sym e ∙ f) in
      let u' : Takes l accepts (o + length a) r others left = subst (λ (n : ℕ). Takes l accepts n r others left) (ap (λ (s : List ℕ). o + length s) (sym same.0)) (subst (λ (s : List ℕ). Takes l accepts (o + length a') s others left) (sym same.1) u) in
      let at_is : at + length rest ≡ (o + length a) + length r = omega (arith, is, ap length e, length-append a r) in
      let below : length others ≤ length found = longest t u' at at_is end in
      omega (arith, below)

  -- the lists of items with one length are one, and so is what they leave
  pub same_takes : {o : ℕ} {b : List ℕ} {found : List Found} {rest : List ℕ} {others : List Found} {left : List ℕ} → Takes l accepts o b found rest → Takes l accepts o b others left →
      length found ≡ length others → (found ≡ others) × (rest ≡ left)
  same_takes none none e = (refl, refl)
  same_takes none (next y front back f j d u) e = absurd (omega arith)
  same_takes (next x front back f i c t) none e = absurd (omega arith)
  same_takes {o = o} {rest = rest} {left = left} (next {found = found} x a r e i c t) (next {found = others} y a' r' f j d u) same_len =
      let same = same_front l l o o x y a r a' r' i j (sym e ∙ f) in
      let u' : Takes l accepts (o + length a) r others left = subst (λ (n : ℕ). Takes l accepts n r others left) (ap (λ (s : List ℕ). o + length s) (sym same.0)) (subst (λ (s : List ℕ). Takes l accepts (o + length a') s others left) (sym same.1) u) in
      let lengths : length found ≡ length others = omega arith in
      let rest_same = same_takes t u' lengths in
      let first : Value → Found = λ v. record { offset = o; item = v } in
      (ap₂ (λ (v : Value) (fs : List Found). first v ∷ fs) same.2 rest_same.0, rest_same.1)

  -- more bytes come after the rest
  pub takes_extend : {o : ℕ} {b : List ℕ} {found : List Found} {rest : List ℕ} (more : List ℕ) → Takes l accepts o b found rest → Takes l accepts o (b ++ more) found (rest ++ more)
  takes_extend more none = none
  takes_extend more (next x front back e i c t) = next x front (back ++ more) (ap (λ a. a ++ more) e ∙ append_assoc front back more) i c (takes_extend more t)

  -- one item more
  pub takes_snoc : {o : ℕ} {b : List ℕ} {found : List Found} {rest : List ℕ} (at : ℕ) (x : Value) (front back : List ℕ) → Takes l accepts o b found rest → at + length rest ≡ o + length b →
      rest ≡ front ++ back → IsItem l at x front → accepts x front → Takes l accepts o b (found ++ record { offset = at; item = x } ∷ []) back
  takes_snoc {o = o} {b = b} at x front back none is e i c =
      let here : at ≡ o = omega (arith, is) in
      let placed : IsItem l o x front = subst (λ n. IsItem l n x front) here i in
      subst (λ n. Takes l accepts o b (record { offset = n; item = x } ∷ []) back) (sym here) (next x front back e placed c none)
  takes_snoc {o = o} {b = b} {rest = rest} at x front back (next y a r f j d t) is e i c =
      let is' : at + length rest ≡ (o + length a) + length r = omega (arith, is, ap length f, length-append a r) in
      next y a r f j d (takes_snoc at x front back t is' e i c)

  -- each item has a byte
  pub takes_count : {o : ℕ} {b : List ℕ} {found : List Found} {rest : List ℕ} → Takes l accepts o b found rest → length found + length rest ≤ length b
  takes_count none = omega arith
  takes_count {o = o} {rest = rest} (next {found = found} x front back e i c t) =
      let some : 0 < length front = item_some l o x front i in
      let rec : length found + length rest ≤ length back = takes_count t in
      omega (arith, some, rec, ap length e, length-append front back)

  -- the run, where nothing more can be accepted
  pub run_of : {b : List ℕ} {found : List Found} {rest : List ℕ} (at : ℕ) → Takes l accepts 0 b found rest → at + length rest ≡ length b → EndsHere at rest → IsRunOf l accepts b found rest
  run_of {b = b} {rest = rest} at t e end = record { takes = t; longest = λ others left u. longest t u at (omega (arith, e)) end }

  -- what begins a stream's list of items begins its run
  pub begins_run : {o : ℕ} {b : List ℕ} {found : List Found} {rest : List ℕ} {others : List Found} {left : List ℕ} → Takes l accepts o b found rest → Takes l accepts o b others left →
      length found ≤ length others → (more : List Found) × (others ≡ found ++ more)
  begins_run {others = others} none u e = (others, refl)
  begins_run (next x front back f i c t) none e = absurd (omega arith)
  begins_run {o = o} {rest = rest} {left = left} (next {found = found} x a r e i c t) (next {found = others} y a' r' f j d u) len =
      let same = same_front l l o o x y a r a' r' i j (sym e ∙ f) in
      let u' : Takes l accepts (o + length a) r others left = subst (λ (n : ℕ). Takes l accepts n r others left) (ap (λ (s : List ℕ). o + length s) (sym same.0)) (subst (λ (s : List ℕ). Takes l accepts (o + length a') s others left) (sym same.1) u) in
      let lengths : length found ≤ length others = omega arith in
      let rest_same = begins_run t u' lengths in
      let first : Value → Found = λ v. record { offset = o; item = v } in
      (rest_same.0, ap₂ (λ (v : Value) (fs : List Found). first v ∷ fs) (sym same.2) rest_same.1)
