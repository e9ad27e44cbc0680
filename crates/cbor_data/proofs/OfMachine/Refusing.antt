-- What is wrong with a byte that the machine refuses.
use Rattle.std.proofs.Common.{◌≡◌, ◌≢◌, ℕ, zero, suc, ◌-◌, ◌/◌, ◌%◌, ◌<◌, ◌≤◌, List, [], ◌∷◌, ◌++◌, Option, Some, None, option_and_then, ◌==◌, true, false, ◌⊎◌, inl, inr, refl, sym, ap, ◌∙◌, subst, arith}
use Rattle.std.proofs.lemmas.Bool.Decides.{nat_tests}
use Rattle.lists.proofs.Lemmas.{tested}
use Rattle.cbor_data.specs.Preferred.{initial}
use Rattle.cbor_data.specs.Forms.{Begins}
use Rattle.cbor_data.specs.Faults.{AwaitsItem, AwaitsChunk, AwaitsSimple, IsKindOf}
use Rattle.cbor_data.specs.declared.FaultKind.{FaultKind}
use Rattle.cbor_data.specs.declared.FaultKind.TheVariants.{ReservedInfo, BadIndefinite, BadBreak, BadChunk, BadSimple, TooDeep, TooLong, Truncated, BadText, DuplicateKey}
use Rattle.cbor_data.specs.Machine.Machine.{State, Frame, item, argument, body, chunk, chunk_argument, chunk_body, simple, done, give, step, steps, start, start_chunk, given, more, refused_kind}
use Rattle.cbor_data.specs.Machine.Reads.{Leads}
use Rattle.cbor_data.proofs.OfMachine.Forward.{completes, Completes, refused, steps-append}
use Rattle.cbor_data.proofs.OfMachine.Keeping.{IsString, ChunksRead, reached, done_whole, bytes-append, says_given, says_more, says_indefinite, says_reserved, information}

-- a byte more
pub one_more : (b : List ℕ) (s : State) (x : ℕ) → Leads b s → steps (item []) (b ++ x ∷ []) ≡ step s x
one_more b s x l = steps-append (item []) b (x ∷ []) ∙ (ap (option_and_then (λ t. steps t (x ∷ []))) l.is ∙ last (step s x))
  where
    last : (o : Option State) → option_and_then (λ t. Some t) o ≡ o
    last None = refl
    last (Some t) = refl

-- whatever leads on begins a well-formed list
pub leads_begins : (b : List ℕ) (s : State) → Leads b s → Begins b
leads_begins b s l =
    let c : Completes s = completes s in
    let is : steps (item []) (b ++ c.more) ≡ Some done = steps-append (item []) b c.more ∙ (ap (option_and_then (λ t. steps t c.more)) l.is ∙ c.done) in
    (c.more, done_whole (b ++ c.more) (bytes-append b c.more l.are c.bytes) is)

pub step_begins : (b : List ℕ) (s t : State) (x : ℕ) → Leads b s → x < 256 → step s x ≡ Some t → Begins (b ++ x ∷ [])
step_begins b s t x l small e = leads_begins (b ++ x ∷ []) t (record { are = bytes-append b (x ∷ []) l.are (small, tt); is = one_more b s x l ∙ e })

pub step_refuses : (b : List ℕ) (s : State) (x : ℕ) → Leads b s → step s x ≡ None → Begins (b ++ x ∷ []) → ⊥
step_refuses b s x l e = refused (b ++ x ∷ []) (one_more b s x l ∙ e)

-- what is awaited, by the state

awaits_item : (b : List ℕ) (K : List Frame) → Leads b (item K) → AwaitsItem b
awaits_item b K l = step_begins b (item K) (give K) 0 l (omega arith) refl

chunk_this : (m : ℕ) (K : List Frame) → IsString m → (t : State) × (step (chunk m K) (initial m 0) ≡ Some t)
chunk_this m K (inl e) = subst (λ k. (t : State) × (step (chunk k K) (initial k 0) ≡ Some t)) (sym e) (chunk 2 K, refl)
chunk_this m K (inr e) = subst (λ k. (t : State) × (step (chunk k K) (initial k 0) ≡ Some t)) (sym e) (chunk 3 K, refl)

chunk_that : (m : ℕ) (K : List Frame) → IsString m → step (chunk m K) (initial (5 - m) 0) ≡ None
chunk_that m K (inl e) = subst (λ k. step (chunk k K) (initial (5 - k) 0) ≡ None) (sym e) refl
chunk_that m K (inr e) = subst (λ k. step (chunk k K) (initial (5 - k) 0) ≡ None) (sym e) refl

string_small : (m : ℕ) → IsString m → initial m 0 < 256
string_small m (inl e) = omega arith
string_small m (inr e) = omega arith

awaits_chunk : (b : List ℕ) (m : ℕ) (K : List Frame) → Leads b (chunk m K) → AwaitsChunk m b
awaits_chunk b m K l =
    let r : ChunksRead m K b = reached b (chunk m K) l.are l.is in
    let this = chunk_this m K r.string in
    record {
      string = r.string;
      this = step_begins b (chunk m K) this.0 (initial m 0) l (string_small m r.string) this.1;
      not_that = step_refuses b (chunk m K) (initial (5 - m) 0) l (chunk_that m K r.string);
    }

-- where both empty strings may come, no chunk is awaited
both_strings : (b : List ℕ) (m : ℕ) → Begins (b ++ initial 2 0 ∷ []) → Begins (b ++ initial 3 0 ∷ []) → AwaitsChunk m b → ⊥
both_strings b m bytes text a = other m a.string a.not_that
  where
    other : (m : ℕ) → (m ≡ 2) ⊎ (m ≡ 3) → (Begins (b ++ initial (5 - m) 0 ∷ []) → ⊥) → ⊥
    other m (inl e) n = n (subst (λ k. Begins (b ++ initial (5 - k) 0 ∷ [])) (sym e) text)
    other m (inr e) n = n (subst (λ k. Begins (b ++ initial (5 - k) 0 ∷ [])) (sym e) bytes)

simple_no_chunk : (b : List ℕ) (m : ℕ) (K : List Frame) → Leads b (simple K) → AwaitsChunk m b → ⊥
simple_no_chunk b m K l = both_strings b m (step_begins b (simple K) (give K) 64 l (omega arith) refl) (step_begins b (simple K) (give K) 96 l (omega arith) refl)

awaits_simple : (b : List ℕ) (K : List Frame) → Leads b (simple K) → AwaitsSimple b
awaits_simple b K l = record {
  not_item = step_refuses b (simple K) 0 l refl;
  not_chunk = λ m. simple_no_chunk b m K l;
}

-- a byte that is refused where an item is awaited
item_refuses : (x : ℕ) (K : List Frame) → x < 256 → step (item K) x ≡ None → ((28 ≤ x % 32) × (x % 32 ≤ 30)) ⊎ (x % 32 ≡ 31)
item_refuses x K small e = elim (information (x % 32) (omega arith)) [
  | says_given few f ↦ let some : start (x / 32) (given (x % 32)) K ≡ None = subst (λ j. start (x / 32) j K ≡ None) f e in absurd (cc)
  | says_more p k is least width f ↦ let some : start (x / 32) (more k) K ≡ None = subst (λ j. start (x / 32) j K ≡ None) f e in absurd (cc)
  | says_indefinite is f ↦ inr is
  | says_reserved low high f ↦ inl (low, high)
]

item_kind : (b : List ℕ) (x : ℕ) (K : List Frame) → Leads b (item K) → x < 256 → step (item K) x ≡ None → IsKindOf b x (refused_kind (item K) x)
item_kind b x K l small e = elim (item_refuses x K small e) [
  | inl r ↦
      let t : (x % 32 == 31) ≡ false = (let low : 28 ≤ x % 32 = r.0 in let high : x % 32 ≤ 30 = r.1 in grind (arith, nat_tests)) in
      rw t (inl (awaits_item b K l, r))
  | inr i ↦
      let t : (x % 32 == 31) ≡ true = grind (arith, nat_tests) in
      elim (tested (x / 32 == 7)) [
        | inl u ↦ let major : x / 32 ≡ 7 = grind (arith, nat_tests) in rw (t, u) (awaits_item b K l, omega arith)
        | inr u ↦ let major : x / 32 ≢ 7 = grind (arith, nat_tests) in rw (t, u) (awaits_item b K l, i, major)
      ]
]

chunk_kind : (b : List ℕ) (m x : ℕ) (K : List Frame) → Leads b (chunk m K) → x < 256 → step (chunk m K) x ≡ None → IsKindOf b x (refused_kind (chunk m K) x)
chunk_kind b m x K l small e = elim (tested (x == 255)) [
  | inl u ↦ let e1 = rw u at e in absurd (cc)
  | inr u ↦ let e1 = rw u at e in elim (tested (x / 32 == m)) [
    | inl v ↦
        let major : x / 32 ≡ m = grind (arith, nat_tests) in
        let e2 = rw v at e1 in
        elim (information (x % 32) (omega arith)) [
          | says_given few f ↦ let some : start_chunk m (given (x % 32)) K ≡ None = subst (λ j. start_chunk m j K ≡ None) f e2 in absurd (cc)
          | says_more p k is least width f ↦ let some : start_chunk m (more k) K ≡ None = subst (λ j. start_chunk m j K ≡ None) f e2 in absurd (cc)
          | says_indefinite is f ↦
              let t : (x % 32 == 31) ≡ true = grind (arith, nat_tests) in
              rw (v, t) (m, awaits_chunk b m K l, inr is)
          | says_reserved low high f ↦
              let t : (x % 32 == 31) ≡ false = grind (arith, nat_tests) in
              rw (v, t) (inr (subst (λ k. AwaitsChunk k b) (sym major) (awaits_chunk b m K l), (low, high)))
        ]
    | inr v ↦
        let other : x / 32 ≢ m = grind (arith, nat_tests) in
        rw v (m, awaits_chunk b m K l, inl other)
  ]
]

-- a byte that the machine refuses is wrong in just this way
pub refused_is_kind : (b : List ℕ) (s : State) (x : ℕ) → Leads b s → s ≢ done → x < 256 → step s x ≡ None → IsKindOf b x (refused_kind s x)
refused_is_kind b (item K) x l live small e = item_kind b x K l small e
refused_is_kind b (argument m zero n K) x l live small e = absurd (cc)
refused_is_kind b (argument m (suc k) n K) x l live small e = absurd (cc)
refused_is_kind b (body zero K) x l live small e = absurd (cc)
refused_is_kind b (body (suc k) K) x l live small e = absurd (cc)
refused_is_kind b (chunk m K) x l live small e = chunk_kind b m x K l small e
refused_is_kind b (chunk_argument m zero n K) x l live small e = absurd (cc)
refused_is_kind b (chunk_argument m (suc k) n K) x l live small e = absurd (cc)
refused_is_kind b (chunk_body m zero K) x l live small e = absurd (cc)
refused_is_kind b (chunk_body m (suc k) K) x l live small e = absurd (cc)
refused_is_kind b (simple K) x l live small e = awaits_simple b K l
refused_is_kind b done x l live small e = absurd (live refl)

-- a byte that the machine refuses is wrong in no other way

item_no_chunk : (b : List ℕ) (m : ℕ) (K : List Frame) → Leads b (item K) → AwaitsChunk m b → ⊥
item_no_chunk b m K l = both_strings b m (step_begins b (item K) (give K) 64 l (omega arith) refl) (step_begins b (item K) (give K) 96 l (omega arith) refl)

item_only : (b : List ℕ) (x : ℕ) (K : List Frame) (kind : FaultKind) → Leads b (item K) → IsKindOf b x kind → kind ≡ refused_kind (item K) x
item_only b x K ReservedInfo l (inl r) =
    let low : 28 ≤ x % 32 = r.1.0 in
    let high : x % 32 ≤ 30 = r.1.1 in
    let t : (x % 32 == 31) ≡ false = grind (arith, nat_tests) in
    rw t refl
item_only b x K ReservedInfo l (inr r) = absurd (item_no_chunk b (x / 32) K l r.0)
item_only b x K BadIndefinite l r =
    let last : x % 32 ≡ 31 = r.1 in
    let major : x / 32 ≢ 7 = r.2 in
    let t : (x % 32 == 31) ≡ true = grind (arith, nat_tests) in
    let u : (x / 32 == 7) ≡ false = grind (arith, nat_tests) in
    rw (t, u) refl
item_only b x K BadBreak l r = rw r.1 refl
item_only b x K BadChunk l r = absurd (item_no_chunk b r.0 K l r.1)
item_only b x K BadSimple l r = absurd (r.not_item (awaits_item b K l))
item_only b x K TooDeep l r = absurd r
item_only b x K TooLong l r = absurd r
item_only b x K Truncated l r = absurd r
item_only b x K BadText l r = absurd r
item_only b x K DuplicateKey l r = absurd r

chunk_zero : (m : ℕ) (K : List Frame) → IsString m → step (chunk m K) 0 ≡ None
chunk_zero m K (inl e) = subst (λ k. step (chunk k K) 0 ≡ None) (sym e) refl
chunk_zero m K (inr e) = subst (λ k. step (chunk k K) 0 ≡ None) (sym e) refl

chunk_no_item : (b : List ℕ) (m : ℕ) (K : List Frame) → Leads b (chunk m K) → AwaitsItem b → ⊥
chunk_no_item b m K l = step_refuses b (chunk m K) 0 l (chunk_zero m K (awaits_chunk b m K l).string)

chunk_major : (b : List ℕ) (m k : ℕ) (K : List Frame) → Leads b (chunk m K) → AwaitsChunk k b → k ≡ m
chunk_major b m k K l a = let own = awaits_chunk b m K l in same m k own.string a.string own.not_that a.this
  where
    same : (m k : ℕ) → IsString m → IsString k → (Begins (b ++ initial (5 - m) 0 ∷ []) → ⊥) → Begins (b ++ initial k 0 ∷ []) → k ≡ m
    same m k (inl e) (inl f) not this = f ∙ sym e
    same m k (inr e) (inr f) not this = f ∙ sym e
    same m k (inl e) (inr f) not this = let other : k ≡ 5 - m = omega (arith, e, f) in absurd (not (subst (λ j. Begins (b ++ initial j 0 ∷ [])) other this))
    same m k (inr e) (inl f) not this = let other : k ≡ 5 - m = omega (arith, e, f) in absurd (not (subst (λ j. Begins (b ++ initial j 0 ∷ [])) other this))

chunk_only : (b : List ℕ) (m x : ℕ) (K : List Frame) (kind : FaultKind) → Leads b (chunk m K) → IsKindOf b x kind → kind ≡ refused_kind (chunk m K) x
chunk_only b m x K ReservedInfo l (inl r) = absurd (chunk_no_item b m K l r.0)
chunk_only b m x K ReservedInfo l (inr r) =
    let major : x / 32 ≡ m = chunk_major b m (x / 32) K l r.0 in
    let low : 28 ≤ x % 32 = r.1.0 in
    let high : x % 32 ≤ 30 = r.1.1 in
    let v : (x / 32 == m) ≡ true = grind (arith, nat_tests) in
    let t : (x % 32 == 31) ≡ false = grind (arith, nat_tests) in
    rw (v, t) refl
chunk_only b m x K BadIndefinite l r = absurd (chunk_no_item b m K l r.0)
chunk_only b m x K BadBreak l r = absurd (chunk_no_item b m K l r.0)
chunk_only b m x K BadChunk l (k, a, inl other) =
    let major : k ≡ m = chunk_major b m k K l a in
    let v : (x / 32 == m) ≡ false = grind (arith, nat_tests) in
    rw v refl
chunk_only b m x K BadChunk l (k, a, inr last) =
    let t : (x % 32 == 31) ≡ true = grind (arith, nat_tests) in
    elim (tested (x / 32 == m)) [
      | inl v ↦ rw (v, t) refl
      | inr v ↦ rw v refl
    ]
chunk_only b m x K BadSimple l r = absurd (r.not_chunk m (awaits_chunk b m K l))
chunk_only b m x K TooDeep l r = absurd r
chunk_only b m x K TooLong l r = absurd r
chunk_only b m x K Truncated l r = absurd r
chunk_only b m x K BadText l r = absurd r
chunk_only b m x K DuplicateKey l r = absurd r

simple_only : (b : List ℕ) (x : ℕ) (K : List Frame) (kind : FaultKind) → Leads b (simple K) → IsKindOf b x kind → kind ≡ BadSimple
simple_only b x K ReservedInfo l (inl r) = absurd (step_refuses b (simple K) 0 l refl r.0)
simple_only b x K ReservedInfo l (inr r) = absurd (simple_no_chunk b (x / 32) K l r.0)
simple_only b x K BadIndefinite l r = absurd (step_refuses b (simple K) 0 l refl r.0)
simple_only b x K BadBreak l r = absurd (step_refuses b (simple K) 0 l refl r.0)
simple_only b x K BadChunk l r = absurd (simple_no_chunk b r.0 K l r.1)
simple_only b x K BadSimple l r = refl
simple_only b x K TooDeep l r = absurd r
simple_only b x K TooLong l r = absurd r
simple_only b x K Truncated l r = absurd r
simple_only b x K BadText l r = absurd r
simple_only b x K DuplicateKey l r = absurd r

pub only_kind : (b : List ℕ) (s : State) (x : ℕ) (kind : FaultKind) → Leads b s → s ≢ done → step s x ≡ None → IsKindOf b x kind → kind ≡ refused_kind s x
only_kind b (item K) x kind l live e r = item_only b x K kind l r
only_kind b (argument m zero n K) x kind l live e r = absurd (cc)
only_kind b (argument m (suc k) n K) x kind l live e r = absurd (cc)
only_kind b (body zero K) x kind l live e r = absurd (cc)
only_kind b (body (suc k) K) x kind l live e r = absurd (cc)
only_kind b (chunk m K) x kind l live e r = chunk_only b m x K kind l r
only_kind b (chunk_argument m zero n K) x kind l live e r = absurd (cc)
only_kind b (chunk_argument m (suc k) n K) x kind l live e r = absurd (cc)
only_kind b (chunk_body m zero K) x kind l live e r = absurd (cc)
only_kind b (chunk_body m (suc k) K) x kind l live e r = absurd (cc)
only_kind b (simple K) x kind l live e r = simple_only b x K kind l r
only_kind b done x kind l live e r = absurd (live refl)
