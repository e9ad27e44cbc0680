-- Paths lead to what is at their places, and to nothing else.
use Rattle.std.proofs.Common.{◌≡◌, ℕ, zero, suc, ◌+◌, List, [], ◌∷◌, ◌++◌, length, slice_get, Some, inl, inr, refl, sym, subst, arith}
use Rattle.cbor_data.specs.Value.{Value, uint, nint, bytes, text, array, pairs, tag, simple, float, Values, no_values, value, Pairs, no_pairs, pair, places, values_places, pairs_places}
use Rattle.cbor_item.specs.Place.Leads.{member_at, HasPair, Leads, here, to_member, to_key, to_value, to_content}
use Rattle.cbor_item.specs.Place.Paths.{paths, members_paths, pairs_paths, after, member_step, key_step, value_step, content_step}
use Rattle.cbor_item.proofs.OfPlace.Counting.{after_alike}

-- the first list's element at each place is so related to the second's
abbrev Along : (List ℕ → Value → Type 0) → List (List ℕ) → List Value → Type 0
Along R [] [] = Unit {0}
Along R [] (y ∷ ys) = ⊥
Along R (p ∷ ps) [] = ⊥
Along R (p ∷ ps) (y ∷ ys) = R p y × Along R ps ys

along-append : (R : List ℕ → Value → Type 0) (ps qs : List (List ℕ)) (ys zs : List Value) → Along R ps ys → Along R qs zs → Along R (ps ++ qs) (ys ++ zs)
along-append R [] qs [] zs h j = j
along-append R [] qs (y ∷ ys) zs h j = absurd h
along-append R (p ∷ ps) qs [] zs h j = absurd h
along-append R (p ∷ ps) qs (y ∷ ys) zs h j = (h.0, along-append R ps qs ys zs h.1 j)

along-after : (R Q : List ℕ → Value → Type 0) (step : List ℕ) (ps : List (List ℕ)) (ys : List Value) → ((p : List ℕ) (y : Value) → R p y → Q (step ++ p) y) →
    Along R ps ys → Along Q (after step ps) ys
along-after R Q step [] [] f h = h
along-after R Q step [] (y ∷ ys) f h = h
along-after R Q step (p ∷ ps) [] f h = h
along-after R Q step (p ∷ ps) (y ∷ ys) f h = (f p y h.0, along-after R Q step ps ys f h.1)

along-get : (R : List ℕ → Value → Type 0) (ps : List (List ℕ)) (ys : List Value) (i : ℕ) (p : List ℕ) (y : Value) → Along R ps ys →
    slice_get ps i ≡ Some p → slice_get ys i ≡ Some y → R p y
along-get R [] ys i p y h e f = cc
along-get R (q ∷ ps) [] i p y h e f = cc
along-get R (q ∷ ps) (z ∷ ys) zero p y h e f = let a : q ≡ p = cc in let b : z ≡ y = cc in subst (R p) b (subst (λ r. R r z) a h.0)
along-get R (q ∷ ps) (z ∷ ys) (suc i) p y h e f = along-get R ps ys i p y h.1 e f

mutual
  paths_lead : (x : Value) → Along (Leads x) (paths x) (places x)
  paths_lead (uint n) = (here (uint n), tt)
  paths_lead (nint n) = (here (nint n), tt)
  paths_lead (bytes bs) = (here (bytes bs), tt)
  paths_lead (text bs) = (here (text bs), tt)
  paths_lead (array xs) =
      (here (array xs), members_paths_lead xs 0 xs (λ i x at. let same : i ≡ 0 + i = omega arith in subst (λ j. member_at xs j ≡ Some x) same at))
  paths_lead (pairs ps) = (here (pairs ps), pairs_paths_lead ps ps (λ k v has. has))
  paths_lead (tag n x) = (here (tag n x), along-after (Leads x) (Leads (tag n x)) content_step (paths x) (places x) (to_content n x) (paths_lead x))
  paths_lead (simple n) = (here (simple n), tt)
  paths_lead (float w n) = (here (float w n), tt)

  -- of the members from index k on, in an array of all
  members_paths_lead : (all : Values) (k : ℕ) (xs : Values) → ((i : ℕ) (x : Value) → member_at xs i ≡ Some x → member_at all (k + i) ≡ Some x) →
      Along (Leads (array all)) (members_paths k xs) (values_places xs)
  members_paths_lead all k no_values f = tt
  members_paths_lead all k (value x xs) f =
      let same : k + 0 ≡ k = omega arith in
      let at : member_at all k ≡ Some x = subst (λ j. member_at all j ≡ Some x) same (f 0 x refl) in
      along-append (Leads (array all)) (after (member_step k) (paths x)) (members_paths (suc k) xs) (places x) (values_places xs)
      (along-after (Leads x) (Leads (array all)) (member_step k) (paths x) (places x) (λ steps y. to_member all k x steps y at) (paths_lead x))
      (members_paths_lead all (suc k) xs (λ i z there. let next : k + suc i ≡ suc k + i = omega arith in subst (λ j. member_at all j ≡ Some z) next (f (suc i) z there)))

  pairs_paths_lead : (all ps : Pairs) → ((k v : Value) → HasPair ps k v → HasPair all k v) → Along (Leads (pairs all)) (pairs_paths ps) (pairs_places ps)
  pairs_paths_lead all no_pairs f = tt
  pairs_paths_lead all (pair k v ps) f =
      let has = f k v (inl (refl, refl)) in
      along-append (Leads (pairs all)) (after (key_step k) (paths k)) (after (value_step k) (paths v) ++ pairs_paths ps) (places k) (places v ++ pairs_places ps)
      (along-after (Leads k) (Leads (pairs all)) (key_step k) (paths k) (places k) (λ steps y. to_key all k v steps y has) (paths_lead k))
      (along-append (Leads (pairs all)) (after (value_step k) (paths v)) (pairs_paths ps) (places v) (pairs_places ps)
      (along-after (Leads v) (Leads (pairs all)) (value_step k) (paths v) (places v) (λ steps y. to_value all k v steps y has) (paths_lead v))
      (pairs_paths_lead all ps (λ l w h. f l w (inr h))))

pub path_leads : (x : Value) (place : ℕ) (steps : List ℕ) (y : Value) → slice_get (paths x) place ≡ Some steps → slice_get (places x) place ≡ Some y → Leads x steps y
path_leads x place steps y = along-get (Leads x) (paths x) (places x) place steps y (paths_lead x)

-- at some place the first list has the path and the second the item
abbrev pub Meets : List (List ℕ) → List Value → List ℕ → Value → Type 0
Meets ps ys steps y = (place : ℕ) × (slice_get ps place ≡ Some steps) × (slice_get ys place ≡ Some y)

meets-next : (q : List ℕ) (ps : List (List ℕ)) (z : Value) (ys : List Value) (steps : List ℕ) (y : Value) → Meets ps ys steps y → Meets (q ∷ ps) (z ∷ ys) steps y
meets-next q ps z ys steps y h = (suc h.0, h.1, h.2)

meets-first : (ps qs : List (List ℕ)) (ys zs : List Value) (place : ℕ) (steps : List ℕ) (y : Value) → slice_get ps place ≡ Some steps → slice_get ys place ≡ Some y →
    (slice_get (ps ++ qs) place ≡ Some steps) × (slice_get (ys ++ zs) place ≡ Some y)
meets-first [] qs ys zs place steps y e f = cc
meets-first (p ∷ ps) qs [] zs place steps y e f = cc
meets-first (p ∷ ps) qs (z ∷ ys) zs zero steps y e f = (e, f)
meets-first (p ∷ ps) qs (z ∷ ys) zs (suc place) steps y e f = meets-first ps qs ys zs place steps y e f

meets-later : (ps qs : List (List ℕ)) (ys zs : List Value) (steps : List ℕ) (y : Value) → length ps ≡ length ys → Meets qs zs steps y → Meets (ps ++ qs) (ys ++ zs) steps y
meets-later [] qs [] zs steps y same h = h
meets-later [] qs (z ∷ ys) zs steps y same h = absurd (omega arith)
meets-later (p ∷ ps) qs [] zs steps y same h = absurd (omega arith)
meets-later (p ∷ ps) qs (z ∷ ys) zs steps y same h = meets-next p (ps ++ qs) z (ys ++ zs) steps y (meets-later ps qs ys zs steps y (omega arith) h)

get-after : (step : List ℕ) (ps : List (List ℕ)) (place : ℕ) (steps : List ℕ) → slice_get ps place ≡ Some steps → slice_get (after step ps) place ≡ Some (step ++ steps)
get-after step [] place steps e = cc
get-after step (p ∷ ps) zero steps e = let same : p ≡ steps = cc in cc
get-after step (p ∷ ps) (suc place) steps e = get-after step ps place steps e

meets-after : (step : List ℕ) (ps qs : List (List ℕ)) (ys zs : List Value) (steps : List ℕ) (y : Value) → Meets ps ys steps y → Meets (after step ps ++ qs) (ys ++ zs) (step ++ steps) y
meets-after step ps qs ys zs steps y h =
    let both = meets-first (after step ps) qs ys zs h.0 (step ++ steps) y (get-after step ps h.0 steps h.1) h.2 in
    (h.0, both.0, both.1)

member_met : (k i : ℕ) (xs : Values) (x : Value) (steps : List ℕ) (y : Value) → member_at xs i ≡ Some x → Meets (paths x) (places x) steps y →
    Meets (members_paths k xs) (values_places xs) (member_step (k + i) ++ steps) y
member_met k i no_values x steps y at h = cc
member_met k zero (value z xs) x steps y at h =
    let same : z ≡ x = cc in
    let index : k ≡ k + 0 = omega arith in
    subst (λ j. Meets (members_paths k (value z xs)) (values_places (value z xs)) (member_step j ++ steps) y) index
    (meets-after (member_step k) (paths z) (members_paths (suc k) xs) (places z) (values_places xs) steps y (subst (λ v. Meets (paths v) (places v) steps y) (sym same) h))
member_met k (suc i) (value z xs) x steps y at h =
    let index : suc k + i ≡ k + suc i = omega arith in
    subst (λ j. Meets (members_paths k (value z xs)) (values_places (value z xs)) (member_step j ++ steps) y) index
    (meets-later (after (member_step k) (paths z)) (members_paths (suc k) xs) (places z) (values_places xs) (member_step (suc k + i) ++ steps) y (after_alike (member_step k) z)
    (member_met (suc k) i xs x steps y at h))

key_met : (ps : Pairs) (k v : Value) (steps : List ℕ) (y : Value) → HasPair ps k v → Meets (paths k) (places k) steps y → Meets (pairs_paths ps) (pairs_places ps) (key_step k ++ steps) y
key_met no_pairs k v steps y has h = absurd has
key_met (pair l w ps) k v steps y (inl same) h =
    subst (λ m. Meets (pairs_paths (pair l w ps)) (pairs_places (pair l w ps)) (key_step m ++ steps) y) same.0
    (meets-after (key_step l) (paths l) (after (value_step l) (paths w) ++ pairs_paths ps) (places l) (places w ++ pairs_places ps) steps y
    (subst (λ m. Meets (paths m) (places m) steps y) (sym same.0) h))
key_met (pair l w ps) k v steps y (inr has) h =
    meets-later (after (key_step l) (paths l)) (after (value_step l) (paths w) ++ pairs_paths ps) (places l) (places w ++ pairs_places ps) (key_step k ++ steps) y (after_alike (key_step l) l)
    (meets-later (after (value_step l) (paths w)) (pairs_paths ps) (places w) (pairs_places ps) (key_step k ++ steps) y (after_alike (value_step l) w)
    (key_met ps k v steps y has h))

value_met : (ps : Pairs) (k v : Value) (steps : List ℕ) (y : Value) → HasPair ps k v → Meets (paths v) (places v) steps y → Meets (pairs_paths ps) (pairs_places ps) (value_step k ++ steps) y
value_met no_pairs k v steps y has h = absurd has
value_met (pair l w ps) k v steps y (inl same) h =
    subst (λ m. Meets (pairs_paths (pair l w ps)) (pairs_places (pair l w ps)) (value_step m ++ steps) y) same.0
    (meets-later (after (key_step l) (paths l)) (after (value_step l) (paths w) ++ pairs_paths ps) (places l) (places w ++ pairs_places ps) (value_step l ++ steps) y (after_alike (key_step l) l)
    (meets-after (value_step l) (paths w) (pairs_paths ps) (places w) (pairs_places ps) steps y
    (subst (λ m. Meets (paths m) (places m) steps y) (sym same.1) h)))
value_met (pair l w ps) k v steps y (inr has) h =
    meets-later (after (key_step l) (paths l)) (after (value_step l) (paths w) ++ pairs_paths ps) (places l) (places w ++ pairs_places ps) (value_step k ++ steps) y (after_alike (key_step l) l)
    (meets-later (after (value_step l) (paths w)) (pairs_paths ps) (places w) (pairs_places ps) (value_step k ++ steps) y (after_alike (value_step l) w)
    (value_met ps k v steps y has h))

first_met : (x : Value) → Meets (paths x) (places x) [] x
first_met (uint n) = (0, refl, refl)
first_met (nint n) = (0, refl, refl)
first_met (bytes bs) = (0, refl, refl)
first_met (text bs) = (0, refl, refl)
first_met (array xs) = (0, refl, refl)
first_met (pairs ps) = (0, refl, refl)
first_met (tag n x) = (0, refl, refl)
first_met (simple n) = (0, refl, refl)
first_met (float w n) = (0, refl, refl)

-- what steps lead to is at a place with that path
pub led_found : (x : Value) (steps : List ℕ) (y : Value) → Leads x steps y → Meets (paths x) (places x) steps y
led_found x steps y (here z) = first_met z
led_found x steps y (to_member xs i z rest w at l) =
    let index : 0 + i ≡ i = omega arith in
    meets-next [] (members_paths 0 xs) (array xs) (values_places xs) (member_step i ++ rest) w
    (subst (λ j. Meets (members_paths 0 xs) (values_places xs) (member_step j ++ rest) w) index (member_met 0 i xs z rest w at (led_found z rest w l)))
led_found x steps y (to_key ps k v rest w has l) =
    meets-next [] (pairs_paths ps) (pairs ps) (pairs_places ps) (key_step k ++ rest) w (key_met ps k v rest w has (led_found k rest w l))
led_found x steps y (to_value ps k v rest w has l) =
    meets-next [] (pairs_paths ps) (pairs ps) (pairs_places ps) (value_step k ++ rest) w (value_met ps k v rest w has (led_found v rest w l))
led_found x steps y (to_content n z rest w l) =
    let below = led_found z rest w l in
    meets-next [] (after content_step (paths z)) (tag n z) (places z) (content_step ++ rest) w (below.0, get-after content_step (paths z) below.0 rest below.1, below.2)
