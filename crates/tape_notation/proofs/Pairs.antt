-- The pairs of a map, shown one after the other.
use Rattle.std.proofs.Common.{◌≡◌, ℕ, zero, suc, ◌+◌, ◌-◌, ◌<◌, ◌≤◌, List, [], ◌++◌, length, get_or, refl, sym, ap, ◌∙◌, subst, arith, append_assoc, append-nil, length-append}
use Rattle.std.specs.Prelude.{codes}
use Rattle.cbor_data.specs.Notation.{notation, pairs_notation, further_pairs_notation}
use Rattle.cbor_data.specs.Value.{Value, Pairs, no_pairs, pair, places, pairs_places, pairs}
use Rattle.cbor_tape.specs.declared.entry.Entry.{Entry}
use Rattle.cbor_tape.proofs.Lemmas.{places_counted}
use Rattle.item_nodes.specs.Comma.{comma}
use Rattle.cbor_tape.specs.Places.{AreOn}
use Rattle.tape_notation.specs.OnTape.{ArePairsOn}
use Rattle.tape_notation.specs.Put.{IsPut}
use Rattle.cbor_tape.proofs.OfPlaces.Lemmas.{these_on, those_on}
use Rattle.tape_notation.proofs.OnTape.{IsHere, item_here}
use Rattle.tape_notation.proofs.Puts.{more_put}

-- the pairs that are left, where so many places are before them
abbrev pairs_from : ℕ → Pairs → List ℕ
pairs_from zero ps = pairs_notation ps
pairs_from (suc i) ps = further_pairs_notation ps

abbrev pair_text : Value → Value → List ℕ
pair_text k v = notation k ++ (codes ": " ++ notation v)

pairs_from-pair : (i j : ℕ) (k v : Value) (ps : Pairs) → 0 < j → pairs_from i (pair k v ps) ≡ comma i ++ (notation k ++ (codes ": " ++ (notation v ++ pairs_from j ps)))
pairs_from-pair i zero k v ps some = absurd (omega arith)
pairs_from-pair zero (suc j) k v ps some = refl
pairs_from-pair (suc i) (suc j) k v ps some = refl

pairs_from-none : (i : ℕ) → pairs_from i no_pairs ≡ []
pairs_from-none zero = refl
pairs_from-none (suc i) = refl

-- pairs that are shown so far, and those that are left
pub record ArePairsShown (b : List ℕ) (t : List Entry) (old new : List ℕ) (at before key next end : ℕ) (ps : Pairs) : Type 0 where
  pub left : Pairs
  pub there : ArePairsOn b t key next left
  pub done : List ℕ
  pub put : IsPut old new at done end
  pub all : done ++ pairs_from before left ≡ codes "{" ++ pairs_notation ps

pub no_pair_shown : (b : List ℕ) (t : List Entry) (old new : List ℕ) (at place next end : ℕ) (ps : Pairs) → ArePairsOn b t place next ps → IsPut old new at (codes "{") end → ArePairsShown b t old new at (place - place) place next end ps
no_pair_shown b t old new at place next end ps on put =
    let none : 0 ≡ place - place = omega arith in
    subst (λ k. ArePairsShown b t old new at k place next end ps) none (record { left = ps; there = on; done = codes "{"; put = put; all = refl })

-- the first pair that is left, and the further ones
pub record IsPairNext (b : List ℕ) (t : List Entry) (key next : ℕ) (left : Pairs) (d : Entry) : Type 0 where
  pub first : Value
  pub second : Value
  pub more : Pairs
  pub split : left ≡ pair first second more
  pub key_on : AreOn b t key (places first)
  pub key_here : IsHere b t key first (get_or t key d)
  pub value_on : AreOn b t (get_or t key d).next (places second)
  pub value_here : IsHere b t (get_or t key d).next second (get_or t (get_or t key d).next d)
  pub there : ArePairsOn b t (get_or t (get_or t key d).next d).next next more

pub pair_next : (b : List ℕ) (t : List Entry) (key next : ℕ) (left : Pairs) (d : Entry) → ArePairsOn b t key next left → key < next → IsPairNext b t key next left d
pair_next b t key next no_pairs d h some = absurd (omega (arith, h.counted))
pair_next b t key next (pair k v ps) d h some =
    let key_on = these_on b t key (places k) (places v ++ pairs_places ps) h.on in
    let key_here = item_here b t key k d key_on in
    let at_value : ℕ = (get_or t key d).next in
    let behind = those_on b t key at_value (places k) (places v ++ pairs_places ps) (omega (arith, key_here.next, places_counted k)) h.on in
    let value_on = these_on b t at_value (places v) (pairs_places ps) behind in
    let value_here = item_here b t at_value v d value_on in
    let at_next : ℕ = (get_or t at_value d).next in
    record {
      first = k;
      second = v;
      more = ps;
      split = refl;
      key_on = key_on;
      key_here = key_here;
      value_on = value_on;
      value_here = value_here;
      there = record {
        on = those_on b t at_value at_next (places v) (pairs_places ps) (omega (arith, value_here.next, places_counted v)) behind;
        counted = omega (arith, h.counted, key_here.next, value_here.next);
      };
    }

-- the room that is left for a pair, with what is before it, where the whole map had room
pub pair_room : (b : List ℕ) (t : List Entry) (old out : List ℕ) (at place key next end : ℕ) (ps : Pairs) (d : Entry) → place ≤ key → at + length (notation (pairs ps)) ≤ length old → (s : ArePairsShown b t old out at (key - place) key next end ps) → (n : IsPairNext b t key next s.left d) →
    end + length (comma (key - place) ++ (notation n.first ++ (codes ": " ++ notation n.second))) ≤ length out
pair_room b t old out at place key next end ps d from room s n =
    let i : ℕ = key - place in
    let beyond : ℕ = (get_or t (get_or t key d).next d).next in
    let j : ℕ = beyond - place in
    let some : 0 < j = omega (arith, n.key_here.next, n.key_here.some, n.value_here.next) in
    let left = pairs_from j n.more in
    let own = comma i ++ (notation n.first ++ (codes ": " ++ notation n.second)) in
    let regroup : own ++ left ≡ comma i ++ (notation n.first ++ (codes ": " ++ (notation n.second ++ left))) = simp append_assoc in
    let split : pairs_from i s.left ≡ own ++ left = ap (pairs_from i) n.split ∙ (pairs_from-pair i j n.first n.second n.more some ∙ sym regroup) in
    omega (arith, room, s.put.placed, s.put.long, ap length s.all, ap length split, length-append s.done (pairs_from i s.left), length-append own left, length-append (pairs_notation ps) (codes "}"))

-- the room that is left for the end
pub brace_room : (b : List ℕ) (t : List Entry) (old out : List ℕ) (at before key next end : ℕ) (ps : Pairs) → at + length (notation (pairs ps)) ≤ length old → (s : ArePairsShown b t old out at before key next end ps) → end + length (codes "}") ≤ length out
brace_room b t old out at before key next end ps room s =
    omega (arith, room, s.put.placed, s.put.long, ap length s.all, length-append s.done (pairs_from before s.left), length-append (pairs_notation ps) (codes "}"))

pub one_pair : (b : List ℕ) (t : List Entry) (old out o1 o2 o3 new : List ℕ) (at place key next end e1 e2 e3 after : ℕ) (ps : Pairs) (d : Entry) → place ≤ key → (s : ArePairsShown b t old out at (key - place) key next end ps) → (n : IsPairNext b t key next s.left d) →
    IsPut out o1 end (comma (key - place)) e1 → IsPut o1 o2 e1 (notation n.first) e2 → IsPut o2 o3 e2 (codes ": ") e3 → IsPut o3 new e3 (notation n.second) after →
    ArePairsShown b t old new at ((get_or t (get_or t key d).next d).next - place) (get_or t (get_or t key d).next d).next next after ps
one_pair b t old out o1 o2 o3 new at place key next end e1 e2 e3 after ps d from s n parted keyed between shown =
    let i : ℕ = key - place in
    let beyond : ℕ = (get_or t (get_or t key d).next d).next in
    let j : ℕ = beyond - place in
    let some : 0 < j = omega (arith, n.key_here.next, n.key_here.some, n.value_here.next) in
    let own = comma i ++ (notation n.first ++ (codes ": " ++ notation n.second)) in
    let regroup : own ++ pairs_from j n.more ≡ comma i ++ (notation n.first ++ (codes ": " ++ (notation n.second ++ pairs_from j n.more))) = simp append_assoc in
    record {
      left = n.more;
      there = n.there;
      done = s.done ++ own;
      put = more_put old out new at end after s.done own s.put
          (more_put out o1 new end e1 after (comma i) (notation n.first ++ (codes ": " ++ notation n.second)) parted
          (more_put o1 o2 new e1 e2 after (notation n.first) (codes ": " ++ notation n.second) keyed (more_put o2 o3 new e2 e3 after (codes ": ") (notation n.second) between shown)));
      all = append_assoc s.done own (pairs_from j n.more)
          ∙ (ap (λ r. s.done ++ r) (regroup ∙ sym (pairs_from-pair i j n.first n.second n.more some)) ∙ (ap (λ r. s.done ++ pairs_from i r) (sym n.split) ∙ s.all));
    }

-- none is left
pub pairs_shown : (b : List ℕ) (t : List Entry) (old out new : List ℕ) (at before key next end after : ℕ) (ps : Pairs) → ArePairsShown b t old out at before key next end ps → next ≤ key → IsPut out new end (codes "}") after → IsPut old new at (notation (pairs ps)) after
pairs_shown b t old out new at before key next end after ps s ends closed = by s.left s.there s.all
  where
    by : (left : Pairs) → ArePairsOn b t key next left → s.done ++ pairs_from before left ≡ codes "{" ++ pairs_notation ps → IsPut old new at (notation (pairs ps)) after
    by no_pairs there all =
        let done : s.done ≡ codes "{" ++ pairs_notation ps = sym (append-nil s.done) ∙ (ap (λ r. s.done ++ r) (sym (pairs_from-none before)) ∙ all) in
        subst (λ r. IsPut old new at r after) (ap (λ r. r ++ codes "}") done ∙ append_assoc (codes "{") (pairs_notation ps) (codes "}")) (more_put old out new at end after s.done (codes "}") s.put closed)
    by (pair k v qs) there all =
        let on = these_on b t key (places k) (places v ++ pairs_places qs) there.on in
        let here = item_here b t key k (record { head = 0; next = 0 }) on in
        absurd (omega (arith, there.counted, here.some))
