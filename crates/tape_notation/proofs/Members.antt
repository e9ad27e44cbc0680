-- The members of an array, shown one after the other.
use Rattle.std.proofs.Common.{◌≡◌, ℕ, zero, suc, ◌+◌, ◌-◌, ◌<◌, ◌≤◌, List, [], ◌++◌, length, get_or, refl, sym, ap, ◌∙◌, subst, arith, append_assoc, append-nil, length-append}
use Rattle.std.specs.Prelude.{codes}
use Rattle.cbor_data.specs.Notation.{notation, members_notation, further_members_notation}
use Rattle.cbor_data.specs.Value.{Value, Values, no_values, value, places, values_places, array}
use Rattle.cbor_tape.specs.declared.entry.Entry.{Entry}
use Rattle.cbor_tape.proofs.Lemmas.{places_counted}
use Rattle.item_nodes.specs.Comma.{comma}
use Rattle.cbor_tape.specs.Places.{AreOn}
use Rattle.tape_notation.specs.OnTape.{AreMembersOn}
use Rattle.tape_notation.specs.Put.{IsPut}
use Rattle.cbor_tape.proofs.OfPlaces.Lemmas.{these_on, those_on}
use Rattle.tape_notation.proofs.OnTape.{IsHere, item_here}
use Rattle.tape_notation.proofs.Puts.{more_put}

-- the members that are left, where so many places are before them
abbrev members_from : ℕ → Values → List ℕ
members_from zero xs = members_notation xs
members_from (suc i) xs = further_members_notation xs

members_from-value : (i j : ℕ) (x : Value) (xs : Values) → 0 < j → members_from i (value x xs) ≡ comma i ++ (notation x ++ members_from j xs)
members_from-value i zero x xs some = absurd (omega arith)
members_from-value zero (suc j) x xs some = refl
members_from-value (suc i) (suc j) x xs some = refl

members_from-none : (i : ℕ) → members_from i no_values ≡ []
members_from-none zero = refl
members_from-none (suc i) = refl

-- members that are shown so far, and those that are left
pub record AreMembersShown (b : List ℕ) (t : List Entry) (old new : List ℕ) (at before member next end : ℕ) (xs : Values) : Type 0 where
  pub left : Values
  pub there : AreMembersOn b t member next left
  pub done : List ℕ
  pub put : IsPut old new at done end
  pub all : done ++ members_from before left ≡ codes "[" ++ members_notation xs

pub no_member_shown : (b : List ℕ) (t : List Entry) (old new : List ℕ) (at place next end : ℕ) (xs : Values) → AreMembersOn b t place next xs → IsPut old new at (codes "[") end → AreMembersShown b t old new at (place - place) place next end xs
no_member_shown b t old new at place next end xs on put =
    let none : 0 ≡ place - place = omega arith in
    subst (λ k. AreMembersShown b t old new at k place next end xs) none (record { left = xs; there = on; done = codes "["; put = put; all = refl })

-- the first member that is left, and the further ones
pub record IsMemberNext (b : List ℕ) (t : List Entry) (member next : ℕ) (left : Values) (e : Entry) : Type 0 where
  pub first : Value
  pub more : Values
  pub split : left ≡ value first more
  pub on : AreOn b t member (places first)
  pub there : AreMembersOn b t e.next next more
  pub here : IsHere b t member first e
  pub ahead : member < e.next
  pub up_to : e.next ≤ next

pub member_next : (b : List ℕ) (t : List Entry) (member next : ℕ) (left : Values) (d : Entry) → AreMembersOn b t member next left → member < next → IsMemberNext b t member next left (get_or t member d)
member_next b t member next no_values d h some = absurd (omega (arith, h.counted))
member_next b t member next (value x xs) d h some =
    let on = these_on b t member (places x) (values_places xs) h.on in
    let here = item_here b t member x d on in
    let e = get_or t member d in
    record {
      first = x;
      more = xs;
      split = refl;
      on = on;
      there = record {
        on = those_on b t member e.next (places x) (values_places xs) (omega (arith, here.next, places_counted x)) h.on;
        counted = omega (arith, h.counted, here.next);
      };
      here = here;
      ahead = omega (arith, here.next, here.some);
      up_to = omega (arith, h.counted, here.next);
    }

-- the room that is left for a member, with what is before it, where the whole array had room
pub member_room : (b : List ℕ) (t : List Entry) (old out : List ℕ) (at place member next end : ℕ) (xs : Values) (e : Entry) → place ≤ member → at + length (notation (array xs)) ≤ length old → (s : AreMembersShown b t old out at (member - place) member next end xs) → (n : IsMemberNext b t member next s.left e) →
    end + length (comma (member - place) ++ notation n.first) ≤ length out
member_room b t old out at place member next end xs e from room s n =
    let i : ℕ = member - place in
    let j : ℕ = e.next - place in
    let some : 0 < j = omega (arith, n.ahead) in
    let left = members_from j n.more in
    let own = comma i ++ notation n.first in
    let split : members_from i s.left ≡ own ++ left = ap (members_from i) n.split ∙ (members_from-value i j n.first n.more some ∙ sym (append_assoc (comma i) (notation n.first) left)) in
    omega (arith, room, s.put.placed, s.put.long, ap length s.all, ap length split, length-append s.done (members_from i s.left), length-append own left, length-append (members_notation xs) (codes "]"))

-- the room that is left for the end
pub bracket_room : (b : List ℕ) (t : List Entry) (old out : List ℕ) (at before member next end : ℕ) (xs : Values) → at + length (notation (array xs)) ≤ length old → (s : AreMembersShown b t old out at before member next end xs) → end + length (codes "]") ≤ length out
bracket_room b t old out at before member next end xs room s =
    omega (arith, room, s.put.placed, s.put.long, ap length s.all, length-append s.done (members_from before s.left), length-append (members_notation xs) (codes "]"))

pub one_member : (b : List ℕ) (t : List Entry) (old out mid new : List ℕ) (at place member next end middle after : ℕ) (xs : Values) (e : Entry) → place ≤ member → (s : AreMembersShown b t old out at (member - place) member next end xs) → (n : IsMemberNext b t member next s.left e) →
    IsPut out mid end (comma (member - place)) middle → IsPut mid new middle (notation n.first) after → AreMembersShown b t old new at (e.next - place) e.next next after xs
one_member b t old out mid new at place member next end middle after xs e from s n parted shown =
    let i : ℕ = member - place in
    let j : ℕ = e.next - place in
    let some : 0 < j = omega (arith, n.ahead) in
    record {
      left = n.more;
      there = n.there;
      done = s.done ++ (comma i ++ notation n.first);
      put = more_put old out new at end after s.done (comma i ++ notation n.first) s.put (more_put out mid new end middle after (comma i) (notation n.first) parted shown);
      all = append_assoc s.done (comma i ++ notation n.first) (members_from j n.more)
          ∙ (ap (λ r. s.done ++ r) (append_assoc (comma i) (notation n.first) (members_from j n.more) ∙ sym (members_from-value i j n.first n.more some)) ∙ (ap (λ r. s.done ++ members_from i r) (sym n.split) ∙ s.all));
    }

-- none is left
pub members_shown : (b : List ℕ) (t : List Entry) (old out new : List ℕ) (at before member next end after : ℕ) (xs : Values) → AreMembersShown b t old out at before member next end xs → next ≤ member → IsPut out new end (codes "]") after → IsPut old new at (notation (array xs)) after
members_shown b t old out new at before member next end after xs s ends closed = by s.left s.there s.all
  where
    by : (left : Values) → AreMembersOn b t member next left → s.done ++ members_from before left ≡ codes "[" ++ members_notation xs → IsPut old new at (notation (array xs)) after
    by no_values there all =
        let done : s.done ≡ codes "[" ++ members_notation xs = sym (append-nil s.done) ∙ (ap (λ r. s.done ++ r) (sym (members_from-none before)) ∙ all) in
        subst (λ r. IsPut old new at r after) (ap (λ r. r ++ codes "]") done ∙ append_assoc (codes "[") (members_notation xs) (codes "]")) (more_put old out new at end after s.done (codes "]") s.put closed)
    by (value x ys) there all =
        let on = these_on b t member (places x) (values_places ys) there.on in
        let here = item_here b t member x (record { head = 0; next = 0 }) on in
        absurd (omega (arith, there.counted, here.some))
