-- Members of a choice that are passed over say no, each in one step.
use Rattle.std.proofs.Common.{◌≡◌, ℕ, zero, suc, ◌+◌, ◌-◌, ◌<◌, ◌≤◌, max, List, [], ◌∷◌, drop, length, Option, Some, None, IfSome, Bool, Bor, slice_get, true, false, sym, ap, subst, ◌∙◌, arith}
use Rattle.std.proofs.lemmas.List.{drop_all, length-drop}
use Rattle.lists.proofs.Lemmas.{indexed, next_drop, there}
use Rattle.cbor_data.specs.Value.{Value}
use Rattle.cddl_meaning.specs.Forms.{Language}
use Rattle.cddl_meaning.specs.Judges.{Reply, Fails}
use Rattle.cddl_meaning.specs.Moves.{Answered, Asks, InChoice, LeadsTo, Move, OfType, next_member, test_reply, type_move}
use Rattle.table_nodes.proofs.Lemmas.{as_many, passed}
use Rattle.table_nodes.specs.Indexes.{AreNext, IsIndexOf, IsOther, first_of}
use Rattle.table_nodes.specs.declared.indexes.Candidates.{Candidates}
use Rattle.table_nodes.specs.declared.indexes.LiteralIndex.{LiteralIndex}
use Rattle.table_nodes.specs.declared.nodes.GroupId.{GroupId}
use Rattle.table_nodes.specs.declared.nodes.TypeId.{TypeId}
use Rattle.cddl_match.specs.Ahead.{ComesTo, Opens}
use Rattle.cddl_match.specs.Choosing.{Ended, GoesOn, IsAsking, first_at, first_in, is_no, left_of}
use Rattle.cddl_match.specs.declared.choosing.Members.{Members}
use Rattle.cddl_match.specs.Within.{Ends, Replied, Stopped, said_view}
use Rattle.cddl_match.specs.declared.calls.Stop.TheVariants.{Spent}
use Rattle.cddl_match.proofs.Outcomes.{ends_on}
use Rattle.cddl_match.proofs.Ways.{and_on, answers, opens, stays}

module _ (l : Language TypeId GroupId) (x : Value) where
  -- what an index says of the next members
  abbrev IsLed : List TypeId → ℕ → Option (Bor LiteralIndex × Candidates) → Type 0
  IsLed ms from o = IfSome o (λ i. IsIndexOf l.type_at ms i.0.now × AreNext l.type_at ms x from i.1)

  -- The next one is not before those that are left, and not past their end.
  pub on : (ms : List TypeId) (from : ℕ) (o : Option (Bor LiteralIndex × Candidates)) → from ≤ length ms → IsLed ms from o → (from ≤ first_at o from) × (first_at o from ≤ length ms)
  on ms from None h led = (omega arith, h)
  on ms from (Some i) h led = (omega (arith, led.1.0.0, led.1.1.0), omega (arith, led.1.0.1.0, as_many l.type_at ms))

  pub others : (ms : List TypeId) (from : ℕ) (o : Option (Bor LiteralIndex × Candidates)) → IsLed ms from o → (i : ℕ) (m : TypeId) → from ≤ i → i < first_at o from → slice_get ms i ≡ Some m → IsOther (l.type_at m) x
  others ms from None led i m a b e = absurd (omega (arith, a, b))
  others ms from (Some c) led i m a b e = passed l.type_at ms x from c.1 led.1 i m a b e

  -- An index leads on, or there is none.
  pub led_on : (ms : List TypeId) (from next : ℕ) (o q : Option (Bor LiteralIndex × Candidates)) (i : Bor LiteralIndex) (c d : Candidates) → o ≡ Some (i, c) → q ≡ Some (i, d) → IsLed ms from o → next ≡ first_at o from → (IsIndexOf l.type_at ms i.now → AreNext l.type_at ms x from c → AreNext l.type_at ms x (suc (first_of c)) d) → IsLed ms (next + 1) q
  led_on ms from next o q i c d e f led is step =
      let here : IsIndexOf l.type_at ms i.now × AreNext l.type_at ms x from c = subst (IsLed ms from) e led in
      let one : suc (first_of c) ≡ next + 1 = omega (arith, is, ap (λ o. first_at o from) e) in
      subst (IsLed ms (next + 1)) (sym f) (here.0, subst (λ k. AreNext l.type_at ms x k d) one (step here.0 here.1))

  pub led_by : (ms : List TypeId) (from : ℕ) (q : Option (Bor LiteralIndex × Candidates)) (i : Bor LiteralIndex) (c : Candidates) → q ≡ Some (i, c) → IsIndexOf l.type_at ms i.now → AreNext l.type_at ms x from c → IsLed ms from q
  led_by ms from q i c e is next = subst (IsLed ms from) (sym e) (is, next)

  pub not_led : (ms : List TypeId) (from : ℕ) (q : Option (Bor LiteralIndex × Candidates)) → q ≡ None → IsLed ms from q
  not_led ms from q e = subst (IsLed ms from) (sym e) tt

  module _ (p far : ℕ) (shown : p ≤ far) where
    one_passed : (m : TypeId) (rest : List TypeId) → IsOther (l.type_at m) x → ComesTo l (next_member (m ∷ rest) p x far) (next_member rest p x far) 1
    one_passed m rest o =
        let asked : Opens l (OfType m p x) (type_move (l.type_at m) p x) 1 = opens l (OfType m p x) in
        let replied : Opens l (OfType m p x) (Answered (Fails p)) 1 = subst (λ b. Opens l (OfType m p x) (Answered (test_reply p x b)) 1) o.2 (subst (λ f. Opens l (OfType m p x) (type_move f p x) 1) o.1 asked) in
        let same : max far p ≡ far = omega (arith, shown) in
        subst (λ k. ComesTo l (next_member (m ∷ rest) p x far) (next_member rest p x k) 1) same (answers l (InChoice rest p x far) replied)

    some_passed : (ms : List TypeId) (from k : ℕ) → from + k ≤ length ms → ((i : ℕ) (m : TypeId) → from ≤ i → i < from + k → slice_get ms i ≡ Some m → IsOther (l.type_at m) x) → ComesTo l (next_member (drop from ms) p x far) (next_member (drop (from + k) ms) p x far) k
    some_passed ms from zero h o = subst (λ j. ComesTo l (next_member (drop from ms) p x far) (next_member (drop j ms) p x far) 0) (let e : from ≡ from + 0 = omega arith in e) (stays l (next_member (drop from ms) p x far))
    some_passed ms from (suc k) h o =
        let m = there ms (from + k) (omega (arith, h)) in
        let next : drop (from + k) ms ≡ m.0 ∷ drop (from + k + 1) ms = next_drop ms (from + k) m.0 (omega (arith, h)) (sym (indexed ms (from + k) m.0 m.0 m.1)) in
        let last : ComesTo l (next_member (drop (from + k) ms) p x far) (next_member (drop (from + k + 1) ms) p x far) 1 = subst (λ ns. ComesTo l (next_member ns p x far) (next_member (drop (from + k + 1) ms) p x far) 1) (sym next) (one_passed m.0 (drop (from + k + 1) ms) (o (from + k) m.0 (omega arith) (omega arith) m.1)) in
        let first = some_passed ms from k (omega (arith, h)) (λ i n a b e. o i n a (omega (arith, b)) e) in
        subst (λ j. ComesTo l (next_member (drop from ms) p x far) (next_member (drop j ms) p x far) (suc k)) (let e : from + k + 1 ≡ from + suc k = omega arith in e) (and_on l first last (let e : suc k ≡ k + 1 = omega arith in e))

    -- Those before the next one say no, in a step each.
    pub comes : (m : Members) → IsAsking l x m → ComesTo l (next_member (left_of m) p x far) (next_member (drop (first_in m) m.members.now) p x far) (first_in m - m.from)
    comes m h =
        let w = on m.members.now m.from m.index h.1.0 h.1.1 in
        let there : m.from + (first_in m - m.from) ≡ first_in m = omega (arith, w.0) in
        subst (λ j. ComesTo l (next_member (left_of m) p x far) (next_member (drop j m.members.now) p x far) (first_in m - m.from)) there (some_passed m.members.now m.from (first_in m - m.from) (omega (arith, there, w.1)) (λ i n a b e. others m.members.now m.from m.index h.1.1 i n a (omega (arith, there, b)) e))

    -- The steps of those that are passed over are more than there are.
    pub is_spent : (m : Members) → IsAsking l x m → (steps passed : ℕ) → passed ≡ first_in m - m.from → steps < passed → (r : Reply) (w : ℕ) → LeadsTo l (next_member (left_of m) p x far) r w → steps < w
    is_spent m h steps passed i b r w d = let y = (comes m h).comes r w d in omega (arith, y.2, i, b)

    taken : {n : Move TypeId GroupId} (m : Members) (steps left passed : ℕ) → passed ≡ first_in m - m.from → left + passed ≡ steps → ComesTo l (next_member (left_of m) p x far) n (first_in m - m.from) → ComesTo l (next_member (left_of m) p x far) n (steps - left)
    taken {n = n} m steps left passed i e c = subst (ComesTo l (next_member (left_of m) p x far) n) (omega (arith, i, e)) c

    -- There is no next member.
    pub all_no : (m : Members) → IsAsking l x m → length m.members.now ≤ first_in m → (steps left passed : ℕ) → passed ≡ first_in m - m.from → left + passed ≡ steps → (left ≤ steps) × ComesTo l (next_member (left_of m) p x far) (Answered (Fails far)) (steps - left)
    all_no m h end steps left passed i e =
        let none : drop (first_in m) m.members.now ≡ [] = drop_all (first_in m) m.members.now end in
        (omega (arith, e), taken m steps left passed i e (subst (λ ns. ComesTo l (next_member (left_of m) p x far) (next_member ns p x far) (first_in m - m.from)) none (comes m h)))

    -- There is one.
    pub goes_past : (m k : Members) (n : TypeId) → IsAsking l x m → IsAsking l x k → first_in m < length m.members.now → slice_get m.members.now (first_in m) ≡ Some n → left_of k ≡ drop (first_in m + 1) m.members.now → (steps left passed : ℕ) → passed ≡ first_in m - m.from → left + passed ≡ steps → GoesOn l x p far steps left m k n
    goes_past m k n h asking inside there after steps left passed i e =
        let ms = m.members.now in
        let w = on ms m.from m.index h.1.0 h.1.1 in
        let one : drop (first_in m) ms ≡ n ∷ drop (first_in m + 1) ms = next_drop ms (first_in m) n inside (sym (indexed ms (first_in m) n n there)) in
        let fewer : length (left_of k) < length (left_of m) = omega (arith, ap length after, length-drop (first_in m + 1) ms, length-drop m.from ms, inside, w.0) in
        let asked = subst (λ ns. ComesTo l (next_member (left_of m) p x far) (next_member ns p x far) (first_in m - m.from)) (one ∙ ap (λ ns. n ∷ ns) (sym after)) (comes m h) in
        (asking, (fewer, (omega (arith, e), taken m steps left passed i e asked)))

module _ (l : Language TypeId GroupId) (x : Value) (p far : ℕ) (m k : Members) {first : Move TypeId GroupId} where
  -- What was asked so far comes to the next member.
  pub member_asked : {n : TypeId} (steps mid left : ℕ) → ComesTo l first (next_member (left_of m) p x far) (steps - mid) → mid ≤ steps → GoesOn l x p far mid left m k n → ComesTo l first (Asks (OfType n p x) (InChoice (left_of k) p x far)) (steps - left) × left ≤ steps
  member_asked steps mid left a b g = (and_on l a g.1.1.1 (omega (arith, b, g.1.1.0)), omega (arith, b, g.1.1.0))

  -- All have said no, or the steps are spent.
  pub choice_ends : (steps mid left : ℕ) → ComesTo l first (next_member (left_of m) p x far) (steps - mid) → mid ≤ steps → Ended l x p far mid left m k → (b : Bool) → k.spent ≡ b → Ends l first steps left (said_view (is_no b far))
  choice_ends steps mid left a b h true e = ends_on l steps mid left (Stopped Spent) a (omega (arith, b)) (h.0 e)
  choice_ends steps mid left a b h false e = let g = h.1 e in ends_on l steps mid left (Replied (Fails far)) a (omega (arith, b)) (g.1, g.0)
