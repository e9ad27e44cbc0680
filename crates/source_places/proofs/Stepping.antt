-- What one link more leads to.
use Rattle.std.proofs.Common.{◌≡◌, ◌⊎◌, ◌+◌, ◌-◌, ◌<◌, inl, inr, ℕ, zero, suc, ◌≤◌, drop, length, take, get_or, arith, Bool, true, false, true≢false, List, [], ◌∷◌, ◌++◌, Option, Some, None, IfNone, IfOk, IfSome, Result, Ok, Err, slice_get, refl, sym, ap, subst, ◌∙◌, append_assoc}
use Rattle.std.specs.List.{Contains}
use Rattle.std.proofs.lemmas.List.{append-nil, take_more}
use Rattle.std.proofs.lemmas.List.Elements.{Contains-append_left, Contains-push_cases}
use Rattle.lists.proofs.Lemmas.{no_some, none_in, same_some, within as list_within}
use Rattle.table_making.specs.declared.origin.TypeOrigin.{TypeOrigin}
use Rattle.table_making.specs.declared.origin.TypeOrigin.TheVariants as T
use Rattle.table_nodes.specs.declared.nodes.TypeId.{TypeId}
use Rattle.type_links.specs.declared.link.Link.{Link}
use Rattle.type_links.specs.declared.link.Link.TheVariants as L
use Rattle.source_places.specs.States.{AreNoEntry, ArePairIn, ArePassed, HasNoRule, HasNumber, IsAlternative, IsEntryInBody, IsEntryNamed, IsEntryOf, IsEntryOfName, IsEntryOfRule, IsEntryUnwrapped, IsEntryWithin, IsFoundAfter, IsFrom, IsKeyIn, IsKeyPlace, IsOneIn, IsRuleIn, IsOfOrigin, IsStarted, IsStateAfter, IsStateOf, IsTypeIn, IsInMapFrom, IsNoValue, IsUnfilledIn, IsUnfilledOf, IsValueIn, LeadsIn, arrives, by_unwrapping, count_in, counted, named, of_entry, of_key, of_type, of_unfilled, of_value, origin_at, passes, plain_name, to_one, to_pair, in_its_group, in_its_brackets, unwrapped_name, with_held, within, IsValueAsked, asking, of_asked, of_map, IsAskedIn, IsAskedThere, IsAway, IsTypeOrAsked, IsUnfilled, as_before, it_asks, it_is, unfilled}
use Rattle.source_pieces.specs.declared.piece.NameAt.{NameAt}
use Rattle.source_pieces.specs.declared.piece.PieceAt.{PieceAt}
use Rattle.source_places.specs.declared.place.State.{State}
use Rattle.source_pieces.specs.declared.rules.RuleAt.{RuleAt}
use Rattle.source_places.specs.declared.sources.TypesInText.{TypesInText}

module _ (x : TypesInText) (id : Link) where
  pub begun : (ids : List Link) (st : State) → IsStarted x id st → IsStateAfter x (ids ++ id ∷ []) st
  begun ids st h = record {
    before = ids;
    instance = id;
    inside = [];
    outside = [];
    split = refl;
    number = h.number;
    rule = h.rule;
    last = λ m c. absurd (none_in m c);
    passed = subst (λ (b : Bool). ArePassed x b []) (sym h.inside) refl;
    found = λ rest to l. subst (λ (o : Option PieceAt). LeadsIn x st.number o rest to) h.found (subst (λ (o : Option Link). LeadsIn x st.number st.found (with_held o rest) to) h.held l);
  }

  pub none_further : (ids : List Link) → HasNoRule x id → ((m : Link) → Contains ids m → HasNoRule x m) → (m : Link) → Contains (ids ++ id ∷ []) m → HasNoRule x m
  none_further ids h all m c = by (Contains-push_cases ids id m c)
    where
      by : Contains ids m ⊎ (id ≡ m) → HasNoRule x m
      by (inl g) = all m g
      by (inr e) = subst (HasNoRule x) e h

  -- a type that is passed over
  passed_more : (ids : List Link) (st new : State) (k : HasNoRule x id) → (h : IsStateAfter x ids st) → new.number ≡ st.number → new.rule ≡ st.rule → IsFoundAfter x new h.inside → ArePassed x new.is_inside (h.outside ++ id ∷ []) → IsStateAfter x (ids ++ id ∷ []) new
  passed_more ids st new k h number rule found passed = record {
    before = h.before;
    instance = h.instance;
    inside = h.inside;
    outside = h.outside ++ id ∷ [];
    split =
        ap (λ (xs : List Link). xs ++ id ∷ []) h.split
        ∙ append_assoc h.before (h.instance ∷ (h.inside ++ h.outside)) (id ∷ [])
        ∙ ap (λ (xs : List Link). h.before ++ h.instance ∷ xs) (append_assoc h.inside h.outside (id ∷ []));
    number = h.number ∙ ap Some (sym number);
    rule = subst (λ (n : ℕ). HasNumber x new.rule n) (sym number) (subst (λ (i : ℕ). HasNumber x i st.number) (sym rule) h.rule);
    last = λ m c. none_further (h.inside ++ h.outside) k h.last m (subst (λ (xs : List Link). Contains xs m) (sym (append_assoc h.inside h.outside (id ∷ []))) c);
    passed = passed;
    found = found;
  }

  still_passed : (ids : List Link) → ArePassed x false ids → ArePassed x false (ids ++ id ∷ [])
  still_passed ids h = (h.0, h.1 ++ id ∷ [], h.2, ap (λ (xs : List Link). xs ++ id ∷ []) h.3, h.4)

  -- an instance of a name of the prelude
  pub gone_out : (ids : List Link) (st : State) (k : ℕ) → origin_at x id ≡ Some (T.Instance k) → HasNoRule x id → IsStateAfter x ids st → IsStateAfter x (ids ++ id ∷ []) (record st { is_inside = false })
  gone_out ids st k there none h = passed_more ids st (record st { is_inside = false }) none h refl refl h.found (by st.is_inside h.passed)
    where
      by : (b : Bool) → ArePassed x b h.outside → ArePassed x false (h.outside ++ id ∷ [])
      by true e = (id, [], k, ap (λ (xs : List Link). xs ++ id ∷ []) e, there)
      by false g = still_passed h.outside g

  -- one after that
  pub gone_by : (ids : List Link) (st : State) → st.is_inside ≡ false → HasNoRule x id → IsStateAfter x ids st → IsStateAfter x (ids ++ id ∷ []) st
  gone_by ids st e none h = passed_more ids st st none h refl refl h.found (subst (λ (b : Bool). ArePassed x b (h.outside ++ id ∷ [])) (sym e) (still_passed h.outside (subst (λ (b : Bool). ArePassed x b h.outside) e h.passed)))

  -- a type in the rule
  pub gone_in : (ids : List Link) (st new : State) → st.is_inside ≡ true → HasNoRule x id → IsStateAfter x ids st → new.number ≡ st.number → new.rule ≡ st.rule → new.is_inside ≡ st.is_inside → ((ys : List Link) → IsFoundAfter x st ys → IsFoundAfter x new (ys ++ id ∷ [])) → IsStateAfter x (ids ++ id ∷ []) new
  gone_in ids st new e none h number rule inside found =
      let empty : h.outside ≡ [] = subst (λ (b : Bool). ArePassed x b h.outside) e h.passed in
      record {
        before = h.before;
        instance = h.instance;
        inside = h.inside ++ id ∷ [];
        outside = [];
        split =
            ap (λ (xs : List Link). xs ++ id ∷ []) (h.split ∙ ap (λ (xs : List Link). h.before ++ h.instance ∷ (h.inside ++ xs)) empty ∙ ap (λ (xs : List Link). h.before ++ h.instance ∷ xs) (append-nil h.inside))
            ∙ append_assoc h.before (h.instance ∷ h.inside) (id ∷ [])
            ∙ ap (λ (xs : List Link). h.before ++ h.instance ∷ xs) (sym (append-nil (h.inside ++ id ∷ [])));
        number = h.number ∙ ap Some (sym number);
        rule = subst (λ (n : ℕ). HasNumber x new.rule n) (sym number) (subst (λ (i : ℕ). HasNumber x i st.number) (sym rule) h.rule);
        last = λ m c. none_further h.inside none (λ y d. h.last y (Contains-append_left h.inside h.outside y d)) m (subst (λ (xs : List Link). Contains xs m) (append-nil (h.inside ++ id ∷ [])) c);
        passed = subst (λ (b : Bool). ArePassed x b []) (sym (inside ∙ e)) refl;
        found = found h.inside h.found;
      }

  -- one more, with what was found and the type that is held back then
  pub found_after : (st : State) (f : Option PieceAt) (k : Option Link) → ((rest : List Link) (to : Option PieceAt) → LeadsIn x st.number f (with_held k rest) to → LeadsIn x st.number st.found (with_held st.held (id ∷ rest)) to) → (ids : List Link) → IsFoundAfter x st ids → IsFoundAfter x (record st { found = f; held = k }) (ids ++ id ∷ [])
  found_after st f k step ids h = λ rest to l. subst (λ (ms : List Link). LeadsIn x st.number None ms to) (sym (append_assoc ids (id ∷ []) rest)) (h (id ∷ rest) to (step rest to l))

-- what is found last leads from what was found by the type that is held back
pub last_after : (x : TypesInText) (st : State) (to : Option PieceAt) → LeadsIn x st.number st.found (with_held st.held []) to → (ids : List Link) → IsFoundAfter x st ids → LeadsIn x st.number None ids to
last_after x st to l ids h = subst (λ (ms : List Link). LeadsIn x st.number None ms to) (append-nil ids) (h [] to l)

from_rule : (x : TypesInText) (n : ℕ) (from : Option PieceAt) (a : PieceAt) → IsFrom x n from a → IfSome from (λ b. IsRuleIn x b.rule) → IsRuleIn x a.rule
from_rule x n None a h g = (h.at, h.there)
from_rule x n (Some o) a h g = (g.0, ap (slice_get x.rules.items) h.0 ∙ g.1)

map_rule : (x : TypesInText) (n : ℕ) (from : Option PieceAt) (a : PieceAt) → IsInMapFrom x n from a → IfSome from (λ b. IsRuleIn x b.rule) → IsRuleIn x a.rule
map_rule x n None a h g = (h.at, h.there)
map_rule x n (Some o) a (in_its_brackets h) g = (g.0, ap (slice_get x.rules.items) h.0 ∙ g.1)
map_rule x n (Some o) a (in_its_group h s) g = (h.rule.at, h.rule.there)

counted_rule : (x : TypesInText) (n own i : ℕ) → own < count_in n (slice_get x.rules.items i) → IsRuleIn x i
counted_rule x n own i h = by (slice_get x.rules.items i) refl h
  where
    by : (o : Option RuleAt) → slice_get x.rules.items i ≡ o → own < count_in n o → IsRuleIn x i
    by None e l = absurd (omega (arith, l))
    by (Some at) e l = (at, e)

entry_rule : (x : TypesInText) {from : Option PieceAt} {k i : ℕ} {a : PieceAt} → IsEntryOf x from k i a → IfSome from (λ b. IsRuleIn x b.rule) → IsRuleIn x a.rule
entry_rule x (within h) g = (g.0, ap (slice_get x.rules.items) h.rule ∙ g.1)
entry_rule x {a = a} (named h) g = counted_rule x h.name h.is.own a.rule h.is.is_alternative.less
entry_rule x (by_unwrapping h) g = (h.is.body.rule.at, h.is.body.rule.there)

asked_rule : (x : TypesInText) {from : Option PieceAt} {m : Link} {a : PieceAt} → IsAskedIn x from m a → IfSome from (λ b. IsRuleIn x b.rule) → IsRuleIn x a.rule
asked_rule x h g =
    let w : IsRuleIn x h.place.rule = subst (λ (o : Option PieceAt). IfSome o (λ b. IsRuleIn x b.rule)) h.found g in
    (w.0, ap (λ (b : PieceAt). slice_get x.rules.items b.rule) h.same ∙ w.1)

pair_rule : (x : TypesInText) (n : ℕ) {from : Option PieceAt} {first second : Link} {a : PieceAt} → ArePairIn x n from first second a → IfSome from (λ b. IsRuleIn x b.rule) → IsRuleIn x a.rule
pair_rule x n (of_value v) g = map_rule x n _ _ v.inside g
pair_rule x n (of_asked none (of_unfilled v)) g = let w = map_rule x n _ _ v.is.inside g in (w.0, ap (λ (b : PieceAt). slice_get x.rules.items b.rule) v.same ∙ w.1)
pair_rule x n (of_asked none (of_map other v)) g = asked_rule x v g
pair_rule x n (of_entry e) g = entry_rule x e g

one_rule : (x : TypesInText) (n : ℕ) {from : Option PieceAt} {m : Link} {a : PieceAt} → IsOneIn x n from m a → IfSome from (λ b. IsRuleIn x b.rule) → IsRuleIn x a.rule
one_rule x n (of_type (it_is t)) g = from_rule x n _ _ t.inside g
one_rule x n (of_type (it_asks none h)) g = asked_rule x h.0 g
one_rule x n (of_key k) g = map_rule x n _ _ k.inside g

-- what was found is in a rule
found_from : (x : TypesInText) (n : ℕ) {from to : Option PieceAt} {ms : List Link} → LeadsIn x n from ms to → IfSome from (λ a. IsRuleIn x a.rule) → IfSome to (λ a. IsRuleIn x a.rule)
found_from x n arrives h = h
found_from x n (to_pair v l) h = found_from x n l (pair_rule x n v h)
found_from x n (to_one none t l) h = found_from x n l (one_rule x n t h)
found_from x n (passes none t l) h = found_from x n l h

pub found_there : (x : TypesInText) (n : ℕ) (ids : List Link) (o : Option PieceAt) → LeadsIn x n None ids o → IfSome o (λ a. IsRuleIn x a.rule)
found_there x n ids o l = found_from x n l tt

-- what was found is one of the pieces, whatever is asked there

pub record IsOfPiece (x : TypesInText) (a : PieceAt) : Type 0 where
  pub piece : PieceAt
  pub contained : Contains x.pieces.items piece
  pub same : a ≡ record piece { asked = a.asked }

own_piece : (x : TypesInText) (a : PieceAt) → Contains x.pieces.items a → IsOfPiece x a
own_piece x a h = record { piece = a; contained = h; same = refl }

asking_piece : (x : TypesInText) (m : Link) (a b : PieceAt) → IsOfPiece x a → b ≡ asking m a → IsOfPiece x b
asking_piece x m a b h e = subst (IsOfPiece x) (sym e) (record { piece = h.piece; contained = h.contained; same = ap (asking m) h.same })

asked_piece : (x : TypesInText) {from : Option PieceAt} {m : Link} {a : PieceAt} → IsAskedIn x from m a → IfSome from (IsOfPiece x) → IsOfPiece x a
asked_piece x {m = m} {a = a} h g = asking_piece x m h.place a (subst (λ (o : Option PieceAt). IfSome o (IsOfPiece x)) h.found g) h.same

pair_piece : (x : TypesInText) (n : ℕ) {from : Option PieceAt} {first second : Link} {a : PieceAt} → ArePairIn x n from first second a → IfSome from (IsOfPiece x) → IsOfPiece x a
pair_piece x n {a = a} (of_value v) h = own_piece x a v.is.contained
pair_piece x n {second = m} {a = a} (of_asked none (of_unfilled v)) h = asking_piece x m v.piece a (own_piece x v.piece v.is.contained) v.same
pair_piece x n (of_asked none (of_map other v)) h = asked_piece x v h
pair_piece x n {a = a} (of_entry (within e)) h = own_piece x a e.contained
pair_piece x n {a = a} (of_entry (named e)) h = own_piece x a e.is.is.contained
pair_piece x n {a = a} (of_entry (by_unwrapping e)) h = own_piece x a e.is.contained

one_piece : (x : TypesInText) (n : ℕ) {from : Option PieceAt} {m : Link} {a : PieceAt} → IsOneIn x n from m a → IfSome from (IsOfPiece x) → IsOfPiece x a
one_piece x n {a = a} (of_type (it_is t)) h = own_piece x a t.is.contained
one_piece x n (of_type (it_asks none t)) h = asked_piece x t.0 h
one_piece x n {a = a} (of_key k) h = own_piece x a k.is.contained

piece_from : (x : TypesInText) (n : ℕ) {from to : Option PieceAt} {ms : List Link} → LeadsIn x n from ms to → IfSome from (IsOfPiece x) → IfSome to (IsOfPiece x)
piece_from x n arrives h = h
piece_from x n (to_pair v l) h = piece_from x n l (pair_piece x n v h)
piece_from x n (to_one none t l) h = piece_from x n l (one_piece x n t h)
piece_from x n (passes none t l) h = piece_from x n l h

pub found_piece : (x : TypesInText) (n : ℕ) (ids : List Link) (a : PieceAt) → LeadsIn x n None ids (Some a) → IsOfPiece x a
found_piece x n ids a l = piece_from x n l tt

-- what is found by origins is found by the types that have them

pub any_type : (x : TypesInText) (n : ℕ) (from : Option PieceAt) (id : Link) (a : PieceAt) {o : TypeOrigin} → origin_at x id ≡ Some o → IsOfOrigin x o a → IsFrom x n from a → IsTypeIn x n from id a
any_type x n from id a {o = o} there is inside = record { origin = o; there = there; is = is; inside = inside }

pub of_same : (x : TypesInText) (a : PieceAt) (o p : TypeOrigin) → o ≡ p → IsOfOrigin x o a → IsOfOrigin x p a
of_same x a o p e h = record { contained = h.contained; same = h.same ∙ ap Some e }

pub no_type : (x : TypesInText) (n : ℕ) (from : Option PieceAt) (id : Link) (a : PieceAt) {o : TypeOrigin} → origin_at x id ≡ Some o → ((b : PieceAt) → IsOfOrigin x o b → IsFrom x n from b → ⊥) → IsTypeIn x n from id a → ⊥
no_type x n from id a {o = o} there none h = none a (of_same x a h.origin o (same_some (sym h.there ∙ there)) h.is) h.inside

pub any_value : (x : TypesInText) (n : ℕ) (from : Option PieceAt) (key : TypeId) (id : Link) (a : PieceAt) {k o : TypeOrigin} → origin_at x (L.Type key) ≡ Some k → origin_at x id ≡ Some o → IsOfOrigin x o a → IsInMapFrom x n from a → a.key ≡ Some k → IsValueIn x n from key id a
any_value x n from key id a {k = k} {o = o} there is_there is inside same = record { key_origin = k; key_there = there; same = same; origin = o; there = is_there; is = is; inside = inside }

pub no_value : (x : TypesInText) (n : ℕ) (from : Option PieceAt) (key : TypeId) (id : Link) (a : PieceAt) {k o : TypeOrigin} → origin_at x (L.Type key) ≡ Some k → origin_at x id ≡ Some o → ((b : PieceAt) → IsOfOrigin x o b → IsInMapFrom x n from b → b.key ≡ Some k → ⊥) → IsValueIn x n from key id a → ⊥
no_value x n from key id a {k = k} {o = o} there is_there none h = none a (of_same x a h.origin o (same_some (sym h.there ∙ is_there)) h.is) h.inside (h.same ∙ ap Some (same_some (sym h.key_there ∙ there)))

pub any_unfilled : (x : TypesInText) (n : ℕ) (from : Option PieceAt) (key : TypeId) (id : Link) (a b : PieceAt) {k o : TypeOrigin} → origin_at x (L.Type key) ≡ Some k → origin_at x id ≡ Some o → IsUnfilledOf x n from k b → a ≡ asking id b → IsUnfilledIn x n from key id a
any_unfilled x n from key id a b {k = k} {o = o} there is_there is same = record { key_origin = k; key_there = there; origin = o; there = is_there; piece = b; is = is; same = same }

pub no_unfilled : (x : TypesInText) (n : ℕ) (from : Option PieceAt) (key : TypeId) (id : Link) (a : PieceAt) {k : TypeOrigin} → origin_at x (L.Type key) ≡ Some k → ((b : PieceAt) → IsUnfilledOf x n from k b → ⊥) → IsUnfilledIn x n from key id a → ⊥
no_unfilled x n from key id a {k = k} there none h = none h.piece (subst (λ (o : TypeOrigin). IsUnfilledOf x n from o h.piece) (same_some (sym h.key_there ∙ there)) h.is)

pub no_asked : (x : TypesInText) (n : ℕ) (from : Option PieceAt) (key : TypeId) (id : Link) (a : PieceAt) → (IsUnfilledIn x n from key id a → ⊥) → (IsAskedIn x from id a → ⊥) → IsValueAsked x n from key id a → ⊥
no_asked x n from key id a other none (of_unfilled h) = other h
no_asked x n from key id a other none (of_map is h) = none h

pub any_key : (x : TypesInText) (n : ℕ) (from : Option PieceAt) (key : TypeId) (a : PieceAt) {o : TypeOrigin} → origin_at x (L.Type key) ≡ Some o → IsKeyPlace x o a → IsInMapFrom x n from a → IsKeyIn x n from key a
any_key x n from key a {o = o} there is inside = record { origin = o; there = there; is = is; inside = inside }

pub no_key : (x : TypesInText) (n : ℕ) (from : Option PieceAt) (key : TypeId) (a : PieceAt) {o : TypeOrigin} → origin_at x (L.Type key) ≡ Some o → ((b : PieceAt) → IsKeyPlace x o b → IsInMapFrom x n from b → ⊥) → IsKeyIn x n from key a → ⊥
no_key x n from key a {o = o} there none h = none a (subst (λ (p : TypeOrigin). IsKeyPlace x p a) (same_some (sym h.there ∙ there)) h.is) h.inside

same_key : {j k : TypeId} → L.Key j ≡ L.Key k → j ≡ k
same_key e = cc

same_alternative : {j k : ℕ} → L.Alternative j ≡ L.Alternative k → j ≡ k
same_alternative e = cc

same_place : {j k : ℕ} → L.Entry j ≡ L.Entry k → j ≡ k
same_place e = cc

-- an entry of what was found before

pub any_entry : (x : TypesInText) (from : Option PieceAt) (around : PieceAt) (k i : ℕ) (a : PieceAt) → from ≡ Some around → IsEntryOf x (Some around) k i a → IsEntryOf x from k i a
any_entry x from around k i a e h = subst (λ (o : Option PieceAt). IsEntryOf x o k i a) (sym e) h

pub no_entry : (x : TypesInText) (from : Option PieceAt) (around : PieceAt) (k i : ℕ) (a : PieceAt) → from ≡ Some around → (IsEntryWithin x around k i a → ⊥) → AreNoEntry x around k i a → IsEntryOf x from k i a → ⊥
no_entry x from around k i a e none other (within {around = b} h) = none (subst (λ (c : PieceAt). IsEntryWithin x c k i a) (same_some e) h)
no_entry x from around k i a e none other (named {around = b} h) = other.0 (subst (λ (c : PieceAt). IsEntryNamed x c k i a) (same_some e) h)
no_entry x from around k i a e none other (by_unwrapping {around = b} h) = other.1 (subst (λ (c : PieceAt). IsEntryUnwrapped x c k i a) (same_some e) h)

pub no_entry_from : (x : TypesInText) (from : Option PieceAt) (k i : ℕ) (a : PieceAt) → from ≡ None → IsEntryOf x from k i a → ⊥
no_entry_from x from k i a e (within h) = cc
no_entry_from x from k i a e (named h) = cc
no_entry_from x from k i a e (by_unwrapping h) = cc

-- an alternative of a rule, of which there is one

at_most_all : (n i : ℕ) (rs : List RuleAt) → count_in n (slice_get rs i) + counted n (drop (suc i) rs) ≤ counted n rs
at_most_all n i [] = omega arith
at_most_all n zero (r ∷ rs) = omega arith
at_most_all n (suc i) (r ∷ rs) = let h = at_most_all n i rs in omega (arith, h)

at_most_after : (n i j : ℕ) (rs : List RuleAt) → i < j → count_in n (slice_get rs j) + counted n (drop (suc j) rs) ≤ counted n (drop (suc i) rs)
at_most_after n i zero rs l = absurd (omega (arith, l))
at_most_after n i (suc j) [] l = omega arith
at_most_after n zero (suc j) (r ∷ rs) l = at_most_all n j rs
at_most_after n (suc i) (suc j) (r ∷ rs) l = at_most_after n i j rs (omega (arith, l))

after_is : (x : TypesInText) (n k i own : ℕ) → IsAlternative x n k i own → own + counted n (drop (suc i) x.rules.items) ≡ k
after_is x n k i own h = let e : i + 1 ≡ suc i = omega arith in ap (λ (j : ℕ). own + counted n (drop j x.rules.items)) (sym e) ∙ h.after

pub one_alternative : (x : TypesInText) (n k i j a b : ℕ) → IsAlternative x n k i a → IsAlternative x n k j b → (i ≡ j) × (a ≡ b)
one_alternative x n k i j a b h g = elim (tri i j) [ inl l ↦ absurd (apart i j a b h g l) | inr m ↦ elim m [ inl e ↦ (e, equal e) | inr l ↦ absurd (apart j i b a g h l) ] ]
  where
    tri : (i j : ℕ) → (i < j) ⊎ ((i ≡ j) ⊎ (j < i))
    tri zero zero = inr (inl refl)
    tri zero (suc j) = inl (omega arith)
    tri (suc i) zero = inr (inr (omega arith))
    tri (suc i) (suc j) = elim (tri i j) [ inl l ↦ inl (omega (arith, l)) | inr m ↦ elim m [ inl e ↦ inr (inl (ap suc e)) | inr l ↦ inr (inr (omega (arith, l))) ] ]

    apart : (i j a b : ℕ) → IsAlternative x n k i a → IsAlternative x n k j b → i < j → ⊥
    apart i j a b h g l =
        let first = after_is x n k i a h in
        let second = after_is x n k j b g in
        let less = g.less in
        let most = at_most_after n i j x.rules.items l in
        omega (arith, first, second, less, most)

    equal : i ≡ j → a ≡ b
    equal e =
        let first = after_is x n k i a h in
        let second = ap (λ (m : ℕ). b + counted n (drop (suc m) x.rules.items)) e ∙ after_is x n k j b g in
        omega (arith, first, second)

pub no_alternative : (x : TypesInText) (n k i own rest : ℕ) → rest + counted n x.rules.items ≡ k → IsAlternative x n k i own → ⊥
no_alternative x n k i own rest e h =
    let first = after_is x n k i own h in
    let less = h.less in
    let most = at_most_all n i x.rules.items in
    omega (arith, e, first, less, most)

-- the rules from one on, and from the next one on
pub counted_step : (n i : ℕ) (rs : List RuleAt) → i < length rs → counted n (drop i rs) ≡ count_in n (slice_get rs i) + counted n (drop (suc i) rs)
counted_step n i [] l = absurd (omega (arith, l))
counted_step n zero (r ∷ rs) l = refl
counted_step n (suc i) (r ∷ rs) l = counted_step n i rs (omega (arith, l))

-- one rule back
pub counted_back : (n own count left k : ℕ) (rs : List RuleAt) → 0 < left → left ≤ length rs → count ≡ count_in n (slice_get rs (left - 1)) → count ≤ own → own + counted n (drop left rs) ≡ k → own - count + counted n (drop (left - 1) rs) ≡ k
counted_back n own count left k rs some fits e less sum =
    let next : suc (left - 1) ≡ left = omega (arith, some) in
    let step = counted_step n (left - 1) rs (omega (arith, some, fits)) in
    let same : counted n (drop (suc (left - 1)) rs) ≡ counted n (drop left rs) = ap (λ (i : ℕ). counted n (drop i rs)) next in
    omega (arith, step, same, e, less, sum)

pub counted_none : (n : ℕ) (rs : List RuleAt) → counted n (drop (length rs) rs) ≡ 0
counted_none n [] = refl
counted_none n (r ∷ rs) = counted_none n rs

pub no_named : (x : TypesInText) (n k i rule own : ℕ) (a : PieceAt) → IsAlternative x n k rule own → ((b : PieceAt) → IsEntryOfRule x rule own i b → ⊥) → IsEntryOfName x n k i a → ⊥
no_named x n k i rule own a f none h =
    let same = one_alternative x n k a.rule rule h.own own h.is_alternative f in
    none a (subst (λ (r : ℕ). IsEntryOfRule x r own i a) same.0 (subst (λ (o : ℕ). IsEntryOfRule x a.rule o i a) same.1 h.is))

-- an entry of the name that the other is, by the number of this name

same_plain : {n m : ℕ} → Some (plain_name n) ≡ Some (plain_name m) → n ≡ m
same_plain e = ap (λ (z : NameAt). z.number) (same_some e)

same_unwrapped : {n m : ℕ} → Some (unwrapped_name n) ≡ Some (unwrapped_name m) → n ≡ m
same_unwrapped e = ap (λ (z : NameAt). z.number) (same_some e)

pub name_flag : (around : PieceAt) (n : NameAt) (b : Bool) → around.name ≡ Some n → n.is_unwrapped ≡ b → around.name ≡ Some (record { number = n.number; is_unwrapped = b })
name_flag around n b e f = e ∙ ap (λ (c : Bool). Some (record { number = n.number; is_unwrapped = c })) f

pub other_flag : {n m : ℕ} {o : Option NameAt} → o ≡ Some (plain_name n) → o ≡ Some (unwrapped_name m) → ⊥
other_flag e f = true≢false (sym (ap (λ (z : NameAt). z.is_unwrapped) (same_some (sym e ∙ f))))

pub by_number : (x : TypesInText) (around : PieceAt) (n k i : ℕ) (a : PieceAt) → around.name ≡ Some (plain_name n) → IsEntryNamed x around k i a → IsEntryOfName x n k i a
by_number x around n k i a e h = subst (λ (m : ℕ). IsEntryOfName x m k i a) (same_plain (sym h.is_name ∙ e)) h.is

pub unwrapped_number : (x : TypesInText) (around : PieceAt) (n k i : ℕ) (a : PieceAt) → around.name ≡ Some (unwrapped_name n) → IsEntryUnwrapped x around k i a → IsEntryInBody x n k i a
unwrapped_number x around n k i a e h = subst (λ (m : ℕ). IsEntryInBody x m k i a) (same_unwrapped (sym h.is_called ∙ e)) h.is

-- what two links lead to together, by the forms that they have

pub pair_value : (x : TypesInText) (n : ℕ) (from : Option PieceAt) (first second : Link) (a : PieceAt) {key : TypeId} → first ≡ L.Key key → ArePairIn x n from first second a → IsNoValue x n from key second a → ⊥
pair_value x n from first second a e (of_value v) none = none.0 (subst (λ (i : TypeId). IsValueIn x n from i second a) (same_key e) v)
pair_value x n from first second a e (of_asked other v) none = none.1 (subst (λ (i : TypeId). IsValueAsked x n from i second a) (same_key e) v)
pair_value x n from first second a e (of_entry h) none = cc

pub pair_entry : (x : TypesInText) (n : ℕ) (from : Option PieceAt) (first second : Link) (a : PieceAt) {k i : ℕ} → first ≡ L.Alternative k → second ≡ L.Entry i → ArePairIn x n from first second a → IsEntryOf x from k i a
pair_entry x n from first second a e f (of_value v) = cc
pair_entry x n from first second a e f (of_asked none v) = cc
pair_entry x n from first second a {i = i} e f (of_entry {k = l} {i = z} h) = subst (λ (j : ℕ). IsEntryOf x from j i a) (same_alternative e) (subst (λ (j : ℕ). IsEntryOf x from l j a) (same_place f) h)

pub no_pair_entry : (x : TypesInText) (n : ℕ) (from : Option PieceAt) (first second : Link) (a : PieceAt) {i : ℕ} → first ≡ L.Entry i → ArePairIn x n from first second a → ⊥
no_pair_entry x n from first second a e (of_value v) = cc
no_pair_entry x n from first second a e (of_asked none v) = cc
no_pair_entry x n from first second a e (of_entry h) = cc

pub no_pair_type : (x : TypesInText) (n : ℕ) (from : Option PieceAt) (first second : Link) (a : PieceAt) {k : ℕ} {m : TypeId} → first ≡ L.Alternative k → second ≡ L.Type m → ArePairIn x n from first second a → ⊥
no_pair_type x n from first second a e f (of_value v) = cc
no_pair_type x n from first second a e f (of_asked none v) = cc
no_pair_type x n from first second a e f (of_entry h) = cc

pub no_pair_alternative : (x : TypesInText) (n : ℕ) (from : Option PieceAt) (first second : Link) (a : PieceAt) {k j : ℕ} → first ≡ L.Alternative k → second ≡ L.Alternative j → ArePairIn x n from first second a → ⊥
no_pair_alternative x n from first second a e f (of_value v) = cc
no_pair_alternative x n from first second a e f (of_asked none v) = cc
no_pair_alternative x n from first second a e f (of_entry h) = cc

pub no_pair_of_type : (x : TypesInText) (n : ℕ) (from : Option PieceAt) (first second : Link) (a : PieceAt) {m : TypeId} → first ≡ L.Type m → ArePairIn x n from first second a → ⊥
no_pair_of_type x n from first second a e (of_value v) = cc
no_pair_of_type x n from first second a e (of_asked none v) = cc
no_pair_of_type x n from first second a e (of_entry h) = cc

-- what one link leads to by itself, by the form that it has

pub one_type : (x : TypesInText) (n : ℕ) (from : Option PieceAt) (m : Link) (a : PieceAt) {t : TypeId} → m ≡ L.Type t → IsOneIn x n from m a → IsTypeOrAsked x n from m a
one_type x n from m a e (of_type t) = t
one_type x n from m a e (of_key h) = cc

-- a link to no type is to no such place
no_type_at_all : (x : TypesInText) (n : ℕ) (from : Option PieceAt) (m : Link) (a : PieceAt) → origin_at x m ≡ None → IsTypeOrAsked x n from m a → ⊥
no_type_at_all x n from m a e (it_is h) = no_some (sym e ∙ h.there)
no_type_at_all x n from m a e (it_asks none h) = no_some (sym e ∙ h.0.there)

pub one_key : (x : TypesInText) (n : ℕ) (from : Option PieceAt) (m : Link) (a : PieceAt) {key : TypeId} → m ≡ L.Key key → IsOneIn x n from m a → IsKeyIn x n from key a
one_key x n from m a e (of_type t) = absurd (no_type_at_all x n from m a (ap (origin_at x) e) t)
one_key x n from m a e (of_key h) = subst (λ (i : TypeId). IsKeyIn x n from i a) (same_key e) h

pub no_one_alternative : (x : TypesInText) (n : ℕ) (from : Option PieceAt) (m : Link) (a : PieceAt) {k : ℕ} → m ≡ L.Alternative k → IsOneIn x n from m a → ⊥
no_one_alternative x n from m a e (of_type t) = no_type_at_all x n from m a (ap (origin_at x) e) t
no_one_alternative x n from m a e (of_key h) = cc

pub no_one_entry : (x : TypesInText) (n : ℕ) (from : Option PieceAt) (m : Link) (a : PieceAt) {i : ℕ} → m ≡ L.Entry i → IsOneIn x n from m a → ⊥
no_one_entry x n from m a e (of_type t) = no_type_at_all x n from m a (ap (origin_at x) e) t
no_one_entry x n from m a e (of_key h) = cc

-- where a type is asked that may stand elsewhere

pub no_type_or_asked : (x : TypesInText) (n : ℕ) (from : Option PieceAt) (m : Link) (a : PieceAt) → (IsTypeIn x n from m a → ⊥) → (IsAskedThere x n from m a → ⊥) → IsTypeOrAsked x n from m a → ⊥
no_type_or_asked x n from m a none other (it_is h) = none h
no_type_or_asked x n from m a none other (it_asks is h) = other h

pub away_at : (x : TypesInText) (n : ℕ) (from : Option PieceAt) (m : Link) (place : PieceAt) → from ≡ Some place → IsAway x n place → (a : PieceAt) → IsAskedIn x from m a → IsAskedThere x n from m a
away_at x n from m place e away a h = (h, subst (IsAway x n) (same_some (sym e ∙ h.found)) away)

pub not_away : (x : TypesInText) (n : ℕ) (from : Option PieceAt) (m : Link) (place : PieceAt) → from ≡ Some place → (IsAway x n place → ⊥) → (a : PieceAt) → IsAskedThere x n from m a → ⊥
not_away x n from m place e none a h = none (subst (IsAway x n) (same_some (sym h.0.found ∙ e)) h.1)

pub away_by_rule : (x : TypesInText) (n : ℕ) (a : PieceAt) → a.asked ≡ None → IsAway x n a → IsUnfilled x n a
away_by_rule x n a e (as_before f) = absurd (no_some (sym e ∙ f))
away_by_rule x n a e (unfilled h) = h

pub some_then : {A : Type 0} (o : Option A) (P Q : A → Type 0) → ((a : A) → P a → Q a) → IfSome o P → IfSome o Q
some_then None P Q f h = tt
some_then (Some a) P Q f h = f a h

pub none_then : {A : Type 0} (o : Option A) (P Q : Type 0) → (P → Q) → IfNone o P → IfNone o Q
none_then None P Q f h = f h
none_then (Some a) P Q f h = tt

-- what holds is told where there is nothing
pub if_none : {A : Type 0} (o : Option A) (P : Type 0) → P → IfNone o P
if_none None P h = h
if_none (Some a) P h = tt

-- the state after one item more of a list
pub next_state : (x : TypesInText) (chain : List Link) (i : ℕ) (st new : Option State) (id : Link) → i < length chain → IsStateOf x (take i chain) st → ((ids : List Link) → IsStateOf x ids st → IsStateOf x (ids ++ id ∷ []) new) → get_or chain i id ≡ id → IsStateOf x (take (i + 1) chain) new
next_state x chain i st new id lt h f e =
    subst (λ (ids : List Link). IsStateOf x ids new) (ap (λ (y : Link). take i chain ++ y ∷ []) (sym e) ∙ sym (take_more chain i id lt)) (f (take i chain) h)

-- what is at an index, whatever is said to be beyond the list
pub at_index : (chain : List Link) (i : ℕ) (d : Link) → i < length chain → get_or chain i (get_or chain i d) ≡ get_or chain i d
at_index [] i d lt = absurd (omega (arith, lt))
at_index (y ∷ ys) zero d lt = refl
at_index (y ∷ ys) (suc i) d lt = at_index ys i d (omega (arith, lt))

-- what holds of an answer holds where there is one
pub ok_then : {A E : Type 0} (r : Result A E) (P Q : A → Type 0) → ((a : A) → P a → Q a) → IfOk r P → IfOk r Q
ok_then (Ok a) P Q f h = f a h
ok_then (Err e) P Q f h = tt

-- an index below the next one
pub below : (j k : ℕ) → j < k + 1 → (j < k) ⊎ (j ≡ k)
below zero zero l = inr refl
below zero (suc k) l = inl (omega arith)
below (suc j) zero l = absurd (omega (arith, l))
below (suc j) (suc k) l = elim (below j k (omega (arith, l))) [ inl e ↦ inl (omega (arith, e)) | inr e ↦ inr (ap suc e) ]

pub get_there : {A : Type 0} (xs : List A) (i : ℕ) (d : A) → i < length xs → slice_get xs i ≡ Some (get_or xs i d)
get_there [] i d l = absurd (omega (arith, l))
get_there (y ∷ ys) zero d l = refl
get_there (y ∷ ys) (suc i) d l = get_there ys i d (omega (arith, l))

-- a rule with a number, among those so far

pub no_number : (x : TypesInText) (n place : ℕ) (rs : List RuleAt) (d : RuleAt) → ((get_or rs place d).number ≡ n → ⊥) → rs ≡ x.rules.items → place < length rs → ((j : ℕ) → j < place → HasNumber x j n → ⊥) → (i : ℕ) → i < place + 1 → HasNumber x i n → ⊥
no_number x n place rs d other e l before i m h = elim (below i place m) [ inl b ↦ before i b h | inr is ↦ here is ]
  where
    here : i ≡ place → ⊥
    here is =
        let there : slice_get rs place ≡ Some h.at = subst (λ (j : ℕ). slice_get rs j ≡ Some h.at) is (ap (λ (ys : List RuleAt). slice_get ys i) e ∙ h.there) in
        other (ap (λ (r : RuleAt). r.number) (same_some (sym (get_there rs place d l) ∙ there)) ∙ h.same)

pub no_number_at_all : (x : TypesInText) (n place : ℕ) (rs : List RuleAt) → rs ≡ x.rules.items → length rs ≤ place → ((j : ℕ) → j < place → HasNumber x j n → ⊥) → (i : ℕ) → HasNumber x i n → ⊥
no_number_at_all x n place rs e le before i h = let l = list_within rs i h.at (ap (λ (ys : List RuleAt). slice_get ys i) e ∙ h.there) in before i (omega (arith, l, le)) h
