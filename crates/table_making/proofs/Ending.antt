-- What a search ends with.
use Rattle.std.proofs.Common.{◌≡◌, ℕ, ◌<◌, ◌≤◌, ◌+◌, zero, suc, List, [], ◌∷◌, Some, None, Option, length, refl, sym, ap, subst, ◌∙◌, ◌⊎◌, inl, inr, slice_get, arith}
use Rattle.std.specs.Prelude.{Contains}
use Rattle.std.proofs.lemmas.Bool.{cases_lt}
use Rattle.std.proofs.lemmas.Option.{slice_get_within, slice_get-get_or}
use Rattle.lists.proofs.Lemmas.{contains_at, one_of as same_one, same_some as some_same, there as there_within}
use Rattle.cddl_meaning.proofs.Lemmas.{same_forms}
use Rattle.cddl_meaning.specs.Alike.{AlikeAll, none, both, AlikeTypes, AlikeGroups}
use Rattle.cddl_language.specs.Language.{GroupName, TypeName, type, chosen_of, first_of, each_of, entry, round, group_form, reference, type_node, word}
use Rattle.cddl_language.specs.StandsFor as Stands
use Rattle.cddl_language.specs.StandsFor.{HasNode}
use Rattle.cddl_language.specs.Substitution.{group_choices}
use Rattle.cddl_language.specs.Terms.{Term, Ref, Group as AGroup, Entries, Entry, alternatives, call, no_terms}
use Rattle.check_instances.specs.Closed.Closed.{AreAlternatives, no_alternatives, alternatives_of}
use Rattle.check_terms.specs.Table.{Table}
use Rattle.check_terms.specs.Trees.{IsTerm, IsGroup, IsEntries, IsEntry}
use Rattle.table_nodes.specs.Nodes.{group_or_none, type_or_none}
use Rattle.table_nodes.specs.declared.nodes.GroupId.{GroupId}
use Rattle.table_nodes.specs.declared.nodes.TypeId.{TypeId}
use Rattle.table_making.specs.Basis.{Sense}
use Rattle.table_making.specs.Nodes.{AreNodes, IsNameOfGroup, IsNameOfType}
use Rattle.table_making.specs.Numbers.{AreNamed, HasGroupNumber, HasTypeNumber, Keys}
use Rattle.table_making.specs.Origins.{IsGroupOrigin, IsTypeOrigin, of_row, of_instance, of_chosen, of_word, of_alternatives, of_sequence, of_entry, of_round}
use Rattle.table_making.specs.Search.{HasNumber, of_type, of_group, HasSearch, IsSearch, IsWhole, keys_in}
use Rattle.table_making.specs.declared.search.Search.{Search}
use Rattle.table_making.specs.declared.making.Nodes.{Nodes}
use Rattle.table_making.specs.declared.origin.GroupOrigin.{GroupOrigin}
use Rattle.table_making.specs.declared.origin.GroupOrigin.TheVariants as G
use Rattle.table_making.specs.declared.origin.TypeOrigin.{TypeOrigin}
use Rattle.table_making.specs.declared.origin.TypeOrigin.TheVariants as O
use Rattle.table_making.proofs.Listing.{alike_at}
use Rattle.table_making.proofs.Searching.{groups_kept, types_kept}

-- The place of what is in a list.
place_in : {A : Type 0} (xs : List A) (x : A) → Contains xs x → (k : ℕ) × (slice_get xs k ≡ Some x)
place_in xs x h = (h.0, slice_get-get_or xs h.0 x h.1 ∙ ap Some h.2)

-- Lists are as long where each has what the other has, place by place.
as_long : {A B : Type 0} (xs : List A) (ys : List B) → ((i : ℕ) (x : A) → slice_get xs i ≡ Some x → (y : B) × (slice_get ys i ≡ Some y)) → ((y : B) → slice_get ys (length xs) ≡ Some y → ⊥) → length xs ≡ length ys
as_long {A = A} {B = B} xs ys f g = by (cases_lt (length xs) (length ys)) (cases_lt (length ys) (length xs))
  where
    by : (length xs < length ys) ⊎ (length ys ≤ length xs) → (length ys < length xs) ⊎ (length xs ≤ length ys) → length xs ≡ length ys
    by (inl h) q = let y = there_within ys (length xs) h in absurd (g y.0 y.1)
    by (inr h) (inl k) =
        let x = there_within xs (length ys) k in
        let y = f (length ys) x.0 x.1 in
        let within : length ys < length ys = slice_get_within ys (length ys) y.0 y.1 in
        absurd (omega arith)
    by (inr h) (inr k) = omega arith

names_from : {N O : Type 0} (Is : N → O → Type 0) (os : List O) → ((i : ℕ) (o : O) → slice_get os i ≡ Some o → (n : N) × Is n o) → (ns : List N) × AlikeAll Is ns os
names_from Is [] f = ([], none)
names_from Is (o ∷ os) f =
    let n = f zero o refl in
    let rest = names_from Is os (λ i p e. f (suc i) p e) in
    (n.0 ∷ rest.0, both n.1 rest.1)

alike_back : {N O : Type 0} (Is : N → O → Type 0) (ns : List N) (os : List O) → AlikeAll Is ns os → (k : ℕ) (o : O) → slice_get os k ≡ Some o → (n : N) × (slice_get ns k ≡ Some n) × Is n o
alike_back Is [] [] none k o e = cc
alike_back Is [] (p ∷ os) h k o e = elim h [ ]
alike_back Is (n ∷ ns) [] h k o e = elim h [ ]
alike_back Is (n ∷ ns) (p ∷ os) (both h hs) zero o e = (n, refl, subst (Is n) (some_same e) h)
alike_back Is (n ∷ ns) (p ∷ os) (both h hs) (suc k) o e = alike_back Is ns os hs k o e

pair_parts : {N M : Type 0} (x n : N) (k m : M) → ◌≡◌ {A = Option (N × M)} (Some (x, k)) (Some (n, m)) → (x ≡ n) × (k ≡ m)
pair_parts {N = N} {M = M} x n k m e = (ap (λ (p : N × M). p.0) (some_same e), ap (λ (p : N × M). p.1) (some_same e))

-- Names with their numbers.
module _ {N M : Type 0} (id : ℕ → M) where
  abbrev numbered : List N → ℕ → List (N × M)
  numbered [] k = []
  numbered (n ∷ ns) k = (n, id k) ∷ numbered ns (suc k)

  pair_told : (ns : List N) (k i : ℕ) (n : N) (m : M) → slice_get (numbered ns k) i ≡ Some (n, m) → (slice_get ns i ≡ Some n) × (m ≡ id (k + i))
  pair_told [] k i n m e = cc
  pair_told (x ∷ ns) k zero n m e =
      let same = pair_parts x n (id k) m e in
      (ap Some same.0, sym same.1 ∙ ap id here)
    where
      here : k ≡ k + 0
      here = omega arith
  pair_told (x ∷ ns) k (suc i) n m e =
      let rest = pair_told ns (suc k) i n m e in
      (rest.0, rest.1 ∙ ap id there)
    where
      there : suc k + i ≡ k + suc i
      there = omega arith

  pair_found : (ns : List N) (k i : ℕ) (n : N) → slice_get ns i ≡ Some n → slice_get (numbered ns k) i ≡ Some (n, id (k + i))
  pair_found [] k i n e = cc
  pair_found (x ∷ ns) k zero n e = ap (λ (p : N). Some (p, id k)) (some_same e) ∙ ap (λ j. Some (n, id j)) here
    where
      here : k ≡ k + 0
      here = omega arith
  pair_found (x ∷ ns) k (suc i) n e = pair_found ns (suc k) i n e ∙ ap (λ j. Some (n, id j)) there
    where
      there : suc k + i ≡ k + suc i
      there = omega arith

abbrev type_id : ℕ → TypeId
type_id k = record { number = k }

abbrev group_id : ℕ → GroupId
group_id k = record { number = k }

zero_more : (k : ℕ) → 0 + k ≡ k
zero_more k = omega arith

module _ (s : Sense) (t : Table) (terms : (n : ℕ) (a b : Term) → IsTerm t n a → IsTerm t n b → a ≡ b) (groups : (n : ℕ) (a b : AGroup) → IsGroup t n a → IsGroup t n b → a ≡ b) (lists : (n : ℕ) (a b : Entries) → IsEntries t n a → IsEntries t n b → a ≡ b) (entries : (n : ℕ) (a b : Entry) → IsEntry t n a → IsEntry t n b → a ≡ b) where
  one_group : (o : Option ℕ) (a b : List Entries) → AreAlternatives t a o → AreAlternatives t b o → a ≡ b
  one_group None a b no_alternatives no_alternatives = refl
  one_group (Some n) a b (alternatives_of g h) (alternatives_of g' h') = ap alternatives (groups n g g' h h')

  one_type_name : (n m : TypeName) (o : TypeOrigin) → IsTypeOrigin s t n o → IsTypeOrigin s t m o → n ≡ m
  one_type_name n m (O.Row k) (of_row {x = x} h r w) (of_row {x = y} g q z) = ap type (terms k x y h g)
  one_type_name n m (O.Instance k) (of_instance {r = x} e w) (of_instance {r = y} f z) = ap reference (same_one (slice_get s.refs k) x y e f)
  one_type_name n m (O.Chosen o) (of_chosen {ess = x} h r w can) (of_chosen {ess = y} g q z may) = ap chosen_of (one_group o x y h g)
  one_type_name n m (O.Word k) (of_word {n = x} e) (of_word {n = y} f) = ap word (same_one (slice_get t.texts k) x y e f)

  one_group_name : (n m : GroupName) (o : GroupOrigin) → IsGroupOrigin s t n o → IsGroupOrigin s t m o → n ≡ m
  one_group_name n m (G.Alternatives o) (of_alternatives {ess = x} h r w) (of_alternatives {ess = y} g q z) = ap first_of (one_group o x y h g)
  one_group_name n m (G.Sequence k) (of_sequence {es = x} h r w) (of_sequence {es = y} g q z) = ap each_of (lists k x y h g)
  one_group_name n m (G.Entry k) (of_entry {e = x} h r w) (of_entry {e = y} g q z) = ap entry (entries k x y h g)
  one_group_name n m (G.Round k) (of_round {e = x} h r w) (of_round {e = y} g q z) = ap round (entries k x y h g)

  module _ (v : Nodes) (so : IsSearch s t (record { types = v.type_origins.items; groups = v.group_origins.items }) v.types.items v.groups.items) (no_type : (o : TypeOrigin) → slice_get v.type_origins.items (length v.types.items) ≡ Some o → ⊥) (no_group : (o : GroupOrigin) → slice_get v.group_origins.items (length v.groups.items) ≡ Some o → ⊥) where
    abbrev keys : Keys
    keys = record { types = v.type_origins.items; groups = v.group_origins.items }

    type_list : (ns : List TypeName) × AlikeAll (IsTypeOrigin s t) ns v.type_origins.items
    type_list = names_from (IsTypeOrigin s t) v.type_origins.items so.named.types

    group_list : (ns : List GroupName) × AlikeAll (IsGroupOrigin s t) ns v.group_origins.items
    group_list = names_from (IsGroupOrigin s t) v.group_origins.items so.named.groups

    abbrev type_pairs : List (TypeName × TypeId)
    type_pairs = numbered type_id type_list.0 0

    abbrev group_pairs : List (GroupName × GroupId)
    group_pairs = numbered group_id group_list.0 0

    type_told : (n : TypeName) (m : TypeId) → Contains type_pairs (n, m) → IsNameOfType s t v n m
    type_told n m h =
        let i = place_in type_pairs (n, m) h in
        let p = pair_told type_id type_list.0 0 i.0 n m i.1 in
        let o = alike_at (IsTypeOrigin s t) type_list.0 v.type_origins.items type_list.1 i.0 n p.0 in
        record { origin = o.0; there = ap (slice_get v.type_origins.items) (ap (λ (k : TypeId). k.number) p.1 ∙ zero_more i.0) ∙ o.1; named = o.2 }

    group_told : (n : GroupName) (m : GroupId) → Contains group_pairs (n, m) → IsNameOfGroup s t v n m
    group_told n m h =
        let i = place_in group_pairs (n, m) h in
        let p = pair_told group_id group_list.0 0 i.0 n m i.1 in
        let o = alike_at (IsGroupOrigin s t) group_list.0 v.group_origins.items group_list.1 i.0 n p.0 in
        record { origin = o.0; there = ap (slice_get v.group_origins.items) (ap (λ (k : GroupId). k.number) p.1 ∙ zero_more i.0) ∙ o.1; named = o.2 }

    type_found : (n : TypeName) (m : TypeId) → IsNameOfType s t v n m → Contains type_pairs (n, m)
    type_found n m w =
        let b = alike_back (IsTypeOrigin s t) type_list.0 v.type_origins.items type_list.1 m.number w.origin w.there in
        let same = one_type_name b.0 n w.origin b.2 w.named in
        let at = pair_found type_id type_list.0 0 m.number n (b.1 ∙ ap Some same) in
        contains_at type_pairs m.number (n, m) (at ∙ ap (λ j. Some (n, type_id j)) (zero_more m.number))

    group_found : (n : GroupName) (m : GroupId) → IsNameOfGroup s t v n m → Contains group_pairs (n, m)
    group_found n m w =
        let b = alike_back (IsGroupOrigin s t) group_list.0 v.group_origins.items group_list.1 m.number w.origin w.there in
        let same = one_group_name b.0 n w.origin b.2 w.named in
        let at = pair_found group_id group_list.0 0 m.number n (b.1 ∙ ap Some same) in
        contains_at group_pairs m.number (n, m) (at ∙ ap (λ j. Some (n, group_id j)) (zero_more m.number))

    type_numbered : (n : TypeName) (m : TypeId) → HasTypeNumber s t keys n m → Contains type_pairs (n, m)
    type_numbered n m h = type_found n m (record { origin = h.origin; there = h.there; named = h.named })

    group_numbered : (n : GroupName) (m : GroupId) → HasGroupNumber s t keys n m → Contains group_pairs (n, m)
    group_numbered n m h = group_found n m (record { origin = h.origin; there = h.there; named = h.named })

    types_long : length v.types.items ≡ length v.type_origins.items
    types_long = as_long v.types.items v.type_origins.items so.types_there no_type

    groups_long : length v.groups.items ≡ length v.group_origins.items
    groups_long = as_long v.groups.items v.group_origins.items so.groups_there no_group

    abbrev TypePair : TypeName → TypeId → Type 0
    TypePair n m = Contains type_pairs (n, m)

    abbrev GroupPair : GroupName → GroupId → Type 0
    GroupPair n m = Contains group_pairs (n, m)

    type_alike : (n : TypeName) (m : TypeId) → TypePair n m → AlikeTypes TypePair GroupPair (type_node s.worth s.definitions n) (type_or_none (slice_get v.types.items m.number))
    type_alike n m h =
        let w = type_told n m h in
        let within = slice_get_within v.type_origins.items m.number w.origin w.there in
        let x = there_within v.types.items m.number (omega (arith, within, types_long)) in
        subst (λ o. AlikeTypes TypePair GroupPair (type_node s.worth s.definitions n) (type_or_none o)) (sym x.1) (types_kept (HasTypeNumber s t keys) (HasGroupNumber s t keys) TypePair GroupPair type_numbered group_numbered (type_node s.worth s.definitions n) (type_or_none (Some x.0)) (so.types_made m.number x.0 w.origin n x.1 w.there w.named))

    group_alike : (n : GroupName) (m : GroupId) → GroupPair n m → AlikeGroups TypePair GroupPair (group_form s.worth s.definitions n) (group_or_none (slice_get v.groups.items m.number))
    group_alike n m h =
        let w = group_told n m h in
        let within = slice_get_within v.group_origins.items m.number w.origin w.there in
        let x = there_within v.groups.items m.number (omega (arith, within, groups_long)) in
        subst (λ o. AlikeGroups TypePair GroupPair (group_form s.worth s.definitions n) (group_or_none o)) (sym x.1) (groups_kept (HasTypeNumber s t keys) (HasGroupNumber s t keys) TypePair GroupPair type_numbered group_numbered (group_form s.worth s.definitions n) (group_or_none (Some x.0)) (so.groups_made m.number x.0 w.origin n x.1 w.there w.named))

    has_node : (r : Ref) → HasNumber s t keys r → HasNode s.definitions type_pairs group_pairs r
    has_node r (of_type m e h) = Stands.of_type m e (type_numbered (reference r) m h)
    has_node r (of_group m e h) = Stands.of_group m e (group_numbered (first_of (group_choices s.definitions r)) m h)

    pub are_nodes : HasTypeNumber s t keys (reference (call s.root no_terms)) v.root → ((k : ℕ) (r : Ref) → slice_get s.refs k ≡ Some r → HasNumber s t keys r) → AreNodes s t v
    are_nodes top all = record {
      type_names = type_pairs;
      group_names = group_pairs;
      type_count = types_long;
      group_count = groups_long;
      types_named = so.named.types;
      groups_named = so.named.groups;
      types_told = type_told;
      groups_told = group_told;
      types_found = type_found;
      groups_found = group_found;
      alike = record { types = type_alike; groups = group_alike; counting = same_forms (type_node s.worth s.definitions) (λ n. type_or_none (slice_get v.types.items n.number)) TypePair GroupPair type_alike };
      root_node = type_numbered (reference (call s.root no_terms)) v.root top;
      have_nodes = λ r h. (let k = place_in s.refs r h in has_node r (all k.0 r k.1));
    }

  -- the same of what a search ends with
  pub finished : (v : Nodes) (w : Search) (top : TypeId) → v.root ≡ top → v.types.items ≡ w.types.items → v.groups.items ≡ w.groups.items → v.type_origins.items ≡ w.numbers.types.keys → v.group_origins.items ≡ w.numbers.groups.keys → HasSearch s t w → IsWhole w → HasTypeNumber s t (keys_in w) (reference (call s.root no_terms)) top → ((k : ℕ) (r : Ref) → slice_get s.refs k ≡ Some r → HasNumber s t (keys_in w) r) → AreNodes s t v
  finished v w top e0 e1 e2 e3 e4 so whole is all = are_nodes v there (λ o h. whole.types o (subst (λ ns. slice_get w.numbers.types.keys (length ns) ≡ Some o) e1 (subst (λ os. slice_get os (length v.types.items) ≡ Some o) e3 h))) (λ o h. whole.groups o (subst (λ ns. slice_get w.numbers.groups.keys (length ns) ≡ Some o) e2 (subst (λ os. slice_get os (length v.groups.items) ≡ Some o) e4 h))) (subst (λ m. HasTypeNumber s t (record { types = v.type_origins.items; groups = v.group_origins.items }) (reference (call s.root no_terms)) m) (sym e0) (subst (λ ks. HasTypeNumber s t ks (reference (call s.root no_terms)) top) same is)) (λ k r e. subst (λ ks. HasNumber s t ks r) same (all k r e))
    where
      same : keys_in w ≡ record { types = v.type_origins.items; groups = v.group_origins.items }
      same = λ i. record { types = sym e3 i; groups = sym e4 i }

      there : IsSearch s t (record { types = v.type_origins.items; groups = v.group_origins.items }) v.types.items v.groups.items
      there = subst (λ ks. IsSearch s t ks v.types.items v.groups.items) same (subst (λ ns. IsSearch s t (keys_in w) ns v.groups.items) (sym e1) (subst (λ ns. IsSearch s t (keys_in w) w.types.items ns) (sym e2) so))

pub none_named : (s : Sense) (t : Table) (ks : Keys) → ks.types ≡ [] → ks.groups ≡ [] → AreNamed s t ks
none_named s t ks e f = record { types = λ i o h. absurd (not_in ks.types e i o h); groups = λ i o h. absurd (not_in ks.groups f i o h) }
  where
    not_in : {A : Type 0} (xs : List A) → xs ≡ [] → (i : ℕ) (x : A) → slice_get xs i ≡ Some x → ⊥
    not_in [] e i x h = cc
    not_in (y ∷ xs) e i x h = cc
