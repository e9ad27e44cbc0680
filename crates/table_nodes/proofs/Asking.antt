-- Which members of a choice are literals of other values, and which entries have keys of other values, by their buckets.
use Rattle.std.proofs.Common.{◌≡◌, ℕ, zero, suc, ◌+◌, ◌<◌, ◌≤◌, inl, inr, List, [], ◌∷◌, ◌++◌, length, map, Bool, true, false, Option, Some, None, option_map, slice_get, Bor, refl, sym, ap, ap₂, subst, ◌∙◌, arith}
use Rattle.std.specs.Prelude.{◌==◌, IfOk, IfSome, Result, Ok, Err}
use Rattle.std.specs.List.{Contains}
use Rattle.std.proofs.lemmas.Bool.Decides.{nat_tests}
use Rattle.std.proofs.lemmas.List.{length-map}
use Rattle.std.proofs.lemmas.Option.{slice_get-map}
use native.Mathlib.Nat.{mod-lt}
use Rattle.lists.proofs.Lemmas.{after_push, both, place_of, same_or_not, same_some}
use Rattle.cbor_data.specs.Same.{same_list, same_value}
use Rattle.cbor_data.specs.Value.{Value, uint, nint, bytes, text, array, pairs, tag, simple, float}
use Rattle.cddl_meaning.specs.Forms as F
use Rattle.cddl_meaning.specs.Forms.{by_forms, equals, is_other, is_passed_over, key_in, most_forms}
use Rattle.next_same.specs.Chains.{AreBelow, IsNext}
use Rattle.table_nodes.specs.Choices.{buckets_in, form_bucket, member_bucket, type_in}
use Rattle.table_nodes.specs.Codes.{bucket_by, bucket_of, code_of, coded_bucket}
use Rattle.table_nodes.specs.Entries.{entry_bucket, entry_buckets_in, literal_bucket}
use Rattle.table_nodes.specs.Indexes.{AreIndexed, AreNext, AreNextEntries, IsEntryIndexOf, IsIndexOf, IsIndexed, IsOneMore, IsOther, first_of}
use Rattle.table_nodes.specs.Nodes.{type_or_none, type_view}
use Rattle.table_nodes.specs.declared.indexes.Candidates.{Candidates}
use Rattle.table_nodes.specs.declared.indexes.LiteralIndex.{LiteralIndex}
use Rattle.table_nodes.specs.declared.nodes.Node.{Node}
use Rattle.table_nodes.specs.declared.nodes.TypeId.{TypeId}

number : (m n : ℕ) → (m == n) ≡ true → m ≡ n
number m n e = grind (arith, nat_tests)

list : (s t : List ℕ) → same_list s t ≡ true → s ≡ t
list [] [] e = refl
list (x ∷ s) (y ∷ t) e = let b = both (x == y) (same_list s t) e in ap₂ (λ a r. a ∷ r) (number x y b.0) (list s t b.1)
list _ _ e = absurd (cc)

-- Equal values are in one bucket.
alike : (buckets : ℕ) (x y : Value) → same_value x y ≡ true → bucket_of buckets x ≡ bucket_of buckets y
alike k (uint m) (uint n) e = ap (λ i. bucket_of k (uint i)) (number m n e)
alike k (nint m) (nint n) e = ap (λ i. bucket_of k (nint i)) (number m n e)
alike k (bytes s) (bytes t) e = ap (λ r. bucket_of k (bytes r)) (list s t e)
alike k (text s) (text t) e = ap (λ r. bucket_of k (text r)) (list s t e)
alike k (array xs) (array ys) e = refl
alike k (pairs ps) (pairs qs) e = refl
alike k (tag m x) (tag n y) e = refl
alike k (simple m) (simple n) e = refl
alike k (float v m) (float w n) e = refl
alike k _ _ e = absurd (cc)

by_within : (buckets code : ℕ) → bucket_by buckets code ≤ buckets
by_within zero code = omega arith
by_within (suc k) code = omega (arith, mod-lt code (let h : 0 < suc k = omega arith in h))

coded_within : (buckets : ℕ) (o : Option ℕ) → coded_bucket buckets o ≤ buckets
coded_within k None = omega arith
coded_within k (Some code) = by_within k code

form_within : {N G : Type 0} (buckets : ℕ) (f : F.Node N G) → form_bucket buckets f ≤ buckets
form_within k (F.Plain (equals v)) = coded_within k (code_of v)
form_within k _ = omega arith

-- what stands at a position among the members stands there, by its bucket
at_member : {N G : Type 0} (type_at : N → F.Node N G) (buckets : ℕ) (ms : List N) (i : ℕ) (m : N) → slice_get ms i ≡ Some m → slice_get (map (member_bucket type_at buckets) ms) i ≡ Some (member_bucket type_at buckets m)
at_member type_at k ms i m e = slice_get-map (member_bucket type_at k) ms i ∙ ap (option_map (member_bucket type_at k)) e

pub all_below : {N G : Type 0} (type_at : N → F.Node N G) (buckets : ℕ) (ms : List N) → AreBelow (suc buckets) (map (member_bucket type_at buckets) ms)
all_below type_at k [] i n e = absurd (cc)
all_below type_at k (m ∷ ms) zero n e = omega (arith, form_within k (type_at m), same_some e)
all_below type_at k (m ∷ ms) (suc i) n e = all_below type_at k ms i n e

-- A literal in another bucket has another value.
other_value : {N G : Type 0} (buckets : ℕ) (f : F.Node N G) (x : Value) → (form_bucket buckets f ≡ bucket_of buckets x → ⊥) → (form_bucket buckets f ≡ buckets → ⊥) → IsOther f x
other_value k (F.Plain (equals v)) x d e = (v, refl, by (same_value x v) refl)
  where
    by : (b : Bool) → same_value x v ≡ b → b ≡ false
    by true h = absurd (d (sym (alike k x v h)))
    by false h = refl
other_value k _ x d e = absurd (e refl)

-- The members before the next ones are literals of other values.
pub passed : {N G : Type 0} (type_at : N → F.Node N G) (ms : List N) (x : Value) (from : ℕ) (c : Candidates) → AreNext type_at ms x from c → (i : ℕ) (m : N) → from ≤ i → i < first_of c → slice_get ms i ≡ Some m → IsOther (type_at m) x
passed type_at ms x from c next i m h l e =
    let k = length ms in
    let there = at_member type_at k ms i m e in
    other_value k (type_at m) x
    (λ same. next.0.1.1.0 i h (omega (arith, l)) (there ∙ ap Some same))
    (λ same. next.1.1.1.0 i h (omega (arith, l)) (there ∙ ap Some same))

pub as_many : {N G : Type 0} (type_at : N → F.Node N G) (ms : List N) → length (buckets_in type_at ms) ≡ length ms
as_many type_at ms = length-map ms (member_bucket type_at (length ms))

-- What is next after the position that was asked: the next in its bucket, or what was next anyhow.
pub past_next : (bs : List ℕ) (n from position first next : ℕ) → IsNext bs n from position → from ≤ first → first ≤ position → first < length bs → (first ≡ position → slice_get bs position ≡ Some n → IsNext bs n (suc position) next) → ((first ≡ position → ⊥) → next ≡ position) → IsNext bs n (suc first) next
past_next bs n from position first next h f l b same other = elim (same_or_not first position) [
  | inl k ↦ subst (λ j. IsNext bs n (suc j) next) (sym k) (same k (h.1.1.1 (omega (arith, k, b))))
  | inr k ↦ subst (IsNext bs n (suc first)) (sym (other k)) (omega (arith, k, l), (h.1.0, (λ i a c s. h.1.1.0 i (omega (arith, a, f)) c s, h.1.1.1)))
]

-- One index more is that of its choice.
pub one_more : (types : List Node) (indexes : List LiteralIndex) (index : LiteralIndex) → AreIndexed types indexes → IsIndexed types index → AreIndexed types (indexes ++ index ∷ [])
one_more types indexes index h is i x e = elim (after_push indexes index i x e) [
  | inl k ↦ subst (IsIndexed types) k.1 is
  | inr k ↦ h i x k
]

abbrev members_of : {N G : Type 0} → F.Node N G → List N
members_of (F.Choice ms) = ms
members_of _ = []

abbrev ways_of : {N G : Type 0} → F.Node N G → List (List (F.MapEntry N))
ways_of (F.MapOf ways) = ways
ways_of _ = []

-- what stands in the list at the number of a type
pub at_number : (types : List Node) (form : Node) (of : TypeId) → slice_get types of.number ≡ Some form → type_in types of ≡ type_view form
at_number types form of there = ap type_or_none there

-- The index after the others is that of a choice.
pub of_choice : (types : List Node) (of : TypeId) (ms : List TypeId) (before after : List LiteralIndex) (way : ℕ) → type_in types of ≡ F.Choice ms → AreIndexed types before → IsOneMore before of way (buckets_in (type_in types) ms) after → AreIndexed types after
of_choice types of ms before after way is h one = subst (AreIndexed types) (sym one.last) (one_more types before one.index h (members, entries))
  where
    here : type_in types one.index.of ≡ F.Choice ms
    here = ap (type_in types) one.same_type ∙ is

    members : (ns : List TypeId) → type_in types one.index.of ≡ F.Choice ns → IsIndexOf (type_in types) ns one.index
    members ns e = subst (λ ns. IsIndexOf (type_in types) ns one.index) (ap members_of (sym here ∙ e)) one.chains

    entries : (ways : List (List (F.MapEntry TypeId))) (es : List (F.MapEntry TypeId)) → type_in types one.index.of ≡ F.MapOf ways → slice_get ways one.index.way ≡ Some es → IsEntryIndexOf (type_in types) es one.index
    entries ways es e f = absurd (cc (here, e))

-- It is that of an alternative of a map.
pub of_map : (types : List Node) (of : TypeId) (ways : List (List (F.MapEntry TypeId))) (es : List (F.MapEntry TypeId)) (before after : List LiteralIndex) (way : ℕ) → type_in types of ≡ F.MapOf ways → slice_get ways way ≡ Some es → AreIndexed types before → IsOneMore before of way (entry_buckets_in (type_in types) es) after → AreIndexed types after
of_map types of ways es before after way is there h one = subst (AreIndexed types) (sym one.last) (one_more types before one.index h (members, entries))
  where
    here : type_in types one.index.of ≡ F.MapOf ways
    here = ap (type_in types) one.same_type ∙ is

    members : (ns : List TypeId) → type_in types one.index.of ≡ F.Choice ns → IsIndexOf (type_in types) ns one.index
    members ns e = absurd (cc (here, e))

    entries : (vs : List (List (F.MapEntry TypeId))) (fs : List (F.MapEntry TypeId)) → type_in types one.index.of ≡ F.MapOf vs → slice_get vs one.index.way ≡ Some fs → IsEntryIndexOf (type_in types) fs one.index
    entries vs fs e f = subst (λ fs. IsEntryIndexOf (type_in types) fs one.index) (same_some (sym there ∙ (ap (slice_get ways) (sym one.same_way) ∙ (ap (λ v. slice_get v one.index.way) (ap ways_of (sym here ∙ e)) ∙ f)))) one.chains

-- an index that was found
pub found : (types : List Node) (indexes : List LiteralIndex) (choice : TypeId) (way : ℕ) (ms : List TypeId) (o : Option (Bor LiteralIndex)) → AreIndexed types indexes → type_in types choice ≡ F.Choice ms → IfSome o (λ index. (index.now.of ≡ choice) × (index.now.way ≡ way) × Contains indexes index.now) → IfSome o (λ index. IsIndexOf (type_in types) ms index.now)
found types indexes choice way ms None h e is = tt
found types indexes choice way ms (Some index) h e is = let at = place_of indexes index.now is.2 in (h at.0 index.now at.1).0 ms (ap (type_in types) is.0 ∙ e)

pub found_way : (types : List Node) (indexes : List LiteralIndex) (map : TypeId) (way : ℕ) (ways : List (List (F.MapEntry TypeId))) (es : List (F.MapEntry TypeId)) (o : Option (Bor LiteralIndex)) → AreIndexed types indexes → type_in types map ≡ F.MapOf ways → slice_get ways way ≡ Some es → IfSome o (λ index. (index.now.of ≡ map) × (index.now.way ≡ way) × Contains indexes index.now) → IfSome o (λ index. IsEntryIndexOf (type_in types) es index.now)
found_way types indexes map way ways es None h e there is = tt
found_way types indexes map way ways es (Some index) h e there is = let at = place_of indexes index.now is.2 in (h at.0 index.now at.1).1 ways es (ap (type_in types) is.0 ∙ e) (ap (slice_get ways) is.1 ∙ there)

literal_within : (buckets : ℕ) (o : Option Value) → literal_bucket buckets o ≤ buckets
literal_within k None = omega arith
literal_within k (Some v) = coded_within k (code_of v)

-- what stands at a position among the entries stands there, by its bucket
at_entry : {N G : Type 0} (type_at : N → F.Node N G) (buckets : ℕ) (es : List (F.MapEntry N)) (i : ℕ) (e : F.MapEntry N) → slice_get es i ≡ Some e → slice_get (map (entry_bucket type_at buckets) es) i ≡ Some (entry_bucket type_at buckets e)
at_entry type_at k es i e there = slice_get-map (entry_bucket type_at k) es i ∙ ap (option_map (entry_bucket type_at k)) there

pub entries_below : {N G : Type 0} (type_at : N → F.Node N G) (buckets : ℕ) (es : List (F.MapEntry N)) → AreBelow (suc buckets) (map (entry_bucket type_at buckets) es)
entries_below type_at k [] i n e = absurd (cc)
entries_below type_at k (m ∷ ms) zero n e = omega (arith, literal_within k (key_in type_at most_forms m.key_type), same_some e)
entries_below type_at k (m ∷ ms) (suc i) n e = entries_below type_at k ms i n e

-- A literal in another bucket is another one.
other_key : (buckets : ℕ) (o : Option Value) (x : Value) → (literal_bucket buckets o ≡ bucket_of buckets x → ⊥) → (literal_bucket buckets o ≡ buckets → ⊥) → is_other o x ≡ true
other_key k None x d e = absurd (e refl)
other_key k (Some v) x d e = by (same_value x v) refl
  where
    by : (b : Bool) → same_value x v ≡ b → is_other (Some v) x ≡ true
    by true h = absurd (d (sym (alike k x v h)))
    by false h = rw h refl

-- The entries before the next ones are passed over.
pub entries_passed : {N G : Type 0} (type_at : N → F.Node N G) (es : List (F.MapEntry N)) (x : Value) (from : ℕ) (c : Candidates) → AreNextEntries type_at es x from c → (i : ℕ) (e : F.MapEntry N) → from ≤ i → i < first_of c → slice_get es i ≡ Some e → is_passed_over (by_forms type_at) e.key_type x ≡ true
entries_passed type_at es x from c next i e h l there =
    let k = length es in
    let at = at_entry type_at k es i e there in
    other_key k (key_in type_at most_forms e.key_type) x
    (λ same. next.0.1.1.0 i h (omega (arith, l)) (at ∙ ap Some same))
    (λ same. next.1.1.1.0 i h (omega (arith, l)) (at ∙ ap Some same))

pub as_many_entries : {N G : Type 0} (type_at : N → F.Node N G) (es : List (F.MapEntry N)) → length (entry_buckets_in type_at es) ≡ length es
as_many_entries type_at es = length-map es (entry_bucket type_at (length es))

-- Their buckets are so many that all of them are below one more.
pub members_fit : (types : List Node) (ms : List TypeId) (bs : List ℕ) → bs ≡ buckets_in (type_in types) ms → AreBelow (length bs + 1) bs
members_fit types ms bs e =
    let one : suc (length ms) ≡ length bs + 1 = omega (arith, ap length e, as_many (type_in types) ms) in
    rw e (subst (λ k. AreBelow k (buckets_in (type_in types) ms)) (one ∙ ap (λ xs. length xs + 1) e) (all_below (type_in types) (length ms) ms))

pub entries_fit : (types : List Node) (es : List (F.MapEntry TypeId)) (bs : List ℕ) → bs ≡ entry_buckets_in (type_in types) es → AreBelow (length bs + 1) bs
entries_fit types es bs e =
    let one : suc (length es) ≡ length bs + 1 = omega (arith, ap length e, as_many_entries (type_in types) es) in
    rw e (subst (λ k. AreBelow k (entry_buckets_in (type_in types) es)) (one ∙ ap (λ xs. length xs + 1) e) (entries_below (type_in types) (length es) es))

-- what follows of each value that is there follows where one is
pub ok_so : {A E P Q : Type 0} (r : Result A E) → IfOk r (λ _. P) → (P → Q) → IfOk r (λ _. Q)
ok_so (Ok a) p f = f p
ok_so (Err e) p f = tt
