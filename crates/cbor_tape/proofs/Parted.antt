-- Keys part by part.
use Rattle.std.proofs.Common.{◌≡◌, ℕ, ◌+◌, ◌-◌, ◌/◌, ◌<◌, ◌≤◌, ◌⊎◌, false, List, [], ◌∷◌, ◌++◌, length, drop, get_or, min, Option, Some, None, refl, sym, ap, ap₂, ◌∙◌, subst, arith, append_assoc, append-nil, inl, inr, length-append, length-drop}
use Rattle.std.specs.Cmp.Lexicographic.{slice_cmp}
use Rattle.std.specs.Cmp.{nat_cmp_is}
use Rattle.std.specs.Ordering.{nat_cmp, ordering_then}
use Rattle.std.specs.declared.cmp.Ordering.{Ordering}
use Rattle.std.specs.declared.cmp.Ordering.TheVariants.{Less, Equal, Greater}
use Rattle.std.proofs.lemmas.Map.Lookups.{exact_bytes}
use Rattle.cbor_data.specs.declared.Width.TheVariants.{W16, W32, W64}
use Rattle.cbor_data.specs.Value.{Value, uint, nint, bytes, text, array, pairs, tag, simple, float}
use Rattle.cbor_data.specs.Forms.{Chunk, joined, Form, uint_form, nint_form, bytes_form, bytes_chunks, text_form, text_chunks, array_form, array_to_break, pairs_form, pairs_to_break, tag_form, simple_inside, simple_next, float_form, Forms, no_forms, form, forms_len, flat, forms_flat, meaning, meanings, AreFormsOk}
use Rattle.cbor_data.proofs.Lemmas.{form_some, head_some, one_form}
use Rattle.lists.proofs.Lemmas.{ordered}
use Rattle.item_nodes.specs.Apart.{has_parts}
use Rattle.read_items.specs.Whole.Parts.{IsArgumentAt}
use Rattle.cbor_tape.specs.declared.parts.Part.{Part}
use Rattle.cbor_tape.specs.Contents.{AreChunksFrom, AreSizedAt, HasChunks, HasContent, IsTold}
use Rattle.cbor_tape.specs.Keys.{mark, marks, mark_of, IsKeyAt, IsOrder, IsPlainAt}
use Rattle.cbor_tape.specs.Parted.{inside_of, part_content, part_mark, ArePartsFrom, ArePartsTold, AreFormsFrom, AreToldAt, IsFormAt, IsPartAt, IsPartOf}
use Rattle.cbor_tape.proofs.Contents.{decided, same_front, told_equal, told_from, told_order}
use Rattle.cbor_tape.proofs.Marks.{by_heads, by_strings}
use Rattle.cbor_tape.proofs.Forms.{form_byte}
use Rattle.cbor_tape.proofs.Heads.{array_parts, chunks_of_bytes, chunks_of_text, map_pairs, tag_part, values_counted}

-- forms, and others after them

abbrev before : Forms → Forms → Forms
before no_forms gs = gs
before (form f fs) gs = form f (before fs gs)

before_len : (fs gs : Forms) → forms_len (before fs gs) ≡ forms_len fs + forms_len gs
before_len no_forms gs = omega arith
before_len (form f fs) gs = omega (arith, before_len fs gs)

before_flat : (fs gs : Forms) (after : List ℕ) → forms_flat (before fs gs) ++ after ≡ forms_flat fs ++ (forms_flat gs ++ after)
before_flat no_forms gs after = refl
before_flat (form f fs) gs after =
    append_assoc (flat f) (forms_flat (before fs gs)) after ∙ (ap (λ r. flat f ++ r) (before_flat fs gs after) ∙ sym (append_assoc (flat f) (forms_flat fs) (forms_flat gs ++ after)))

before_ok : (fs gs : Forms) → AreFormsOk fs → AreFormsOk gs → AreFormsOk (before fs gs)
before_ok no_forms gs h k = k
before_ok (form f fs) gs h k = (h.0, before_ok fs gs h.1 k)

before_marks : (fs gs : Forms) → marks (meanings (before fs gs)) ≡ marks (meanings fs) ++ marks (meanings gs)
before_marks no_forms gs = refl
before_marks (form f fs) gs =
    ap (λ r. mark (meaning f) ++ r) (before_marks fs gs) ∙ sym (append_assoc (mark (meaning f)) (marks (meanings fs)) (marks (meanings gs)))

-- what is left of a key: so many forms from `at` on, where this front of its mark was gone through
pub record AreLeft (b : List ℕ) (m front : List ℕ) (at left : ℕ) : Type 0 where
  pub forms : Forms
  pub after : List ℕ
  pub there : AreFormsFrom b at forms after
  pub count : forms_len forms ≡ left
  pub rest : m ≡ front ++ marks (meanings forms)

-- the form that comes next
record IsNext (b : List ℕ) (m front : List ℕ) (at : ℕ) : Type 0 where
  next : Form
  behind : List ℕ
  here : IsFormAt b at next behind
  tail : List ℕ
  split : m ≡ front ++ (mark (meaning next) ++ tail)

next_form : (b m front : List ℕ) (at left : ℕ) → 0 < left → AreLeft b m front at left → IsNext b m front at
next_form b m front at left some h = by h.forms h.there h.count h.rest
  where
    by : (fs : Forms) → AreFormsFrom b at fs h.after → forms_len fs ≡ left → m ≡ front ++ marks (meanings fs) → IsNext b m front at
    by no_forms there count rest = absurd (omega arith)
    by (form f fs) there count rest = record {
      next = f;
      behind = forms_flat fs ++ h.after;
      here = record { ok = there.ok.0; is = there.is ∙ append_assoc (flat f) (forms_flat fs) h.after };
      tail = marks (meanings fs);
      split = rest;
    }

-- a part of it, and what is left then
record IsStep (b : List ℕ) (m front : List ℕ) (left : ℕ) (p : Part) : Type 0 where
  content : List ℕ
  holds : HasContent b (part_content p) content
  tail : List ℕ
  split : m ≡ front ++ (part_mark p content ++ tail)
  next : (count : ℕ) → inside_of p.key.kind p.key.argument ≡ Some count → AreLeft b m (front ++ part_mark p content) p.end ((left - 1) + count)

step : (b m front : List ℕ) (at left : ℕ) (p : Part) → 0 < left → AreLeft b m front at left → IsPartAt b at p → IsStep b m front left p
step b m front at left p some h part = by h.forms h.there h.count h.rest
  where
    by : (fs : Forms) → AreFormsFrom b at fs h.after → forms_len fs ≡ left → m ≡ front ++ marks (meanings fs) → IsStep b m front left p
    by no_forms there count rest = absurd (omega arith)
    by (form f fs) there count rest =
        let behind = forms_flat fs ++ h.after in
        let own : IsPartOf b f behind p = part f behind (record { ok = there.ok.0; is = there.is ∙ append_assoc (flat f) (forms_flat fs) h.after }) in
        let begin = part_mark p own.content in
        let others = marks (meanings fs) in
        let split : m ≡ front ++ (begin ++ (own.rest ++ others)) = rest ∙ (ap (λ r. front ++ (r ++ others)) own.marked ∙ ap (λ r. front ++ r) (append_assoc begin own.rest others)) in
        record {
          content = own.content;
          holds = own.holds;
          tail = own.rest ++ others;
          split = split;
          next = λ more is.
              let inside : ArePartsFrom b p.end (Some more) own.rest behind = subst (λ (o : Option ℕ). ArePartsFrom b p.end o own.rest behind) is own.inside in
              let gs = inside.0 in
              record {
                forms = before gs fs;
                after = h.after;
                there = record { ok = before_ok gs fs inside.1.ok there.ok.1; is = inside.1.is ∙ sym (before_flat gs fs h.after) };
                count = omega (arith, before_len gs fs, inside.2, count);
                rest = split ∙ (ap (λ r. front ++ (begin ++ (r ++ others))) inside.3 ∙ (ap (λ r. front ++ (begin ++ r)) (sym (before_marks gs fs)) ∙ sym (append_assoc front begin (marks (meanings (before gs fs))))));
              };
        }

-- the same was gone through of both keys
pub record AreBoth (b : List ℕ) (m n : List ℕ) (at other left : ℕ) : Type 0 where
  pub front : List ℕ
  pub one : AreLeft b m front at left
  pub two : AreLeft b n front other left

abbrev pub AreBothOf : List ℕ → ℕ → ℕ → ℕ → ℕ → ℕ → Type 0
AreBothOf b key beside at other left = (m n : List ℕ) → IsKeyAt b key m → IsKeyAt b beside n → AreBoth b m n at other left

all_left : (b : List ℕ) (at : ℕ) (m : List ℕ) → IsKeyAt b at m → AreLeft b m [] at 1
all_left b at m k = record {
  forms = form k.written no_forms;
  after = k.after;
  there = record { ok = (k.ok, tt); is = k.is ∙ ap (λ r. r ++ k.after) (sym (append-nil (flat k.written))) };
  count = refl;
  rest = sym k.marked ∙ sym (append-nil (mark (meaning k.written)));
}

pub both_left : (b : List ℕ) (at other : ℕ) → AreBothOf b at other at other 1
both_left b at other m n k l = record { front = []; one = all_left b at m k; two = all_left b other n l }

-- the parts differ
pub parts_differ : (b : List ℕ) (key beside at other left : ℕ) (p q : Part) (o : Ordering) → 0 < left → IsPartAt b at p → IsPartAt b other q → ArePartsTold b p q o → (o ≡ Equal → ⊥) → AreBothOf b key beside at other left → IsOrder b key beside o
parts_differ b key beside at other left p q o some part part_too told differ h m n k l _ =
    let w = h m n k l in
    let s = step b m w.front at left p some w.one part in
    let t = step b n w.front other left q some w.two part_too in
    let order = told_order o (part_mark p s.content) (part_mark q t.content) s.tail t.tail (told s.content t.content s.holds t.holds) differ in
    ap₂ (slice_cmp nat_cmp) s.split t.split ∙ (same_front w.front (part_mark p s.content ++ s.tail) (part_mark q t.content ++ t.tail) ∙ order)

-- the parts are equal
pub parts_same : (b : List ℕ) (key beside at other left count : ℕ) (p q : Part) (o : Ordering) → 0 < left → IsPartAt b at p → IsPartAt b other q → ArePartsTold b p q o → o ≡ Equal → inside_of p.key.kind p.key.argument ≡ Some count → AreBothOf b key beside at other left → AreBothOf b key beside p.end q.end ((left - 1) + count)
parts_same b key beside at other left count p q o some part part_too told equal inside h m n k l =
    let w = h m n k l in
    let s = step b m w.front at left p some w.one part in
    let t = step b n w.front other left q some w.two part_too in
    let same : part_mark p s.content ≡ part_mark q t.content = told_equal o (part_mark p s.content) (part_mark q t.content) (told s.content t.content s.holds t.holds) equal in
    let kind : p.key.kind ≡ q.key.kind = cc in
    let argument : p.key.argument ≡ q.key.argument = cc in
    record {
      front = w.front ++ part_mark p s.content;
      one = s.next count inside;
      two = subst (λ r. AreLeft b n (w.front ++ r) q.end ((left - 1) + count)) (sym same) (t.next count (ap₂ inside_of (sym kind) (sym argument) ∙ inside));
    }

-- the next items are told apart
pub told_next : (b : List ℕ) (key beside at other left : ℕ) (o : Ordering) → 0 < left → AreToldAt b at other o → AreBothOf b key beside at other left → IsOrder b key beside o
told_next b key beside at other left o some told h m n k l _ =
    let w = h m n k l in
    let x = next_form b m w.front at left some w.one in
    let y = next_form b n w.front other left some w.two in
    ap₂ (slice_cmp nat_cmp) x.split y.split ∙ (same_front w.front (mark (meaning x.next) ++ x.tail) (mark (meaning y.next) ++ y.tail) ∙ told x.next y.next x.behind y.behind x.here y.here x.tail y.tail)

-- by major types, which are those of all kinds below 7

kinded : (b : List ℕ) (at : ℕ) (f : Form) (after : List ℕ) → IsFormAt b at f after → (k : ℕ) × (rest : List ℕ) × (mark (meaning f) ≡ k ∷ rest) × (min k 7 ≡ get_or b at 0 / 32)
kinded b at (uint_form p n) after h = (0, _, refl, (form_byte b at (uint_form p n) after h).major)
kinded b at (nint_form p n) after h = (1, _, refl, (form_byte b at (nint_form p n) after h).major)
kinded b at (bytes_form p s) after h = (2, _, refl, (form_byte b at (bytes_form p s) after h).major)
kinded b at (bytes_chunks cs) after h = (2, _, refl, (form_byte b at (bytes_chunks cs) after h).major)
kinded b at (text_form p s) after h = (3, _, refl, (form_byte b at (text_form p s) after h).major)
kinded b at (text_chunks cs) after h = (3, _, refl, (form_byte b at (text_chunks cs) after h).major)
kinded b at (array_form p fs) after h = (4, _, refl, (form_byte b at (array_form p fs) after h).major)
kinded b at (array_to_break fs) after h = (4, _, refl, (form_byte b at (array_to_break fs) after h).major)
kinded b at (pairs_form p ps) after h = (5, _, refl, (form_byte b at (pairs_form p ps) after h).major)
kinded b at (pairs_to_break ps) after h = (5, _, refl, (form_byte b at (pairs_to_break ps) after h).major)
kinded b at (tag_form p n f) after h = (6, _, refl, (form_byte b at (tag_form p n f) after h).major)
kinded b at (simple_inside n) after h = (7, _, refl, (form_byte b at (simple_inside n) after h).major)
kinded b at (simple_next n) after h = (7, _, refl, (form_byte b at (simple_next n) after h).major)
kinded b at (float_form W16 n) after h = (8, _, refl, (form_byte b at (float_form W16 n) after h).major)
kinded b at (float_form W32 n) after h = (9, _, refl, (form_byte b at (float_form W32 n) after h).major)
kinded b at (float_form W64 n) after h = (10, _, refl, (form_byte b at (float_form W64 n) after h).major)

first_told : (j k : ℕ) (xs ys : List ℕ) (o : Ordering) → o ≡ nat_cmp j k → (o ≡ Equal → ⊥) → slice_cmp nat_cmp (j ∷ xs) (k ∷ ys) ≡ o
first_told j k xs ys o is differ = decided (nat_cmp j k) Equal (slice_cmp nat_cmp xs ys) o (before_equal (nat_cmp j k) ∙ sym is) (λ same. absurd (differ (sym same)))
  where
    before_equal : (c : Ordering) → ordering_then c Equal ≡ c
    before_equal Less = refl
    before_equal Equal = refl
    before_equal Greater = refl

pub lower_major : (b : List ℕ) (at other : ℕ) → get_or b at 0 / 32 < get_or b other 0 / 32 → AreToldAt b at other Less
lower_major b at other less f g after behind h k u v =
    let i = kinded b at f after h in
    let j = kinded b other g behind k in
    let below : i.0 < j.0 = omega (arith, i.3, j.3, less) in
    ap₂ (λ xs ys. slice_cmp nat_cmp (xs ++ u) (ys ++ v)) i.2 j.2 ∙ first_told i.0 j.0 (i.1 ++ u) (j.1 ++ v) Less (nat_cmp_is i.0 j.0 Less below) (λ e. cc)

pub higher_major : (b : List ℕ) (at other : ℕ) → get_or b other 0 / 32 < get_or b at 0 / 32 → AreToldAt b at other Greater
higher_major b at other less f g after behind h k u v =
    let i = kinded b at f after h in
    let j = kinded b other g behind k in
    let above : j.0 < i.0 = omega (arith, i.3, j.3, less) in
    ap₂ (λ xs ys. slice_cmp nat_cmp (xs ++ u) (ys ++ v)) i.2 j.2 ∙ first_told i.0 j.0 (i.1 ++ u) (j.1 ++ v) Greater (nat_cmp_is i.0 j.0 Greater above) (λ e. cc)

-- what a part begins with is told by the heads, or by the contents where these are the same

pub heads_differ : (b : List ℕ) (p q : Part) (o : Ordering) → o ≡ ordering_then (nat_cmp p.key.kind q.key.kind) (nat_cmp p.key.argument q.key.argument) → (o ≡ Equal → ⊥) → ArePartsTold b p q o
heads_differ b p q o is differ s t hold hold_too =
    told_from o (part_mark p s) (part_mark q t) differ (λ u v. sym (by_heads (nat_cmp p.key.kind q.key.kind) (nat_cmp p.key.argument q.key.argument) (slice_cmp nat_cmp (s ++ u) (t ++ v)) o is differ))

pub heads_same : (b : List ℕ) (p q : Part) (o : Ordering) → ordering_then (nat_cmp p.key.kind q.key.kind) (nat_cmp p.key.argument q.key.argument) ≡ Equal → ((s t : List ℕ) → HasContent b (part_content p) s → HasContent b (part_content q) t → IsTold o s t) → ArePartsTold b p q o
heads_same b p q o equal told s t hold hold_too = by o (told s t hold hold_too)
  where
    heads : p.key.kind ∷ p.key.argument ∷ [] ≡ q.key.kind ∷ q.key.argument ∷ []
    heads = exact_bytes (p.key.kind ∷ p.key.argument ∷ []) (q.key.kind ∷ q.key.argument ∷ []) (sym (by_strings (nat_cmp p.key.kind q.key.kind) (nat_cmp p.key.argument q.key.argument) Equal equal))

    begin : (r : List ℕ) → part_mark q r ≡ part_mark p r
    begin r = ap (λ l. l ++ r) (sym heads)

    by : (o : Ordering) → IsTold o s t → IsTold o (part_mark p s) (part_mark q t)
    by Equal h = ap (part_mark p) h ∙ sym (begin t)
    by Less h = λ u v. ap (λ l. slice_cmp nat_cmp (part_mark p s ++ u) (l ++ v)) (begin t) ∙ (same_front (p.key.kind ∷ p.key.argument ∷ []) (s ++ u) (t ++ v) ∙ h u v)
    by Greater h = λ u v. ap (λ l. slice_cmp nat_cmp (part_mark p s ++ u) (l ++ v)) (begin t) ∙ (same_front (p.key.kind ∷ p.key.argument ∷ []) (s ++ u) (t ++ v) ∙ h u v)

-- the parts themselves

plain_inside : (x : Value) (k n : ℕ) (s : List ℕ) → has_parts x ≡ false → mark x ≡ k ∷ n ∷ s → inside_of k n ≡ Some 0
plain_inside (uint l) k n s h e = let kind : 0 ≡ k = cc in subst (λ i. inside_of i n ≡ Some 0) kind refl
plain_inside (nint l) k n s h e = let kind : 1 ≡ k = cc in subst (λ i. inside_of i n ≡ Some 0) kind refl
plain_inside (bytes l) k n s h e = let kind : 2 ≡ k = cc in subst (λ i. inside_of i n ≡ Some 0) kind refl
plain_inside (text l) k n s h e = let kind : 3 ≡ k = cc in subst (λ i. inside_of i n ≡ Some 0) kind refl
plain_inside (array l) k n s h e = absurd (cc)
plain_inside (pairs l) k n s h e = absurd (cc)
plain_inside (tag l x) k n s h e = absurd (cc)
plain_inside (simple l) k n s h e = let kind : 7 ≡ k = cc in subst (λ i. inside_of i n ≡ Some 0) kind refl
plain_inside (float W16 l) k n s h e = let kind : 8 ≡ k = cc in subst (λ i. inside_of i n ≡ Some 0) kind refl
plain_inside (float W32 l) k n s h e = let kind : 9 ≡ k = cc in subst (λ i. inside_of i n ≡ Some 0) kind refl
plain_inside (float W64 l) k n s h e = let kind : 10 ≡ k = cc in subst (λ i. inside_of i n ≡ Some 0) kind refl

none_inside : (b : List ℕ) (end : ℕ) (after : List ℕ) → drop end b ≡ after → ArePartsFrom b end (Some 0) [] after
none_inside b end after is = (no_forms, record { ok = tt; is = is }, refl, refl)

pub plain_part : (b : List ℕ) (at : ℕ) (p : Part) → p.chunks ≡ None → IsPlainAt b at (mark_of p.key) p.end → IsPartAt b at p
plain_part b at p whole k f after h =
    let same = one_form f k.written after (drop p.end b) h.ok k.ok (sym h.is ∙ k.is) in
    let marked : mark (meaning f) ≡ mark_of p.key = ap (λ g. mark (meaning g)) same.0 ∙ k.marked in
    record {
      content = p.key.string.now;
      holds = ([], subst (λ (o : Option ℕ). HasChunks b o []) (sym whole) refl, sym (append-nil p.key.string.now));
      rest = [];
      marked = marked ∙ sym (append-nil (mark_of p.key));
      inside = subst (λ (o : Option ℕ). ArePartsFrom b p.end o [] after) (sym (plain_inside (meaning k.written) p.key.kind p.key.argument p.key.string.now k.plain k.marked)) (none_inside b p.end after (sym same.1));
    }

-- a part with no bytes of its own and no chunks
bare : (b : List ℕ) (p : Part) → p.key.string.now ≡ [] → p.chunks ≡ None → HasContent b (part_content p) []
bare b p empty whole = ([], subst (λ (o : Option ℕ). HasChunks b o []) (sym whole) refl, ap (λ l. l ++ []) (sym empty))

-- a part with no string, whose kind is its major type
headed : (b : List ℕ) (p : Part) (f : Form) (after rest : List ℕ) (m : ℕ) → p.key.kind ≡ m → p.key.string.now ≡ [] → p.chunks ≡ None → mark (meaning f) ≡ m ∷ p.key.argument ∷ rest → ArePartsFrom b p.end (inside_of m p.key.argument) rest after → IsPartOf b f after p
headed b p f after rest m kind empty whole marked inside = record {
  content = [];
  holds = bare b p empty whole;
  rest = rest;
  marked = marked ∙ ap (λ k. k ∷ p.key.argument ∷ rest) (sym kind);
  inside = subst (λ k. ArePartsFrom b p.end (inside_of k p.key.argument) rest after) (sym kind) inside;
}

array_part : (b : List ℕ) (at : ℕ) (p : Part) → p.key.kind ≡ get_or b at 0 / 32 → p.key.string.now ≡ [] → p.chunks ≡ None → IsArgumentAt b at p.key.argument p.end → get_or b at 0 / 32 ≡ 4 → IsPartAt b at p
array_part b at p kind empty whole head m f after h =
    let r = array_parts b at p.key.argument p.end f after h head m in
    headed b p f after (marks (meanings r.0)) 4 (kind ∙ m) empty whole (ap mark r.1 ∙ ap (λ n. 4 ∷ n ∷ marks (meanings r.0)) (values_counted r.0 ∙ r.3)) (r.0, r.2, r.3, refl)

map_part : (b : List ℕ) (at : ℕ) (p : Part) → p.key.kind ≡ get_or b at 0 / 32 → p.key.string.now ≡ [] → p.chunks ≡ None → IsArgumentAt b at p.key.argument p.end → get_or b at 0 / 32 ≡ 5 → IsPartAt b at p
map_part b at p kind empty whole head m f after h =
    let r = map_pairs b at p.key.argument p.end f after h head m in
    headed b p f after [] 5 (kind ∙ m) empty whole (ap mark r.1 ∙ ap (λ n. 5 ∷ n ∷ []) r.2) tt

tagged_part : (b : List ℕ) (at : ℕ) (p : Part) → p.key.kind ≡ get_or b at 0 / 32 → p.key.string.now ≡ [] → p.chunks ≡ None → IsArgumentAt b at p.key.argument p.end → get_or b at 0 / 32 ≡ 6 → IsPartAt b at p
tagged_part b at p kind empty whole head m f after h =
    let r = tag_part b at p.key.argument p.end f after h head m in
    headed b p f after (mark (meaning r.0)) 6 (kind ∙ m) empty whole (ap mark r.1) (form r.0 no_forms, r.2, refl, sym (append-nil (mark (meaning r.0))))

pub container_part : (b : List ℕ) (at : ℕ) (p : Part) → p.key.kind ≡ get_or b at 0 / 32 → p.key.string.now ≡ [] → p.chunks ≡ None → IsArgumentAt b at p.key.argument p.end → 4 ≤ get_or b at 0 / 32 → get_or b at 0 / 32 ≤ 6 → IsPartAt b at p
container_part b at p kind empty whole head least most =
    let major : ℕ = get_or b at 0 / 32 in
    elim (ordered major 5) [
      | inl m ↦ map_part b at p kind empty whole head m
      | inr far ↦ elim far [
        | inl below ↦ let m : major ≡ 4 = omega (arith, below, least) in array_part b at p kind empty whole head m
        | inr above ↦ let m : major ≡ 6 = omega (arith, above, most) in tagged_part b at p kind empty whole head m
      ]
    ]

chunked : (b : List ℕ) (at m : ℕ) (p : Part) (string : List ℕ → Value) → inside_of m p.key.argument ≡ Some 0 → ((s : List ℕ) → mark (string s) ≡ m ∷ length s ∷ s) → p.key.kind ≡ m → p.key.string.now ≡ [] → p.chunks ≡ Some (at + 1) → AreSizedAt b (at + 1) p.key.argument p.end → (f : Form) (after : List ℕ) → (cs : List Chunk) × (meaning f ≡ string (joined cs)) × AreChunksFrom b (at + 1) cs after → IsPartOf b f after p
chunked b at m p string none marked kind empty from sized f after r =
    let size = sized r.0 after r.2 in
    record {
      content = joined r.0;
      holds = (joined r.0, subst (λ (o : Option ℕ). HasChunks b o (joined r.0)) (sym from) (r.0, after, r.2, refl), ap (λ l. l ++ joined r.0) (sym empty));
      rest = [];
      marked = ap mark r.1 ∙ (marked (joined r.0) ∙ (ap₂ (λ (k n : ℕ). k ∷ n ∷ joined r.0) (sym kind) size.0 ∙ sym (append-nil (part_mark p (joined r.0)))));
      inside = subst (λ k. ArePartsFrom b p.end (inside_of k p.key.argument) [] after) (sym kind) (subst (λ (o : Option ℕ). ArePartsFrom b p.end o [] after) (sym none) (none_inside b p.end after size.1));
    }

byte_chunks_part : (b : List ℕ) (at : ℕ) (p : Part) → get_or b at 0 ≡ 95 → p.key.kind ≡ get_or b at 0 / 32 → p.key.string.now ≡ [] → p.chunks ≡ Some (at + 1) → AreSizedAt b (at + 1) p.key.argument p.end → IsPartAt b at p
byte_chunks_part b at p is kind empty from sized f after h = chunked b at 2 p bytes refl (λ s. refl) (omega (arith, kind, is)) empty from sized f after (chunks_of_bytes b at f after h is)

text_chunks_part : (b : List ℕ) (at : ℕ) (p : Part) → get_or b at 0 ≡ 127 → p.key.kind ≡ get_or b at 0 / 32 → p.key.string.now ≡ [] → p.chunks ≡ Some (at + 1) → AreSizedAt b (at + 1) p.key.argument p.end → IsPartAt b at p
text_chunks_part b at p is kind empty from sized f after h = chunked b at 3 p text refl (λ s. refl) (omega (arith, kind, is)) empty from sized f after (chunks_of_text b at f after h is)

pub chunks_part : (b : List ℕ) (at : ℕ) (p : Part) → (get_or b at 0 ≡ 95) ⊎ (get_or b at 0 ≡ 127) → p.key.kind ≡ get_or b at 0 / 32 → p.key.string.now ≡ [] → p.chunks ≡ Some (at + 1) → AreSizedAt b (at + 1) p.key.argument p.end → IsPartAt b at p
chunks_part b at p either kind empty from sized = elim either [ inl is ↦ byte_chunks_part b at p is kind empty from sized | inr is ↦ text_chunks_part b at p is kind empty from sized ]

-- less is left after a part

pub plain_moves : (b : List ℕ) (at end : ℕ) (m : List ℕ) → IsPlainAt b at m end → at < length b → length b - end < length b - at
plain_moves b at end m k few = omega (arith, form_some k.written, ap length k.is, length-append (flat k.written) (drop end b), length-drop at b, length-drop end b)

pub argument_moves : (b : List ℕ) (at n end : ℕ) → IsArgumentAt b at n end → at < length b → length b - end < length b - at
argument_moves b at n end h few = omega (arith, h.placed, head_some h.size (get_or b at 0 / 32) n)
