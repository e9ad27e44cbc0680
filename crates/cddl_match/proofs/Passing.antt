-- Which entries of an alternative a pair passes over.
use Rattle.std.proofs.Common.{◌≡◌, ℕ, zero, suc, ◌+◌, ◌-◌, ◌<◌, ◌≤◌, min, List, [], ◌∷◌, ◌++◌, drop, length, slice_index_or, take, refl, sym, ap, subst, ◌∙◌, append_assoc, slice_get, Some, Bor, arith}
use Rattle.std.specs.Prelude.{true}
use Rattle.std.proofs.lemmas.List.Elements.{All-nil, All-push}
use Rattle.std.proofs.lemmas.List.{drop-drop, get_or-drop, get_or-take, get_or_default, length-drop, length-take-le, take-append-drop}
use Rattle.lists.proofs.Lemmas.{indexed, there}
use Rattle.cbor_data.specs.Value.{Value, Pairs, no_pairs, pair}
use Rattle.cddl_meaning.specs.Forms.{Language, MapEntry, by_forms, is_passed_over}
use Rattle.cddl_meaning.specs.Moves.{Sorting, Tally, next_entry, next_pair}
use Rattle.table_nodes.proofs.Lemmas.{as_many_entries, entries_passed}
use Rattle.table_nodes.specs.Entries.{entry_buckets_in}
use Rattle.table_nodes.specs.Fronts.{BeginAlike}
use Rattle.table_nodes.specs.Indexes.{AreNextEntries, IsEntryIndexOf, first_of}
use Rattle.table_nodes.specs.declared.indexes.Candidates.{Candidates}
use Rattle.table_nodes.specs.declared.indexes.LiteralIndex.{LiteralIndex}
use Rattle.cddl_match.specs.declared.entering.Lead.{Lead}
use Rattle.cddl_match.specs.Entering.{ArePassed, IsLead, IsLedTo, IsAskedNext, IsFirstAsked, IsPassed}

-- lists that begin alike

-- they do with fewer
pub fewer : {A : Type 0} (m n : ℕ) (xs ys : List A) → m ≤ n → take n xs ≡ take n ys → take m xs ≡ take m ys
fewer zero n xs ys h e = refl
fewer (suc m) zero xs ys h e = absurd (omega (arith, h))
fewer (suc m) (suc n) [] [] h e = refl
fewer (suc m) (suc n) [] (y ∷ ys) h e = absurd (cc)
fewer (suc m) (suc n) (x ∷ xs) [] h e = absurd (cc)
fewer (suc m) (suc n) (x ∷ xs) (y ∷ ys) h e =
    let i : x ≡ y = cc e in
    let j : take n xs ≡ take n ys = cc e in
    ap (λ z. z ∷ take m xs) i ∙ ap (λ zs. y ∷ zs) (fewer m n xs ys (omega (arith, h)) j)

as_long : {A : Type 0} (n : ℕ) (xs ys : List A) → n ≤ length ys → take n xs ≡ take n ys → n ≤ length xs
as_long zero xs ys h e = omega arith
as_long (suc n) xs [] h e = absurd (omega (arith, h))
as_long (suc n) [] (y ∷ ys) h e = absurd (cc)
as_long (suc n) (x ∷ xs) (y ∷ ys) h e = let j : take n xs ≡ take n ys = cc e in omega (arith, as_long n xs ys (omega (arith, h)) j)

same_at : {A : Type 0} (n : ℕ) (xs ys : List A) (i : ℕ) (d : A) → i < n → take n xs ≡ take n ys → slice_index_or xs i d ≡ slice_index_or ys i d
same_at n xs ys i d h e = sym (get_or-take n xs i d h) ∙ ap (λ zs. slice_index_or zs i d) e ∙ get_or-take n ys i d h

pub alike_on : {A : Type 0} (m n : ℕ) (xs ys zs : List A) → BeginAlike m xs ys → BeginAlike n ys zs → BeginAlike (min m n) xs zs
alike_on m n xs ys zs a b = (omega (arith, b.0), fewer (min m n) m xs ys (omega arith) a.1 ∙ fewer (min m n) n ys zs (omega arith) b.1)

module _ {N G : Type 0} (l : Language N G) where
  pub none_passed : (k : Value) (es : List (MapEntry N)) → ArePassed l k es es
  none_passed k es = record { before = []; whole = refl; each = All-nil (IsPassed l k) }

  pub one_more_passed : (k : Value) (e : MapEntry N) (es left others : List (MapEntry N)) → left ≡ e ∷ others → is_passed_over l.counting e.key_type k ≡ true → ArePassed l k es left → ArePassed l k es others
  one_more_passed k e es left others is i h = record {
    before = h.before ++ e ∷ [];
    whole = h.whole ∙ rw (is, append_assoc h.before (e ∷ []) others) refl;
    each = All-push (IsPassed l k) h.before e h.each i;
  }

  -- The first entry that is left is asked, or what follows is no entry.
  pair_asked : (es : List (MapEntry N)) (base q : ℕ) (ps : Pairs) (t : Tally) → IsAskedNext {G = G} l (next_pair es base q ps t)
  pair_asked es base q no_pairs t = tt
  pair_asked es base q (pair k x ps) t = tt

  pub asked_next : (es : List (MapEntry N)) (s : Sorting N) → IsFirstAsked l s.key es → IsAskedNext {G = G} l (next_entry es s)
  asked_next [] s h = pair_asked s.entries s.base s.next_place s.rest _
  asked_next (e ∷ es) s h = h

  -- so many of the entries are passed over
  first_passed : (k : Value) (es : List (MapEntry N)) (n : ℕ) → n ≤ length es → ((i : ℕ) (e : MapEntry N) → i < n → slice_index_or es i e ≡ e → is_passed_over l.counting e.key_type k ≡ true) → ArePassed l k es (drop n es)
  first_passed k es n h f = record {
    before = take n es;
    whole = sym (take-append-drop n es);
    each = λ i d b.
        let below : i < n = omega (arith, b, length-take-le n es h) in
        let e = slice_index_or es i d in
        subst (λ x. is_passed_over l.counting x.key_type k ≡ true) (sym (get_or-take n es i d below)) (f i e below (get_or_default es i e d (omega (arith, below, h))));
  }

  -- The entries before the next ones that an index tells are passed over, among those that it leads through.
  past_next : (k : Value) (owners es : List (MapEntry N)) (n from : ℕ) (c : Candidates) → l.counting ≡ by_forms l.type_at → BeginAlike n owners es → from ≤ n → AreNextEntries l.type_at owners k from c → ArePassed l k (drop from es) (drop (min (first_of c) n) es)
  past_next k owners es n from c counted alike h next =
      let at = min (first_of c) n in
      let m = at - from in
      let there : at ≡ from + m = omega (arith, h, next.0.0, next.1.0) in
      let inside : at ≤ n = omega arith in
      let fits : m ≤ length (drop from es) = omega (arith, there, inside, length-drop from es, alike.0) in
      let same : drop m (drop from es) ≡ drop at es = drop-drop m from es ∙ ap (λ j. drop j es) (sym there) in
      subst (ArePassed l k (drop from es)) same (first_passed k (drop from es) m fits (λ i e b is.
      let below : from + i < n = omega (arith, b, there, inside) in
      let here : slice_index_or owners (from + i) e ≡ e = same_at n owners es (from + i) e below alike.1 ∙ (sym (get_or-drop from es i e) ∙ is) in
      subst (λ f. is_passed_over f e.key_type k ≡ true) (sym counted) (entries_passed l.type_at owners k from c next (from + i) e (omega arith) (omega (arith, b, there)) (slice_get_read owners (from + i) e (omega (arith, below, as_long n owners es alike.0 alike.1)) here))))
    where
      slice_get_read : (xs : List (MapEntry N)) (i : ℕ) (e : MapEntry N) → i < length xs → slice_index_or xs i e ≡ e → slice_get xs i ≡ Some e
      slice_get_read xs i e h is = (there xs i h).1 ∙ ap Some (sym (indexed xs i (there xs i h).0 e (there xs i h).1) ∙ is)

  -- What the first look at an index tells, and what each further one does.
  pub begins_led : (k : Value) (es : List (MapEntry N)) (lead : Lead) (c : Candidates) (at : ℕ) → l.counting ≡ by_forms l.type_at → IsLead l es lead → ((owners : List (MapEntry N)) → IsEntryIndexOf l.type_at owners lead.index.now → length (entry_buckets_in l.type_at owners) ≡ length owners → AreNextEntries l.type_at owners k 0 c) → at ≡ min (first_of c) lead.entries → IsLedTo l k es lead c at × ArePassed l k es (drop at es)
  begins_led k es lead c at counted h f is =
      let next = f h.owners h.index (as_many_entries l.type_at h.owners) in
      (record { owners = h.owners; index = h.index; alike = h.alike; from = 0; next = next; first = is }, subst (λ j. ArePassed l k es (drop j es)) (sym is) (past_next k h.owners es lead.entries 0 c counted h.alike (omega arith) next))

  pub goes_led : (k : Value) (es : List (MapEntry N)) (lead : Lead) (c d : Candidates) (at to : ℕ) → l.counting ≡ by_forms l.type_at → IsLedTo l k es lead c at → at < lead.entries → ((owners : List (MapEntry N)) (from : ℕ) → IsEntryIndexOf l.type_at owners lead.index.now → AreNextEntries l.type_at owners k from c → first_of c < length (entry_buckets_in l.type_at owners) → AreNextEntries l.type_at owners k (suc (first_of c)) d) → to ≡ min (first_of d) lead.entries → IsLedTo l k es lead d to × (ArePassed l k (drop (suc at) es) (drop to es) × at < to)
  goes_led k es lead c d at to counted led inside f is =
      let same : first_of c ≡ at = omega (arith, led.first, inside) in
      let long = as_long lead.entries led.owners es led.alike.0 led.alike.1 in
      let next = f led.owners led.from led.index led.next (omega (arith, same, inside, long, as_many_entries l.type_at led.owners)) in
      let on : AreNextEntries l.type_at led.owners k (suc at) d = subst (λ j. AreNextEntries l.type_at led.owners k (suc j) d) same next in
      (record { owners = led.owners; index = led.index; alike = led.alike; from = suc at; next = on; first = is }, (subst (λ j. ArePassed l k (drop (suc at) es) (drop j es)) (sym is) (past_next k led.owners es lead.entries (suc at) d counted led.alike (omega (arith, inside)) on), omega (arith, is, inside, on.0.0, on.1.0)))

  -- What leads in an alternative leads in one that begins with some of the same entries.
  pub leads_on : (some others : List (MapEntry N)) (n : ℕ) (lead narrow : Lead) → lead.index ≡ narrow.index → narrow.entries ≡ min lead.entries n → BeginAlike n some others → IsLead l some lead → IsLead l others narrow
  leads_on some others n lead narrow i e alike h = record {
    owners = h.owners;
    index = subst (λ (x : Bor LiteralIndex). IsEntryIndexOf l.type_at h.owners x.now) i h.index;
    alike = subst (λ m. BeginAlike m h.owners others) (sym e) (alike_on lead.entries n h.owners some others h.alike alike);
  }

-- what comes after the first one of those that are left
pub after_first : {A : Type 0} (n : ℕ) (xs : List A) (x : A) (ys : List A) → drop n xs ≡ x ∷ ys → drop (suc n) xs ≡ ys
after_first zero [] x ys e = absurd (cc)
after_first (suc n) [] x ys e = absurd (cc)
after_first zero (y ∷ xs) x ys e = ap tail_of e
  where
    tail_of : {A : Type 0} → List A → List A
    tail_of [] = []
    tail_of (z ∷ zs) = zs
after_first (suc n) (y ∷ xs) x ys e = after_first n xs x ys e

pub some_left : {A : Type 0} (n : ℕ) (xs : List A) (x : A) (ys : List A) → drop n xs ≡ x ∷ ys → n < length xs
some_left n xs x ys e = omega (arith, length-drop n xs, ap length e)
