-- What forms show by the major type alone is what types say.
use Rattle.std.proofs.Common.{◌≡◌, ℕ, zero, suc, ◌+◌, List, [], ◌∷◌, Option, Some, None, Bool, true, false, nat_eq, nat_le, nat_lt, slice_get, refl, sym, ap, subst, ◌∙◌, arith, true≢false}
use Rattle.std.specs.Prelude.{◌&&◌}
use Rattle.lists.proofs.Lemmas.{same_some}
use Rattle.cbor_data.specs.declared.Width.{Width}
use Rattle.cbor_data.specs.Same.{same_value}
use Rattle.cbor_data.specs.Value.{Value, uint, nint, bytes, text, array, pairs, tag, simple, float}
use Rattle.cddl_meaning.specs.Forms as F
use Rattle.cddl_meaning.specs.Forms.{Language, Test, anything, of_major, simple_value, float_of, equals, between, is_below, is_float, is_simple, is_up_to, major_of, members_in, pairs_in, passes, simple_in, tag_in}
use Rattle.cddl_meaning.specs.Judges as J
use Rattle.cddl_meaning.specs.Judges.{Chooses, No, Says, Yes}
use Rattle.table_nodes.specs.Nodes.{language_in, type_or_none}
use Rattle.table_nodes.specs.declared.nodes.Group.{Group}
use Rattle.table_nodes.specs.declared.nodes.GroupId.{GroupId}
use Rattle.table_nodes.specs.declared.nodes.Node.{Node}
use Rattle.table_nodes.specs.declared.nodes.TypeId.{TypeId}
use Rattle.table_nodes.specs.Majors.{TellsOf, answer_at, at_once, form_of, form_shows, kept, kept_where, maybe_shows, members_show, no_but, no_more, one_more, or_else, shows, test_shows, types_in}

-- what is kept was shown

pub was_kept : (b : Bool) (o : Option (Bool × ℕ)) {t : Bool × ℕ} → kept_where b o ≡ Some t → o ≡ Some t
was_kept true o e = e
was_kept false o e = absurd (cc)

pub was_shown : (o : Option (Bool × ℕ)) {t : Bool × ℕ} → kept o ≡ Some t → o ≡ Some t
was_shown None e = absurd (cc)
was_shown (Some s) e = was_kept (nat_le s.1 65535) (Some s) e

-- a form that is there
pub there_shows : {N G : Type 0} (shown : N → Option (Bool × ℕ)) (o : Option (F.Node N G)) (m : ℕ) {t : Bool × ℕ} → maybe_shows shown o m ≡ Some t → (f : F.Node N G) × (o ≡ Some f) × (form_shows shown f m ≡ Some t)
there_shows shown None m e = absurd (cc)
there_shows shown (Some f) m e = (f, refl, was_shown (form_shows shown f m) e)

-- items of other major types

pub only_no : (own d : Bool) → no_but own ≡ Some d → (own ≡ false) × (d ≡ false)
only_no true d e = absurd (cc)
only_no false d e = (refl, sym (same_some e))

other_simple : (n : ℕ) (x : Value) → nat_eq (major_of x) 7 ≡ false → is_simple n x ≡ false
other_simple n (simple m) h = absurd (true≢false h)
other_simple n _ h = refl

other_float : (w : Width) (x : Value) → nat_eq (major_of x) 7 ≡ false → is_float w x ≡ false
other_float w (float v n) h = absurd (true≢false h)
other_float w _ h = refl

other_value : (x v : Value) → nat_eq (major_of x) (major_of v) ≡ false → same_value x v ≡ false
other_value (uint m) (uint n) h = absurd (true≢false h)
other_value (nint m) (nint n) h = absurd (true≢false h)
other_value (bytes s) (bytes t) h = absurd (true≢false h)
other_value (text s) (text t) h = absurd (true≢false h)
other_value (array xs) (array ys) h = absurd (true≢false h)
other_value (pairs ps) (pairs qs) h = absurd (true≢false h)
other_value (tag m x) (tag n y) h = absurd (true≢false h)
other_value (simple m) (simple n) h = absurd (true≢false h)
other_value (float v m) (float w n) h = absurd (true≢false h)
other_value _ _ h = refl

no_number : (v x : Value) → nat_le (major_of x) 1 ≡ false → is_up_to v x ≡ false
no_number (uint m) (uint n) h = absurd (true≢false h)
no_number (nint m) (uint n) h = absurd (true≢false h)
no_number (nint m) (nint n) h = absurd (true≢false h)
no_number _ _ h = refl

pub no_array : (x : Value) → nat_eq (major_of x) 4 ≡ false → members_in x ≡ None
no_array (array xs) h = absurd (true≢false h)
no_array _ h = refl

pub no_map : (x : Value) → nat_eq (major_of x) 5 ≡ false → pairs_in x ≡ None
no_map (pairs ps) h = absurd (true≢false h)
no_map _ h = refl

pub no_tag : (x : Value) → nat_eq (major_of x) 6 ≡ false → tag_in x ≡ None
no_tag (tag n y) h = absurd (true≢false h)
no_tag _ h = refl

pub no_simple : (x : Value) → nat_eq (major_of x) 7 ≡ false → simple_in x ≡ None
no_simple (simple n) h = absurd (true≢false h)
no_simple _ h = refl

-- what a test shows is whether the item passes
pub test_told : (t : Test) (x : Value) (d : Bool) → test_shows t (major_of x) ≡ Some d → passes t x ≡ d
test_told anything x d e = same_some e
test_told (of_major k) x d e = same_some e
test_told (simple_value n) x d e = let h = only_no (nat_eq (major_of x) 7) d e in other_simple n x h.0 ∙ sym h.1
test_told (float_of w) x d e = let h = only_no (nat_eq (major_of x) 7) d e in other_float w x h.0 ∙ sym h.1
test_told (equals v) x d e = let h = only_no (nat_eq (major_of x) (major_of v)) d e in other_value x v h.0 ∙ sym h.1
test_told (between least last true) x d e = let h = only_no (nat_le (major_of x) 1) d e in ap (λ b. b && is_up_to x last) (no_number least x h.0) ∙ sym h.1
test_told (between least last false) x d e = let h = only_no (nat_le (major_of x) 1) d e in ap (λ b. b && is_below x last) (no_number least x h.0) ∙ sym h.1
test_told _ x d e = absurd (cc)

-- what members show: the first of them has said yes, or no and then the others this
pub data FirstShows {N : Type 0} (shown : N → Option (Bool × ℕ)) (n : N) (ns : List N) : Bool × ℕ → Type 0 where
  a_yes : {v : ℕ} → shown n ≡ Some (true, v) → FirstShows shown n ns (true, v)
  a_no : {v : ℕ} {t : Bool × ℕ} → shown n ≡ Some (false, v) → members_show shown ns ≡ Some t → FirstShows shown n ns (t.0, v + t.1)

pub first_shows : {N : Type 0} (shown : N → Option (Bool × ℕ)) (n : N) (ns : List N) (t : Bool × ℕ) → members_show shown (n ∷ ns) ≡ Some t → FirstShows shown n ns t
first_shows shown n ns t e = by (shown n) (members_show shown ns) refl refl e
  where
    by : (o r : Option (Bool × ℕ)) → shown n ≡ o → members_show shown ns ≡ r → or_else o r ≡ Some t → FirstShows shown n ns t
    by None r i j e = absurd (cc)
    by (Some (true, v)) r i j e = subst (FirstShows shown n ns) (same_some e) (a_yes i)
    by (Some (false, v)) None i j e = absurd (cc)
    by (Some (false, v)) (Some s) i j e = subst (FirstShows shown n ns) (same_some e) (a_no i j)

-- what is one judgement more, and only a no
pub one_less : (o : Option (Bool × ℕ)) (t : Bool × ℕ) → one_more o ≡ Some t → (s : Bool × ℕ) × (o ≡ Some s) × ((s.0, suc s.1) ≡ t)
one_less None t e = absurd (cc)
one_less (Some s) t e = (s, refl, same_some e)

pub no_less : (o : Option (Bool × ℕ)) (t : Bool × ℕ) → no_more o ≡ Some t → (v : ℕ) × (o ≡ Some (false, v)) × ((false, suc v) ≡ t)
no_less None t e = absurd (cc)
no_less (Some (true, v)) t e = absurd (cc)
no_less (Some (false, v)) t e = (v, refl, same_some e)

pub once : (o : Option Bool) (t : Bool × ℕ) → at_once o ≡ Some t → (d : Bool) × (o ≡ Some d) × ((d, 1) ≡ t)
once None t e = absurd (cc)
once (Some d) t e = (d, refl, same_some e)

pub once_no : (own : Bool) (t : Bool × ℕ) → at_once (no_but own) ≡ Some t → (own ≡ false) × ((false, 1) ≡ t)
once_no true t e = absurd (cc)
once_no false t e = (refl, same_some e)

module _ {N G : Type 0} (l : Language N G) (x : Value) where
  -- types say what is shown of them
  abbrev Say : (N → Option (Bool × ℕ)) → Type 0
  Say shown = (n : N) (t : Bool × ℕ) → shown n ≡ Some t → (p : ℕ) → Says l (l.type_at n) p x (answer_at p t.0) t.1

  test_says : (t : Test) (p : ℕ) (d : Bool) → passes t x ≡ d → Says l (F.Plain t) p x (answer_at p d) 1
  test_says t p true h = J.passed h
  test_says t p false h = J.missed h

  members_say : (shown : N → Option (Bool × ℕ)) → Say shown → (ns : List N) (t : Bool × ℕ) → members_show shown ns ≡ Some t → (p : ℕ) → Chooses l ns p x p (answer_at p t.0) t.1
  members_say shown say [] t e p = subst (λ t. Chooses l [] p x p (answer_at p t.0) t.1) (same_some e) J.no_more
  members_say shown say (n ∷ ns) t e p = by (λ s j. members_say shown say ns s j p) (first_shows shown n ns t e)
    where
      by : {t : Bool × ℕ} → ((s : Bool × ℕ) → members_show shown ns ≡ Some s → Chooses l ns p x p (answer_at p s.0) s.1) → FirstShows shown n ns t → Chooses l (n ∷ ns) p x p (answer_at p t.0) t.1
      by others (a_yes {v = v} i) = J.this_one (say n (true, v) i p)
      by others (a_no {v = v} {t = s} i j) = J.not_this (say n (false, v) i p) (subst (λ far. Chooses l ns p x far (answer_at p s.0) s.1) (omega arith) (others s j))

  form_says : (shown : N → Option (Bool × ℕ)) → Say shown → (f : F.Node N G) (t : Bool × ℕ) → form_shows shown f (major_of x) ≡ Some t → (p : ℕ) → Says l f p x (answer_at p t.0) t.1
  form_says shown say f t e p = by f e
    where
      made : {f : F.Node N G} (s : Bool × ℕ) → s ≡ t → Says l f p x (answer_at p s.0) s.1 → Says l f p x (answer_at p t.0) t.1
      made {f = f} s i d = subst (λ t. Says l f p x (answer_at p t.0) t.1) i d

      by : (f : F.Node N G) → form_shows shown f (major_of x) ≡ Some t → Says l f p x (answer_at p t.0) t.1
      by (F.Plain r) e = let h = once (test_shows r (major_of x)) t e in made (h.0, 1) h.2 (test_says r p h.0 (test_told r x h.0 h.1))
      by (F.Ref n) e = let h = one_less (shown n) t e in made (h.0.0, suc h.0.1) h.2 (J.ref (say n h.0 h.1 p))
      by (F.Choice ns) e = let h = one_less (members_show shown ns) t e in made (h.0.0, suc h.0.1) h.2 (J.choice (members_say shown say ns h.0 h.1 p))
      by (F.ArrayOf g) e = let h = once_no (nat_eq (major_of x) 4) t e in made (false, 1) h.1 (J.no_array (no_array x h.0))
      by (F.TagOf r n) e = let h = once_no (nat_eq (major_of x) 6) t e in made (false, 1) h.1 (J.no_tag (no_tag x h.0))
      by (F.SimpleBy n) e = let h = once_no (nat_eq (major_of x) 7) t e in made (false, 1) h.1 (J.no_simple (no_simple x h.0))
      by (F.MapOf ess) e = let h = once_no (nat_eq (major_of x) 5) t e in made (false, 1) h.1 (J.no_map (no_map x h.0))
      by (F.Both n o) e = let h = no_less (shown n) t e in made (false, suc h.0) h.2 (J.left_no (say n (false, h.0) h.1 p))
      by (F.Such n r) e = let h = no_less (shown n) t e in made (false, suc h.0) h.2 (J.none_such (say n (false, h.0) h.1 p))
      by (F.Holding n c o) e = let h = no_less (shown n) t e in made (false, suc h.0) h.2 (J.holder_no (say n (false, h.0) h.1 p))

  -- a type of the language for each that is there
  pub shown_says : (types : N → Option (F.Node N G)) → ((n : N) (f : F.Node N G) → types n ≡ Some f → l.type_at n ≡ f) → (k : ℕ) → Say (λ n. shows types k n (major_of x))
  unfolding shows
  shown_says types is zero n t e p = absurd (cc)
  shown_says types is (suc k) n t e p =
      let h = there_shows (λ o. shows types k o (major_of x)) (types n) (major_of x) (was_kept (nat_lt (major_of x) 8) (maybe_shows (λ o. shows types k o (major_of x)) (types n) (major_of x)) e) in
      subst (λ f. Says l f p x (answer_at p t.0) t.1) (sym (is n h.0 h.1)) (form_says (λ o. shows types k o (major_of x)) (shown_says types is k) h.0 t h.2 p)

-- What types show through so many forms they tell.
pub tells : {N G : Type 0} (l : Language N G) (types : N → Option (F.Node N G)) → ((n : N) (f : F.Node N G) → types n ≡ Some f → l.type_at n ≡ f) → (k : ℕ) (n : N) (m : ℕ) (t : Bool × ℕ) → shows types k n m ≡ Some t → TellsOf l n m t.0 t.1
tells l types is k n m t e p x i = shown_says l x types is k n t (subst (λ m. shows types k n m ≡ Some t) (sym i) e) p

-- the forms of a list in a language of it
pub in_language : (types : List Node) (groups : List Group) (n : TypeId) (f : F.Node TypeId GroupId) → types_in types n ≡ Some f → (language_in types groups).type_at n ≡ f
in_language types groups n f e = there (slice_get types n.number) e
  where
    there : (o : Option Node) → form_of o ≡ Some f → type_or_none o ≡ f
    there None e = absurd (cc)
    there (Some x) e = same_some e
