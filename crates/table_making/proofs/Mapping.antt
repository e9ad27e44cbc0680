-- Maps, by the rows of their entries.
use Rattle.std.specs.declared.alloc.Global.{Global}
use Rattle.std.specs.declared.vec.Vec.{Vec}
use Rattle.std.specs.Prelude.{vec_items}
use Rattle.std.proofs.Common.{◌≡◌, ℕ, true, false, List, [], ◌∷◌, ◌++◌, map, Option, Some, None, refl, sym, ap, subst, ◌∙◌, slice_get}
use Rattle.cddl_meaning.specs.Alike.{AlikeAll, none, both, AlikeTypes, maps}
use Rattle.cddl_meaning.specs.Forms as F
use Rattle.cddl_language.specs.Language as L
use Rattle.cddl_language.specs.Language.{TypeName, GroupName}
use Rattle.cddl_language.specs.Maps as M
use Rattle.cddl_language.specs.Maps.{Alternatives}
use Rattle.cddl_language.specs.Terms.{Text, Term, literal, keyed, Key, of_type, bareword, of_value}
use Rattle.check_terms.specs.declared.row.Row.{Row}
use Rattle.check_terms.specs.Table.{Table, part, some_text}
use Rattle.check_terms.specs.Trees.{IsTerm, IsEntry, IsKey, key_tree, literal_tree, term_tree}
use Rattle.check_groups.specs.Splices.Maps.{AreAlternatives, IsMember}
use Rattle.alternatives.specs.declared.Member.{Member}
use Rattle.alternatives.specs.declared.summary.Summary.{Summary}
use Rattle.table_making.specs.Basis.{Sense}
use Rattle.table_making.specs.Forms.{entry_form_view, map_form_view}
use Rattle.table_making.specs.Lookups.{is_told}
use Rattle.table_making.specs.Origins.{AreKnownAlternatives, AreKnownMembers, AreMapForms, IsGroupOrigin, IsKeyForm, IsKnownKey, IsKnownMember, IsMemberForm, IsTypeOrigin, of_row, of_word}
use Rattle.table_making.specs.Shapes.{key_by, pair_by, pair_with, type_key}
use Rattle.table_making.specs.declared.form.EntryForm.{EntryForm}
use Rattle.table_making.specs.declared.form.KeyForm.{KeyForm}
use Rattle.table_making.specs.declared.origin.GroupOrigin.{GroupOrigin}
use Rattle.table_making.specs.declared.origin.TypeOrigin.{TypeOrigin}
use Rattle.table_making.specs.declared.origin.TypeOrigin.TheVariants as T
use Rattle.table_making.specs.declared.shape.Pair.{Pair}
use Rattle.table_making.proofs.Forming.{nothing_form}
use Rattle.table_making.proofs.Pairing.{IsPairing, lists_alike, pairing_begun, pairing_ended, pairing_on}
use Rattle.table_making.proofs.Shaping.{at_part, is_node, term_is_node}

one_row : (o : Option Row) (r q : Row) → o ≡ Some r → Some q ≡ o → r ≡ q
one_row o r q e f = cc

-- The key and the type of an entry.

key_is_node : (k : Key) → is_node (key_tree k) ≡ true
key_is_node (of_type x c) = refl
key_is_node (bareword n) = refl
key_is_node (of_value v) = refl

abbrev Paired : Table → Key → Term → Option Pair → Type 0
Paired t k x o = (p : Pair) → Some p ≡ o → IsKey t p.key k × IsTerm t p.value x

paired : (t : Table) (k : Key) (x : Term) (i j : ℕ) → IsKey t i k → IsTerm t j x → Paired t k x (pair_with (Some i) (Some j))
paired t k x i j g h p e = subst (λ (q : Pair). IsKey t q.key k × IsTerm t q.value x) same (g, h)
  where
    same : record { key = i; value = j } ≡ p
    same = cc

pair_shaped : (t : Table) (n : ℕ) (o : Option Text) (k : Key) (x : Term) → IsEntry t n (keyed o k x) → (r : Row) × (slice_get t.rows n ≡ Some r) × Paired t k x (pair_by r.form r.first r.second)
pair_shaped t n o k x (part {i = i} {j = j} e h a b) = (_, e, at_part t i (key_tree k) (λ u. Paired t k x (pair_with u j)) (key_is_node k) a (λ l g. at_part t j (term_tree x) (λ u. Paired t k x (pair_with (Some l) u)) (term_is_node x) b (λ m f. paired t k x l m g f)))

pub pair_there : (t : Table) (n : ℕ) (o : Option Text) (k : Key) (x : Term) (r : Row) (p : Pair) → Some r ≡ slice_get t.rows n → Some p ≡ pair_by r.form r.first r.second → IsEntry t n (keyed o k x) → IsKey t p.key k × IsTerm t p.value x
pair_there t n o k x r p e f h =
    let q = pair_shaped t n o k x h in
    subst (λ (w : Row). Paired t k x (pair_by w.form w.first w.second)) (one_row (slice_get t.rows n) q.0 r q.1 e) q.2 p f

-- The type of a key, and whether it cuts.
module _ (s : Sense) (t : Table) where
  abbrev Keyed : Key → Option KeyForm → Type 0
  Keyed k o = (f : KeyForm) → Some f ≡ o → IsKeyForm s t k f

  formed : (k : Key) (g : KeyForm) → IsKeyForm s t k g → Keyed k (Some g)
  formed k g h f e = subst (IsKeyForm s t k) same h
    where
      same : g ≡ f
      same = cc

  key_shaped : (n : ℕ) (k : Key) → IsKey t n k → IsKnownKey s k → (r : Row) × (slice_get t.rows n ≡ Some r) × Keyed k (key_by r.form r.text r.first)
  key_shaped n (of_type x false) (part {m = m} {i = i} e h a b) re = (_, e, at_part t i (term_tree x) (λ u. Keyed (of_type x false) (type_key false u)) (term_is_node x) a (λ l g. formed (of_type x false) (record { origin = T.Row l; cuts = false }) (of_row g re.0 re.1, refl)))
  key_shaped n (of_type x true) (part {m = m} {i = i} e h a b) re = (_, e, at_part t i (term_tree x) (λ u. Keyed (of_type x true) (type_key true u)) (term_is_node x) a (λ l g. formed (of_type x true) (record { origin = T.Row l; cuts = true }) (of_row g re.0 re.1, refl)))
  key_shaped n (bareword w) (part e (some_text {n = m} g) a b) re = (_, e, formed (bareword w) (record { origin = T.Word m; cuts = true }) (of_word g, refl))
  key_shaped n (of_value v) (part {m = m} {i = i} e h a b) re = (_, e, at_part t i (literal_tree v) (λ u. Keyed (of_value v) (type_key true u)) (term_is_node (literal v)) a (λ l g. formed (of_value v) (record { origin = T.Row l; cuts = true }) (of_row {x = literal v} g re.0 re.1, refl)))

  pub key_there : (n : ℕ) (k : Key) (r : Row) (f : KeyForm) → Some r ≡ slice_get t.rows n → Some f ≡ key_by r.form r.text r.first → IsKey t n k → IsKnownKey s k → IsKeyForm s t k f
  key_there n k r f e g h re =
      let q = key_shaped n k h re in
      subst (λ (w : Row). Keyed k (key_by w.form w.text w.first)) (one_row (slice_get t.rows n) q.0 r q.1 e) q.2 f g

  -- an entry of these types, with these bounds
  pub member_formed : (m : M.Member) (least : ℕ) (most : F.Most) (key : KeyForm) (value : ℕ) (f : EntryForm) → entry_form_view f ≡ record { least = least; most = most; key_type = key.origin; cuts = key.cuts; value_type = T.Row value } → least ≡ m.least → most ≡ m.most → IsKeyForm s t m.key key → IsTerm t value m.value → IsKnownMember s m → IsMemberForm s t m f
  member_formed m least most key value f same p q k h re = record {
    least = sym p ∙ ap (λ (e : F.MapEntry TypeOrigin). e.least) (sym same);
    most = sym q ∙ ap (λ (e : F.MapEntry TypeOrigin). e.most) (sym same);
    cuts = k.1 ∙ ap (λ (e : F.MapEntry TypeOrigin). e.cuts) (sym same);
    key = subst (λ (e : F.MapEntry TypeOrigin). IsTypeOrigin s t (L.key_name m.key) e.key_type) (sym same) k.0;
    value = subst (λ (e : F.MapEntry TypeOrigin). IsTypeOrigin s t (L.type m.value) e.value_type) (sym same) (of_row h re.1.0 re.1.1);
  }

  -- Entries, and alternatives, one after the other.

  abbrev pub MemberAt : M.Member → Member → Type 0
  MemberAt m n = IsMember t m n × IsKnownMember s m

  abbrev pub MembersAt : List M.Member → Vec Member Global → Type 0
  MembersAt ms ns = AlikeAll (IsMember t) ms ns.items × AreKnownMembers s ms

  abbrev pub AreForms : List M.Member → Vec EntryForm Global → Type 0
  AreForms ms fs = AlikeAll (IsMemberForm s t) ms fs.items

  abbrev pub MemberPairing : List M.Member → List Member → List EntryForm → Type 0
  MemberPairing ms left out = IsPairing MemberAt (IsMemberForm s t) ms left out

  abbrev pub MapPairing : Alternatives → List (Vec Member Global) → List (Vec EntryForm Global) → Type 0
  MapPairing mss left out = IsPairing MembersAt AreForms mss left out

  members_at : (ms : List M.Member) (ns : List Member) → AlikeAll (IsMember t) ms ns → AreKnownMembers s ms → AlikeAll MemberAt ms ns
  members_at [] [] none re = none
  members_at [] (n ∷ ns) h re = elim h [ ]
  members_at (m ∷ ms) [] h re = elim h [ ]
  members_at (m ∷ ms) (n ∷ ns) (both h hs) re = both (h, re.0) (members_at ms ns hs re.1)

  alternatives_at : (mss : Alternatives) (nss : List (Vec Member Global)) → AreAlternatives t mss (map vec_items nss) → AreKnownAlternatives s mss → AlikeAll MembersAt mss nss
  alternatives_at [] [] none re = none
  alternatives_at [] (ns ∷ nss) h re = elim h [ ]
  alternatives_at (ms ∷ mss) [] h re = elim h [ ]
  alternatives_at (ms ∷ mss) (ns ∷ nss) (both h hs) re = both (h, re.0) (alternatives_at mss nss hs re.1)

  pub members_begun : (ms : List M.Member) (ns : List Member) (out : List EntryForm) → out ≡ [] → AlikeAll (IsMember t) ms ns → AreKnownMembers s ms → MemberPairing ms ns out
  members_begun ms ns out e h re = pairing_begun MemberAt (IsMemberForm s t) ms ns out e (members_at ms ns h re)

  pub members_on : (ms : List M.Member) (left more : List Member) (n : Member) (out later : List EntryForm) (f : EntryForm) → left ≡ n ∷ more → later ≡ out ++ f ∷ [] → ((m : M.Member) → IsMember t m n → IsKnownMember s m → IsMemberForm s t m f) → MemberPairing ms left out → MemberPairing ms more later
  members_on ms left more n out later f e g h w = pairing_on MemberAt (IsMemberForm s t) ms left more n out later f e g (λ m q. h m q.0 q.1) w

  pub members_ended : (ms : List M.Member) (left : List Member) (out : List EntryForm) → left ≡ [] → MemberPairing ms left out → AlikeAll (IsMemberForm s t) ms out
  members_ended ms left out e w = pairing_ended MemberAt (IsMemberForm s t) ms left out e w

  pub map_begun : (mss : Alternatives) (nss : List (Vec Member Global)) (out : List (Vec EntryForm Global)) → out ≡ [] → AreAlternatives t mss (map vec_items nss) → AreKnownAlternatives s mss → MapPairing mss nss out
  map_begun mss nss out e h re = pairing_begun MembersAt AreForms mss nss out e (alternatives_at mss nss h re)

  pub map_on : (mss : Alternatives) (left more : List (Vec Member Global)) (ns : Vec Member Global) (out later : List (Vec EntryForm Global)) (fs : Vec EntryForm Global) → left ≡ ns ∷ more → later ≡ out ++ fs ∷ [] → ((ms : List M.Member) → AlikeAll (IsMember t) ms ns.items → AreKnownMembers s ms → AlikeAll (IsMemberForm s t) ms fs.items) → MapPairing mss left out → MapPairing mss more later
  map_on mss left more ns out later fs e g h w = pairing_on MembersAt AreForms mss left more ns out later fs e g (λ ms q. h ms q.0 q.1) w

  pub map_ended : (mss : Alternatives) (left : List (Vec Member Global)) (out : List (Vec EntryForm Global)) → left ≡ [] → MapPairing mss left out → AreMapForms s t mss out
  map_ended mss left out e w = pairing_ended MembersAt AreForms mss left out e w

  -- The forms of maps.

  abbrev Forms : F.Node TypeName GroupName → F.Node TypeOrigin GroupOrigin → Type 0
  Forms m f = AlikeTypes (IsTypeOrigin s t) (IsGroupOrigin s t) m f

  pub map_formed : (o : Option Alternatives) (mss : Alternatives) (fss : List (Vec EntryForm Global)) → o ≡ Some mss → AreMapForms s t mss fss → Forms (L.map_node o) (F.MapOf (map_form_view fss))
  map_formed o mss fss e h = subst (λ (p : Option Alternatives). Forms (L.map_node p) (F.MapOf (map_form_view fss))) (sym e) (maps (lists_alike (IsTypeOrigin s t) L.map_entry entry_form_view mss fss h))

  pub no_map_formed : (o : Option Alternatives) (f : F.Node TypeOrigin GroupOrigin) → ((mss : Alternatives) → o ≡ Some mss → ⊥) → f ≡ F.Choice [] → Forms (L.map_node o) f
  no_map_formed None f g e = nothing_form s t f e
  no_map_formed (Some mss) f g e = absurd (g mss refl)

pub untold : (o : Option (Option Summary)) (x : Summary) → is_told o ≡ false → o ≡ Some (Some x) → ⊥
untold o x e f = absurd (true_false (sym (ap is_told f) ∙ e))
  where
    true_false : true ≡ false → ⊥
    true_false e = cc
