-- Each controller's list has the members of its type.
use Rattle.std.proofs.Common.{◌≡◌, inl, inr, ℕ, zero, suc, ◌<◌, List, [], ◌∷◌, length, Bool, true, false, if◌then◌else◌, Option, Some, None, option_map, slice_get, refl, sym, ap, ap₂, subst, ◌∙◌, arith}
use Rattle.std.specs.Prelude.{is_some, ◌&&◌}
use Rattle.lists.proofs.Lemmas.{not_both, tested as is_either, within}
use Rattle.cddl_meaning.specs.Alike.{SameTest}
use Rattle.cbor_data.specs.Value as V
use Rattle.cddl_meaning.specs.Forms as F
use Rattle.cddl_meaning.specs.Forms.{are_bits_among, are_members, bits_set, is_member}
use Rattle.cddl_language.specs.Controls.{Control, Membership, of_size, of_bits, member, membership_in, control_of}
use Rattle.cddl_language.specs.Language.{membership_test}
use Rattle.cddl_language.specs.Terms.{Text, Term, control, Ref, Definition}
use Rattle.cddl_language.specs.Literals.{Values}
use Rattle.cddl_language.specs.Sizes as L
use Rattle.cddl_language.specs.Sizes.{members_of}
use Rattle.check_terms.specs.Table.{Holds, Table, Tree, part, some_text}
use Rattle.check_terms.specs.Trees.{IsTerm, term_tree}
use Rattle.check_names.specs.declared.kinds.kinds.Kinds.{Kinds}
use Rattle.check_instances.specs.declared.closed.closed.Closed.{Closed}
use Rattle.check_literals.specs.declared.known.Literals.{Literals}
use Rattle.check_literals.specs.Literals.{IsKnown}
use Rattle.table_nodes.specs.SizeSets.{set_view}
use Rattle.table_nodes.specs.declared.sizes.NumberSet.{NumberSet}
use Rattle.check_literals.specs.declared.sizes.known.Sizes.{Sizes}
use Rattle.check_literals.specs.declared.sizes.sources.Source.{Source}
use Rattle.check_literals.specs.Sizes.Sizes.{AreSizable, AreSizes, SameSizes, flag_at, list_at, sizes_at}
use Rattle.check_literals.specs.Sizes.Controllers.{AreListed, HaveLists, IsListed, controller_at, controller_in, is_one, is_same_membership, is_such_name}
use Rattle.check_literals.specs.Sizes.Reach.{ranges_of}
use Rattle.check_literals.proofs.OfSizes.Below.{reached_below, members_below, same_sizes}
use Rattle.check_groups.specs.declared.causes.rows.GroupRow.{GroupRow}
use Rattle.check_literals.proofs.OfSizes.Induction.{AreGiven, row_within}

-- as many bytes as a number says
abbrev so_many : ℕ → List ℕ
so_many zero = []
so_many (suc n) = 0 ∷ so_many n

count : (n : ℕ) → length (so_many n) ≡ n
count zero = refl
count (suc n) = ap suc (count n)

-- what has such sizes decides which numbers are members
same_members : (rs qs : L.Sizes) → SameTest (F.sized rs) (F.sized qs) → (n : ℕ) → is_member n rs ≡ is_member n qs
same_members rs qs h n = subst (λ (m : ℕ). is_member m rs ≡ is_member m qs) (count n) (h (V.bytes (so_many n)))

all_same : (rs qs : L.Sizes) → ((n : ℕ) → is_member n rs ≡ is_member n qs) → (ns : List ℕ) → are_members ns rs ≡ are_members ns qs
all_same rs qs h [] = refl
all_same rs qs h (n ∷ ns) = ap₂ (λ (a b : Bool). a && b) (h n) (all_same rs qs h ns)

each_test : (rs qs : L.Sizes) → SameTest (F.sized rs) (F.sized qs) → (m : Membership) → SameTest (membership_test m rs) (membership_test m qs)
each_test rs qs h of_size = h
each_test rs qs h of_bits = λ x. by (bits_set x)
  where
    by : (o : Option (List ℕ)) → are_bits_among rs o ≡ are_bits_among qs o
    by None = refl
    by (Some ns) = all_same rs qs (same_members rs qs h) ns

is_itself : (m : Membership) → is_same_membership m m ≡ true
is_itself of_size = refl
is_itself of_bits = refl

some_same : (o p : Option L.Sizes) (qs : L.Sizes) → is_some o ≡ true → p ≡ Some qs → ((rs : L.Sizes) → o ≡ Some rs → SameTest (F.sized rs) (F.sized qs)) → SameSizes o p
some_same (Some rs) p qs e q h = subst (SameSizes (Some rs)) (sym q) (each_test rs qs (h rs refl))
some_same None p qs e q h = absurd (not_both false e refl)

none_same : (o p : Option L.Sizes) → is_some o ≡ false → p ≡ None → SameSizes o p
none_same (Some rs) p e q = absurd (not_both true refl e)
none_same None p e q = subst (SameSizes None) (sym q) tt

module _ (which : Membership) (xs : List Definition) (root : Text) (worth : Values) (refs : List Ref) (t : Table) (c : Closed) (ks : Kinds) (ls : Literals) (gs : List GroupRow) (ss : List Source) (given : AreGiven which xs root worth refs t c ks ls gs ss) (one : (n m : Option ℕ) (x : Tree) → Holds t n x → Holds t m x → n ≡ m) (flags : List Bool) (sizable : AreSizable xs root worth t which flags) (z : Sizes) (listed : AreListed ss flags z) (all : HaveLists which t flags (length t.rows) z) where
  record IsAsked (n j : ℕ) : Type 0 where
    pub within : j < length t.rows
    pub asks : controller_at which t j ≡ Some n

  asked : (n j : ℕ) (a b : Term) (m : Text) → IsTerm t j (control a m b) → control_of m ≡ Some (member which) → IsTerm t n b → IsAsked n j
  asked n j a b m (part {j = o} e (some_text {n = k} f) x y) q i = record {
    within = within t.rows j _ e;
    asks = ap (controller_in which t.texts) e ∙ (ap (λ (u : Option Text). if is_such_name which u then o else None) f ∙ (ap (λ (u : Option Control). if is_one which (membership_in u) then o else None) q ∙ ap (λ (b : Bool). if b then o else None) (is_itself which) ∙ one o (Some n) (term_tree b) y i));
  }

  no_list : (n : ℕ) (o : Option (Option ℕ)) → slice_get z.rows.items n ≡ o → flag_at flags n ≡ false → list_at z.lists.items o ≡ None
  no_list n None e f = refl
  no_list n (Some None) e f = refl
  no_list n (Some (Some i)) e f = absurd (not_both (flag_at flags n) (listed.flagged n i e) f)

  list_there : (n i : ℕ) → slice_get z.rows.items n ≡ Some (Some i) → (v : NumberSet) → slice_get z.lists.items i ≡ Some v → sizes_at z n ≡ Some (set_view v)
  list_there n i e v g = ap (list_at z.lists.items) e ∙ ap (option_map set_view) g

  same_list : (n i : ℕ) (x : Term) → IsTerm t n x → IsKnown xs root worth x → is_some (members_of which worth xs x) ≡ true → slice_get z.rows.items n ≡ Some (Some i) → IsListed ss n i z.lists.items → SameSizes (members_of which worth xs x) (sizes_at z n)
  same_list n i x h k some e l = some_same (members_of which worth xs x) (sizes_at z n) (set_view l.list) some (list_there n i e l.list l.there) (λ rs q v. same_sizes ss n rs (ranges_of ss l.is_list.reached) (members_below which xs root worth refs t c ks ls gs ss given n x h k rs q) (reached_below ss n l.is_list.reached l.is_list.are_reached) v ∙ l.is_list.same v)

  pub are_sizes : AreSizes xs root worth t which z
  are_sizes n x is h k = elim (is_either (flag_at flags n)) [
    | inl on ↦
        (let a = asked n is.row is.left is.right is.name is.there is.asks is.controller in
        let w = row_within t n (term_tree x) h in
        let rows = given.sources.all in
        let places = listed.all in
        let p = (all is.row n a.within a.asks).place on (omega (arith, w, rows, places)) in
        same_list n p.0 x h k (sym (sizable n x h k) ∙ on) p.1 (listed.each n p.0 p.1))
    | inr off ↦ none_same (members_of which worth xs x) (sizes_at z n) (sym (sizable n x h k) ∙ off) (no_list n (slice_get z.rows.items n) refl off)
  ]
