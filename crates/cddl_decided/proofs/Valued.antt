-- By two tables of values that are right for a text, types are the same literals and have the same members.
use Rattle.std.proofs.Common.{◌≡◌, ℕ, zero, suc, Bool, true, false, if◌then◌else◌, List, [], ◌∷◌, ◌++◌, inl, inr, Option, Some, None, refl, sym, ap, ◌∙◌, subst}
use Rattle.std.specs.Prelude.{Contains}
use Rattle.lists.proofs.Lemmas.{IsIn, either, in_cases, to_contains}
use Rattle.cddl_literal.specs.Numbers.{Meaning}
use Rattle.cddl_language.specs.Controls.{Membership, control_of}
use Rattle.cddl_language.specs.Kinds.{asks_type, names_group, opened, opens, opens_group, Part, is_group, part_of}
use Rattle.cddl_language.specs.Literals.{Means, Values, controlled_literal, literal_by, literal_in, literal_of, only_choice}
use Rattle.cddl_language.specs.Numbers.{occurs_once}
use Rattle.cddl_language.specs.Reach.{Reaches, at_choice, at_name, entries_points, entry_points, group_points, key_points, most_instances, points}
use Rattle.cddl_language.specs.Sizes.{Behind, Sizes, a_group, a_type, all_sizes, behind_sizes, both_sizes, chosen_sizes, each_sizes, entries_sizes, entry_sizes, group_sizes, members_in, members_of, one_size, opens_choices, part_sizes, range_sizes, term_sizes}
use Rattle.cddl_language.specs.Substitution.{group_choices, type_choices}
use Rattle.cddl_language.specs.Terms.{Definition, Entries, no_entries, entries, Entry, typed, keyed, grouped, Group, sole, orelse, Literal, Ref, Term, literal, named, parens, choice_of, choice_of_name, range, control, or, Text, alternatives, name_of}
use Rattle.cddl_language.specs.Written.Written.{AllIn, AllInEntries, AllInEntry, AllInGroup, IsMeant}
use Rattle.check_instances.specs.Closed.Closed.{AreReached}
use Rattle.cddl_decided.proofs.Parts.{opened_group}
use Rattle.cddl_decided.proofs.Reached.{AreInstancesOn, left, one, right}

-- a written value stands for one thing
abbrev pub MeansOne : Type 0
MeansOne = (v : Literal) (m n : Meaning) → Means v m → Means v n → m ≡ n

-- in what instances mean and open, each written value is taken for what it stands for
pub record AreMeant (ds : List Definition) (root : Text) (worth : Values) : Type 0 where
  pub types : (r : Ref) (t : Term) → Reaches ds root r → Contains (type_choices ds r) t → AllIn (IsMeant worth) t
  pub group : (r : Ref) (es : Entries) → Reaches ds root r → Contains (group_choices ds r) es → AllInEntries (IsMeant worth) es
  pub opened_group : (r : Ref) (g : Group) → Reaches ds root r → opened ds r ≡ Some (opens_group g) → AllInGroup (IsMeant worth) g

both_same : (a b c d : Option Sizes) → a ≡ b → c ≡ d → both_sizes a c ≡ both_sizes b d
both_same a b c d e f = ap (λ o. both_sizes o c) e ∙ ap (λ o. both_sizes b o) f

module _ (u w : Values) (ds : List Definition) (root : Text) (meant_one : MeansOne) (on : AreInstancesOn ds root) (by_u : AreMeant ds root u) (by_w : AreMeant ds root w) where
  -- what is meant by both tables, and has instances alone in it
  abbrev pub Good : Term → Type 0
  Good t = AllIn (IsMeant u) t × AllIn (IsMeant w) t × AreReached ds root (points t)

  abbrev GoodGroup : Group → Type 0
  GoodGroup g = AllInGroup (IsMeant u) g × AllInGroup (IsMeant w) g × AreReached ds root (group_points g)

  abbrev GoodEntries : Entries → Type 0
  GoodEntries es = AllInEntries (IsMeant u) es × AllInEntries (IsMeant w) es × AreReached ds root (entries_points es)

  abbrev GoodEntry : Entry → Type 0
  GoodEntry e = AllInEntry (IsMeant u) e × AllInEntry (IsMeant w) e × AreReached ds root (entry_points e)

  behind_name : (r : Ref) → Reaches ds root r → (t : Term) → IsIn t (type_choices ds r) → Good t
  behind_name r here t i = let c = to_contains (type_choices ds r) t i in (by_u.types r t here c, by_w.types r t here c, on.types r t here c)

  -- Literals.

  module _ (p q : Term → Option Meaning) (same : (t : Term) → Good t → p t ≡ q t) where
    only_same : (ts : List Term) → ((t : Term) → IsIn t ts → Good t) → only_choice u ds p ts ≡ only_choice w ds q ts
    only_same [] good = refl
    only_same (t ∷ []) good = same t (good t (inl refl))
    only_same (t ∷ v ∷ ts) good = refl

    name_same : (b : Bool) (r : Ref) → Reaches ds root r → (if b then None else only_choice u ds p (type_choices ds r)) ≡ (if b then None else only_choice w ds q (type_choices ds r))
    name_same true r here = refl
    name_same false r here = only_same (type_choices ds r) (behind_name r here)

    literal_same : (t : Term) → Good t → literal_by u ds p t ≡ literal_by w ds q t
    literal_same (literal v) h = ap (λ m. Some m) (meant_one v (u v) (w v) h.0 h.1)
    literal_same (named r) h = name_same (is_group ds (name_of r)) r (one ds root (at_name r) h.2)
    literal_same (parens t) h = literal_same t h
    literal_same (control a n b) h =
        let of_u = h.0 in
        let of_w = h.1 in
        ap (λ o. controlled_literal (control_of n) o (literal_by u ds p b)) (literal_same a (of_u.0, of_w.0, left ds root (points a) (points b) h.2))
        ∙ ap (λ o. controlled_literal (control_of n) (literal_by w ds q a) o) (literal_same b (of_u.1, of_w.1, right ds root (points a) (points b) h.2))
    literal_same _ h = refl

  pub literals_same : (k : ℕ) (t : Term) → Good t → literal_in u ds k t ≡ literal_in w ds k t
  literals_same zero t h = literal_same (λ x. None) (λ x. None) (λ x g. refl) t h
  literals_same (suc k) t h = literal_same (λ x. literal_in u ds k x) (λ x. literal_in w ds k x) (literals_same k) t h

  -- Members.

  abbrev pub GoodBehind : Behind → Type 0
  GoodBehind (a_type t) = Good t
  GoodBehind (a_group ess) = (es : Entries) → IsIn es ess → GoodEntries es

  named_group : (r : Ref) → Reaches ds root r → GoodBehind (a_group (group_choices ds r))
  named_group r here = λ es i. let c = to_contains (group_choices ds r) es i in (by_u.group r es here c, by_w.group r es here c, on.group r es here c)

  in_group : (g : Group) → GoodGroup g → (es : Entries) → IsIn es (alternatives g) → GoodEntries es
  in_group (sole fs) h es (inl e) = subst GoodEntries (sym e) h
  in_group (sole fs) h es (inr i) = absurd i
  in_group (orelse g fs) h es i =
      let of_u = h.0 in
      let of_w = h.1 in
      either (in_cases (alternatives g) (fs ∷ []) es i)
      (λ j. in_group g (of_u.0, of_w.0, left ds root (group_points g) (entries_points fs) h.2) es j)
      (λ j. last j (of_u.1, of_w.1, right ds root (group_points g) (entries_points fs) h.2))
    where
      last : IsIn es (fs ∷ []) → GoodEntries fs → GoodEntries es
      last (inl e) k = subst GoodEntries (sym e) k
      last (inr j) k = absurd j

  module _ (m : Membership) where
    module _ (p q : Behind → Option Sizes) (same : (b : Behind) → GoodBehind b → p b ≡ q b) where
      all_same : (ts : List Term) → ((t : Term) → IsIn t ts → Good t) → all_sizes p ts ≡ all_sizes q ts
      all_same [] good = refl
      all_same (t ∷ ts) good = both_same (p (a_type t)) (q (a_type t)) (all_sizes p ts) (all_sizes q ts) (same (a_type t) (good t (inl refl))) (all_same ts (λ x i. good x (inr i)))

      group_same : (ess : List Entries) → GoodBehind (a_group ess) → group_sizes p ess ≡ group_sizes q ess
      group_same [] good = refl
      group_same (es ∷ ess) good = same (a_group (es ∷ ess)) good

      sizes_of_name : (b : Bool) (r : Ref) → Reaches ds root r → (if b then None else all_sizes p (type_choices ds r)) ≡ (if b then None else all_sizes q (type_choices ds r))
      sizes_of_name true r here = refl
      sizes_of_name false r here = all_same (type_choices ds r) (behind_name r here)

      part_same : (t : Term) → Good t → term_sizes m u ds p t ≡ term_sizes m w ds q t → (a : Part) → part_of ds t ≡ a → part_sizes m u ds p a (term_sizes m u ds p t) ≡ part_sizes m w ds q a (term_sizes m w ds q t)
      part_same t h e asks_type f = e
      part_same t h e (names_group r) f = group_same (group_choices ds r) (named_group r (on.named t r h.2 f))
      part_same t h e (opens r g) f =
          let here = on.opening t r g h.2 f in
          let is = opened_group ds t r g f in
          group_same (alternatives g) (in_group g (by_u.opened_group r g here is, by_w.opened_group r g here is, on.opened t r g h.2 f))

      mutual
        term_same : (t : Term) → Good t → term_sizes m u ds p t ≡ term_sizes m w ds q t
        term_same (literal v) h = ap (λ x. one_size (Some x)) (meant_one v (u v) (w v) h.0 h.1)
        term_same (range a c b) h =
            let of_u = h.0 in
            let of_w = h.1 in
            ap (λ o. range_sizes c o (literal_of u ds b)) (literals_same most_instances a (of_u.0, of_w.0, left ds root (points a) (points b) h.2))
            ∙ ap (λ o. range_sizes c (literal_of w ds a) o) (literals_same most_instances b (of_u.1, of_w.1, right ds root (points a) (points b) h.2))
        term_same (named r) h = sizes_of_name (is_group ds (name_of r)) r (one ds root (at_name r) h.2)
        term_same (parens t) h = term_same t h
        term_same (or t v) h =
            let of_u = h.0 in
            let of_w = h.1 in
            both_same (term_sizes m u ds p t) (term_sizes m w ds q t) (term_sizes m u ds p v) (term_sizes m w ds q v) (term_same t (of_u.0, of_w.0, left ds root (points t) (points v) h.2)) (term_same v (of_u.1, of_w.1, right ds root (points t) (points v) h.2))
        term_same (control a n b) h = ap one_size (literals_same most_instances (control a n b) h)
        term_same (choice_of g) h = ap (λ o. if opens_choices m then o else None) (chosen_same g h)
        term_same (choice_of_name r) h = ap (λ o. if opens_choices m then o else None) (group_same (group_choices ds r) (named_group r (one ds root (at_choice r) h.2)))
        term_same _ h = refl

        chosen_same : (g : Group) → GoodGroup g → chosen_sizes m u ds p g ≡ chosen_sizes m w ds q g
        chosen_same (sole es) h = entries_same es h
        chosen_same (orelse g es) h =
            let of_u = h.0 in
            let of_w = h.1 in
            both_same (chosen_sizes m u ds p g) (chosen_sizes m w ds q g) (entries_sizes m u ds p es) (entries_sizes m w ds q es) (chosen_same g (of_u.0, of_w.0, left ds root (group_points g) (entries_points es) h.2)) (entries_same es (of_u.1, of_w.1, right ds root (group_points g) (entries_points es) h.2))

        entries_same : (es : Entries) → GoodEntries es → entries_sizes m u ds p es ≡ entries_sizes m w ds q es
        entries_same no_entries h = refl
        entries_same (entries es e c) h =
            let of_u = h.0 in
            let of_w = h.1 in
            both_same (entries_sizes m u ds p es) (entries_sizes m w ds q es) (entry_sizes m u ds p e) (entry_sizes m w ds q e) (entries_same es (of_u.0, of_w.0, left ds root (entries_points es) (entry_points e) h.2)) (entry_same e (of_u.1, of_w.1, right ds root (entries_points es) (entry_points e) h.2))

        entry_same : (e : Entry) → GoodEntry e → entry_sizes m u ds p e ≡ entry_sizes m w ds q e
        entry_same (typed o t) h = ap (λ x. if occurs_once o then x else None) (part_same t h (term_same t h) (part_of ds t) refl)
        entry_same (keyed o k t) h = let of_u = h.0 in let of_w = h.1 in ap (λ x. if occurs_once o then x else None) (term_same t (of_u.1, of_w.1, right ds root (key_points k) (points t) h.2))
        entry_same (grouped o g) h = ap (λ x. if occurs_once o then x else None) (chosen_same g h)

      each_same : (ess : List Entries) → GoodBehind (a_group ess) → each_sizes m u ds p ess ≡ each_sizes m w ds q ess
      each_same [] good = refl
      each_same (es ∷ ess) good = both_same (entries_sizes m u ds p es) (entries_sizes m w ds q es) (each_sizes m u ds p ess) (each_sizes m w ds q ess) (entries_same es (good es (inl refl))) (each_same ess (λ fs i. good fs (inr i)))

      behind_same : (b : Behind) → GoodBehind b → behind_sizes m u ds p b ≡ behind_sizes m w ds q b
      behind_same (a_type t) h = term_same t h
      behind_same (a_group ess) h = each_same ess h

    members_same : (k : ℕ) (b : Behind) → GoodBehind b → members_in m u ds k b ≡ members_in m w ds k b
    members_same zero b h = behind_same (λ c. None) (λ c. None) (λ c g. refl) b h
    members_same (suc k) b h = behind_same (λ c. members_in m u ds k c) (λ c. members_in m w ds k c) (members_same k) b h

  pub literal_is : (t : Term) → Good t → literal_of u ds t ≡ literal_of w ds t
  literal_is t h = literals_same most_instances t h

  pub members_are : (m : Membership) (t : Term) → Good t → members_of m u ds t ≡ members_of m w ds t
  members_are m t h = members_same m most_instances (a_type t) h
