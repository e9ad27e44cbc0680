-- The answers of the chains are the kinds of names.
use Rattle.std.proofs.Common.{◌≡◌, ℕ, zero, suc, ◌<◌, ◌+◌, List, [], ◌∷◌, length, map, Option, Some, refl, sym, ap, subst, ◌∙◌, slice_get, arith}
use Rattle.std.proofs.lemmas.Option.{slice_get_within}
use Rattle.graphs.specs.declared.chains.Link.{Link}
use Rattle.graphs.specs.Chains.Chains.{AreEnds, end_within}
use Rattle.cddl_language.specs.Terms as L
use Rattle.cddl_language.specs.Terms.{Text, Terms, call}
use Rattle.cddl_language.specs.Environment.{definitions_of, most_names}
use Rattle.cddl_language.specs.Prelude.{prelude}
use Rattle.cddl_language.specs.Kinds.{is_group, opened}
use Rattle.check_terms.specs.declared.definition.Definition.{Definition}
use Rattle.check_terms.specs.Definitions.{AreDefinitions, no_definitions, further_definition}
use Rattle.check_terms.specs.Table.{IsTable, Table}
use Rattle.check_names.specs.declared.environment.environment.Name.{Name}
use Rattle.check_names.specs.Environment.Environment.{IsStanding}
use Rattle.check_names.specs.Environment.Names.{AreNames, Standing, standing}
use Rattle.check_names.specs.declared.kinds.heads.Head.{Head}
use Rattle.check_names.specs.declared.kinds.kinds.Kinds.{Kinds}
use Rattle.check_names.specs.Kinds.Heads.{AreHeads}
use Rattle.check_names.specs.Kinds.Kinds.{AreKinds, answered_sort, answered_there, sort_of}
use Rattle.check_names.specs.Kinds.Links.{kind_links, only_head, opening_links, opens_group}
use Rattle.check_names.proofs.OfKinds.Kinding as K
use Rattle.check_names.proofs.OfKinds.Kinding.{AreOpened, kinds_agree, opened_group}
use Rattle.check_names.proofs.OfKinds.Opening as O
use Rattle.check_names.proofs.OfKinds.Opening.{IsOnly, is_only, openings_agree}

as_many : (t : Table) (ds : List Definition) (xs : List L.Definition) → AreDefinitions t ds xs → length ds ≡ length xs
as_many t [] [] no_definitions = refl
as_many t [] (x ∷ xs) h = elim h [ ]
as_many t (d ∷ ds) [] h = elim h [ ]
as_many t (d ∷ ds) (x ∷ xs) (further_definition h hs) = ap suc (as_many t ds xs hs)

name_at : (names : List Name) (k : ℕ) → k < length names → (v : Name) × (slice_get names k ≡ Some v) × (slice_get (map standing names) k ≡ Some (standing v))
name_at [] k h = absurd (omega (arith, h))
name_at (n ∷ names) zero h = (n, refl, refl)
name_at (n ∷ names) (suc k) h = name_at names k (omega (arith, h))

as_many_standing : (names : List Name) → length (map standing names) ≡ length names
as_many_standing [] = refl
as_many_standing (n ∷ names) = ap suc (as_many_standing names)

abbrev pub NamesStand : Type 0
NamesStand = (t : Table) (count k : ℕ) (known definitions : List Definition) (names : List Name) (xs : List L.Definition) (n : Text) (name : Name) → IsTable t → AreDefinitions t known prelude → AreDefinitions t definitions xs → AreNames count known definitions names → slice_get t.texts k ≡ Some n → slice_get names k ≡ Some name → IsStanding xs n (standing name)

module _ (stand : NamesStand) (t : Table) (is : IsTable t) (known own : List Definition) (names : List Name) (most : ℕ) (khs ohs : List Head) (kh : AreHeads t known khs) (oh : AreHeads t own ohs) (opening : List Link) (are_opening : opening ≡ opening_links t.texts khs ohs 0 (map standing names)) (opened_items : List (Option ℕ)) (ends : AreEnds opening most opened_items) (kind : List Link) (are_kind : kind ≡ kind_links t.texts own ohs opened_items 0 (map standing names)) (groups_items : List (Option ℕ)) (kind_ends : AreEnds kind most groups_items) (sum : most ≡ length known + length own) where
  module _ (xs : List L.Definition) (kd : AreDefinitions t known prelude) (od : AreDefinitions t own xs) (an : AreNames (length t.texts) known own names) where
    is_most : most ≡ most_names xs
    is_most = sum ∙ ap (λ k. k + length own) (as_many t known prelude kd) ∙ ap (λ k. length prelude + k) (as_many t own xs od)

    here : (k : ℕ) (n : Text) → slice_get t.texts k ≡ Some n → (s : Standing) × (slice_get (map standing names) k ≡ Some s) × IsStanding xs n s
    here k n e =
        let v = name_at names k (subst (λ m. k < m) (sym an.all) (slice_get_within t.texts k n e)) in
        (standing v.0, v.2, stand t (length t.texts) k known own names xs n v.0 is kd od an e v.1)

    in_opening : (k : ℕ) (n : Text) → slice_get t.texts k ≡ Some n → k < length opening
    in_opening k n e = subst (λ m. k < m) (sym (ap length are_opening ∙ O.count_links t.texts khs ohs 0 (map standing names) ∙ as_many_standing names ∙ an.all)) (slice_get_within t.texts k n e)

    in_kind : (k : ℕ) (n : Text) → slice_get t.texts k ≡ Some n → k < length kind
    in_kind k n e = subst (λ m. k < m) (sym (ap length are_kind ∙ K.count_links t.texts own ohs opened_items 0 (map standing names) ∙ as_many_standing names ∙ an.all)) (slice_get_within t.texts k n e)

    opens : (k : ℕ) (n : Text) (ts : Terms) → slice_get t.texts k ≡ Some n → answered_sort (end_within opening most k) ≡ sort_of (opened xs (call n ts))
    opens k n ts e = subst (λ m. answered_sort (end_within opening m k) ≡ sort_of (opened xs (call n ts))) (sym is_most) (openings_agree t.texts opening xs khs ohs (map standing names) only are_opening (most_names xs) k n ts e)
      where
        only : (k : ℕ) (n : Text) → slice_get t.texts k ≡ Some n → (s : Standing) × (slice_get (map standing names) k ≡ Some s) × IsOnly t.texts (only_head khs ohs s) (definitions_of xs n)
        only k n e = let s = here k n e in (s.0, s.1, is_only t known own xs khs ohs kd od kh oh n s.0 s.2)

    are_opened : AreOpened t.texts xs opened_items
    are_opened k n ts e = ap opens_group (ends.each k (in_opening k n e)) ∙ opened_group (end_within opening most k) (opened xs (call n ts)) (opens k n ts e)

    pub are_kinds : (ks : Kinds) → ks.opened.items ≡ opened_items → ks.groups.items ≡ groups_items → AreKinds t.texts xs ks
    are_kinds ks e g = record {
      groups = λ k n h. ap (λ (os : List (Option ℕ)). opens_group (slice_get os k)) g ∙ ap opens_group (kind_ends.each k (in_kind k n h)) ∙ subst (λ m. opens_group (Some (end_within kind m k)) ≡ is_group xs n) (sym is_most) (kinds_agree t kind xs opened_items are_opened own ohs od oh (map standing names) here are_kind (most_names xs) k n h);
      openings = λ k n ts h. ap (λ (os : List (Option ℕ)). answered_sort (answered_there (slice_get os k))) e ∙ ap (λ o. answered_sort (answered_there o)) (ends.each k (in_opening k n h)) ∙ opens k n ts h;
    }
