-- Parts one by one, and that what is asked of them is what is asked at their sites and of their entries.
use Rattle.std.proofs.Common.{◌≡◌, ℕ, zero, suc, ◌+◌, ◌<◌, List, [], ◌∷◌, ◌++◌, append_assoc, length, drop, get_or, Option, Some, None, slice_get, refl, sym, ap, subst, ◌∙◌}
use Rattle.std.proofs.lemmas.Option.{get_or_from_slice_get, slice_get-get_or, slice_get_within}
use Rattle.std.specs.Prelude.{flat_map}
use Rattle.cddl_token.specs.declared.Token.{Token}
use Rattle.tree_nodes.specs.Syntax.Syntax as S
use Rattle.tree_nodes.specs.declared.tree.Leaf.{Leaf}
use Rattle.cddl_language.specs.Reading.{name_in, parameters_in}
use Rattle.cddl_language.specs.Sites.{Site}
use Rattle.cddl_language.specs.Terms.{Ref, Text}
use Rattle.lists.proofs.Lemmas.{same_some}
use Rattle.check_terms.specs.Table.{Holds, Table, Tree, nothing}
use Rattle.check_sites.specs.declared.entries.entry.TextEntry.{TextEntry}
use Rattle.check_sites.specs.declared.sites.site.Found.{Found}
use Rattle.check_sites.specs.Sites.View.{view_site}
use Rattle.check_reading.specs.Parts.{AreParts, IsPart, Placed, Wanted, first_part, further_part, last_part, no_parts, of_entry, of_found, some_placed}
use Rattle.check_reading.specs.declared.parts.part.Part.{Part}
use Rattle.check_reading.specs.declared.parts.part.Question.{Question}
use Rattle.check_reached.specs.Asked.{AreAnswers, wanted_all, wanted_at, wanted_by, wanted_each, wanted_entries, wanted_entry, wanted_in, wanted_one, wanted_placed, wanted_some, wanted_there}
use Rattle.check_reached.specs.Calls.{refs_named}
use Rattle.check_reached.specs.Runs.{IsRunFor, IsRunOf}
use Rattle.check_reached.specs.declared.asked.Asked.{Asked}
use Rattle.check_reached.specs.declared.runs.Run.{Run}
use Rattle.check_reached.proofs.Asking.{IsGoing, next_gone, part_asked}
use Rattle.check_reached.proofs.Lists.{none_more}

-- the part at a place
pub part_at : (t : Table) (ps : List Part) (ws : List Placed) (i : ℕ) (p : Part) → AreParts t ps ws → slice_get ps i ≡ Some p → (w : Placed) × (slice_get ws i ≡ Some w) × IsPart t p w
part_at t [] [] i p no_parts e = cc
part_at t [] (w ∷ ws) i p h e = elim h [ ]
part_at t (q ∷ ps) [] i p h e = elim h [ ]
part_at t (q ∷ ps) (w ∷ ws) zero p (further_part h hs) e = (w, refl, subst (λ x. IsPart t x w) (same_some e) h)
part_at t (q ∷ ps) (w ∷ ws) (suc i) p (further_part h hs) e = part_at t ps ws i p hs e

pub as_many : (t : Table) (ps : List Part) (ws : List Placed) → AreParts t ps ws → length ps ≡ length ws
as_many t ps ws no_parts = refl
as_many t ps ws (further_part {ps = qs} {ws = vs} h hs) = ap suc (as_many t qs vs hs)

pub still_part : (old new : Table) → ((n : Option ℕ) (x : Tree) → Holds old n x → Holds new n x) → (p : Part) (w : Placed) → IsPart old p w → IsPart new p w
still_part old new keeps p w h = record { rule = h.rule; at = h.at; question = h.question; holds = keeps (Some p.row) w.1.tree h.holds }

-- what is asked of a part, by its offset and its question
pub part_wanted : (ps : List Text) (refs : List Ref) (at : ℕ) (q : Question) (w : Wanted) → at ≡ w.at → q ≡ w.question → wanted_each ps (record { at = at; question = q; tree = w.tree; call = nothing }) refs ≡ wanted_each ps w refs
part_wanted ps refs at q w e f = ap (λ k. wanted_each ps (record { at = k; question = q; tree = w.tree; call = nothing }) refs) e ∙ ap (λ j. wanted_each ps (record { at = w.at; question = j; tree = w.tree; call = nothing }) refs) f ∙ each refs
  where
    each : (rs : List Ref) → wanted_each ps (record { at = w.at; question = w.question; tree = w.tree; call = nothing }) rs ≡ wanted_each ps w rs
    each [] = refl
    each (r ∷ rs) = ap (λ (vs : List Wanted). wanted_in ps w r ∷ vs) (each rs)

-- one more part is asked of
pub part_gone : (old now new : Table) (rs : List S.Rule) (refs : List Ref) (run : Run) (ps : List Part) (ws : List Placed) (i : ℕ) (d : Part) (asked more : List Asked) → i < length ps → AreParts old ps ws → ((n : Option ℕ) (x : Tree) → Holds old n x → Holds now n x) → IsRunFor now refs (slice_get rs (get_or ps i d).rule) run → ((qs : List Text) (us : List Ref) (vs : List Wanted) (w : Placed) → IsRunOf now qs us run → IsPart now (get_or ps i d) w → AreAnswers now asked vs → AreAnswers new more (vs ++ wanted_each qs w.1 us)) → IsGoing Placed (wanted_placed rs refs) ws now (drop i ws) asked → IsGoing Placed (wanted_placed rs refs) ws new (drop (i + 1) ws) more
part_gone old now new rs refs run ps ws i d asked more l are keeps serves adds so =
    let w = part_at old ps ws i (get_or ps i d) are (slice_get-get_or ps i d l) in
    let is = still_part old now keeps (get_or ps i d) w.0 w.2 in
    next_gone Placed (wanted_placed rs refs) ws now new i w.0 asked more (slice_get_within ws i w.0 w.1) (sym (get_or_from_slice_get ws i w.0 w.0 w.1)) (λ vs k. part_asked now new refs run asked more vs w.0.1 (slice_get rs w.0.0) (subst (λ j. IsRunFor now refs (slice_get rs j) run) w.2.rule serves) (λ qs us zs r j. adds qs us zs w.0 r is j) k) so

-- What is asked of the parts of each is what is asked of each.
module _ {A B : Type 0} (g : B → List Wanted) (f : A → List B) (h : A → List Wanted) where
  by_both : (xs ys : List B) → wanted_by g (xs ++ ys) ≡ wanted_by g xs ++ wanted_by g ys
  by_both [] ys = refl
  by_both (x ∷ xs) ys = ap (λ (vs : List Wanted). g x ++ vs) (by_both xs ys) ∙ sym (append_assoc (g x) (wanted_by g xs) (wanted_by g ys))

  by_each : ((x : A) → wanted_by g (f x) ≡ h x) → (xs : List A) → wanted_by g (flat_map f xs) ≡ wanted_by h xs
  by_each e [] = refl
  by_each e (x ∷ xs) = by_both (f x) (flat_map f xs) ∙ ap (λ (vs : List Wanted). vs ++ wanted_by g (flat_map f xs)) (e x) ∙ ap (λ (vs : List Wanted). h x ++ vs) (by_each e xs)

-- of the parts of a site, in the instances of a rule
abbrev some_there : List Ref → Option S.Rule → Option Wanted → Option Wanted → List Wanted
some_there refs None o q = []
some_there refs (Some r) o q = wanted_some (parameters_in r) o (refs_named (name_in r) refs) ++ wanted_some (parameters_in r) q (refs_named (name_in r) refs)

module _ (read : Leaf → Token) (rs : List S.Rule) (refs : List Ref) where
  placed_both : (k : ℕ) (o q : Option Wanted) → wanted_by (wanted_placed rs refs) (some_placed k o ++ some_placed k q) ≡ some_there refs (slice_get rs k) o q
  placed_both k None None = none (slice_get rs k)
    where
      none : (r : Option S.Rule) → [] ≡ some_there refs r None None
      none None = refl
      none (Some r) = refl
  placed_both k None (Some w) = last (slice_get rs k)
    where
      last : (r : Option S.Rule) → wanted_one refs r w ++ [] ≡ some_there refs r None (Some w)
      last None = refl
      last (Some r) = none_more (wanted_each (parameters_in r) w (refs_named (name_in r) refs))
  placed_both k (Some v) None = first (slice_get rs k)
    where
      first : (r : Option S.Rule) → wanted_one refs r v ++ [] ≡ some_there refs r (Some v) None
      first None = refl
      first (Some r) = refl
  placed_both k (Some v) (Some w) = two (slice_get rs k)
    where
      two : (r : Option S.Rule) → wanted_one refs r v ++ (wanted_one refs r w ++ []) ≡ some_there refs r (Some v) (Some w)
      two None = refl
      two (Some r) = ap (λ (vs : List Wanted). wanted_each (parameters_in r) v (refs_named (name_in r) refs) ++ vs) (none_more (wanted_each (parameters_in r) w (refs_named (name_in r) refs)))

  at_site : (f : Found) → wanted_by (wanted_placed rs refs) (of_found read f) ≡ wanted_at read rs refs f
  at_site f = placed_both f.rule (first_part (view_site read f.site)) (last_part (view_site read f.site)) ∙ there (slice_get rs f.rule) (view_site read f.site)
    where
      there : (r : Option S.Rule) (p : Site) → some_there refs r (first_part p) (last_part p) ≡ wanted_there refs r p
      there None p = refl
      there (Some r) p = refl

  pub at_sites : (fs : List Found) → wanted_by (wanted_placed rs refs) (flat_map (of_found read) fs) ≡ wanted_all read rs refs fs
  at_sites fs = by_each (wanted_placed rs refs) (of_found read) (wanted_at read rs refs) at_site fs

  at_entry : (x : TextEntry) → wanted_by (wanted_placed rs refs) (of_entry read x) ≡ wanted_entry read rs refs x
  at_entry x = none_more (wanted_entry read rs refs x)

  pub at_entries : (xs : List TextEntry) → wanted_by (wanted_placed rs refs) (flat_map (of_entry read) xs) ≡ wanted_entries read rs refs xs
  at_entries xs = by_each (wanted_placed rs refs) (of_entry read) (wanted_entry read rs refs) at_entry xs
