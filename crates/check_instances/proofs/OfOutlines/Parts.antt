-- The rows of a body's parts, down to its references.
use Rattle.std.proofs.Common.{◌≡◌, ℕ, Bool, true, false, true≢false, List, [], ◌∷◌, ◌++◌, Option, Some, None, ◌⊎◌, inl, inr, IfSome, refl, sym, ap, ◌∙◌, subst}
use Rattle.std.specs.Prelude.{if◌then◌else◌, slice_get}
use Rattle.std.proofs.lemmas.Option.{same_Some}
use Rattle.cddl_language.specs.Reach.{Point, points, group_points, entries_points, entry_points, key_points, body_points}
use Rattle.cddl_language.specs.Substitution.{fill, fill_group, fill_entries, fill_entry, fill_key, fill_body}
use Rattle.cddl_language.specs.Terms as L
use Rattle.cddl_language.specs.Terms.{number, text, bytes, Text, Term, literal, named, parens, map_of, array_of, unwrapped, choice_of, choice_of_name, tagged, tagged_by, simple_by, hash, range, control, or, Group, sole, orelse, Entries, no_entries, entries, Entry, typed, keyed, grouped, Key, of_type, bareword, of_value}
use Rattle.check_terms.specs.declared.definition.Body.{Body}
use Rattle.check_terms.specs.declared.row.Form.{Form}
use Rattle.check_terms.specs.declared.row.Form.TheVariants as F
use Rattle.check_terms.specs.declared.row.Row.{Row}
use Rattle.check_terms.specs.Definitions.{IsBody, types, entry}
use Rattle.check_terms.specs.Fill.Rows.{with_part}
use Rattle.check_terms.specs.Table.{Table, Tree, nothing, node, Holds, part}
use Rattle.check_terms.specs.Trees.{term_tree, group_tree, entries_tree, entry_tree, key_tree}
use Rattle.check_instances.specs.Lists.{IsIn}
use Rattle.check_instances.specs.Outlines.{IsTermOf, is_reference, parts_after, references_after}
use Rattle.check_instances.specs.Steps.{row_of}
use Rattle.check_instances.proofs.Lists.{in_cases, in_left, in_right}
use Rattle.check_instances.proofs.OfOutlines.Taking.{part_cases}

-- Parts of a body.

pub data Part : Type 0 where
  none : Part
  of_term : Term → Part
  of_group : Group → Part
  of_entries : Entries → Part
  of_entry : Entry → Part
  of_key : Key → Part

abbrev pub tree_of : Part → Tree
tree_of none = nothing
tree_of (of_term t) = term_tree t
tree_of (of_group g) = group_tree g
tree_of (of_entries es) = entries_tree es
tree_of (of_entry e) = entry_tree e
tree_of (of_key k) = key_tree k

-- what stands in a part with these arguments
abbrev pub points_of : List Text → List Term → Part → List Point
points_of ps ts none = []
points_of ps ts (of_term t) = points (fill ps ts t)
points_of ps ts (of_group g) = group_points (fill_group ps ts g)
points_of ps ts (of_entries es) = entries_points (fill_entries ps ts es)
points_of ps ts (of_entry e) = entry_points (fill_entry ps ts e)
points_of ps ts (of_key k) = key_points (fill_key ps ts k)

-- no reference, and what stands in its parts stands in it
record IsSplit (p : Part) : Type 0 where
  form : Form
  word : Option Text
  first : Part
  second : Part
  tree : tree_of p ≡ node form word (tree_of first) (tree_of second)
  other : is_reference form ≡ false
  in_first : (ps : List Text) (ts : List Term) (z : Point) → IsIn z (points_of ps ts first) → IsIn z (points_of ps ts p)
  in_second : (ps : List Text) (ts : List Term) (z : Point) → IsIn z (points_of ps ts second) → IsIn z (points_of ps ts p)

data Kind : Part → Type 0 where
  is_none : Kind none
  is_split : {p : Part} → IsSplit p → Kind p
  is_term : {s : Term} {f : Form} {w : Option Text} {a b : Tree} → term_tree s ≡ node f w a b → is_reference f ≡ true → Kind (of_term s)

-- without parts, with one, and with two

leaf : (p : Part) (f : Form) (w : Option Text) → tree_of p ≡ node f w nothing nothing → is_reference f ≡ false → Kind p
leaf p f w e o = is_split (record { form = f; word = w; first = none; second = none; tree = e; other = o; in_first = λ ps ts z h. absurd h; in_second = λ ps ts z h. absurd h })

one : (p q : Part) (f : Form) (w : Option Text) → tree_of p ≡ node f w (tree_of q) nothing → is_reference f ≡ false → ((ps : List Text) (ts : List Term) → points_of ps ts q ≡ points_of ps ts p) → Kind p
one p q f w e o same = is_split (record { form = f; word = w; first = q; second = none; tree = e; other = o; in_first = λ ps ts z h. subst (IsIn z) (same ps ts) h; in_second = λ ps ts z h. absurd h })

two : (p q r : Part) (f : Form) (w : Option Text) → tree_of p ≡ node f w (tree_of q) (tree_of r) → is_reference f ≡ false → ((ps : List Text) (ts : List Term) → points_of ps ts q ++ points_of ps ts r ≡ points_of ps ts p) → Kind p
two p q r f w e o same = is_split (record { form = f; word = w; first = q; second = r; tree = e; other = o; in_first = λ ps ts z h. subst (IsIn z) (same ps ts) (in_left (points_of ps ts q) (points_of ps ts r) z h); in_second = λ ps ts z h. subst (IsIn z) (same ps ts) (in_right (points_of ps ts q) (points_of ps ts r) z h) })

kind : (p : Part) → Kind p
kind none = is_none
kind (of_term (literal (number x))) = leaf _ F.Number (Some x) refl refl
kind (of_term (literal (text x))) = leaf _ F.Text (Some x) refl refl
kind (of_term (literal (bytes x))) = leaf _ F.Bytes (Some x) refl refl
kind (of_term (named r)) = is_term refl refl
kind (of_term (parens t)) = one _ (of_term t) F.Parens None refl refl (λ ps ts. refl)
kind (of_term (map_of g)) = one _ (of_group g) F.MapOf None refl refl (λ ps ts. refl)
kind (of_term (array_of g)) = one _ (of_group g) F.ArrayOf None refl refl (λ ps ts. refl)
kind (of_term (unwrapped r)) = is_term refl refl
kind (of_term (choice_of g)) = one _ (of_group g) F.ChoiceOf None refl refl (λ ps ts. refl)
kind (of_term (choice_of_name r)) = is_term refl refl
kind (of_term (tagged x t)) = one _ (of_term t) F.Tagged (Some x) refl refl (λ ps ts. refl)
kind (of_term (tagged_by h t)) = two _ (of_term h) (of_term t) F.TaggedBy None refl refl (λ ps ts. refl)
kind (of_term (simple_by h)) = one _ (of_term h) F.SimpleBy None refl refl (λ ps ts. refl)
kind (of_term (hash x)) = leaf _ F.Hash (Some x) refl refl
kind (of_term (range a true b)) = two _ (of_term a) (of_term b) F.Range None refl refl (λ ps ts. refl)
kind (of_term (range a false b)) = two _ (of_term a) (of_term b) F.RangeBelow None refl refl (λ ps ts. refl)
kind (of_term (control a x b)) = two _ (of_term a) (of_term b) F.Control (Some x) refl refl (λ ps ts. refl)
kind (of_term (or t u)) = two _ (of_term t) (of_term u) F.Or None refl refl (λ ps ts. refl)
kind (of_group (sole es)) = one _ (of_entries es) F.Sole None refl refl (λ ps ts. refl)
kind (of_group (orelse g es)) = two _ (of_group g) (of_entries es) F.OrElse None refl refl (λ ps ts. refl)
kind (of_entries no_entries) = leaf _ F.NoEntries None refl refl
kind (of_entries (entries es e true)) = two _ (of_entries es) (of_entry e) F.EntriesComma None refl refl (λ ps ts. refl)
kind (of_entries (entries es e false)) = two _ (of_entries es) (of_entry e) F.Entries None refl refl (λ ps ts. refl)
kind (of_entry (typed o t)) = one _ (of_term t) F.Typed o refl refl (λ ps ts. refl)
kind (of_entry (keyed o k t)) = two _ (of_key k) (of_term t) F.Keyed o refl refl (λ ps ts. refl)
kind (of_entry (grouped o g)) = one _ (of_group g) F.Grouped o refl refl (λ ps ts. refl)
kind (of_key (of_type t true)) = one _ (of_term t) F.CutKey None refl refl (λ ps ts. refl)
kind (of_key (of_type t false)) = one _ (of_term t) F.TypeKey None refl refl (λ ps ts. refl)
kind (of_key (bareword x)) = leaf _ F.Bareword (Some x) refl refl
kind (of_key (of_value v)) = one _ (of_term (literal v)) F.LiteralKey None refl refl (λ ps ts. refl)

-- what a tree has

form_in : Form → Tree → Form
form_in d nothing = d
form_in d (node f w a b) = f

first_in : Tree → Tree
first_in nothing = nothing
first_in (node f w a b) = a

second_in : Tree → Tree
second_in nothing = nothing
second_in (node f w a b) = b

-- The row is of a part, and with any arguments what stands in this stands in the body.
pub record IsPartOf (t : Table) (x : L.Body) (ps : List Text) (n : ℕ) : Type 0 where
  pub its : Part
  pub holds : Holds t (Some n) (tree_of its)
  pub among : (ts : List Term) (z : Point) → IsIn z (points_of ps ts its) → IsIn z (body_points (fill_body ps ts x))

pub whole : (t : Table) (x : L.Body) (ps : List Text) (b : Body) → IsBody t b x → IsPartOf t x ps (row_of b)
whole t x ps b (types {x = s} h) = record { its = of_term s; holds = h; among = λ ts z g. g }
whole t x ps b (entry {x = e} h) = record { its = of_entry e; holds = h; among = λ ts z g. g }

module _ (t : Table) (x : L.Body) (ps : List Text) (n : ℕ) where
  -- what the row is, and its parts
  abbrev IsTaken : Row → Type 0
  IsTaken r = (is_reference r.form ≡ true → IsTermOf t x ps n) × (is_reference r.form ≡ false → IfSome r.first (IsPartOf t x ps) × IfSome r.second (IsPartOf t x ps))

  part_at : (i : Option ℕ) (a : Tree) (p : Part) → Holds t i a → a ≡ tree_of p → ((ts : List Term) (z : Point) → IsIn z (points_of ps ts p) → IsIn z (body_points (fill_body ps ts x))) → IfSome i (IsPartOf t x ps)
  part_at None a p h e among = tt
  part_at (Some m) a p h e among = record { its = p; holds = subst (Holds t (Some m)) e h; among = among }

  split : (p : Part) → Kind p → ((ts : List Term) (z : Point) → IsIn z (points_of ps ts p) → IsIn z (body_points (fill_body ps ts x))) → Holds t (Some n) (tree_of p) → (f : Form) (m i j : Option ℕ) (w : Option Text) (a b : Tree) → Holds t i a → Holds t j b → node f w a b ≡ tree_of p → IsTaken (record { form = f; text = m; first = i; second = j })
  unfolding form_in first_in second_in
  split none is_none among h f m i j w a b u v e = cc
  split p (is_split s) among h f m i j w a b u v e =
      let same = e ∙ s.tree in
      let form : f ≡ s.form = ap (form_in f) same in
      (λ c. absurd (true≢false (sym c ∙ ap is_reference form ∙ s.other)), λ c. (part_at i a s.first u (ap first_in same) (λ ts z g. among ts z (s.in_first ps ts z g)), part_at j b s.second v (ap second_in same) (λ ts z g. among ts z (s.in_second ps ts z g))))
  split (of_term s) (is_term {f = g} {w = y} {a = c} {b = d} k o) among h f m i j w a b u v e =
      let form : f ≡ g = ap (form_in f) (e ∙ k) in
      (λ q. record { term = s; holds = h; among = among }, λ q. absurd (true≢false (sym o ∙ ap is_reference (sym form) ∙ q)))

  taken : IsPartOf t x ps n → (r : Row) → slice_get t.rows n ≡ Some r → IsTaken r
  taken so r e = by (tree_of so.its) refl so.holds
    where
      by : (y : Tree) → y ≡ tree_of so.its → Holds t (Some n) y → IsTaken r
      by y same (part {f = f} {m = m} {i = i} {j = j} {x = w} {a = a} {b = b} h d u v) = subst (λ (q : Row). IsTaken q) (same_Some _ r (sym h ∙ e)) (split so.its (kind so.its) so.among so.holds f m i j w a b u v same)

-- Some rows are to be taken, and these are the references.
abbrev pub AreTaken : Table → L.Body → List Text → List ℕ → List ℕ → Type 0
AreTaken t x ps numbers references = ((n : ℕ) → IsIn n numbers → IsPartOf t x ps n) × ((n : ℕ) → IsIn n references → IsTermOf t x ps n)

pub none_taken : (t : Table) (x : L.Body) (ps : List Text) (n : ℕ) → IsPartOf t x ps n → AreTaken t x ps (with_part [] (Some n)) []
none_taken t x ps n h = (by, λ m g. absurd g)
  where
    by : (m : ℕ) → IsIn m (n ∷ []) → IsPartOf t x ps m
    by m (inl e) = subst (IsPartOf t x ps) (sym e) h
    by m (inr g) = absurd g

module _ (t : Table) (x : L.Body) (ps : List Text) (k : ℕ) (numbers left references : List ℕ) (last : numbers ≡ left ++ k ∷ []) (so : AreTaken t x ps numbers references) where
  its_own : IsPartOf t x ps k
  its_own = so.0 k (subst (IsIn k) (sym last) (in_right left (k ∷ []) k (inl refl)))

  stays : (n : ℕ) → IsIn n left → IsPartOf t x ps n
  stays n h = so.0 n (subst (IsIn n) (sym last) (in_left left (k ∷ []) n h))

  with_term : IsTermOf t x ps k → (n : ℕ) → IsIn n (references ++ k ∷ []) → IsTermOf t x ps n
  with_term it n h = by (in_cases references (k ∷ []) n h)
    where
      by : IsIn n references ⊎ IsIn n (k ∷ []) → IsTermOf t x ps n
      by (inl g) = so.1 n g
      by (inr (inl e)) = subst (IsTermOf t x ps) (sym e) it
      by (inr (inr g)) = absurd g

  pub one_taken : AreTaken t x ps (parts_after (slice_get t.rows k) left) (references_after (slice_get t.rows k) k references)
  one_taken = by (slice_get t.rows k) refl
    where
      by : (o : Option Row) → slice_get t.rows k ≡ o → AreTaken t x ps (parts_after o left) (references_after o k references)
      by None e = (stays, so.1)
      by (Some r) e = either (is_reference r.form) refl (taken t x ps k its_own r e)
        where
          either : (b : Bool) → is_reference r.form ≡ b → ((is_reference r.form ≡ true → IsTermOf t x ps k) × (is_reference r.form ≡ false → IfSome r.first (IsPartOf t x ps) × IfSome r.second (IsPartOf t x ps))) → AreTaken t x ps (if b then left else with_part (with_part left r.first) r.second) (if b then references ++ k ∷ [] else references)
          either true c h = (stays, with_term (h.0 c))
          either false c h = (part_cases (IsPartOf t x ps) (with_part left r.first) r.second (part_cases (IsPartOf t x ps) left r.first stays (h.1 c).0) (h.1 c).1, so.1)
