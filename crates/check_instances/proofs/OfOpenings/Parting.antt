-- What the types of entries are.
use Rattle.std.proofs.Common.{◌≡◌, ◌↔◌, ℕ, zero, Bool, true, false, if◌then◌else◌, List, Option, Some, None, refl, sym, ap, subst, ◌∙◌, slice_get, arith}
use Rattle.std.specs.Prelude.{Contains}
use Rattle.cddl_language.specs.Terms as L
use Rattle.cddl_language.specs.Terms.{Text, Term, literal, number, text, bytes, named, parens, map_of, array_of, unwrapped, choice_of, choice_of_name, tagged, tagged_by, simple_by, hash, range, control, or, Ref, call, Group, name_of, stripped}
use Rattle.cddl_language.specs.Kinds as K
use Rattle.cddl_language.specs.Kinds.{Opened, opens_group, opens_type, opened, is_group, part_of, stripped_part}
use Rattle.cddl_language.specs.Reach.{Reaches, at_name, at_unwrapping, group_points, points}
use Rattle.check_terms.specs.declared.row.Form.{Form}
use Rattle.check_terms.specs.declared.row.Form.TheVariants as F
use Rattle.check_terms.specs.declared.row.Row.{Row}
use Rattle.check_terms.specs.Table.{Table, part}
use Rattle.check_terms.specs.Trees.{IsTerm, IsRef}
use Rattle.check_names.specs.declared.kinds.kinds.Kinds.{Kinds}
use Rattle.check_names.specs.Kinds.Kinds.{AreKinds}
use Rattle.check_instances.specs.declared.closed.closed.Closed.{Closed}
use Rattle.check_instances.specs.Closed.Closed.{AreReached, IsClosed}
use Rattle.check_instances.specs.declared.openings.openings.Opening.{Opening}
use Rattle.check_instances.specs.declared.openings.openings.Part.{Part}
use Rattle.check_instances.specs.declared.openings.openings.Part.TheVariants as PartV
use Rattle.check_instances.specs.Openings.Openings.{AreOpenings, IsOpened, IsOpening, nothing, group_opened, type_opened, IsPart, a_type, a_group, an_opened_group}
use Rattle.check_instances.specs.Openings.Steps.{is_group_by, named_group, names_group, opened_at, opened_part, part_at, part_in, place_at, row_in, stripped_row}
use Rattle.check_instances.proofs.OfOpenings.Joining.{alike_at}
use Rattle.check_instances.proofs.OfOpenings.Leading.{opened_reached, stripped_points}
use Rattle.check_instances.proofs.OfOpenings.Chaining.{Refers, name_there, place_found, refers}

-- what stands in a type out of its parentheses is reached
stripped_reached : (xs : List L.Definition) (root : Text) (x : Term) → AreReached xs root (points x) → AreReached xs root (points (stripped x))
stripped_reached xs root x h p c = h p (subst (λ ps. Contains ps p) (stripped_points x) c)

at_named : (xs : List L.Definition) (root : Text) (r : Ref) → AreReached xs root (points (named r)) → Reaches xs root r
at_named xs root r h = h (at_name r) (zero, omega arith, refl)

at_unwrapped : (xs : List L.Definition) (root : Text) (r : Ref) → AreReached xs root (points (unwrapped r)) → Reaches xs root r
at_unwrapped xs root r h = h (at_unwrapping r) (zero, omega arith, refl)

module _ (t : Table) (one_ref : (n m : ℕ) (a b : Ref) → IsRef t n a → IsRef t m b → (n ≡ m) ↔ (a ≡ b)) (xs : List L.Definition) (root : Text) (refs : List Ref) (c : Closed) (is : IsClosed xs root refs t c) (ks : Kinds) (kinds : AreKinds t.texts xs ks) (os : List Opening) (opens : AreOpenings xs t refs os) where
  abbrev part_there : Option Row → Part
  part_there r = part_in t.rows c.places.items ks os r

  plain : (n : ℕ) (r : Row) → slice_get t.rows n ≡ Some r → part_there (Some r) ≡ PartV.AsksType → IsPart t refs K.asks_type (part_there (slice_get t.rows n))
  plain n r e h = subst (λ z. IsPart t refs K.asks_type z) (sym (ap part_there e ∙ h)) a_type

  -- what a row of a name or of `~` and a name is
  by_form : (n : ℕ) (f : Form) (r : Ref) → (h : Refers t n f r) → part_there (slice_get t.rows n) ≡ part_at t.rows c.places.items ks os f (Some h.number)
  by_form n f r h = ap part_there h.at_row ∙ ap (λ (z : Form). part_at t.rows c.places.items ks os z h.row.first) h.form ∙ ap (part_at t.rows c.places.items ks os f) h.first

  at_name_row : (n : ℕ) (r : Ref) → IsTerm t n (named r) → Reaches xs root r → IsPart t refs (stripped_part xs (named r)) (part_there (slice_get t.rows n))
  at_name_row n r h reached =
      let f = refers t n F.Named r h in
      let p = place_found t one_ref xs root refs c is f.number r f.ref reached in
      let m = name_there t f.number r f.ref in
      let kind : names_group t.rows ks (Some f.number) ≡ is_group xs (name_of r) = ap (is_group_by ks) m.1 ∙ kinds.groups m.0 (name_of r) m.2 in
      subst (IsPart t refs (stripped_part xs (named r))) (sym (by_form n F.Named r f)) (by p.0 p.2 (place_at c.places.items (Some f.number)) p.1 (names_group t.rows ks (Some f.number)) (is_group xs (name_of r)) kind)
    where
      by : (k : ℕ) → slice_get refs k ≡ Some r → (q : Option ℕ) → q ≡ Some k → (b d : Bool) → b ≡ d → IsPart t refs (if d then K.names_group r else K.asks_type) (if b then named_group q else PartV.AsksType)
      by k e q g true true i = subst (λ z. IsPart t refs (K.names_group r) (named_group z)) (sym g) (a_group e)
      by k e q g false false i = a_type
      by k e q g true false i = cc
      by k e q g false true i = cc

  at_unwrapped_row : (n : ℕ) (r : Ref) → IsTerm t n (unwrapped r) → Reaches xs root r → IsPart t refs (stripped_part xs (unwrapped r)) (part_there (slice_get t.rows n))
  at_unwrapped_row n r h reached =
      let f = refers t n F.Unwrapped r h in
      let p = place_found t one_ref xs root refs c is f.number r f.ref reached in
      let o = alike_at (IsOpening xs t) refs os opens p.0 r p.2 in
      subst (IsPart t refs (stripped_part xs (unwrapped r))) (sym (by_form n F.Unwrapped r f ∙ ap (opened_part os) p.1 ∙ ap (opened_at p.0) o.1)) (by p.0 p.2 (opened xs r) o.0 o.2)
    where
      by : (k : ℕ) → slice_get refs k ≡ Some r → (z : Option Opened) (o : Opening) → IsOpened t z o → IsPart t refs (K.opened_part r z) (opened_at k (Some o))
      by k e None o nothing = a_type
      by k e (Some z) o (group_opened h) = an_opened_group e h
      by k e (Some z) o (type_opened h) = a_type

  of_row : (n : ℕ) (x : Term) → IsTerm t n x → AreReached xs root (points x) → IsPart t refs (stripped_part xs x) (part_there (slice_get t.rows n))
  of_row n (named r) h g = at_name_row n r h (at_named xs root r g)
  of_row n (unwrapped r) h g = at_unwrapped_row n r h (at_unwrapped xs root r g)
  of_row n (literal (number m)) (part e h a b) g = plain n _ e refl
  of_row n (literal (text m)) (part e h a b) g = plain n _ e refl
  of_row n (literal (bytes m)) (part e h a b) g = plain n _ e refl
  of_row n (parens x) (part e h a b) g = plain n _ e refl
  of_row n (map_of o) (part e h a b) g = plain n _ e refl
  of_row n (array_of o) (part e h a b) g = plain n _ e refl
  of_row n (choice_of o) (part e h a b) g = plain n _ e refl
  of_row n (choice_of_name r) (part e h a b) g = plain n _ e refl
  of_row n (tagged m x) (part e h a b) g = plain n _ e refl
  of_row n (tagged_by z x) (part e h a b) g = plain n _ e refl
  of_row n (simple_by z) (part e h a b) g = plain n _ e refl
  of_row n (hash m) (part e h a b) g = plain n _ e refl
  of_row n (range x true y) (part e h a b) g = plain n _ e refl
  of_row n (range x false y) (part e h a b) g = plain n _ e refl
  of_row n (control x m y) (part e h a b) g = plain n _ e refl
  of_row n (or x y) (part e h a b) g = plain n _ e refl

  pub part_right : (n : ℕ) (x : Term) → IsTerm t n x → AreReached xs root (points x) → IsPart t refs (part_of xs x) (part_there (stripped_row t.rows c.stripped.items n))
  part_right n x h g = let q = is.stripped.each n x h in subst (λ i. IsPart t refs (part_of xs x) (part_there (row_in t.rows i))) (sym q.1) (of_row q.0 (stripped x) q.2 (stripped_reached xs root x g))

-- What an entry names or opens is reached.

abbrev pub IsPartReached : List L.Definition → Text → K.Part → Type 0
IsPartReached xs root K.asks_type = Unit {0}
IsPartReached xs root (K.names_group r) = Reaches xs root r
IsPartReached xs root (K.opens r g) = Reaches xs root r × AreReached xs root (group_points g)

stripped_part_reached : (xs : List L.Definition) (root : Text) (x : Term) → AreReached xs root (points x) → IsPartReached xs root (stripped_part xs x)
stripped_part_reached xs root (named r) h = by (is_group xs (name_of r))
  where
    by : (b : Bool) → IsPartReached xs root (if b then K.names_group r else K.asks_type)
    by true = at_named xs root r h
    by false = tt
stripped_part_reached xs root (unwrapped r) h = by (opened xs r) refl
  where
    by : (z : Option Opened) → opened xs r ≡ z → IsPartReached xs root (K.opened_part r z)
    by None e = tt
    by (Some (opens_type y)) e = tt
    by (Some (opens_group g)) e = (at_unwrapped xs root r h, opened_reached xs root r (opens_group g) (at_unwrapped xs root r h) e)
stripped_part_reached xs root (literal v) h = tt
stripped_part_reached xs root (parens x) h = tt
stripped_part_reached xs root (map_of o) h = tt
stripped_part_reached xs root (array_of o) h = tt
stripped_part_reached xs root (choice_of o) h = tt
stripped_part_reached xs root (choice_of_name r) h = tt
stripped_part_reached xs root (tagged m x) h = tt
stripped_part_reached xs root (tagged_by z x) h = tt
stripped_part_reached xs root (simple_by z) h = tt
stripped_part_reached xs root (hash m) h = tt
stripped_part_reached xs root (range x c y) h = tt
stripped_part_reached xs root (control x m y) h = tt
stripped_part_reached xs root (or x y) h = tt

pub part_reached : (xs : List L.Definition) (root : Text) (x : Term) (p : K.Part) → AreReached xs root (points x) → part_of xs x ≡ p → IsPartReached xs root p
part_reached xs root x p h e = subst (IsPartReached xs root) e (stripped_part_reached xs root (stripped x) (stripped_reached xs root x h))
