-- What the flags of rows say; and lists.
use Rattle.std.proofs.Common.{◌≡◌, ◌↔◌, ℕ, ◌<◌, Bool, true, false, List, length, Some, slice_get, refl, sym, subst, arith}
use Rattle.std.specs.List.{Contains}
use Rattle.std.proofs.lemmas.Option.{same_Some, slice_get_read, slice_get_within}
use Rattle.lists.proofs.Lemmas.{there as read}
use Rattle.cddl_language.specs.MapFaults.{HasTooMany, LacksKey, OccursBadly}
use Rattle.cddl_language.specs.Reach.{entry_points, group_points}
use Rattle.cddl_language.specs.Terms.{Definition, Entry, Group, Text, alternatives, grouped, keyed, orelse, sole, typed}
use Rattle.check_instances.specs.Closed.Closed.{AreReached}
use Rattle.check_maps.specs.declared.map_faults.MapFaults.{MapFaults}
use Rattle.check_maps.specs.MapFaults.Faults.{AreFaults}
use Rattle.check_terms.specs.Table.{Table, part}
use Rattle.check_terms.specs.Trees.{IsEntry, IsGroup}
use Rattle.check_root.specs.SplicedFaults.Lookups as L
use Rattle.check_root.specs.SplicedFaults.Lookups.{flag_of, told_if}

pub place_in : {A : Type 0} (xs : List A) (x : A) → Contains xs x → (k : ℕ) × (slice_get xs k ≡ Some x)
place_in xs x h = (h.0, slice_get_read xs (length xs) h.0 x refl h.1 (sym h.2))

pub told_parts : (b : Bool) (at p : ℕ) → told_if b at ≡ Some p → (b ≡ true) × (at ≡ p)
told_parts true at p e = (refl, same_Some at p e)
told_parts false at p e = cc

entry_row : (t : Table) (n : ℕ) (e : Entry) → IsEntry t n e → n < length t.rows
entry_row t n (typed o u) (part h d p q) = slice_get_within t.rows n _ h
entry_row t n (keyed o k u) (part h d p q) = slice_get_within t.rows n _ h
entry_row t n (grouped o g) (part h d p q) = slice_get_within t.rows n _ h

group_row : (t : Table) (n : ℕ) (g : Group) → IsGroup t n g → n < length t.rows
group_row t n (sole es) (part h d p q) = slice_get_within t.rows n _ h
group_row t n (orelse g es) (part h d p q) = slice_get_within t.rows n _ h

module _ (xs : List Definition) (root : Text) (t : Table) (faults : List MapFaults) (are : AreFaults xs root t faults) where
  faults_there : (n : ℕ) → n < length t.rows → (f : MapFaults) × (slice_get faults n ≡ Some f)
  faults_there n h = let all = are.all in read faults n (omega (arith, h, all))

  pub lacks_key : (n : ℕ) (e : Entry) → IsEntry t n e → AreReached xs root (entry_points e) → (L.lacks_key faults n ≡ true) ↔ LacksKey xs e
  lacks_key n e i r =
      let w = faults_there n (entry_row t n e i) in
      subst (λ o. (flag_of (λ (f : MapFaults). f.lacks_key) o ≡ true) ↔ LacksKey xs e) (sym w.1) ((are.each n w.0 w.1).lacks_key e i r)

  pub occurs_badly : (n : ℕ) (e : Entry) → IsEntry t n e → AreReached xs root (entry_points e) → (L.occurs_badly faults n ≡ true) ↔ OccursBadly xs e
  occurs_badly n e i r =
      let w = faults_there n (entry_row t n e i) in
      subst (λ o. (flag_of (λ (f : MapFaults). f.occurs_badly) o ≡ true) ↔ OccursBadly xs e) (sym w.1) ((are.each n w.0 w.1).occurs_badly e i r)

  pub has_too_many : (n : ℕ) (g : Group) → IsGroup t n g → AreReached xs root (group_points g) → (L.has_too_many faults n ≡ true) ↔ HasTooMany xs (alternatives g)
  has_too_many n g i r =
      let w = faults_there n (group_row t n g i) in
      subst (λ o. (flag_of (λ (f : MapFaults). f.has_too_many) o ≡ true) ↔ HasTooMany xs (alternatives g)) (sym w.1) ((are.each n w.0 w.1).has_too_many g i r)
