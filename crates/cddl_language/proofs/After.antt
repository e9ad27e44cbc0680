-- After an entry of a type nothing is free.
use Rattle.std.specs.Prelude.{◌≡◌, ℕ, List, [], ◌∷◌, Option, Some, None, Bool, true, false, codes}
use Rattle.std.proofs.Common.{refl, sym, ◌∙◌, subst, arith}
use Rattle.std.proofs.lemmas.Bool.{false≢true}
use Rattle.cddl_language.specs.Numbers.{least_of}
use Rattle.cddl_language.specs.Terms.{Text, Term, typed, Entry, Entries, no_entries, entries, Definition, call, no_terms}
use Rattle.cddl_language.specs.Reading.{definitions_in}
use Rattle.cddl_language.specs.Kinds.{Part, asks_type, names_group, opens, part_of}
use Rattle.cddl_language.specs.Reach.{Point, at_name}
use Rattle.cddl_language.specs.Free.{EntryMayBeEmpty, no_time, by_name, by_opening, MayBeEmpty, all_may, IsFreeInSome, in_this, in_later, IsFreeInEach, in_last, in_earlier, IsFreeInEntry, group_name, group_opened, IsFreeInMeaning, by_type, by_group}
use Rattle.cddl_language.specs.Prelude.{plain, prelude}
use Rattle.cddl_language.specs.Examples as E
use Rattle.cddl_language.specs.Texts as T

abbrev pub Asks : Part → Type 0
Asks asks_type = Unit {0}
Asks (names_group r) = ⊥
Asks (opens r g) = ⊥

pub asks : {q : Part} (r : Part) → q ≡ asks_type → q ≡ r → Asks r
asks r e f = subst Asks (sym e ∙ f) tt

one_is_zero : (n : ℕ) → n ≡ 1 → n ≡ 0 → ⊥
one_is_zero n e f = omega arith

module _ (ds : List Definition) where
  takes_one : (o : Option Text) (t : Term) → least_of o ≡ 1 → part_of ds t ≡ asks_type → EntryMayBeEmpty ds (typed o t) → ⊥
  takes_one o t e f (no_time h) = one_is_zero (least_of o) e h
  takes_one o t e f (by_name {r = r} h k) = asks (names_group r) f h
  takes_one o t e f (by_opening {r = r} {g = g} h k) = asks (opens r g) f h

  none_free : (p : Point) (o : Option Text) (t : Term) → part_of ds t ≡ asks_type → IsFreeInEntry ds p (typed o t) → ⊥
  none_free p o t f (group_name {r = r} h k) = asks (names_group r) f h
  none_free p o t f (group_opened {r = r} {g = g} h k) = asks (opens r g) f h

  in_none : (p : Point) → IsFreeInSome ds p [] → ⊥
  in_none p = elim [ ]

  pub in_one : (p : Point) (es : Entries) → IsFreeInSome ds p (es ∷ []) → IsFreeInEach ds p es
  in_one p es (in_this h) = h
  in_one p es (in_later h) = absurd (in_none p h)

  empty_first : (o : Option Text) (t : Term) (c : Bool) → least_of o ≡ 1 → part_of ds t ≡ asks_type → MayBeEmpty ds (entries no_entries (typed o t) c) → ⊥
  empty_first o t c e f (all_may h k) = takes_one o t e f k

  pub free_first : (p : Point) (o : Option Text) (t : Term) (c : Bool) → part_of ds t ≡ asks_type → IsFreeInEach ds p (entries no_entries (typed o t) c) → ⊥
  free_first p o t c f (in_last h k) = none_free p o t f k
  free_first p o t c f (in_earlier h) = elim h [ ]

  behind_first : (p : Point) (o : Option Text) (t : Term) (b c : Bool) (e : Entry) → least_of o ≡ 1 → part_of ds t ≡ asks_type → IsFreeInEach ds p (entries (entries no_entries (typed o t) b) e c) → ⊥
  behind_first p o t b c e f g (in_last h k) = empty_first o t b f g h
  behind_first p o t b c e f g (in_earlier h) = free_first p o t b g h

abbrev int_then_g : List Definition
int_then_g = definitions_in (T.r_of_g ∷ T.int_then_maybe_g ∷ [])

-- in `r = [g]`, `g = (int, ? g)` nothing is free in what `g` means
pub leads_nowhere : (p : Point) → IsFreeInMeaning int_then_g p (at_name (call (codes "g") no_terms)) → ⊥
unfolding prelude
leads_nowhere p (by_type e c h) = false≢true (sym e)
leads_nowhere p (by_group e h) = behind_first int_then_g p None E.int true false (typed (Some (codes "?")) (plain (codes "g"))) refl refl (in_one int_then_g p _ h)
