-- What may be empty by its form may be so by the definition of free references.
use Rattle.std.proofs.Common.{◌≡◌, ℕ, zero, suc, ltb, ltb-false, Bool, true, false, if◌then◌else◌, ◌⊎◌, inl, inr, List, [], ◌∷◌, ◌++◌, map, Option, refl, ◌∙◌, arith}
use Rattle.cddl_meaning.specs.Forms as F
use Rattle.cddl_meaning.specs.Judges.{is_over}
use Rattle.cddl_meaning.specs.Ranks.Ranked as R
use Rattle.cddl_meaning.specs.Ranks.Ranked.{named, every_part, one_of_them, no_minimum, no_round, an_empty_round, no_part, this_part, this_one, another}
use Rattle.cddl_language.specs.Terms.{Text, Term, Entries, no_entries, entries, Entry, typed, keyed, grouped, Definition, entry_list, occurrence_of}
use Rattle.cddl_language.specs.Numbers.{least_of, most_of, occurs_once}
use Rattle.cddl_language.specs.Kinds.{Part, asks_type, names_group, opens, part_of}
use Rattle.cddl_language.specs.Free.{EntryMayBeEmpty, no_time, by_name, by_opening, by_group, MayBeEmpty, none_left, all_may, SomeMayBeEmpty, this_may, later_may}
use Rattle.cddl_language.specs.Literals.{Values}
use Rattle.cddl_language.specs.Language.{TypeName, GroupName, first_of, each_of, entry, round, language, group_form, round_form, part_form, rounds_form}

abbrev Form : Type 0
Form = F.Group TypeName GroupName

-- each entry of the list
abbrev EachEntry : (Entry → Type 0) → List Entry → Type 0
EachEntry P [] = Unit {0}
EachEntry P (e ∷ es) = P e × EachEntry P es

split_entries : (P : Entry → Type 0) (xs ys : List Entry) → EachEntry P (xs ++ ys) → EachEntry P xs × EachEntry P ys
split_entries P [] ys h = (tt, h)
split_entries P (x ∷ xs) ys h = let r = split_entries P xs ys h.1 in ((h.0, r.0), r.1)

module _ (worth : Values) (ds : List Definition) where
  -- what is named may be empty
  abbrev pub IsEmptyName : GroupName → Type 0
  IsEmptyName (first_of ess) = SomeMayBeEmpty ds ess
  IsEmptyName (each_of es) = MayBeEmpty ds es
  IsEmptyName (entry e) = EntryMayBeEmpty ds e
  IsEmptyName (round e) = EntryMayBeEmpty ds e

  abbrev AllNames : List GroupName → Type 0
  AllNames [] = Unit {0}
  AllNames (g ∷ gs) = IsEmptyName g × AllNames gs

  abbrev OneName : List GroupName → Type 0
  OneName [] = ⊥
  OneName (g ∷ gs) = IsEmptyName g ⊎ OneName gs

  -- what makes a form empty, one step deep
  abbrev IsEmptyForm : Form → Type 0
  IsEmptyForm (F.Entry n) = ⊥
  IsEmptyForm (F.GroupRef g) = IsEmptyName g
  IsEmptyForm (F.Sequence gs) = AllNames gs
  IsEmptyForm (F.Alternatives gs) = OneName gs
  IsEmptyForm (F.Repeat least most g) = (least ≡ 0) ⊎ ((is_over most ≡ true) ⊎ IsEmptyName g)

  -- Of each form in turn.

  some_of : (ess : List Entries) → OneName (map each_of ess) → SomeMayBeEmpty ds ess
  some_of [] h = absurd h
  some_of (es ∷ ess) (inl h) = this_may h
  some_of (es ∷ ess) (inr h) = later_may (some_of ess h)

  each_entry : (es : List Entry) → AllNames (map entry es) → EachEntry (EntryMayBeEmpty ds) es
  each_entry [] h = tt
  each_entry (e ∷ es) h = (h.0, each_entry es h.1)

  all_of : (es : Entries) → EachEntry (EntryMayBeEmpty ds) (entry_list es) → MayBeEmpty ds es
  all_of no_entries h = none_left
  all_of (entries es e c) h = let r = split_entries (EntryMayBeEmpty ds) (entry_list es) (e ∷ []) h in all_may (all_of es r.0) r.1.0

  part_empty : (o : Option Text) (x : Term) (p : Part) → part_of ds x ≡ p → IsEmptyForm (part_form worth ds x p) → EntryMayBeEmpty ds (typed o x)
  part_empty o x asks_type e h = absurd h
  part_empty o x (names_group r) e h = by_name e h
  part_empty o x (opens r g) e h = by_opening e h

  round_empty : (e : Entry) → IsEmptyForm (round_form worth ds e) → EntryMayBeEmpty ds e
  round_empty (typed o x) h = part_empty o x (part_of ds x) refl h
  round_empty (keyed o k x) h = absurd h
  round_empty (grouped o g) h = by_group h

  -- A maximum of no round has no minimum above it.
  rounds_empty : (e : Entry) (least : ℕ) (most : F.Most) → least_of (occurrence_of e) ≡ least → IsEmptyForm (rounds_form worth ds e least most) → EntryMayBeEmpty ds e
  rounds_empty e least F.any_number_of l (inl z) = no_time (l ∙ z)
  rounds_empty e least F.any_number_of l (inr (inl o)) = cc
  rounds_empty e least F.any_number_of l (inr (inr h)) = h
  rounds_empty e least (F.at_most n) l h = by (ltb n least) refl h
    where
      none_over : (n : ℕ) → is_over (F.at_most n) ≡ true → ltb n least ≡ false → least ≡ 0
      none_over zero o b = let h = ltb-false 0 least b in omega (arith, h)
      none_over (suc n) o b = cc

      by : (b : Bool) → ltb n least ≡ b → IsEmptyForm (if b then F.Alternatives [] else F.Repeat least (F.at_most n) (round e)) → EntryMayBeEmpty ds e
      by true b h = absurd h
      by false b (inl z) = no_time (l ∙ z)
      by false b (inr (inl o)) = no_time (l ∙ none_over n o b)
      by false b (inr (inr h)) = h

  entry_empty : (e : Entry) (b : Bool) → IsEmptyForm (if b then round_form worth ds e else rounds_form worth ds e (least_of (occurrence_of e)) (most_of (occurrence_of e))) → EntryMayBeEmpty ds e
  entry_empty e true h = round_empty e h
  entry_empty e false h = rounds_empty e (least_of (occurrence_of e)) (most_of (occurrence_of e)) refl h

  by_form : (g : GroupName) → IsEmptyForm (group_form worth ds g) → IsEmptyName g
  by_form (first_of ess) h = some_of ess h
  by_form (each_of es) h = all_of es (each_entry (entry_list es) h)
  by_form (entry e) h = entry_empty e (occurs_once (occurrence_of e)) h
  by_form (round e) h = round_empty e h

  mutual
    empty_form : (f : Form) → R.MayBeEmpty (language worth ds) f → IsEmptyForm f
    empty_form f (named {g = g} h) = by_form g (empty_form (group_form worth ds g) h)
    empty_form f (every_part {gs = gs} h) = all_names gs h
    empty_form f (one_of_them {gs = gs} h) = one_name gs h
    empty_form f no_minimum = inl refl
    empty_form f (no_round o) = inr (inl o)
    empty_form f (an_empty_round {g = g} h) = inr (inr (by_form g (empty_form (group_form worth ds g) h)))

    all_names : (gs : List GroupName) → R.AllMayBeEmpty (language worth ds) gs → AllNames gs
    all_names gs no_part = tt
    all_names gs (this_part {g = g} {gs = hs} h i) = (by_form g (empty_form (group_form worth ds g) h), all_names hs i)

    one_name : (gs : List GroupName) → R.OneMayBeEmpty (language worth ds) gs → OneName gs
    one_name gs (this_one {g = g} h) = inl (by_form g (empty_form (group_form worth ds g) h))
    one_name gs (another {gs = hs} h) = inr (one_name hs h)

  -- entries where each may be empty by its form
  pub empty_entries : (es : Entries) → R.AllMayBeEmpty (language worth ds) (map entry (entry_list es)) → MayBeEmpty ds es
  empty_entries es h = all_of es (each_entry (entry_list es) (all_names (map entry (entry_list es)) h))
