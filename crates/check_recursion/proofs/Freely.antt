-- What is asked over steps is what references lead on to.
use Rattle.std.proofs.Common.{◌≡◌, true, zero, suc, ◌⊎◌, inl, inr, List, [], ◌∷◌, ◌++◌, refl, sym, ap, subst, ◌∙◌, arith}
use Rattle.std.specs.Prelude.{Contains}
use Rattle.cddl_language.specs.Terms.{Term, Group, sole, orelse, Entries, Entry, Definition, alternatives}
use Rattle.cddl_language.specs.Substitution.{group_choices}
use Rattle.cddl_language.specs.Choices.{can_choose}
use Rattle.cddl_language.specs.Reach.{Point, at_name, at_unwrapping, at_choice, at_chosen_name, at_opened_choice}
use Rattle.cddl_language.specs.Free as F
use Rattle.cddl_language.specs.Free.{IsFree, IsFreeInSome, IsFreeInEach, IsFreeInEntry, IsFreeInChoice, IsFreeInChosen, IsFreeInChosenEntry, IsFreeInMeaning, LeadsOn}
use Rattle.check_recursion.specs.Asking as A
use Rattle.check_recursion.specs.Asking.{Asked, a_type, a_group, some_entries, an_entry, chosen_group, chosen_entries, chosen_entry, a_point, Asks, AsksOn}

-- lists

abbrev pub In : {A : Type 0} → List A → A → Type 0
In [] b = ⊥
In (x ∷ xs) b = (x ≡ b) ⊎ In xs b

pub in_list : {A : Type 0} (xs : List A) (b : A) → Contains xs b → In xs b
in_list [] b c = absurd (omega (arith, c.1))
in_list (x ∷ xs) b (zero, l, e) = inl e
in_list (x ∷ xs) b (suc k, l, e) = inr (in_list xs b (k, omega (arith, l), e))

pub contained : {A : Type 0} (xs : List A) (b : A) → In xs b → Contains xs b
contained [] b c = absurd c
contained (x ∷ xs) b (inl e) = (0, omega arith, e)
contained (x ∷ xs) b (inr h) = let r = contained xs b h in (suc r.0, omega (arith, r.1), r.2)

pub in_front : {A : Type 0} (xs ys : List A) (b : A) → In xs b → In (xs ++ ys) b
in_front [] ys b h = absurd h
in_front (x ∷ xs) ys b (inl e) = inl e
in_front (x ∷ xs) ys b (inr h) = inr (in_front xs ys b h)

pub in_back : {A : Type 0} (xs ys : List A) (b : A) → In ys b → In (xs ++ ys) b
in_back [] ys b h = h
in_back (x ∷ xs) ys b h = inr (in_back xs ys b h)

pub in_either : {A : Type 0} (xs ys : List A) (b : A) → In (xs ++ ys) b → In xs b ⊎ In ys b
in_either [] ys b h = inr h
in_either (x ∷ xs) ys b (inl e) = inl (inl e)
in_either (x ∷ xs) ys b (inr h) = by (in_either xs ys b h)
  where
    by : In xs b ⊎ In ys b → In (x ∷ xs) b ⊎ In ys b
    by (inl g) = inl (inr g)
    by (inr g) = inr g

pub append_none : {A : Type 0} (xs : List A) → xs ++ [] ≡ xs
append_none [] = refl
append_none {A = A} (x ∷ xs) = ap (λ (ys : List A). x ∷ ys) (append_none xs)

append_more : {A : Type 0} (xs : List A) (x : A) (ys : List A) → (xs ++ x ∷ []) ++ ys ≡ xs ++ (x ∷ ys)
append_more [] x ys = refl
append_more {A = A} (z ∷ xs) x ys = ap (λ (zs : List A). z ∷ zs) (append_more xs x ys)

-- a list of alternatives that is not empty is a group's
group_onward : (g : Group) (ys : List Entries) → (h : Group) × (alternatives h ≡ alternatives g ++ ys)
group_onward g [] = (g, sym (append_none (alternatives g)))
group_onward g (y ∷ ys) = let r = group_onward (orelse g y) ys in (r.0, r.1 ∙ append_more (alternatives g) y ys)

pub group_with : (es : Entries) (ess : List Entries) → (g : Group) × (alternatives g ≡ es ∷ ess)
group_with es ess = group_onward (sole es) ess

module _ (ds : List Definition) where
  and_then : (a b c : Asked) → AsksOn ds a b → AsksOn ds b c → AsksOn ds a c
  and_then a b c (A.at_once s) w = A.onwards s w
  and_then a b c (A.onwards {b = d} s v) w = A.onwards s (and_then d b c v w)

  -- What is free is asked.

  group_reaches : (g : Group) (es : Entries) → In (alternatives g) es → AsksOn ds (a_group g) (some_entries es)
  group_reaches (sole fs) es (inl e) = subst (λ x. AsksOn ds (a_group (sole fs)) (some_entries x)) e (A.at_once A.sole_entries)
  group_reaches (sole fs) es (inr h) = absurd h
  group_reaches (orelse g fs) es h = by (in_either (alternatives g) (fs ∷ []) es h) (group_reaches g es)
    where
      by : In (alternatives g) es ⊎ In (fs ∷ []) es → (In (alternatives g) es → AsksOn ds (a_group g) (some_entries es)) → AsksOn ds (a_group (orelse g fs)) (some_entries es)
      by (inl i) f = A.onwards A.other_alternatives (f i)
      by (inr (inl e)) f = subst (λ x. AsksOn ds (a_group (orelse g fs)) (some_entries x)) e (A.at_once A.last_alternative)
      by (inr (inr i)) f = absurd i

  choice_reaches : (g : Group) (es : Entries) → In (alternatives g) es → AsksOn ds (chosen_group g) (chosen_entries es)
  choice_reaches (sole fs) es (inl e) = subst (λ x. AsksOn ds (chosen_group (sole fs)) (chosen_entries x)) e (A.at_once A.chosen_sole)
  choice_reaches (sole fs) es (inr h) = absurd h
  choice_reaches (orelse g fs) es h = by (in_either (alternatives g) (fs ∷ []) es h) (choice_reaches g es)
    where
      by : In (alternatives g) es ⊎ In (fs ∷ []) es → (In (alternatives g) es → AsksOn ds (chosen_group g) (chosen_entries es)) → AsksOn ds (chosen_group (orelse g fs)) (chosen_entries es)
      by (inl i) f = A.onwards A.chosen_others (f i)
      by (inr (inl e)) f = subst (λ x. AsksOn ds (chosen_group (orelse g fs)) (chosen_entries x)) e (A.at_once A.chosen_alternative)
      by (inr (inr i)) f = absurd i

  abbrev SomeAsks : List Entries → Point → Type 0
  SomeAsks ess p = (es : Entries) × (In ess es) × AsksOn ds (some_entries es) (a_point p)

  abbrev ChoiceAsks : List Entries → Point → Type 0
  ChoiceAsks ess p = (es : Entries) × (In ess es) × AsksOn ds (chosen_entries es) (a_point p)

  group_asks : (g : Group) (p : Point) → SomeAsks (alternatives g) p → AsksOn ds (a_group g) (a_point p)
  group_asks g p s = and_then (a_group g) (some_entries s.0) (a_point p) (group_reaches g s.0 s.1) s.2

  choice_asks : (g : Group) (p : Point) → ChoiceAsks (alternatives g) p → AsksOn ds (chosen_group g) (a_point p)
  choice_asks g p s = and_then (chosen_group g) (chosen_entries s.0) (a_point p) (choice_reaches g s.0 s.1) s.2

  point_is : (p q : Point) (a : Asked) → p ≡ q → Asks ds a (a_point q) → AsksOn ds a (a_point p)
  point_is p q a e s = subst (λ x. AsksOn ds a (a_point x)) (sym e) (A.at_once s)

  mutual
    free_asks : (p : Point) (t : Term) → IsFree ds p t → AsksOn ds (a_type t) (a_point p)
    free_asks p t (F.name {r = r} e) = point_is p (at_name r) (a_type t) e A.by_name
    free_asks p t (F.unwrapping {r = r} e) = point_is p (at_unwrapping r) (a_type t) e A.by_unwrapping
    free_asks p t (F.choice_by_name {r = r} e) = point_is p (at_choice r) (a_type t) e A.by_choice
    free_asks p t (F.in_parens {t = u} h) = A.onwards A.in_parens (free_asks p u h)
    free_asks p t (F.in_first {t = u} h) = A.onwards A.in_first (free_asks p u h)
    free_asks p t (F.in_second {u = u} h) = A.onwards A.in_second (free_asks p u h)
    free_asks p t (F.in_array {g = g} h) = A.onwards A.in_array (group_asks g p (some_asks p (alternatives g) h))
    free_asks p t (F.in_choice {g = g} h) = A.onwards A.in_choice (choice_asks g p (any_asks p (alternatives g) h))
    free_asks p t (F.in_head {h = u} h) = A.onwards A.in_head (free_asks p u h)
    free_asks p t (F.in_left {a = u} h) = A.onwards A.in_left (free_asks p u h)
    free_asks p t (F.in_controller {b = u} n h) = A.onwards (A.in_controller n) (free_asks p u h)

    some_asks : (p : Point) (ess : List Entries) → IsFreeInSome ds p ess → SomeAsks ess p
    some_asks p ess (F.in_this {es = es} h) = (es, inl refl, each_asks p es h)
    some_asks p ess (F.in_later {ess = fss} h) = let s = some_asks p fss h in (s.0, inr s.1, s.2)

    each_asks : (p : Point) (es : Entries) → IsFreeInEach ds p es → AsksOn ds (some_entries es) (a_point p)
    each_asks p es (F.in_last {e = x} m h) = A.onwards (A.last_entry m) (entry_asks p x h)
    each_asks p es (F.in_earlier {es = fs} h) = A.onwards A.earlier_entries (each_asks p fs h)

    entry_asks : (p : Point) (x : Entry) → IsFreeInEntry ds p x → AsksOn ds (an_entry x) (a_point p)
    entry_asks p x (F.group_name {r = r} e h) = point_is p (at_name r) (an_entry x) h (A.group_name e)
    entry_asks p x (F.group_opened {r = r} e h) = point_is p (at_unwrapping r) (an_entry x) h (A.group_opened e)
    entry_asks p x (F.in_group {g = g} h) = A.onwards A.in_group (group_asks g p (some_asks p (alternatives g) h))

    any_asks : (p : Point) (ess : List Entries) → IsFreeInChoice ds p ess → ChoiceAsks ess p
    any_asks p ess (F.of_this {es = es} h) = (es, inl refl, chosen_asks p es h)
    any_asks p ess (F.of_later {ess = fss} h) = let s = any_asks p fss h in (s.0, inr s.1, s.2)

    chosen_asks : (p : Point) (es : Entries) → IsFreeInChosen ds p es → AsksOn ds (chosen_entries es) (a_point p)
    chosen_asks p es (F.of_last {e = x} h) = A.onwards A.chosen_last (chosen_entry_asks p x h)
    chosen_asks p es (F.of_earlier {es = fs} h) = A.onwards A.chosen_earlier (chosen_asks p fs h)

    chosen_entry_asks : (p : Point) (x : Entry) → IsFreeInChosenEntry ds p x → AsksOn ds (chosen_entry x) (a_point p)
    chosen_entry_asks p x (F.of_type {t = u} e h) = A.onwards (A.chosen_type e) (free_asks p u h)
    chosen_entry_asks p x (F.of_name {r = r} e h) = point_is p (at_chosen_name r) (chosen_entry x) h (A.chosen_name e)
    chosen_entry_asks p x (F.of_opened {r = r} e h) = point_is p (at_opened_choice r) (chosen_entry x) h (A.chosen_opened e)
    chosen_entry_asks p x (F.of_keyed {t = u} h) = A.onwards A.chosen_keyed (free_asks p u h)
    chosen_entry_asks p x (F.of_group {g = g} h) = A.onwards A.chosen_inner (choice_asks g p (any_asks p (alternatives g) h))

  -- a group with these alternatives, of which there is one
  group_of : (us ess : List Entries) (es : Entries) → us ≡ ess → In ess es → (g : Group) × (alternatives g ≡ us)
  group_of us [] es e i = absurd i
  group_of us (fs ∷ ess) es e i = let g = group_with fs ess in (g.0, g.1 ∙ sym e)

  point_asks : (p q : Point) → IsFreeInMeaning ds q p → AsksOn ds (a_point p) (a_point q)
  point_asks p q (F.by_type {t = t} e c h) = A.onwards (A.means_type e c) (free_asks q t h)
  point_asks p q (F.by_group {r = r} e h) =
      let s = some_asks q (group_choices ds r) h in
      let g = group_of (group_choices ds r) (group_choices ds r) s.0 refl s.1 in
      A.onwards (A.means_group e g.1) (group_asks g.0 q (subst (λ us. SomeAsks us q) (sym g.1) s))
  point_asks p q (F.by_opened_group {g = g} e h) = A.onwards (A.opens_a_group e) (group_asks g q (some_asks q (alternatives g) h))
  point_asks p q (F.by_content {t = t} e h) = A.onwards (A.opens_content e) (free_asks q t h)
  point_asks p q (F.by_choice {r = r} h) = point_is q (at_chosen_name r) (a_point p) h A.chooses_by_name
  point_asks p q (F.by_chosen_name {r = r} c h) =
      let s = any_asks q (group_choices ds r) h in
      let g = group_of (group_choices ds r) (group_choices ds r) s.0 refl s.1 in
      A.onwards (A.chooses g.1 (subst (λ us. can_choose ds us ≡ true) (sym g.1) c)) (choice_asks g.0 q (subst (λ us. ChoiceAsks us q) (sym g.1) s))
  point_asks p q (F.by_opened_choice {g = g} e c h) = A.onwards (A.chooses_opened e c) (choice_asks g q (any_asks q (alternatives g) h))

  pub leads_on_asks : (p q : Point) → LeadsOn ds p q → AsksOn ds (a_point p) (a_point q)
  leads_on_asks p q (F.at_once h) = point_asks p q h
  leads_on_asks p q (F.onwards {q = s} h k) = and_then (a_point p) (a_point s) (a_point q) (point_asks p s h) (leads_on_asks s q k)

  -- What is asked over a way without another point is free.

  abbrev Free : Asked → Point → Type 0
  Free (a_type t) q = IsFree ds q t
  Free (a_group g) q = IsFreeInSome ds q (alternatives g)
  Free (some_entries es) q = IsFreeInEach ds q es
  Free (an_entry x) q = IsFreeInEntry ds q x
  Free (chosen_group g) q = IsFreeInChoice ds q (alternatives g)
  Free (chosen_entries es) q = IsFreeInChosen ds q es
  Free (chosen_entry x) q = IsFreeInChosenEntry ds q x
  Free (a_point p) q = q ≡ p

  abbrev Before : Asked → Point → Type 0
  Before (a_type t) q = Free (a_type t) q
  Before (a_group g) q = Free (a_group g) q
  Before (some_entries es) q = Free (some_entries es) q
  Before (an_entry x) q = Free (an_entry x) q
  Before (chosen_group g) q = Free (chosen_group g) q
  Before (chosen_entries es) q = Free (chosen_entries es) q
  Before (chosen_entry x) q = Free (chosen_entry x) q
  Before (a_point p) q = IsFreeInMeaning ds q p

  some_front : (q : Point) (xs ys : List Entries) → IsFreeInSome ds q xs → IsFreeInSome ds q (xs ++ ys)
  some_front q xs ys (F.in_this h) = F.in_this h
  some_front q xs ys (F.in_later {ess = zs} h) = F.in_later (some_front q zs ys h)

  some_back : (q : Point) (xs ys : List Entries) → IsFreeInSome ds q ys → IsFreeInSome ds q (xs ++ ys)
  some_back q [] ys h = h
  some_back q (x ∷ xs) ys h = F.in_later (some_back q xs ys h)

  choice_front : (q : Point) (xs ys : List Entries) → IsFreeInChoice ds q xs → IsFreeInChoice ds q (xs ++ ys)
  choice_front q xs ys (F.of_this h) = F.of_this h
  choice_front q xs ys (F.of_later {ess = zs} h) = F.of_later (choice_front q zs ys h)

  choice_back : (q : Point) (xs ys : List Entries) → IsFreeInChoice ds q ys → IsFreeInChoice ds q (xs ++ ys)
  choice_back q [] ys h = h
  choice_back q (x ∷ xs) ys h = F.of_later (choice_back q xs ys h)

  before : (a b : Asked) (q : Point) → Asks ds a b → Free b q → Before a q
  before a b q A.by_name f = F.name f
  before a b q A.by_unwrapping f = F.unwrapping f
  before a b q A.by_choice f = F.choice_by_name f
  before a b q A.in_parens f = F.in_parens f
  before a b q A.in_first f = F.in_first f
  before a b q A.in_second f = F.in_second f
  before a b q A.in_array f = F.in_array f
  before a b q A.in_choice f = F.in_choice f
  before a b q A.in_head f = F.in_head f
  before a b q A.in_left f = F.in_left f
  before a b q (A.in_controller h) f = F.in_controller h f
  before a b q A.sole_entries f = F.in_this f
  before a b q (A.other_alternatives {g = g} {es = es}) f = some_front q (alternatives g) (es ∷ []) f
  before a b q (A.last_alternative {g = g} {es = es}) f = some_back q (alternatives g) (es ∷ []) (F.in_this f)
  before a b q A.earlier_entries f = F.in_earlier f
  before a b q (A.last_entry m) f = F.in_last m f
  before a b q (A.group_name h) f = F.group_name h f
  before a b q (A.group_opened h) f = F.group_opened h f
  before a b q A.in_group f = F.in_group f
  before a b q A.chosen_sole f = F.of_this f
  before a b q (A.chosen_others {g = g} {es = es}) f = choice_front q (alternatives g) (es ∷ []) f
  before a b q (A.chosen_alternative {g = g} {es = es}) f = choice_back q (alternatives g) (es ∷ []) (F.of_this f)
  before a b q A.chosen_earlier f = F.of_earlier f
  before a b q A.chosen_last f = F.of_last f
  before a b q (A.chosen_type h) f = F.of_type h f
  before a b q (A.chosen_name h) f = F.of_name h f
  before a b q (A.chosen_opened h) f = F.of_opened h f
  before a b q A.chosen_keyed f = F.of_keyed f
  before a b q A.chosen_inner f = F.of_group f
  before a b q (A.means_type e c) f = F.by_type e c f
  before a b q (A.means_group e h) f = F.by_group e (subst (IsFreeInSome ds q) h f)
  before a b q (A.opens_a_group e) f = F.by_opened_group e f
  before a b q (A.opens_content e) f = F.by_content e f
  before a b q A.chooses_by_name f = F.by_choice f
  before a b q (A.chooses h c) f = F.by_chosen_name (subst (λ us. can_choose ds us ≡ true) h c) (subst (IsFreeInChoice ds q) h f)
  before a b q (A.chooses_opened e c) f = F.by_opened_choice e c f

  record Onward (a : Asked) (q : Point) : Type 0 where
    via : Point
    free : Free a via
    on : (via ≡ q) ⊎ LeadsOn ds via q

  abbrev Result : Asked → Point → Type 0
  Result (a_type t) q = Onward (a_type t) q
  Result (a_group g) q = Onward (a_group g) q
  Result (some_entries es) q = Onward (some_entries es) q
  Result (an_entry x) q = Onward (an_entry x) q
  Result (chosen_group g) q = Onward (chosen_group g) q
  Result (chosen_entries es) q = Onward (chosen_entries es) q
  Result (chosen_entry x) q = Onward (chosen_entry x) q
  Result (a_point p) q = LeadsOn ds p q

  ends : (p s q : Point) → IsFreeInMeaning ds s p → (s ≡ q) ⊎ LeadsOn ds s q → LeadsOn ds p q
  ends p s q h (inl e) = subst (λ x. LeadsOn ds p x) e (F.at_once h)
  ends p s q h (inr l) = F.onwards h l

  finish : (a : Asked) (s q : Point) → Before a s → (s ≡ q) ⊎ LeadsOn ds s q → Result a q
  finish (a_type t) s q h o = record { via = s; free = h; on = o }
  finish (a_group g) s q h o = record { via = s; free = h; on = o }
  finish (some_entries es) s q h o = record { via = s; free = h; on = o }
  finish (an_entry x) s q h o = record { via = s; free = h; on = o }
  finish (chosen_group g) s q h o = record { via = s; free = h; on = o }
  finish (chosen_entries es) s q h o = record { via = s; free = h; on = o }
  finish (chosen_entry x) s q h o = record { via = s; free = h; on = o }
  finish (a_point p) s q h o = ends p s q h o

  tail : (a : Asked) (q : Point) → Result a q → Onward a q
  tail (a_type t) q r = r
  tail (a_group g) q r = r
  tail (some_entries es) q r = r
  tail (an_entry x) q r = r
  tail (chosen_group g) q r = r
  tail (chosen_entries es) q r = r
  tail (chosen_entry x) q r = r
  tail (a_point p) q r = record { via = p; free = refl; on = inr r }

  front : (a b : Asked) (q : Point) → Asks ds a b → Onward b q → Result a q
  front a b q s o = finish a o.via q (before a b o.via s o.free) o.on

  onward : (a b : Asked) (q : Point) → AsksOn ds a b → b ≡ a_point q → Result a q
  onward a b q (A.at_once s) e = front a b q s (record { via = q; free = subst (λ x. Free x q) (sym e) refl; on = inl refl })
  onward a b q (A.onwards {b = c} s w) e = front a c q s (tail c q (onward c b q w e))

  pub asks_leads_on : (p q : Point) → AsksOn ds (a_point p) (a_point q) → LeadsOn ds p q
  asks_leads_on p q w = onward (a_point p) (a_point q) q w refl
