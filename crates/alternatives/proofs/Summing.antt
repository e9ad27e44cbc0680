-- What each way to make a summary of others says of the alternatives.
use Rattle.std.proofs.Common.{◌≡◌, ℕ, zero, suc, ◌+◌, ◌*◌, List, [], ◌∷◌, ◌++◌, map, length, Bool, true, false, not, ◌&&◌, ◌||◌, if◌then◌else◌, Option, Some, None, refl, sym, ap, ◌∙◌, nat_eq, nat_lt, arith}
use Rattle.std.specs.List.{list_all}
use Rattle.std.proofs.lemmas.Bool.Decides.{nat_tests}
use Rattle.lists.proofs.Lemmas.{none_more as append_nothing}
use Rattle.alternatives.specs.declared.Bounds.{Bounds}
use Rattle.alternatives.specs.declared.Member.{Member}
use Rattle.alternatives.specs.declared.summary.Sorts.{Sorts}
use Rattle.alternatives.specs.declared.summary.Summary.{Summary}
use Rattle.alternatives.specs.Splices.{Alternatives, members, ways, is_optional, is_needed, is_open, from, each_needed, occurring, entry_of}
use Rattle.alternatives.specs.Sorts.{empty, optional, needed, other, sort, only, joined, sorts_of, any_closed}
use Rattle.alternatives.specs.Summaries.{capped, Describes}
use Rattle.alternatives.specs.Search.{beside_sorts, single_sort, entry_summary, empty_summary, no_summary, both_summary, either_summary, occurring_summary}
use Rattle.alternatives.proofs.SortSets.{beside, sort_append, sorts_append, sorts_ways, same_joined}
use Rattle.alternatives.proofs.Marks.{closed_append, closed_both, closed_ways, closed_from, by_minimum, only_one, not_none, not_one, all_repeat, all_needed}
use Rattle.alternatives.proofs.Counts.{cap_sum, cap_product, some_is, length_ways, members_both, members_ways, length_from, length_needed, members_needed}

same_two : {A B : Type 0} {a b c d : A} (f : A → A → B) → a ≡ c → b ≡ d → f a b ≡ f c d
same_two f p q = cc

length_both : (mss nss : Alternatives) → length (mss ++ nss) ≡ length mss + length nss
length_both [] nss = omega arith
length_both (ms ∷ mss) nss = let h = length_both mss nss in omega (arith, h)

sort_one : (n : ℕ) → by_minimum (nat_eq n 0) (nat_eq n 1) ≡ single_sort n
sort_one zero = refl
sort_one (suc zero) = refl
sort_one (suc (suc n)) = above _ _ (not_none n) (not_one n)
  where
    above : (a b : Bool) → a ≡ false → b ≡ false → by_minimum a b ≡ other
    above a b p q = rw (p, q)

or_false : (b : Bool) → b ≡ b || false
or_false true = refl
or_false false = refl

pub of_entry : (n : ℕ) (b : Bounds) → Describes (entry_of n b) (entry_summary b)
of_entry n b = record {
  alternatives = refl;
  closed = or_false (not (is_open b.most));
  sorts = sym (only_one (by_minimum (nat_eq b.least 0) (nat_eq b.least 1)) ∙ ap only (sort_one b.least));
  members = refl;
}

pub of_empty : Describes ([] ∷ []) empty_summary
of_empty = record { alternatives = refl; closed = refl; sorts = refl; members = refl }

pub of_nothing : Describes [] no_summary
of_nothing = record { alternatives = refl; closed = refl; sorts = refl; members = refl }

products : (a b c d : ℕ) → a ≡ capped c → b ≡ capped d → capped (a * b) ≡ capped (c * d)
products a b c d p q = same_two (λ m n. capped (m * n)) p q ∙ cap_product c d

sums : (a b c d : ℕ) → a ≡ capped c → b ≡ capped d → capped (a + b) ≡ capped (c + d)
sums a b c d p q = same_two (λ m n. capped (m + n)) p q ∙ cap_sum c d

pub of_both : (mss nss : Alternatives) (s t : Summary) → Describes mss s → Describes nss t → Describes (ways mss nss) (both_summary s t)
of_both mss nss s t d e = record {
  alternatives = products _ _ _ _ d.alternatives e.alternatives ∙ ap capped (sym (length_ways mss nss));
  closed = either_closed _ _ _ _ d.closed (ap (nat_lt 0) e.alternatives ∙ some_is nss) (ap (nat_lt 0) d.alternatives ∙ some_is mss) e.closed ∙ sym (closed_ways mss nss);
  sorts = same_two beside_sorts d.sorts e.sorts ∙ sym (sorts_ways mss nss);
  members = sums _ _ _ _ (products _ _ _ _ d.members e.alternatives) (products _ _ _ _ d.alternatives e.members) ∙ ap capped (sym (members_ways mss nss));
}
  where
    either_closed : {a b c f : Bool} (v w x y : Bool) → a ≡ v → b ≡ w → c ≡ x → f ≡ y → ((a && b) || (c && f)) ≡ ((v && w) || (x && y))
    either_closed v w x y p q r o = cc

pub of_either : (mss nss : Alternatives) (s t : Summary) → Describes mss s → Describes nss t → Describes (mss ++ nss) (either_summary s t)
of_either mss nss s t d e = record {
  alternatives = sums _ _ _ _ d.alternatives e.alternatives ∙ ap capped (sym (length_both mss nss));
  closed = same_two (λ a b. a || b) d.closed e.closed ∙ sym (closed_both mss nss);
  sorts = same_joined d.sorts e.sorts ∙ sym (sorts_append mss nss);
  members = sums _ _ _ _ d.members e.members ∙ ap capped (sym (members_both mss nss));
}

-- with `*`

all_optional : (ms : List Member) → list_all is_optional (map (from 0) ms) ≡ true
all_optional [] = refl
all_optional (m ∷ ms) = all_optional ms

not_zero : (n : ℕ) → nat_eq (capped (suc n)) 0 ≡ false
not_zero n = grind (arith, nat_tests)

sort_repeated : (ms : List Member) → (if nat_eq (capped (length ms)) 0 then empty else optional) ≡ sort (map (from 0) ms)
sort_repeated [] = refl
sort_repeated (m ∷ ms) = ap (λ b. if b then empty else optional) (not_zero (length ms)) ∙ ap (λ b. if b then optional else (if is_needed (from 0 m ∷ map (from 0) ms) then needed else other)) (sym (all_optional ms))

of_repeated : (mss : Alternatives) (s : Summary) → Describes mss s → Describes (map (from 0) (members mss) ∷ []) (record { alternatives = 1; members = s.members; closed = false; sorts = only (if nat_eq s.members 0 then empty else optional) })
of_repeated mss s d = record {
  alternatives = refl;
  closed = sym (ap any_closed (append_nothing (map (from 0) (members mss))) ∙ closed_from 0 (members mss));
  sorts = ap (λ n. only (if nat_eq n 0 then empty else optional)) d.members ∙ (ap only (sort_repeated (members mss)) ∙ sym (only_one (sort (map (from 0) (members mss)))));
  members = d.members ∙ ap capped (sym (ap length (append_nothing (map (from 0) (members mss))) ∙ length_from 0 (members mss)));
}

-- with `+`

neither : (a b : Bool) → a ≡ false → b ≡ false → a || b ≡ false
neither a b p q = rw (p, q)

closed_needed : (before ms : List Member) → any_closed before ≡ false → any_closed (members (each_needed before ms)) ≡ false
closed_needed before [] h = refl
closed_needed before (m ∷ ms) h =
    closed_append (before ++ from 1 m ∷ map (from 0) ms) (members (each_needed (before ++ from 0 m ∷ []) ms))
    ∙ neither _ _ (closed_append before (from 1 m ∷ map (from 0) ms) ∙ neither _ _ h (closed_from 0 ms)) (closed_needed (before ++ from 0 m ∷ []) ms (closed_append before (from 0 m ∷ []) ∙ neither _ _ h refl))

behind_some : (a b c : Bool) → beside (if a then optional else (if b then needed else other)) (if c then needed else other) ≡ other
behind_some true b true = refl
behind_some true b false = refl
behind_some false true true = refl
behind_some false true false = refl
behind_some false false c = refl

sort_needed : (b : Member) (bs : List Member) (m : Member) (ms : List Member) → sort ((b ∷ bs) ++ from 1 m ∷ ms) ≡ other
sort_needed b bs m ms = sort_append (b ∷ bs) (from 1 m ∷ ms) ∙ behind_some (list_all is_optional (b ∷ bs)) (is_needed (b ∷ bs)) (is_needed (from 1 m ∷ ms))

only_others : (b : Member) (bs ms : List Member) → joined (only other) (sorts_of (each_needed (b ∷ bs) ms)) ≡ only other
only_others b bs [] = refl
only_others b bs (m ∷ ms) = ap (λ k. joined (only other) (joined (only k) (sorts_of (each_needed ((b ∷ bs) ++ from 0 m ∷ []) ms)))) (sort_needed b bs m (map (from 0) ms)) ∙ only_others b (bs ++ from 0 m ∷ []) ms

more_than_one : (n : ℕ) → nat_eq (capped (suc (suc n))) 1 ≡ false
more_than_one n = grind (arith, nat_tests)

above_one : (n : ℕ) → nat_lt 1 (capped (suc (suc n))) ≡ true
above_one n = grind (arith, nat_tests)

abbrev needed_sorts : ℕ → Sorts
needed_sorts n = record { empty = false; optional = false; needed = nat_eq n 1; other = nat_lt 1 n }

sorts_needed : (ms : List Member) → needed_sorts (capped (length ms)) ≡ sorts_of (each_needed [] ms)
sorts_needed [] = refl
sorts_needed (m ∷ []) = refl
sorts_needed (m ∷ n ∷ ms) =
    same_two (λ (a b : Bool). record { empty = false; optional = false; needed = a; other = b }) (more_than_one (length ms)) (above_one (length ms))
    ∙ sym (only_others (from 0 m) [] (n ∷ ms))

of_needed : (mss : Alternatives) (s : Summary) → Describes mss s → Describes (each_needed [] (members mss)) (record { alternatives = s.members; members = capped (s.members * s.members); closed = false; sorts = needed_sorts s.members })
of_needed mss s d = record {
  alternatives = d.members ∙ ap capped (sym (length_needed [] (members mss)));
  closed = sym (closed_needed [] (members mss) refl);
  sorts = ap needed_sorts d.members ∙ sorts_needed (members mss);
  members = products _ _ _ _ d.members d.members ∙ ap capped (sym (members_needed [] (members mss) ∙ again (length (members mss))));
}
  where
    again : (n : ℕ) → n * (0 + n) ≡ n * n
    again n = omega arith

-- with any occurrence

abbrev pub Agree : Option Alternatives → Option Summary → Type 0
Agree (Some mss) (Some s) = Describes mss s
Agree None None = Unit {0}
Agree (Some mss) None = ⊥
Agree None (Some s) = ⊥

if_agree : (a c : Bool) (mss : Alternatives) (s : Summary) → a ≡ not c → Describes mss s → Agree (if a then Some mss else None) (if c then None else Some s)
if_agree true false mss s e d = d
if_agree false true mss s e d = tt
if_agree true true mss s e d = absurd cc
if_agree false false mss s e d = absurd cc

pub of_occurring : (least : ℕ) (most : Option ℕ) (mss : Alternatives) (s : Summary) → Describes mss s → Agree (occurring least most mss) (occurring_summary least most s)
of_occurring (suc zero) (Some (suc zero)) mss s d = d
of_occurring zero (Some (suc zero)) mss s d = of_either mss ([] ∷ []) s empty_summary d of_empty
of_occurring zero None mss s d = if_agree _ _ _ _ (all_repeat mss ∙ ap not (same_two (λ a b. a || b) (sym d.closed) (ap (λ (t : Sorts). t.other) (sym d.sorts)))) (of_repeated mss s d)
of_occurring (suc zero) None mss s d = if_agree _ _ _ _ (all_needed mss ∙ ap (λ (t : Sorts). not (t.empty || (t.optional || t.other))) (sym d.sorts)) (of_needed mss s d)
of_occurring zero (Some zero) mss s d = tt
of_occurring zero (Some (suc (suc n))) mss s d = tt
of_occurring (suc zero) (Some zero) mss s d = tt
of_occurring (suc zero) (Some (suc (suc n))) mss s d = tt
of_occurring (suc (suc n)) most mss s d = tt
