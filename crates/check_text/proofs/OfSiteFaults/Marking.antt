-- Marks that are added, one rule after the other.
use Rattle.std.proofs.Common.{◌≡◌, ℕ, zero, suc, ◌+◌, ◌<◌, nat_eq, Bool, true, false, ◌&&◌, ◌||◌, List, [], ◌∷◌, slice_get, refl, sym, ap, subst, ◌∙◌, arith}
use Rattle.lists.proofs.Lemmas.{test_equal as equal, unequal_number as unequal}
use Rattle.check_terms.specs.declared.definition.Definition.{Definition}
use Rattle.check_text.specs.declared.site_faults.marks.Mark.{Mark}
use Rattle.check_text.specs.SiteFaults.Marks.{AddsMark, AddsMarks, has_mark, is_among, is_parameter_of}

-- whether the rule r has the parameter k, where the list begins at this place
abbrev pub has_parameter : ℕ → List Definition → ℕ → ℕ → Bool
has_parameter i [] r k = false
has_parameter i (d ∷ ds) r k = (nat_eq r i && is_among k d.parameters.items) || has_parameter (i + 1) ds r k

join : (a e b x : Bool) → ((a || (e && b)) || (e && x)) ≡ (a || (e && (b || x)))
join true e b x = refl
join false true b x = refl
join false false b x = refl

none_more : (a e : Bool) → (a || (e && false)) ≡ a
none_more true e = refl
none_more false true = refl
none_more false false = refl

pub next_mark : (old new : List Mark) (rule p : ℕ) (ps rest : List ℕ) (first : List Mark) → rest ≡ p ∷ ps → AddsMark rule p old new → (all : List ℕ) → ((r k : ℕ) → (has_mark old r k || (nat_eq r rule && is_among k rest)) ≡ (has_mark first r k || (nat_eq r rule && is_among k all))) → (r k : ℕ) → (has_mark new r k || (nat_eq r rule && is_among k ps)) ≡ (has_mark first r k || (nat_eq r rule && is_among k all))
next_mark old new rule p ps rest first e adds all inv r k = ap (λ (b : Bool). b || (nat_eq r rule && is_among k ps)) (adds r k) ∙ join (has_mark old r k) (nat_eq r rule) (nat_eq k p) (is_among k ps) ∙ subst (λ (xs : List ℕ). (has_mark old r k || (nat_eq r rule && is_among k xs)) ≡ (has_mark first r k || (nat_eq r rule && is_among k all))) e (inv r k)

pub all_marked : (new first : List Mark) (rule : ℕ) (rest all : List ℕ) → rest ≡ [] → ((r k : ℕ) → (has_mark new r k || (nat_eq r rule && is_among k rest)) ≡ (has_mark first r k || (nat_eq r rule && is_among k all))) → AddsMarks rule all first new
all_marked new first rule rest all e inv r k = sym (none_more (has_mark new r k) (nat_eq r rule)) ∙ subst (λ (xs : List ℕ). (has_mark new r k || (nat_eq r rule && is_among k xs)) ≡ (has_mark first r k || (nat_eq r rule && is_among k all))) e (inv r k)

or_assoc : (a b c : Bool) → ((a || b) || c) ≡ (a || (b || c))
or_assoc true b c = refl
or_assoc false b c = refl

or_none : (a : Bool) → (a || false) ≡ a
or_none true = refl
or_none false = refl

pub next_rule : (old new : List Mark) (i : ℕ) (d : Definition) (rest ds : List Definition) (o : ℕ → ℕ → Bool) → rest ≡ d ∷ ds → AddsMarks i d.parameters.items old new → ((r k : ℕ) → (has_mark old r k || has_parameter i rest r k) ≡ o r k) → (r k : ℕ) → (has_mark new r k || has_parameter (i + 1) ds r k) ≡ o r k
next_rule old new i d rest ds o e adds inv r k = ap (λ (b : Bool). b || has_parameter (i + 1) ds r k) (adds r k) ∙ or_assoc (has_mark old r k) _ _ ∙ subst (λ (xs : List Definition). (has_mark old r k || has_parameter i xs r k) ≡ o r k) e (inv r k)

pub all_rules : (new : List Mark) (i : ℕ) (rest : List Definition) (o : ℕ → ℕ → Bool) → rest ≡ [] → ((r k : ℕ) → (has_mark new r k || has_parameter i rest r k) ≡ o r k) → (r k : ℕ) → has_mark new r k ≡ o r k
all_rules new i rest o e inv r k = sym (or_none (has_mark new r k)) ∙ subst (λ (xs : List Definition). (has_mark new r k || has_parameter i xs r k) ≡ o r k) e (inv r k)

before : (i : ℕ) (ds : List Definition) (r k : ℕ) → r < i → has_parameter i ds r k ≡ false
before i [] r k l = refl
before i (d ∷ ds) r k l = subst (λ (b : Bool). ((b && is_among k d.parameters.items) || has_parameter (i + 1) ds r k) ≡ false) (sym (unequal r i (λ e. omega (arith, e, l)))) (before (i + 1) ds r k (omega (arith, l)))

at_place : (i : ℕ) (ds : List Definition) (j r k : ℕ) → r ≡ i + j → has_parameter i ds r k ≡ is_parameter_of (slice_get ds j) k
at_place i [] j r k e = cc
at_place i (d ∷ ds) zero r k e = subst (λ (b : Bool). ((b && is_among k d.parameters.items) || has_parameter (i + 1) ds r k) ≡ is_among k d.parameters.items) (sym (equal r i (omega (arith, e)))) (ap (λ (b : Bool). is_among k d.parameters.items || b) (before (i + 1) ds r k (omega (arith, e))) ∙ or_none _)
at_place i (d ∷ ds) (suc j) r k e = subst (λ (b : Bool). ((b && is_among k d.parameters.items) || has_parameter (i + 1) ds r k) ≡ is_parameter_of (slice_get ds j) k) (sym (unequal r i (λ f. omega (arith, e, f)))) (at_place (i + 1) ds j r k (omega (arith, e)))

pub at_rule : (ds : List Definition) (r k : ℕ) → has_parameter 0 ds r k ≡ is_parameter_of (slice_get ds r) k
at_rule ds r k = at_place 0 ds r r k (omega arith)
