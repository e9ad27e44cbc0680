-- The fates of a map's pairs count alike in whatever order.
use Rattle.std.proofs.Common.{◌≡◌, ℕ, suc, length, List, [], ◌∷◌, Option, Some, None, Bool, true, false, cond, nat_eq, nat_le, refl, ap, ap₂, ◌∙◌}
use Rattle.std.specs.Prelude.{◌&&◌}
use Rattle.cddl_meaning.specs.Forms.{MapEntry}
use Rattle.cddl_meaning.specs.Judges.{Answer, Yes, No, Fate, BelongsTo, Stray, count_of, is_up_to_most, are_enough, first_stray, first_failing, by_counts, shown_by, alternative_says, either}

-- both are yes, or both no
pub data AlikeAnswers : Answer → Answer → Type 0 where
  both_yes : AlikeAnswers Yes Yes
  both_no : {p q : ℕ} → AlikeAnswers (No p) (No q)

-- both belong to the same entry, with answers alike, or both to none
pub data AlikeFates : Fate → Fate → Type 0 where
  both_stray : {p q : ℕ} → AlikeFates (Stray p) (Stray q)
  both_belong : {n : ℕ} {a b : Answer} → AlikeAnswers a b → AlikeFates (BelongsTo n a) (BelongsTo n b)

alike_answer : (a : Answer) → AlikeAnswers a a
alike_answer Yes = both_yes
alike_answer (No far) = both_no

pub alike_fate : (f : Fate) → AlikeFates f f
alike_fate (BelongsTo n a) = both_belong (alike_answer a)
alike_fate (Stray p) = both_stray

abbrev pub is_none : Option ℕ → Bool
is_none None = true
is_none (Some n) = false

-- as many belong to each entry, and in both or in neither a key is stray, and a value fails
pub record SameTally (fs gs : List Fate) : Type 0 where
  pub counts : (n : ℕ) → count_of n fs ≡ count_of n gs
  pub stray : is_none (first_stray fs) ≡ is_none (first_stray gs)
  pub failing : is_none (first_failing fs) ≡ is_none (first_failing gs)

pub tally_itself : (fs : List Fate) → SameTally fs fs
tally_itself fs = record { counts = λ n. refl; stray = refl; failing = refl }

pub tally_on : {fs gs hs : List Fate} → SameTally fs gs → SameTally gs hs → SameTally fs hs
tally_on s t = record { counts = λ n. s.counts n ∙ t.counts n; stray = s.stray ∙ t.stray; failing = s.failing ∙ t.failing }

pub tally_more : {f g : Fate} {fs gs : List Fate} → AlikeFates f g → SameTally fs gs → SameTally (f ∷ fs) (g ∷ gs)
tally_more both_stray t = record { counts = t.counts; stray = refl; failing = t.failing }
tally_more (both_belong {n = m} both_yes) t = record { counts = λ n. ap (λ c. cond (nat_eq m n) (suc c) c) (t.counts n); stray = t.stray; failing = t.failing }
tally_more (both_belong {n = m} both_no) t = record { counts = λ n. ap (λ c. cond (nat_eq m n) (suc c) c) (t.counts n); stray = t.stray; failing = refl }

swapped : (b c : Bool) (n : ℕ) → cond b (suc (cond c (suc n) n)) (cond c (suc n) n) ≡ cond c (suc (cond b (suc n) n)) (cond b (suc n) n)
swapped true true n = refl
swapped true false n = refl
swapped false true n = refl
swapped false false n = refl

counts_swapped : (n : ℕ) (f g : Fate) (fs : List Fate) → count_of n (f ∷ g ∷ fs) ≡ count_of n (g ∷ f ∷ fs)
counts_swapped n (Stray p) (Stray q) fs = refl
counts_swapped n (Stray p) (BelongsTo m a) fs = refl
counts_swapped n (BelongsTo m a) (Stray p) fs = refl
counts_swapped n (BelongsTo m a) (BelongsTo o b) fs = swapped (nat_eq m n) (nat_eq o n) (count_of n fs)

stray_swapped : (f g : Fate) (fs : List Fate) → is_none (first_stray (f ∷ g ∷ fs)) ≡ is_none (first_stray (g ∷ f ∷ fs))
stray_swapped (Stray p) (Stray q) fs = refl
stray_swapped (Stray p) (BelongsTo m a) fs = refl
stray_swapped (BelongsTo m a) (Stray p) fs = refl
stray_swapped (BelongsTo m a) (BelongsTo o b) fs = refl

failing_swapped : (f g : Fate) (fs : List Fate) → is_none (first_failing (f ∷ g ∷ fs)) ≡ is_none (first_failing (g ∷ f ∷ fs))
failing_swapped (Stray p) (Stray q) fs = refl
failing_swapped (Stray p) (BelongsTo m Yes) fs = refl
failing_swapped (Stray p) (BelongsTo m (No a)) fs = refl
failing_swapped (BelongsTo m Yes) (Stray p) fs = refl
failing_swapped (BelongsTo m (No a)) (Stray p) fs = refl
failing_swapped (BelongsTo m Yes) (BelongsTo o Yes) fs = refl
failing_swapped (BelongsTo m Yes) (BelongsTo o (No b)) fs = refl
failing_swapped (BelongsTo m (No a)) (BelongsTo o Yes) fs = refl
failing_swapped (BelongsTo m (No a)) (BelongsTo o (No b)) fs = refl

pub tally_swapped : (f g : Fate) (fs : List Fate) → SameTally (f ∷ g ∷ fs) (g ∷ f ∷ fs)
tally_swapped f g fs = record { counts = λ n. counts_swapped n f g fs; stray = stray_swapped f g fs; failing = failing_swapped f g fs }

enough_alike : {N : Type 0} (es : List (MapEntry N)) {fs gs : List Fate} → SameTally fs gs → are_enough es fs ≡ are_enough es gs
enough_alike [] t = refl
enough_alike (e ∷ es) t = ap₂ (λ c r. (nat_le e.least c && is_up_to_most c e.most) && r) (t.counts (length es)) (enough_alike es t)

shown_alike : (o u : Option ℕ) {a b : Answer} → is_none o ≡ is_none u → AlikeAnswers a b → AlikeAnswers (shown_by o a) (shown_by u b)
shown_alike None None e h = h
shown_alike (Some p) (Some q) e h = both_no
shown_alike None (Some q) e h = absurd (cc)
shown_alike (Some p) None e h = absurd (cc)

counts_alike : (p q : ℕ) (b c : Bool) → b ≡ c → AlikeAnswers (by_counts p b) (by_counts q c)
counts_alike p q true true e = both_yes
counts_alike p q false false e = both_no
counts_alike p q true false e = absurd (cc)
counts_alike p q false true e = absurd (cc)

pub alternative_alike : {N : Type 0} (es : List (MapEntry N)) (p q : ℕ) (fs gs : List Fate) → SameTally fs gs → AlikeAnswers (alternative_says es p fs) (alternative_says es q gs)
alternative_alike es p q fs gs t = shown_alike (first_stray fs) (first_stray gs) t.stray (shown_alike (first_failing fs) (first_failing gs) t.failing (counts_alike p q (are_enough es fs) (are_enough es gs) (enough_alike es t)))

pub either_alike : {a b c d : Answer} → AlikeAnswers a b → AlikeAnswers c d → AlikeAnswers (either a c) (either b d)
either_alike both_yes t = both_yes
either_alike both_no both_yes = both_yes
either_alike both_no both_no = both_no
