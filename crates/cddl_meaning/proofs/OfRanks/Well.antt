-- A group that takes nothing is one that may; and a type that refers to itself says nothing.
use Rattle.std.proofs.Common.{◌≡◌, ◌≢◌, ℕ, zero, suc, ◌-◌, ◌<◌, inl, inr, length, List, ◌∷◌, refl, ap, ◌∙◌, arith}
use Rattle.cbor_data.specs.Value.{Value}
use Rattle.cddl_meaning.specs.Forms.{Node, Ref, Group, Entry, GroupRef, Sequence, Alternatives, Repeat, Most, Language}
use Rattle.cddl_meaning.specs.Judges.{Answer, Says, ref, Reply, Takes, one_less, Does, missing, matches, differs, group_ref, sequence, alternatives, repeat, DoesEach, all_done, one_fails, and_then, DoesFirst, all_fail, one_takes, or_else, Repeats, full, too_few, enough, empty_round, round}
use Rattle.cddl_meaning.specs.Ranks.Ranked.{MayBeEmpty, named, every_part, one_of_them, no_minimum, no_round, an_empty_round, AllMayBeEmpty, no_part, this_part, OneMayBeEmpty, this_one, another}
use Rattle.cddl_meaning.proofs.OfRanks.Takes.{IsBehind, TakesWell, takes_as, takes_more, takes_less, entry_takes}

-- what a reference names
abbrev named_or : {N G : Type 0} → N → Node N G → N
named_or n (Ref m) = m
named_or n _ = n

module _ {N G : Type 0} (l : Language N G) where
  abbrev Empty : G → Type 0
  Empty g = MayBeEmpty l (l.group_at g)

  stays : (least : ℕ) (most : Most) (g : G) (xs left : List Value) (b far : ℕ) → length left ≡ length xs → IsBehind (Empty g) left xs → TakesWell (MayBeEmpty l (Repeat least most g)) xs (Takes xs b far)
  stays least most g xs left b far n (inl i) = inl (an_empty_round i.0, refl)
  stays least most g xs left b far n (inr i) = absurd (omega (arith, n, i.1))

  goes_on : (least : ℕ) (most : Most) (g : G) (xs left : List Value) (r : Reply) → length left ≢ length xs → IsBehind (Empty g) left xs → TakesWell (MayBeEmpty l (Repeat (least - 1) (one_less most) g)) left r → TakesWell (MayBeEmpty l (Repeat least most g)) xs r
  goes_on least most g xs left r n (inl i) h = absurd (n (ap (λ zs. length zs) i.1))
  goes_on least most g xs left r n (inr i) h = takes_less (MayBeEmpty l (Repeat least most g)) (MayBeEmpty l (Repeat (least - 1) (one_less most) g)) xs left r i h

  mutual
    pub does_well : {f : Group N G} {p q w : ℕ} {xs : List Value} {r : Reply} → Does l f p q xs r w → TakesWell (MayBeEmpty l f) xs r
    does_well missing = tt
    does_well (matches {m = m} {p = p} {q = q} {x = x} {xs = xs} d) = entry_takes (MayBeEmpty l (Entry m)) x xs q p
    does_well (differs d) = tt
    does_well (group_ref {g = g} {xs = xs} {r = r} d) = takes_as (Empty g) (MayBeEmpty l (GroupRef g)) (λ e. named e) xs r (does_well d)
    does_well (sequence {gs = gs} {xs = xs} {r = r} d) = takes_as (AllMayBeEmpty l gs) (MayBeEmpty l (Sequence gs)) (λ e. every_part e) xs r (each_well d)
    does_well (alternatives {gs = gs} {xs = xs} {r = r} d) = takes_as (OneMayBeEmpty l gs) (MayBeEmpty l (Alternatives gs)) (λ e. one_of_them e) xs r (first_well d)
    does_well (repeat d) = rounds_well d

    each_well : {gs : List G} {p q far w : ℕ} {xs : List Value} {r : Reply} → DoesEach l gs p q xs far r w → TakesWell (AllMayBeEmpty l gs) xs r
    each_well all_done = inl (no_part, refl)
    each_well (one_fails d) = tt
    each_well (and_then {g = g} {gs = gs} {xs = xs} {left = left} {r = r} d e) = takes_as (Empty g × AllMayBeEmpty l gs) (AllMayBeEmpty l (g ∷ gs)) (λ e. this_part e.0 e.1) xs r (takes_more (Empty g) (AllMayBeEmpty l gs) xs left r (does_well d) (each_well e))

    first_well : {gs : List G} {p q far w : ℕ} {xs : List Value} {r : Reply} → DoesFirst l gs p q xs far r w → TakesWell (OneMayBeEmpty l gs) xs r
    first_well all_fail = tt
    first_well (one_takes {g = g} {next = b} {later = later} {gs = gs} {xs = xs} {left = left} d) = takes_as (Empty g) (OneMayBeEmpty l (g ∷ gs)) (λ e. this_one e) xs (Takes left b later) (does_well d)
    first_well (or_else {g = g} {gs = gs} {xs = xs} {r = r} d e) = takes_as (OneMayBeEmpty l gs) (OneMayBeEmpty l (g ∷ gs)) (λ e. another e) xs r (first_well e)

    rounds_well : {least : ℕ} {most : Most} {g : G} {p q far w : ℕ} {xs : List Value} {r : Reply} → Repeats l least most g p q xs far r w → TakesWell (MayBeEmpty l (Repeat least most g)) xs r
    rounds_well (full i) = inl (no_round i, refl)
    rounds_well (too_few i d) = tt
    rounds_well (enough i d) = inl (no_minimum, refl)
    rounds_well (empty_round {least = least} {most = most} {g = g} {q = q} {far = far} {xs = xs} {left = left} i d n) = stays least most g xs left q far n (does_well d)
    rounds_well (round {least = least} {most = most} {g = g} {xs = xs} {left = left} {r = r} i d n e) = goes_on least most g xs left r n (does_well d) (rounds_well e)

  nothing : {E : Type 0} {xs left : List Value} → length left ≡ length xs → IsBehind E left xs → E
  nothing n (inl i) = i.0
  nothing n (inr i) = absurd (omega (arith, n, i.1))

  pub takes_nothing : {f : Group N G} {p q b far w : ℕ} {xs left : List Value} → Does l f p q xs (Takes left b far) w → length left ≡ length xs → MayBeEmpty l f
  takes_nothing {f = f} {xs = xs} {left = left} d n = nothing {E = MayBeEmpty l f} {xs = xs} {left = left} n (does_well d)

  -- by the weight, which goes down for ever
  turns : (n : N) → l.type_at n ≡ Ref n → (k : ℕ) {f : Node N G} {p : ℕ} {x : Value} {w : ℕ} {a : Answer} → w < k → f ≡ Ref n → Says l f p x a w → ⊥
  turns n e zero h i d = absurd (omega (arith, h))
  turns n e (suc k) h i (ref {m = m} d) = let j : m ≡ n = ap (named_or n) i in turns n e k (omega (arith, h)) (ap l.type_at j ∙ e) d
  turns n e (suc k) h i _ = cc

  pub says_nothing : (n : N) → l.type_at n ≡ Ref n → {p w : ℕ} {x : Value} {a : Answer} → Says l (l.type_at n) p x a w → ⊥
  says_nothing n e {w = w} d = turns n e (suc w) (omega arith) e d
