-- A name with definitions is one of as many names as there are definitions.
use Rattle.std.proofs.Common.{◌≡◌, ◌+◌, inl, inr, Bool, true, false, if◌then◌else◌, List, [], ◌∷◌, ◌++◌, map, length, refl, sym, arith}
use Rattle.std.specs.Cmp.Lexicographic.{same_text}
use Rattle.lists.proofs.Lemmas.{IsIn, in_left, in_right}
use Rattle.cddl_language.specs.Environment.{counting, definitions_of, has_equals, is_same, most_names, named_so}
use Rattle.cddl_language.specs.Prelude.{prelude}
use Rattle.cddl_language.specs.Terms.{Definition, Text}

abbrev pub names : List Definition → List Text
names ds = map (λ (d : Definition). d.name) ds

pub name_count : (ds : List Definition) → length (names ds) ≡ length ds
name_count [] = refl
name_count (d ∷ ds) = let h = name_count ds in omega (arith, h)

pub is_named : (n : Text) (ds : List Definition) (d : Definition) (es : List Definition) → named_so n ds ≡ d ∷ es → IsIn n (names ds)
is_named n [] d es e = cc
is_named n (x ∷ xs) d es e = by (is_same x.name n) refl (is_named n xs d es) e
  where
    by : (b : Bool) → b ≡ is_same x.name n → (named_so n xs ≡ d ∷ es → IsIn n (names xs)) → (if b then x ∷ named_so n xs else named_so n xs) ≡ d ∷ es → IsIn n (x.name ∷ names xs)
    by true h again g = inl (sym (same_text x.name n h))
    by false h again g = inr (again g)

-- the names of the prelude and of the text
abbrev pub all_names : List Definition → List Text
all_names ds = names prelude ++ names ds

both_count : (ns ms : List Text) → length (ns ++ ms) ≡ length ns + length ms
both_count [] ms = omega arith
both_count (n ∷ ns) ms = let h = both_count ns ms in omega (arith, h)

pub all_count : (ds : List Definition) → length (all_names ds) ≡ most_names ds
all_count ds = let h = both_count (names prelude) (names ds) in let a = name_count prelude in let b = name_count ds in omega (arith, h, a, b)

pub is_defined : (ds : List Definition) (n : Text) (d : Definition) (es : List Definition) → definitions_of ds n ≡ d ∷ es → IsIn n (all_names ds)
is_defined ds n d es e = by (has_equals (named_so n ds)) (named_so n prelude) (named_so n ds) refl refl e
  where
    by : (b : Bool) (pre own : List Definition) → named_so n prelude ≡ pre → named_so n ds ≡ own → ((if b then [] else pre) ++ counting false own) ≡ d ∷ es → IsIn n (all_names ds)
    by b pre (c ∷ cs) p o g = in_right (names prelude) (names ds) n (is_named n ds c cs o)
    by false (c ∷ cs) [] p o g = in_left (names prelude) (names ds) n (is_named n prelude c cs p)
    by true pre [] p o g = cc
    by false [] [] p o g = cc
