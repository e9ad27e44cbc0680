-- The places of a name by its number are those of the name by its text.
use Rattle.std.proofs.Common.{◌≡◌, ◌≢◌, ℕ, zero, suc, ◌+◌, Bool, true, false, if◌then◌else◌, ◌&&◌, ◌||◌, List, [], ◌∷◌, is_some, Option, Some, refl, sym, ap, subst, ◌∙◌, ◌⊎◌, inl, inr, slice_get, nat_eq, arith, true≢false}
use Rattle.std.specs.Cmp.Lexicographic.{same_text}
use Rattle.std.proofs.lemmas.Cmp.{nat_list_eq_equiv}
use Rattle.std.proofs.lemmas.Bool.Decides.{eqb_tells}
use Rattle.cddl_language.specs.Terms as L
use Rattle.cddl_language.specs.Terms.{Text}
use Rattle.cddl_language.specs.Environment as E
use Rattle.cddl_language.specs.Environment.{has_any, has_equals, is_in_prelude, is_same, named_so}
use Rattle.cddl_language.specs.Prelude.{prelude}
use Rattle.check_terms.specs.declared.definition.Definition.{Definition}
use Rattle.check_terms.specs.declared.definition.Sign.{Sign}
use Rattle.check_terms.specs.declared.definition.Sign.TheVariants as SignV
use Rattle.check_terms.specs.Definitions.{AreDefinitions, no_definitions, further_definition, IsDefinition, sign_of}
use Rattle.check_terms.specs.Table.{IsTable, Table}
use Rattle.check_names.specs.Environment.Environment.{AreAt, IsStanding, as_list, equals_from, named_from, none_there, one_there}
use Rattle.check_names.specs.Environment.Names.{standing_at}
use Rattle.check_names.specs.Environment.Places.{counting, first_equals, first_of, is_equals, is_equals_at, is_equals_there, places_from, places_of}

same_itself : (n : Text) → is_same n n ≡ true
same_itself n = nat_list_eq_equiv.refl n

-- The rest of a list, from the place i on.
abbrev IsRest : {A : Type 0} → List A → ℕ → List A → Type 0
IsRest {A = A} all i xs = (j : ℕ) → slice_get all (i + j) ≡ slice_get xs j

whole : {A : Type 0} (xs : List A) → IsRest xs 0 xs
whole xs j = ap (slice_get xs) (omega arith)

rest_first : {A : Type 0} (all : List A) (i : ℕ) (x : A) (xs : List A) → IsRest all i (x ∷ xs) → slice_get all i ≡ Some x
rest_first all i x xs h = ap (slice_get all) (omega arith) ∙ h 0

rest_further : {A : Type 0} (all : List A) (i : ℕ) (x : A) (xs : List A) → IsRest all i (x ∷ xs) → IsRest all (i + 1) xs
rest_further all i x xs h j = ap (slice_get all) (omega arith) ∙ h (suc j)

-- What a name's definitions are, by their places.

named_there : (all : List L.Definition) (i : ℕ) (n : Text) (xs : List L.Definition) → IsRest all i xs → AreAt all (named_from i n xs) (named_so n xs)
named_there all i n [] h = none_there
named_there all i n (x ∷ xs) h = by (is_same x.name n) (named_there all (i + 1) n xs (rest_further all i x xs h))
  where
    by : (b : Bool) → AreAt all (named_from (i + 1) n xs) (named_so n xs) → AreAt all (if b then i ∷ named_from (i + 1) n xs else named_from (i + 1) n xs) (if b then x ∷ named_so n xs else named_so n xs)
    by true k = one_there (rest_first all i x xs h) k
    by false k = k

equals_some : (i : ℕ) (n : Text) (xs : List L.Definition) → is_some (first_of (equals_from i n xs)) ≡ has_equals (named_so n xs)
equals_some i n [] = refl
equals_some i n (x ∷ xs) = by (is_same x.name n) (E.is_equals x.sign) refl (equals_some (i + 1) n xs)
  where
    by : (b e : Bool) → E.is_equals x.sign ≡ e → is_some (first_of (equals_from (i + 1) n xs)) ≡ has_equals (named_so n xs) → is_some (first_of (if b && e then i ∷ equals_from (i + 1) n xs else equals_from (i + 1) n xs)) ≡ has_equals (if b then x ∷ named_so n xs else named_so n xs)
    by true true s k = subst (λ e. true ≡ (e || has_equals (named_so n xs))) (sym s) refl
    by true false s k = subst (λ e. is_some (first_of (equals_from (i + 1) n xs)) ≡ (e || has_equals (named_so n xs))) (sym s) k
    by false e s k = k

-- Where no two names are the same, a name has one definition at most.

abbrev are_apart : List L.Definition → Bool
are_apart [] = true
are_apart (x ∷ xs) = if has_any (named_so x.name xs) then false else are_apart xs

known_there : (all : List L.Definition) (i : ℕ) (n : Text) (xs : List L.Definition) → are_apart xs ≡ true → IsRest all i xs → AreAt all (as_list (first_of (named_from i n xs))) (named_so n xs)
known_there all i n [] a h = none_there
known_there all i n (x ∷ xs) a h = by (is_same x.name n) refl (λ e. known_there all (i + 1) n xs e (rest_further all i x xs h))
  where
    none : (ys : List L.Definition) → has_any ys ≡ false → AreAt all [] ys
    none [] e = none_there
    none (y ∷ ys) e = absurd (true≢false e)

    apart : (b : Bool) → (if b then false else are_apart xs) ≡ true → (b ≡ false) × (are_apart xs ≡ true)
    apart true e = absurd (true≢false (sym e))
    apart false e = (refl, e)

    by : (b : Bool) → is_same x.name n ≡ b → (are_apart xs ≡ true → AreAt all (as_list (first_of (named_from (i + 1) n xs))) (named_so n xs)) → AreAt all (as_list (first_of (if b then i ∷ named_from (i + 1) n xs else named_from (i + 1) n xs))) (if b then x ∷ named_so n xs else named_so n xs)
    by true e k = one_there (rest_first all i x xs h) (none (named_so n xs) (subst (λ m. has_any (named_so m xs) ≡ false) (same_text x.name n (sym e)) (apart _ a).0))
    by false e k = k (apart _ a).1

any_first : (i : ℕ) (n : Text) (xs : List L.Definition) → is_some (first_of (named_from i n xs)) ≡ has_any (named_so n xs)
any_first i n [] = refl
any_first i n (x ∷ xs) = by (is_same x.name n) (any_first (i + 1) n xs)
  where
    by : (b : Bool) → is_some (first_of (named_from (i + 1) n xs)) ≡ has_any (named_so n xs) → is_some (first_of (if b then i ∷ named_from (i + 1) n xs else named_from (i + 1) n xs)) ≡ has_any (if b then x ∷ named_so n xs else named_so n xs)
    by true k = refl
    by false k = k

module _ (t : Table) (is : IsTable t) (k : ℕ) (n : Text) (named : slice_get t.texts k ≡ Some n) where
  one_of : (o : Option Text) (x y : Text) → o ≡ Some x → o ≡ Some y → x ≡ y
  one_of o x y e f = cc

  -- the number of a name is k exactly where its text is n
  same_name : (d : Definition) (x : L.Definition) → IsDefinition t d x → nat_eq d.name k ≡ is_same x.name n
  same_name d x h = by (eqb_tells d.name k)
    where
      other : d.name ≢ k → (b : Bool) → b ≡ is_same x.name n → false ≡ b
      other e false f = refl
      other e true f = absurd (e (is.texts d.name k n (h.name ∙ ap Some (same_text x.name n f)) named))

      by : ((nat_eq d.name k ≡ true) × (d.name ≡ k)) ⊎ ((nat_eq d.name k ≡ false) × (d.name ≢ k)) → nat_eq d.name k ≡ is_same x.name n
      by (inl e) = e.0 ∙ sym (subst (λ m. is_same m n ≡ true) (one_of (slice_get t.texts k) n x.name named (ap (slice_get t.texts) (sym e.1) ∙ h.name)) (same_itself n))
      by (inr e) = e.0 ∙ other e.1 (is_same x.name n) refl

  same_sign : (a : Sign) (b : L.Sign) → sign_of a ≡ b → is_equals a ≡ E.is_equals b
  same_sign SignV.Is b e = ap E.is_equals e
  same_sign SignV.TypeOr b e = ap E.is_equals e
  same_sign SignV.GroupOr b e = ap E.is_equals e

  same_places : (i : ℕ) (ds : List Definition) (xs : List L.Definition) → AreDefinitions t ds xs → places_from i k ds ≡ named_from i n xs
  same_places i [] [] no_definitions = refl
  same_places i [] (x ∷ xs) h = elim h [ ]
  same_places i (d ∷ ds) [] h = elim h [ ]
  same_places i (d ∷ ds) (x ∷ xs) (further_definition h hs) = subst (λ b. (if b then i ∷ places_from (i + 1) k ds else places_from (i + 1) k ds) ≡ named_from i n (x ∷ xs)) (sym (same_name d x h)) (by (is_same x.name n) (same_places (i + 1) ds xs hs))
    where
      by : (b : Bool) → places_from (i + 1) k ds ≡ named_from (i + 1) n xs → (if b then i ∷ places_from (i + 1) k ds else places_from (i + 1) k ds) ≡ (if b then i ∷ named_from (i + 1) n xs else named_from (i + 1) n xs)
      by true e = ap (λ (ps : List ℕ). i ∷ ps) e
      by false e = e

  same_equals : (all : List Definition) (i : ℕ) (ds : List Definition) (xs : List L.Definition) → AreDefinitions t ds xs → IsRest all i ds → first_equals all (places_from i k ds) ≡ first_of (equals_from i n xs)
  same_equals all i [] [] no_definitions r = refl
  same_equals all i [] (x ∷ xs) h r = elim h [ ]
  same_equals all i (d ∷ ds) [] h r = elim h [ ]
  same_equals all i (d ∷ ds) (x ∷ xs) (further_definition h hs) r = subst (λ b. first_equals all (if b then i ∷ places_from (i + 1) k ds else places_from (i + 1) k ds) ≡ first_of (equals_from i n (x ∷ xs))) (sym (same_name d x h)) (by (is_same x.name n) (same_equals all (i + 1) ds xs hs (rest_further all i d ds r)))
    where
      there : is_equals_at all i ≡ E.is_equals x.sign
      there = subst (λ o. is_equals_there o ≡ E.is_equals x.sign) (sym (rest_first all i d ds r)) (same_sign d.sign x.sign h.sign)

      found : (e : Bool) → first_equals all (places_from (i + 1) k ds) ≡ first_of (equals_from (i + 1) n xs) → (if e then Some i else first_equals all (places_from (i + 1) k ds)) ≡ first_of (if e then i ∷ equals_from (i + 1) n xs else equals_from (i + 1) n xs)
      found true f = refl
      found false f = f

      by : (b : Bool) → first_equals all (places_from (i + 1) k ds) ≡ first_of (equals_from (i + 1) n xs) → first_equals all (if b then i ∷ places_from (i + 1) k ds else places_from (i + 1) k ds) ≡ first_of (if b && E.is_equals x.sign then i ∷ equals_from (i + 1) n xs else equals_from (i + 1) n xs)
      by true f = subst (λ e. (if e then Some i else first_equals all (places_from (i + 1) k ds)) ≡ first_of (if E.is_equals x.sign then i ∷ equals_from (i + 1) n xs else equals_from (i + 1) n xs)) (sym there) (found (E.is_equals x.sign) f)
      by false f = f

  definition_there : (ds : List Definition) (xs : List L.Definition) (p : ℕ) (x : L.Definition) → AreDefinitions t ds xs → slice_get xs p ≡ Some x → (d : Definition) × (slice_get ds p ≡ Some d) × IsDefinition t d x
  definition_there [] [] p x no_definitions e = cc
  definition_there [] (y ∷ xs) p x h e = elim h [ ]
  definition_there (d ∷ ds) [] p x h e = elim h [ ]
  definition_there (d ∷ ds) (y ∷ xs) zero x (further_definition h hs) e = (d, refl, subst (IsDefinition t d) (one y x e) h)
    where
      one : (y x : L.Definition) → Some y ≡ Some x → y ≡ x
      one y x e = cc
  definition_there (d ∷ ds) (y ∷ xs) (suc p) x (further_definition h hs) e = definition_there ds xs p x hs e

  -- further definitions by `=` add nothing
  same_counting : (ds : List Definition) (xs : List L.Definition) → AreDefinitions t ds xs → (met : Bool) (ps : List ℕ) (ys : List L.Definition) → AreAt xs ps ys → AreAt xs (counting ds met ps) (E.counting met ys)
  same_counting ds xs h met [] [] none_there = none_there
  same_counting ds xs h met [] (y ∷ ys) a = elim a [ ]
  same_counting ds xs h met (p ∷ ps) [] a = elim a [ ]
  same_counting ds xs h met (p ∷ ps) (y ∷ ys) (one_there e a) = by met (λ m. same_counting ds xs h m ps ys a)
    where
      there : is_equals_at ds p ≡ E.is_equals y.sign
      there = let d = definition_there ds xs p y h e in subst (λ o. is_equals_there o ≡ E.is_equals y.sign) (sym d.1) (same_sign d.0.sign y.sign d.2.sign)

      by : (m : Bool) → ((l : Bool) → AreAt xs (counting ds l ps) (E.counting l ys)) → AreAt xs (counting ds m (p ∷ ps)) (E.counting m (y ∷ ys))
      by false f = one_there e (subst (λ b. AreAt xs (counting ds b ps) (E.counting (E.is_equals y.sign) ys)) (sym there) (f (E.is_equals y.sign)))
      by true f = subst (λ b. AreAt xs (if b then counting ds true ps else p ∷ counting ds true ps) (E.counting true (y ∷ ys))) (sym there) (either (E.is_equals y.sign))
        where
          either : (b : Bool) → AreAt xs (if b then counting ds true ps else p ∷ counting ds true ps) (if b then E.counting true ys else y ∷ E.counting true ys)
          either true = f true
          either false = one_there e (f true)

  prelude_apart : are_apart prelude ≡ true
  unfolding prelude
  prelude_apart = refl

  pub are_standing : (known definitions : List Definition) (xs : List L.Definition) → AreDefinitions t known prelude → AreDefinitions t definitions xs → IsStanding xs n (standing_at definitions (first_of (places_of k known)) (places_of k definitions))
  are_standing known ds xs g h = record {
    known = subst (λ ps. AreAt prelude (as_list (first_of ps)) (named_so n prelude)) (sym (same_places 0 known prelude g)) (known_there prelude 0 n prelude prelude_apart (whole prelude));
    in_prelude = ap (λ ps. is_some (first_of ps)) (same_places 0 known prelude g) ∙ any_first 0 n prelude;
    defined = named_there xs 0 n xs (whole xs);
    first = ap first_of (same_places 0 ds xs h);
    first_equals = same_equals ds 0 ds xs h (whole ds);
    replaced = ap is_some (same_equals ds 0 ds xs h (whole ds)) ∙ equals_some 0 n xs;
    counting = same_counting ds xs h false (places_of k ds) (named_so n xs) (subst (λ ps. AreAt xs ps (named_so n xs)) (sym (same_places 0 ds xs h)) (named_there xs 0 n xs (whole xs)));
  }
