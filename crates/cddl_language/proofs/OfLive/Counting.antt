-- What a rule says is among what its name means, and what stands there is present.
use Rattle.std.specs.Prelude.{◌≡◌, ◌≢◌, ℕ, zero, suc, ◌<◌, Bool, true, false, if◌then◌else◌, ◌&&◌, List, [], ◌∷◌, map, flat_map, Contains, Some, slice_get}
use Rattle.std.specs.Cmp.Lexicographic.{same_text, other_text}
use Rattle.std.proofs.Common.{refl, sym, ap, ◌∙◌, subst, arith}
use Rattle.std.proofs.lemmas.List.Elements.{Contains-append_left, Contains-append_right}
use Rattle.std.proofs.lemmas.Bool.{true≢false}
use Rattle.cddl_token.specs.declared.Token.{Token}
use Rattle.tree_nodes.specs.Syntax.Syntax as S
use Rattle.cddl_language.proofs.OfLive.Standing.{none_in, at_head, behind, on_cons, same_some, some_is_none}
use Rattle.cddl_language.specs.Terms.{Text, Term, Ref, call, Body, Definition, term_list, name_of, arguments_of}
use Rattle.cddl_language.specs.Reading.{text_of, texts_of, name_in, sign_of, definition_of, definitions_in}
use Rattle.cddl_language.specs.Environment.{is_same, is_equals, named_so, counting, definitions_of, from_prelude}
use Rattle.cddl_language.specs.Substitution.{argument, fill_body, bodies}
use Rattle.cddl_language.specs.Reach.{Point, body_points, points_in}
use Rattle.cddl_language.specs.Faults.{first_equals}

in_map : {X A : Type 0} (f : X → A) (xs : List X) (x : X) → Contains xs x → Contains (map f xs) (f x)
in_map f [] x c = none_in c
in_map f (y ∷ ys) x c = on_cons y ys x c (λ e. subst (λ m. Contains (f y ∷ map f ys) (f m)) e (at_head (f y) (map f ys))) (λ d. behind (f y) (map f ys) (in_map f ys x d))

in_flat_map : {X A : Type 0} (f : X → List A) (xs : List X) (x : X) (a : A) → Contains xs x → Contains (f x) a → Contains (flat_map f xs) a
in_flat_map f [] x a c d = none_in c
in_flat_map f (y ∷ ys) x a c d = on_cons y ys x c (λ e. Contains-append_left (f y) (flat_map f ys) a (subst (λ m. Contains (f m) a) (sym e) d)) (λ h. Contains-append_right (f y) (flat_map f ys) a (in_flat_map f ys x a h d))

unless_equal : (n : Text) (x r : S.Rule) (xs : List S.Rule) → name_in r ≡ n → name_in x ≢ n → Contains (x ∷ xs) r → Contains xs r
unless_equal n x r xs e other c = on_cons x xs r c (λ f. absurd (other (ap name_in f ∙ e))) (λ d. d)

-- after a `=`, each other counts
after_equals : (n : Text) (rs : List S.Rule) (r : S.Rule) → Contains rs r → name_in r ≡ n → is_equals (sign_of r) ≡ false → Contains (counting true (named_so n (definitions_in rs))) (definition_of r)
after_equals n [] r c e s = none_in c
after_equals n (x ∷ xs) r c e s = go (λ d. after_equals n xs r d e s) (is_same (name_in x) n) refl
  where
    rest : List Definition
    rest = counting true (named_so n (definitions_in xs))

    counted : (Contains xs r → Contains rest (definition_of r)) → (b : Bool) → is_equals (sign_of x) ≡ b → Contains (if b then rest else definition_of x ∷ rest) (definition_of r)
    counted again true h = on_cons x xs r c (λ f. absurd (true≢false (sym h ∙ (ap (λ m. is_equals (sign_of m)) f ∙ s)))) (λ d. again d)
    counted again false h = on_cons x xs r c (λ f. subst (λ m. Contains (definition_of x ∷ rest) (definition_of m)) f (at_head (definition_of x) rest)) (λ d. behind (definition_of x) rest (again d))

    go : (Contains xs r → Contains rest (definition_of r)) → (b : Bool) → b ≡ is_same (name_in x) n → Contains (counting true (if b then definition_of x ∷ named_so n (definitions_in xs) else named_so n (definitions_in xs))) (definition_of r)
    go again true h = counted again (is_equals (sign_of x)) refl
    go again false h = again (unless_equal n x r xs e (other_text (name_in x) n h) c)

-- each counts, if its definition is that of the first by `=`
pub counts : (n : Text) (rs : List S.Rule) (r : S.Rule) → Contains rs r → name_in r ≡ n → ((q : S.Rule) → is_equals (sign_of r) ≡ true → first_equals rs n ≡ Some q → definition_of r ≡ definition_of q) → Contains (counting false (named_so n (definitions_in rs))) (definition_of r)
counts n [] r c e one = none_in c
counts n (x ∷ xs) r c e one = go (λ d f. counts n xs r d e f) (is_same (name_in x) n) refl one
  where
    named : List Definition
    named = named_so n (definitions_in xs)

    by_sign : (Contains xs r → ((q : S.Rule) → is_equals (sign_of r) ≡ true → first_equals xs n ≡ Some q → definition_of r ≡ definition_of q) → Contains (counting false named) (definition_of r)) → (a : Bool) → is_equals (sign_of r) ≡ a → (b : Bool) → b ≡ is_equals (sign_of x) → Contains xs r → ((q : S.Rule) → is_equals (sign_of r) ≡ true → (if b then Some x else first_equals xs n) ≡ Some q → definition_of r ≡ definition_of q) → Contains (definition_of x ∷ counting b named) (definition_of r)
    by_sign again true f true h d one = subst (λ m. Contains (definition_of x ∷ counting true named) m) (sym (one x f refl)) (at_head (definition_of x) (counting true named))
    by_sign again false f true h d one = behind (definition_of x) (counting true named) (after_equals n xs r d e f)
    by_sign again a f false h d one = behind (definition_of x) (counting false named) (again d one)

    go : (Contains xs r → ((q : S.Rule) → is_equals (sign_of r) ≡ true → first_equals xs n ≡ Some q → definition_of r ≡ definition_of q) → Contains (counting false named) (definition_of r)) → (b : Bool) → b ≡ is_same (name_in x) n → ((q : S.Rule) → is_equals (sign_of r) ≡ true → (if b && is_equals (sign_of x) then Some x else first_equals xs n) ≡ Some q → definition_of r ≡ definition_of q) → Contains (counting false (if b then definition_of x ∷ named else named)) (definition_of r)
    go again true h one = on_cons x xs r c (λ f. subst (λ m. Contains (definition_of x ∷ counting (is_equals (sign_of x)) named) (definition_of m)) f (at_head (definition_of x) (counting (is_equals (sign_of x)) named))) (λ d. by_sign again (is_equals (sign_of r)) refl (is_equals (sign_of x)) refl d one)
    go again false h one = again (unless_equal n x r xs e (other_text (name_in x) n h) c) one

-- what stands in a rule's body, filled, stands in what a closed reference of its name means
pub in_meaning : (rs : List S.Rule) (r : S.Rule) (i : Ref) (p : Point) → Contains rs r → name_of i ≡ name_in r → ((q : S.Rule) → is_equals (sign_of r) ≡ true → first_equals rs (name_in r) ≡ Some q → definition_of r ≡ definition_of q) → Contains (body_points (fill_body (definition_of r).parameters (arguments_of i) (definition_of r).body)) p → Contains (points_in (definitions_in rs) i) p
in_meaning rs r (call n ts) p c e one h = in_flat_map body_points (bodies (definitions_in rs) (call n ts)) (filled (definition_of r)) p (in_map filled (definitions_of (definitions_in rs) n) (definition_of r) among) h
  where
    filled : Definition → Body
    filled d = fill_body d.parameters (term_list ts) d.body

    among : Contains (definitions_of (definitions_in rs) n) (definition_of r)
    among = Contains-append_right (from_prelude (definitions_in rs) n) (counting false (named_so n (definitions_in rs))) (definition_of r) (counts n rs r c (sym e) (λ q f g. one q f (subst (λ m. first_equals rs m ≡ Some q) e g)))

-- the parameter of a number has the argument of that number, if no other has its name
pub argument_at : (ps : List Text) (xs : List Term) (n : Text) (x : Term) (k : ℕ) → ((a b : ℕ) → a < b → slice_get ps a ≡ Some n → slice_get ps b ≡ Some n → ⊥) → slice_get ps k ≡ Some n → slice_get xs k ≡ Some x → argument ps xs n ≡ Some x
argument_at [] xs n x k apart e f = some_is_none e
argument_at (p ∷ ps) [] n x k apart e f = some_is_none f
argument_at (p ∷ ps) (y ∷ ys) n x zero apart e f = go (is_same p n) refl
  where
    go : (b : Bool) → b ≡ is_same p n → (if b then Some y else argument ps ys n) ≡ Some x
    go true h = f
    go false h = absurd (other_text p n h (same_some e))
argument_at (p ∷ ps) (y ∷ ys) n x (suc k) apart e f = go (argument_at ps ys n x k (λ a b l g j. apart (suc a) (suc b) (omega arith) g j) e f) (is_same p n) refl
  where
    go : argument ps ys n ≡ Some x → (b : Bool) → b ≡ is_same p n → (if b then Some y else argument ps ys n) ≡ Some x
    go again true h = absurd (apart 0 (suc k) (omega arith) (ap Some (same_text p n h)) e)
    go again false h = again

-- the token of a parameter
pub token_at : (ts : List Token) (k : ℕ) (n : Text) → slice_get (texts_of ts) k ≡ Some n → (t : Token) × ((slice_get ts k ≡ Some t) × (text_of t ≡ n))
token_at [] k n e = some_is_none e
token_at (t ∷ ts) zero n e = (t, (refl, same_some e))
token_at (t ∷ ts) (suc k) n e = token_at ts k n e
