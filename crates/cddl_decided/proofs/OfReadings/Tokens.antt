-- Two lists of tokens of one source are the same but for where their texts stand in memory; so is what is told of them.
use Rattle.std.proofs.Common.{◌≡◌, ℕ, suc, ◌<◌, ◌≤◌, Bool, true, false, if◌then◌else◌, List, [], ◌∷◌, ◌++◌, map, Option, Some, refl, sym, ap, ◌∙◌, subst, nat_eq, slice_range, append_assoc, max, arith}
use Rattle.std.specs.Prelude.{All, Contains}
use Rattle.std.proofs.lemmas.Bool.Decides.{nat_tests}
use Rattle.std.proofs.lemmas.List.{map-append}
use Rattle.cddl_token.specs.Answers.{IsReadFrom, span}
use Rattle.cddl_token.specs.Spelling.{Good}
use Rattle.cddl_token.specs.Tokens as T
use Rattle.cddl_token.specs.Tokens.{GapFrom, Spanned, Tokenized}
use Rattle.cddl_token.specs.declared.Code.{Code}
use Rattle.cddl_token.specs.declared.Code.TheVariants.{Unexpected, TooNested}
use Rattle.cddl_token.specs.declared.Kind.{Kind}
use Rattle.cddl_token.specs.declared.Kind.TheVariants as K
use Rattle.cddl_token.specs.declared.Token.{Token}
use Rattle.tree_nodes.specs.Syntax.Answers.{Begins, IsRefused, IsTooNested, IsTreeOf, IsUnexpected, Prints, Reaches, deepest, lexemes, nesting_limit, open_after, opened_after}
use Rattle.tree_nodes.specs.Syntax.Syntax as S
use Rattle.tree_nodes.specs.Syntax.Syntax.{Cddl, Lexeme}
use Rattle.cddl_language.specs.Faults.{IsFaultAt, definitions, root_of}
use Rattle.cddl_language.specs.Literals.{Holds, Values, written}
use Rattle.cddl_language.specs.Terms.{Literal, Text}
use Rattle.cddl_decided.specs.Readings.{AreRead, TellTheSame, rooted}
use Rattle.cddl_decided.proofs.OfReadings.Moving.{flat_moved, lexemes_moved, move_cddl, move_lexeme, moved, prints_moved}
use Rattle.cddl_decided.proofs.OfReadings.Faults.{definitions_are, fault_moved, root_same}
use Rattle.cddl_decided.proofs.OfReadings.Terms.{contains_map, two}
use Rattle.cddl_decided.proofs.OfTokens.Ends.{spelled}

-- The tokens of a source rise: each begins behind the one before.

abbrev pub Rising : ℕ → List Spanned → Type 0
Rising n [] = Unit {0}
Rising n (t ∷ ts) = (n ≤ t.start) × Rising (suc t.start) ts

weaken : (m n : ℕ) (ts : List Spanned) → m ≤ n → Rising n ts → Rising m ts
weaken m n [] le r = tt
weaken m n (t ∷ ts) le r = (let few = r.0 in omega arith, r.1)

gap_le : {s : List ℕ} {i j : ℕ} → GapFrom s i j → i ≤ j
gap_le (T.none e) = omega arith
gap_le (T.blank p r) = let le = gap_le r in omega arith
gap_le (T.line p r) = let le = gap_le r in omega arith
gap_le (T.comment p r) = let le = gap_le r in let past = p.past in omega arith

rising : {s : List ℕ} {i : ℕ} {ts : List Spanned} → Tokenized s i ts → Rising i ts
rising {s} {i} (T.ends gap e) = subst (Rising i) (sym e) (gap_le gap, tt)
rising {s} (T.more {a = a} {b = b} {kind = kind} {ts = ts} gap t r) =
    let l = t.longest in
    let h = spelled (Good kind) s a b l.spelled in
    let past = h.past in
    (gap_le gap, weaken (suc a) b ts (omega (arith, past)) (rising r))

-- The place of the first token of a list that begins there.
abbrev pub place_in : List Token → ℕ → ℕ × ℕ
place_in [] n = (0, 0)
place_in (t ∷ ts) n = if nat_eq t.start n then t.text.ref_ptr else place_in ts n

abbrev pub place_of : List Token → Token → ℕ × ℕ
place_of ts t = place_in ts t.start

at_first : (b : Bool) (x y : ℕ × ℕ) → b ≡ true → (if b then x else y) ≡ x
at_first true x y e = refl
at_first false x y e = cc

at_later : (b : Bool) (x y : ℕ × ℕ) → b ≡ false → (if b then x else y) ≡ y
at_later true x y e = cc
at_later false x y e = refl

equal_starts : (m n : ℕ) → m ≡ n → nat_eq m n ≡ true
equal_starts m n h = grind (arith, nat_tests)

other_starts : (m n : ℕ) → m < n → nat_eq m n ≡ false
other_starts m n h = grind (arith, nat_tests)

abbrev a_token : ℕ × ℕ → Token → Token
a_token p t = record { kind = t.kind; start = t.start; end = t.end; text = record { ref_ptr = p; now = t.text.now } }

-- behind the first token the others are looked up
skipped : (u : Token) (us ts : List Token) → Rising (suc u.start) (map span ts) → map (moved (place_of (u ∷ us))) ts ≡ map (moved (place_of us)) ts
skipped u us [] r = refl
skipped u us (t ∷ ts) r =
    two (λ (p : ℕ × ℕ) (qs : List Token). a_token p t ∷ qs)
    (at_later (nat_eq u.start t.start) (u.text.ref_ptr) (place_in us t.start) (other_starts u.start t.start (let few = r.0 in omega arith)))
    (skipped u us ts (weaken (suc u.start) (suc t.start) (map span ts) (let few = r.0 in omega arith) r.1))

abbrev token_by : ℕ × ℕ → Spanned → List ℕ → Token
token_by p s x = record { kind = s.kind; start = s.start; end = s.end; text = record { ref_ptr = p; now = x } }

-- a token with another's place is that other one, where both are read from the same part of the source
same_token : (t u : Token) → span t ≡ span u → t.text.now ≡ u.text.now → a_token u.text.ref_ptr t ≡ u
same_token t u e f = two (token_by u.text.ref_ptr) e f

same_text : (s : List ℕ) (t u : Token) → span t ≡ span u → IsReadFrom s t → IsReadFrom s u → t.text.now ≡ u.text.now
same_text s t u e p q = p.0 ∙ ap (λ (x : Spanned). slice_range s x.start x.end) e ∙ sym q.0

all_head : {A : Type 0} (P : A → Type 0) (x : A) (xs : List A) → All P (x ∷ xs) → P x
all_head P x xs h = h 0 x (omega arith)

all_tail : {A : Type 0} (P : A → Type 0) (x : A) (xs : List A) → All P (x ∷ xs) → All P xs
all_tail P x xs h k d lt = h (suc k) d (omega arith)

heads : {A : Type 0} {x y : A} {xs ys : List A} → x ∷ xs ≡ y ∷ ys → (x ≡ y) × (xs ≡ ys)
heads e = (cc, cc)

pub moved_to : (s : List ℕ) (ts us : List Token) (n : ℕ) → map span ts ≡ map span us → All (IsReadFrom s) ts → All (IsReadFrom s) us → Rising n (map span ts) → map (moved (place_of us)) ts ≡ us
moved_to s [] [] n e p q r = refl
moved_to s [] (u ∷ us) n e p q r = cc
moved_to s (t ∷ ts) [] n e p q r = cc
moved_to s (t ∷ ts) (u ∷ us) n e p q r =
    let both = heads e in
    let start : t.start ≡ u.start = ap (λ (x : Spanned). x.start) both.0 in
    two (λ (x : Token) (xs : List Token). x ∷ xs)
    (ap (λ (x : ℕ × ℕ). a_token x t) (at_first (nat_eq u.start t.start) (u.text.ref_ptr) (place_in us t.start) (equal_starts u.start t.start (sym start))) ∙ same_token t u both.0 (same_text s t u both.0 (all_head (IsReadFrom s) t ts p) (all_head (IsReadFrom s) u us q)))
    (skipped u us ts (subst (λ m. Rising (suc m) (map span ts)) start r.1) ∙ moved_to s ts us (suc t.start) both.1 (all_tail (IsReadFrom s) t ts p) (all_tail (IsReadFrom s) u us q) r.1)

-- the law that tokens have one tree
abbrev pub OneTree : Type 0
OneTree = (ls : List Lexeme) (x y : Cddl) → Prints x ls → Prints y ls → y ≡ x

module _ (s : List ℕ) (ts us : List Token) (same : map span us ≡ map span ts) (of_ts : AreRead s ts) (of_us : AreRead s us) where
  there : map (moved (place_of us)) ts ≡ us
  there = moved_to s ts us 0 (sym same) of_ts.1 of_us.1 (rising (of_ts.0).1)

  back : map (moved (place_of ts)) us ≡ ts
  back = moved_to s us ts 0 same of_us.1 of_ts.1 (rising (of_us.0).1)

  -- Trees.

  module _ (one_tree : OneTree) (x y : Cddl) (tree : IsTreeOf x ts) (other : IsTreeOf y us) where
    tree_moved : move_cddl (place_of us) x ≡ y
    tree_moved = one_tree (lexemes us) y (move_cddl (place_of us) x) other.prints (subst (Prints (move_cddl (place_of us) x)) (sym (lexemes_moved (place_of us) ts) ∙ ap lexemes there) (prints_moved (place_of us) x (lexemes ts) tree.prints))

    tree_back : move_cddl (place_of ts) y ≡ x
    tree_back = one_tree (lexemes ts) x (move_cddl (place_of ts) y) tree.prints (subst (Prints (move_cddl (place_of ts) y)) (sym (lexemes_moved (place_of ts) us) ∙ ap lexemes back) (prints_moved (place_of ts) y (lexemes us) other.prints))

    fault_there : (n : Option Text) (worth : Values) (c : Code) (p : ℕ) → IsFaultAt (rooted x n) worth c p → IsFaultAt (rooted y n) worth c p
    fault_there n worth c p h = subst (λ (z : Cddl). IsFaultAt (rooted z n) worth c p) tree_moved (fault_moved (place_of us) (rooted x n) worth c p h)

    fault_back : (n : Option Text) (worth : Values) (c : Code) (p : ℕ) → IsFaultAt (rooted y n) worth c p → IsFaultAt (rooted x n) worth c p
    fault_back n worth c p h = subst (λ (z : Cddl). IsFaultAt (rooted z n) worth c p) tree_back (fault_moved (place_of ts) (rooted y n) worth c p h)

    written_moved : (k : Kind) (t : Token) (v : Literal) → written k t ≡ Some v → written k (moved (place_of ts) t) ≡ Some v
    written_moved K.Number t v e = e
    written_moved K.Text t v e = e
    written_moved K.Bytes t v e = e
    written_moved _ t v e = e

    held_back : (v : Literal) → Holds y v → Holds x v
    held_back v h =
        let l : Lexeme = h.0 in
        subst (λ (z : Cddl). Holds z v) tree_back
        (move_lexeme (place_of ts) l, subst (λ ls. Contains ls (move_lexeme (place_of ts) l)) (sym (flat_moved (place_of ts) y)) (contains_map (move_lexeme (place_of ts)) (S.flat y) l h.1), written_moved l.0 l.1 v h.2)

    pub tell_the_same : TellTheSame x y
    tell_the_same = record {
      right = λ worth right v h. right v (held_back v h);
      accepted = λ n worth fine c p h. fine c p (fault_back n worth c p h);
      refused = λ n worth c p h. record { present = fault_there n worth c p h.present; lowest = λ d q k. h.lowest d q (fault_back n worth d q k); least = λ q k. h.least q (fault_back n worth c q k) };
      root = λ n. ap (λ (z : Cddl). root_of (rooted z n)) (sym tree_moved) ∙ root_same (place_of us) (rooted x n);
      same_definitions = λ n. ap (λ (z : Cddl). definitions (rooted z n)) (sym tree_moved) ∙ definitions_are (place_of us) (rooted x n);
    }

  -- Why they have no tree.

  begins_moved : (place : Token → ℕ × ℕ) (vs : List Token) → Begins (lexemes vs) → Begins (lexemes (map (moved place) vs))
  begins_moved place vs b =
      let x : Cddl = b.0 in
      let ls : List Lexeme = b.1 in
      (move_cddl place x, map (move_lexeme place) ls, subst (Prints (move_cddl place x)) (map-append (move_lexeme place) (lexemes vs) ls ∙ ap (λ ms. ms ++ map (move_lexeme place) ls) (sym (lexemes_moved place vs))) (prints_moved place x (lexemes vs ++ ls) b.2))

  open_same : (place : Token → ℕ × ℕ) (n : ℕ) (vs : List Token) → open_after n (lexemes (map (moved place) vs)) ≡ open_after n (lexemes vs)
  open_same place n [] = refl
  open_same place n (v ∷ vs) = open_same place (opened_after v.kind n) vs

  deepest_same : (place : Token → ℕ × ℕ) (n : ℕ) (vs : List Token) → deepest n (lexemes (map (moved place) vs)) ≡ deepest n (lexemes vs)
  deepest_same place n [] = refl
  deepest_same place n (v ∷ vs) = ap (λ m. max n m) (deepest_same place (opened_after v.kind n) vs)

  -- what comes back of the whole comes back of its front
  front_back : (f : Token → Token) (ps bs : List Token) → map f (ps ++ bs) ≡ ps ++ bs → map f ps ≡ ps
  front_back f [] bs e = refl
  front_back f (a ∷ ps) bs e = let both = heads e in two (λ (x : Token) (xs : List Token). x ∷ xs) both.0 (front_back f ps bs both.1)

  twice : (f g : Token → Token) (vs : List Token) → map (λ v. f (g v)) vs ≡ map f (map g vs)
  twice f g [] = refl
  twice f g (v ∷ vs) = ap (λ xs. f (g v) ∷ xs) (twice f g vs)

  module _ (front : List Token) (token : Token) (at : ℕ) (r : Reaches ts front token at) where
    reaches_there : Reaches us (map (moved (place_of us)) front) (moved (place_of us) token) at
    reaches_there = record {
      back = map (moved (place_of us)) r.back;
      parts = sym there ∙ ap (map (moved (place_of us))) r.parts ∙ map-append (moved (place_of us)) front (token ∷ r.back);
      offset = r.offset;
      begins = begins_moved (place_of us) front r.begins;
      within = subst (λ m. m ≤ nesting_limit) (sym (deepest_same (place_of us) 0 front)) r.within;
    }

    with_token : map (moved (place_of us)) front ++ moved (place_of us) token ∷ [] ≡ map (moved (place_of us)) (front ++ token ∷ [])
    with_token = sym (map-append (moved (place_of us)) front (token ∷ []))

    comes_back : map (moved (place_of ts)) (map (moved (place_of us)) (front ++ token ∷ [])) ≡ front ++ token ∷ []
    comes_back =
        sym (twice (moved (place_of ts)) (moved (place_of us)) (front ++ token ∷ []))
        ∙ front_back (λ v. moved (place_of ts) (moved (place_of us) v)) (front ++ token ∷ []) r.back whole
      where
        parts : ts ≡ (front ++ token ∷ []) ++ r.back
        parts = r.parts ∙ sym (append_assoc front (token ∷ []) r.back)

        whole : map (λ v. moved (place_of ts) (moved (place_of us) v)) ((front ++ token ∷ []) ++ r.back) ≡ (front ++ token ∷ []) ++ r.back
        whole = subst (λ vs. map (λ v. moved (place_of ts) (moved (place_of us) v)) vs ≡ vs) parts (twice (moved (place_of ts)) (moved (place_of us)) ts ∙ ap (map (moved (place_of ts))) there ∙ back)

    begins_there : Begins (lexemes (front ++ token ∷ [])) → Begins (lexemes (map (moved (place_of us)) front ++ moved (place_of us) token ∷ []))
    begins_there b = subst (λ vs. Begins (lexemes vs)) (sym with_token) (begins_moved (place_of us) (front ++ token ∷ []) b)

    begins_back : Begins (lexemes (map (moved (place_of us)) front ++ moved (place_of us) token ∷ [])) → Begins (lexemes (front ++ token ∷ []))
    begins_back b = subst (λ vs. Begins (lexemes vs)) comes_back (begins_moved (place_of ts) (map (moved (place_of us)) (front ++ token ∷ [])) (subst (λ vs. Begins (lexemes vs)) with_token b))

    open_there : open_after 0 (lexemes (map (moved (place_of us)) front ++ moved (place_of us) token ∷ [])) ≡ open_after 0 (lexemes (front ++ token ∷ []))
    open_there = ap (λ vs. open_after 0 (lexemes vs)) with_token ∙ open_same (place_of us) 0 (front ++ token ∷ [])

  unexpected_there : (at : ℕ) → IsUnexpected ts at → IsUnexpected us at
  unexpected_there at h = record { front = map (moved (place_of us)) h.front; token = moved (place_of us) h.token; reaches = reaches_there h.front h.token at h.reaches; wrong = λ b. h.wrong (begins_back h.front h.token at h.reaches b) }

  too_nested_there : (at : ℕ) → IsTooNested ts at → IsTooNested us at
  too_nested_there at h = record {
    front = map (moved (place_of us)) h.front;
    token = moved (place_of us) h.token;
    reaches = reaches_there h.front h.token at h.reaches;
    begins = begins_there h.front h.token at h.reaches h.begins;
    over = subst (λ m. nesting_limit < m) (sym (open_there h.front h.token at h.reaches)) h.over;
  }

  pub no_tree_there : (c : Code) (p : ℕ) → IsRefused ts c p → IsRefused us c p
  no_tree_there Unexpected p h = unexpected_there p h
  no_tree_there TooNested p h = too_nested_there p h
  no_tree_there _ p h = h
