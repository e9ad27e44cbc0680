-- A list that is read from its first part to its last: what is read so far, with what is left, is the whole.
use Rattle.std.proofs.Common.{◌≡◌, ℕ, ◌+◌, ◌<◌, ◌≤◌, List, [], ◌∷◌, ◌++◌, length, get_or, drop, map, reverse, Some, refl, sym, ap, subst, ◌∙◌}
use Rattle.std.proofs.lemmas.List.{drop_more, drop_all, reverse-append}
use Rattle.check_terms.specs.Table.{Table, Grows, Holds, Tree}
use Rattle.check_reading.proofs.OfReader.Growing.{kept}

abbrev pub folded : {A B : Type 0} → (A → B → A) → A → List B → A
folded more a [] = a
folded more a (b ∷ bs) = folded more (more a b) bs

-- the number stands for what is read so far, which the rest makes the whole
pub record Leads {A B : Type 0} (tree : A → Tree) (more : A → B → A) (t : Table) (n : ℕ) (rest : List B) (whole : A) : Type 0 where
  pub so_far : A
  pub stands : Holds t (Some n) (tree so_far)
  pub is_whole : folded more so_far rest ≡ whole

pub leads_from : {A B X : Type 0} (tree : A → Tree) (more : A → B → A) (g : X → B) (xs : List X) (t : Table) (n : ℕ) (a whole : A) → Holds t (Some n) (tree a) → folded more a (map g xs) ≡ whole → Leads tree more t n (map g (drop 0 xs)) whole
leads_from tree more g xs t n a whole h e = record { so_far = a; stands = h; is_whole = e }

-- one more is read, and added to what is read so far
pub leads_on : {A B X : Type 0} (tree : A → Tree) (more : A → B → A) (g : X → B) (part : X → Tree) (built : X → Tree → Tree → Tree) → ((a : A) (x : X) → tree (more a (g x)) ≡ built x (tree a) (part x)) → (xs : List X) (i : ℕ) (x : X) → i < length xs → x ≡ get_or xs i x → (t u v : Table) (n m k : ℕ) (whole : A) → Leads tree more t n (map g (drop i xs)) whole → Grows t u → Holds u (Some m) (part x) → ((a b : Tree) → Holds u (Some n) a → Holds u (Some m) b → Holds v (Some k) (built x a b)) → Leads tree more v k (map g (drop (i + 1) xs)) whole
leads_on tree more g part built same xs i x h is t u v n m k whole l grows holds adds =
    let next : map g (drop i xs) ≡ g x ∷ map g (drop (i + 1) xs) = ap (map g) (drop_more xs i x h ∙ ap (λ y. y ∷ drop (i + 1) xs) (sym is)) in
    record {
      so_far = more l.so_far (g x);
      stands = subst (Holds v (Some k)) (sym (same l.so_far x)) (adds (tree l.so_far) (part x) (kept grows l.stands) holds);
      is_whole = sym (ap (folded more l.so_far) next) ∙ l.is_whole;
    }

pub leads_to : {A B X : Type 0} (tree : A → Tree) (more : A → B → A) (g : X → B) (xs : List X) (i : ℕ) (t : Table) (n : ℕ) (whole : A) → Leads tree more t n (map g (drop i xs)) whole → length xs ≤ i → Holds t (Some n) (tree whole)
leads_to tree more g xs i t n whole l h = subst (λ a. Holds t (Some n) (tree a)) (sym (ap (λ ys. folded more l.so_far (map g ys)) (drop_all i xs h)) ∙ l.is_whole) l.stands

-- from the last to the first
abbrev pub folded_back : {A B : Type 0} → (A → B → A) → A → List B → A
folded_back more a [] = a
folded_back more a (b ∷ bs) = more (folded_back more a bs) b

folded_last : {A B X : Type 0} (more : A → B → A) (g : X → B) (a : A) (ys : List X) (x : X) → folded more a (map g (ys ++ x ∷ [])) ≡ more (folded more a (map g ys)) (g x)
folded_last more g a [] x = refl
folded_last more g a (y ∷ ys) x = folded_last more g (more a (g y)) ys x

pub back : {A B X : Type 0} (more : A → B → A) (g : X → B) (a : A) (xs : List X) → folded more a (map g (reverse xs)) ≡ folded_back more a (map g xs)
back more g a [] = refl
back more g a (x ∷ xs) = ap (λ ys. folded more a (map g ys)) (reverse-append (x ∷ []) xs) ∙ folded_last more g a (reverse xs) x ∙ ap (λ b. more b (g x)) (back more g a xs)
