-- Lists of entries that grow.
use Rattle.std.proofs.Common.{◌≡◌, ℕ, suc, ◌+◌, ◌<◌, ◌≤◌, List, [], ◌∷◌, ◌++◌, length, map, drop, drop_of_length-le, get_or, Result, Ok, Err, OnOk, refl, sym, ap, ◌∙◌, subst, append_assoc, arith}
use Rattle.std.proofs.Math.Seq.{drop-cons}
use Rattle.std.proofs.lemmas.List.{append-nil, map-append}
use Rattle.std.specs.List.{flat_map}
use Rattle.std.specs.declared.alloc.AllocError.{AllocError}
use Rattle.cddl_token.specs.declared.Token.{Token}
use Rattle.tree_nodes.specs.Syntax.Syntax as S
use Rattle.tree_nodes.specs.declared.tree.Leaf.{Leaf}
use Rattle.check_sites.specs.declared.entries.entry.Node.{Node}
use Rattle.check_sites.specs.declared.entries.entry.TextEntry.{TextEntry}
use Rattle.check_sites.specs.declared.entries.push.Place.{Place}
use Rattle.check_sites.specs.Entries.Entries.{Standing, standing, view_found, view_node}
use Rattle.check_sites.specs.Entries.Walk.{Adds, Lists}

pub on_ok : (r : Result (Unit {0}) AllocError) (P Q : Type 0) → (P → Q) → OnOk r P → OnOk r Q
on_ok (Ok x) P Q f p = f p
on_ok (Err e) P Q f p = p

-- an entry at the end
pub adds_one : (old new : List TextEntry) (p : Place) (n : Node) → new ≡ old ++ record { rule = p.rule; holder = p.holder; node = n } ∷ [] → Adds old new p (λ read. view_node read n ∷ [])
adds_one old new p n e = record { lists = record { each = λ read. ap (map (view_found read)) e ∙ map-append (view_found read) old (record { rule = p.rule; holder = p.holder; node = n } ∷ []) } }

pub lists_none : (old : List TextEntry) (f : (Leaf → Token) → List Standing) → ((read : Leaf → Token) → f read ≡ []) → Lists old old f
lists_none old f e = record { each = λ read. sym (append-nil (map (view_found read) old)) ∙ ap (λ (xs : List Standing). map (view_found read) old ++ xs) (sym (e read)) }

pub lists_as : {a b : List TextEntry} {f : (Leaf → Token) → List Standing} (g : (Leaf → Token) → List Standing) → ((read : Leaf → Token) → g read ≡ f read) → Lists a b f → Lists a b g
lists_as {a} {b} {f} g e h = record { each = λ read. h.each read ∙ ap (λ (xs : List Standing). map (view_found read) a ++ xs) (sym (e read)) }

pub lists_both : {a b c : List TextEntry} {f g : (Leaf → Token) → List Standing} → Lists a b f → Lists b c g → Lists a c (λ read. f read ++ g read)
lists_both {a} {b} {c} {f} {g} x y = record {
  each = λ read. y.each read ∙ ap (λ (xs : List Standing). xs ++ g read) (x.each read) ∙ append_assoc (map (view_found read) a) (f read) (g read);
}

pub adds_as : {a b : List TextEntry} {p : Place} {f : (Leaf → Token) → List S.GrpEnt} (g : (Leaf → Token) → List S.GrpEnt) → ((read : Leaf → Token) → g read ≡ f read) → Adds a b p f → Adds a b p g
adds_as {a} {b} {p} {f} g e h = record { lists = lists_as (λ read. standing p.rule p.holder (g read)) (λ read. ap (standing p.rule p.holder) (e read)) h.lists }

standing-append : (p : Place) (es fs : List S.GrpEnt) → standing p.rule p.holder (es ++ fs) ≡ standing p.rule p.holder es ++ standing p.rule p.holder fs
standing-append p [] fs = refl
standing-append p (e ∷ es) fs = ap (λ (xs : List Standing). record { rule = p.rule; holder = p.holder; entry = e } ∷ xs) (standing-append p es fs)

pub adds_both : {a b c : List TextEntry} {p : Place} {f g : (Leaf → Token) → List S.GrpEnt} → Adds a b p f → Adds b c p g → Adds a c p (λ read. f read ++ g read)
adds_both {a} {b} {c} {p} {f} {g} x y = record { lists = lists_as (λ read. standing p.rule p.holder (f read ++ g read)) (λ read. standing-append p (f read) (g read)) (lists_both x.lists y.lists) }

pub adds : {a b : List TextEntry} (p : Place) (f : (Leaf → Token) → List S.GrpEnt) → Lists a b (λ read. standing p.rule p.holder (f read)) → Adds a b p f
adds p f h = record { lists = h }

pub adds_none : (a : List TextEntry) (p : Place) (f : (Leaf → Token) → List S.GrpEnt) → ((read : Leaf → Token) → f read ≡ []) → Adds a a p f
adds_none a p f e = record { lists = lists_none a (λ read. standing p.rule p.holder (f read)) (λ read. ap (standing p.rule p.holder) (e read)) }

pub next_drop : {A : Type 0} (xs : List A) (i : ℕ) (d : A) → i < length xs → drop i xs ≡ get_or xs i d ∷ drop (i + 1) xs
next_drop xs i d l = drop-cons xs i d l ∙ ap (λ j. get_or xs i d ∷ drop j xs) step
  where
    step : suc i ≡ i + 1
    step = omega arith

-- What a loop over parts adds: if what is left is added, all is. (`all`: what parts add, from a place on.)
pub record Continues (A : Type 0) (all : ℕ → (Leaf → Token) → List A → List Standing) (old now : List TextEntry) (parts : List A) (k : ℕ) : Type 0 where
  pub follows : (new : List TextEntry) → Lists now new (λ read. all k read (drop k parts)) → Lists old new (λ read. all 0 read parts)

pub continues_first : (A : Type 0) (all : ℕ → (Leaf → Token) → List A → List Standing) (now : List TextEntry) (parts : List A) → Continues A all now now parts 0
continues_first A all now parts = record { follows = λ new g. g }

module _ (A : Type 0) (all : ℕ → (Leaf → Token) → List A → List Standing) (old now : List TextEntry) (parts : List A) where
  pub continues_next : (one : ℕ → (Leaf → Token) → A → List Standing) → ((k : ℕ) (read : Leaf → Token) (x : A) (xs : List A) → all k read (x ∷ xs) ≡ one k read x ++ all (k + 1) read xs) → (next : List TextEntry) (k : ℕ) (x : A) → k < length parts → x ≡ get_or parts k x → Lists now next (λ read. one k read x) → Continues A all old now parts k → Continues A all old next parts (k + 1)
  continues_next one step next k x le is h c = record {
    follows = λ new g.
        c.follows new
        (lists_as (λ read. all k read (drop k parts))
        (λ read. ap (all k read) (next_drop parts k x le ∙ ap (λ (y : A). y ∷ drop (k + 1) parts) (sym is)) ∙ step k read x (drop (k + 1) parts))
        (lists_both h g));
  }

  pub continues_last : ((k : ℕ) (read : Leaf → Token) → all k read [] ≡ []) → (k : ℕ) (whole : List A) → length parts ≤ k → parts ≡ whole → Continues A all old now parts k → Lists old now (λ read. all 0 read whole)
  continues_last none k whole le e c =
      subst (λ (xs : List A). Lists old now (λ read. all 0 read xs)) e
      (c.follows now (lists_none now (λ read. all k read (drop k parts)) (λ read. ap (all k read) (drop_of_length-le parts le) ∙ none k read)))

-- the parts of a list at one place
abbrev pub several : {A : Type 0} → Place → ((Leaf → Token) → A → List S.GrpEnt) → ℕ → (Leaf → Token) → List A → List Standing
several p part k read xs = standing p.rule p.holder (flat_map (part read) xs)

abbrev pub one_of : {A : Type 0} → Place → ((Leaf → Token) → A → List S.GrpEnt) → ℕ → (Leaf → Token) → A → List Standing
one_of p part k read x = standing p.rule p.holder (part read x)

pub several_next : {A : Type 0} (p : Place) (part : (Leaf → Token) → A → List S.GrpEnt) (k : ℕ) (read : Leaf → Token) (x : A) (xs : List A) → several p part k read (x ∷ xs) ≡ one_of p part k read x ++ several p part (k + 1) read xs
several_next p part k read x xs = standing-append p (part read x) (flat_map (part read) xs)

pub several_none : {A : Type 0} (p : Place) (part : (Leaf → Token) → A → List S.GrpEnt) (k : ℕ) (read : Leaf → Token) → several p part k read [] ≡ []
several_none p part k read = refl
