-- Lists of sites that grow.
use Rattle.std.proofs.Common.{◌≡◌, ℕ, ◌+◌, ◌<◌, ◌≤◌, Bool, true, false, ◌&&◌, if◌then◌else◌, List, [], ◌∷◌, ◌++◌, length, map, drop, get_or, Result, Ok, Err, OnOk, refl, sym, ap, ◌∙◌, subst, append_assoc}
use Rattle.std.proofs.lemmas.List.{append-nil, map-append, at_drop_more, at_drop_all}
use Rattle.std.specs.List.{flat_map}
use Rattle.std.specs.declared.alloc.AllocError.{AllocError}
use Rattle.cddl_token.specs.declared.Token.{Token}
use Rattle.tree_nodes.specs.declared.tree.Leaf.{Leaf}
use Rattle.cddl_language.specs.Sites as L
use Rattle.check_sites.specs.declared.sites.site.Site.{Site}
use Rattle.check_sites.specs.declared.sites.site.Found.{Found}
use Rattle.check_sites.specs.declared.sites.push.Place.{Place}
use Rattle.check_sites.specs.Sites.View.{view_site, view_found, outside}
use Rattle.check_sites.specs.Sites.Walk.{Adds, placed, kept, counted}

pub on_ok : (r : Result (Unit {0}) AllocError) (P Q : Type 0) → (P → Q) → OnOk r P → OnOk r Q
on_ok (Ok x) P Q f p = f p
on_ok (Err e) P Q f p = p

-- what is outside of arguments in two lists

choose : (b : Bool) (x : Found) (us vs ws : List Found) → us ≡ vs ++ ws → (if b then us else x ∷ us) ≡ (if b then vs else x ∷ vs) ++ ws
choose true x us vs ws e = e
choose false x us vs ws e = ap (λ (zs : List Found). x ∷ zs) e

outside-append : (xs ys : List Found) → outside (xs ++ ys) ≡ outside xs ++ outside ys
outside-append [] ys = refl
outside-append (x ∷ xs) ys = choose x.in_argument x (outside (xs ++ ys)) (outside xs) (outside ys) (outside-append xs ys)

kept-append : (i : Bool) (xs ys : List Found) → kept i (xs ++ ys) ≡ kept i xs ++ kept i ys
kept-append true xs ys = refl
kept-append false xs ys = outside-append xs ys

pub kept_none : (i : Bool) → kept i [] ≡ []
kept_none true = refl
kept_none false = refl

counted-append : (i a : Bool) (ps qs : List L.Site) → counted i a (ps ++ qs) ≡ counted i a ps ++ counted i a qs
counted-append true a ps qs = refl
counted-append false true ps qs = refl
counted-append false false ps qs = refl

counted_none : (i a : Bool) → counted i a [] ≡ []
counted_none true a = refl
counted_none false true = refl
counted_none false false = refl

counted_one : (read : Leaf → Token) (k : ℕ) (s : Site) (i a : Bool) → map (view_found read) (kept i (record { rule = k; in_argument = a; site = s } ∷ [])) ≡ placed k (counted i a (view_site read s ∷ []))
counted_one read k s true a = refl
counted_one read k s false true = refl
counted_one read k s false false = refl

-- a site at the end
pub adds_one : (old new : List Found) (p : Place) (s : Site) → new ≡ old ++ record { rule = p.rule; in_argument = p.in_argument; site = s } ∷ [] → Adds old new p (λ i read. view_site read s ∷ [])
adds_one old new p s e = record {
  each = λ i read.
      ap (λ (xs : List Found). map (view_found read) (kept i xs)) e
      ∙ ap (map (view_found read)) (kept-append i old (record { rule = p.rule; in_argument = p.in_argument; site = s } ∷ []))
      ∙ map-append (view_found read) (kept i old) (kept i (record { rule = p.rule; in_argument = p.in_argument; site = s } ∷ []))
      ∙ ap (λ (xs : List (ℕ × L.Site)). map (view_found read) (kept i old) ++ xs) (counted_one read p.rule s i p.in_argument);
}

pub adds_none : (old : List Found) (p : Place) (f : Bool → (Leaf → Token) → List L.Site) → ((i : Bool) (read : Leaf → Token) → f i read ≡ []) → Adds old old p f
adds_none old p f e = record {
  each = λ i read.
      sym (append-nil (map (view_found read) (kept i old)))
      ∙ ap (λ (xs : List (ℕ × L.Site)). map (view_found read) (kept i old) ++ xs) (sym (ap (placed p.rule) (ap (counted i p.in_argument) (e (i && p.enters) read) ∙ counted_none i p.in_argument)));
}

pub adds_as : {a b : List Found} {p : Place} {f : Bool → (Leaf → Token) → List L.Site} (g : Bool → (Leaf → Token) → List L.Site) → ((i : Bool) (read : Leaf → Token) → g i read ≡ f i read) → Adds a b p f → Adds a b p g
adds_as {a} {b} {p} {f} g e h = record {
  each = λ i read.
      h.each i read
      ∙ ap (λ (ps : List L.Site). map (view_found read) (kept i a) ++ placed p.rule (counted i p.in_argument ps)) (sym (e (i && p.enters) read));
}

pub adds_both : {a b c : List Found} {p : Place} {f g : Bool → (Leaf → Token) → List L.Site} → Adds a b p f → Adds b c p g → Adds a c p (λ i read. f i read ++ g i read)
adds_both {a} {b} {c} {p} {f} {g} x y = record {
  each = λ i read.
      y.each i read
      ∙ ap (λ (xs : List (ℕ × L.Site)). xs ++ placed p.rule (counted i p.in_argument (g (i && p.enters) read))) (x.each i read)
      ∙ append_assoc (map (view_found read) (kept i a)) (placed p.rule (counted i p.in_argument (f (i && p.enters) read))) (placed p.rule (counted i p.in_argument (g (i && p.enters) read)))
      ∙ ap (λ (xs : List (ℕ × L.Site)). map (view_found read) (kept i a) ++ xs)
      (sym (ap (placed p.rule) (counted-append i p.in_argument (f (i && p.enters) read) (g (i && p.enters) read)) ∙ map-append (λ (q : L.Site). (p.rule, q)) (counted i p.in_argument (f (i && p.enters) read)) (counted i p.in_argument (g (i && p.enters) read))));
}

-- what is in the arguments of a name is added as in an argument
in_applied : (f : Bool → List L.Site) (i a e : Bool) → e ≡ true → counted i true (f (i && true)) ≡ counted i a (if i && e then f (i && e) else [])
in_applied f true a e is = ap (λ (b : Bool). if b then f b else []) (sym is)
in_applied f false true e is = refl
in_applied f false false e is = refl

pub adds_inside : (a b : List Found) (p : Place) (f : Bool → (Leaf → Token) → List L.Site) → Adds a b (record { rule = p.rule; in_argument = true; enters = true }) f → p.enters ≡ true → Adds a b p (λ i read. if i then f i read else [])
adds_inside a b p f h is = record {
  each = λ i read.
      h.each i read
      ∙ ap (λ (ps : List L.Site). map (view_found read) (kept i a) ++ placed p.rule ps) (in_applied (λ j. f j read) i p.in_argument p.enters is);
}

-- what is in the arguments of a name is left out, where the walk does not enter them
none_entered : (f : Bool → List L.Site) (i e : Bool) → e ≡ false → (if i && e then f (i && e) else []) ≡ []
none_entered f true e is = ap (λ (b : Bool). if b then f b else []) is
none_entered f false e is = refl

pub adds_none_inside : (a : List Found) (p : Place) (f : Bool → (Leaf → Token) → List L.Site) → p.enters ≡ false → Adds a a p (λ i read. if i then f i read else [])
adds_none_inside a p f is = record {
  each = λ i read.
      sym (append-nil (map (view_found read) (kept i a)))
      ∙ ap (λ (xs : List (ℕ × L.Site)). map (view_found read) (kept i a) ++ xs) (sym (ap (placed p.rule) (ap (counted i p.in_argument) (none_entered (λ j. f j read) i p.enters is) ∙ counted_none i p.in_argument)));
}

-- What a loop over the parts of a node adds: if what is left is added, all is.
pub record Continues (A : Type 0) (part : Bool → (Leaf → Token) → A → List L.Site) (old now : List Found) (p : Place) (parts : List A) (k : ℕ) : Type 0 where
  pub follows : (new : List Found) → Adds now new p (λ i read. flat_map (part i read) (drop k parts)) → Adds old new p (λ i read. flat_map (part i read) parts)

module _ (A : Type 0) (part : Bool → (Leaf → Token) → A → List L.Site) (old now : List Found) (p : Place) (parts : List A) where
  pub continues_first : Adds old now p (λ i read. []) → Continues A part old now p parts 0
  continues_first h = record { follows = λ new g. adds_both h g }

  pub continues_next : (next : List Found) (k : ℕ) (x : A) → k < length parts → x ≡ get_or parts k x → Adds now next p (λ i read. part i read x) → Continues A part old now p parts k → Continues A part old next p parts (k + 1)
  continues_next next k x le is h c = record {
    follows = λ new g.
        c.follows new
        (adds_as (λ i read. flat_map (part i read) (drop k parts))
        (λ i read. at_drop_more (flat_map (part i read)) parts k x le ∙ ap (λ (y : A). part i read y ++ flat_map (part i read) (drop (k + 1) parts)) (sym is))
        (adds_both h g));
  }

  pub continues_last : (k : ℕ) (all : List A) → length parts ≤ k → parts ≡ all → Continues A part old now p parts k → Adds old now p (λ i read. flat_map (part i read) all)
  continues_last k all le e c =
      subst (λ (xs : List A). Adds old now p (λ i read. flat_map (part i read) xs)) e
      (c.follows now (adds_none now p (λ i read. flat_map (part i read) (drop k parts)) (λ i read. at_drop_all (flat_map (part i read)) parts k le)))
