-- What nodes end with.
use Rattle.std.proofs.Common.{◌≡◌, ℕ, suc, ◌-◌, List, [], ◌∷◌, ◌++◌, length, map, reverse, Some, None, slice_get, refl, sym, ap, subst, ◌∙◌, append_assoc, arith}
use Rattle.std.proofs.lemmas.List.{map-append, reverse-append}
use Rattle.lists.proofs.Lemmas.{same_some, some_none, there}
use Rattle.cddl_token.specs.declared.Token.{Token}
use Rattle.cddl_token.specs.declared.Kind.TheVariants.{Slash}
use Rattle.tree_nodes.specs.Syntax.Syntax as S
use Rattle.tree_nodes.specs.declared.tree.Leaf.{Leaf}
use Rattle.tree_nodes.specs.declared.tree.Further.{Further}
use Rattle.tree_nodes.specs.declared.tree.Types.{Types}
use Rattle.tree_nodes.specs.declared.tree.GrpEnt.TheViews.{out-Types}
use Rattle.tree_nodes.specs.View.{StartsAt, view_further, view_type1, view_types, with_types}
use Rattle.tree_nodes.proofs.Lemmas.{view-Further, view_out-Types}
use Rattle.source_pieces.specs.Spans.{EndsAt, IsSpan}
use Rattle.source_pieces.specs.declared.span.Span.{Span}

-- one token by itself, at the end of others, and tokens in front of others
pub alone : (l : S.Lexeme) (at : ℕ) → at ≡ (l.1).end → EndsAt (l ∷ []) at
alone l at h = record { front = []; last = l; split = refl; ends = h }

pub behind : (xs : List S.Lexeme) {ys : List S.Lexeme} {at : ℕ} → EndsAt ys at → EndsAt (xs ++ ys) at
behind xs h = record { front = xs ++ h.front; last = h.last; split = ap (λ zs. xs ++ zs) h.split ∙ sym (append_assoc xs h.front (h.last ∷ [])); ends = h.ends }

pub behind_one : (l : S.Lexeme) {ys : List S.Lexeme} {at : ℕ} → EndsAt ys at → EndsAt (l ∷ ys) at
behind_one l h = behind (l ∷ []) h

-- the last of a list
pub last_split : {A : Type 0} (xs : List A) (x : A) → slice_get xs (length xs - 1) ≡ Some x → (front : List A) × (xs ≡ front ++ x ∷ [])
last_split [] x e = cc
last_split (y ∷ []) x e = ([], ap (λ z. z ∷ []) (same_some e))
last_split (y ∷ z ∷ zs) x e =
    let h = last_split (z ∷ zs) x (ap (slice_get (y ∷ z ∷ zs)) step ∙ e) in
    (y ∷ h.0, ap (λ ws. y ∷ ws) h.1)
  where
    step : suc (length (z ∷ zs) - 1) ≡ length (y ∷ z ∷ zs) - 1
    step = omega arith

with_last : (t : S.Types) (xs : List (Token × S.Type1)) (x : Token × S.Type1) → with_types t (xs ++ x ∷ []) ≡ S.or (with_types t xs) x.0 x.1
with_last t [] x = refl
with_last t (y ∷ xs) x = with_last (S.or t y.0 y.1) xs x

module _ (read : Leaf → Token) where
  pub no_last : (t : Types) (at : ℕ) → (out-Types t).others.items ≡ [] → EndsAt (S.flat_type1 (view_type1 read (out-Types t).first)) at → EndsAt (S.flat_types (view_types read t)) at
  no_last t at none h = subst (λ (x : S.Types). EndsAt (S.flat_types x) at) (sym (view_out-Types read t ∙ ap (λ xs. with_types (S.only (view_type1 read (out-Types t).first)) (map (view_further read) xs)) none)) h

  pub some_last : (t : Types) (x : Further) (at : ℕ) → slice_get (out-Types t).others.items (length (out-Types t).others.items - 1) ≡ Some x → EndsAt (S.flat_type1 (view_type1 read x.type1)) at → EndsAt (S.flat_types (view_types read t)) at
  some_last t x at is h =
      let s = last_split (out-Types t).others.items x is in
      let first = S.only (view_type1 read (out-Types t).first) in
      let whole : view_types read t ≡ S.or (with_types first (map (view_further read) s.0)) (view_further read x).0 (view_further read x).1 =
      view_out-Types read t
      ∙ ap (λ xs. with_types first (map (view_further read) xs)) s.1
      ∙ ap (with_types first) (map-append (view_further read) s.0 (x ∷ []))
      ∙ with_last first (map (view_further read) s.0) (view_further read x) in
      subst (λ (z : S.Types). EndsAt (S.flat_types z) at) (sym whole)
      (behind (S.flat_types (with_types first (map (view_further read) s.0)))
      (behind_one (Slash, (view_further read x).0)
      (subst (λ (y : Token × S.Type1). EndsAt (S.flat_type1 y.1) at) (sym (view-Further read x.sign x.type1)) h)))

-- a list whose last there is none has nothing
pub none_last : {A : Type 0} (xs : List A) → slice_get xs (length xs - 1) ≡ None → xs ≡ []
none_last [] e = refl
none_last (y ∷ ys) e = let w = there (y ∷ ys) (length (y ∷ ys) - 1) (omega arith) in absurd (some_none (sym w.1 ∙ e))

-- tokens begin at one offset, and end at one

one_start : (ts : List S.Lexeme) (a b : ℕ) → StartsAt ts a → StartsAt ts b → a ≡ b
one_start [] a b h g = absurd h
one_start (t ∷ ts) a b h g = h ∙ sym g

one_last : (xs ys : List S.Lexeme) (x y : S.Lexeme) → xs ++ x ∷ [] ≡ ys ++ y ∷ [] → x ≡ y
one_last xs ys x y e = same_some (ap (λ (zs : List S.Lexeme). slice_get zs 0) (sym (reverse-append xs (x ∷ [])) ∙ ap reverse e ∙ reverse-append ys (y ∷ [])))

one_end : (ts : List S.Lexeme) (a b : ℕ) → EndsAt ts a → EndsAt ts b → a ≡ b
one_end ts a b h g = h.ends ∙ ap (λ (l : S.Lexeme). (l.1).end) (one_last h.front g.front h.last g.last (sym h.split ∙ g.split)) ∙ sym g.ends

same_span : (a b : Span) → a.first ≡ b.first → a.end ≡ b.end → a ≡ b
same_span a b e f = ap (λ (n : ℕ). record { first = n; end = a.end }) e ∙ ap (λ (n : ℕ). record { first = b.first; end = n }) f

pub one_span : (ts : List S.Lexeme) (a b : Span) → IsSpan ts a → IsSpan ts b → a ≡ b
one_span ts a b h g = same_span a b (one_start ts a.first b.first h.starts g.starts) (one_end ts a.end b.end h.ends g.ends)
