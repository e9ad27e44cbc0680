-- Lists of nodes that grow.
use Rattle.std.proofs.Common.{◌≡◌, ℕ, ◌+◌, ◌<◌, ◌≤◌, List, [], ◌∷◌, ◌++◌, length, map, drop, get_or, Result, Ok, Err, OnOk, sym, ap, ◌∙◌, subst, append_assoc}
use Rattle.std.proofs.lemmas.List.{append-nil, map-append, at_drop_more, at_drop_all}
use Rattle.std.specs.List.{flat_map}
use Rattle.std.specs.declared.alloc.AllocError.{AllocError}
use Rattle.cddl_token.specs.declared.Token.{Token}
use Rattle.tree_nodes.specs.declared.tree.Leaf.{Leaf}
use Rattle.source_pieces.specs.declared.node.Found.{Found}
use Rattle.source_pieces.specs.declared.node.Node.{Node}
use Rattle.source_pieces.specs.Pieces.{Piece, placed}
use Rattle.source_pieces.specs.Walk.{Adds, view_found, view_node}

pub on_ok : (r : Result (Unit {0}) AllocError) (P Q : Type 0) → (P → Q) → OnOk r P → OnOk r Q
on_ok (Ok x) P Q f p = f p
on_ok (Err e) P Q f p = p

-- a node at the end
pub adds_one : (old new : List Found) (k : ℕ) (n : Node) → new ≡ old ++ record { rule = k; node = n } ∷ [] → Adds old new k (λ read. view_node read n ∷ [])
adds_one old new k n e = record { each = λ read. ap (map (view_found read)) e ∙ map-append (view_found read) old (record { rule = k; node = n } ∷ []) }

pub adds_none : (old : List Found) (k : ℕ) (f : (Leaf → Token) → List Piece) → ((read : Leaf → Token) → f read ≡ []) → Adds old old k f
adds_none old k f e = record { each = λ read. sym (append-nil (map (view_found read) old)) ∙ ap (λ (xs : List (ℕ × Piece)). map (view_found read) old ++ xs) (sym (ap (placed k) (e read))) }

pub adds_as : {a b : List Found} {k : ℕ} {f : (Leaf → Token) → List Piece} (g : (Leaf → Token) → List Piece) → ((read : Leaf → Token) → g read ≡ f read) → Adds a b k f → Adds a b k g
adds_as {a} {b} {k} {f} g e h = record { each = λ read. h.each read ∙ ap (λ (ps : List Piece). map (view_found read) a ++ placed k ps) (sym (e read)) }

pub adds_both : {a b c : List Found} {k : ℕ} {f g : (Leaf → Token) → List Piece} → Adds a b k f → Adds b c k g → Adds a c k (λ read. f read ++ g read)
adds_both {a} {b} {c} {k} {f} {g} x y = record {
  each = λ read.
      y.each read
      ∙ ap (λ (xs : List (ℕ × Piece)). xs ++ placed k (g read)) (x.each read)
      ∙ append_assoc (map (view_found read) a) (placed k (f read)) (placed k (g read))
      ∙ ap (λ (xs : List (ℕ × Piece)). map (view_found read) a ++ xs) (sym (map-append (λ (p : Piece). (k, p)) (f read) (g read)));
}

-- What a loop over the parts of a node adds: if what is left is added, all is.
pub record Continues (A : Type 0) (part : (Leaf → Token) → A → List Piece) (old now : List Found) (k : ℕ) (parts : List A) (i : ℕ) : Type 0 where
  pub follows : (new : List Found) → Adds now new k (λ read. flat_map (part read) (drop i parts)) → Adds old new k (λ read. flat_map (part read) parts)

module _ (A : Type 0) (part : (Leaf → Token) → A → List Piece) (old now : List Found) (k : ℕ) (parts : List A) where
  pub continues_first : Adds old now k (λ read. []) → Continues A part old now k parts 0
  continues_first h = record { follows = λ new g. adds_both h g }

  pub continues_next : (next : List Found) (i : ℕ) (x : A) → i < length parts → x ≡ get_or parts i x → Adds now next k (λ read. part read x) → Continues A part old now k parts i → Continues A part old next k parts (i + 1)
  continues_next next i x le is h c = record {
    follows = λ new g.
        c.follows new
        (adds_as (λ read. flat_map (part read) (drop i parts))
        (λ read. at_drop_more (flat_map (part read)) parts i x le ∙ ap (λ (y : A). part read y ++ flat_map (part read) (drop (i + 1) parts)) (sym is))
        (adds_both h g));
  }

  pub continues_last : (i : ℕ) (all : List A) → length parts ≤ i → parts ≡ all → Continues A part old now k parts i → Adds old now k (λ read. flat_map (part read) all)
  continues_last i all le e c =
      subst (λ (xs : List A). Adds old now k (λ read. flat_map (part read) xs)) e
      (c.follows now (adds_none now k (λ read. flat_map (part read) (drop i parts)) (λ read. at_drop_all (flat_map (part read)) parts i le)))
