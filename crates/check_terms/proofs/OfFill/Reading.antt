-- The arguments of a reference, one after the other.
use Rattle.std.proofs.Common.{◌≡◌, ℕ, suc, ◌<◌, List, [], ◌∷◌, ◌++◌, append_assoc, Option, Some, None, IfSome, slice_get, refl, sym, ap, ◌∙◌, subst, arith, Bool, true, false, true≢false}
use Rattle.std.proofs.lemmas.List.{map-append}
use Rattle.std.proofs.lemmas.Option.{same_Some}
use Rattle.lists.proofs.Lemmas.{none_more}
use Rattle.cddl_language.specs.Terms.{number, text, bytes, Term, literal, named, parens, map_of, array_of, unwrapped, choice_of, choice_of_name, tagged, tagged_by, simple_by, hash, range, control, or, Terms, no_terms, term, term_list}
use Rattle.check_terms.specs.declared.row.Form.{Form}
use Rattle.check_terms.specs.declared.row.Form.TheVariants as F
use Rattle.check_terms.specs.declared.row.Row.{Row}
use Rattle.check_terms.specs.Filled.{term_trees}
use Rattle.check_terms.specs.Table.{IsTable, Table, Tree, node, nothing, Holds, no_part, part}
use Rattle.check_terms.specs.Trees.{term_tree, terms_tree}
use Rattle.check_terms.specs.Fill.Templates.{AreTrees, no_trees, further_tree}
use Rattle.check_terms.specs.Fill.Arguments.{argument_at, argument_in, argument_of}

trees_push : (t : Table) (ns : List ℕ) (xs : List Tree) (n : ℕ) (x : Tree) → AreTrees t ns xs → Holds t (Some n) x → AreTrees t (ns ++ n ∷ []) (xs ++ x ∷ [])
trees_push t ns xs n x no_trees h = further_tree h no_trees
trees_push t ns xs n x (further_tree {ns = ms} {xs = ys} k hs) h = further_tree k (trees_push t ms ys n x hs h)

-- Some are read, and these are left.
pub record AreRead (t : Table) (ts : Terms) (left : Option ℕ) (arguments : List ℕ) : Type 0 where
  pub before : List Term
  pub after : Terms
  pub whole : term_list ts ≡ before ++ term_list after
  pub are_read : AreTrees t arguments (term_trees before)
  pub holds : Holds t left (terms_tree after)

pub none_read : (t : Table) (ts : Terms) (first : Option ℕ) → Holds t first (terms_tree ts) → AreRead t ts first []
none_read t ts first h = record { before = []; after = ts; whole = refl; are_read = no_trees; holds = h }

-- the first of these, and those after it
split : (t : Table) (left : Option ℕ) (n : ℕ) (further : Option ℕ) (u : Term) (us : Terms) → argument_at t.rows left ≡ Some (n, further) → Holds t left (terms_tree (term u us)) → Holds t (Some n) (term_tree u) × Holds t further (terms_tree us)
split t left n further u us e (part {n = k} {m = m} {i = Some i} {j = j} h d p q) =
    let found = subst (λ o. argument_in o ≡ Some (n, further)) h e in
    let same = same_Some (i, j) (n, further) found in
    (subst (λ m. Holds t (Some m) (term_tree u)) (ap (λ (c : ℕ × Option ℕ). c.0) same) p, subst (λ o. Holds t o (terms_tree us)) (ap (λ (c : ℕ × Option ℕ). c.1) same) q)
split t left n further u us e (part {n = k} {m = m} {i = None} {j = j} h d p q) =
    let found = subst (λ o. argument_in o ≡ Some (n, further)) h e in
    cc

nothing_there : (t : Table) (left : Option ℕ) (n : ℕ) (further : Option ℕ) → argument_at t.rows left ≡ Some (n, further) → Holds t left (terms_tree no_terms) → ⊥
nothing_there t left n further e (part {n = k} h d p q) =
    let found = subst (λ o. argument_in o ≡ Some (n, further)) h e in
    cc

pub one_read : (t : Table) (ts : Terms) (left : Option ℕ) (arguments : List ℕ) (n : ℕ) (further : Option ℕ) → argument_at t.rows left ≡ Some (n, further) → AreRead t ts left arguments → AreRead t ts further (arguments ++ n ∷ [])
one_read t ts left arguments n further e so = by so.after so.whole so.holds
  where
    by : (us : Terms) → term_list ts ≡ so.before ++ term_list us → Holds t left (terms_tree us) → AreRead t ts further (arguments ++ n ∷ [])
    by no_terms w h = absurd (nothing_there t left n further e h)
    by (term u us) w h =
        let parts = split t left n further u us e h in
        record {
          before = so.before ++ u ∷ [];
          after = us;
          whole = w ∙ sym (append_assoc so.before (u ∷ []) (term_list us));
          are_read = subst (AreTrees t (arguments ++ n ∷ [])) (sym (map-append term_tree so.before (u ∷ []))) (trees_push t arguments (term_trees so.before) n (term_tree u) so.are_read parts.0);
          holds = parts.1;
        }

is_node : Tree → Bool
is_node nothing = false
is_node (node f x a b) = true

no_node : (t : Table) (x : Tree) → Holds t None x → is_node x ≡ false
unfolding is_node
no_node t x no_part = refl

term_is_node : (u : Term) → is_node (term_tree u) ≡ true
unfolding is_node
term_is_node (literal (number x)) = refl
term_is_node (literal (text x)) = refl
term_is_node (literal (bytes x)) = refl
term_is_node (named r) = refl
term_is_node (parens u) = refl
term_is_node (map_of g) = refl
term_is_node (array_of g) = refl
term_is_node (unwrapped r) = refl
term_is_node (choice_of g) = refl
term_is_node (choice_of_name r) = refl
term_is_node (tagged x u) = refl
term_is_node (tagged_by h u) = refl
term_is_node (simple_by h) = refl
term_is_node (hash x) = refl
term_is_node (range a c b) = refl
term_is_node (control a x b) = refl
term_is_node (or u v) = refl

something_there : (t : Table) (left : Option ℕ) (u : Term) (us : Terms) → argument_at t.rows left ≡ None → Holds t left (terms_tree (term u us)) → ⊥
something_there t left u us e (part {n = k} {m = m} {i = Some i} {j = j} h d p q) =
    let found = subst (λ o. argument_in o ≡ None) h e in
    cc
something_there t left u us e (part {n = k} {m = m} {i = None} {j = j} h d p q) = true≢false (sym (term_is_node u) ∙ no_node t (term_tree u) p)

pub all_read : (t : Table) (ts : Terms) (left : Option ℕ) (arguments : List ℕ) → argument_at t.rows left ≡ None → AreRead t ts left arguments → AreTrees t arguments (term_trees (term_list ts))
all_read t ts left arguments e so = by so.after so.whole so.holds
  where
    by : (us : Terms) → term_list ts ≡ so.before ++ term_list us → Holds t left (terms_tree us) → AreTrees t arguments (term_trees (term_list ts))
    by no_terms w h = subst (λ vs. AreTrees t arguments (term_trees vs)) (sym (w ∙ none_more so.before)) so.are_read
    by (term u us) w h = absurd (something_there t left u us e h)

-- The parts of a row stand before it.

abbrev pub above : Option ℕ → ℕ
above None = 0
above (Some n) = suc n

pub falls : (t : Table) → IsTable t → (left : Option ℕ) (n : ℕ) (further : Option ℕ) → argument_at t.rows left ≡ Some (n, further) → above further < above left
falls t is None n further e = cc
falls t is (Some k) n further e = by (slice_get t.rows k) refl e
  where
    below : (o : Option ℕ) → IfSome o (λ m. m < k) → above o < suc k
    below None h = omega arith
    below (Some m) h = omega (arith, h)

    second : (f : Form) (i j : Option ℕ) → argument_of f i j ≡ Some (n, further) → j ≡ further
    second F.Argument (Some i) j g = ap (λ (c : ℕ × Option ℕ). c.1) (same_Some (i, j) (n, further) g)
    second F.Argument None j g = cc
    second f i j g = cc

    by : (o : Option Row) → slice_get t.rows k ≡ o → argument_in o ≡ Some (n, further) → above further < suc k
    by None h g = cc
    by (Some r) h g = below further (subst (λ o. IfSome o (λ m. m < k)) (second r.form r.first r.second g) (is.earlier k r h).2)
