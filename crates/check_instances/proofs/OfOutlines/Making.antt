-- Outlines that are made, one after the other.
use Rattle.std.proofs.Common.{◌≡◌, ◌⊎◌, inl, inr, ℕ, ◌+◌, ◌<◌, List, [], ◌∷◌, ◌++◌, length, drop, get_or, append_assoc, Option, Some, None, IfSome, refl, sym, ap, ◌∙◌, subst, drop-cons, add-one}
use Rattle.lists.proofs.Lemmas.{none_more}
use Rattle.cddl_language.specs.Reach.{Point, points, body_points}
use Rattle.cddl_language.specs.Substitution.{fill, fill_body}
use Rattle.cddl_language.specs.Terms as L
use Rattle.cddl_language.specs.Terms.{Text, Term, or}
use Rattle.check_terms.specs.declared.definition.Body.{Body}
use Rattle.check_terms.specs.declared.row.Form.TheVariants as F
use Rattle.check_terms.specs.declared.definition.Definition.{Definition}
use Rattle.check_terms.specs.Definitions.{AreDefinitions, no_definitions, further_definition, IsBody, IsDefinition, types}
use Rattle.check_terms.specs.Table.{Holds, HoldsText, no_text, node, Table, Tree}
use Rattle.check_terms.specs.Trees.{term_tree}
use Rattle.check_instances.specs.Lists.{IsIn}
use Rattle.check_instances.specs.Outlines.{AreOutlines, no_outlines, further_outline, body_of, HasOutline, HasOutlines, IsBodyOf, IsOutline, IsTermOf}
use Rattle.check_instances.proofs.Lists.{in_cases}

-- What stays when a table grows.

pub term_kept : (old new : Table) (x : L.Body) (ps : List Text) → ((n : Option ℕ) (y : Tree) → Holds old n y → Holds new n y) → (n : ℕ) → IsTermOf old x ps n → IsTermOf new x ps n
term_kept old new x ps kept n h = record { term = h.term; holds = kept (Some n) (term_tree h.term) h.holds; among = h.among }

-- References as choices.

pub chosen : (old new : Table) (x : L.Body) (ps : List Text) (n m k : ℕ) → ((w : Option Text) (a b : Tree) → HoldsText old.texts None w → Holds old (Some n) a → Holds old (Some m) b → Holds new (Some k) (node F.Or w a b)) → IsTermOf old x ps n → IsTermOf old x ps m → IsTermOf new x ps k
chosen old new x ps n m k stands g h = record {
  term = or g.term h.term;
  holds = stands None (term_tree g.term) (term_tree h.term) no_text g.holds h.holds;
  among = λ ts p i. by ts p (in_cases (points (fill ps ts g.term)) (points (fill ps ts h.term)) p i);
}
  where
    by : (ts : List Term) (p : Point) → IsIn p (points (fill ps ts g.term)) ⊎ IsIn p (points (fill ps ts h.term)) → IsIn p (body_points (fill_body ps ts x))
    by ts p (inl i) = g.among ts p i
    by ts p (inr i) = h.among ts p i

-- the choices, or the body where there are none
pub body_chosen : (t : Table) (x : L.Body) (ps : List Text) (o : Option ℕ) (b : Body) → IsBody t b x → IfSome o (IsTermOf t x ps) → IsBodyOf t x ps (body_of o b)
body_chosen t x ps None b h s = record { body = x; holds = h; among = λ ts p i. i }
body_chosen t x ps (Some n) b h s = record { body = L.of_types s.term; holds = types s.holds; among = s.among }

-- One more.

definitions_push : (t : Table) (ds : List Definition) (xs : List L.Definition) (d : Definition) (x : L.Definition) → AreDefinitions t ds xs → IsDefinition t d x → AreDefinitions t (ds ++ d ∷ []) (xs ++ x ∷ [])
definitions_push t ds xs d x no_definitions h = further_definition h no_definitions
definitions_push t ds xs d x (further_definition {ds = es} {xs = ys} k ks) h = further_definition k (definitions_push t es ys d x ks h)

outlines_push : (ys xs : List L.Definition) (y x : L.Definition) → AreOutlines ys xs → IsOutline y x → AreOutlines (ys ++ y ∷ []) (xs ++ x ∷ [])
outlines_push ys xs y x no_outlines h = further_outline h no_outlines
outlines_push ys xs y x (further_outline {ys = bs} {xs = zs} k ks) h = further_outline k (outlines_push bs zs y x ks h)

-- Some have their outlines, and these are left.
pub record AreOutlined (old now : Table) (xs : List L.Definition) (left made : List Definition) : Type 0 where
  pub before : List L.Definition
  pub after : List L.Definition
  pub whole : xs ≡ before ++ after
  pub are_left : AreDefinitions old left after
  pub are_made : HasOutlines now made before

pub none_outlined : (t : Table) (xs : List L.Definition) (ds : List Definition) → AreDefinitions t ds xs → AreOutlined t t xs ds []
none_outlined t xs ds h = record { before = []; after = xs; whole = refl; are_left = h; are_made = record { outlines = []; hold = no_definitions; are_outlines = no_outlines } }

module _ (old now new : Table) (xs : List L.Definition) (kept : (ds : List Definition) (ys : List L.Definition) → AreDefinitions now ds ys → AreDefinitions new ds ys) (made : List Definition) (b : Definition) where
  one_outlined : (d : Definition) (ds : List Definition) → ((x : L.Definition) → IsDefinition old d x → HasOutline new b x) → AreOutlined old now xs (d ∷ ds) made → AreOutlined old new xs ds (made ++ b ∷ [])
  one_outlined d ds is so = by so.after so.whole so.are_left
    where
      by : (after : List L.Definition) → xs ≡ so.before ++ after → AreDefinitions old (d ∷ ds) after → AreOutlined old new xs ds (made ++ b ∷ [])
      by after w (further_definition {x = x} {xs = ys} h hs) =
          let it = is x h in
          record {
            before = so.before ++ x ∷ [];
            after = ys;
            whole = w ∙ sym (append_assoc so.before (x ∷ []) ys);
            are_left = hs;
            are_made = record {
              outlines = so.are_made.outlines ++ it.outline ∷ [];
              hold = definitions_push new made so.are_made.outlines b it.outline (kept made so.are_made.outlines so.are_made.hold) it.holds;
              are_outlines = outlines_push so.are_made.outlines so.before it.outline x so.are_made.are_outlines it.is_outline;
            };
          }

  -- the same by the place of the definition
  pub next_outlined : (ds : List Definition) (i : ℕ) (d : Definition) → i < length ds → d ≡ get_or ds i d → ((x : L.Definition) → IsDefinition old d x → HasOutline new b x) → AreOutlined old now xs (drop i ds) made → AreOutlined old new xs (drop (i + 1) ds) (made ++ b ∷ [])
  next_outlined ds i d l e is so =
      let parts : drop i ds ≡ d ∷ drop (i + 1) ds = drop-cons ds i d l ∙ (λ z. sym e z ∷ drop (sym (add-one i) z) ds) in
      one_outlined d (drop (i + 1) ds) is (subst (λ es. AreOutlined old now xs es made) parts so)

pub all_outlined : (old now : Table) (xs : List L.Definition) (left made : List Definition) → left ≡ [] → AreOutlined old now xs left made → HasOutlines now made xs
all_outlined old now xs left made none so = by so.after so.whole (subst (λ ds. AreDefinitions old ds so.after) none so.are_left)
  where
    by : (after : List L.Definition) → xs ≡ so.before ++ after → AreDefinitions old [] after → HasOutlines now made xs
    by after w no_definitions = subst (HasOutlines now made) (sym (w ∙ none_more so.before)) so.are_made
