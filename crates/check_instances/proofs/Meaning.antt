-- What the definitions of a name mean with arguments.
use Rattle.std.proofs.Common.{◌≡◌, ℕ, zero, suc, ◌+◌, ◌<◌, Bool, true, false, List, [], ◌∷◌, ◌++◌, length, drop, get_or, append_assoc, Option, Some, None, is_some, slice_get, refl, sym, ap, ◌∙◌, subst, drop-cons, add-one}
use Rattle.std.specs.Prelude.{if◌then◌else◌}
use Rattle.std.proofs.lemmas.List.{map-append}
use Rattle.std.proofs.lemmas.Option.{same_Some}
use Rattle.lists.proofs.Lemmas.{none_more}
use Rattle.cddl_language.specs.Environment as E
use Rattle.cddl_language.specs.Environment.{definitions_of, from_prelude, named_so}
use Rattle.cddl_language.specs.Prelude.{prelude}
use Rattle.cddl_language.specs.Substitution.{fill, fill_body, fill_entry}
use Rattle.cddl_language.specs.Terms as L
use Rattle.cddl_language.specs.Terms.{Text, Term, Entry, call}
use Rattle.check_terms.specs.declared.definition.Body.{Body}
use Rattle.check_terms.specs.declared.definition.Body.TheVariants as BodyV
use Rattle.check_terms.specs.declared.definition.Definition.{Definition}
use Rattle.check_terms.specs.declared.row.Row.{Row}
use Rattle.check_terms.specs.Definitions.{AreDefinitions, no_definitions, further_definition, IsBody, types, entry, IsDefinition}
use Rattle.check_terms.specs.Filled.{filled, term_trees}
use Rattle.check_terms.specs.Table.{Grows, Table, Tree, Holds, HoldsText, some_text, part}
use Rattle.check_terms.specs.Trees.{IsRef, term_tree, entry_tree, terms_tree}
use Rattle.check_names.specs.declared.environment.environment.Name.{Name}
use Rattle.check_names.specs.Environment.Environment.{AreAt, IsStanding, as_list, none_there, one_there}
use Rattle.check_names.specs.Environment.Names.{Standing}
use Rattle.check_terms.specs.declared.fill.template.Template.{Template}
use Rattle.check_terms.specs.Fill.Templates.{AreTrees, IsTemplate}
use Rattle.check_instances.specs.declared.patterns.Pattern.{Pattern}
use Rattle.check_instances.specs.Bodies.{AreBodies, no_bodies, further_body, AreMeanings, ArePatterns, no_patterns, further_pattern, IsPattern, filled_bodies}
use Rattle.check_instances.specs.Calls.{body_tree}
use Rattle.check_instances.specs.Steps.{kept_place, row_of, with_row}

-- Bodies and their rows.

pub body_holds : (t : Table) (b : Body) (x : L.Body) → IsBody t b x → Holds t (Some (row_of b)) (body_tree x)
body_holds t b x (types h) = h
body_holds t b x (entry h) = h

-- the same kind of body in the other row
other_row : (old new : Table) (b : Body) (x y : L.Body) (n : ℕ) (ps : List Text) (ts : List Term) → y ≡ fill_body ps ts x → IsBody old b x → Holds new (Some n) (body_tree y) → IsBody new (with_row b n) y
other_row old new b x y n ps ts e (types {x = u} h) k = subst (IsBody new (BodyV.Types n)) (sym e) (types (subst (λ z. Holds new (Some n) (body_tree z)) e k))
other_row old new b x y n ps ts e (entry {x = u} h) k = subst (IsBody new (BodyV.Entry n)) (sym e) (entry (subst (λ z. Holds new (Some n) (body_tree z)) e k))

-- the tree of a filled body
body_filled : ((ps : List Text) (xs : List Term) (t : Term) → filled ps (term_trees xs) (term_tree t) ≡ term_tree (fill ps xs t)) → ((ps : List Text) (xs : List Term) (e : Entry) → filled ps (term_trees xs) (entry_tree e) ≡ entry_tree (fill_entry ps xs e)) → (ps : List Text) (ts : List Term) (x : L.Body) → filled ps (term_trees ts) (body_tree x) ≡ body_tree (fill_body ps ts x)
body_filled f g ps ts (L.of_types t) = f ps ts t
body_filled f g ps ts (L.of_entry e) = g ps ts e

-- Patterns.

module _ (t : Table) where
  pub pattern_at : (ps : List Pattern) (ds : List L.Definition) → ArePatterns t ps ds → (i : ℕ) (d : L.Definition) → slice_get ds i ≡ Some d → (p : Pattern) × (slice_get ps i ≡ Some p) × IsPattern t p d
  pattern_at ps ds no_patterns i d e = cc
  pattern_at ps ds (further_pattern {p = p} {d = x} h hs) zero d e = (p, refl, subst (IsPattern t p) (same_Some x d e) h)
  pattern_at ps ds (further_pattern {ps = qs} {ds = es} h hs) (suc i) d e = pattern_at qs es hs i d e

  patterns_push : (ps : List Pattern) (ds : List L.Definition) (p : Pattern) (d : L.Definition) → ArePatterns t ps ds → IsPattern t p d → ArePatterns t (ps ++ p ∷ []) (ds ++ d ∷ [])
  patterns_push ps ds p d no_patterns h = further_pattern h no_patterns
  patterns_push ps ds p d (further_pattern {ps = qs} {ds = es} k ks) h = further_pattern k (patterns_push qs es p d ks h)

  -- Some have their patterns, and these are left.
  pub record AreMade (xs : List L.Definition) (left : List Definition) (made : List Pattern) : Type 0 where
    pub before : List L.Definition
    pub after : List L.Definition
    pub whole : xs ≡ before ++ after
    pub are_left : AreDefinitions t left after
    pub are_made : ArePatterns t made before

  pub none_made : (xs : List L.Definition) (ds : List Definition) → AreDefinitions t ds xs → AreMade xs ds []
  none_made xs ds h = record { before = []; after = xs; whole = refl; are_left = h; are_made = no_patterns }

  one_made : (xs : List L.Definition) (d : Definition) (ds : List Definition) (made : List Pattern) (p : Pattern) → ((x : L.Definition) → IsDefinition t d x → IsPattern t p x) → AreMade xs (d ∷ ds) made → AreMade xs ds (made ++ p ∷ [])
  one_made xs d ds made p is so = by so.after so.whole so.are_left
    where
      by : (after : List L.Definition) → xs ≡ so.before ++ after → AreDefinitions t (d ∷ ds) after → AreMade xs ds (made ++ p ∷ [])
      by after w (further_definition {x = x} {xs = ys} h hs) = record {
        before = so.before ++ x ∷ [];
        after = ys;
        whole = w ∙ sym (append_assoc so.before (x ∷ []) ys);
        are_left = hs;
        are_made = patterns_push made so.before p x so.are_made (is x h);
      }

  -- the same by the place of the definition
  pub next_made : (xs : List L.Definition) (ds : List Definition) (i : ℕ) (d : Definition) (made : List Pattern) (p : Pattern) → i < length ds → d ≡ get_or ds i d → ((x : L.Definition) → IsDefinition t d x → IsPattern t p x) → AreMade xs (drop i ds) made → AreMade xs (drop (i + 1) ds) (made ++ p ∷ [])
  next_made xs ds i d made p l e is so =
      let parts : drop i ds ≡ d ∷ drop (i + 1) ds = drop-cons ds i d l ∙ (λ z. sym e z ∷ drop (sym (add-one i) z) ds) in
      one_made xs d (drop (i + 1) ds) made p is (subst (λ es. AreMade xs es made) parts so)

  pub all_made : (xs : List L.Definition) (left : List Definition) (made : List Pattern) → left ≡ [] → AreMade xs left made → ArePatterns t made xs
  all_made xs left made none so = by so.after so.whole (subst (λ ds. AreDefinitions t ds so.after) none so.are_left)
    where
      by : (after : List L.Definition) → xs ≡ so.before ++ after → AreDefinitions t [] after → ArePatterns t made xs
      by after w no_definitions = subst (ArePatterns t made) (sym (w ∙ none_more so.before)) so.are_made

-- A filled definition is a body.
pub pattern_filled : ((ps : List Text) (xs : List Term) (t : Term) → filled ps (term_trees xs) (term_tree t) ≡ term_tree (fill ps xs t)) → ((ps : List Text) (xs : List Term) (e : Entry) → filled ps (term_trees xs) (entry_tree e) ≡ entry_tree (fill_entry ps xs e)) → (old new : Table) (patterns : List Pattern) (all : List L.Definition) (place : ℕ) (p : Pattern) (arguments : List ℕ) (n : ℕ) (d : L.Definition) (ts : List Term) → slice_get patterns place ≡ Some p → ((ps : List Text) (ys : List Tree) (x : Tree) → IsTemplate old ps p.template x → AreTrees old arguments ys → Holds new (Some n) (filled ps ys x)) → slice_get all place ≡ Some d → ArePatterns old patterns all → AreTrees old arguments (term_trees ts) → IsBody new (with_row p.body n) (fill_body d.parameters ts d.body)
pattern_filled f g old new patterns all place p arguments n d ts there fills e are trees =
    let q = pattern_at old patterns all are place d e in
    let is : IsPattern old p d = subst (λ (r : Pattern). IsPattern old r d) (same_Some q.0 p (sym q.1 ∙ there)) q.2 in
    let row = subst (Holds new (Some n)) (body_filled f g d.parameters ts d.body) (fills d.parameters (term_trees ts) (body_tree d.body) is.template trees) in
    other_row old new p.body d.body (fill_body d.parameters ts d.body) n d.parameters ts refl is.body row

-- Bodies one after the other.

bodies_push : (t : Table) (bs : List Body) (xs : List L.Body) (b : Body) (x : L.Body) → AreBodies t bs xs → IsBody t b x → AreBodies t (bs ++ b ∷ []) (xs ++ x ∷ [])
bodies_push t bs xs b x no_bodies h = further_body h no_bodies
bodies_push t bs xs b x (further_body {bs = cs} {xs = ys} k ks) h = further_body k (bodies_push t cs ys b x ks h)

pub bodies_kept : (old new : Table) → ((b : Body) (x : L.Body) → IsBody old b x → IsBody new b x) → (bs : List Body) (xs : List L.Body) → AreBodies old bs xs → AreBodies new bs xs
bodies_kept old new kept bs xs no_bodies = no_bodies
bodies_kept old new kept bs xs (further_body {b = b} {x = x} {bs = cs} {xs = ys} h hs) = further_body (kept b x h) (bodies_kept old new kept cs ys hs)

-- one, where there is one
pub known_filled : (t : Table) (all : List L.Definition) (place : Option ℕ) (ds : List L.Definition) (ts : List Term) (found : List Body) → AreAt all (as_list place) ds → (place ≡ None → found ≡ []) → ((i : ℕ) → place ≡ Some i → (b : Body) × (found ≡ b ∷ []) × ((d : L.Definition) → slice_get all i ≡ Some d → IsBody t b (fill_body d.parameters ts d.body))) → AreBodies t found (filled_bodies ts ds)
known_filled t all None ds ts found at none some = by ds at
  where
    by : (es : List L.Definition) → AreAt all [] es → AreBodies t found (filled_bodies ts es)
    by es none_there = subst (λ bs. AreBodies t bs []) (sym (none refl)) no_bodies
known_filled t all (Some i) ds ts found at none some = by ds at
  where
    by : (es : List L.Definition) → AreAt all (i ∷ []) es → AreBodies t found (filled_bodies ts es)
    by es (one_there {x = d} {ys = ys} e h) = last ys h
      where
        last : (zs : List L.Definition) → AreAt all [] zs → AreBodies t found (filled_bodies ts (d ∷ zs))
        last zs none_there = let b = some i refl in subst (λ bs. AreBodies t bs (fill_body d.parameters ts d.body ∷ [])) (sym b.1) (further_body (b.2 d e) no_bodies)

-- Some places are filled, and these are left.
pub record AreDone (old now : Table) (all : List L.Definition) (ds : List L.Definition) (ts : List Term) (front : List L.Body) (left : List ℕ) (found : List Body) : Type 0 where
  pub before : List L.Definition
  pub after : List L.Definition
  pub whole : ds ≡ before ++ after
  pub are_left : AreAt all left after
  pub are_done : AreBodies now found (front ++ filled_bodies ts before)

pub none_done : (t : Table) (all ds : List L.Definition) (ts : List Term) (front : List L.Body) (places : List ℕ) (found : List Body) → AreAt all places ds → AreBodies t found front → AreDone t t all ds ts front places found
none_done t all ds ts front places found at bs = record { before = []; after = ds; whole = refl; are_left = at; are_done = subst (AreBodies t found) (sym (none_more front)) bs }

module _ (old now new : Table) (all ds : List L.Definition) (ts : List Term) (front : List L.Body) (found : List Body) (kept : (b : Body) (x : L.Body) → IsBody now b x → IsBody new b x) (b : Body) where
  one_done : (place : ℕ) (left : List ℕ) → ((d : L.Definition) → slice_get all place ≡ Some d → IsBody new b (fill_body d.parameters ts d.body)) → AreDone old now all ds ts front (place ∷ left) found → AreDone old new all ds ts front left (found ++ b ∷ [])
  one_done place left is so = by so.after so.whole so.are_left
    where
      by : (after : List L.Definition) → ds ≡ so.before ++ after → AreAt all (place ∷ left) after → AreDone old new all ds ts front left (found ++ b ∷ [])
      by after w (one_there {x = d} {ys = ys} e h) = record {
        before = so.before ++ d ∷ [];
        after = ys;
        whole = w ∙ sym (append_assoc so.before (d ∷ []) ys);
        are_left = h;
        are_done = subst (AreBodies new (found ++ b ∷ [])) (sym joined) (bodies_push new found (front ++ filled_bodies ts so.before) b (fill_body d.parameters ts d.body) (bodies_kept now new kept found (front ++ filled_bodies ts so.before) so.are_done) (is d e));
      }
        where
          joined : front ++ filled_bodies ts (so.before ++ d ∷ []) ≡ (front ++ filled_bodies ts so.before) ++ fill_body d.parameters ts d.body ∷ []
          joined = ap (λ (xs : List L.Body). front ++ xs) (map-append (λ (e : L.Definition). fill_body e.parameters ts e.body) so.before (d ∷ [])) ∙ sym (append_assoc front (filled_bodies ts so.before) (fill_body d.parameters ts d.body ∷ []))

  -- the same by the place in the list
  pub next_done : (places : List ℕ) (i other : ℕ) → i < length places → ((d : L.Definition) → slice_get all (get_or places i other) ≡ Some d → IsBody new b (fill_body d.parameters ts d.body)) → AreDone old now all ds ts front (drop i places) found → AreDone old new all ds ts front (drop (i + 1) places) (found ++ b ∷ [])
  next_done places i other l is so =
      let parts : drop i places ≡ get_or places i other ∷ drop (i + 1) places = drop-cons places i other l ∙ ap (λ j. get_or places i other ∷ drop j places) (sym (add-one i)) in
      one_done (get_or places i other) (drop (i + 1) places) is (subst (λ ps. AreDone old now all ds ts front ps found) parts so)

pub all_done : (old now : Table) (all ds : List L.Definition) (ts : List Term) (front : List L.Body) (left : List ℕ) (found : List Body) → left ≡ [] → AreDone old now all ds ts front left found → AreBodies now found (front ++ filled_bodies ts ds)
all_done old now all ds ts front left found none so = by so.after so.whole (subst (λ ps. AreAt all ps so.after) none so.are_left)
  where
    by : (after : List L.Definition) → ds ≡ so.before ++ after → AreAt all [] after → AreBodies now found (front ++ filled_bodies ts ds)
    by after w none_there = subst (λ es. AreBodies now found (front ++ filled_bodies ts es)) (sym (w ∙ none_more so.before)) so.are_done

-- The definitions of a name.

pub kept_at : (xs : List L.Definition) (n : Text) (s : Standing) → IsStanding xs n s → AreAt prelude (as_list (kept_place s)) (from_prelude xs n)
kept_at xs n s is = subst (λ b. AreAt prelude (as_list (kept_place s)) (if b then [] else named_so n prelude)) is.replaced (by (is_some s.first_equals))
  where
    by : (b : Bool) → AreAt prelude (as_list (if b then None else s.known)) (if b then [] else named_so n prelude)
    by true = none_there
    by false = is.known

pub name_filled : (xs : List L.Definition) (n : Text) (ts : List Term) → filled_bodies ts (from_prelude xs n) ++ filled_bodies ts (E.counting false (named_so n xs)) ≡ filled_bodies ts (definitions_of xs n)
name_filled xs n ts = sym (map-append (λ (d : L.Definition). fill_body d.parameters ts d.body) (from_prelude xs n) (E.counting false (named_so n xs)))

-- a reference by its row
pub ref_parts : (t : Table) (k : ℕ) (r : Row) (n : Text) (ts : L.Terms) → slice_get t.rows k ≡ Some r → IsRef t k (call n ts) → HoldsText t.texts r.text (Some n) × Holds t r.first (terms_tree ts)
ref_parts t k r n ts e (part {m = m} {i = i} {j = j} h d u v) =
    let same = same_Some _ r (sym h ∙ e) in
    (subst (λ (q : Row). HoldsText t.texts q.text (Some n)) same d, subst (λ (q : Row). Holds t q.first (terms_tree ts)) same u)

pub text_number : (xs : List Text) (m : Option ℕ) (n : Text) → HoldsText xs m (Some n) → (k : ℕ) × (m ≡ Some k) × (slice_get xs k ≡ Some n)
text_number xs m n (some_text {n = k} e) = (k, refl, e)

pub patterns_kept : (old new : Table) → ((b : Body) (x : L.Body) → IsBody old b x → IsBody new b x) → ((ps : List Text) (m : Template) (x : Tree) → IsTemplate old ps m x → IsTemplate new ps m x) → (ps : List Pattern) (ds : List L.Definition) → ArePatterns old ps ds → ArePatterns new ps ds
patterns_kept old new body template ps ds no_patterns = no_patterns
patterns_kept old new body template ps ds (further_pattern {p = p} {d = d} {ps = qs} {ds = es} h hs) = further_pattern (record { body = body p.body d.body h.body; template = template d.parameters p.template (body_tree d.body) h.template }) (patterns_kept old new body template qs es hs)

pub meanings_kept : (xs : List L.Definition) (old new : Table) (names : List Name) (known own : List Pattern) → Grows old new → ((a b c : Table) → Grows a b → Grows b c → Grows a c) → ((ps : List Pattern) (ds : List L.Definition) → ArePatterns old ps ds → ArePatterns new ps ds) → AreMeanings xs old names known own → AreMeanings xs new names known own
meanings_kept xs old new names known own grows further kept so = record {
  stand = λ t g. so.stand t (further old new t grows g);
  of_prelude = kept known prelude so.of_prelude;
  of_text = kept own xs so.of_text;
}
