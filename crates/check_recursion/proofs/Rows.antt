-- The steps by rows and places are those of what they stand for.
use Rattle.std.proofs.Common.{◌≡◌, ℕ, zero, suc, ◌<◌, inl, inr, Bool, true, false, List, [], ◌∷◌, ◌++◌, length, Option, Some, None, refl, sym, ap, subst, ◌∙◌, slice_get}
use Rattle.std.proofs.lemmas.Option.{slice_get_within}
use Rattle.lists.proofs.Lemmas.{false_true}
use Rattle.cddl_meaning.specs.Alike.{AlikeAll, both}
use Rattle.cddl_language.specs.Controls.{control_of, is_asked_here}
use Rattle.cddl_language.specs.Free.{MayBeEmpty}
use Rattle.cddl_language.specs.Kinds as K
use Rattle.cddl_language.specs.Kinds.{Opened, opened, is_group, names_group, part_of}
use Rattle.cddl_language.specs.Reach.{at_name, at_unwrapping, at_choice, at_chosen_name, at_opened_choice, points, entries_points, entry_points}
use Rattle.cddl_language.specs.StandsFor.{AreInstances}
use Rattle.cddl_language.specs.Substitution.{type_choices, group_choices}
use Rattle.cddl_language.specs.Terms.{Text, literal, number, text, bytes, Term, named, parens, map_of, array_of, unwrapped, choice_of, choice_of_name, tagged, tagged_by, simple_by, hash, range, control, or, Ref, call, Group, sole, orelse, Entries, no_entries, entries, Entry, typed, keyed, grouped, Definition, alternatives, name_of}
use Rattle.check_terms.specs.declared.row.Form.{Form}
use Rattle.check_terms.specs.declared.row.Form.TheVariants as F
use Rattle.check_terms.specs.declared.row.Row as R
use Rattle.check_terms.specs.Table.{IsTable, Table, Tree, nothing, node, Holds, no_part, part, HoldsText, some_text}
use Rattle.check_terms.specs.Trees.{IsTerm, IsRef, IsGroup, IsEntries, IsEntry, term_tree, ref_tree, terms_tree, group_tree, entries_tree, entry_tree, key_tree}
use Rattle.check_names.specs.Kinds.Kinds.{AreKinds}
use Rattle.check_instances.specs.declared.closed.closed.Meaning.{Meaning}
use Rattle.check_instances.specs.Closed.Closed.{AreAlternatives, no_alternatives, alternatives_of, AreReached, ArePlaces, IsMeaning, TermRow}
use Rattle.check_groups.specs.Choosing.Choosing.{AreChoosable}
use Rattle.check_instances.specs.declared.openings.openings.Opening.{Opening}
use Rattle.check_instances.specs.declared.openings.openings.Part.{Part}
use Rattle.check_instances.specs.Openings.Openings.{AreOpenings, IsOpened, nothing as opens_nothing, group_opened, type_opened, IsPart, a_type as part_type, a_group as part_group, an_opened_group}
use Rattle.check_groups.specs.Empty.Empty.{AreEmpty}
use Rattle.check_recursion.specs.declared.node.Node.{Node}
use Rattle.check_recursion.specs.declared.node.Node.TheVariants as N
use Rattle.check_recursion.specs.Asking as A
use Rattle.check_recursion.specs.Asking.{Asked, a_type, a_group, some_entries, an_entry, chosen_group, chosen_entries, chosen_entry, a_point, Asks, IsReached}
use Rattle.check_recursion.specs.Edges as E
use Rattle.check_recursion.specs.Edges.{Known, Has, Leads, by_row, by_chosen, by_group, by_type, by_opening, by_choice, by_chosen_name, by_opened_choice, row_node, chosen_node, name_node, unwrapping_node, choice_node, place_of, place_in, flagged, if_set, when, asks_here, text_asks, part_node, part_at, part_in, steps_by, chosen_by, row_steps, chosen_steps, is_group_call, text_of, opened_row, opened_group}
use Rattle.check_recursion.specs.Standing.{Stands, type_row, group_row, entries_row, entry_row, chosen_group_row, chosen_entries_row, chosen_entry_row, name_place, unwrapping_place, choice_place, chosen_name_place, opened_choice_place}
use Rattle.check_recursion.proofs.Freely.{In, in_list, contained}
use Rattle.check_recursion.proofs.Presence.{AreInstancesOn, first, front}

-- alternatives tell their group

last_same : (xs ys : List Entries) (x y : Entries) → xs ++ x ∷ [] ≡ ys ++ y ∷ [] → (xs ≡ ys) × (x ≡ y)
last_same [] [] x y e = (refl, cc)
last_same [] (z ∷ []) x y e = cc
last_same [] (z ∷ w ∷ ys) x y e = cc
last_same (z ∷ []) [] x y e = cc
last_same (z ∷ w ∷ xs) [] x y e = cc
last_same (z ∷ xs) (w ∷ ys) x y e = let r = last_same xs ys x y (rest e) in (ap (λ (us : List Entries). z ∷ us) r.0 ∙ ap (λ v. v ∷ ys) (first e), r.1)
  where
    rest : z ∷ (xs ++ x ∷ []) ≡ w ∷ (ys ++ y ∷ []) → xs ++ x ∷ [] ≡ ys ++ y ∷ []
    rest f = cc

    first : z ∷ (xs ++ x ∷ []) ≡ w ∷ (ys ++ y ∷ []) → z ≡ w
    first f = cc

some_alternative : (g : Group) → alternatives g ≡ [] → ⊥
some_alternative (sole es) e = cc
some_alternative (orelse g es) e = by (alternatives g) e
  where
    by : (xs : List Entries) → xs ++ es ∷ [] ≡ [] → ⊥
    by [] f = cc
    by (x ∷ xs) f = cc

same_group : (g h : Group) → alternatives g ≡ alternatives h → g ≡ h
same_group (sole es) (sole fs) e = ap sole (last_same [] [] es fs e).1
same_group (sole es) (orelse h fs) e = absurd (some_alternative h (sym (last_same [] (alternatives h) es fs e).0))
same_group (orelse g es) (sole fs) e = absurd (some_alternative g (last_same (alternatives g) [] es fs e).0)
same_group (orelse g es) (orelse h fs) e =
    let r = last_same (alternatives g) (alternatives h) es fs e in
    ap (λ x. orelse x es) (same_group g h r.0) ∙ ap (orelse h) r.1

-- lists that are related one for one

pub alike_at : {N M : Type 0} (R : N → M → Type 0) (ns : List N) (ms : List M) → AlikeAll R ns ms → (k : ℕ) (n : N) → slice_get ns k ≡ Some n → (m : M) × (slice_get ms k ≡ Some m) × R n m
alike_at R [] ms h k n e = cc
alike_at {N = N} {M = M} R (n ∷ ns) [] h k x e = elim h [ ]
alike_at {N = N} {M = M} R (n ∷ ns) (m ∷ ms) (both h hs) zero x e = (m, refl, subst (λ (y : N). R y m) (same n x e) h)
  where
    same : (y z : N) → Some y ≡ Some z → y ≡ z
    same y z e = cc
alike_at R (n ∷ ns) (m ∷ ms) (both h hs) (suc k) x e = alike_at R ns ms hs k x e

pub alike_there : {N M : Type 0} (R : N → M → Type 0) (ns : List N) (ms : List M) → AlikeAll R ns ms → (k : ℕ) (m : M) → slice_get ms k ≡ Some m → (n : N) × (slice_get ns k ≡ Some n) × R n m
alike_there R ns [] h k m e = cc
alike_there {N = N} {M = M} R [] (m ∷ ms) h k x e = elim h [ ]
alike_there {N = N} {M = M} R (n ∷ ns) (m ∷ ms) (both h hs) zero x e = (n, refl, subst (λ (y : M). R n y) (same m x e) h)
  where
    same : (y z : M) → Some y ≡ Some z → y ≡ z
    same y z e = cc
alike_there R (n ∷ ns) (m ∷ ms) (both h hs) (suc k) x e = alike_there R ns ms hs k x e

pub alike_left : {N M : Type 0} (R : N → M → Type 0) (ns : List N) (ms : List M) → AlikeAll R ns ms → (n : N) → In ns n → (m : M) × (In ms m) × R n m
alike_left R [] ms h n i = absurd i
alike_left {N = N} {M = M} R (x ∷ ns) [] h n i = elim h [ ]
alike_left {N = N} {M = M} R (x ∷ ns) (m ∷ ms) (both h hs) n (inl e) = (m, inl refl, subst (λ (y : N). R y m) e h)
alike_left R (x ∷ ns) (m ∷ ms) (both h hs) n (inr i) = let r = alike_left R ns ms hs n i in (r.0, inr r.1, r.2)

alike_right : {N M : Type 0} (R : N → M → Type 0) (ns : List N) (ms : List M) → AlikeAll R ns ms → (m : M) → In ms m → (n : N) × (In ns n) × R n m
alike_right R ns [] h m i = absurd i
alike_right {N = N} {M = M} R [] (y ∷ ms) h m i = elim h [ ]
alike_right {N = N} {M = M} R (n ∷ ns) (y ∷ ms) (both h hs) m (inl e) = (n, inl refl, subst (λ (z : M). R n z) e h)
alike_right R (n ∷ ns) (y ∷ ms) (both h hs) m (inr i) = let r = alike_right R ns ms hs m i in (r.0, inr r.1, r.2)

pub slice_in : {X : Type 0} (xs : List X) (k : ℕ) (x : X) → slice_get xs k ≡ Some x → In xs x
slice_in [] k x e = cc
slice_in {X = X} (y ∷ xs) zero x e = inl (same y x e)
  where
    same : (y z : X) → Some y ≡ Some z → y ≡ z
    same y z e = cc
slice_in (y ∷ xs) (suc k) x e = inr (slice_in xs k x e)

-- trees

abbrev pub is_node : Tree → Bool
is_node nothing = false
is_node (node f x a b) = true

pub term_is_node : (x : Term) → is_node (term_tree x) ≡ true
term_is_node (literal (number n)) = refl
term_is_node (literal (text n)) = refl
term_is_node (literal (bytes n)) = refl
term_is_node (named s) = refl
term_is_node (parens y) = refl
term_is_node (map_of g) = refl
term_is_node (array_of g) = refl
term_is_node (unwrapped s) = refl
term_is_node (choice_of g) = refl
term_is_node (choice_of_name s) = refl
term_is_node (tagged n y) = refl
term_is_node (tagged_by z y) = refl
term_is_node (simple_by y) = refl
term_is_node (hash n) = refl
term_is_node (range y c z) = refl
term_is_node (control y n z) = refl
term_is_node (or y z) = refl

pub ref_is_node : (r : Ref) → is_node (ref_tree r) ≡ true
ref_is_node (call n ts) = refl

pub group_is_node : (g : Group) → is_node (group_tree g) ≡ true
group_is_node (sole es) = refl
group_is_node (orelse g es) = refl

pub entries_is_node : (es : Entries) → is_node (entries_tree es) ≡ true
entries_is_node no_entries = refl
entries_is_node (entries es e c) = refl

pub entry_is_node : (e : Entry) → is_node (entry_tree e) ≡ true
entry_is_node (typed o t) = refl
entry_is_node (keyed o k t) = refl
entry_is_node (grouped o g) = refl

none_there : (t : Table) (x : Tree) → Holds t None x → is_node x ≡ false
none_there t x no_part = refl

pub some_node : (t : Table) (o : Option ℕ) (x : Tree) → is_node x ≡ true → Holds t o x → (n : ℕ) × (o ≡ Some n) × Holds t (Some n) x
some_node t None x e h = absurd (false_true (sym (none_there t x h) ∙ e))
some_node t (Some n) x e h = (n, refl, h)

abbrev pub table_of : Known → Table
table_of b = record { texts = b.texts; rows = b.rows }

-- what is known is so
pub record IsKnown (xs : List Definition) (root : Text) (refs : List Ref) (b : Known) : Type 0 where
  pub table : IsTable (table_of b)
  pub instances : AreInstances xs root refs
  pub meanings : AlikeAll (IsMeaning xs (table_of b)) refs b.meanings
  pub places : ArePlaces (table_of b) refs b.places
  pub kinds : AreKinds b.texts xs b.kinds
  pub openings : AreOpenings xs (table_of b) refs b.openings
  pub parts : (n : ℕ) (x : Term) → IsTerm (table_of b) n x → AreReached xs root (points x) → (q : Part) × (slice_get b.parts n ≡ Some q) × IsPart (table_of b) refs (part_of xs x) q
  pub choosable : AreChoosable xs root (table_of b) b.choosable
  pub empty : AreEmpty xs root (table_of b) b.may_be_empty
  pub on : AreInstancesOn xs root
  pub equal : (n m : Option ℕ) (x : Tree) → Holds (table_of b) n x → Holds (table_of b) m x → n ≡ m
  pub same_ref : (n : ℕ) (r s : Ref) → IsRef (table_of b) n r → IsRef (table_of b) n s → r ≡ s

-- the row of a tree
pub record HasRow (b : Known) (n : ℕ) (f : Form) (x : Option Text) (a c : Tree) : Type 0 where
  pub name : Option ℕ
  pub first : Option ℕ
  pub second : Option ℕ
  pub there : slice_get b.rows n ≡ Some (record { form = f; text = name; first = first; second = second })
  pub has_name : HoldsText b.texts name x
  pub has_first : Holds (table_of b) first a
  pub has_second : Holds (table_of b) second c

pub row_at : (b : Known) (n : ℕ) (f : Form) (x : Option Text) (a c : Tree) → Holds (table_of b) (Some n) (node f x a c) → HasRow b n f x a c
row_at b n f x a c (part {m = m} {i = i} {j = j} e h g k) = record { name = m; first = i; second = j; there = e; has_name = h; has_first = g; has_second = k }

pub holds_within : (u : Table) (n : ℕ) (y : Tree) → Holds u (Some n) y → n < length u.rows
holds_within u n y (part {f = f} {m = m} {i = i} {j = j} e h g k) = slice_get_within u.rows n (record { form = f; text = m; first = i; second = j }) e

pub text_there : (texts : List Text) (o : Option ℕ) (x : Text) → HoldsText texts o (Some x) → (n : ℕ) × (o ≡ Some n) × (slice_get texts n ≡ Some x)
text_there texts o x (some_text {n = n} e) = (n, refl, e)

same_row : (r s : R.Row) (o : Option R.Row) → o ≡ Some r → o ≡ Some s → r ≡ s
same_row r s o e f = cc

row_leads : (b : Known) (n : ℕ) (m : Node) → Leads b (N.Row n) m → (r : R.Row) × (slice_get b.rows n ≡ Some r) × Has (row_steps b r) m
row_leads b n m (by_row {r = r} e h) = (r, e, h)

chosen_leads : (b : Known) (n : ℕ) (m : Node) → Leads b (N.Chosen n) m → (r : R.Row) × (slice_get b.rows n ≡ Some r) × Has (chosen_steps b r) m
chosen_leads b n m (by_chosen {r = r} e h) = (r, e, h)

pub only : (o : Option Node) (m : Node) → Has (E.one o) m → o ≡ Some m
only o m (inl e) = e
only o m (inr e) = cc

pub nowhere : (m : Node) → Has E.none m → ⊥
nowhere m (inl e) = cc
nowhere m (inr e) = cc

is_row : (o : Option ℕ) (m : Node) → row_node o ≡ Some m → (n : ℕ) × (o ≡ Some n) × (m ≡ N.Row n)
is_row None m e = cc
is_row (Some n) m e = (n, refl, cc)

pub is_chosen : (o : Option ℕ) (m : Node) → chosen_node o ≡ Some m → (n : ℕ) × (o ≡ Some n) × (m ≡ N.Chosen n)
is_chosen None m e = cc
is_chosen (Some n) m e = (n, refl, cc)

pub is_name : (o : Option ℕ) (m : Node) → name_node o ≡ Some m → (n : ℕ) × (o ≡ Some n) × (m ≡ N.Name n)
is_name None m e = cc
is_name (Some n) m e = (n, refl, cc)

pub is_unwrapping : (o : Option ℕ) (m : Node) → unwrapping_node o ≡ Some m → (n : ℕ) × (o ≡ Some n) × (m ≡ N.Unwrapping n)
is_unwrapping None m e = cc
is_unwrapping (Some n) m e = (n, refl, cc)

pub is_choice : (o : Option ℕ) (m : Node) → choice_node o ≡ Some m → (n : ℕ) × (o ≡ Some n) × (m ≡ N.Choice n)
is_choice None m e = cc
is_choice (Some n) m e = (n, refl, cc)

pub is_flagged : (flags : List Bool) (o : Option ℕ) (n : ℕ) → flagged flags o ≡ Some n → (o ≡ Some n) × (slice_get flags n ≡ Some true)
is_flagged flags None n e = cc
is_flagged flags (Some k) n e = by (slice_get flags k) refl e
  where
    same : (i j : ℕ) → Some i ≡ Some j → i ≡ j
    same i j f = cc

    by : (f : Option Bool) → slice_get flags k ≡ f → if_set k f ≡ Some n → (Some k ≡ Some n) × (slice_get flags n ≡ Some true)
    by None i g = cc
    by (Some true) i g = (g, subst (λ j. slice_get flags j ≡ Some true) (same k n g) i)
    by (Some false) i g = cc

pub flag_set : (flags : List Bool) (o : Option ℕ) (n : ℕ) → o ≡ Some n → slice_get flags n ≡ Some true → flagged flags o ≡ Some n
flag_set flags o n e f = ap (flagged flags) e ∙ ap (if_set n) f

is_place : (places : List (Option ℕ)) (o : Option ℕ) (k : ℕ) → place_of places o ≡ Some k → (n : ℕ) × (o ≡ Some n) × (slice_get places n ≡ Some (Some k))
is_place places None k e = cc
is_place places (Some n) k e = (n, refl, by (slice_get places n) e)
  where
    by : (p : Option (Option ℕ)) → place_in p ≡ Some k → p ≡ Some (Some k)
    by None f = cc
    by (Some p) f = ap Some f

when_true : (c : Bool) (o : Option ℕ) (n : ℕ) → when c o ≡ Some n → (c ≡ true) × (o ≡ Some n)
when_true true o n e = (refl, e)
when_true false o n e = cc

after_flag : (f o : Option ℕ) (n : ℕ) → E.if_some f o ≡ Some n → (k : ℕ) × (f ≡ Some k) × (o ≡ Some n)
after_flag None o n e = cc
after_flag (Some k) o n e = (k, refl, e)

module _ (xs : List Definition) (root : Text) (refs : List Ref) (b : Known) (is : IsKnown xs root refs b) where
  abbrev t : Table
  t = table_of b

  pub record Next (a : Asked) (m : Node) : Type 0 where
    pub next : Asked
    pub asks : Asks xs a next
    pub stands : Stands t refs m next

  to_row : (a next : Asked) (y : Tree) → ((k : ℕ) → Holds t (Some k) y → Stands t refs (N.Row k) next) → Asks xs a next → (o : Option ℕ) (m : Node) → Holds t o y → row_node o ≡ Some m → Next a m
  to_row a next y f s o m h e =
      let r = is_row o m e in
      record { next = next; asks = s; stands = subst (λ z. Stands t refs z next) (sym r.2) (f r.0 (subst (λ p. Holds t p y) r.1 h)) }

  to_chosen : (a next : Asked) (y : Tree) → ((k : ℕ) → Holds t (Some k) y → Stands t refs (N.Chosen k) next) → Asks xs a next → (o : Option ℕ) (m : Node) → Holds t o y → chosen_node o ≡ Some m → Next a m
  to_chosen a next y f s o m h e =
      let r = is_chosen o m e in
      record { next = next; asks = s; stands = subst (λ z. Stands t refs z next) (sym r.2) (f r.0 (subst (λ p. Holds t p y) r.1 h)) }

  -- the reference of the row is the instance at the place
  instance_there : (o : Option ℕ) (r : Ref) (k : ℕ) → Holds t o (ref_tree r) → place_of b.places o ≡ Some k → slice_get refs k ≡ Some r
  instance_there o r k h e =
      let p = is_place b.places o k e in
      let q = is.places.told p.0 k p.2 in
      q.1 ∙ ap Some (is.same_ref p.0 q.0 r q.2 (subst (λ z. Holds t z (ref_tree r)) p.1 h))

  steps_at : (n : ℕ) (f : Form) (x : Option Text) (y z : Tree) (w : HasRow b n f x y z) (m : Node) → Leads b (N.Row n) m → Has (steps_by b f w.name w.first w.second) m
  steps_at n f x y z w m l =
      let r = row_leads b n m l in
      subst (λ s. Has (row_steps b s) m) (same_row r.0 (record { form = f; text = w.name; first = w.first; second = w.second }) (slice_get b.rows n) r.1 w.there) r.2

  chosen_at : (n : ℕ) (f : Form) (x : Option Text) (y z : Tree) (w : HasRow b n f x y z) (m : Node) → Leads b (N.Chosen n) m → Has (chosen_by b f w.first w.second) m
  chosen_at n f x y z w m l =
      let r = chosen_leads b n m l in
      subst (λ s. Has (chosen_steps b s) m) (same_row r.0 (record { form = f; text = w.name; first = w.first; second = w.second }) (slice_get b.rows n) r.1 w.there) r.2

  -- from a row without steps
  no_steps : (n : ℕ) (f : Form) (x : Option Text) (y z : Tree) → ((o p q : Option ℕ) → steps_by b f o p q ≡ E.none) → Holds t (Some n) (node f x y z) → (m : Node) → Leads b (N.Row n) m → ⊥
  no_steps n f x y z e h m l =
      let w = row_at b n f x y z h in
      nowhere m (subst (λ s. Has s m) (e w.name w.first w.second) (steps_at n f x y z w m l))

  no_chosen : (n : ℕ) (f : Form) (x : Option Text) (y z : Tree) → ((o p : Option ℕ) → chosen_by b f o p ≡ E.none) → Holds t (Some n) (node f x y z) → (m : Node) → Leads b (N.Chosen n) m → ⊥
  no_chosen n f x y z e h m l =
      let w = row_at b n f x y z h in
      nowhere m (subst (λ s. Has s m) (e w.first w.second) (chosen_at n f x y z w m l))

  two : (p q : Option Node) (m : Node) (C : Type 0) → (p ≡ Some m → C) → (q ≡ Some m → C) → Has (E.both p q) m → C
  two p q m C f g (inl e) = f e
  two p q m C f g (inr e) = g e

  type_step : (n : ℕ) (m : Node) (x : Term) → IsTerm t n x → Leads b (N.Row n) m → Next (a_type x) m
  type_step n m (named r) h l =
      let w = row_at b n F.Named None (ref_tree r) nothing h in
      let k = is_name (place_of b.places w.first) m (only (name_node (place_of b.places w.first)) m (steps_at n F.Named None (ref_tree r) nothing w m l)) in
      record { next = a_point (at_name r); asks = A.by_name; stands = subst (λ z. Stands t refs z (a_point (at_name r))) (sym k.2) (name_place (instance_there w.first r k.0 w.has_first k.1)) }
  type_step n m (unwrapped r) h l =
      let w = row_at b n F.Unwrapped None (ref_tree r) nothing h in
      let k = is_unwrapping (place_of b.places w.first) m (only (unwrapping_node (place_of b.places w.first)) m (steps_at n F.Unwrapped None (ref_tree r) nothing w m l)) in
      record { next = a_point (at_unwrapping r); asks = A.by_unwrapping; stands = subst (λ z. Stands t refs z (a_point (at_unwrapping r))) (sym k.2) (unwrapping_place (instance_there w.first r k.0 w.has_first k.1)) }
  type_step n m (choice_of_name r) h l =
      let w = row_at b n F.ChoiceOfName None (ref_tree r) nothing h in
      let k = is_choice (place_of b.places w.first) m (only (choice_node (place_of b.places w.first)) m (steps_at n F.ChoiceOfName None (ref_tree r) nothing w m l)) in
      record { next = a_point (at_choice r); asks = A.by_choice; stands = subst (λ z. Stands t refs z (a_point (at_choice r))) (sym k.2) (choice_place (instance_there w.first r k.0 w.has_first k.1)) }
  type_step n m (parens y) h l =
      let w = row_at b n F.Parens None (term_tree y) nothing h in
      to_row (a_type (parens y)) (a_type y) (term_tree y) (λ k i. type_row i) A.in_parens w.first m w.has_first (only (row_node w.first) m (steps_at n F.Parens None (term_tree y) nothing w m l))
  type_step n m (array_of g) h l =
      let w = row_at b n F.ArrayOf None (group_tree g) nothing h in
      to_row (a_type (array_of g)) (a_group g) (group_tree g) (λ k i. group_row i) A.in_array w.first m w.has_first (only (row_node w.first) m (steps_at n F.ArrayOf None (group_tree g) nothing w m l))
  type_step n m (simple_by y) h l =
      let w = row_at b n F.SimpleBy None (term_tree y) nothing h in
      to_row (a_type (simple_by y)) (a_type y) (term_tree y) (λ k i. type_row i) A.in_head w.first m w.has_first (only (row_node w.first) m (steps_at n F.SimpleBy None (term_tree y) nothing w m l))
  type_step n m (choice_of g) h l =
      let w = row_at b n F.ChoiceOf None (group_tree g) nothing h in
      to_chosen (a_type (choice_of g)) (chosen_group g) (group_tree g) (λ k i. chosen_group_row i) A.in_choice w.first m w.has_first (only (chosen_node w.first) m (steps_at n F.ChoiceOf None (group_tree g) nothing w m l))
  type_step n m (or y z) h l =
      let w = row_at b n F.Or None (term_tree y) (term_tree z) h in
      two (row_node w.first) (row_node w.second) m (Next (a_type (or y z)) m) (to_row (a_type (or y z)) (a_type y) (term_tree y) (λ k i. type_row i) A.in_first w.first m w.has_first) (to_row (a_type (or y z)) (a_type z) (term_tree z) (λ k i. type_row i) A.in_second w.second m w.has_second) (steps_at n F.Or None (term_tree y) (term_tree z) w m l)
  type_step n m (control y x z) h l =
      let w = row_at b n F.Control (Some x) (term_tree y) (term_tree z) h in
      two (row_node w.first) (row_node (when (asks_here b.texts w.name) w.second)) m (Next (a_type (control y x z)) m) (to_row (a_type (control y x z)) (a_type y) (term_tree y) (λ k i. type_row i) A.in_left w.first m w.has_first) (right w) (steps_at n F.Control (Some x) (term_tree y) (term_tree z) w m l)
    where
      right : (w : HasRow b n F.Control (Some x) (term_tree y) (term_tree z)) → row_node (when (asks_here b.texts w.name) w.second) ≡ Some m → Next (a_type (control y x z)) m
      right w e =
          let k = is_row (when (asks_here b.texts w.name) w.second) m e in
          let v = when_true (asks_here b.texts w.name) w.second k.0 k.1 in
          let d = text_there b.texts w.name x w.has_name in
          let f : is_asked_here (control_of x) ≡ true = sym (ap (asks_here b.texts) d.1 ∙ ap text_asks d.2) ∙ v.0 in
          to_row (a_type (control y x z)) (a_type z) (term_tree z) (λ k i. type_row i) (A.in_controller f) w.second m w.has_second (ap row_node (v.1) ∙ ap Some (sym k.2))
  type_step n m (literal (number x)) h l = absurd (no_steps n F.Number (Some x) nothing nothing (λ o p q. refl) h m l)
  type_step n m (literal (text x)) h l = absurd (no_steps n F.Text (Some x) nothing nothing (λ o p q. refl) h m l)
  type_step n m (literal (bytes x)) h l = absurd (no_steps n F.Bytes (Some x) nothing nothing (λ o p q. refl) h m l)
  type_step n m (map_of g) h l = absurd (no_steps n F.MapOf None (group_tree g) nothing (λ o p q. refl) h m l)
  type_step n m (tagged x y) h l = absurd (no_steps n F.Tagged (Some x) (term_tree y) nothing (λ o p q. refl) h m l)
  type_step n m (tagged_by z y) h l = absurd (no_steps n F.TaggedBy None (term_tree z) (term_tree y) (λ o p q. refl) h m l)
  type_step n m (hash x) h l = absurd (no_steps n F.Hash (Some x) nothing nothing (λ o p q. refl) h m l)
  type_step n m (range y true z) h l = absurd (no_steps n F.Range None (term_tree y) (term_tree z) (λ o p q. refl) h m l)
  type_step n m (range y false z) h l = absurd (no_steps n F.RangeBelow None (term_tree y) (term_tree z) (λ o p q. refl) h m l)

  group_step : (n : ℕ) (m : Node) (g : Group) → IsGroup t n g → Leads b (N.Row n) m → Next (a_group g) m
  group_step n m (sole es) h l =
      let w = row_at b n F.Sole None (entries_tree es) nothing h in
      to_row (a_group (sole es)) (some_entries es) (entries_tree es) (λ k i. entries_row i) A.sole_entries w.first m w.has_first (only (row_node w.first) m (steps_at n F.Sole None (entries_tree es) nothing w m l))
  group_step n m (orelse g es) h l =
      let w = row_at b n F.OrElse None (group_tree g) (entries_tree es) h in
      two (row_node w.first) (row_node w.second) m (Next (a_group (orelse g es)) m) (to_row (a_group (orelse g es)) (a_group g) (group_tree g) (λ k i. group_row i) A.other_alternatives w.first m w.has_first) (to_row (a_group (orelse g es)) (some_entries es) (entries_tree es) (λ k i. entries_row i) A.last_alternative w.second m w.has_second) (steps_at n F.OrElse None (group_tree g) (entries_tree es) w m l)

  entries_by : (n : ℕ) (m : Node) (es : Entries) (x : Entry) (c : Bool) (first second : Option ℕ) → Holds t first (entries_tree es) → Holds t second (entry_tree x) → AreReached xs root (entries_points es) → Has (E.both (row_node first) (row_node (E.if_some (flagged b.may_be_empty first) second))) m → Next (some_entries (entries es x c)) m
  entries_by n m es x c first second h g r e = two (row_node first) (row_node (E.if_some (flagged b.may_be_empty first) second)) m (Next (some_entries (entries es x c)) m) (to_row (some_entries (entries es x c)) (some_entries es) (entries_tree es) (λ k i. entries_row i) A.earlier_entries first m h) last e
    where
      last : row_node (E.if_some (flagged b.may_be_empty first) second) ≡ Some m → Next (some_entries (entries es x c)) m
      last f =
          let k = is_row (E.if_some (flagged b.may_be_empty first) second) m f in
          let v = after_flag (flagged b.may_be_empty first) second k.0 k.1 in
          let u = is_flagged b.may_be_empty first v.0 v.1 in
          let i : MayBeEmpty xs es = (is.empty.entries v.0 es (subst (λ o. Holds t o (entries_tree es)) u.0 h) r).0 u.1 in
          to_row (some_entries (entries es x c)) (an_entry x) (entry_tree x) (λ k i. entry_row i) (A.last_entry i) second m g (ap row_node v.2 ∙ ap Some (sym k.2))

  entries_step : (n : ℕ) (m : Node) (es : Entries) → IsEntries t n es → AreReached xs root (entries_points es) → Leads b (N.Row n) m → Next (some_entries es) m
  entries_step n m no_entries h r l = absurd (no_steps n F.NoEntries None nothing nothing (λ o p q. refl) h m l)
  entries_step n m (entries es x true) h r l =
      let w = row_at b n F.EntriesComma None (entries_tree es) (entry_tree x) h in
      entries_by n m es x true w.first w.second w.has_first w.has_second (front xs root (entries_points es) (entry_points x) r) (steps_at n F.EntriesComma None (entries_tree es) (entry_tree x) w m l)
  entries_step n m (entries es x false) h r l =
      let w = row_at b n F.Entries None (entries_tree es) (entry_tree x) h in
      entries_by n m es x false w.first w.second w.has_first w.has_second (front xs root (entries_points es) (entry_points x) r) (steps_at n F.Entries None (entries_tree es) (entry_tree x) w m l)

  -- what the type of an entry is told to be
  pub part_there : (x : Term) (o : Option ℕ) → Holds t o (term_tree x) → AreReached xs root (points x) → IsPart t refs (part_of xs x) (part_at b.parts o)
  part_there x o h r =
      let n = some_node t o (term_tree x) (term_is_node x) h in
      let q = is.parts n.0 x n.2 r in
      subst (IsPart t refs (part_of xs x)) (sym (ap (part_at b.parts) n.1 ∙ ap part_in q.1)) q.2

  part_step : (m : Node) (y : Option Text) (x : Term) (p : K.Part) (q : Part) → IsPart t refs p q → part_of xs x ≡ p → part_node q ≡ Some m → Next (an_entry (typed y x)) m
  part_step m y x p q part_type e f = cc
  part_step m y x p q (part_group {k = k} {r = r} i) e f = record { next = a_point (at_name r); asks = A.group_name e; stands = subst (λ z. Stands t refs z (a_point (at_name r))) (same f) (name_place i) }
    where
      same : Some (N.Name k) ≡ Some m → N.Name k ≡ m
      same f = cc
  part_step m y x p q (an_opened_group {k = k} {n = n} {r = r} {g = g} i h) e f = record { next = a_point (at_unwrapping r); asks = A.group_opened e; stands = subst (λ z. Stands t refs z (a_point (at_unwrapping r))) (same f) (unwrapping_place i) }
    where
      same : Some (N.Unwrapping k) ≡ Some m → N.Unwrapping k ≡ m
      same f = cc

  entry_step : (n : ℕ) (m : Node) (x : Entry) → IsEntry t n x → AreReached xs root (entry_points x) → Leads b (N.Row n) m → Next (an_entry x) m
  entry_step n m (typed y x) h r l =
      let w = row_at b n F.Typed y (term_tree x) nothing h in
      part_step m y x (part_of xs x) (part_at b.parts w.first) (part_there x w.first w.has_first r) refl (only (part_node (part_at b.parts w.first)) m (steps_at n F.Typed y (term_tree x) nothing w m l))
  entry_step n m (keyed y k x) h r l = absurd (no_steps n F.Keyed y (key_tree k) (term_tree x) (λ o p q. refl) h m l)
  entry_step n m (grouped y g) h r l =
      let w = row_at b n F.Grouped y (group_tree g) nothing h in
      to_row (an_entry (grouped y g)) (a_group g) (group_tree g) (λ k i. group_row i) A.in_group w.first m w.has_first (only (row_node w.first) m (steps_at n F.Grouped y (group_tree g) nothing w m l))

  -- where `&` chooses

  chosen_group_step : (n : ℕ) (m : Node) (g : Group) → IsGroup t n g → Leads b (N.Chosen n) m → Next (chosen_group g) m
  chosen_group_step n m (sole es) h l =
      let w = row_at b n F.Sole None (entries_tree es) nothing h in
      to_chosen (chosen_group (sole es)) (chosen_entries es) (entries_tree es) (λ k i. chosen_entries_row i) A.chosen_sole w.first m w.has_first (only (chosen_node w.first) m (chosen_at n F.Sole None (entries_tree es) nothing w m l))
  chosen_group_step n m (orelse g es) h l =
      let w = row_at b n F.OrElse None (group_tree g) (entries_tree es) h in
      two (chosen_node w.first) (chosen_node w.second) m (Next (chosen_group (orelse g es)) m) (to_chosen (chosen_group (orelse g es)) (chosen_group g) (group_tree g) (λ k i. chosen_group_row i) A.chosen_others w.first m w.has_first) (to_chosen (chosen_group (orelse g es)) (chosen_entries es) (entries_tree es) (λ k i. chosen_entries_row i) A.chosen_alternative w.second m w.has_second) (chosen_at n F.OrElse None (group_tree g) (entries_tree es) w m l)

  chosen_entries_by : (n : ℕ) (m : Node) (f : Form) (es : Entries) (x : Entry) (c : Bool) (w : HasRow b n f None (entries_tree es) (entry_tree x)) → Has (E.both (chosen_node w.first) (chosen_node w.second)) m → Next (chosen_entries (entries es x c)) m
  chosen_entries_by n m f es x c w e = two (chosen_node w.first) (chosen_node w.second) m (Next (chosen_entries (entries es x c)) m) (to_chosen (chosen_entries (entries es x c)) (chosen_entries es) (entries_tree es) (λ k i. chosen_entries_row i) A.chosen_earlier w.first m w.has_first) (to_chosen (chosen_entries (entries es x c)) (chosen_entry x) (entry_tree x) (λ k i. chosen_entry_row i) A.chosen_last w.second m w.has_second) e

  chosen_entries_step : (n : ℕ) (m : Node) (es : Entries) → IsEntries t n es → Leads b (N.Chosen n) m → Next (chosen_entries es) m
  chosen_entries_step n m no_entries h l = absurd (no_chosen n F.NoEntries None nothing nothing (λ o p. refl) h m l)
  chosen_entries_step n m (entries es x true) h l =
      let w = row_at b n F.EntriesComma None (entries_tree es) (entry_tree x) h in
      chosen_entries_by n m F.EntriesComma es x true w (chosen_at n F.EntriesComma None (entries_tree es) (entry_tree x) w m l)
  chosen_entries_step n m (entries es x false) h l =
      let w = row_at b n F.Entries None (entries_tree es) (entry_tree x) h in
      chosen_entries_by n m F.Entries es x false w (chosen_at n F.Entries None (entries_tree es) (entry_tree x) w m l)

  -- the meaning of an instance
  pub meaning_at : (k : ℕ) (r : Ref) → slice_get refs k ≡ Some r → (w : Meaning) × (slice_get b.meanings k ≡ Some w) × IsMeaning xs t r w
  meaning_at k r e = alike_at (IsMeaning xs t) refs b.meanings is.meanings k r e

  -- the group of the row
  pub group_of : (ess : List Entries) (o : Option ℕ) (n : ℕ) → AreAlternatives t ess o → o ≡ Some n → (g : Group) × (alternatives g ≡ ess) × IsGroup t n g
  group_of ess o n no_alternatives e = cc
  group_of ess o n (alternatives_of {n = m} g h) e = (g, refl, subst (λ i. IsGroup t i g) (same e) h)
    where
      same : Some m ≡ Some n → m ≡ n
      same e = cc

  pub row_of_group : (ess : List Entries) (o : Option ℕ) → AreAlternatives t ess o → (g : Group) → alternatives g ≡ ess → (n : ℕ) × (o ≡ Some n) × IsGroup t n g
  row_of_group ess o no_alternatives g e = absurd (some_alternative g e)
  row_of_group ess o (alternatives_of {n = n} h i) g e = (n, refl, subst (λ x. IsGroup t n x) (sym (same_group g h e)) i)

  chosen_part_step : (m : Node) (y : Option Text) (x : Term) (o : Option ℕ) → Holds t o (term_tree x) → (p : K.Part) (q : Part) → IsPart t refs p q → part_of xs x ≡ p → E.chosen_part o q ≡ Some m → Next (chosen_entry (typed y x)) m
  chosen_part_step m y x o i p q part_type e f = to_row (chosen_entry (typed y x)) (a_type x) (term_tree x) (λ k j. type_row j) (A.chosen_type e) o m i f
  chosen_part_step m y x o i p q (part_group {k = k} {r = r} j) e f = record { next = a_point (at_chosen_name r); asks = A.chosen_name e; stands = subst (λ z. Stands t refs z (a_point (at_chosen_name r))) (same f) (chosen_name_place j) }
    where
      same : Some (N.ChosenName k) ≡ Some m → N.ChosenName k ≡ m
      same f = cc
  chosen_part_step m y x o i p q (an_opened_group {k = k} {n = n} {r = r} {g = g} j h) e f = record { next = a_point (at_opened_choice r); asks = A.chosen_opened e; stands = subst (λ z. Stands t refs z (a_point (at_opened_choice r))) (same f) (opened_choice_place j) }
    where
      same : Some (N.OpenedChoice k) ≡ Some m → N.OpenedChoice k ≡ m
      same f = cc

  chosen_entry_step : (n : ℕ) (m : Node) (x : Entry) → IsEntry t n x → AreReached xs root (entry_points x) → Leads b (N.Chosen n) m → Next (chosen_entry x) m
  chosen_entry_step n m (typed y x) h r l =
      let w = row_at b n F.Typed y (term_tree x) nothing h in
      chosen_part_step m y x w.first w.has_first (part_of xs x) (part_at b.parts w.first) (part_there x w.first w.has_first r) refl (only (E.chosen_part w.first (part_at b.parts w.first)) m (chosen_at n F.Typed y (term_tree x) nothing w m l))
  chosen_entry_step n m (keyed y k x) h r l =
      let w = row_at b n F.Keyed y (key_tree k) (term_tree x) h in
      to_row (chosen_entry (keyed y k x)) (a_type x) (term_tree x) (λ k i. type_row i) A.chosen_keyed w.second m w.has_second (only (row_node w.second) m (chosen_at n F.Keyed y (key_tree k) (term_tree x) w m l))
  chosen_entry_step n m (grouped y g) h r l =
      let w = row_at b n F.Grouped y (group_tree g) nothing h in
      to_chosen (chosen_entry (grouped y g)) (chosen_group g) (group_tree g) (λ k i. chosen_group_row i) A.chosen_inner w.first m w.has_first (only (chosen_node w.first) m (chosen_at n F.Grouped y (group_tree g) nothing w m l))

  -- whether an instance is a group
  pub group_call : (r : Ref) (n : ℕ) → IsRef t n r → is_group_call b n ≡ is_group xs (name_of r)
  group_call (call x ts) n h =
      let w = row_at b n F.Call (Some x) (terms_tree ts) nothing h in
      let d = text_there b.texts w.name x w.has_name in
      ap (λ o. E.names_group b.kinds (text_of o)) w.there ∙ ap (E.names_group b.kinds) d.1 ∙ is.kinds.groups d.0 x d.2

  same_meaning : (w v : Meaning) (o : Option Meaning) → o ≡ Some w → o ≡ Some v → w ≡ v
  same_meaning w v o e f = cc

  meant : (k : ℕ) (r : Ref) (v : Meaning) → slice_get refs k ≡ Some r → slice_get b.meanings k ≡ Some v → IsMeaning xs t r v
  meant k r v e f = let w = meaning_at k r e in subst (IsMeaning xs t r) (same_meaning w.0 v (slice_get b.meanings k) w.1 f) w.2

  name_step : (k : ℕ) (m : Node) (r : Ref) → slice_get refs k ≡ Some r → Leads b (N.Name k) m → Next (a_point (at_name r)) m
  name_step k m r e (by_group {w = w} f i j) =
      let is_meant = meant k r w e f in
      let n = is_row w.group m j in
      let g = group_of (group_choices xs r) w.group n.0 is_meant.group n.1 in
      record { next = a_group g.0; asks = A.means_group (sym (group_call r w.call is_meant.ref) ∙ i) g.1; stands = subst (λ z. Stands t refs z (a_group g.0)) (sym n.2) (group_row g.2) }
  name_step k m r e (by_type {w = w} {n = n} f i c) =
      let is_meant = meant k r w e f in
      let x = alike_right (TermRow t) (type_choices xs r) w.types.items is_meant.types n (in_list w.types.items n c) in
      record { next = a_type x.0; asks = A.means_type (sym (group_call r w.call is_meant.ref) ∙ i) (contained (type_choices xs r) x.0 x.1); stands = type_row x.2 }

  opens_by : (m : Node) (r : Ref) (y : Option Opened) (o : Option Opening) (q : Opening) → IsOpened t y q → opened xs r ≡ y → o ≡ Some q → row_node (opened_row o) ≡ Some m → Next (a_point (at_unwrapping r)) m
  opens_by m r y o q opens_nothing e f i = cc
  opens_by m r y o q (group_opened {n = n} {g = g} k) e f i = to_row (a_point (at_unwrapping r)) (a_group g) (group_tree g) (λ k j. group_row j) (A.opens_a_group e) (Some n) m k (sym (ap (λ z. row_node (opened_row z)) f) ∙ i)
  opens_by m r y o q (type_opened {n = n} {x = x} k) e f i = to_row (a_point (at_unwrapping r)) (a_type x) (term_tree x) (λ k j. type_row j) (A.opens_content e) (Some n) m k (sym (ap (λ z. row_node (opened_row z)) f) ∙ i)

  -- what is opened
  pub opening_at : (k : ℕ) (r : Ref) → slice_get refs k ≡ Some r → (q : Opening) × (slice_get b.openings k ≡ Some q) × IsOpened t (opened xs r) q
  opening_at k r e = alike_at (λ s o. IsOpened t (opened xs s) o) refs b.openings is.openings k r e

  unwrapping_step : (k : ℕ) (m : Node) (r : Ref) → slice_get refs k ≡ Some r → Leads b (N.Unwrapping k) m → Next (a_point (at_unwrapping r)) m
  unwrapping_step k m r e (by_opening f i) = let w = opening_at k r e in opens_by m r (opened xs r) (slice_get b.openings k) w.0 w.2 refl w.1 i

  choice_step : (k : ℕ) (m : Node) (r : Ref) → slice_get refs k ≡ Some r → Leads b (N.Choice k) m → Next (a_point (at_choice r)) m
  choice_step k m r e (by_choice f) = record { next = a_point (at_chosen_name r); asks = A.chooses_by_name; stands = chosen_name_place e }

  chosen_name_step : (k : ℕ) (m : Node) (r : Ref) → slice_get refs k ≡ Some r → AreReached xs root (at_chosen_name r ∷ []) → Leads b (N.ChosenName k) m → Next (a_point (at_chosen_name r)) m
  chosen_name_step k m r e c (by_chosen_name {w = w} f i) =
      let is_meant = meant k r w e f in
      let n = is_chosen (flagged b.choosable w.group) m i in
      let u = is_flagged b.choosable w.group n.0 n.1 in
      let g = group_of (group_choices xs r) w.group n.0 is_meant.group u.0 in
      record { next = chosen_group g.0; asks = A.chooses g.1 ((is.choosable.groups n.0 g.0 g.2 (is.on.group r g.0 (first xs root (at_chosen_name r) c) g.1)).0 u.1); stands = subst (λ z. Stands t refs z (chosen_group g.0)) (sym n.2) (chosen_group_row g.2) }

  -- from an opening, where its row is flagged
  chooses_by : (m : Node) (r : Ref) (y : Option Opened) (o : Option Opening) (q : Opening) (n : ℕ) → IsOpened t y q → opened xs r ≡ y → o ≡ Some q → AreReached xs root (at_opened_choice r ∷ []) → opened_group o ≡ Some n → slice_get b.choosable n ≡ Some true → m ≡ N.Chosen n → Next (a_point (at_opened_choice r)) m
  chooses_by m r y o q n opens_nothing e f c i u j = cc
  chooses_by m r y o q n (group_opened {n = k} {g = g} h) e f c i u j =
      let d : IsGroup t n g = subst (λ x. IsGroup t x g) (same (sym (ap opened_group f) ∙ i)) h in
      record { next = chosen_group g; asks = A.chooses_opened e ((is.choosable.groups n g d (is.on.opened_group r g (first xs root (at_opened_choice r) c) e)).0 u); stands = subst (λ z. Stands t refs z (chosen_group g)) (sym j) (chosen_group_row d) }
    where
      same : Some k ≡ Some n → k ≡ n
      same p = cc
  chooses_by m r y o q n (type_opened k) e f c i u j = cc

  opened_choice_step : (k : ℕ) (m : Node) (r : Ref) → slice_get refs k ≡ Some r → AreReached xs root (at_opened_choice r ∷ []) → Leads b (N.OpenedChoice k) m → Next (a_point (at_opened_choice r)) m
  opened_choice_step k m r e c (by_opened_choice f i) =
      let w = opening_at k r e in
      let n = is_chosen (flagged b.choosable (opened_group (slice_get b.openings k))) m i in
      let u = is_flagged b.choosable (opened_group (slice_get b.openings k)) n.0 n.1 in
      chooses_by m r (opened xs r) (slice_get b.openings k) w.0 n.0 w.2 refl w.1 c u.0 u.1 n.2

  pub sound : (n m : Node) (a : Asked) → Stands t refs n a → IsReached xs root a → Leads b n m → Next a m
  sound n m a (type_row {n = k} {x = x} h) r l = type_step k m x h l
  sound n m a (group_row {n = k} {g = g} h) r l = group_step k m g h l
  sound n m a (entries_row {n = k} {es = es} h) r l = entries_step k m es h r l
  sound n m a (entry_row {n = k} {e = x} h) r l = entry_step k m x h r l
  sound n m a (chosen_group_row {n = k} {g = g} h) r l = chosen_group_step k m g h l
  sound n m a (chosen_entries_row {n = k} {es = es} h) r l = chosen_entries_step k m es h l
  sound n m a (chosen_entry_row {n = k} {e = x} h) r l = chosen_entry_step k m x h r l
  sound n m a (name_place {k = k} {r = s} h) r l = name_step k m s h l
  sound n m a (unwrapping_place {k = k} {r = s} h) r l = unwrapping_step k m s h l
  sound n m a (choice_place {k = k} {r = s} h) r l = choice_step k m s h l
  sound n m a (chosen_name_place {k = k} {r = s} h) r l = chosen_name_step k m s h r l
  sound n m a (opened_choice_place {k = k} {r = s} h) r l = opened_choice_step k m s h r l
