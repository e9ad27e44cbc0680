-- Groups of the alternatives of bodies.
use Rattle.std.proofs.Common.{◌≡◌, ℕ, ◌+◌, ◌<◌, List, [], ◌∷◌, ◌++◌, length, drop, get_or, append_assoc, Option, Some, None, refl, sym, ap, ◌∙◌, subst}
use Rattle.std.specs.Prelude.{flat_map}
use Rattle.std.proofs.lemmas.List.{flat_map_more}
use Rattle.std.proofs.lemmas.Option.{none-some}
use Rattle.lists.proofs.Lemmas.{none_more}
use Rattle.cddl_language.specs.Substitution.{bodies, body_alternatives, types_in, type_choices, group_choices}
use Rattle.cddl_language.specs.Terms as L
use Rattle.cddl_language.specs.Terms.{Term, Group, orelse, Entries, Entry, typed, keyed, grouped, alternatives, choices, lone, of_types, of_entry}
use Rattle.cddl_meaning.specs.Alike.{AlikeAll, none, both}
use Rattle.check_terms.specs.declared.definition.Body.{Body}
use Rattle.check_terms.specs.declared.definition.Body.TheVariants as BodyV
use Rattle.check_terms.specs.declared.row.Form.TheVariants as F
use Rattle.check_terms.specs.Definitions.{IsBody, types, entry}
use Rattle.check_terms.specs.Table.{Grows, Table, Tree, node, Holds, part, no_text, some_text}
use Rattle.check_terms.specs.Trees.{IsTerm, IsGroup, IsEntry, group_tree, entries_tree, ref_tree, term_tree}
use Rattle.check_instances.specs.Bodies.{AreBodies, no_bodies, further_body}
use Rattle.check_instances.specs.Found.{AreFound, none_found, further_found, IsInstance}
use Rattle.check_instances.specs.declared.found.Instance.{Instance}
use Rattle.check_instances.specs.declared.closed.closed.Meaning.{Meaning}
use Rattle.check_instances.specs.Closed.Closed.{AreAlternatives, no_alternatives, alternatives_of, EntriesRow, TermRow, IsMeaning}
use Rattle.check_instances.specs.Closed.Joining.{bare_at, bare_in}
use Rattle.check_instances.proofs.OfClosed.Alike.{AreSome, alike_join, alike_push, alike_kept, next_done, none_done, read_so}
use Rattle.check_instances.proofs.OfClosed.Walks.{something, group_node}

-- One by one.

abbrev pub BodyRow : Table → L.Body → Body → Type 0
BodyRow t x b = IsBody t b x

pub bodies_alike : (t : Table) (bs : List Body) (xs : List L.Body) → AreBodies t bs xs → AlikeAll (BodyRow t) xs bs
bodies_alike t bs xs no_bodies = none
bodies_alike t bs xs (further_body {bs = cs} {xs = ys} h hs) = both h (bodies_alike t cs ys hs)

abbrev pub InstanceOf : List L.Definition → Table → L.Ref → Instance → Type 0
InstanceOf xs t r i = IsInstance xs t i r

pub found_alike : (xs : List L.Definition) (t : Table) (is : List Instance) (rs : List L.Ref) → AreFound xs t is rs → AlikeAll (InstanceOf xs t) rs is
found_alike xs t is rs none_found = none
found_alike xs t is rs (further_found {is = js} {rs = ss} h hs) = both h (found_alike xs t js ss hs)

-- A group with alternatives.

pub record IsGroupOf (t : Table) (es : List Entries) (n : ℕ) : Type 0 where
  pub group : Group
  pub holds : IsGroup t n group
  pub same : alternatives group ≡ es

pub group_in : (t : Table) (es : List Entries) (n : ℕ) → AreAlternatives t es (Some n) → IsGroupOf t es n
group_in t es n (alternatives_of g h) = record { group = g; holds = h; same = refl }

pub none_in : (t : Table) (es : List Entries) → AreAlternatives t es None → es ≡ []
none_in t es no_alternatives = refl

pub group_from : (t : Table) (es : List Entries) (n : ℕ) (g : Group) → IsGroup t n g → alternatives g ≡ es → AreAlternatives t es (Some n)
group_from t es n g h e = subst (λ fs. AreAlternatives t fs (Some n)) e (alternatives_of g h)

-- What trees stand for stays.
abbrev pub Keeps : Table → Table → Type 0
Keeps old new = (n : Option ℕ) (x : Tree) → Holds old n x → Holds new n x

pub alternatives_kept : (old new : Table) → Keeps old new → (es : List Entries) (o : Option ℕ) → AreAlternatives old es o → AreAlternatives new es o
alternatives_kept old new keeps es o no_alternatives = no_alternatives
alternatives_kept old new keeps es o (alternatives_of {n = n} g h) = alternatives_of g (keeps (Some n) (group_tree g) h)

-- Alternatives are added one by one.

pub record AreJoined (old now : Table) (group further : ℕ) (left : List ℕ) (whole : ℕ) : Type 0 where
  pub grows : Grows old now
  pub texts : now.texts ≡ old.texts
  pub stands : (es fs : List Entries) → AreAlternatives old es (Some group) → AreAlternatives old fs (Some further) → AreSome (EntriesRow old) (λ done. AreAlternatives now (es ++ done) (Some whole)) fs left

pub none_joined : (t : Table) (group further : ℕ) (rows : List ℕ) → Grows t t → ((g : Group) → IsGroup t further g → AlikeAll (EntriesRow t) (alternatives g) rows) → AreJoined t t group further rows group
none_joined t group further rows grows alike = record {
  grows = grows;
  texts = refl;
  stands = λ es fs h k.
      let g = group_in t fs further k in
      none_done (EntriesRow t) (λ done. AreAlternatives t (es ++ done) (Some group)) fs rows (subst (λ gs. AlikeAll (EntriesRow t) gs rows) g.same (alike g.group g.holds)) (subst (λ gs. AreAlternatives t gs (Some group)) (sym (none_more es)) h);
}

one_joined : (old now new : Table) → Keeps old now → (whole row n : ℕ) → ((a b : Tree) → Holds now (Some whole) a → Holds now (Some row) b → Holds new (Some n) (node F.OrElse None a b)) → (es xs : List Entries) (x : Entries) → EntriesRow old x row → AreAlternatives now (es ++ xs) (Some whole) → AreAlternatives new (es ++ (xs ++ x ∷ [])) (Some n)
one_joined old now new keeps whole row n stands es xs x h k =
    let g = group_in now (es ++ xs) whole k in
    group_from new (es ++ (xs ++ x ∷ [])) n (orelse g.group x) (stands (group_tree g.group) (entries_tree x) g.holds (keeps (Some row) (entries_tree x) h)) (ap (λ (fs : List Entries). fs ++ x ∷ []) g.same ∙ append_assoc es xs (x ∷ []))

pub next_joined : (old now new : Table) → Keeps old now → Grows old new → new.texts ≡ now.texts → (group further : ℕ) (rows : List ℕ) (i : ℕ) (whole row n : ℕ) → i < length rows → row ≡ get_or rows i row → ((a b : Tree) → Holds now (Some whole) a → Holds now (Some row) b → Holds new (Some n) (node F.OrElse None a b)) → AreJoined old now group further (drop i rows) whole → AreJoined old new group further (drop (i + 1) rows) n
next_joined old now new keeps grows texts group further rows i whole row n l e stands so = record {
  grows = grows;
  texts = texts ∙ so.texts;
  stands = λ es fs h k. next_done (EntriesRow old) (λ done. AreAlternatives now (es ++ done) (Some whole)) (λ done. AreAlternatives new (es ++ done) (Some n)) fs rows i row l e (one_joined old now new keeps whole row n stands es) (so.stands es fs h k);
}

-- Bodies are joined one by one.

pub record AreGrouped (old now : Table) (bodies left : List Body) (group : Option ℕ) : Type 0 where
  pub grows : Grows old now
  pub texts : now.texts ≡ old.texts
  pub stands : (xs : List L.Body) → AreBodies old bodies xs → AreSome (BodyRow old) (λ done. AreAlternatives now (flat_map body_alternatives done) group) xs left

pub none_grouped : (t : Table) (bodies : List Body) → Grows t t → AreGrouped t t bodies bodies None
none_grouped t bodies grows = record {
  grows = grows;
  texts = refl;
  stands = λ xs h. none_done (BodyRow t) (λ done. AreAlternatives t (flat_map body_alternatives done) None) xs bodies (bodies_alike t bodies xs h) no_alternatives;
}

pub next_grouped : (old now new : Table) → ((b : Body) (x : L.Body) → IsBody old b x → IsBody now b x) → Grows old new → new.texts ≡ now.texts → (bodies : List Body) (i : ℕ) (group : Option ℕ) (d : Body) (n : ℕ) → i < length bodies → ((x : L.Body) (es : List Entries) → IsBody now (get_or bodies i d) x → AreAlternatives now es group → AreAlternatives new (es ++ body_alternatives x) (Some n)) → AreGrouped old now bodies (drop i bodies) group → AreGrouped old new bodies (drop (i + 1) bodies) (Some n)
next_grouped old now new keeps grows texts bodies i group d n l stands so = record {
  grows = grows;
  texts = texts ∙ so.texts;
  stands = λ xs h. next_done (BodyRow old) (λ done. AreAlternatives now (flat_map body_alternatives done) group) (λ done. AreAlternatives new (flat_map body_alternatives done) (Some n)) xs bodies i (get_or bodies i d) l (read_so bodies i d l) (λ ys x is k. subst (λ es. AreAlternatives new es (Some n)) (flat_map_more body_alternatives [] ys x) (stands x (flat_map body_alternatives ys) (keeps (get_or bodies i d) x is) k)) (so.stands xs h);
}

-- One body.

pub with_none : (new : Table) (n : ℕ) (old : Table) (es fs : List Entries) → AreAlternatives old es None → AreAlternatives new fs (Some n) → AreAlternatives new (es ++ fs) (Some n)
with_none new n old es fs h k = subst (λ gs. AreAlternatives new (gs ++ fs) (Some n)) (sym (none_in old es h)) k

pub body_types : (t new : Table) (m n : ℕ) → ((x : Term) → IsTerm t m x → AreAlternatives new (body_alternatives (of_types x)) (Some n)) → (x : L.Body) → IsBody t (BodyV.Types m) x → AreAlternatives new (body_alternatives x) (Some n)
body_types t new m n f x (types {x = u} h) = f u h

pub body_entry : (t new : Table) (m n : ℕ) → ((x : Entry) → IsEntry t m x → AreAlternatives new (body_alternatives (of_entry x)) (Some n)) → (x : L.Body) → IsBody t (BodyV.Entry m) x → AreAlternatives new (body_alternatives x) (Some n)
body_entry t new m n f x (entry {x = u} h) = f u h

pub bare : (t : Table) (m n : ℕ) → bare_at t.rows m ≡ Some n → (x : Entry) → IsEntry t m x → AreAlternatives t (body_alternatives (of_entry x)) (Some n)
bare t m n e (typed o u) (part {m = w} {i = i} h d a b) = absurd (none-some n (sym (ap bare_in h) ∙ e))
bare t m n e (keyed o k u) (part {m = w} {i = i} h d a b) = absurd (none-some n (sym (ap bare_in h) ∙ e))
bare t m n e (grouped (Some o) g) (part {i = i} h (some_text d) a b) = absurd (none-some n (sym (ap bare_in h) ∙ e))
bare t m n e (grouped None g) (part {i = i} h no_text a b) = alternatives_of g (subst (λ o. Holds t o (group_tree g)) (sym (ap bare_in h) ∙ e) a)

pub not_bare : (t : Table) (m : ℕ) → bare_at t.rows m ≡ None → (x : Entry) → IsEntry t m x → lone x ∷ [] ≡ body_alternatives (of_entry x)
not_bare t m e (typed o u) h = refl
not_bare t m e (keyed o k u) h = refl
not_bare t m e (grouped (Some o) g) h = refl
not_bare t m e (grouped None g) (part {i = i} h no_text a b) =
    let q = something t i (group_tree g) (group_node g) a in
    absurd (none-some q.0 (sym e ∙ ap bare_in h ∙ q.1))

pub lone_stands : (old new : Table) (m n : ℕ) → ((x : Entry) → IsEntry old m x → AreAlternatives new (lone x ∷ []) (Some n)) → bare_at old.rows m ≡ None → (x : Entry) → IsEntry old m x → AreAlternatives new (body_alternatives (of_entry x)) (Some n)
lone_stands old new m n f e x h = subst (λ es. AreAlternatives new es (Some n)) (not_bare old m e x h) (f x h)

-- Choices of bodies.

types_more : (xs : List L.Body) (x : L.Body) → types_in (xs ++ x ∷ []) ≡ types_in xs ++ types_in (x ∷ [])
types_more [] x = refl
types_more (of_types u ∷ xs) x = ap (λ (us : List Term). choices u ++ us) (types_more xs x) ∙ sym (append_assoc (choices u) (types_in xs) (types_in (x ∷ [])))
types_more (of_entry e ∷ xs) x = types_more xs x

abbrev pub AreTyped : Table → List Body → List Body → List ℕ → Type 0
AreTyped t bodies left ns = (xs : List L.Body) → AreBodies t bodies xs → AreSome (BodyRow t) (λ done. AlikeAll (TermRow t) (types_in done) ns) xs left

pub none_typed : (t : Table) (bodies : List Body) → AreTyped t bodies bodies []
none_typed t bodies = λ xs h. none_done (BodyRow t) (λ done. AlikeAll (TermRow t) (types_in done) []) xs bodies (bodies_alike t bodies xs h) none

pub next_typed : (t : Table) (bodies : List Body) (i : ℕ) (d : Body) (ns ms : List ℕ) → i < length bodies → ((x : L.Body) (ys : List Term) → IsBody t (get_or bodies i d) x → AlikeAll (TermRow t) ys ns → AlikeAll (TermRow t) (ys ++ types_in (x ∷ [])) ms) → AreTyped t bodies (drop i bodies) ns → AreTyped t bodies (drop (i + 1) bodies) ms
next_typed t bodies i d ns ms l f so = λ xs h. next_done (BodyRow t) (λ done. AlikeAll (TermRow t) (types_in done) ns) (λ done. AlikeAll (TermRow t) (types_in done) ms) xs bodies i (get_or bodies i d) l (read_so bodies i d l) (λ ys x is k. subst (λ us. AlikeAll (TermRow t) us ms) (sym (types_more ys x)) (f x (types_in ys) is k)) (so xs h)

pub types_added : (t : Table) (m : ℕ) (ns ms : List ℕ) → ((u : Term) → IsTerm t m u → AlikeAll (TermRow t) (choices u) ms) → (x : L.Body) (ys : List Term) → IsBody t (BodyV.Types m) x → AlikeAll (TermRow t) ys ns → AlikeAll (TermRow t) (ys ++ types_in (x ∷ [])) (ns ++ ms)
types_added t m ns ms f x ys (types {x = u} h) k = alike_join (TermRow t) ys ns (choices u ++ []) ms k (subst (λ us. AlikeAll (TermRow t) us ms) (sym (none_more (choices u))) (f u h))

pub entry_added : (t : Table) (m : ℕ) (ns : List ℕ) (x : L.Body) (ys : List Term) → IsBody t (BodyV.Entry m) x → AlikeAll (TermRow t) ys ns → AlikeAll (TermRow t) (ys ++ types_in (x ∷ [])) ns
entry_added t m ns x ys (entry {x = u} h) k = subst (λ us. AlikeAll (TermRow t) us ns) (sym (none_more ys)) k

-- Meanings are made one by one.

pub meaning_kept : (xs : List L.Definition) (old new : Table) → Keeps old new → (r : L.Ref) (m : Meaning) → IsMeaning xs old r m → IsMeaning xs new r m
meaning_kept xs old new keeps r m is = record {
  ref = keeps (Some m.call) (ref_tree r) is.ref;
  types = alike_kept (TermRow old) (TermRow new) (λ x n h. keeps (Some n) (term_tree x) h) (type_choices xs r) m.types.items is.types;
  group = alternatives_kept old new keeps (group_choices xs r) m.group is.group;
}

pub bodies_kept : (old new : Table) → ((b : Body) (x : L.Body) → IsBody old b x → IsBody new b x) → (bs : List Body) (xs : List L.Body) → AreBodies old bs xs → AreBodies new bs xs
bodies_kept old new keeps bs xs no_bodies = no_bodies
bodies_kept old new keeps bs xs (further_body {b = b} {x = x} {bs = cs} {xs = ys} h hs) = further_body (keeps b x h) (bodies_kept old new keeps cs ys hs)

pub instance_kept : (xs : List L.Definition) (old new : Table) → Keeps old new → ((b : Body) (x : L.Body) → IsBody old b x → IsBody new b x) → (i : Instance) (r : L.Ref) → IsInstance xs old i r → IsInstance xs new i r
instance_kept xs old new keeps body i r is = record { ref = keeps (Some i.call) (ref_tree r) is.ref; means = bodies_kept old new body i.bodies.items (bodies xs r) is.means }

pub record AreMade (old now : Table) (found left : List Instance) (made : List Meaning) : Type 0 where
  pub grows : Grows old now
  pub texts : now.texts ≡ old.texts
  pub mean : (xs : List L.Definition) (refs : List L.Ref) → AreFound xs old found refs → AreSome (InstanceOf xs old) (λ done. AlikeAll (IsMeaning xs now) done made) refs left

pub none_made : (t : Table) (found : List Instance) → Grows t t → AreMade t t found found []
none_made t found grows = record {
  grows = grows;
  texts = refl;
  mean = λ xs refs h. none_done (InstanceOf xs t) (λ done. AlikeAll (IsMeaning xs t) done []) refs found (found_alike xs t found refs h) none;
}

pub next_made : (old now new : Table) → Keeps old now → Keeps now new → ((b : Body) (x : L.Body) → IsBody old b x → IsBody now b x) → Grows old new → new.texts ≡ now.texts → (found : List Instance) (i : ℕ) (made : List Meaning) (instance : Instance) (m : Meaning) → i < length found → instance ≡ get_or found i instance → ((xs : List L.Definition) (r : L.Ref) → IsInstance xs now instance r → IsMeaning xs new r m) → AreMade old now found (drop i found) made → AreMade old new found (drop (i + 1) found) (made ++ m ∷ [])
next_made old now new before after body grows texts found i made instance m l e means so = record {
  grows = grows;
  texts = texts ∙ so.texts;
  mean = λ xs refs h. next_done (InstanceOf xs old) (λ done. AlikeAll (IsMeaning xs now) done made) (λ done. AlikeAll (IsMeaning xs new) done (made ++ m ∷ [])) refs found i instance l e (λ rs r is k. alike_push (IsMeaning xs new) rs made r m (alike_kept (IsMeaning xs now) (IsMeaning xs new) (meaning_kept xs now new after) rs made k) (means xs r (instance_kept xs old now before body instance r is))) (so.mean xs refs h);
}
