-- What a search keeps.
use Rattle.std.proofs.Common.{◌≡◌, ℕ, ◌<◌, ◌≤◌, ◌+◌, List, [], ◌∷◌, ◌++◌, Some, Option, length, sym, ap, subst, ◌∙◌, ◌⊎◌, inl, inr, slice_get, arith}
use Rattle.cddl_meaning.specs.Alike.{AlikeAll, none, both, AlikeTypes, plain, refs, choices, arrays, tags, simples, maps, boths, suches, holdings, AlikeNumbers, any_numbers, same_number, heads, AlikeEntries, no_entries, entry, AlikeMaps, no_alternatives, alternative, AlikeGroups, entries, group_refs, sequences, alternates, repeats}
use Rattle.cddl_meaning.specs.Forms as F
use Rattle.std.proofs.lemmas.Bool.{cases_lt}
use Rattle.lists.proofs.Lemmas.{get_cases}
use Rattle.cddl_language.specs.Language.{GroupName, TypeName, first_of, group_form, reference, type_node}
use Rattle.cddl_language.specs.Substitution.{group_choices}
use Rattle.cddl_language.specs.Terms.{Ref}
use Rattle.check_terms.specs.Table.{Table}
use Rattle.table_nodes.specs.Nodes.{group_view, type_view}
use Rattle.table_nodes.specs.declared.nodes.Group.{Group}
use Rattle.table_nodes.specs.declared.nodes.GroupId.{GroupId}
use Rattle.table_nodes.specs.declared.nodes.Node.{Node}
use Rattle.table_nodes.specs.declared.nodes.TypeId.{TypeId}
use Rattle.table_making.specs.Basis.{Sense}
use Rattle.table_making.specs.Forms.{group_form_view, type_form_view}
use Rattle.table_making.specs.Numbers.{AreNamed, Extends, HasGroupNumber, HasTypeNumber, IsGroupAt, IsTypeAt, Keys, MakesGroup, MakesType}
use Rattle.table_making.specs.Origins.{IsGroupForm, IsGroupOrigin, IsTypeForm, IsTypeOrigin}
use Rattle.table_making.specs.Search.{HasNumber, of_group, of_type, IsSearch}
use Rattle.table_making.specs.declared.form.GroupForm.{GroupForm}
use Rattle.table_making.specs.declared.form.TypeForm.{TypeForm}
use Rattle.table_making.specs.declared.origin.GroupOrigin.{GroupOrigin}
use Rattle.table_making.specs.declared.origin.TypeOrigin.{TypeOrigin}

-- Forms alike to forms that are alike to others.
module _ {N O M G P H : Type 0} (A : N → O → Type 0) (B : G → P → Type 0) (C : O → M → Type 0) (D : P → H → Type 0) (R : N → M → Type 0) (S : G → H → Type 0) (types : (n : N) (o : O) (m : M) → A n o → C o m → R n m) (groups : (g : G) (p : P) (h : H) → B g p → D p h → S g h) where
  all_types : (ns : List N) (os : List O) (ms : List M) → AlikeAll A ns os → AlikeAll C os ms → AlikeAll R ns ms
  all_types [] [] [] none none = none
  all_types [] [] (m ∷ ms) a c = elim c [ ]
  all_types [] (o ∷ os) ms a c = elim a [ ]
  all_types (n ∷ ns) [] ms a c = elim a [ ]
  all_types (n ∷ ns) (o ∷ os) [] a c = elim c [ ]
  all_types (n ∷ ns) (o ∷ os) (m ∷ ms) (both a later) (both c cs) = both (types n o m a c) (all_types ns os ms later cs)

  all_groups : (ns : List G) (os : List P) (ms : List H) → AlikeAll B ns os → AlikeAll D os ms → AlikeAll S ns ms
  all_groups [] [] [] none none = none
  all_groups [] [] (m ∷ ms) a c = elim c [ ]
  all_groups [] (o ∷ os) ms a c = elim a [ ]
  all_groups (n ∷ ns) [] ms a c = elim a [ ]
  all_groups (n ∷ ns) (o ∷ os) [] a c = elim c [ ]
  all_groups (n ∷ ns) (o ∷ os) (m ∷ ms) (both a later) (both c cs) = both (groups n o m a c) (all_groups ns os ms later cs)

  numbers_joined : (n : F.TagNumber N) (o : F.TagNumber O) (m : F.TagNumber M) → AlikeNumbers A n o → AlikeNumbers C o m → AlikeNumbers R n m
  numbers_joined n F.any_number m any_numbers any_numbers = any_numbers
  numbers_joined n (F.exactly k) m same_number same_number = same_number
  numbers_joined n (F.such_as o) m (heads {n = p} a) (heads {m = q} c) = heads (types p o q a c)

  entries_joined : (ds : List (F.MapEntry N)) (bs : List (F.MapEntry O)) (es : List (F.MapEntry M)) → AlikeEntries A ds bs → AlikeEntries C bs es → AlikeEntries R ds es
  entries_joined [] [] [] no_entries no_entries = no_entries
  entries_joined [] [] (e ∷ es) a c = elim c [ ]
  entries_joined [] (b ∷ bs) es a c = elim a [ ]
  entries_joined (d ∷ ds) [] es a c = elim a [ ]
  entries_joined (d ∷ ds) (b ∷ bs) [] a c = elim c [ ]
  entries_joined (d ∷ ds) (b ∷ bs) (e ∷ es) (entry least most cuts key value later) (entry least' most' cuts' key' value' cs) = entry (least ∙ least') (most ∙ most') (cuts ∙ cuts') (types d.key_type b.key_type e.key_type key key') (types d.value_type b.value_type e.value_type value value') (entries_joined ds bs es later cs)

  maps_joined : (dss : List (List (F.MapEntry N))) (bss : List (List (F.MapEntry O))) (ess : List (List (F.MapEntry M))) → AlikeMaps A dss bss → AlikeMaps C bss ess → AlikeMaps R dss ess
  maps_joined [] [] [] no_alternatives no_alternatives = no_alternatives
  maps_joined [] [] (es ∷ ess) a c = elim c [ ]
  maps_joined [] (bs ∷ bss) ess a c = elim a [ ]
  maps_joined (ds ∷ dss) [] ess a c = elim a [ ]
  maps_joined (ds ∷ dss) (bs ∷ bss) [] a c = elim c [ ]
  maps_joined (ds ∷ dss) (bs ∷ bss) (es ∷ ess) (alternative a later) (alternative c cs) = alternative (entries_joined ds bs es a c) (maps_joined dss bss ess later cs)

  pub types_joined : (n : F.Node N G) (o : F.Node O P) (m : F.Node M H) → AlikeTypes A B n o → AlikeTypes C D o m → AlikeTypes R S n m
  types_joined n (F.Plain t) m plain plain = plain
  types_joined n (F.Ref o) m (refs {n = p} a) (refs {m = q} c) = refs (types p o q a c)
  types_joined n (F.Choice os) m (choices {ns = ps} a) (choices {ms = qs} c) = choices (all_types ps os qs a c)
  types_joined n (F.ArrayOf o) m (arrays {g = p} a) (arrays {h = q} c) = arrays (groups p o q a c)
  types_joined n (F.TagOf k o) m (tags {s = v} {n = p} e a) (tags {t = w} {m = q} f c) = tags (numbers_joined v k w e f) (types p o q a c)
  types_joined n (F.SimpleBy o) m (simples {n = p} a) (simples {m = q} c) = simples (types p o q a c)
  types_joined n (F.MapOf bss) m (maps {dss = dss} a) (maps {ess = ess} c) = maps (maps_joined dss bss ess a c)
  types_joined n (F.Both o z) m (boths {n = p} {o = u} a b) (boths {m = q} {q = v} c d) = boths (types p o q a c) (types u z v b d)
  types_joined n (F.Such o t) m (suches {n = p} a same bits) (suches {m = q} c so more) = suches (types p o q a c) (λ x. same x ∙ so x) (λ x. bits x ∙ more x)
  types_joined n (F.Holding o t z) m (holdings {n = p} {o = u} a b) (holdings {m = q} {q = v} c d) = holdings (types p o q a c) (types u z v b d)

  pub groups_joined : (n : F.Group N G) (o : F.Group O P) (m : F.Group M H) → AlikeGroups A B n o → AlikeGroups C D o m → AlikeGroups R S n m
  groups_joined n (F.Entry o) m (entries {n = p} a) (entries {m = q} c) = entries (types p o q a c)
  groups_joined n (F.GroupRef o) m (group_refs {g = p} a) (group_refs {h = q} c) = group_refs (groups p o q a c)
  groups_joined n (F.Sequence os) m (sequences {gs = ps} a) (sequences {hs = qs} c) = sequences (all_groups ps os qs a c)
  groups_joined n (F.Alternatives os) m (alternates {gs = ps} a) (alternates {hs = qs} c) = alternates (all_groups ps os qs a c)
  groups_joined n (F.Repeat least most o) m (repeats {g = p} a) (repeats {h = q} c) = repeats (groups p o q a c)

-- The same forms, of parts that are related in another way.
module _ {N M G H : Type 0} (A : N → M → Type 0) (B : G → H → Type 0) (R : N → M → Type 0) (S : G → H → Type 0) (types : (n : N) (m : M) → A n m → R n m) (groups : (g : G) (h : H) → B g h → S g h) where
  more_types : (ns : List N) (ms : List M) → AlikeAll A ns ms → AlikeAll R ns ms
  more_types [] [] none = none
  more_types [] (m ∷ ms) a = elim a [ ]
  more_types (n ∷ ns) [] a = elim a [ ]
  more_types (n ∷ ns) (m ∷ ms) (both a later) = both (types n m a) (more_types ns ms later)

  more_groups : (ns : List G) (ms : List H) → AlikeAll B ns ms → AlikeAll S ns ms
  more_groups [] [] none = none
  more_groups [] (m ∷ ms) a = elim a [ ]
  more_groups (n ∷ ns) [] a = elim a [ ]
  more_groups (n ∷ ns) (m ∷ ms) (both a later) = both (groups n m a) (more_groups ns ms later)

  numbers_kept : (n : F.TagNumber N) (m : F.TagNumber M) → AlikeNumbers A n m → AlikeNumbers R n m
  numbers_kept n m any_numbers = any_numbers
  numbers_kept n m same_number = same_number
  numbers_kept n m (heads {n = p} {m = q} a) = heads (types p q a)

  entries_kept : (ds : List (F.MapEntry N)) (es : List (F.MapEntry M)) → AlikeEntries A ds es → AlikeEntries R ds es
  entries_kept [] [] no_entries = no_entries
  entries_kept [] (e ∷ es) a = elim a [ ]
  entries_kept (d ∷ ds) [] a = elim a [ ]
  entries_kept (d ∷ ds) (e ∷ es) (entry least most cuts key value later) = entry least most cuts (types d.key_type e.key_type key) (types d.value_type e.value_type value) (entries_kept ds es later)

  maps_kept : (dss : List (List (F.MapEntry N))) (ess : List (List (F.MapEntry M))) → AlikeMaps A dss ess → AlikeMaps R dss ess
  maps_kept [] [] no_alternatives = no_alternatives
  maps_kept [] (es ∷ ess) a = elim a [ ]
  maps_kept (ds ∷ dss) [] a = elim a [ ]
  maps_kept (ds ∷ dss) (es ∷ ess) (alternative a later) = alternative (entries_kept ds es a) (maps_kept dss ess later)

  pub types_kept : (n : F.Node N G) (m : F.Node M H) → AlikeTypes A B n m → AlikeTypes R S n m
  types_kept n m plain = plain
  types_kept n m (refs {n = p} {m = q} a) = refs (types p q a)
  types_kept n m (choices {ns = ps} {ms = qs} a) = choices (more_types ps qs a)
  types_kept n m (arrays {g = p} {h = q} a) = arrays (groups p q a)
  types_kept n m (tags {s = v} {t = w} {n = p} {m = q} e a) = tags (numbers_kept v w e) (types p q a)
  types_kept n m (simples {n = p} {m = q} a) = simples (types p q a)
  types_kept n m (maps {dss = dss} {ess = ess} a) = maps (maps_kept dss ess a)
  types_kept n m (boths {n = p} {o = u} {m = q} {q = v} a b) = boths (types p q a) (types u v b)
  types_kept n m (suches {n = p} {m = q} a same bits) = suches (types p q a) same bits
  types_kept n m (holdings {n = p} {o = u} {m = q} {q = v} a b) = holdings (types p q a) (types u v b)

  pub groups_kept : (n : F.Group N G) (m : F.Group M H) → AlikeGroups A B n m → AlikeGroups R S n m
  groups_kept n m (entries {n = p} {m = q} a) = entries (types p q a)
  groups_kept n m (group_refs {g = p} {h = q} a) = group_refs (groups p q a)
  groups_kept n m (sequences {gs = ps} {hs = qs} a) = sequences (more_groups ps qs a)
  groups_kept n m (alternates {gs = ps} {hs = qs} a) = alternates (more_groups ps qs a)
  groups_kept n m (repeats {g = p} {h = q} a) = repeats (groups p q a)

same_one : {A : Type 0} (o : Option A) (x y : A) → o ≡ Some x → o ≡ Some y → x ≡ y
same_one o x y e f = cc

module _ (s : Sense) (t : Table) where
  pub type_number : (ks : Keys) (n : TypeName) (o : TypeOrigin) (m : TypeId) → IsTypeOrigin s t n o → IsTypeAt ks o m → HasTypeNumber s t ks n m
  type_number ks n o m is there = record { origin = o; there = there; named = is }

  pub group_number : (ks : Keys) (n : GroupName) (o : GroupOrigin) (m : GroupId) → IsGroupOrigin s t n o → IsGroupAt ks o m → HasGroupNumber s t ks n m
  group_number ks n o m is there = record { origin = o; there = there; named = is }

  pub type_number_stays : (a b : Keys) → Extends a b → (n : TypeName) (m : TypeId) → HasTypeNumber s t a n m → HasTypeNumber s t b n m
  type_number_stays a b g n m h = record { origin = h.origin; there = g.types m.number h.origin h.there; named = h.named }

  pub group_number_stays : (a b : Keys) → Extends a b → (n : GroupName) (m : GroupId) → HasGroupNumber s t a n m → HasGroupNumber s t b n m
  group_number_stays a b g n m h = record { origin = h.origin; there = g.groups m.number h.origin h.there; named = h.named }

  pub number_stays : (a b : Keys) → Extends a b → (r : Ref) → HasNumber s t a r → HasNumber s t b r
  number_stays a b g r (of_type m e h) = of_type m e (type_number_stays a b g (reference r) m h)
  number_stays a b g r (of_group m e h) = of_group m e (group_number_stays a b g (first_of (group_choices s.definitions r)) m h)

  pub numbers_on : (old new : Keys) (place : ℕ) → Extends old new → ((k : ℕ) (r : Ref) → k < place → slice_get s.refs k ≡ Some r → HasNumber s t old r) → ((r : Ref) → slice_get s.refs place ≡ Some r → HasNumber s t new r) → (k : ℕ) (r : Ref) → k < place + 1 → slice_get s.refs k ≡ Some r → HasNumber s t new r
  numbers_on old new place g f here k r h e = by (cases_lt k place)
    where
      by : (k < place) ⊎ (place ≤ k) → HasNumber s t new r
      by (inl i) = number_stays old new g r (f k r i e)
      by (inr i) =
          let same : k ≡ place = omega (arith, h, i) in
          here r (subst (λ j. slice_get s.refs j ≡ Some r) same e)

  type_form_stays : (a b : Keys) → Extends a b → (n : F.Node TypeName GroupName) (m : F.Node TypeId GroupId) → AlikeTypes (HasTypeNumber s t a) (HasGroupNumber s t a) n m → AlikeTypes (HasTypeNumber s t b) (HasGroupNumber s t b) n m
  type_form_stays a b g n m h = types_kept (HasTypeNumber s t a) (HasGroupNumber s t a) (HasTypeNumber s t b) (HasGroupNumber s t b) (type_number_stays a b g) (group_number_stays a b g) n m h

  group_form_stays : (a b : Keys) → Extends a b → (n : F.Group TypeName GroupName) (m : F.Group TypeId GroupId) → AlikeGroups (HasTypeNumber s t a) (HasGroupNumber s t a) n m → AlikeGroups (HasTypeNumber s t b) (HasGroupNumber s t b) n m
  group_form_stays a b g n m h = groups_kept (HasTypeNumber s t a) (HasGroupNumber s t a) (HasTypeNumber s t b) (HasGroupNumber s t b) (type_number_stays a b g) (group_number_stays a b g) n m h

  pub search_begun : (ks : Keys) (types : List Node) (groups : List Group) → types ≡ [] → groups ≡ [] → AreNamed s t ks → IsSearch s t ks types groups
  search_begun ks types groups e f named = record {
    named = named;
    types_there = λ i m h. absurd (not_in types e i m h);
    groups_there = λ i m h. absurd (not_in groups f i m h);
    types_made = λ i m o n h. absurd (not_in types e i m h);
    groups_made = λ i m o n h. absurd (not_in groups f i m h);
  }
    where
      not_in : {A : Type 0} (xs : List A) → xs ≡ [] → (i : ℕ) (x : A) → slice_get xs i ≡ Some x → ⊥
      not_in [] e i x h = cc
      not_in (y ∷ xs) e i x h = cc

  module _ (old new : Keys) (types : List Node) (groups : List Group) (so : IsSearch s t old types groups) where
    pub type_searched : (origin : TypeOrigin) (f : TypeForm) (m : Node) (later : List Node) → slice_get old.types (length types) ≡ Some origin → ((n : TypeName) → IsTypeOrigin s t n origin → IsTypeForm s t n f) → MakesType old new (type_form_view f) (type_view m) → later ≡ types ++ m ∷ [] → IsSearch s t new later groups
    type_searched origin f m later e form w l = record {
      named = (let n = so.named.types (length types) origin e in w.named s t (type_node s.worth s.definitions n.0) (form n.0 n.1) so.named);
      types_there = λ i x h. there i x (get_cases types m i x (subst (λ ns. slice_get ns i ≡ Some x) l h));
      groups_there = λ i x h. (let o = so.groups_there i x h in (o.0, w.grows.groups i o.0 o.1));
      types_made = λ i x o n h g is. made i x o n g is (get_cases types m i x (subst (λ ns. slice_get ns i ≡ Some x) l h));
      groups_made = λ i x o n h g is. (let p = so.groups_there i x h in group_form_stays old new w.grows (group_form s.worth s.definitions n) (group_view x) (so.groups_made i x o n h (p.1 ∙ ap Some (same_one (slice_get new.groups i) p.0 o (w.grows.groups i p.0 p.1) g)) is));
    }
      where
        there : (i : ℕ) (x : Node) → (slice_get types i ≡ Some x) ⊎ ((i ≡ length types) × (x ≡ m)) → (o : TypeOrigin) × (slice_get new.types i ≡ Some o)
        there i x (inl h) = let o = so.types_there i x h in (o.0, w.grows.types i o.0 o.1)
        there i x (inr h) = (origin, w.grows.types i origin (ap (slice_get old.types) h.0 ∙ e))

        made : (i : ℕ) (x : Node) (o : TypeOrigin) (n : TypeName) → slice_get new.types i ≡ Some o → IsTypeOrigin s t n o → (slice_get types i ≡ Some x) ⊎ ((i ≡ length types) × (x ≡ m)) → AlikeTypes (HasTypeNumber s t new) (HasGroupNumber s t new) (type_node s.worth s.definitions n) (type_view x)
        made i x o n g is (inl h) = let p = so.types_there i x h in type_form_stays old new w.grows (type_node s.worth s.definitions n) (type_view x) (so.types_made i x o n h (p.1 ∙ ap Some (same_one (slice_get new.types i) p.0 o (w.grows.types i p.0 p.1) g)) is)
        made i x o n g is (inr h) =
            let here = w.grows.types i origin (ap (slice_get old.types) h.0 ∙ e) in
            let its = subst (IsTypeOrigin s t n) (same_one (slice_get new.types i) o origin g here) is in
            subst (λ y. AlikeTypes (HasTypeNumber s t new) (HasGroupNumber s t new) (type_node s.worth s.definitions n) (type_view y)) (sym h.1) (types_joined (IsTypeOrigin s t) (IsGroupOrigin s t) (IsTypeAt new) (IsGroupAt new) (HasTypeNumber s t new) (HasGroupNumber s t new) (type_number new) (group_number new) (type_node s.worth s.definitions n) (type_form_view f) (type_view m) (form n its) w.there)

    pub group_searched : (origin : GroupOrigin) (f : GroupForm) (m : Group) (later : List Group) → slice_get old.groups (length groups) ≡ Some origin → ((n : GroupName) → IsGroupOrigin s t n origin → IsGroupForm s t n f) → MakesGroup old new (group_form_view f) (group_view m) → later ≡ groups ++ m ∷ [] → IsSearch s t new types later
    group_searched origin f m later e form w l = record {
      named = (let n = so.named.groups (length groups) origin e in w.named s t (group_form s.worth s.definitions n.0) (form n.0 n.1) so.named);
      groups_there = λ i x h. there i x (get_cases groups m i x (subst (λ ns. slice_get ns i ≡ Some x) l h));
      types_there = λ i x h. (let o = so.types_there i x h in (o.0, w.grows.types i o.0 o.1));
      groups_made = λ i x o n h g is. made i x o n g is (get_cases groups m i x (subst (λ ns. slice_get ns i ≡ Some x) l h));
      types_made = λ i x o n h g is. (let p = so.types_there i x h in type_form_stays old new w.grows (type_node s.worth s.definitions n) (type_view x) (so.types_made i x o n h (p.1 ∙ ap Some (same_one (slice_get new.types i) p.0 o (w.grows.types i p.0 p.1) g)) is));
    }
      where
        there : (i : ℕ) (x : Group) → (slice_get groups i ≡ Some x) ⊎ ((i ≡ length groups) × (x ≡ m)) → (o : GroupOrigin) × (slice_get new.groups i ≡ Some o)
        there i x (inl h) = let o = so.groups_there i x h in (o.0, w.grows.groups i o.0 o.1)
        there i x (inr h) = (origin, w.grows.groups i origin (ap (slice_get old.groups) h.0 ∙ e))

        made : (i : ℕ) (x : Group) (o : GroupOrigin) (n : GroupName) → slice_get new.groups i ≡ Some o → IsGroupOrigin s t n o → (slice_get groups i ≡ Some x) ⊎ ((i ≡ length groups) × (x ≡ m)) → AlikeGroups (HasTypeNumber s t new) (HasGroupNumber s t new) (group_form s.worth s.definitions n) (group_view x)
        made i x o n g is (inl h) = let p = so.groups_there i x h in group_form_stays old new w.grows (group_form s.worth s.definitions n) (group_view x) (so.groups_made i x o n h (p.1 ∙ ap Some (same_one (slice_get new.groups i) p.0 o (w.grows.groups i p.0 p.1) g)) is)
        made i x o n g is (inr h) =
            let here = w.grows.groups i origin (ap (slice_get old.groups) h.0 ∙ e) in
            let its = subst (IsGroupOrigin s t n) (same_one (slice_get new.groups i) o origin g here) is in
            subst (λ y. AlikeGroups (HasTypeNumber s t new) (HasGroupNumber s t new) (group_form s.worth s.definitions n) (group_view y)) (sym h.1) (groups_joined (IsTypeOrigin s t) (IsGroupOrigin s t) (IsTypeAt new) (IsGroupAt new) (HasTypeNumber s t new) (HasGroupNumber s t new) (type_number new) (group_number new) (group_form s.worth s.definitions n) (group_form_view f) (group_view m) (form n its) w.there)
