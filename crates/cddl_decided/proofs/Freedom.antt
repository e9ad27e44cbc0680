-- What is free in a form, form by form, and in forms that are alike.
use Rattle.std.proofs.Common.{◌≡◌, ◌⊎◌, List, inl, inr, refl, sym, subst}
use Rattle.lists.proofs.Lemmas.{IsIn, from_contains}
use Rattle.cddl_meaning.specs.Forms.{Node, Plain, Ref, Choice, ArrayOf, TagOf, SimpleBy, MapOf, Both, Such, Holding, one_item, sequence_of_items, Group, Entry, GroupRef, Sequence, Alternatives, Repeat, Language}
use Rattle.cddl_meaning.specs.Alike.{AlikeAll, none, both, AlikeTypes, plain, refs, choices, arrays, tags, simples, maps, boths, suches, holdings, AlikeGroups, entries, group_refs, sequences, alternates, repeats, AreAlike}
use Rattle.cddl_meaning.specs.Ranks.Ranked.{MayBeEmpty, named, every_part, one_of_them, no_minimum, no_round, an_empty_round, AllMayBeEmpty, no_part, this_part, OneMayBeEmpty, this_one, another, a_type, a_group, IsFreeInType, same_item, member, all_items, its_number, left_side, right_side, tested, holder, sequence_held, IsFreePart, front, past_empty, IsFreeInGroup, same_list, part, alternative, a_round}

abbrev pub FreeType : {N G : Type 0} → Node N G → N → Type 0
FreeType (Plain t) m = ⊥
FreeType (Ref n) m = m ≡ n
FreeType (Choice ns) m = IsIn m ns
FreeType (ArrayOf g) m = ⊥
FreeType (TagOf t n) m = ⊥
FreeType (SimpleBy n) m = m ≡ n
FreeType (MapOf ess) m = ⊥
FreeType (Both n o) m = (m ≡ n) ⊎ (m ≡ o)
FreeType (Such n t) m = m ≡ n
FreeType (Holding n one_item o) m = m ≡ n
FreeType (Holding n sequence_of_items o) m = (m ≡ n) ⊎ (m ≡ o)

abbrev pub FreeItems : {N G : Type 0} → Node N G → G → Type 0
FreeItems (Plain t) h = ⊥
FreeItems (Ref n) h = ⊥
FreeItems (Choice ns) h = ⊥
FreeItems (ArrayOf g) h = h ≡ g
FreeItems (TagOf t n) h = ⊥
FreeItems (SimpleBy n) h = ⊥
FreeItems (MapOf ess) h = ⊥
FreeItems (Both n o) h = ⊥
FreeItems (Such n t) h = ⊥
FreeItems (Holding n c o) h = ⊥

abbrev pub FreeGroup : {N G : Type 0} → Language N G → Group N G → G → Type 0
FreeGroup l (Entry n) h = ⊥
FreeGroup l (GroupRef g) h = h ≡ g
FreeGroup l (Sequence gs) h = IsFreePart l gs h
FreeGroup l (Alternatives gs) h = IsIn h gs
FreeGroup l (Repeat least most g) h = h ≡ g

module _ {N G : Type 0} where
  pub free_type : (f : Node N G) (m : N) → IsFreeInType f (a_type m) → FreeType f m
  free_type f m same_item = refl
  free_type f m (member {ms = ms} c) = from_contains ms m c
  free_type f m its_number = refl
  free_type f m left_side = inl refl
  free_type f m right_side = inr refl
  free_type f m tested = refl
  free_type f m (holder {c = one_item}) = refl
  free_type f m (holder {c = sequence_of_items}) = inl refl
  free_type f m sequence_held = inr refl

  pub free_items : (f : Node N G) (g : G) → IsFreeInType f (a_group g) → FreeItems f g
  free_items f g all_items = refl

  pub free_group : (l : Language N G) (f : Group N G) (h : G) → IsFreeInGroup l f h → FreeGroup l f h
  free_group l f h same_list = refl
  free_group l f h (part c) = c
  free_group l f h (alternative {gs = gs} c) = from_contains gs h c
  free_group l f h a_round = refl

alike_in : {A B : Type 0} (R : A → B → Type 0) (xs : List A) (ys : List B) → AlikeAll R xs ys → (y : B) → IsIn y ys → (x : A) × IsIn x xs × R x y
alike_in R xs ys none y i = absurd i
alike_in R xs ys (both {n = n} {ns = ns} {ms = ms} h hs) y (inl e) = (n, inl refl, subst (R n) (sym e) h)
alike_in R xs ys (both {ns = ns} {ms = ms} h hs) y (inr i) = let r = alike_in R ns ms hs y i in (r.0, inr r.1, r.2)

module _ {N G M H : Type 0} (l : Language N G) (k : Language M H) (R : N → M → Type 0) (S : G → H → Type 0) (alike : AreAlike l k R S) where
  pub free_types_alike : (f : Node N G) (g : Node M H) → AlikeTypes R S f g → (m : M) → FreeType g m → (n : N) × FreeType f n × R n m
  free_types_alike f g plain m h = absurd h
  free_types_alike f g (refs {n = n} r) m h = (n, refl, subst (R n) (sym h) r)
  free_types_alike f g (choices {ns = ns} {ms = ms} rs) m h = alike_in R ns ms rs m h
  free_types_alike f g (arrays s) m h = absurd h
  free_types_alike f g (tags a r) m h = absurd h
  free_types_alike f g (simples {n = n} r) m h = (n, refl, subst (R n) (sym h) r)
  free_types_alike f g (maps a) m h = absurd h
  free_types_alike f g (boths {n = n} r s) m (inl h) = (n, inl refl, subst (R n) (sym h) r)
  free_types_alike f g (boths {o = o} r s) m (inr h) = (o, inr refl, subst (R o) (sym h) s)
  free_types_alike f g (suches {n = n} r same bits) m h = (n, refl, subst (R n) (sym h) r)
  free_types_alike f g (holdings {n = n} {c = one_item} r s) m h = (n, refl, subst (R n) (sym h) r)
  free_types_alike f g (holdings {n = n} {c = sequence_of_items} r s) m (inl h) = (n, inl refl, subst (R n) (sym h) r)
  free_types_alike f g (holdings {o = o} {c = sequence_of_items} r s) m (inr h) = (o, inr refl, subst (R o) (sym h) s)

  pub free_items_alike : (f : Node N G) (g : Node M H) → AlikeTypes R S f g → (b : H) → FreeItems g b → (a : G) × FreeItems f a × S a b
  free_items_alike f g plain b h = absurd h
  free_items_alike f g (refs r) b h = absurd h
  free_items_alike f g (choices rs) b h = absurd h
  free_items_alike f g (arrays {g = a} s) b h = (a, refl, subst (S a) (sym h) s)
  free_items_alike f g (tags a r) b h = absurd h
  free_items_alike f g (simples r) b h = absurd h
  free_items_alike f g (maps a) b h = absurd h
  free_items_alike f g (boths r s) b h = absurd h
  free_items_alike f g (suches r same bits) b h = absurd h
  free_items_alike f g (holdings r s) b h = absurd h

  -- What may be empty in the second language may be so in the first.
  mutual
    pub empty_alike : (g : Group M H) → MayBeEmpty k g → (f : Group N G) → AlikeGroups R S f g → MayBeEmpty l f
    empty_alike g (named {g = b} e) f (group_refs {g = a} s) = named (empty_alike (k.group_at b) e (l.group_at a) (alike.groups a b s))
    empty_alike g (every_part {gs = bs} e) f (sequences {gs = as'} s) = every_part (all_empty_alike bs e as' s)
    empty_alike g (one_of_them {gs = bs} e) f (alternates {gs = as'} s) = one_of_them (one_empty_alike bs e as' s)
    empty_alike g no_minimum f (repeats s) = no_minimum
    empty_alike g (no_round o) f (repeats s) = no_round o
    empty_alike g (an_empty_round {g = b} e) f (repeats {g = a} s) = an_empty_round (empty_alike (k.group_at b) e (l.group_at a) (alike.groups a b s))

    all_empty_alike : (bs : List H) → AllMayBeEmpty k bs → (as' : List G) → AlikeAll S as' bs → AllMayBeEmpty l as'
    all_empty_alike bs no_part as' none = no_part
    all_empty_alike bs (this_part {g = b} {gs = cs} e es) as' (both {n = a} {ns = ds} s ss) = this_part (empty_alike (k.group_at b) e (l.group_at a) (alike.groups a b s)) (all_empty_alike cs es ds ss)

    one_empty_alike : (bs : List H) → OneMayBeEmpty k bs → (as' : List G) → AlikeAll S as' bs → OneMayBeEmpty l as'
    one_empty_alike bs (this_one {g = b} e) as' (both {n = a} s ss) = this_one (empty_alike (k.group_at b) e (l.group_at a) (alike.groups a b s))
    one_empty_alike bs (another {gs = cs} es) as' (both {ns = ds} s ss) = another (one_empty_alike cs es ds ss)

  free_part_alike : (bs : List H) (b : H) → IsFreePart k bs b → (as' : List G) → AlikeAll S as' bs → (a : G) × IsFreePart l as' a × S a b
  free_part_alike bs b front as' (both {n = a} s ss) = (a, front, s)
  free_part_alike bs b (past_empty {g = c} {gs = cs} e h) as' (both {n = a} {ns = ds} s ss) = let r = free_part_alike cs b h ds ss in (r.0, past_empty (empty_alike (k.group_at c) e (l.group_at a) (alike.groups a c s)) r.1, r.2)

  pub free_group_alike : (f : Group N G) (g : Group M H) → AlikeGroups R S f g → (b : H) → FreeGroup k g b → (a : G) × FreeGroup l f a × S a b
  free_group_alike f g (entries r) b h = absurd h
  free_group_alike f g (group_refs {g = a} s) b h = (a, refl, subst (S a) (sym h) s)
  free_group_alike f g (sequences {gs = as'} {hs = bs} s) b h = free_part_alike bs b h as' s
  free_group_alike f g (alternates {gs = as'} {hs = bs} s) b h = alike_in S as' bs s b h
  free_group_alike f g (repeats {g = a} s) b h = (a, refl, subst (S a) (sym h) s)
