-- What ranks say of each form.
use Rattle.std.proofs.Common.{◌≡◌, ℕ, zero, suc, ◌<◌, ◌≤◌, List, [], ◌∷◌, length, slice_index_or, Contains, refl, subst, arith}
use Rattle.cddl_meaning.specs.Forms.{Node, Plain, Ref, Choice, ArrayOf, TagOf, SimpleBy, MapOf, Both, Such, Holding, one_item, sequence_of_items, Group, Entry, GroupRef, Sequence, Alternatives, Repeat, Language}
use Rattle.cddl_meaning.specs.Ranks.Ranked.{MayBeEmpty, Name, a_type, a_group, IsFreeInType, same_item, member, all_items, its_number, left_side, right_side, tested, holder, sequence_held, IsFreePart, front, past_empty, IsFreeInGroup, same_list, part, alternative, a_round, IsFree, in_type, in_group, IsRanked, LeadsTo, at_once, by_way}
use Rattle.cddl_meaning.specs.Ranks.Flags.{AreBelow, IsTypeRanked}

-- the parts of a sequence that are free in it have a rank below r
abbrev pub LeadsDown : {N G : Type 0} → Language N G → (G → ℕ) → ℕ → List G → Type 0
LeadsDown l rank r [] = Unit {0}
LeadsDown l rank r (g ∷ gs) = (rank g < r) × (MayBeEmpty l (l.group_at g) → LeadsDown l rank r gs)

abbrev pub IsGroupRanked : {N G : Type 0} → Language N G → (G → ℕ) → ℕ → Group N G → Type 0
IsGroupRanked l group_rank r (Entry m) = Unit {0}
IsGroupRanked l group_rank r (GroupRef g) = group_rank g < r
IsGroupRanked l group_rank r (Sequence gs) = LeadsDown l group_rank r gs
IsGroupRanked l group_rank r (Alternatives gs) = AreBelow group_rank r gs
IsGroupRanked l group_rank r (Repeat least most g) = group_rank g < r

pub record IsRankedByForm {N G : Type 0} (l : Language N G) (type_rank : N → ℕ) (group_rank : G → ℕ) (bound : ℕ) : Type 0 where
  pub types : (n : N) → IsTypeRanked type_rank group_rank (type_rank n) (l.type_at n)
  pub groups : (g : G) → IsGroupRanked l group_rank (group_rank g) (l.group_at g)
  pub type_bound : (n : N) → type_rank n ≤ bound
  pub group_bound : (g : G) → group_rank g ≤ bound

here : {A : Type 0} (a : A) (more : List A) → Contains (a ∷ more) a
here a more = (0, omega arith, refl)

later : {A : Type 0} (a b : A) (more : List A) → Contains more b → Contains (a ∷ more) b
later a b more c = (suc c.0, omega (arith, c.1), c.2)

all_below : {A : Type 0} (rank : A → ℕ) (r : ℕ) (names : List A) → ((a : A) → Contains names a → rank a < r) → AreBelow rank r names
all_below rank r [] h = tt
all_below rank r (a ∷ more) h = (h a (here a more), all_below rank r more (λ b c. h b (later a b more c)))

-- and back
pub each_below : {A : Type 0} (rank : A → ℕ) (r : ℕ) (names : List A) → AreBelow rank r names → (a : A) → Contains names a → rank a < r
each_below {A = A} rank r names h a c = at names h c.0 c.1 c.2
  where
    at : (names : List A) → AreBelow rank r names → (k : ℕ) → k < length names → slice_index_or names k a ≡ a → rank a < r
    at [] h k i e = absurd (omega (arith, i))
    at (b ∷ more) h zero i e = subst (λ x. rank x < r) e h.0
    at (b ∷ more) h (suc k) i e = at more h.1 k (omega (arith, i)) e

module _ {N G : Type 0} (l : Language N G) (rank : Name N G → ℕ) where
  abbrev pub types_by : N → ℕ
  types_by n = rank (a_type n)

  abbrev pub groups_by : G → ℕ
  groups_by g = rank (a_group g)

  leads_down : (r : ℕ) (gs : List G) → ((h : G) → IsFreePart l gs h → groups_by h < r) → LeadsDown l groups_by r gs
  leads_down r [] h = tt
  leads_down r (g ∷ gs) h = (h g front, λ e. leads_down r gs (λ b f. h b (past_empty e f)))

  type_ranked : (r : ℕ) (f : Node N G) → ((a : Name N G) → IsFreeInType f a → rank a < r) → IsTypeRanked types_by groups_by r f
  type_ranked r (Plain t) h = tt
  type_ranked r (Ref m) h = h (a_type m) same_item
  type_ranked r (Choice ms) h = all_below types_by r ms (λ m c. h (a_type m) (member c))
  type_ranked r (ArrayOf g) h = h (a_group g) all_items
  type_ranked r (TagOf t m) h = tt
  type_ranked r (SimpleBy m) h = h (a_type m) its_number
  type_ranked r (MapOf ess) h = tt
  type_ranked r (Both m n) h = (h (a_type m) left_side, h (a_type n) right_side)
  type_ranked r (Such m t) h = h (a_type m) tested
  type_ranked r (Holding m one_item n) h = h (a_type m) holder
  type_ranked r (Holding m sequence_of_items n) h = (h (a_type m) holder, h (a_type n) sequence_held)

  group_ranked : (r : ℕ) (f : Group N G) → ((h : G) → IsFreeInGroup l f h → groups_by h < r) → IsGroupRanked l groups_by r f
  group_ranked r (Entry m) h = tt
  group_ranked r (GroupRef g) h = h g same_list
  group_ranked r (Sequence gs) h = leads_down r gs (λ g f. h g (part f))
  group_ranked r (Alternatives gs) h = all_below groups_by r gs (λ g c. h g (alternative c))
  group_ranked r (Repeat least most g) h = h g a_round

  pub by_form : {bound : ℕ} → IsRanked l rank bound → IsRankedByForm l types_by groups_by bound
  by_form ranked = record {
    types = λ n. type_ranked (types_by n) (l.type_at n) (λ a f. ranked.down (a_type n) a (in_type f));
    groups = λ g. group_ranked (groups_by g) (l.group_at g) (λ h f. ranked.down (a_group g) (a_group h) (in_group f));
    type_bound = λ n. ranked.most (a_type n);
    group_bound = λ g. ranked.most (a_group g);
  }

  down_each : (r : ℕ) {gs : List G} {h : G} → LeadsDown l groups_by r gs → IsFreePart l gs h → groups_by h < r
  down_each r d front = d.0
  down_each r d (past_empty e f) = down_each r (d.1 e) f

  down_type : (r : ℕ) (f : Node N G) (a : Name N G) → IsTypeRanked types_by groups_by r f → IsFreeInType f a → rank a < r
  down_type r f (a_type m) h same_item = h
  down_type r f (a_type m) h (member {ms = ms} c) = each_below types_by r ms h m c
  down_type r f (a_group g) h all_items = h
  down_type r f (a_type m) h its_number = h
  down_type r f (a_type m) h left_side = h.0
  down_type r f (a_type m) h right_side = h.1
  down_type r f (a_type m) h tested = h
  down_type r f (a_type m) h (holder {c = one_item}) = h
  down_type r f (a_type m) h (holder {c = sequence_of_items}) = h.0
  down_type r f (a_type n) h sequence_held = h.1

  down_group : (r : ℕ) (f : Group N G) (g : G) → IsGroupRanked l groups_by r f → IsFreeInGroup l f g → groups_by g < r
  down_group r f g h same_list = h
  down_group r f g h (part p) = down_each r h p
  down_group r f g h (alternative {gs = gs} c) = each_below groups_by r gs h g c
  down_group r f g h a_round = h

  goes_down : {bound : ℕ} → IsRankedByForm l types_by groups_by bound → (a b : Name N G) → IsFree l a b → rank b < rank a
  goes_down ranked a b (in_type {n = n} f) = down_type (types_by n) (l.type_at n) b (ranked.types n) f
  goes_down ranked a b (in_group {g = g} {h = h} f) = down_group (groups_by g) (l.group_at g) h (ranked.groups g) f

  at_most : {bound : ℕ} → IsRankedByForm l types_by groups_by bound → (a : Name N G) → rank a ≤ bound
  at_most ranked (a_type n) = ranked.type_bound n
  at_most ranked (a_group g) = ranked.group_bound g

  pub from_forms : {bound : ℕ} → IsRankedByForm l types_by groups_by bound → IsRanked l rank bound
  from_forms ranked = record { down = goes_down ranked; most = at_most ranked }

  lower : {bound : ℕ} → IsRanked l rank bound → {a b : Name N G} → LeadsTo l a b → rank b < rank a
  lower ranked (at_once {a = a} {b = b} f) = ranked.down a b f
  lower ranked (by_way {a = a} {b = b} f h) = omega (arith, ranked.down a b f, lower ranked h)

  pub no_return : {bound : ℕ} → IsRanked l rank bound → (a : Name N G) → LeadsTo l a a → ⊥
  no_return ranked a h = omega (arith, lower ranked h)
