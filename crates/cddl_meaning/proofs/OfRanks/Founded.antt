-- Languages in which what is asked of a name ends, though no ranks may tell so.
use Rattle.std.proofs.Common.{List, [], ◌∷◌}
use Rattle.cddl_meaning.specs.Forms.{TagNumber, any_number, exactly, such_as, MapEntry, Node, Plain, Ref, Choice, ArrayOf, TagOf, SimpleBy, MapOf, Both, Such, Holding, Group, Entry, GroupRef, Sequence, Alternatives, Repeat, Language}
use Rattle.cddl_meaning.specs.Ranks.Ranked.{IsFree, Name, a_group, a_type}

-- Each way of names ends that begins at this one, each free in the one before.
pub data IsFounded {N G : Type 0} (l : Language N G) : Name N G → Type 0 where
  founded : {a : Name N G} → ((b : Name N G) → IsFree l a b → IsFounded l b) → IsFounded l a

-- each of these is such
abbrev pub AreAll : {A : Type 0} → (A → Type 0) → List A → Type 0
AreAll P [] = Unit {0}
AreAll P (a ∷ more) = P a × AreAll P more

abbrev pub HasNumber : {N : Type 0} → (N → Type 0) → TagNumber N → Type 0
HasNumber P any_number = Unit {0}
HasNumber P (exactly n) = Unit {0}
HasNumber P (such_as m) = P m

abbrev pub HasEntry : {N : Type 0} → (N → Type 0) → MapEntry N → Type 0
HasEntry P e = P e.key_type × P e.value_type

-- All types and groups that this type names are such, free in it or not.
abbrev pub HasTypeParts : {N G : Type 0} → (N → Type 0) → (G → Type 0) → Node N G → Type 0
HasTypeParts P Q (Plain t) = Unit {0}
HasTypeParts P Q (Ref m) = P m
HasTypeParts P Q (Choice ms) = AreAll P ms
HasTypeParts P Q (ArrayOf g) = Q g
HasTypeParts P Q (TagOf t m) = HasNumber P t × P m
HasTypeParts P Q (SimpleBy m) = P m
HasTypeParts P Q (MapOf ess) = AreAll (AreAll (HasEntry P)) ess
HasTypeParts P Q (Both m n) = P m × P n
HasTypeParts P Q (Such m t) = P m
HasTypeParts P Q (Holding m c n) = P m × P n

-- All that this group names are.
abbrev pub HasGroupParts : {N G : Type 0} → (N → Type 0) → (G → Type 0) → Group N G → Type 0
HasGroupParts P Q (Entry m) = P m
HasGroupParts P Q (GroupRef g) = Q g
HasGroupParts P Q (Sequence gs) = AreAll Q gs
HasGroupParts P Q (Alternatives gs) = AreAll Q gs
HasGroupParts P Q (Repeat least most g) = Q g

-- Whatever such types and groups name is such, too, and what is asked of it ends.
pub record AreFounded {N G : Type 0} (l : Language N G) (P : N → Type 0) (Q : G → Type 0) : Type 0 where
  pub types : (n : N) → P n → HasTypeParts P Q (l.type_at n)
  pub groups : (g : G) → Q g → HasGroupParts P Q (l.group_at g)
  pub type_ends : (n : N) → P n → IsFounded l (a_type n)
  pub group_ends : (g : G) → Q g → IsFounded l (a_group g)
