-- Two languages that say the same, name by name: what is named here and what is named there have forms alike.
--
-- So one specification may have several tables: equal types are one row in the one and two in the other. R relates the
-- names of types, S those of groups.
use Rattle.std.specs.Prelude.{◌≡◌, ℕ, List, [], ◌∷◌}
use Rattle.cbor_data.specs.Value.{Value}
use Rattle.cddl_meaning.specs.Forms.{Test, passes, bits_asked, TagNumber, any_number, exactly, such_as, Content, MapEntry, Node, Plain, Ref, Choice, ArrayOf, TagOf, SimpleBy, MapOf, Both, Such, Holding, Most, Group, Entry, GroupRef, Sequence, Alternatives, Repeat, Language, Counting, every_entry, by_keys}

-- as many names, related one by one in their order
pub data AlikeAll {N M : Type 0} (R : N → M → Type 0) : List N → List M → Type 0 where
  none : AlikeAll R [] []
  both : {n : N} {m : M} {ns : List N} {ms : List M} → R n m → AlikeAll R ns ms → AlikeAll R (n ∷ ns) (m ∷ ms)

-- the same tag numbers are meant
pub data AlikeNumbers {N M : Type 0} (R : N → M → Type 0) : TagNumber N → TagNumber M → Type 0 where
  any_numbers : AlikeNumbers R any_number any_number
  same_number : {n : ℕ} → AlikeNumbers R (exactly n) (exactly n)
  heads : {n : N} {m : M} → R n m → AlikeNumbers R (such_as n) (such_as m)

-- entries of maps with the same bounds and the same cuts, of related types
pub data AlikeEntries {N M : Type 0} (R : N → M → Type 0) : List (MapEntry N) → List (MapEntry M) → Type 0 where
  no_entries : AlikeEntries R [] []
  entry : {d : MapEntry N} {e : MapEntry M} {ds : List (MapEntry N)} {es : List (MapEntry M)} → d.least ≡ e.least → d.most ≡ e.most → d.cuts ≡ e.cuts → R d.key_type e.key_type → R d.value_type e.value_type → AlikeEntries R ds es → AlikeEntries R (d ∷ ds) (e ∷ es)

-- as many alternatives, alike one by one in their order
pub data AlikeMaps {N M : Type 0} (R : N → M → Type 0) : List (List (MapEntry N)) → List (List (MapEntry M)) → Type 0 where
  no_alternatives : AlikeMaps R [] []
  alternative : {ds : List (MapEntry N)} {es : List (MapEntry M)} {dss : List (List (MapEntry N))} {ess : List (List (MapEntry M))} → AlikeEntries R ds es → AlikeMaps R dss ess → AlikeMaps R (ds ∷ dss) (es ∷ ess)

-- the same items pass
abbrev pub SameTest : Test → Test → Type 0
SameTest t u = (x : Value) → passes t x ≡ passes u x

-- about as many bits of each item
abbrev pub SameBits : Test → Test → Type 0
SameBits t u = (x : Value) → bits_asked t x ≡ bits_asked u x

-- the same form of type, of related parts
pub data AlikeTypes {N G M H : Type 0} (R : N → M → Type 0) (S : G → H → Type 0) : Node N G → Node M H → Type 0 where
  plain : {t : Test} → AlikeTypes R S (Plain t) (Plain t)
  refs : {n : N} {m : M} → R n m → AlikeTypes R S (Ref n) (Ref m)
  choices : {ns : List N} {ms : List M} → AlikeAll R ns ms → AlikeTypes R S (Choice ns) (Choice ms)
  arrays : {g : G} {h : H} → S g h → AlikeTypes R S (ArrayOf g) (ArrayOf h)
  tags : {s : TagNumber N} {t : TagNumber M} {n : N} {m : M} → AlikeNumbers R s t → R n m → AlikeTypes R S (TagOf s n) (TagOf t m)
  simples : {n : N} {m : M} → R n m → AlikeTypes R S (SimpleBy n) (SimpleBy m)
  maps : {dss : List (List (MapEntry N))} {ess : List (List (MapEntry M))} → AlikeMaps R dss ess → AlikeTypes R S (MapOf dss) (MapOf ess)
  boths : {n o : N} {m q : M} → R n m → R o q → AlikeTypes R S (Both n o) (Both m q)
  suches : {n : N} {m : M} {t u : Test} → R n m → SameTest t u → SameBits t u → AlikeTypes R S (Such n t) (Such m u)
  holdings : {n o : N} {m q : M} {c : Content} → R n m → R o q → AlikeTypes R S (Holding n c o) (Holding m c q)

-- the same form of group, of related parts, and as often
pub data AlikeGroups {N G M H : Type 0} (R : N → M → Type 0) (S : G → H → Type 0) : Group N G → Group M H → Type 0 where
  entries : {n : N} {m : M} → R n m → AlikeGroups R S (Entry n) (Entry m)
  group_refs : {g : G} {h : H} → S g h → AlikeGroups R S (GroupRef g) (GroupRef h)
  sequences : {gs : List G} {hs : List H} → AlikeAll S gs hs → AlikeGroups R S (Sequence gs) (Sequence hs)
  alternates : {gs : List G} {hs : List H} → AlikeAll S gs hs → AlikeGroups R S (Alternatives gs) (Alternatives hs)
  repeats : {least : ℕ} {most : Most} {g : G} {h : H} → S g h → AlikeGroups R S (Repeat least most g) (Repeat least most h)

-- the same is counted: related key types are known to be the same value, or neither is known to be one
abbrev pub AlikeCounting : {N M : Type 0} → (N → M → Type 0) → Counting N → Counting M → Type 0
AlikeCounting R every_entry every_entry = Unit {0}
AlikeCounting R every_entry (by_keys g) = ⊥
AlikeCounting R (by_keys f) every_entry = ⊥
AlikeCounting {N = N} {M = M} R (by_keys f) (by_keys g) = (n : N) (m : M) → R n m → f n ≡ g m

-- what is related has forms alike, and counts the same
pub record AreAlike {N G M H : Type 0} (l : Language N G) (k : Language M H) (R : N → M → Type 0) (S : G → H → Type 0) : Type 0 where
  pub types : (n : N) (m : M) → R n m → AlikeTypes R S (l.type_at n) (k.type_at m)
  pub groups : (g : G) (h : H) → S g h → AlikeGroups R S (l.group_at g) (k.group_at h)
  pub counting : AlikeCounting R l.counting k.counting

-- the relation, read the other way
abbrev pub flipped : {N M : Type 0} → (N → M → Type 0) → M → N → Type 0
flipped R m n = R n m
