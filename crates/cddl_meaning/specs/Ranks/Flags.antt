-- Ranks form by form, where a flag of each group tells whether it may take no item: a tool for tests of ranks.
use Rattle.std.specs.Prelude.{◌≡◌, ℕ, zero, suc, ◌<◌, List, [], ◌∷◌, Bool, true, false, ◌&&◌, ◌||◌, ◌↔◌}
use Rattle.cddl_meaning.specs.Forms.{Node, Plain, Ref, Choice, ArrayOf, TagOf, SimpleBy, MapOf, Both, Such, Holding, one_item, sequence_of_items, Group, Entry, GroupRef, Sequence, Alternatives, Repeat, Language}
use Rattle.cddl_meaning.specs.Judges.{is_over}
use Rattle.cddl_meaning.specs.Ranks.Ranked.{MayBeEmpty}

-- The flags of just the groups that may take no item are set.
abbrev pub AreFlags : {N G : Type 0} → Language N G → (G → Bool) → Type 0
AreFlags {G = G} l flag = (g : G) → flag g ≡ true ↔ MayBeEmpty l (l.group_at g)

abbrev pub all_flagged : {G : Type 0} → (G → Bool) → List G → Bool
all_flagged flag [] = true
all_flagged flag (g ∷ gs) = flag g && all_flagged flag gs

abbrev pub one_flagged : {G : Type 0} → (G → Bool) → List G → Bool
one_flagged flag [] = false
one_flagged flag (g ∷ gs) = flag g || one_flagged flag gs

-- the flag of this form, by those of its parts
abbrev pub flag_of : {N G : Type 0} → (G → Bool) → Group N G → Bool
flag_of flag (Entry m) = false
flag_of flag (GroupRef g) = flag g
flag_of flag (Sequence gs) = all_flagged flag gs
flag_of flag (Alternatives gs) = one_flagged flag gs
flag_of flag (Repeat zero most g) = true
flag_of flag (Repeat (suc least) most g) = is_over most || flag g

-- all of these names have a rank below r
abbrev pub AreBelow : {A : Type 0} → (A → ℕ) → ℕ → List A → Type 0
AreBelow rank r [] = Unit {0}
AreBelow rank r (a ∷ more) = (rank a < r) × AreBelow rank r more

-- the parts of a sequence that are free in it, by their flags, have a rank below r
abbrev pub LeadsDownBy : {G : Type 0} → (G → Bool) → (G → ℕ) → ℕ → List G → Type 0
LeadsDownBy flag rank r [] = Unit {0}
LeadsDownBy flag rank r (g ∷ gs) = (rank g < r) × (flag g ≡ true → LeadsDownBy flag rank r gs)

-- what is free in this type has a rank below r
abbrev pub IsTypeRanked : {N G : Type 0} → (N → ℕ) → (G → ℕ) → ℕ → Node N G → Type 0
IsTypeRanked type_rank group_rank r (Plain t) = Unit {0}
IsTypeRanked type_rank group_rank r (Ref m) = type_rank m < r
IsTypeRanked type_rank group_rank r (Choice ms) = AreBelow type_rank r ms
IsTypeRanked type_rank group_rank r (ArrayOf g) = group_rank g < r
IsTypeRanked type_rank group_rank r (TagOf t m) = Unit {0}
IsTypeRanked type_rank group_rank r (SimpleBy m) = type_rank m < r
IsTypeRanked type_rank group_rank r (MapOf ess) = Unit {0}
IsTypeRanked type_rank group_rank r (Both m n) = (type_rank m < r) × (type_rank n < r)
IsTypeRanked type_rank group_rank r (Such m t) = type_rank m < r
IsTypeRanked type_rank group_rank r (Holding m one_item n) = type_rank m < r
IsTypeRanked type_rank group_rank r (Holding m sequence_of_items n) = (type_rank m < r) × (type_rank n < r)

-- what is free in this group, by the flags, has a rank below r
abbrev pub IsGroupRankedBy : {N G : Type 0} → (G → Bool) → (G → ℕ) → ℕ → Group N G → Type 0
IsGroupRankedBy flag rank r (Entry m) = Unit {0}
IsGroupRankedBy flag rank r (GroupRef g) = rank g < r
IsGroupRankedBy flag rank r (Sequence gs) = LeadsDownBy flag rank r gs
IsGroupRankedBy flag rank r (Alternatives gs) = AreBelow rank r gs
IsGroupRankedBy flag rank r (Repeat least most g) = rank g < r

-- Each flag that is to be set is, and the ranks go down by the flags.
pub record IsRankedBy {N G : Type 0} (l : Language N G) (flag : G → Bool) (type_rank : N → ℕ) (group_rank : G → ℕ) : Type 0 where
  pub flags : (g : G) → flag_of flag (l.group_at g) ≡ true → flag g ≡ true
  pub types : (n : N) → IsTypeRanked type_rank group_rank (type_rank n) (l.type_at n)
  pub groups : (g : G) → IsGroupRankedBy flag group_rank (group_rank g) (l.group_at g)
