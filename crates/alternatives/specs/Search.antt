-- How summaries are made of one another, and the search that makes them: its states, and what holds on the way.
use Rattle.std.specs.Prelude.{◌≡◌, ◌⊎◌, ℕ, zero, suc, ◌+◌, ◌*◌, ◌-◌, List, [], ◌∷◌, ◌++◌, length, set, take, Bool, true, false, if◌then◌else◌, ◌&&◌, ◌||◌, not, nat_eq, nat_lt, is_none, Option, Some, None, slice_get, slice_index_or}
use Rattle.alternatives.specs.declared.Bounds.{Bounds}
use Rattle.alternatives.specs.declared.Part.{Part}
use Rattle.alternatives.specs.declared.Part.TheVariants.{Refused, Entry, Empty, Nothing, Same, Both, Either, Occurs}
use Rattle.alternatives.specs.declared.summary.Sorts.{Sorts}
use Rattle.alternatives.specs.declared.summary.Summary.{Summary}
use Rattle.alternatives.specs.declared.search.Search.{Search}
use Rattle.alternatives.specs.Splices.{is_open, LeadsTo}
use Rattle.alternatives.specs.Sorts.{Sort, empty, optional, needed, other, no_sorts, only, joined}
use Rattle.alternatives.specs.Summaries.{capped, IsSummary}

-- the sorts of all ways to take an alternative of each
abbrev pub beside_sorts : Sorts → Sorts → Sorts
beside_sorts s t = record {
  empty = s.empty && t.empty;
  optional = (s.empty && t.optional) || (s.optional && (t.empty || t.optional));
  needed = (s.empty && t.needed) || (s.needed && t.empty);
  other = (s.empty && t.other) || ((s.optional && (t.needed || t.other)) || ((s.needed && (t.optional || (t.needed || t.other))) || (s.other && (t.empty || (t.optional || (t.needed || t.other))))));
}

-- the sort of one member
abbrev pub single_sort : ℕ → Sort
single_sort zero = optional
single_sort (suc zero) = needed
single_sort _ = other

-- of an entry, of an alternative without entries, and of none
abbrev pub entry_summary : Bounds → Summary
entry_summary b = record { alternatives = 1; members = 1; closed = not (is_open b.most); sorts = only (single_sort b.least) }

abbrev pub empty_summary : Summary
empty_summary = record { alternatives = 1; members = 0; closed = false; sorts = only empty }

abbrev pub no_summary : Summary
no_summary = record { alternatives = 0; members = 0; closed = false; sorts = no_sorts }

abbrev pub both_summary : Summary → Summary → Summary
both_summary s t = record {
  alternatives = capped (s.alternatives * t.alternatives);
  members = capped (capped (s.members * t.alternatives) + capped (s.alternatives * t.members));
  closed = (s.closed && nat_lt 0 t.alternatives) || (nat_lt 0 s.alternatives && t.closed);
  sorts = beside_sorts s.sorts t.sorts;
}

abbrev pub either_summary : Summary → Summary → Summary
either_summary s t = record {
  alternatives = capped (s.alternatives + t.alternatives);
  members = capped (s.members + t.members);
  closed = s.closed || t.closed;
  sorts = joined s.sorts t.sorts;
}

-- with `*`
abbrev pub repeated_summary : Summary → Option Summary
repeated_summary s = if s.closed || s.sorts.other then None else Some (record { alternatives = 1; members = s.members; closed = false; sorts = only (if nat_eq s.members 0 then empty else optional) })

-- with `+`
abbrev pub needed_summary : Summary → Option Summary
needed_summary s = if s.sorts.empty || (s.sorts.optional || s.sorts.other) then None else Some (record { alternatives = s.members; members = capped (s.members * s.members); closed = false; sorts = record { empty = false; optional = false; needed = nat_eq s.members 1; other = nat_lt 1 s.members } })

abbrev pub occurring_summary : ℕ → Option ℕ → Summary → Option Summary
occurring_summary (suc zero) (Some (suc zero)) s = Some s
occurring_summary zero (Some (suc zero)) s = Some (either_summary s empty_summary)
occurring_summary zero None s = repeated_summary s
occurring_summary (suc zero) None s = needed_summary s
occurring_summary _ _ s = None

abbrev pub joining : (Summary → Summary → Summary) → Option Summary → Option Summary → Option Summary
joining f (Some s) (Some t) = Some (f s t)
joining f _ _ = None

abbrev pub occurring_so : Bounds → Option Summary → Option Summary
occurring_so b (Some s) = occurring_summary b.least b.most s
occurring_so b None = None

-- whether a group may not occur so; one that stands for nothing is taken for one of no alternative
abbrev pub refuses : Bounds → Option Summary → Bool
refuses b (Some s) = is_none (occurring_summary b.least b.most s)
refuses b None = is_none (occurring_summary b.least b.most no_summary)

-- what is known at a number
abbrev pub at : List (Option Summary) → ℕ → Option Summary
at ss n = slice_index_or ss n None

-- whether the part is a group that may not occur so
abbrev pub bad : List (Option Summary) → Part → Bool
bad ss (Occurs b a) = refuses b (at ss a)
bad ss _ = false

-- the summary of a part by those of the parts that it has
abbrev pub value : List (Option Summary) → Part → Option Summary
value ss Refused = None
value ss (Entry b) = Some (entry_summary b)
value ss Empty = Some empty_summary
value ss Nothing = Some no_summary
value ss (Same a) = at ss a
value ss (Both a b) = joining both_summary (at ss a) (at ss b)
value ss (Either a b) = joining either_summary (at ss a) (at ss b)
value ss (Occurs b a) = occurring_so b (at ss a)

pub record State : Type 0 where
  pub seen : List Bool
  pub summaries : List (Option Summary)
  pub path : List ℕ

abbrev pub state : Search → State
state s = record { seen = s.seen.items; summaries = s.summaries.items; path = s.path.items }

-- the number, if it is a part's that was not yet seen
abbrev pub unseen : List Bool → ℕ → Option ℕ
unseen seen n = if slice_index_or seen n true then None else Some n

abbrev pub or_else : Option ℕ → Option ℕ → Option ℕ
or_else (Some n) o = Some n
or_else None o = o

-- one of the parts that the part has, which was not yet seen
abbrev pub next_of : List Bool → Part → Option ℕ
next_of seen (Same a) = unseen seen a
next_of seen (Both a b) = or_else (unseen seen a) (unseen seen b)
next_of seen (Either a b) = or_else (unseen seen a) (unseen seen b)
next_of seen (Occurs b a) = unseen seen a
next_of seen _ = None

-- the part is seen, and is the last of the path
abbrev pub entered : ℕ → State → State
entered n s = record { seen = set s.seen n true; summaries = s.summaries; path = s.path ++ n ∷ [] }

-- the last of the path has this summary
abbrev pub left : ℕ → Option Summary → State → State
left n o s = record { seen = s.seen; summaries = set s.summaries n o; path = take (length s.path - 1) s.path }

-- over one part or more
pub data LeadsOn (parts : List Part) : ℕ → ℕ → Type 0 where
  leads : {x y : ℕ} → LeadsTo parts x y → LeadsOn parts x y
  leads_on : {x y z : ℕ} → LeadsTo parts x y → LeadsOn parts y z → LeadsOn parts x z

pub record IsOnPath (path : List ℕ) (n : ℕ) : Type 0 where
  pub place : ℕ
  pub there : slice_get path place ≡ Some n

-- Each part of the path leads to the next. What was seen has its summary, or none yet where it is on the path.
pub record IsKept (parts : List Part) (s : State) : Type 0 where
  pub all_seen : length s.seen ≡ length parts
  pub all : length s.summaries ≡ length parts
  pub opened : (i n : ℕ) → slice_get s.path i ≡ Some n → slice_get s.seen n ≡ Some true
  pub linked : (i x y : ℕ) → slice_get s.path i ≡ Some x → slice_get s.path (i + 1) ≡ Some y → LeadsTo parts x y
  pub fresh : (n : ℕ) (o : Option Summary) → slice_get s.seen n ≡ Some false → slice_get s.summaries n ≡ Some o → o ≡ None
  pub known : (n : ℕ) (o : Option Summary) → slice_get s.seen n ≡ Some true → slice_get s.summaries n ≡ Some o → IsSummary parts n o ⊎ ((o ≡ None) × IsOnPath s.path n)

-- what was seen stays so
abbrev pub Keeps : State → State → Type 0
Keeps s t = (n : ℕ) → slice_get s.seen n ≡ Some true → slice_get t.seen n ≡ Some true

abbrev pub count_unseen : List Bool → ℕ
count_unseen [] = 0
count_unseen (true ∷ seen) = count_unseen seen
count_unseen (false ∷ seen) = 1 + count_unseen seen

-- how many steps there may be
abbrev pub gap : State → ℕ
gap s = 2 * count_unseen s.seen + length s.path

pub record IsEnded (parts : List Part) (s : State) : Type 0 where
  pub kept : IsKept parts s
  pub ended : s.path ≡ []
