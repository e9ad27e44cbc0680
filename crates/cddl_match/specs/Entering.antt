-- Which entries of an alternative a pair passes over, and which is asked about it first.
use Rattle.std.specs.Prelude.{◌≡◌, ℕ, min, List, [], ◌∷◌, ◌++◌, All, true, false}
use Rattle.cbor_data.specs.Value.{Value}
use Rattle.cddl_meaning.specs.Forms.{Language, MapEntry, is_passed_over}
use Rattle.cddl_meaning.specs.Moves.{Move, Enters}
use Rattle.table_nodes.specs.Fronts.{BeginAlike}
use Rattle.table_nodes.specs.Indexes.{AreNextEntries, IsEntryIndexOf, first_of}
use Rattle.table_nodes.specs.declared.indexes.Candidates.{Candidates}
use Rattle.cddl_match.specs.declared.entering.Lead.{Lead}

module _ {N G : Type 0} (l : Language N G) where
  -- a pair with this key passes over the entry
  abbrev pub IsPassed : Value → MapEntry N → Type 0
  IsPassed k e = is_passed_over l.counting e.key_type k ≡ true

  -- These entries are some that a pair with this key passes over, each of them, and then those that are left.
  pub record ArePassed (k : Value) (es left : List (MapEntry N)) : Type 0 where
    pub before : List (MapEntry N)
    pub whole : es ≡ before ++ left
    pub each : All (IsPassed k) before

  -- the first of these entries, if there is one, is asked about a pair with this key
  abbrev pub IsFirstAsked : Value → List (MapEntry N) → Type 0
  IsFirstAsked k [] = Unit {0}
  IsFirstAsked k (e ∷ es) = is_passed_over l.counting e.key_type k ≡ false

  -- Where a pair has come to an entry, that is asked about it.
  abbrev pub IsAskedNext : Move N G → Type 0
  IsAskedNext (Enters e es s) = is_passed_over l.counting e.key_type s.key ≡ false
  IsAskedNext _ = Unit {0}

  -- The index is of an alternative that begins with the same entries as this one, so many.
  pub record IsLead (es : List (MapEntry N)) (lead : Lead) : Type 0 where
    pub owners : List (MapEntry N)
    pub index : IsEntryIndexOf l.type_at owners lead.index.now
    pub alike : BeginAlike lead.entries owners es

  -- The next entry that may be asked about a pair with this key, at this position, is the first of these that the index tells, from
  -- some position on; or the first one that it does not lead to.
  pub record IsLedTo (k : Value) (es : List (MapEntry N)) (lead : Lead) (c : Candidates) (at : ℕ) : Type 0 where
    pub owners : List (MapEntry N)
    pub index : IsEntryIndexOf l.type_at owners lead.index.now
    pub alike : BeginAlike lead.entries owners es
    pub from : ℕ
    pub next : AreNextEntries l.type_at owners k from c
    pub first : at ≡ min (first_of c) lead.entries
