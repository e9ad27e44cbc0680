-- Where a type of the table stands in the text, of which links led to it.
use Rattle.std.specs.Prelude.{◌≡◌, ℕ, ◌+◌, ◌<◌, Bool, true, List, [], ◌∷◌, ◌++◌, drop, Contains, Option, Some, None, slice_get}
use Rattle.cddl_token.specs.declared.Token.{Token}
use Rattle.tree_nodes.specs.Syntax.Syntax as S
use Rattle.cddl_language.specs.Language.{TypeName, reference}
use Rattle.cddl_language.specs.Reading.{name_in}
use Rattle.cddl_language.specs.Terms.{Ref, Term, Text, name_of}
use Rattle.table_nodes.specs.declared.nodes.TypeId.{TypeId}
use Rattle.type_links.specs.declared.link.Link.{Link}
use Rattle.type_links.specs.declared.link.Link.TheVariants as L
use Rattle.source_pieces.specs.Instances.{has_arguments, term_in}
use Rattle.source_pieces.specs.Pieces.{Around, Called, Inner, Piece, a_key, a_member, a_value, alternatives_of, an_entry, brackets, in_rule, name_of_piece, name_there, plain, the_rule, told_name, tokens_of_piece, unwrapped}
use Rattle.source_pieces.specs.Spans.{IsNameSpan, IsSpan, body_tokens, is_generic}
use Rattle.source_places.specs.Spots.{IsWithin, Spot, asking, plainly}
use Rattle.source_places.specs.declared.place.Place.{Place}
use Rattle.source_pieces.specs.declared.span.Span.{Span}

-- the link is to a type that stands for this name; the key of an entry is what it is in its place there, and begins no rule
abbrev pub LeadsTo : (TypeName → TypeId → Type 0) → TypeName → Link → Type 0
LeadsTo names y (L.Type m) = names y m
LeadsTo names y (L.Alternative k) = ⊥
LeadsTo names y (L.Entry k) = ⊥
LeadsTo names y (L.Key m) = ⊥

-- what is round a group are the ends of this part of the text
pub data AreEnds (s : Span) : Around → Type 0 where
  are_ends : {opening closing : Token} → s.first ≡ opening.start → s.end ≡ closing.end → AreEnds s (brackets opening closing)

-- they are the ends of the rule's body
pub record IsBody (r : S.Rule) (a : Around) : Type 0 where
  pub span : Span
  pub is : IsSpan (body_tokens r) span
  pub ends : AreEnds span a

-- A group with this round it in the rule is what the name stands for: as that of a group, the body of the rule; after `~`, the group in
-- the brackets of its type.
abbrev pub StandsFor : Called → S.Rule → Around → Type 0
StandsFor (plain n) r a = (name_in r ≡ n) × (a ≡ the_rule)
StandsFor (unwrapped n) r a = (name_in r ≡ n) × IsBody r a

-- The rules of the text, and the names for which each type of the table stands.
module _ (rules : List S.Rule) (names : TypeName → TypeId → Type 0) where
  -- the link is to an instance of a rule of this name
  abbrev pub IsInstanceOf : Text → Link → Type 0
  IsInstanceOf n m = (q : Ref) × LeadsTo names (reference q) m × (name_of q ≡ n)

  -- the link is to an instance of no rule of the text: of one of the prelude, or of none
  abbrev pub IsOfNoRule : Link → Type 0
  IsOfNoRule m = (r : S.Rule) → Contains rules r → IsInstanceOf (name_in r) m → ⊥

  -- the first of these, if there is any, is to an instance
  abbrev pub BeginsWithInstance : List Link → Type 0
  BeginsWithInstance [] = Unit {0}
  BeginsWithInstance (m ∷ ms) = (q : Ref) × LeadsTo names (reference q) m

  -- There stands the piece, and nothing else is asked there.
  pub record Stands (p : Piece) (at : Spot) : Type 0 where
    pub rule : S.Rule
    pub there : slice_get rules at.rule ≡ Some rule
    pub contained : Contains (in_rule rule) p
    pub span : IsSpan (tokens_of_piece p) at.span
    pub name : at.name ≡ name_there p
    pub own : at.asked ≡ None

  -- the same, within another part of the text, or in a rule of this name, if none is given
  abbrev pub StandsAt : Text → Option Spot → Piece → Spot → Type 0
  StandsAt n None p at = (h : Stands p at) × (name_in h.rule ≡ n)
  StandsAt n (Some o) p at = Stands p at × IsWithin o at

  -- The name stands for entries that are the map's: it is a member of the map by itself, or of a group for which such a name stands.
  -- What `~` gives of a rule that is one name alone is what it gives of that name.
  pub data IsSpliced (map : Spot) : Called → Type 0 where
    named_in_map : {a : Around} {t : S.Types} {at : Spot} {n : Called} → Stands (a_member a t) at → at.name ≡ Some n → at.rule ≡ map.rule → AreEnds map.span a → IsSpliced map n
    named_in_group : {a : Around} {t : S.Types} {at : Spot} {n m : Called} → (h : Stands (a_member a t) at) → at.name ≡ Some n → IsSpliced map m → StandsFor m h.rule a → IsSpliced map n
    named_alone : {t : S.Types} {at : Spot} {n : Text} → (h : Stands (a_member the_rule t) at) → at.name ≡ Some (plain n) → IsSpliced map (unwrapped (name_in h.rule)) → IsSpliced map (unwrapped n)

  -- There stands the piece, in a group with this round it: in one of the map that the other part of the text is, or any in a rule of
  -- this name, if none is given.
  pub data StandsIn (n : Text) : Option Spot → Around → Piece → Spot → Type 0 where
    in_a_rule : {a : Around} {p : Piece} {at : Spot} → (h : Stands p at) → name_in h.rule ≡ n → StandsIn n None a p at
    in_map : {map at : Spot} {a : Around} {p : Piece} → Stands p at → at.rule ≡ map.rule → AreEnds map.span a → StandsIn n (Some map) a p at
    in_group : {map at : Spot} {a : Around} {p : Piece} {m : Called} → (h : Stands p at) → IsSpliced map m → StandsFor m h.rule a → StandsIn n (Some map) a p at

  -- an entry of the group in the brackets that are the ends of the other part of the text
  pub record IsEntryWithin (around : Spot) (alternative place : ℕ) (at : Spot) : Type 0 where
    pub round : Around
    pub inner : Inner
    pub stands : Stands (an_entry round alternative place inner) at
    pub rule : at.rule ≡ around.rule
    pub ends : AreEnds around.span round

  -- The rules of a name make so many alternatives.
  pub data Make (n : Text) : List S.Rule → ℕ → Type 0 where
    no_rules : Make n [] 0
    one_more : {r : S.Rule} {rs : List S.Rule} {k : ℕ} → name_in r ≡ n → Make n rs k → Make n (r ∷ rs) (alternatives_of r + k)
    another : {r : S.Rule} {rs : List S.Rule} {k : ℕ} → (name_in r ≡ n → ⊥) → Make n rs k → Make n (r ∷ rs) k

  -- an entry of a rule of the name that the other part of the text is: so many alternatives come after its own in this rule and in
  -- those of the name that come after this one
  pub record IsEntryNamed (around : Spot) (alternative place : ℕ) (at : Spot) : Type 0 where
    pub name : Text
    pub is_name : around.name ≡ Some (plain name)
    pub own : ℕ
    pub inner : Inner
    pub stands : Stands (an_entry the_rule own place inner) at
    pub named : name_in stands.rule ≡ name
    pub less : own < alternatives_of stands.rule
    pub after : ℕ
    pub make : Make name (drop (at.rule + 1) rules) after
    pub whole : own + after ≡ alternative

  -- What `~` gives of the one name is what it gives of the other: of the name itself, and of the name that is all of such a rule.
  pub data AreAlike (n : Text) : Text → Type 0 where
    itself : AreAlike n n
    alone : {t : S.Types} {at : Spot} {m : Text} → (h : Stands (a_member the_rule t) at) → at.name ≡ Some (plain m) → AreAlike n (name_in h.rule) → AreAlike n m

  -- an entry of the group in the brackets of the rule's type, where the other part of the text is `~` and a name
  pub record IsEntryUnwrapped (around : Spot) (alternative place : ℕ) (at : Spot) : Type 0 where
    pub called : Text
    pub is_called : around.name ≡ Some (unwrapped called)
    pub name : Text
    pub alike : AreAlike called name
    pub round : Around
    pub inner : Inner
    pub stands : Stands (an_entry round alternative place inner) at
    pub stands_for : StandsFor (unwrapped name) stands.rule round

  -- one of these of the part of the text before
  pub data IsEntryAt : Option Spot → (alternative place : ℕ) → Spot → Type 0 where
    within : {around : Spot} {k i : ℕ} {at : Spot} → IsEntryWithin around k i at → IsEntryAt (Some around) k i at
    named : {around : Spot} {k i : ℕ} {at : Spot} → IsEntryNamed around k i at → IsEntryAt (Some around) k i at
    by_unwrapping : {around : Spot} {k i : ℕ} {at : Spot} → IsEntryUnwrapped around k i at → IsEntryAt (Some around) k i at

-- The same, with what the terms of each rule are in an instance.
module _ (rules : List S.Rule) (names : TypeName → TypeId → Type 0) (closed : S.Rule → Term → Term) where
  -- the piece, which is of the rule in which that part of the text is, is of the type to which the link is
  abbrev pub IsOf : Spot → Piece → Link → Type 0
  IsOf at p m = (r : S.Rule) × (slice_get rules at.rule ≡ Some r) × (y : TypeName) × (name_of_piece (closed r) p ≡ Some y) × LeadsTo names y m

  -- the same of what the type is of to which this link is
  pub record IsTypeAt (n : Text) (from : Option Spot) (m : Link) (at : Spot) : Type 0 where
    pub piece : Piece
    pub stands : StandsAt rules names n from piece at
    pub is : IsOf at piece m

  -- the key of an entry of the map that has this type as its key
  pub record IsKeyAt (n : Text) (from : Option Spot) (key : TypeId) (at : Spot) : Type 0 where
    pub around : Around
    pub key_piece : Piece
    pub stands : StandsIn rules names n from around (a_key around key_piece) at
    pub is : IsOf at key_piece (L.Type key)

  -- the value's type in an entry of the map that has these types as its key and as its value
  pub record IsValueAt (n : Text) (from : Option Spot) (key : TypeId) (m : Link) (at : Spot) : Type 0 where
    pub around : Around
    pub key_piece : Piece
    pub types : S.Types
    pub stands : StandsIn rules names n from around (a_value around key_piece types) at
    pub is_key : IsOf at key_piece (L.Type key)
    pub is : IsOf at (a_value around key_piece types) m

  -- the value's type in an entry of the map that has this type as its key, in a rule with parameters, whose arguments stand elsewhere: the
  -- other type is asked there
  pub record IsUnfilledAt (n : Text) (from : Option Spot) (key : TypeId) (m : Link) (at : Spot) : Type 0 where
    pub around : Around
    pub key_piece : Piece
    pub types : S.Types
    pub stands : StandsIn rules names n from around (a_value around key_piece types) (plainly at)
    pub asked : at.asked ≡ Some m
    pub is_key : IsOf at key_piece (L.Type key)
    pub value : (y : TypeName) × LeadsTo names y m
    pub rule : S.Rule
    pub there : slice_get rules at.rule ≡ Some rule
    pub generic : is_generic rule ≡ true
    pub other : name_in rule ≡ n → ⊥

  -- the type is asked in the part of the text before
  pub record IsAskedIn (from : Option Spot) (m : Link) (at : Spot) : Type 0 where
    pub place : Spot
    pub found : from ≡ Some place
    pub value : (y : TypeName) × LeadsTo names y m
    pub is : at ≡ asking m place

  -- Where the type of a value is asked that is known at no entry: in one that has the key; where there is none, its key is elsewhere too,
  -- and that is in the map.
  pub data IsValueAsked (n : Text) (from : Option Spot) (key : TypeId) (m : Link) (at : Spot) : Type 0 where
    of_unfilled : IsUnfilledAt n from key m at → IsValueAsked n from key m at
    of_map : ((o : Spot) → IsUnfilledAt n from key m o → ⊥) → IsAskedIn from m at → IsValueAsked n from key m at

  -- Two links lead there together: to the value's type in an entry, or where no entry is known to have both, to where it is asked; or to
  -- an entry.
  pub data ArePairAt (n : Text) (from : Option Spot) : Link → Link → Spot → Type 0 where
    of_value : {key : TypeId} {m : Link} {at : Spot} → IsValueAt n from key m at → ArePairAt n from (L.Key key) m at
    of_asked : {key : TypeId} {m : Link} {at : Spot} → ((o : Spot) → IsValueAt n from key m o → ⊥) → IsValueAsked n from key m at → ArePairAt n from (L.Key key) m at
    of_entry : {k i : ℕ} {at : Spot} → IsEntryAt rules names from k i at → ArePairAt n from (L.Alternative k) (L.Entry i) at

  -- What is asked there may stand elsewhere: such a type is asked there already; or it is in a rule with parameters.
  pub data IsAway (n : Text) (at : Spot) : Type 0 where
    as_before : {k : Link} → at.asked ≡ Some k → IsAway n at
    unfilled : (r : S.Rule) → slice_get rules at.rule ≡ Some r → is_generic r ≡ true → (name_in r ≡ n → ⊥) → IsAway n at

  -- One link leads there by itself: to a type; to where one is asked that stands elsewhere; or to the key of an entry.
  pub data IsOneAt (n : Text) (from : Option Spot) : Link → Spot → Type 0 where
    of_type : {m : Link} {at : Spot} → IsTypeAt n from m at → IsOneAt n from m at
    of_argument : {m : Link} {at : Spot} → ((o : Spot) → IsTypeAt n from m o → ⊥) → (h : IsAskedIn from m at) → IsAway n h.place → IsOneAt n from m at
    of_key : {key : TypeId} {at : Spot} → IsKeyAt n from key at → IsOneAt n from (L.Key key) at

  -- this link and the next one lead nowhere together
  abbrev pub AreNoPair : Text → Option Spot → Link → List Link → Type 0
  AreNoPair n from m [] = Unit {0}
  AreNoPair n from m (v ∷ ms) = (at : Spot) → ArePairAt n from m v at → ⊥

  -- From a part of the text, or from all rules of the name, links lead on: the key and the value of an entry to the value's type, an
  -- alternative of a group and an entry of it to this entry, the key of an entry by itself to this key, any other type to where it
  -- stands or is asked there; and what does neither leads to nothing more.
  pub data Leads (n : Text) : Option Spot → List Link → Option Spot → Type 0 where
    arrives : {from : Option Spot} → Leads n from [] from
    to_pair : {from to : Option Spot} {key m : Link} {ms : List Link} {at : Spot} → ArePairAt n from key m at → Leads n (Some at) ms to → Leads n from (key ∷ m ∷ ms) to
    to_one : {from to : Option Spot} {m : Link} {ms : List Link} {at : Spot} → AreNoPair n from m ms → IsOneAt n from m at → Leads n (Some at) ms to → Leads n from (m ∷ ms) to
    passes : {from to : Option Spot} {m : Link} {ms : List Link} → AreNoPair n from m ms → ((at : Spot) → IsOneAt n from m at → ⊥) → Leads n from ms to → Leads n from (m ∷ ms) to

  -- The type that may be written elsewhere: the one that is asked; or with arguments the one of which the piece is.
  abbrev pub IsSought : (filled : Bool) → Option Link → Option TypeName → TypeName → Type 0
  IsSought filled (Some m) o y = LeadsTo names y m
  IsSought filled None o y = (filled ≡ true) × (o ≡ Some y)

  -- The rule has types as they are written; with arguments those of the name have these in the place of parameters.
  abbrev pub IsOther : Text → (filled : Bool) → S.Rule → Type 0
  IsOther n filled r = filled ≡ true → name_in r ≡ n → ⊥

  -- How a type that is sought is reported, in the place of what stands in a part of the text: as it is written; or as what stands there.
  pub data IsWritten (n : Text) (filled : Bool) (sought : TypeName → Type 0) (s : Span) : Span → Type 0 where
    elsewhere : {p : Piece} {at : Spot} {y : TypeName} → sought y → (h : Stands rules names p at) → IsOther n filled h.rule → name_of_piece (closed h.rule) p ≡ Some y → IsWritten n filled sought s at.span
    as_it_is : ((p : Piece) (at : Spot) (y : TypeName) → sought y → (h : Stands rules names p at) → IsOther n filled h.rule → name_of_piece (closed h.rule) p ≡ Some y → ⊥) → IsWritten n filled sought s s

  -- What the links lead to, in the rule; or where they lead to nothing in rules of the name, all of the body of one of these.
  pub data IsShown (n : Text) (filled : Bool) (r : S.Rule) (inside : List Link) (s : Span) : Span → Type 0 where
    a_piece : {at : Spot} {p : Piece} {w : Span} → Leads n None inside (Some at) → (h : Stands rules names p (plainly at)) → h.rule ≡ r → s ≡ at.span → IsWritten n filled (IsSought filled at.asked (told_name (closed r) p)) s w → IsShown n filled r inside s w
    the_body : name_in r ≡ n → Leads n None inside None → IsSpan (body_tokens r) s → IsShown n filled r inside s s

-- Where the last of the types to which links lead stands in the text.
module _ (rules : List S.Rule) (names : TypeName → TypeId → Type 0) where
  -- What counts are the links from the last that is to an instance of a rule of the text to the next instance, which is of the
  -- prelude; and of the types in the text what they are in that instance, with its arguments in the place of parameters.
  pub record IsPlace (chain : List Link) (p : Place) : Type 0 where
    pub before : List Link
    pub instance : Link
    pub inside : List Link
    pub outside : List Link
    pub split : chain ≡ before ++ instance ∷ (inside ++ outside)
    pub defined : S.Rule
    pub is_defined : Contains rules defined
    pub is_instance : IsInstanceOf rules names (name_in defined) instance
    pub rule : S.Rule
    pub there : Contains rules rule
    pub last : (m : Link) → Contains (inside ++ outside) m → IsOfNoRule rules names m
    pub passed : BeginsWithInstance rules names outside
    pub name : IsNameSpan rule p.name
    pub shown : IsShown rules names (term_in is_instance.0) (name_in defined) (has_arguments is_instance.0) rule inside p.types p.written
