-- Which tokens may come at a place (RFC 8610, appendix B).
use Rattle.std.specs.Prelude.{◌≡◌, ℕ, ◌≤◌, ◌<◌, ◌==◌, Bool, true, false, List, [], ◌∷◌, ◌++◌, codes, count_by, length, if◌then◌else◌}
use Rattle.cddl_token.specs.declared.Kind.{Kind}
use Rattle.cddl_token.specs.declared.Kind.TheVariants.{Name, NameOpen, Control, Number, Occur, Text, Bytes, Hash, TagOpen, TagHeadOpen, SimpleHeadOpen, Assign, TypeAssign, GroupAssign, Slash, DoubleSlash, Range, RangeBelow, Arrow, Cut, Colon, Comma, ParenOpen, ParenClose, BracketOpen, BracketClose, BraceOpen, BraceClose, AngleClose, Tilde, Ampersand, End}
use Rattle.cddl_token.specs.declared.Token.{Token}
use Rattle.tree_nodes.specs.Syntax.Answers.{deepest, lexemes, nesting_limit, Begins}
use Rattle.cddl_explain.specs.declared.expected.TheConstants as constant
use Rattle.cddl_explain.specs.declared.phrases.Collection.{Collection}
use Rattle.cddl_explain.specs.declared.phrases.Collection.TheVariants as collection

-- The token may come after these: with it they begin a specification, and no more are open than may be.
pub record MayCome (front : List Token) (t : Token) : Type 0 where
  pub begins : Begins (lexemes (front ++ t ∷ []))
  pub within : deepest 0 (lexemes (front ++ t ∷ [])) ≤ nesting_limit

-- of these kinds, in their order, those of which a token may come
pub data AreExpected (front : List Token) : List Kind → List Kind → Type 0 where
  no_kind : AreExpected front [] []
  may_come : {kinds found : List Kind} → AreExpected front kinds found → (t : Token) → MayCome front t → AreExpected front (kinds ++ t.kind ∷ []) (found ++ t.kind ∷ [])
  may_not : {kinds found : List Kind} → AreExpected front kinds found → (t : Token) → (MayCome front t → ⊥) → AreExpected front (kinds ++ t.kind ∷ []) found

-- the kinds with which a type begins
abbrev pub begins_type : Kind → Bool
begins_type Name = true
begins_type NameOpen = true
begins_type Number = true
begins_type Text = true
begins_type Bytes = true
begins_type Hash = true
begins_type TagOpen = true
begins_type TagHeadOpen = true
begins_type SimpleHeadOpen = true
begins_type ParenOpen = true
begins_type BracketOpen = true
begins_type BraceOpen = true
begins_type Tilde = true
begins_type Ampersand = true
begins_type _ = false

abbrev pub begins_entry : Kind → Bool
begins_entry Occur = true
begins_entry kind = begins_type kind

abbrev pub is_name : Kind → Bool
is_name Name = true
is_name NameOpen = true
is_name _ = false

abbrev pub belongs : Collection → Kind → Bool
belongs collection.Entry kind = begins_entry kind
belongs collection.Type kind = begins_type kind
belongs collection.Name kind = is_name kind
belongs collection.Nothing kind = false

-- what is reported together of these kinds, of which none is there twice: all with which an entry, or a type, or a name begins
abbrev pub collection_of : List Kind → Collection
collection_of kinds =
    if count_by (belongs collection.Entry) kinds == 15 then collection.Entry
    else if count_by (belongs collection.Type) kinds == 14 then collection.Type
    else if count_by (belongs collection.Name) kinds == 2 then collection.Name
    else collection.Nothing

abbrev pub collection_phrase : Collection → List (List ℕ)
collection_phrase collection.Entry = codes "an entry" ∷ []
collection_phrase collection.Type = codes "a type" ∷ []
collection_phrase collection.Name = codes "a name" ∷ []
collection_phrase collection.Nothing = []

-- what a token of the kind is called
abbrev pub phrase_of : Kind → List ℕ
phrase_of Name = codes "a name"
phrase_of NameOpen = codes "a name with `<`"
phrase_of Control = codes "a control"
phrase_of Number = codes "a number"
phrase_of Occur = codes "an occurrence"
phrase_of Text = codes "a text"
phrase_of Bytes = codes "a byte string"
phrase_of Hash = codes "`#`"
phrase_of TagOpen = codes "`#6(`"
phrase_of TagHeadOpen = codes "`#6.<`"
phrase_of SimpleHeadOpen = codes "`#7.<`"
phrase_of Assign = codes "`=`"
phrase_of TypeAssign = codes "`/=`"
phrase_of GroupAssign = codes "`//=`"
phrase_of Slash = codes "`/`"
phrase_of DoubleSlash = codes "`//`"
phrase_of Range = codes "`..`"
phrase_of RangeBelow = codes "`...`"
phrase_of Arrow = codes "`=>`"
phrase_of Cut = codes "`^`"
phrase_of Colon = codes "`:`"
phrase_of Comma = codes "`,`"
phrase_of ParenOpen = codes "`(`"
phrase_of ParenClose = codes "`)`"
phrase_of BracketOpen = codes "`[`"
phrase_of BracketClose = codes "`]`"
phrase_of BraceOpen = codes "`{`"
phrase_of BraceClose = codes "`}`"
phrase_of AngleClose = codes "`>`"
phrase_of Tilde = codes "`~`"
phrase_of Ampersand = codes "`&`"
phrase_of End = codes "the end of the text"

-- the phrases of those that are not reported together
abbrev pub single_phrases : Collection → List Kind → List (List ℕ)
single_phrases together [] = []
single_phrases together (k ∷ ks) = if belongs together k then single_phrases together ks else phrase_of k ∷ single_phrases together ks

-- each kind is called by its phrase, and those that are reported together by theirs, last
abbrev pub phrases_of : List Kind → List (List ℕ)
phrases_of kinds = single_phrases (collection_of kinds) kinds ++ collection_phrase (collection_of kinds)

abbrev pub parting : List (List ℕ) → List ℕ
parting [] = codes " or "
parting (p ∷ ps) = codes ", "

-- each phrase after what parts it from the one before
abbrev pub parted : List (List ℕ) → List ℕ
parted [] = []
parted (p ∷ ps) = parting ps ++ (p ++ parted ps)

abbrev pub expected_words : List (List ℕ) → List ℕ
expected_words [] = []
expected_words (p ∷ ps) = codes "; expected " ++ (p ++ parted ps)

-- What is said of the kinds of which a token may come after these, and nothing where these are too many to ask for each kind.
pub data IsExpectation (front : List Token) (told : List ℕ) : Type 0 where
  asked : (kinds : List Kind) → length front ≤ constant.MOST_TOKENS → AreExpected front constant.KINDS kinds → told ≡ expected_words (phrases_of kinds) → IsExpectation front told
  too_many : constant.MOST_TOKENS < length front → told ≡ [] → IsExpectation front told
