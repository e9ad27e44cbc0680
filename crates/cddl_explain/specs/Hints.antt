-- What was perhaps meant, in the words after what is wrong.
use Rattle.std.specs.Prelude.{◌≡◌, ℕ, List, [], ◌++◌, codes, Option, Some, None, slice_range}
use Rattle.std.specs.Str.Lossy.{utf8_lossy}
use Rattle.cddl_token.specs.declared.Code.{Code}
use Rattle.cddl_token.specs.declared.Code.TheVariants.{BadCharacter, FloatLiteral, Unexpected, Duplicate, KindClash, Undefined, Arity, NoRoot, BadRoot, GroupAsType, HashForm, UnknownControl, TooManyInstances, Recursion, NoKey}
use Rattle.cddl_token.specs.declared.Token.{Token}
use Rattle.near_words.specs.Near.{IsNearest}
use Rattle.cddl_explain.specs.Expected.{IsExpectation}
use Rattle.cddl_explain.specs.Known.{control_names, prelude_names}
use Rattle.cddl_explain.specs.Meant.{character_words, choice_words, comment_words, entry_words, name_words, reading_words, round_words, tag_words}
use Rattle.cddl_explain.specs.Origins.{IsOrigin}
use Rattle.cddl_explain.specs.Roots.{first_container, root_words}
use Rattle.cddl_explain.specs.Rules.{rule_names}
use Rattle.cddl_explain.specs.Spots.{after, before, last_of}
use Rattle.cddl_explain.specs.declared.hints.TheConstants as text
use Rattle.cddl_explain.specs.declared.meant.TheConstants as likely
use Rattle.cddl_explain.specs.declared.parts.Part.{Part}

-- the names that are defined: by the text, and by the prelude
abbrev pub defined_names : List Token → List (List ℕ)
defined_names ts = rule_names ts ++ prelude_names

-- a part of the text as a text
abbrev pub part_text : List ℕ → Part → List ℕ
part_text text p = utf8_lossy (slice_range text p.from p.to)

abbrev pub meant : List ℕ → List ℕ
meant name = codes "; did you mean `" ++ (name ++ codes "`?")

-- the nearest name, where one is near, and else these words
abbrev pub hint_of : List ℕ → Option (List ℕ) → List ℕ
hint_of other None = other
hint_of other (Some name) = meant name

-- the hint names the nearest of these to the word; and is other words where none is near
abbrev pub IsHintAmong : List (List ℕ) → List ℕ → List ℕ → List ℕ → Type 0
IsHintAmong names word other hint = (found : Option (List ℕ)) × IsNearest word names found × (hint ≡ hint_of other found)

-- of a name that is not defined: the nearest that is, and else how it was perhaps meant
abbrev pub IsNameHint : List ℕ → Part → List Token → List Token → List ℕ → Type 0
IsNameHint source p here ts hint = IsHintAmong (defined_names ts) (part_text source p) (name_words (part_text source p) here) hint

-- of a token that cannot stand there: which may, how the token before it is read, and how a comment begins
abbrev pub IsTokenHint : List Token → List Token → List ℕ → Type 0
IsTokenHint front here hint = (expected : List ℕ) × IsExpectation front expected × (hint ≡ expected ++ (reading_words (last_of front) here ++ comment_words here))

-- of a second definition: where the first rule of the name is, and how choices are added
abbrev pub IsChoiceHint : List ℕ → Part → List Token → List Token → List ℕ → Type 0
IsChoiceHint source p here ts hint = (origin : List ℕ) × IsOrigin source p.from ts (part_text source p) origin × (hint ≡ origin ++ choice_words here)

-- of a name of the wrong kind: where its first rule is, and of a group how it is made a type
abbrev pub IsKindHint : List ℕ → Part → List Token → List Token → List ℕ → Type 0
IsKindHint source p front ts hint = (origin : List ℕ) × IsOrigin source p.from ts (part_text source p) origin × (hint ≡ origin ++ round_words (last_of front))

-- What was perhaps meant: which tokens may come, for one that cannot; the nearest name that is defined, for one that is not, also as the root; the
-- nearest control, or all; where the first rule of the name is, for one that clashes with it; and what people mostly mean.
abbrev pub IsHint : Code → List ℕ → Part → List Token → Option (List ℕ) → List ℕ → Type 0
IsHint BadCharacter source p ts root hint = hint ≡ character_words (part_text source p)
IsHint FloatLiteral source p ts root hint = hint ≡ likely.FLOATS.now
IsHint Unexpected source p ts root hint = IsTokenHint (before p.from ts) (after p.from ts) hint
IsHint Undefined source p ts root hint = IsNameHint source p (after p.from ts) ts hint
IsHint UnknownControl source p ts root hint = IsHintAmong control_names (part_text source p) text.KNOWN.now hint
IsHint NoRoot source p ts (Some name) hint = IsHintAmong (defined_names ts) name [] hint
IsHint BadRoot source p ts root hint = hint ≡ root_words (first_container p.from ts) (after p.from ts)
IsHint HashForm source p ts root hint = hint ≡ tag_words (after p.from ts)
IsHint NoKey source p ts root hint = hint ≡ entry_words (after p.from ts)
IsHint Duplicate source p ts root hint = IsChoiceHint source p (after p.from ts) ts hint
IsHint KindClash source p ts root hint = IsOrigin source p.from ts (part_text source p) hint
IsHint Arity source p ts root hint = IsOrigin source p.from ts (part_text source p) hint
IsHint GroupAsType source p ts root hint = IsKindHint source p (before p.from ts) ts hint
IsHint TooManyInstances source p ts root hint = hint ≡ likely.INSTANCES.now
IsHint Recursion source p ts root hint = hint ≡ likely.COMES_BACK.now
IsHint _ source p ts root hint = hint ≡ []
