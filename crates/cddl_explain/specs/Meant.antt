-- What people mostly mean by what is refused.
use Rattle.std.specs.Prelude.{ℕ, ◌==◌, ◌&&◌, ◌||◌, not, nat_eq, Bool, true, false, List, [], ◌∷◌, ◌++◌, codes, Option, Some, None, if◌then◌else◌}
use Rattle.std.specs.Cmp.Lexicographic.{pointwise}
use Rattle.std.specs.List.{ends_with, starts_with}
use Rattle.cddl_token.specs.declared.Kind.{Kind}
use Rattle.cddl_token.specs.declared.Kind.TheVariants.{Name, Control, Number, Text, Bytes, Hash, DoubleSlash}
use Rattle.cddl_token.specs.declared.Token.{Token}
use Rattle.cddl_explain.specs.Cases.{is_ampersand, is_occur}
use Rattle.cddl_explain.specs.Expected.{begins_type}
use Rattle.cddl_explain.specs.Known.{control_names}
use Rattle.cddl_explain.specs.Rules.{assigns, begins_rule}
use Rattle.cddl_explain.specs.declared.meant.TheConstants as text

-- two dots stand in a name
abbrev pub begins_with_dot : List ℕ → Bool
begins_with_dot [] = false
begins_with_dot (b ∷ bs) = b == 46

abbrev pub has_dots : List ℕ → Bool
has_dots [] = false
has_dots (b ∷ bs) = (b == 46 && begins_with_dot bs) || has_dots bs

-- the first of these words with which the name ends
abbrev pub ending : List ℕ → List (List ℕ) → Option (List ℕ)
ending name [] = None
ending name (w ∷ ws) = if ends_with nat_eq name w then Some w else ending name ws

-- the kinds of tokens that may be keys with `:`
abbrev pub is_key : Kind → Bool
is_key Name = true
is_key Number = true
is_key Text = true
is_key Bytes = true
is_key _ = false

abbrev pub is_number : Kind → Bool
is_number Number = true
is_number _ = false

abbrev pub is_plain : Kind → Bool
is_plain Name = true
is_plain _ = false

-- a type comes first, and no rule
abbrev pub goes_on : List Token → Bool
goes_on [] = false
goes_on (t ∷ ts) = begins_type t.kind && not (begins_rule (t ∷ ts))

-- what is said of a token that could be a key, where a type comes right after it
abbrev pub key_words : List Token → List ℕ
key_words [] = []
key_words (t ∷ ts) = if is_key t.kind && goes_on ts then text.KEY.now else []

-- what is said of what could be a key: a name may be a type
abbrev pub named_key_words : List Token → List ℕ
named_key_words [] = []
named_key_words (t ∷ ts) =
    if is_plain t.kind && goes_on ts then codes "; if `" ++ (t.text.now ++ codes "` is a key, write `:` after it, or `=>` where it is a type")
    else if is_number t.kind && goes_on ts then codes "; if `" ++ (t.text.now ++ codes "` is a key, write `:` after it")
    else key_words (t ∷ ts)

-- what is said of an entry of a map without a key: of what stands after its occurrence
abbrev pub entry_words : List Token → List ℕ
entry_words [] = []
entry_words (t ∷ ts) = if is_occur t.kind then named_key_words ts else named_key_words (t ∷ ts)

abbrev pub control_or : Option (List ℕ) → List ℕ → List ℕ → List ℕ
control_or None name other = other
control_or (Some control) name other = codes "; `" ++ (name ++ (codes "` is one name: for a control, write a space before `" ++ (control ++ codes "`")))

-- what is said of a name that may be a range or a control without spaces, and else these words
abbrev pub one_name_or : List ℕ → List ℕ → List ℕ
one_name_or name other =
    if has_dots name then codes "; `" ++ (name ++ codes "` is one name: for a range, write spaces round `..`")
    else control_or (ending name control_names) name other

-- what is said of a name that is not defined, with which these tokens begin: that it may be a range or a control, or a key without `:`
abbrev pub name_words : List ℕ → List Token → List ℕ
name_words name here = one_name_or name (key_words here)

abbrev pub is_control : Kind → Bool
is_control Control = true
is_control _ = false

abbrev pub plain_words : List ℕ → Bool → List ℕ
plain_words name true = codes "; `" ++ (name ++ codes "` is read as part of the rule before it")
plain_words name false = one_name_or name []

-- what is said of the token before one that cannot stand there: that a control lacks its right side, that the name of the next rule is read as part of
-- the rule before it, or that a name may be a range or a control
abbrev pub reading_words : Option Token → List Token → List ℕ
reading_words None here = []
reading_words (Some t) here =
    if is_control t.kind then codes "; nothing stands on the right of `" ++ (t.text.now ++ codes "`")
    else if is_plain t.kind then plain_words t.text.now (assigns here)
    else []

-- what is said of a second definition
abbrev pub choice_words : List Token → List ℕ
choice_words [] = []
choice_words (t ∷ ts) = if begins_rule (t ∷ ts) then text.CHOICE.now else []

abbrev pub is_tag : List ℕ → Bool
is_tag text = starts_with nat_eq text (codes "#6")

-- what is said of a tag that holds nothing
abbrev pub tag_words : List Token → List ℕ
tag_words [] = []
tag_words (t ∷ ts) = if is_tag t.text.now then codes "; what a tag holds stands after it, as in `" ++ (t.text.now ++ codes "(any)`") else []

-- what is said of a token that cannot stand where it does, and with which a comment begins in other languages
abbrev pub comment_by : Kind → List ℕ
comment_by Hash = text.COMMENT.now
comment_by DoubleSlash = text.SLASHES.now
comment_by _ = []

abbrev pub comment_words : List Token → List ℕ
comment_words [] = []
comment_words (t ∷ ts) = comment_by t.kind

abbrev pub is_word : List ℕ → List ℕ → Bool
is_word a b = pointwise nat_eq a b

abbrev pub is_quote : List ℕ → Bool
is_quote character = is_word character text.LEFT_QUOTE.now || is_word character text.RIGHT_QUOTE.now

-- what is said of a character that begins no token
abbrev pub character_words : List ℕ → List ℕ
character_words character = if is_word character (codes "|") then text.BAR.now else if is_quote character then text.QUOTES.now else []

-- what is said of a name of the wrong kind, by the token before it: of a group how it is made a type
abbrev pub round_words : Option Token → List ℕ
round_words None = text.ROUND.now
round_words (Some t) = if is_ampersand t.kind then [] else text.ROUND.now
