-- What is said of what is wrong, behind the name of the rule.
use Rattle.std.specs.Prelude.{ℕ, ◌==◌, Bool, true, false, List, [], ◌∷◌, ◌++◌, codes, decimal, if◌then◌else◌}
use Rattle.mismatch_words.specs.declared.causes.Cause.{Cause}
use Rattle.mismatch_words.specs.declared.causes.Cause.TheVariants.{Value, MemberMissing, MemberTooMuch, PairStray, KeyTooFew, KeyTooMany, NoItem, NoSequence}

-- the key, with this after the word; where it stands nowhere in the text as it is meant, no more than that it is one
abbrev pub key_words : List ℕ → List ℕ → List ℕ
key_words colon [] = codes "a key"
key_words colon (b ∷ bs) = codes "the key" ++ (colon ++ (codes " " ++ (b ∷ bs)))

-- of a key that too few pairs have
abbrev pub few_words : ℕ → ℕ → List ℕ → List ℕ
few_words count least written =
    if count == 0 then codes "is missing " ++ key_words (codes ":") written
    else codes "wants at least " ++ (decimal least ++ (codes " of " ++ (key_words [] written ++ (codes ", and has " ++ decimal count))))

-- what helps where an entry before the member that is missing took one that it need not have
abbrev pub greedy_words : Bool → List ℕ
greedy_words true = codes " (an entry before it takes what it can and gives nothing back)"
greedy_words false = []

abbrev pub missing_words : Bool → List ℕ → List ℕ
missing_words greedy written = codes "is missing: " ++ (written ++ greedy_words greedy)

-- what helps where a later entry of the map has the key of which there are too many
abbrev pub later_words : Bool → List ℕ
later_words true = codes " (a later entry has the same key, but each pair goes to the first one that takes it)"
later_words false = []

abbrev pub many_words : ℕ → ℕ → Bool → List ℕ → List ℕ
many_words count most later written = (codes "wants at most " ++ (decimal most ++ (codes " of " ++ (key_words [] written ++ (codes ", and has " ++ decimal count))))) ++ later_words later

-- with the text of the type
abbrev pub said : Cause → List ℕ → List ℕ
said Value written = codes "wants " ++ written
said (MemberMissing greedy) written = missing_words greedy written
said MemberTooMuch written = codes "wants no member here"
said PairStray written = codes "has no entry for this pair"
said (KeyTooFew count least) written = few_words count least written
said (KeyTooMany count most later) written = many_words count most later written
said NoItem written = codes "wants " ++ (written ++ codes ", and it holds no item")
said NoSequence written = codes "wants " ++ (written ++ codes ", and it holds no sequence")
