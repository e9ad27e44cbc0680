-- What can be explained, and what is said of it.
use Rattle.std.specs.Prelude.{◌≡◌, ◌⊎◌, ℕ, List, ◌++◌, codes, decimal, map}
use Rattle.std.specs.Char.{to_ascii_lowercase}
use Rattle.cddl_token.specs.Messages.{code_text}
use Rattle.cddl_token.specs.declared.Code.{Code}
use Rattle.cddl_explain.specs.declared.subjects.Subject.{Subject}
use Rattle.cddl_explain.specs.declared.subjects.Subject.TheVariants as subject
use Rattle.cddl_explain.specs.Causes.{meaning_of, words_of}
use Rattle.cddl_explain.specs.Examples.{example_of}
use Rattle.cddl_explain.specs.Names.{example_at_of, name_of, number_of}
use Rattle.cddl_explain.specs.Places.{place_of}
use Rattle.cddl_explain.specs.Sentences.{sentence_of}

-- The words are the same but for the case of letters.
abbrev pub IsSameWord : List ℕ → List ℕ → Type 0
IsSameWord a b = map to_ascii_lowercase a ≡ map to_ascii_lowercase b

-- The word is the number or the name of the code, or the word of the cause, in any case of letters.
abbrev pub IsNameOf : Subject → List ℕ → Type 0
IsNameOf (subject.Code code) word = IsSameWord word (number_of code) ⊎ IsSameWord word (name_of code)
IsNameOf (subject.Cause cause) word = IsSameWord word (words_of cause)

-- what is said of a code: what is wrong, which byte is reported, and an example
abbrev pub code_explanation : Code → List ℕ
code_explanation code =
    code_text code ++ (codes ": " ++ (sentence_of code ++ (codes "\nTold at: " ++ (place_of code ++ (codes "\nExample, refused at byte " ++ (decimal (example_at_of code) ++ (codes ":\n\n" ++ (example_of code ++ codes "\n"))))))))

abbrev pub explanation_of : Subject → List ℕ
explanation_of (subject.Code code) = code_explanation code
explanation_of (subject.Cause cause) = words_of cause ++ (codes ": " ++ (meaning_of cause ++ codes "\n"))
