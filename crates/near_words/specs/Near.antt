-- Which of many words is the nearest to one.
use Rattle.std.specs.Prelude.{◌≡◌, ℕ, ◌+◌, ◌/◌, ◌<◌, ◌≤◌, ◌&&◌, nat_le, Bool, List, ◌∷◌, ◌++◌, All, Option, Some, None, chars, length, map, if◌then◌else◌}
use Rattle.std.specs.Borrow.{Bor}
use Rattle.strsim.specs.Edits.{osa_table}
use Rattle.near_words.specs.declared.Near.{Near}

abbrev pub texts : List (Bor (List ℕ)) → List (List ℕ)
texts words = map (λ w. w.now) words

-- how many characters have to be put in, taken out, put in the place of others, or swapped with their neighbours
abbrev pub edits_to : List ℕ → List ℕ → ℕ
edits_to word other = (osa_table (chars word) (chars other)).last_row (length (chars other))

-- The word has at most 64 bytes, and the lengths differ by no more than a third of it.
abbrev pub are_alike : ℕ → ℕ → Bool
are_alike word other = nat_le word 64 && nat_le other (word + word / 3) && nat_le word (other + word / 3)

-- how many edits lead to the other word, where the two are alike and these are at most a third of the word's bytes
abbrev pub near_edits : List ℕ → List ℕ → Option ℕ
near_edits word other = if are_alike (length word) (length other) then (if nat_le (edits_to word other) (length word / 3) then Some (edits_to word other) else None) else None

-- Among these words is this one, so many edits away; those before it take more, and those after it as many or more.
pub record IsAt (word : List ℕ) (words : List (List ℕ)) (found : List ℕ) (edits : ℕ) : Type 0 where
  pub before : List (List ℕ)
  pub behind : List (List ℕ)
  pub among : words ≡ before ++ found ∷ behind
  pub near : near_edits word found ≡ Some edits
  pub farther : All (λ w. (n : ℕ) → near_edits word w ≡ Some n → edits < n) before
  pub no_nearer : All (λ w. (n : ℕ) → near_edits word w ≡ Some n → edits ≤ n) behind

abbrev pub IsNear : List ℕ → List (List ℕ) → Option Near → Type 0
IsNear word words (Some near) = IsAt word words near.text.now near.edits
IsNear word words None = All (λ w. near_edits word w ≡ None) words

-- the nearest of these words, and of several the first; nothing where none is near
abbrev pub IsNearest : List ℕ → List (List ℕ) → Option (List ℕ) → Type 0
IsNearest word words (Some found) = (edits : ℕ) × IsAt word words found edits
IsNearest word words None = All (λ w. near_edits word w ≡ None) words
