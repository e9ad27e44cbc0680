-- The text that explains a refusal, from its parts.
use Rattle.std.proofs.Common.{◌≡◌, ℕ, List, ◌++◌, codes, decimal}

pub told_same : (told file shown_file name given_name pointed wrong : List ℕ) (line column : ℕ) →
    told ≡ file ++ (codes ":" ++ (decimal line ++ (codes ":" ++ (decimal column ++ (codes ": " ++ (name ++ (codes "\n" ++ (pointed ++ (wrong ++ codes "\n"))))))))) →
    file ≡ shown_file → name ≡ given_name →
    told ≡ shown_file ++ (codes ":" ++ (decimal line ++ (codes ":" ++ (decimal column ++ (codes ": " ++ (given_name ++ (codes "\n" ++ (pointed ++ (wrong ++ codes "\n")))))))))
told_same told file shown_file name given_name pointed wrong line column h e1 e2 = rw (← e1, ← e2) h
