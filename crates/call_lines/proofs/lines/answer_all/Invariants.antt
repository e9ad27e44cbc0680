use Rattle.std.proofs.Common.{◌≡◌, ◌++◌, List, ℕ, map}
use Rattle.std.specs.Prelude.{codes, flat_map}
use Rattle.std.specs.Io.KnownBytes.{Appends}
use Rattle.std.specs.List.{FoldsTo}
use Rattle.call_lines.proofs.lines.answer_all.Given as goal

abbrev pub invariant-loop-line : goal.invariant-loop-line
invariant-loop-line g l = (exchanges : List (List ℕ × List ℕ))
    × (map (λ e. e.0) exchanges ≡ map (λ x. x.now) l.yielded)
    × FoldsTo (λ u e v. g.A.Answers.answers u e.0 e.1 v) l.fn.answers exchanges l.answers
    × Appends (g.W.Write.contents l.fn.out) (g.W.Write.contents l.out) (flat_map (λ e. e.1 ++ codes "\n") exchanges)
