use Rattle.std.proofs.Common.{◌∙◌, arith, sym}
use Rattle.std.proofs.lemmas.Bool.{true≢false}
use Rattle.std.proofs.lemmas.List.{append-nil}
use Rattle.call_lines.specs.Words.{hex_bytes, is_star}
use Rattle.call_lines.proofs.Pieces.{found_nowhere}
use Rattle.call_lines.proofs.words.digits_and_times.Goals as goal

pub returns-in-None : goal.returns-in-None
returns-in-None c piece is =
    let none = found_nowhere is_star c.args.part.now (c.in-None.ensures.byte (omega arith) (λ w o f. f)) in
    record { plain = λ _. is ∙ append-nil (hex_bytes c.args.part.now); times = λ some. absurd (true≢false (sym some ∙ none)) }
