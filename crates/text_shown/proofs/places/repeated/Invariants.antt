use Rattle.std.proofs.Common.{◌≡◌, flat_map, string_bytes}
use Rattle.text_shown.proofs.places.repeated.Given as goal

abbrev pub invariant-loop-c : goal.invariant-loop-c
invariant-loop-c l = string_bytes l.words ≡ flat_map (λ _. l.word) l.yielded
