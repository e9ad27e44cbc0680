use Rattle.std.proofs.Common.{◌≡◌, ◌++◌, flat_map, string_bytes, take}
use Rattle.text_shown.specs.Places.{line_char}
use Rattle.text_shown.proofs.places.push_line.Given as goal

abbrev pub invariant-loop-c : goal.invariant-loop-c
invariant-loop-c l = string_bytes l.shown ≡ string_bytes l.initial.shown ++ flat_map line_char (take l.c-index l.characters)
