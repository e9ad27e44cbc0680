use Rattle.std.proofs.Common.{◌≡◌, encode_utf8, flat_map, string_bytes, take}
use Rattle.mismatch_words.proofs.paths.text_of.Given as goal

abbrev pub invariant-loop-c : goal.invariant-loop-c
invariant-loop-c l = string_bytes l.text ≡ flat_map encode_utf8 (take l.c-index l.characters)
