-- A sound item has a size below 2^64: none is larger than a spelling of it.
use Rattle.std.proofs.Common.{◌+◌, ◌<◌, ◌^◌, arith}
use Rattle.cbor_data.specs.Value.{Value}
use Rattle.cbor_data.specs.Sound.{IsSound}
use Rattle.cddl_meaning.specs.Size.{size}
use Rattle.cddl_meaning.proofs.Lemmas.{size_spelled}

pub room : (x : Value) → IsSound x → 0 + size x < 2 ^ 64
room x s = omega (arith, size_spelled x s.short.spelling s.short.spells, s.short.short)
