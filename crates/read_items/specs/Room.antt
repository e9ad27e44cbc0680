-- The bytes of an argument so far.
use Rattle.std.specs.Prelude.{ℕ, zero, suc, ◌^◌}

-- below this the number so far leaves room for the next byte and so many after it
abbrev pub limit : ℕ → ℕ
limit zero = 2 ^ 56
limit (suc zero) = 2 ^ 48
limit (suc (suc zero)) = 2 ^ 40
limit (suc (suc (suc zero))) = 2 ^ 32
limit (suc (suc (suc (suc zero)))) = 2 ^ 24
limit (suc (suc (suc (suc (suc zero))))) = 2 ^ 16
limit (suc (suc (suc (suc (suc (suc zero)))))) = 2 ^ 8
limit (suc (suc (suc (suc (suc (suc (suc n))))))) = 1
