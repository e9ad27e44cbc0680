-- How a fault is reported.
use Rattle.std.specs.Prelude.{◌≡◌, ℕ, ◌≤◌, Some}
use Rattle.cddl_token.specs.declared.Code.{Code}
use Rattle.cddl_token.specs.declared.Code.TheVariants.{TooManyInstances}
use Rattle.cddl_language.specs.Faults.{number_of}
use Rattle.cddl_token.specs.declared.Refusal.{Refusal}
use Rattle.cddl_token.specs.declared.Refusal.TheVariants as RefusalV
use Rattle.lists.specs.Least.{IsLeast}
use Rattle.cddl_check.specs.declared.stopped.Stopped.{Stopped}
use Rattle.cddl_check.specs.declared.stopped.Stopped.TheVariants as StoppedV

abbrev pub refused : Code → ℕ → Stopped
refused code at = StoppedV.Refused (record { code = code; at = at })

-- it is reported for this code at the least offset
abbrev pub IsTold : (ℕ → Type 0) → Code → Stopped → Type 0
IsTold P code e = (at : ℕ) × IsLeast P (Some at) × (e ≡ refused code at)

-- its code is one of C1 to C10, which are reported whatever the root reaches
abbrev pub IsEarly : Stopped → Type 0
IsEarly (StoppedV.Refused f) = number_of f.code ≤ number_of TooManyInstances
IsEarly StoppedV.Memory = Unit {0}

-- what callers are told
abbrev pub refusal_of : Stopped → Refusal
refusal_of (StoppedV.Refused f) = RefusalV.At f.code f.at
refusal_of StoppedV.Memory = RefusalV.Memory
