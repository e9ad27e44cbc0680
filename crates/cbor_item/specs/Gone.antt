-- What a part of a call's writing answers, and what went out then.
use Rattle.std.specs.Prelude.{◌≡◌, ℕ, ◌+◌, ◌<◌, List, length, take, Result, Ok, Err, Option}
use Rattle.std.specs.Io.KnownBytes.{Appends}
use Rattle.item_nodes.specs.Counted.{device_of, failures_of, HasRisen}
use Rattle.item_nodes.specs.declared.counted.Counted.{Counted}
use Rattle.cbor_item.specs.declared.write.WriteFault.{WriteFault}

-- what a writer holds, and how often it failed
pub record State : Type 0 where
  pub contents : Option (List ℕ)
  pub failures : ℕ

abbrev pub state_of : {D : Type 0} → (D → Option (List ℕ)) → Counted D → State
state_of contents_of c = record { contents = contents_of (device_of c); failures = failures_of c }

-- a proper prefix of the bytes went out, and then the device failed, with `written` bytes of the call gone in all
pub record Stops (old new : State) (before : ℕ) (bytes : List ℕ) (written : ℕ) : Type 0 where
  pub count : ℕ
  pub short : count < length bytes
  pub is : written ≡ before + count
  pub part : Appends old.contents new.contents (take count bytes)
  pub failed : HasRisen old.failures new.failures

-- all of the bytes went out and no write failed, with `after` bytes of the call gone in all
pub record GoesWhole (old new : State) (before : ℕ) (bytes : List ℕ) (after : ℕ) : Type 0 where
  pub is : after ≡ before + length bytes
  pub all : Appends old.contents new.contents bytes
  pub same : new.failures ≡ old.failures

-- The answer to the writing of some bytes, before which so many bytes of the call went out.
abbrev pub Goes : State → State → ℕ → List ℕ → Result ℕ WriteFault → Type 0
Goes old new before bytes (Ok after) = GoesWhole old new before bytes after
Goes old new before bytes (Err fault) = Stops old new before bytes fault.written
