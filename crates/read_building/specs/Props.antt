-- What is held of a string in chunks is a fact.
use Rattle.std.specs.Prelude.{ℕ, List, true, false}
use Rattle.std.proofs.Props.{props}
use Rattle.read_building.specs.Turns.{IsHeld}
use Rattle.read_building.specs.declared.stage.Stage.{Stage}
use Rattle.read_building.specs.declared.stage.Stage.TheVariants as stage

pub IsHeld-prop : (s : Stage) (held : List ℕ) → IsProp (IsHeld s held)
IsHeld-prop stage.Item held = Prim.hlevel props
IsHeld-prop (stage.Argument from k p) held = Prim.hlevel props
IsHeld-prop (stage.Str from t left) held = Prim.hlevel props
IsHeld-prop (stage.Bits w p) held = Prim.hlevel props
IsHeld-prop (stage.Chunk true) held = Prim.hlevel props
IsHeld-prop (stage.Chunk false) held = Prim.hlevel props
IsHeld-prop (stage.ChunkArgument from true p) held = Prim.hlevel props
IsHeld-prop (stage.ChunkArgument from false p) held = Prim.hlevel props
IsHeld-prop (stage.ChunkStr from true left start) held = Prim.hlevel props
IsHeld-prop (stage.ChunkStr from false left start) held = Prim.hlevel props
IsHeld-prop stage.Simple held = Prim.hlevel props
