-- What the builder's fields say, as a state of the machine that builds.
use Rattle.std.specs.Prelude.{◌≡◌, ℕ, zero, suc, List, [], ◌∷◌, take, drop, Bool, true, false, Option, Some, None}
use Rattle.item_nodes.specs.View.{view, values_view, pairs_view}
use Rattle.read_building.specs.Building as building
use Rattle.read_building.specs.declared.frame.Frame.{Frame}
use Rattle.read_building.specs.declared.frame.Frame.TheVariants.{Array, Map, Tag}
use Rattle.read_building.specs.declared.kind.Kind.{Kind}
use Rattle.read_building.specs.declared.kind.Kind.TheVariants as kinds
use Rattle.read_building.specs.declared.stage.Stage.{Stage}
use Rattle.read_building.specs.declared.stage.Stage.TheVariants as stage
use Rattle.read_building.specs.declared.stage.Next.{Next}
use Rattle.read_building.specs.declared.stage.Next.TheVariants.{Await, Whole}

abbrev pub major_of : Kind → ℕ
major_of kinds.Uint = 0
major_of kinds.Nint = 1
major_of kinds.Bytes = 2
major_of kinds.Text = 3
major_of kinds.Array = 4
major_of kinds.Map = 5
major_of kinds.Tag = 6

abbrev pub IsMajor : Option Kind → ℕ → Type 0
IsMajor None m = m ≡ 7
IsMajor (Some k) m = m ≡ major_of k

-- the major type of a text string, or of a byte string
abbrev pub string_major : Bool → ℕ
string_major true = 3
string_major false = 2

abbrev pub frame_of : Frame → building.Frame
frame_of (Array (Some n) v) = building.member n (values_view v.items)
frame_of (Array None v) = building.until (values_view v.items)
frame_of (Map (Some n) v None) = building.key n (pairs_view v.items)
frame_of (Map (Some n) v (Some k)) = building.worth n (pairs_view v.items) (view k)
frame_of (Map None v None) = building.until_key (pairs_view v.items)
frame_of (Map None v (Some k)) = building.until_worth (pairs_view v.items) (view k)
frame_of (Tag n) = building.content n

-- the awaited item ends the container
abbrev pub ends : Frame → Bool
ends (Array (Some zero) v) = true
ends (Map (Some zero) v (Some k)) = true
ends (Tag n) = true
ends _ = false

-- a break may end the container
abbrev pub breaks : Frame → Bool
breaks (Array None v) = true
breaks (Map None v None) = true
breaks _ = false

-- one fewer to come, where that is known
abbrev pub one_less : Option ℕ → Option ℕ
one_less (Some (suc n)) = Some n
one_less left = left

-- the frames on top of others, the last one uppermost
abbrev pub stack_onto : List building.Frame → List Frame → List building.Frame
stack_onto below [] = below
stack_onto below (f ∷ fs) = stack_onto (frame_of f ∷ below) fs

abbrev pub stack_of : List Frame → List building.Frame
stack_of fs = stack_onto [] fs

abbrev pub state_of : Stage → List ℕ → List building.Frame → building.State
state_of stage.Item held K = building.item K
state_of (stage.Argument from k p) held K = building.argument from (major_of k) p.left p.value K
state_of (stage.Str from t left) held K = building.string from (string_major t) left held K
state_of (stage.Bits w p) held K = building.bits w p.left p.value K
state_of (stage.Chunk t) held K = building.chunk (string_major t) held K
state_of (stage.ChunkArgument from t p) held K = building.chunk_argument from (string_major t) p.left p.value held K
state_of (stage.ChunkStr from t left start) held K = building.chunk_string from (string_major t) left (take start held) (drop start held) K
state_of stage.Simple held K = building.simple_value K

abbrev pub next_state : Next → List ℕ → List building.Frame → building.State
next_state (Await s) held K = state_of s held K
next_state (Whole x) held K = building.done (view x)

-- where nothing is expected, the stack is as it was
abbrev pub IsNext : Option building.State → Option Next → List ℕ → List building.Frame → List building.Frame → Type 0
IsNext expected None held before after = (expected ≡ None) × (after ≡ before)
IsNext expected (Some n) held before after = expected ≡ Some (next_state n held after)

abbrev pub IsNextStage : Option building.State → Option Stage → List ℕ → List building.Frame → Type 0
IsNextStage expected None held around = expected ≡ None
IsNextStage expected (Some s) held around = expected ≡ Some (state_of s held around)
