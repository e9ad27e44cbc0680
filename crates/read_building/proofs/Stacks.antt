-- The stack of the machine, as the vector of frames.
use Rattle.std.proofs.Common.{◌≡◌, ℕ, ◌+◌, ◌<◌, List, [], ◌∷◌, ◌++◌, length, take, set, get_or, refl, sym, ap, ◌∙◌, arith}
use Rattle.std.proofs.lemmas.List.{take_all, take_more, take_more_set}
use Rattle.std.proofs.Math.ListN.{length-set}
use Rattle.read_building.specs.Building as building
use Rattle.read_building.specs.Stages.{frame_of, stack_onto, stack_of}
use Rattle.read_building.specs.declared.frame.Frame.{Frame}

stack_onto_last : (K : List building.Frame) (fs : List Frame) (f : Frame) → stack_onto K (fs ++ f ∷ []) ≡ frame_of f ∷ stack_onto K fs
stack_onto_last K [] f = refl
stack_onto_last K (g ∷ fs) f = stack_onto_last (frame_of g ∷ K) fs f

length_stack_onto : (K : List building.Frame) (fs : List Frame) → length (stack_onto K fs) ≡ length K + length fs
length_stack_onto K [] = omega arith
length_stack_onto K (f ∷ fs) = length_stack_onto (frame_of f ∷ K) fs ∙ omega arith

-- as many frames as are in the vector
pub stack_length : (fs : List Frame) → length (stack_of fs) ≡ length fs
stack_length fs = length_stack_onto [] fs ∙ omega arith

-- a frame that is pushed lies uppermost
pub stack_pushed : (fs : List Frame) (f : Frame) → stack_of (fs ++ f ∷ []) ≡ frame_of f ∷ stack_of fs
stack_pushed fs f = stack_onto_last [] fs f

-- the uppermost frame is the vector's last one
pub stack_top : (fs : List Frame) (i : ℕ) (f : Frame) → length fs ≡ i + 1 → f ≡ get_or fs i f → stack_of fs ≡ frame_of f ∷ stack_of (take i fs)
stack_top fs i f e is =
    let all : fs ≡ take i fs ++ get_or fs i f ∷ [] = sym (take_all (i + 1) fs (omega arith)) ∙ take_more fs i f (omega arith) in
    ap stack_of all ∙ (ap (λ g. stack_of (take i fs ++ g ∷ [])) (sym is) ∙ stack_pushed (take i fs) f)

-- the uppermost frame is replaced
pub stack_replaced : (fs : List Frame) (i : ℕ) (f : Frame) → length fs ≡ i + 1 → stack_of (set fs i f) ≡ frame_of f ∷ stack_of (take i fs)
stack_replaced fs i f e =
    let len : length (set fs i f) ≡ i + 1 = length-set fs i f ∙ e in
    let all : set fs i f ≡ take i fs ++ f ∷ [] = sym (take_all (i + 1) (set fs i f) (omega arith)) ∙ take_more_set fs i f (omega arith) in
    ap stack_of all ∙ stack_pushed (take i fs) f

-- one frame more from the front
pub stack_taken : (fs : List Frame) (i : ℕ) (f : Frame) → i < length fs → f ≡ get_or fs i f → building.frames_of (stack_of (take (i + 1) fs)) ≡ building.frame_of (frame_of f) ∷ building.frames_of (stack_of (take i fs))
stack_taken fs i f more is =
    ap (λ gs. building.frames_of (stack_of gs)) (take_more fs i f more ∙ ap (λ g. take i fs ++ g ∷ []) (sym is)) ∙ ap building.frames_of (stack_pushed (take i fs) f)
