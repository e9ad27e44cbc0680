-- Containers with one more part.
use Rattle.std.proofs.Common.{◌≡◌, ℕ, zero, suc, ◌-◌, ◌*◌, ◌<◌, arith, List, [], ◌∷◌, ◌++◌, true, false, Option, Some, None, refl, sym, ap, ◌∙◌}
use Rattle.std.specs.declared.vec.Vec.{Vec}
use Rattle.std.specs.declared.alloc.Global.{Global}
use Rattle.cbor_data.specs.Value.{value, pair, no_values, no_pairs, array, pairs}
use Rattle.item_nodes.specs.View.{view, values_view, pairs_view}
use Rattle.item_nodes.specs.declared.item.Item.{Item}
use Rattle.cbor_data.specs.Machine.Machine as machine
use Rattle.read_building.specs.Building as building
use Rattle.read_building.specs.Building.{with_value, with_pair}
use Rattle.read_building.specs.Stages.{frame_of, ends, breaks, one_less}
use Rattle.read_building.specs.declared.frame.Frame.{Frame}
use Rattle.read_building.specs.declared.frame.Frame.TheVariants.{Array, Map, Tag}

values_view-with : (xs : List Item) (x : Item) → values_view (xs ++ x ∷ []) ≡ with_value (values_view xs) (view x)
values_view-with [] x = refl
values_view-with (y ∷ xs) x = ap (value (view y)) (values_view-with xs x)

pairs_view-with : (ps : List (Item × Item)) (p : Item × Item) → pairs_view (ps ++ p ∷ []) ≡ with_pair (pairs_view ps) (view p.0) (view p.1)
pairs_view-with [] p = refl
pairs_view-with (q ∷ ps) p = ap (pair (view q.0) (view q.1)) (pairs_view-with ps p)

pub member_added : (left : Option ℕ) (v w : Vec Item Global) (x : Item) (K : List building.Frame) → w.items ≡ v.items ++ x ∷ [] → ends (Array left v) ≡ false →
    building.give (view x) (frame_of (Array left v) ∷ K) ≡ building.item (frame_of (Array (one_less left) w) ∷ K)
member_added None v w x K e h = ap (λ xs. building.item (building.until xs ∷ K)) (sym (ap values_view e ∙ values_view-with v.items x))
member_added (Some zero) v w x K e h = absurd (cc)
member_added (Some (suc n)) v w x K e h = ap (λ xs. building.item (building.member n xs ∷ K)) (sym (ap values_view e ∙ values_view-with v.items x))

pub key_added : (left : Option ℕ) (v : Vec (Item × Item) Global) (x : Item) (K : List building.Frame) →
    building.give (view x) (frame_of (Map left v None) ∷ K) ≡ building.item (frame_of (Map left v (Some x)) ∷ K)
key_added None v x K = refl
key_added (Some n) v x K = refl

pub pair_added : (left : Option ℕ) (v w : Vec (Item × Item) Global) (k x : Item) (K : List building.Frame) → w.items ≡ v.items ++ (k, x) ∷ [] → ends (Map left v (Some k)) ≡ false →
    building.give (view x) (frame_of (Map left v (Some k)) ∷ K) ≡ building.item (frame_of (Map (one_less left) w None) ∷ K)
pair_added None v w k x K e h = ap (λ ps. building.item (building.until_key ps ∷ K)) (sym (ap pairs_view e ∙ pairs_view-with v.items (k, x)))
pair_added (Some zero) v w k x K e h = absurd (cc)
pair_added (Some (suc n)) v w k x K e h = ap (λ ps. building.item (building.key n ps ∷ K)) (sym (ap pairs_view e ∙ pairs_view-with v.items (k, x)))

pub array_closed : (left : Option ℕ) (v w : Vec Item Global) (x : Item) (K : List building.Frame) → w.items ≡ v.items ++ x ∷ [] → ends (Array left v) ≡ true →
    building.give (view x) (frame_of (Array left v) ∷ K) ≡ building.give (array (values_view w.items)) K
array_closed None v w x K e h = absurd (cc)
array_closed (Some zero) v w x K e h = ap (λ xs. building.give (array xs) K) (sym (ap values_view e ∙ values_view-with v.items x))
array_closed (Some (suc n)) v w x K e h = absurd (cc)

pub map_closed : (left : Option ℕ) (v w : Vec (Item × Item) Global) (k x : Item) (K : List building.Frame) → w.items ≡ v.items ++ (k, x) ∷ [] → ends (Map left v (Some k)) ≡ true →
    building.give (view x) (frame_of (Map left v (Some k)) ∷ K) ≡ building.give (pairs (pairs_view w.items)) K
map_closed None v w k x K e h = absurd (cc)
map_closed (Some zero) v w k x K e h = ap (λ ps. building.give (pairs ps) K) (sym (ap pairs_view e ∙ pairs_view-with v.items (k, x)))
map_closed (Some (suc n)) v w k x K e h = absurd (cc)

pub no_key : (left : Option ℕ) (v : Vec (Item × Item) Global) → ends (Map left v None) ≡ true → ⊥
no_key None v h = cc
no_key (Some zero) v h = cc
no_key (Some (suc n)) v h = cc

-- where no break may be
pub no_break : (f : Frame) (K : List building.Frame) → breaks f ≡ false → building.break (frame_of f ∷ K) ≡ None
no_break (Array (Some n) v) K h = refl
no_break (Array None v) K h = absurd (cc)
no_break (Map (Some n) v None) K h = refl
no_break (Map (Some n) v (Some k)) K h = refl
no_break (Map None v None) K h = absurd (cc)
no_break (Map None v (Some k)) K h = refl
no_break (Tag n) K h = refl

pub array_broken : (left : Option ℕ) (v : Vec Item Global) (K : List building.Frame) → breaks (Array left v) ≡ true → building.break (frame_of (Array left v) ∷ K) ≡ Some (building.give (array (values_view v.items)) K)
array_broken None v K h = refl
array_broken (Some n) v K h = absurd (cc)

pub map_broken : (left : Option ℕ) (v : Vec (Item × Item) Global) (key : Option Item) (K : List building.Frame) → breaks (Map left v key) ≡ true → building.break (frame_of (Map left v key) ∷ K) ≡ Some (building.give (pairs (pairs_view v.items)) K)
map_broken None v None K h = refl
map_broken None v (Some k) K h = absurd (cc)
map_broken (Some n) v None K h = absurd (cc)
map_broken (Some n) v (Some k) K h = absurd (cc)

pub ask_some : (n : ℕ) (K : List building.Frame) → 0 < n → building.ask n no_values K ≡ building.item (building.member (n - 1) no_values ∷ K)
ask_some zero K h = absurd (omega arith)
ask_some (suc n) K h = ap (λ k. building.item (building.member k no_values ∷ K)) (omega arith)

pub ask_pairs_some : (n : ℕ) (K : List building.Frame) → 0 < n → building.ask_pairs n no_pairs K ≡ building.item (building.key (n - 1) no_pairs ∷ K)
ask_pairs_some zero K h = absurd (omega arith)
ask_pairs_some (suc n) K h = ap (λ k. building.item (building.key k no_pairs ∷ K)) (omega arith)

pub twice_is : (n : ℕ) → machine.twice n ≡ 2 * n
twice_is zero = refl
twice_is (suc n) = let e : machine.twice n ≡ 2 * n = twice_is n in omega arith
