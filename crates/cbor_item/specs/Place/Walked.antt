-- What a walk to a place puts down.
use Rattle.std.specs.Prelude.{◌≡◌, ℕ, List, ◌++◌, reverse, Result, Ok, Err}
use Rattle.item_nodes.specs.View.{view}
use Rattle.cbor_item.specs.Place.Paths.{member_step, key_step, value_step, content_step}
use Rattle.cbor_item.specs.declared.place.step.Step.{Step}
use Rattle.cbor_item.specs.declared.place.step.Step.TheVariants.{Member, Key, ValueAt, Content}
use Rattle.cbor_item.specs.declared.place.path.Walk.{Walk}
use Rattle.cbor_item.specs.declared.place.path.Walk.TheVariants.{Arrived, Passed}

abbrev pub step_bytes : Step → List ℕ
step_bytes (Member i) = member_step i
step_bytes (Key k) = key_step (view k.now)
step_bytes (ValueAt k) = value_step (view k.now)
step_bytes Content = content_step

-- Of a search for a path: a walk that arrives puts that path down backwards; one that passes puts down nothing, and tells
-- how many places are left.
abbrev pub Ends : Result (List ℕ) ℕ → List ℕ → List ℕ → Walk → Type 0
Ends (Ok path) old new Arrived = new ≡ old ++ reverse path
Ends (Err n) old new (Passed left) = (left ≡ n) × (new ≡ old)
Ends (Ok path) old new (Passed left) = ⊥
Ends (Err n) old new Arrived = ⊥
