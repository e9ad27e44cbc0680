-- What a table says of an item of a stream is one thing.
use Rattle.std.proofs.Common.{◌≡◌, ℕ, ◌<◌, ◌^◌, List, arith}
use Rattle.cbor_data.specs.Value.{Value, place_count}
use Rattle.cbor_data.specs.Faults.{Bounds, IsItem}
use Rattle.cddl_meaning.specs.Judges.{Answer, Yes, No}
use Rattle.cddl_meaning.specs.Size.{size}
use Rattle.cddl_meaning.proofs.Lemmas.{size_spelled}
use Rattle.table_nodes.specs.Language.{RootSays}
use Rattle.table_nodes.specs.declared.table.Table.{Table}
use Rattle.seq_run.specs.Judge.{Judge}
use Rattle.seq_run.specs.Ends.{Accepts, Misses, Overruns}

-- the laws of the matcher that a session rests on
abbrev pub OneAnswer : Type 0
OneAnswer = (table : Table) (x : Value) (a b : Answer) (v w : ℕ) → size x < 2 ^ 64 → RootSays table x a v → RootSays table x b w → (b ≡ a) × (w ≡ v)

abbrev pub ShowsInside : Type 0
ShowsInside = (table : Table) (x : Value) (place w : ℕ) → RootSays table x (No place) w → place < place_count x

-- its size is below 2^64
pub item_room : (l : Bounds) (o : ℕ) (x : Value) (b : List ℕ) → IsItem l o x b → size x < 2 ^ 64
item_room l o x b item = omega (arith, size_spelled x b item.spells, item.placed)

module _ (one : OneAnswer) where
  same_answer : (table : Table) {l : Bounds} {o v w : ℕ} {x : Value} {b : List ℕ} {a c : Answer} → IsItem l o x b → RootSays table x a v → RootSays table x c w → c ≡ a
  same_answer table {l} {o} {v} {w} {x} {b} {a} {c} item d e = (one table x a c v w (item_room l o x b item) d e).0

  -- yes, or no
  pub never_both : (table : Table) {l : Bounds} {o v w place : ℕ} {x : Value} {b : List ℕ} → IsItem l o x b → RootSays table x Yes v → RootSays table x (No place) w → ⊥
  never_both table {place = place} item d e = let same : No place ≡ Yes = same_answer table item d e in cc

  -- a no at one place
  pub one_place : (table : Table) {l : Bounds} {o v w p q : ℕ} {x : Value} {b : List ℕ} → IsItem l o x b → RootSays table x (No p) v → RootSays table x (No q) w → p ≡ q
  one_place table {p = p} {q = q} item d e = let same : No q ≡ No p = same_answer table item d e in cc

-- what is said in the steps does not overrun them
pub yes_overruns : (judge : Judge) (x : Value) (a b : List ℕ) → Overruns judge x a → Accepts judge x b → ⊥
yes_overruns judge x a b over (w, said, fits) = let h = over Yes w said in omega (arith, h, fits)

pub no_overruns : (judge : Judge) (x : Value) (place : ℕ) (a b : List ℕ) → Overruns judge x a → Misses judge x b place → ⊥
no_overruns judge x place a b over (w, said, fits) = let h = over (No place) w said in omega (arith, h, fits)
