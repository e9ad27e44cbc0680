-- How a list of alternatives is made: tasks wait, the last one comes next, and so do the lists that were made.
use Rattle.std.specs.Prelude.{◌≡◌, ℕ, zero, suc, ◌+◌, ◌*◌, List, [], ◌∷◌, ◌++◌, map, reverse, replicate, Bool, true, false, if◌then◌else◌, ◌||◌, nat_eq, nat_lt, Option, Some, None, slice_get, vec_items}
use Rattle.alternatives.specs.declared.Part.{Part}
use Rattle.alternatives.specs.declared.Part.TheVariants.{Entry, Same, Both, Either, Occurs}
use Rattle.alternatives.specs.declared.summary.Summary.{Summary}
use Rattle.alternatives.specs.declared.build.Task.{Task}
use Rattle.alternatives.specs.declared.build.Task.TheVariants.{Make, Beside, After, Occur}
use Rattle.alternatives.specs.declared.build.Builder.{Builder}
use Rattle.alternatives.specs.Splices.{Alternatives, ways, occurring, entry_of, HasAlternatives, LeadsTo}
use Rattle.alternatives.specs.Summaries.{IsSmall}
use Rattle.alternatives.specs.Search.{at}

-- The last ones come first here.
pub record Build : Type 0 where
  pub tasks : List Task
  pub lists : List Alternatives

abbrev pub build : Builder → Build
build b = record { tasks = reverse b.tasks.items; lists = reverse (map (λ v. map vec_items (vec_items v)) b.lists.items) }

abbrev pub is_large : Summary → Bool
is_large s = nat_lt 512 s.alternatives || nat_lt 16384 s.members

-- what there is to do for a part, and then for those that it has
abbrev pub split : Option Part → ℕ → ℕ → Build → Option Build
split (Some (Entry o)) n k b = Some (record { tasks = b.tasks; lists = entry_of n o ∷ b.lists })
split (Some (Same a)) n k b = Some (record { tasks = Make a k ∷ b.tasks; lists = b.lists })
split (Some (Both a c)) n k b = Some (record { tasks = Make a k ∷ Make c k ∷ Beside ∷ b.tasks; lists = b.lists })
split (Some (Either a c)) n k b = Some (record { tasks = Make a k ∷ Make c k ∷ After ∷ b.tasks; lists = b.lists })
split (Some (Occurs o a)) n k b = Some (record { tasks = Make a k ∷ Occur o ∷ b.tasks; lists = b.lists })
split _ n k b = None

-- through so many parts at most
abbrev pub made_deep : Summary → Option Part → ℕ → ℕ → Build → Option Build
made_deep s p n zero b = None
made_deep s p n (suc k) b = split p n k b

abbrev pub made : Option Summary → Option Part → ℕ → ℕ → Build → Option Build
made None p n k b = None
made (Some s) p n k b = if is_large s then None else (if nat_eq s.members 0 then Some (record { tasks = b.tasks; lists = replicate s.alternatives [] ∷ b.lists }) else made_deep s p n k b)

abbrev pub result_is : Bool → Build → Option Build
result_is true b = Some b
result_is false b = None

-- what a task makes of what waits, where it goes on
abbrev pub IsDone : List Part → List (Option Summary) → Task → Build → Bool → Build → Type 0
IsDone parts ss (Make n k) old goes new = made (at ss n) (slice_get parts n) n k old ≡ result_is goes new
IsDone parts ss Beside old goes new = (new.tasks ≡ old.tasks) × ((vs : List Alternatives) (mss nss : Alternatives) → old.lists ≡ nss ∷ mss ∷ vs → (goes ≡ true) × (new.lists ≡ ways mss nss ∷ vs))
IsDone parts ss After old goes new = (new.tasks ≡ old.tasks) × ((vs : List Alternatives) (mss nss : Alternatives) → old.lists ≡ nss ∷ mss ∷ vs → (goes ≡ true) × (new.lists ≡ (mss ++ nss) ∷ vs))
IsDone parts ss (Occur o) old goes new = (new.tasks ≡ old.tasks) × ((vs : List Alternatives) (mss nss : Alternatives) → old.lists ≡ mss ∷ vs → occurring o.least o.most mss ≡ Some nss → (goes ≡ true) × (new.lists ≡ nss ∷ vs))

-- the tasks make the list alone of these
abbrev pub Yields : List Part → List Task → List Alternatives → Alternatives → Type 0
Yields parts [] vs all = vs ≡ all ∷ []
Yields parts (Make n k ∷ ts) vs all = (mss : Alternatives) × HasAlternatives parts n mss × Yields parts ts (mss ∷ vs) all
Yields parts (Beside ∷ ts) (nss ∷ mss ∷ vs) all = Yields parts ts (ways mss nss ∷ vs) all
Yields parts (Beside ∷ ts) vs all = ⊥
Yields parts (After ∷ ts) (nss ∷ mss ∷ vs) all = Yields parts ts ((mss ++ nss) ∷ vs) all
Yields parts (After ∷ ts) vs all = ⊥
Yields parts (Occur o ∷ ts) (mss ∷ vs) all = (nss : Alternatives) × (occurring o.least o.most mss ≡ Some nss) × Yields parts ts (nss ∷ vs) all
Yields parts (Occur o ∷ ts) [] all = ⊥

-- how much there may be to do
abbrev pub weight : ℕ → ℕ
weight zero = 1
weight (suc k) = 4 * weight k

abbrev pub task_weight : Task → ℕ
task_weight (Make n k) = weight k
task_weight Beside = 1
task_weight After = 1
task_weight (Occur o) = 1

abbrev pub load : List Task → ℕ
load [] = 0
load (t ∷ ts) = task_weight t + load ts

-- each way on through parts ends after so many
abbrev pub Ends : List Part → ℕ → ℕ → Type 0
Ends parts zero n = ⊥
Ends parts (suc k) n = (c : ℕ) → LeadsTo parts n c → Ends parts k c

pub record IsReady (parts : List Part) (n k : ℕ) : Type 0 where
  pub small : IsSmall parts n
  pub ends : Ends parts k n

-- no list that is to be made is too large
abbrev pub AreReady : List Part → List Task → Type 0
AreReady parts [] = Unit {0}
AreReady parts (Make n k ∷ ts) = IsReady parts n k × AreReady parts ts
AreReady parts (Beside ∷ ts) = AreReady parts ts
AreReady parts (After ∷ ts) = AreReady parts ts
AreReady parts (Occur o ∷ ts) = AreReady parts ts
