-- The search for components along a path: its states, its steps, and what holds on the way.
use Rattle.std.specs.Prelude.{◌≡◌, ◌⊎◌, ℕ, ◌+◌, ◌-◌, ◌<◌, ◌≤◌, ltb, List, [], ◌∷◌, ◌++◌, length, map, take, set, replicate, Bool, cond, Option, Some, None, slice_get, slice_index_or}
use Rattle.graphs.specs.declared.cycles.Edge.{Edge}
use Rattle.graphs.specs.declared.cycles.graph.Graph.{Graph}
use Rattle.graphs.specs.declared.cycles.search.Mark.{Mark}
use Rattle.graphs.specs.declared.cycles.search.Mark.TheVariants.{Unseen, Open, Done}
use Rattle.graphs.specs.declared.cycles.search.Search.{Search}
use Rattle.graphs.specs.Cycles.Links.{IsLinked, Joins, Leads, are_same}

pub record State : Type 0 where
  pub heads : List (Option ℕ)
  pub marks : List Mark
  pub opened : List ℕ
  pub roots : List ℕ
  pub path : List ℕ
  pub done : ℕ

abbrev pub state : Search → State
state s = record { heads = s.heads.items; marks = s.marks.items; opened = s.opened.items; roots = s.roots.items; path = s.path.items; done = s.done }

-- steps

abbrev pub first_state : ℕ → List (Option ℕ) → State
first_state nodes heads = record { heads = heads; marks = replicate nodes Unseen; opened = []; roots = []; path = []; done = 0 }

-- the node is opened, as a segment of its own
abbrev pub entered : ℕ → State → State
entered x s = record {
  heads = s.heads;
  marks = set s.marks x (Open (length s.opened));
  opened = s.opened ++ x ∷ [];
  roots = s.roots ++ length s.opened ∷ [];
  path = s.path ++ length s.opened ∷ [];
  done = s.done;
}

abbrev pub kept : ℕ → ℕ → List ℕ → List ℕ
kept q x [] = cond (ltb q x) [] (x ∷ [])
kept q x (y ∷ ys) = x ∷ y ∷ ys

-- with no number above q at the end
abbrev pub cut : ℕ → List ℕ → List ℕ
cut q [] = []
cut q (x ∷ xs) = kept q x (cut q xs)

-- an edge to a node of this mark is followed
abbrev pub met_at : ℕ → State → Mark → State
met_at x s Unseen = entered x s
met_at x s (Open q) = record { heads = s.heads; marks = s.marks; opened = s.opened; roots = cut q s.roots; path = s.path; done = s.done }
met_at x s (Done c) = s

abbrev pub met : ℕ → State → State
met x s = met_at x s (slice_index_or s.marks x Unseen)

-- the mark of a node, where all nodes from the position p on are of the component c
abbrev pub shut : ℕ → ℕ → Mark → Mark
shut p c Unseen = Unseen
shut p c (Open q) = cond (ltb q p) (Open q) (Done c)
shut p c (Done d) = Done d

abbrev pub closed : ℕ → State → State
closed p s = record { heads = s.heads; marks = map (shut p s.done) s.marks; opened = take p s.opened; roots = s.roots; path = s.path; done = s.done + 1 }

abbrev pub front : List ℕ → List ℕ
front xs = take (length xs - 1) xs

abbrev pub is_last : ℕ → List ℕ → Bool
is_last p xs = are_same (slice_get xs (length xs - 1)) (Some p)

abbrev pub off_path : State → State
off_path s = record { heads = s.heads; marks = s.marks; opened = s.opened; roots = s.roots; path = front s.path; done = s.done }

abbrev pub off_roots : State → State
off_roots s = record { heads = s.heads; marks = s.marks; opened = s.opened; roots = front s.roots; path = s.path; done = s.done }

-- the last node of the path, at the position p, is left
abbrev pub left : ℕ → State → State
left p s = cond (is_last p s.roots) (closed p (off_roots (off_path s))) (off_path s)

abbrev pub advanced : ℕ → Option ℕ → State → State
advanced x o s = record { heads = set s.heads x o; marks = s.marks; opened = s.opened; roots = s.roots; path = s.path; done = s.done }

abbrev pub target : List Edge → ℕ → ℕ
target edges e = (slice_index_or edges e (record { from = 0; to = 0 })).to

abbrev pub step_by : List Edge → List (Option ℕ) → ℕ → ℕ → State → Option ℕ → State
step_by edges links p x s None = left p s
step_by edges links p x s (Some e) = met (target edges e) (advanced x (slice_index_or links e None) s)

-- the next edge of the last node of the path is followed, or that node is left
abbrev pub stepped : List Edge → List (Option ℕ) → ℕ → State → State
stepped edges links p s = step_by edges links p (slice_index_or s.opened p 0) s (slice_index_or s.heads (slice_index_or s.opened p 0) None)

abbrev pub number : Mark → ℕ
number Unseen = 0
number (Open q) = 0
number (Done c) = c

-- what holds on the way

abbrev pub In : List ℕ → ℕ → Type 0
In [] b = ⊥
In (x ∷ xs) b = (x ≡ b) ⊎ In xs b

abbrev pub IsRising : List ℕ → Type 0
IsRising [] = Unit {0}
IsRising (x ∷ xs) = ((y : ℕ) → In xs y → x < y) × IsRising xs

-- each segment that begins at p or before begins at q or before
abbrev pub Under : List ℕ → ℕ → ℕ → Type 0
Under roots p q = (b : ℕ) → In roots b → b ≤ p → b ≤ q

-- the open nodes and their positions
pub record ArePlaces (nodes : ℕ) (marks : List Mark) (opened : List ℕ) : Type 0 where
  pub all : length marks ≡ nodes
  pub there : (p x : ℕ) → slice_get opened p ≡ Some x → slice_get marks x ≡ Some (Open p)
  pub back : (p x : ℕ) → slice_get marks x ≡ Some (Open p) → slice_get opened p ≡ Some x

-- a node of a segment leads to each of that segment and of those after it
abbrev pub AreSegments : ℕ → List Edge → List ℕ → List ℕ → Type 0
AreSegments nodes edges opened roots = (p q x y : ℕ) → slice_get opened p ≡ Some x → slice_get opened q ≡ Some y → Under roots p q → Leads nodes edges x y

-- the edge e of the node x is not yet followed
pub record IsAhead (heads : List (Option ℕ)) (x e : ℕ) : Type 0 where
  pub last : ℕ
  pub there : slice_get heads x ≡ Some (Some last)
  pub within : e ≤ last

-- the node of an edge that was followed from the position p
pub data IsMet (marks : List Mark) (roots : List ℕ) (p y : ℕ) : Type 0 where
  is_done : (c : ℕ) → slice_get marks y ≡ Some (Done c) → IsMet marks roots p y
  is_open : (q : ℕ) → slice_get marks y ≡ Some (Open q) → Under roots p q → IsMet marks roots p y

-- the node of an edge from the component c
pub record IsBelow (marks : List Mark) (c y : ℕ) : Type 0 where
  pub at : ℕ
  pub there : slice_get marks y ≡ Some (Done at)
  pub most : at ≤ c

-- each edge is ahead or was followed, but for that at hand
pub record AreFollowed (nodes : ℕ) (edges : List Edge) (hand : Option ℕ) (heads : List (Option ℕ)) (marks : List Mark) (roots : List ℕ) : Type 0 where
  pub fresh : (e x y : ℕ) → Joins nodes edges e x y → slice_get marks x ≡ Some Unseen → IsAhead heads x e
  pub live : (e x y p : ℕ) → Joins nodes edges e x y → slice_get marks x ≡ Some (Open p) → (Some e ≡ hand → ⊥) → IsAhead heads x e ⊎ IsMet marks roots p y
  pub over : (e x y c : ℕ) → Joins nodes edges e x y → slice_get marks x ≡ Some (Done c) → IsBelow marks c y

-- the next edge of a node leaves it
pub record HaveEdges (nodes : ℕ) (edges : List Edge) (heads : List (Option ℕ)) : Type 0 where
  pub all : length heads ≡ nodes
  pub from : (x e : ℕ) → slice_get heads x ≡ Some (Some e) → (y : ℕ) × Joins nodes edges e x y

-- the path goes up, through the beginning of each segment and each open node that has edges left
pub record IsPath (heads : List (Option ℕ)) (opened roots path : List ℕ) : Type 0 where
  pub path_rises : IsRising path
  pub path_within : (p : ℕ) → In path p → p < length opened
  pub roots_rise : IsRising roots
  pub roots_on : (b : ℕ) → In roots b → In path b
  pub waits : (p x : ℕ) → slice_get opened p ≡ Some x → In path p ⊎ (slice_get heads x ≡ Some None)
  pub bottom : 0 < length opened → In roots 0

abbrev pub unseen : List Mark → ℕ
unseen [] = 0
unseen (Unseen ∷ ms) = 1 + unseen ms
unseen (Open q ∷ ms) = unseen ms
unseen (Done c ∷ ms) = unseen ms

-- the components that are done
pub record AreComponents (nodes : ℕ) (edges : List Edge) (marks : List Mark) (opened : List ℕ) (done : ℕ) : Type 0 where
  pub below : (x c : ℕ) → slice_get marks x ≡ Some (Done c) → c < done
  pub same : (x y c : ℕ) → slice_get marks x ≡ Some (Done c) → slice_get marks y ≡ Some (Done c) → Leads nodes edges x y
  pub count : unseen marks + length opened + done ≤ nodes

pub record IsSound (nodes : ℕ) (edges : List Edge) (hand : Option ℕ) (s : State) : Type 0 where
  pub places : ArePlaces nodes s.marks s.opened
  pub segments : AreSegments nodes edges s.opened s.roots
  pub followed : AreFollowed nodes edges hand s.heads s.marks s.roots
  pub have : HaveEdges nodes edges s.heads
  pub on : IsPath s.heads s.opened s.roots s.path
  pub components : AreComponents nodes edges s.marks s.opened s.done

-- nothing that was reached is forgotten
abbrev pub Keeps : State → State → Type 0
Keeps s t = (x : ℕ) → slice_get t.marks x ≡ Some Unseen → slice_get s.marks x ≡ Some Unseen

abbrev pub edges_left : List (Option ℕ) → ℕ
edges_left [] = 0
edges_left (None ∷ os) = edges_left os
edges_left (Some e ∷ os) = e + 1 + edges_left os

-- how many steps there are at most
abbrev pub gap : State → ℕ
gap s = edges_left s.heads + unseen s.marks + length s.path

abbrev pub IsGraph : Graph → Type 0
IsGraph g = IsLinked g.nodes g.edges.now g.heads.items g.links.items

-- the state that a search leaves where its path has come to its end
pub record IsAtEnd (nodes : ℕ) (edges : List Edge) (s : State) : Type 0 where
  pub sound : IsSound nodes edges None s
  pub ended : s.path ≡ []

-- the mark of each node below the number is no longer unseen
abbrev pub AreSeen : ℕ → List Mark → Type 0
AreSeen n marks = (x : ℕ) → x < n → slice_get marks x ≡ Some Unseen → ⊥
