-- What a list of parts comes to that is empty, and that is not.
use Rattle.std.proofs.Common.{◌≡◌, ◌≢◌, ℕ, Bool, true, false, List, [], ◌∷◌, ◌++◌, length, Option, Some, None, Result, Ok, Err, refl, sym, ap, ◌∙◌, map, Vec, Global, arith, ◌==◌, subst}
use Rattle.tree_nodes.specs.declared.tree.Leaf.{Leaf}
use Rattle.std.proofs.lemmas.Bool.Decides.{nat_tests}
use Rattle.cddl_token.specs.declared.Token.{Token}
use Rattle.tree_nodes.specs.declared.tree.Entry.{Entry}
use Rattle.tree_nodes.specs.declared.tree.Further.{Further}
use Rattle.tree_nodes.specs.declared.tree.GrpChoice.{GrpChoice}
use Rattle.tree_nodes.specs.declared.tree.Group.{Group}
use Rattle.tree_nodes.specs.declared.tree.Types.{Types}
use Rattle.tree_nodes.specs.declared.tree.GrpEnt.{GrpEnt}
use Rattle.tree_nodes.specs.declared.tree.GrpEnt.TheViews.{out-Types, out-Group}
use Rattle.tree_nodes.specs.declared.tree.MemberKey.{MemberKey}
use Rattle.tree_nodes.specs.Syntax.Syntax as S
use Rattle.tree_nodes.specs.View.{view_types, view_type1, view_group, view_grpent, view_entry, view_further, view_choice, with_types, with_entries, with_choices, leaf}
use Rattle.tree_nodes.proofs.Lemmas.{view_out-Types, view_out-Group}
use Rattle.std.specs.Prelude.{MatchResult}
use Rattle.cddl_tree.specs.declared.frames.Stop.{Stop}
use Rattle.cddl_tree.specs.declared.frames.Stop.TheVariants.{Memory}
use Rattle.cddl_tree.specs.declared.frames.Content.{Content}
use Rattle.cddl_tree.specs.Frames.{view_entries, IsChoice, IsKeyOf, IsContent}
use Rattle.cddl_tree.proofs.Pushing.{with_entries-push}

pub empty_items : {A : Type 0} (v : Vec A Global) → v.len ≡ 0 → v.items ≡ []
empty_items v h = nothing v.items (sym v.ok.0 ∙ h)
  where
    nothing : {A : Type 0} (xs : List A) → length xs ≡ 0 → xs ≡ []
    nothing [] h = refl
    nothing (x ∷ xs) h = absurd (omega (arith, h))

some_items : {A : Type 0} (v : Vec A Global) → (v.len ≡ 0 → ⊥) → v.items ≢ []
some_items v h e = h (v.ok.0 ∙ ap length e)

-- a test for emptiness, in the way that code makes it
pub full : {A : Type 0} (v : Vec A Global) (r : Bool) → r ≡ (v.len == 0) → r ≡ false → v.items ≢ []
full v r e f = some_items v (λ h. let g : (v.len == 0) ≡ true = rw h refl in cc)

pub empty : {A : Type 0} (v : Vec A Global) (r : Bool) → r ≡ (v.len == 0) → r ≡ true → v.items ≡ []
empty v r e f = empty_items v (zero v.len (sym e ∙ f))
  where
    zero : (n : ℕ) → (n == 0) ≡ true → n ≡ 0
    zero n h = grind (arith, nat_tests)

pub types_only : (read : Leaf → Token) (t : Types) → (out-Types t).others.items ≡ [] → view_types read t ≡ S.only (view_type1 read (out-Types t).first)
types_only read t h = view_out-Types read t ∙ ap (λ (xs : List Further). with_types (S.only (view_type1 read (out-Types t).first)) (map (view_further read) xs)) h

longer : (t : S.Types) (xs : List (Token × S.Type1)) → IsChoice t → IsChoice (with_types t xs)
longer t [] h = h
longer t (x ∷ xs) h = longer (S.or t x.0 x.1) xs tt

along : (t u : S.Types) → t ≡ u → IsChoice u → IsChoice t
along t u e h = rw e h

types_or : (read : Leaf → Token) (r : S.Types) (xs : List Further) → xs ≢ [] → IsChoice (with_types r (map (view_further read) xs))
types_or read r [] h = absurd (h refl)
types_or read r (x ∷ xs) h = longer (S.or r (view_further read x).0 (view_further read x).1) (map (view_further read) xs) tt

pub types_several : (read : Leaf → Token) (t : Types) → (out-Types t).others.items ≢ [] → IsChoice (view_types read t)
types_several read t h = along _ _ (view_out-Types read t) (types_or read _ _ h)

pub view_entries-push : (read : Leaf → Token) (xs : List Entry) (e : GrpEnt) (c : Option Leaf) → view_entries read (xs ++ (record { grpent = e; comma = c }) ∷ []) ≡ S.entries (view_entries read xs) (view_grpent read e) (leaf read c)
view_entries-push read xs e c = with_entries-push read S.no_entries xs e c

-- entries that are not none
abbrev IsMore : S.GrpChoice → Type 0
IsMore S.no_entries = ⊥
IsMore (S.entries es e c) = Unit {0}

more : (es : S.GrpChoice) (xs : List (S.GrpEnt × Option Token)) → IsMore es → IsMore (with_entries es xs)
more es [] h = h
more es (x ∷ xs) h = more (S.entries es x.0 x.1) xs tt

more_no_type : (es : S.GrpChoice) (e : S.GrpEnt) (c : Option Token) → IsMore es → S.is_type (S.sole (S.entries es e c)) ≡ false
more_no_type S.no_entries e c h = absurd h
more_no_type (S.entries es x y) e c h = refl

-- several entries are no type
pub several_no_type : (read : Leaf → Token) (xs : List Entry) (e : S.GrpEnt) (c : Option Token) → xs ≢ [] → S.is_type (S.sole (S.entries (view_entries read xs) e c)) ≡ false
several_no_type read [] e c h = absurd (h refl)
several_no_type read (x ∷ xs) e c h = more_no_type _ e c (more _ (map (view_entry read) xs) tt)

-- nor is one with a comma
pub comma_no_type : (es : S.GrpChoice) (e : S.GrpEnt) (c : Token) → S.is_type (S.sole (S.entries es e (Some c))) ≡ false
comma_no_type S.no_entries (S.typed None t) c = refl
comma_no_type S.no_entries (S.typed (Some o) t) c = refl
comma_no_type S.no_entries (S.keyed o k t) c = refl
comma_no_type S.no_entries (S.grouped o p g q) c = refl
comma_no_type (S.entries es x y) e c = refl

-- nor is an entry that is none
pub other_no_type : (e : S.GrpEnt) → S.is_bare e ≡ false → S.is_type (S.sole (S.entries S.no_entries e None)) ≡ false
other_no_type (S.typed None t) h = cc
other_no_type (S.typed (Some o) t) h = refl
other_no_type (S.keyed o k t) h = refl
other_no_type (S.grouped o p g q) h = refl

-- alternatives that are more than one
abbrev IsOr : S.Group → Type 0
IsOr (S.sole es) = ⊥
IsOr (S.orelse g s es) = Unit {0}

longer_group : (g : S.Group) (xs : List (Token × S.GrpChoice)) → IsOr g → IsOr (with_choices g xs)
longer_group g [] h = h
longer_group g (x ∷ xs) h = longer_group (S.orelse g x.0 x.1) xs tt

or_no_type : (g : S.Group) → IsOr g → S.is_type g ≡ false
or_no_type (S.sole es) h = absurd h
or_no_type (S.orelse g s es) h = refl

choices_no_type : (read : Leaf → Token) (g : S.Group) (xs : List GrpChoice) → xs ≢ [] → S.is_type (with_choices g (map (view_choice read) xs)) ≡ false
choices_no_type read g [] h = absurd (h refl)
choices_no_type read g (x ∷ xs) h = or_no_type _ (longer_group (S.orelse g (view_choice read x).0 (view_choice read x).1) (map (view_choice read) xs) tt)

-- several alternatives are no type
pub group_several : (read : Leaf → Token) (g : Group) → (out-Group g).others.items ≢ [] → S.is_type (view_group read g) ≡ false
group_several read g h = rw (view_out-Group read g) (choices_no_type read _ _ h)

pub group_sole : (read : Leaf → Token) (g : Group) → (out-Group g).others.items ≡ [] → view_group read g ≡ S.sole (view_entries read (out-Group g).first.items)
group_sole read g h = view_out-Group read g ∙ ap (λ (xs : List GrpChoice). with_choices (S.sole (view_entries read (out-Group g).first.items)) (map (view_choice read) xs)) h

-- the key of the same type1
pub along_key : (read : Leaf → Token) (o : Option MemberKey) (r s : S.Type1) (c : Token) → r ≡ s → IsKeyOf read o s c → IsKeyOf read o r c
along_key read o r s c e h = subst (λ (x : S.Type1). IsKeyOf read o x c) (sym e) h

-- what is the same group under every reading has the same contents
pub along_groups : (r : Result Content Stop) (g h : (Leaf → Token) → S.Group) → ((read : Leaf → Token) → h read ≡ g read) → MatchResult r (λ x. (read : Leaf → Token) → IsContent read x (g read)) (λ e. e ≡ Memory) → MatchResult r (λ x. (read : Leaf → Token) → IsContent read x (h read)) (λ e. e ≡ Memory)
along_groups (Ok x) g h e i = λ read. subst (IsContent read x) (sym (e read)) (i read)
along_groups (Err y) g h e i = i
