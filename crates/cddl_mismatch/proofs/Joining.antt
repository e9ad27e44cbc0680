-- The lines of reasons, one by one.
use Rattle.std.proofs.Common.{◌≡◌, ℕ, zero, suc, ◌+◌, List, [], ◌∷◌, ◌++◌, take, Option, Some, None, IfNone, IfOk, IfSome, Result, Ok, Err, slice_get, sym, ap, subst, ◌∙◌, arith}
use Rattle.std.specs.declared.alloc.AllocError.{AllocError}
use Rattle.cbor_data.specs.Value.{Value}
use Rattle.cddl_token.specs.declared.Token.{Token}
use Rattle.table_nodes.specs.declared.table.Table.{Table}
use Rattle.type_links.specs.declared.link.Link.{Link}
use Rattle.source_places.specs.declared.place.Place.{Place}
use Rattle.source_places.specs.declared.sources.Sources.{Sources}
use Rattle.cddl_reasons.specs.declared.causes.Reason.{Reason}
use Rattle.mismatch_words.specs.Lines.{with_line}
use Rattle.mismatch_words.specs.Reasons.{line_text}
use Rattle.mismatch_words.specs.declared.causes.Cause.{Cause}
use Rattle.cddl_mismatch.specs.Explained.{AreLines, IsPlaceOf, IsPlaced, IsToldOf, IsToldOfRoot, nowhere, of_root, one_more}

abbrev value_or : {A : Type 0} → A → Option A → A
value_or d (Some x) = x
value_or d None = d

never_some : {A : Type 0} (x : A) → None ≡ Some x → ⊥
never_some x e = cc

take_suc : {A : Type 0} (xs : List A) (i : ℕ) (x : A) → slice_get xs i ≡ Some x → take (suc i) xs ≡ take i xs ++ x ∷ []
take_suc [] i x e = absurd (never_some x e)
take_suc (y ∷ xs) zero x e = ap (λ o. value_or y o ∷ []) e
take_suc (y ∷ xs) (suc i) x e = ap (λ zs. y ∷ zs) (take_suc xs i x e)

pub take_one_more : {A : Type 0} (xs : List A) (i : ℕ) (x : A) → slice_get xs i ≡ Some x → take (i + 1) xs ≡ take i xs ++ x ∷ []
take_one_more xs i x e = let on : i + 1 ≡ suc i = omega arith in ap (λ n. take n xs) on ∙ take_suc xs i x e

-- where the types stand, or that they are of no rule
pub placed : (x : Sources) (chain : List Link) (p : Option Place) → IfSome p (λ q. IsPlaceOf x chain (Some q)) → IfNone p (IsPlaceOf x chain None) → IsPlaceOf x chain p
placed x chain (Some p) some none = some
placed x chain None some none = none

-- the same of an answer, if there is one
pub placed_by : (x : Sources) (chain ids : List Link) (r : Result (Option Place) AllocError) → chain ≡ ids → IfOk r (λ o. IfSome o (λ q. IsPlaceOf x chain (Some q))) → IfOk r (λ o. IfNone o (IsPlaceOf x chain None)) → IfOk r (λ o. IsPlaceOf x ids o)
placed_by x chain ids (Ok p) e some none = subst (λ (ms : List Link). IsPlaceOf x ms p) e (placed x chain p some none)
placed_by x chain ids (Err f) e some none = tt

pub one_line_more : (text : List ℕ) (tokens : List Token) (file : List ℕ) (root : Option (List ℕ)) (table : Table) (sources : Sources) (x : Value) (rs : List Reason) (lines new : List (List ℕ)) (r : Reason) (p : Place) (line : List ℕ) → new ≡ with_line lines line → IsPlaced sources r (Some p) → IsToldOf text tokens file table p x r line → AreLines text tokens file root table sources x rs lines → AreLines text tokens file root table sources x (rs ++ r ∷ []) new
one_line_more text tokens file root table sources x rs lines new r p line e placed told h = subst (λ ls. AreLines text tokens file root table sources x (rs ++ r ∷ []) ls) (sym e) (one_more h r p line placed told)

pub root_line_more : (text : List ℕ) (tokens : List Token) (file : List ℕ) (root : Option (List ℕ)) (table : Table) (sources : Sources) (x : Value) (rs : List Reason) (lines new : List (List ℕ)) (r : Reason) (name line : List ℕ) → new ≡ with_line lines line → root ≡ Some name → IsPlaced sources r None → IsToldOfRoot name x r line → AreLines text tokens file root table sources x rs lines → AreLines text tokens file root table sources x (rs ++ r ∷ []) new
root_line_more text tokens file root table sources x rs lines new r name line e is none told h = subst (λ ls. AreLines text tokens file root table sources x (rs ++ r ∷ []) ls) (sym e) (of_root h r name line is none told)

pub no_line_more : (text : List ℕ) (tokens : List Token) (file : List ℕ) (root : Option (List ℕ)) (table : Table) (sources : Sources) (x : Value) (rs : List Reason) (lines : List (List ℕ)) (r : Reason) → root ≡ None → IsPlaced sources r None → AreLines text tokens file root table sources x rs lines → AreLines text tokens file root table sources x (rs ++ r ∷ []) lines
no_line_more text tokens file root table sources x rs lines r is none h = nowhere h r is none

pub same_line : (file found : List ℕ) (line column : ℕ) (given rule : List ℕ) (cause : Cause) (shown written told : List ℕ) → told ≡ line_text file found line column given cause shown → given ≡ rule → shown ≡ written → told ≡ line_text file found line column rule cause written
same_line file found line column given rule cause shown written told h e k = h ∙ (ap (λ r. line_text file found line column r cause shown) e ∙ ap (λ w. line_text file found line column rule cause w) k)
