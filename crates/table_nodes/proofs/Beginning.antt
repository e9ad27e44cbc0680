-- With how many of the same entries the alternatives of maps begin.
use Rattle.std.proofs.Common.{◌≡◌, ℕ, ◌-◌, inl, inr, List, [], ◌∷◌, ◌++◌, Some, Vec, Global, slice_get, refl, sym, ap, subst, ◌∙◌, arith}
use Rattle.std.specs.List.{Contains}
use Rattle.std.proofs.lemmas.List.{length-map, take-map}
use Rattle.std.proofs.lemmas.Option.{slice_get-map}
use Rattle.std.specs.Prelude.{option_map}
use Rattle.lists.proofs.Lemmas.{after_push, place_of, same_some}
use Rattle.cddl_meaning.specs.Forms as F
use Rattle.table_nodes.specs.Choices.{type_in}
use Rattle.table_nodes.specs.Fronts.{AreFronts, BeginAlike, IsFront}
use Rattle.table_nodes.specs.Nodes.{alternatives_view, entries_view, entry_view}
use Rattle.table_nodes.specs.declared.fronts.Front.{Front}
use Rattle.table_nodes.specs.declared.nodes.MapEntry.{MapEntry}
use Rattle.table_nodes.specs.declared.nodes.Node.{Node}
use Rattle.table_nodes.specs.declared.nodes.TypeId.{TypeId}

pub none_alike : {A : Type 0} (some others : List A) → BeginAlike 0 some others
none_alike some others = (omega arith, refl)

-- Entries that begin alike mean entries that do.
in_view : (n : ℕ) (es fs : List MapEntry) → BeginAlike n es fs → BeginAlike n (entries_view es) (entries_view fs)
in_view n es fs h = (omega (arith, h.0, length-map fs entry_view), take-map entry_view n es ∙ ap entries_view h.1 ∙ sym (take-map entry_view n fs))

at_way : (alts : List (Vec MapEntry Global)) (k : ℕ) (es : Vec MapEntry Global) (some : List (F.MapEntry TypeId)) → slice_get alts k ≡ Some es → slice_get (alternatives_view alts) k ≡ Some some → entries_view es.items ≡ some
at_way alts k es some e h = same_some (sym (slice_get-map (λ (es : Vec MapEntry Global). entries_view es.items) alts k ∙ ap (option_map (λ (es : Vec MapEntry Global). entries_view es.items)) e) ∙ h)

-- Two alternatives of a map.
pub ways_alike : (alts : List (Vec MapEntry Global)) (j k n : ℕ) (es fs : Vec MapEntry Global) → slice_get alts j ≡ Some es → slice_get alts k ≡ Some fs → BeginAlike n es.items fs.items → (some others : List (F.MapEntry TypeId)) → slice_get (alternatives_view alts) j ≡ Some some → slice_get (alternatives_view alts) k ≡ Some others → BeginAlike n some others
ways_alike alts j k n es fs e f h some others a b = subst (λ xs. BeginAlike n xs others) (at_way alts j es some e a) (subst (BeginAlike n (entries_view es.items)) (at_way alts k fs others f b) (in_view n es.items fs.items h))

-- One front more is that of its map.
one_front_more : (types : List Node) (fronts : List Front) (front : Front) → AreFronts types fronts → IsFront types front → AreFronts types (fronts ++ front ∷ [])
one_front_more types fronts front h is i x e = elim (after_push fronts front i x e) [
  | inl k ↦ subst (IsFront types) k.1 is
  | inr k ↦ h i x k
]

abbrev ways_of : {N G : Type 0} → F.Node N G → List (List (F.MapEntry N))
ways_of (F.MapOf ways) = ways
ways_of _ = []

pub of_map : (types : List Node) (fronts : List Front) (front : Front) (ways : List (List (F.MapEntry TypeId))) → type_in types front.of ≡ F.MapOf ways → AreFronts types fronts → ((some others : List (F.MapEntry TypeId)) → slice_get ways (front.way - 1) ≡ Some some → slice_get ways front.way ≡ Some others → BeginAlike front.entries some others) → AreFronts types (fronts ++ front ∷ [])
of_map types fronts front ways is h f = one_front_more types fronts front h own
  where
    own : IsFront types front
    own vs some others e a b =
        let same : ways ≡ vs = ap ways_of (sym is ∙ e) in
        f some others (ap (λ v. slice_get v (front.way - 1)) same ∙ a) (ap (λ v. slice_get v front.way) same ∙ b)

-- a front that was found
pub found_front : (types : List Node) (fronts : List Front) (of : TypeId) (way : ℕ) (front : Front) → AreFronts types fronts → (front.of ≡ of) × (front.way ≡ way) × Contains fronts front → (ways : List (List (F.MapEntry TypeId))) (some others : List (F.MapEntry TypeId)) → type_in types of ≡ F.MapOf ways → slice_get ways (way - 1) ≡ Some some → slice_get ways way ≡ Some others → BeginAlike front.entries some others
found_front types fronts of way front h is ways some others e a b =
    let at = place_of fronts front is.2 in
    h at.0 front at.1 ways some others (ap (type_in types) is.0 ∙ e) (ap (λ n. slice_get ways (n - 1)) is.1 ∙ a) (ap (slice_get ways) is.1 ∙ b)
