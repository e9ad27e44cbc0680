-- The parts of sites or of entries, one after the other.
use Rattle.std.proofs.Common.{◌≡◌, ℕ, ◌+◌, ◌<◌, ◌≤◌, List, [], ◌∷◌, ◌++◌, append_assoc, length, get_or, drop, Option, Some, refl, sym, ap, subst, ◌∙◌}
use Rattle.std.proofs.lemmas.List.{append-nil, drop_all}
use Rattle.std.specs.Prelude.{flat_map}
use Rattle.lists.proofs.Lemmas.{next_drop as next}
use Rattle.check_terms.specs.Table.{Holds, Table, Tree}
use Rattle.check_reading.specs.Parts.{AreEntryParts, AreParts, IsPart, Placed, further_part, no_parts}
use Rattle.check_reading.specs.declared.parts.part.Part.{Part}
use Rattle.tree_nodes.specs.Syntax.Syntax as S
use Rattle.tree_nodes.specs.declared.tree.Leaf.{Leaf}
use Rattle.cddl_token.specs.declared.Token.{Token}
use Rattle.check_sites.specs.declared.sites.site.Found.{Found}

module _ (old new : Table) (keeps : (n : Option ℕ) (x : Tree) → Holds old n x → Holds new n x) where
  part_kept : (p : Part) (w : Placed) → IsPart old p w → IsPart new p w
  part_kept p w h = record { rule = h.rule; at = h.at; question = h.question; holds = keeps (Some p.row) w.1.tree h.holds }

  pub parts_kept : (ps : List Part) (ws : List Placed) → AreParts old ps ws → AreParts new ps ws
  parts_kept ps ws no_parts = no_parts
  parts_kept ps ws (further_part {p = p} {w = w} {ps = qs} {ws = vs} h hs) = further_part (part_kept p w h) (parts_kept qs vs hs)

  pub entry_parts_kept : (rs : List S.Rule) (read : Leaf → Token) (fs : List Found) (ps : List Part) → AreEntryParts old rs read fs ps → AreEntryParts new rs read fs ps
  entry_parts_kept rs read fs ps h = record { entries = h.entries; listed = h.listed; parts = parts_kept ps _ h.parts }

part_added : (t : Table) (ps : List Part) (ws : List Placed) (p : Part) (w : Placed) → AreParts t ps ws → IsPart t p w → AreParts t (ps ++ p ∷ []) (ws ++ w ∷ [])
part_added t ps ws p w no_parts is = further_part is no_parts
part_added t ps ws p w (further_part {ps = qs} {ws = vs} h hs) is = further_part h (part_added t qs vs p w hs is)

-- one more part, after the table has grown by its rows
pub one_added : (old new : Table) → ((n : Option ℕ) (x : Tree) → Holds old n x → Holds new n x) → (ps more : List Part) (p : Part) (ws : List Placed) (w : Placed) → more ≡ ps ++ p ∷ [] → IsPart new p w → AreParts old ps ws → AreParts new more (ws ++ w ∷ [])
one_added old new keeps ps more p ws w e is so = subst (λ qs. AreParts new qs (ws ++ w ∷ [])) (sym e) (part_added new ps ws p w (parts_kept old new keeps ps ws so) is)

-- Some are read, and those from the place i on are left.
module _ {A : Type 0} (of : A → List Placed) (all : List A) where
  pub record AreRead (t : Table) (i : ℕ) (ps : List Part) : Type 0 where
    pub before : List Placed
    pub whole : flat_map of all ≡ before ++ flat_map of (drop i all)
    pub parts : AreParts t ps before

  pub none_read : (t : Table) (ps : List Part) → ps ≡ [] → AreRead t 0 ps
  none_read t ps e = record { before = []; whole = refl; parts = subst (λ qs. AreParts t qs []) (sym e) no_parts }

  pub next_read : (old new : Table) (i : ℕ) (x : A) (ps more : List Part) → i < length all → x ≡ get_or all i x → ((ws : List Placed) → AreParts old ps ws → AreParts new more (ws ++ of x)) → AreRead old i ps → AreRead new (i + 1) more
  next_read old new i x ps more l e adds so = record {
    before = so.before ++ of x;
    whole = so.whole ∙ ap (λ xs. so.before ++ flat_map of xs) (next all i x l e) ∙ sym (append_assoc so.before (of x) (flat_map of (drop (i + 1) all)));
    parts = adds so.before so.parts;
  }

  pub all_read : (t : Table) (i : ℕ) (ps : List Part) → length all ≤ i → AreRead t i ps → AreParts t ps (flat_map of all)
  all_read t i ps l so = subst (AreParts t ps) (sym (so.whole ∙ ap (λ xs. so.before ++ flat_map of xs) (drop_all i all l) ∙ append-nil so.before)) so.parts
