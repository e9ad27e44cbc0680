use Rattle.std.specs.Prelude.{ℕ, List}
use Rattle.cbor_data.specs.Value.{Value}
use Rattle.cddl_language.specs.Language.{language, reference, type_node}
use Rattle.cddl_language.specs.Literals.{Values}
use Rattle.cddl_language.specs.StandsFor.{StandsFor}
use Rattle.cddl_language.specs.Terms.{Definition, Text, call, no_terms}
use Rattle.cddl_meaning.specs.Forms.{Language}
use Rattle.cddl_meaning.specs.Judges.{Answer, Yes, No, Says}
use Rattle.cddl_meaning.proofs.Lemmas.{plain_keys, said_before, said_of_same, says_too}
use Rattle.cddl_meaning.specs.Ranks.Ranked.{Name}
use Rattle.cddl_meaning.specs.Literals.{HasPlainLiterals}
use Rattle.cddl_language.proofs.PlainLiterals.{node_plain}
use Rattle.cddl_language.proofs.same_by_text.Goals as goal

module _ {N G : Type 0} (worth : Values) (ds : List Definition) (root : Text) (l : Language N G) (top : N) (rank : Name N G → ℕ) (ranks : ℕ) (s : StandsFor worth ds root l top rank ranks) where
  said : (x : Value) (a : Answer) (w : ℕ) → Says l (l.type_at top) 0 x a w → Says (language worth ds) (type_node worth ds (reference (call root no_terms))) 0 x a w
  said x a w h = said_before (language worth ds) l _ _ s.alike {n = reference (call root no_terms)} {m = top} s.root_node h

  says : (x : Value) (a : Answer) (w : ℕ) → Says (language worth ds) (type_node worth ds (reference (call root no_terms))) 0 x a w → Says l (l.type_at top) 0 x a w
  says x a w h = says_too (language worth ds) l _ _ s.alike h (s.alike.types (reference (call root no_terms)) top s.root_node)

plain : (worth : Values) (ds : List Definition) → HasPlainLiterals (language worth ds)
plain worth ds = record { plain = node_plain worth ds; keys = plain_keys (language worth ds) (node_plain worth ds) }

pub returns : goal.returns
returns g c = record {
  yes = λ worth ds root l top rank ranks s x y w d h.
      let t = said_of_same (language worth ds) (plain worth ds) (node_plain worth ds (reference (call root no_terms))) (said worth ds root l top rank ranks s x Yes w h) d 0 in
      (t.weight, says worth ds root l top rank ranks s y Yes t.weight t.says);
  no = λ worth ds root l top rank ranks s x y far w d h.
      let t = said_of_same (language worth ds) (plain worth ds) (node_plain worth ds (reference (call root no_terms))) (said worth ds root l top rank ranks s x (No far) w h) d 0 in
      (t.far, t.weight, says worth ds root l top rank ranks s y (No t.far) t.weight t.says);
}
