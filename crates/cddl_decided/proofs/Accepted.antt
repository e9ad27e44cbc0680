-- What an accepted specification has.
use Rattle.std.proofs.Common.{◌≡◌, ◌≢◌, ◌+◌, ◌^◌, ◌<◌, ◌≤◌, false, List, length, Some, sym, subst, arith}
use Rattle.std.specs.Prelude.{AllPairs, Contains}
use Rattle.cddl_token.specs.declared.Code.TheVariants.{TooManyInstances}
use Rattle.cddl_language.specs.Faults.{HasTooManyInstances, IsAccepted, OfRoot, Specification, definitions, root_of}
use Rattle.cddl_language.specs.Free.{LeadsBack}
use Rattle.cddl_language.specs.Literals.{Values}
use Rattle.cddl_language.specs.Reach.{Point, Reaches, at_root, most_instances, ref_at}
use Rattle.cddl_language.specs.Terms.{Definition, Ref, Text, call, no_terms}
use Rattle.cbor_data.specs.Value.{Value}
use Rattle.cddl_language.specs.Kinds.{is_group}
use Rattle.cddl_language.specs.Language.{language, reference, type_node}
use Rattle.cddl_meaning.proofs.OfRanks.Lemmas.{founded_decided}
use Rattle.cddl_meaning.specs.Ranks.Decided.{IsDecided}
use Rattle.cddl_meaning.specs.Size.{size}
use Rattle.cddl_decided.specs.Ways.{WaysEnd}
use Rattle.cddl_decided.proofs.Founding.{group_founded, type_founded}
use Rattle.cddl_decided.proofs.OfBounds.Few.{few_pairs}
use Rattle.cddl_decided.proofs.Names.{IsGroup, IsType, MoreChoices, OfInstances, groups_have, instances_down, types_have}
use Rattle.cddl_decided.proofs.Reached.{AreInstancesOn, goes_on}
use Rattle.cddl_decided.proofs.Ways.{all_end}

few : (s : Specification) (worth : Values) (root : Text) → IsAccepted s worth → root_of s ≡ Some root → (rs : List Ref) → ((r : Ref) → Contains rs r → Reaches (definitions s) root r) → AllPairs (λ (q r : Ref). q ≢ r) rs → length rs ≤ most_instances
few s worth root accepted e rs reached apart = few_pairs s root (λ h. accepted TooManyInstances 0 (subst (λ o. OfRoot o (λ n. HasTooManyInstances s n 0)) (sym e) h)) rs reached apart

pub ways_end : ((ds : List Definition) (root : Text) → AreInstancesOn ds root) → (s : Specification) (worth : Values) (root : Text) → IsAccepted s worth → root_of s ≡ Some root → ((p : Point) → LeadsBack (definitions s) root p → ⊥) → (p : Point) → Reaches (definitions s) root (ref_at p) → WaysEnd (definitions s) p
ways_end on s worth root accepted e none p here = all_end (definitions s) root most_instances (few s worth root accepted e) none (goes_on (definitions s) root (on (definitions s) root)) p here

pub decided : ((ds : List Definition) (root : Text) → AreInstancesOn ds root) → ((ds : List Definition) → MoreChoices ds) → (s : Specification) (worth : Values) (root : Text) → IsAccepted s worth → root_of s ≡ Some root → ((p : Point) → LeadsBack (definitions s) root p → ⊥) → is_group (definitions s) root ≡ false → (x : Value) → size x < 2 ^ 64 → IsDecided (language worth (definitions s)) (type_node worth (definitions s) (reference (call root no_terms))) 0 x
decided on more s worth root accepted e none g x few =
    let ds : List Definition = definitions s in
    let here = on ds root in
    let ends = ways_end on s worth root accepted e none in
    let fits : 0 + size x < 2 ^ 64 = omega (arith, few) in
    founded_decided (language worth ds) (IsType worth ds root) (IsGroup worth ds root) (record {
      types = types_have worth ds (OfInstances ds root) (instances_down ds root here) (more ds);
      groups = groups_have worth ds (OfInstances ds root) (instances_down ds root here) (more ds);
      type_ends = type_founded worth ds root here (more ds) ends;
      group_ends = group_founded worth ds root here (more ds) ends;
    }) (reference (call root no_terms)) (at_root, g) 0 x fits
