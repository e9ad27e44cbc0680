-- A ranked language is ranked whatever is counted, so what it says has a weight; and its cost is no more.
use Rattle.std.proofs.Common.{◌≡◌, ℕ, ◌+◌, ◌^◌, ◌<◌, List, [], ◌∷◌}
use Rattle.cbor_data.specs.Value.{Value}
use Rattle.cddl_meaning.specs.Forms.{Node, Group, Language}
use Rattle.cddl_meaning.specs.Size.{size}
use Rattle.cddl_meaning.specs.Costs.{weighed, HasLiterals}
use Rattle.cddl_meaning.proofs.Lemmas.{costs, one_saying}
use Rattle.cddl_meaning.specs.Ranks.Cheaper.{IsCheaper}
use Rattle.cddl_meaning.specs.Ranks.Ranked.{MayBeEmpty, named, every_part, one_of_them, no_minimum, no_round, an_empty_round, AllMayBeEmpty, no_part, this_part, OneMayBeEmpty, this_one, another, Name, IsFreePart, front, past_empty, IsFreeInGroup, same_list, part, alternative, a_round, IsFree, in_type, in_group, IsRanked}
use Rattle.cddl_meaning.proofs.OfRanks.Some.{any_type}

module _ {N G : Type 0} (l : Language N G) where
  mutual
    empty_too : {g : Group N G} → MayBeEmpty (weighed l) g → MayBeEmpty l g
    empty_too (named e) = named (empty_too e)
    empty_too (every_part e) = every_part (all_too e)
    empty_too (one_of_them e) = one_of_them (one_too e)
    empty_too no_minimum = no_minimum
    empty_too (no_round h) = no_round h
    empty_too (an_empty_round e) = an_empty_round (empty_too e)

    all_too : {gs : List G} → AllMayBeEmpty (weighed l) gs → AllMayBeEmpty l gs
    all_too no_part = no_part
    all_too (this_part e es) = this_part (empty_too e) (all_too es)

    one_too : {gs : List G} → OneMayBeEmpty (weighed l) gs → OneMayBeEmpty l gs
    one_too (this_one e) = this_one (empty_too e)
    one_too (another e) = another (one_too e)

  part_too : {gs : List G} {g : G} → IsFreePart (weighed l) gs g → IsFreePart l gs g
  part_too front = front
  part_too (past_empty e f) = past_empty (empty_too e) (part_too f)

  in_group_too : {g : Group N G} {h : G} → IsFreeInGroup (weighed l) g h → IsFreeInGroup l g h
  in_group_too same_list = same_list
  in_group_too (part f) = part (part_too f)
  in_group_too (alternative c) = alternative c
  in_group_too a_round = a_round

  free_too : {a b : Name N G} → IsFree (weighed l) a b → IsFree l a b
  free_too (in_type f) = in_type f
  free_too (in_group f) = in_group (in_group_too f)

  pub ranked_too : (rank : Name N G → ℕ) (bound : ℕ) → IsRanked l rank bound → IsRanked (weighed l) rank bound
  ranked_too rank bound r = record { down = λ a b f. r.down a b (free_too f); most = r.most }

module _ {N G : Type 0} (l : Language N G) (rank : Name N G → ℕ) (bound : ℕ) (ranked : IsRanked l rank bound) (known : HasLiterals l) where
  pub is_cheaper : (n : Node N G) (p : ℕ) (x : Value) → p + size x < 2 ^ 64 → IsCheaper l n p x
  is_cheaper n p x h =
      let d = any_type (weighed l) rank bound (ranked_too l rank bound ranked) n p x in
      let c = costs l known d.says in
      record { answer = d.answer; cost = c.0; weight = d.weight; says = c.1; weighs = d.says; cheaper = c.2; only = λ a v e. one_saying l h c.1 e; only_weight = λ a w e. one_saying (weighed l) h d.says e }
