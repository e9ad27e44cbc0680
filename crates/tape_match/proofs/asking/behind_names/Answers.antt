use Rattle.std.proofs.Common.{◌≡◌, ℕ, suc, ◌+◌, Some, sym, ap, ◌∙◌, subst, arith}
use Rattle.cddl_meaning.specs.Forms as F
use Rattle.table_nodes.specs.Language.{language_of}
use Rattle.tape_match.specs.Says.{SaysAs}
use Rattle.tape_match.proofs.Left.{name_shown, names_shown}
use Rattle.tape_match.proofs.Says.{says_itself, says_on}
use Rattle.tape_match.proofs.asking.behind_names.Goals as goal

pub loop-names-init : goal.loop-names-init
loop-names-init c =
    let type_at = (language_of c.args.table.now).type_at in
    record {
      few = omega arith;
      stands = says_itself (language_of c.args.table.now) (type_at c.args.node);
      keyed = λ k v few is. let none : k ≡ k + 0 = omega arith in subst (λ (j : ℕ). F.key_in type_at j c.args.node ≡ Some v) none is;
    }

pub loop-names-preserved : goal.loop-names-preserved
loop-names-preserved c =
    let l = language_of c.args.table.now in
    let to = c.in-Some-type_named.to in
    let one = subst (λ f. SaysAs l f (l.type_at to) 1) (sym c.in-Some.ensures.found) (c.in-Some-type_named.ensures.says l) in
    record {
      few = omega arith;
      stands = says_on l (l.type_at c.args.node) (l.type_at c.loop-names.at) (l.type_at to) c.loop-names.names 1 c.loop-names.invariant.stands one;
      keyed = λ k v few is.
          let up : suc k + c.loop-names.names ≡ k + (c.loop-names.names + 1) = omega arith in
          let shown = name_shown l.type_at k c.loop-names.at to v (λ next. ap (λ f. F.key_by next f) c.in-Some.ensures.found ∙ c.in-Some-type_named.ensures.keyed next) is in
          subst (λ (j : ℕ). F.key_in l.type_at j c.args.node ≡ Some v) up (c.loop-names.invariant.keyed (suc k) v (omega (arith, few)) shown);
    }

pub returns-in-None-type_named-clause-keyed : goal.returns-in-None-type_named-clause-keyed
returns-in-None-type_named-clause-keyed c = λ v is. names_shown (language_of c.args.table.now).type_at c.args.node c.loop-names.at c.loop-names.names v c.loop-names.invariant.few c.loop-names.invariant.keyed is

pub returns-in-None-clause-keyed : goal.returns-in-None-clause-keyed
returns-in-None-clause-keyed c = λ v is. names_shown (language_of c.args.table.now).type_at c.args.node c.loop-names.at c.loop-names.names v c.loop-names.invariant.few c.loop-names.invariant.keyed is

pub returns-clause-keyed : goal.returns-clause-keyed
returns-clause-keyed c = λ v is. names_shown (language_of c.args.table.now).type_at c.args.node c.loop-names.at c.loop-names.names v c.loop-names.invariant.few c.loop-names.invariant.keyed is
