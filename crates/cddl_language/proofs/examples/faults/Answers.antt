use Rattle.cddl_language.proofs.Faulty as F
use Rattle.cddl_language.proofs.MapsFaulty as M
use Rattle.cddl_language.proofs.NoReference as N
use Rattle.cddl_language.proofs.examples.faults.Goals as goal

pub returns-clause-defined_twice : goal.returns-clause-defined_twice
returns-clause-defined_twice c = F.defined_twice

pub returns-clause-two_kinds : goal.returns-clause-two_kinds
returns-clause-two_kinds c = F.two_kinds

pub returns-clause-undefined : goal.returns-clause-undefined
returns-clause-undefined c = F.undefined

pub returns-clause-with_argument : goal.returns-clause-with_argument
returns-clause-with_argument c = F.with_argument

pub returns-clause-no_rule : goal.returns-clause-no_rule
returns-clause-no_rule c = F.no_rule

pub returns-clause-group_root : goal.returns-clause-group_root
returns-clause-group_root c = F.group_root

pub returns-clause-group_in_choice : goal.returns-clause-group_in_choice
returns-clause-group_in_choice c = F.group_in_choice

pub returns-clause-choice_of_type : goal.returns-clause-choice_of_type
returns-clause-choice_of_type c = F.choice_of_type

pub returns-clause-bare_tag : goal.returns-clause-bare_tag
returns-clause-bare_tag c = F.bare_tag

pub returns-clause-with_regexp : goal.returns-clause-with_regexp
returns-clause-with_regexp c = F.with_regexp

pub returns-clause-unwrapped_int : goal.returns-clause-unwrapped_int
returns-clause-unwrapped_int c = F.unwrapped_int

pub returns-clause-unwrapped_argument : goal.returns-clause-unwrapped_argument
returns-clause-unwrapped_argument c = F.unwrapped_argument

pub returns-clause-choice_of_maybe : goal.returns-clause-choice_of_maybe
returns-clause-choice_of_maybe c = F.choice_of_maybe

pub returns-clause-first_itself : goal.returns-clause-first_itself
returns-clause-first_itself c = F.first_itself

pub returns-clause-chosen_itself : goal.returns-clause-chosen_itself
returns-clause-chosen_itself c = N.chosen_itself

pub returns-clause-chosen_by_name : goal.returns-clause-chosen_by_name
returns-clause-chosen_by_name c = F.chosen_by_name

pub returns-clause-group_first_itself : goal.returns-clause-group_first_itself
returns-clause-group_first_itself c = F.group_first_itself

pub returns-clause-to_text : goal.returns-clause-to_text
returns-clause-to_text c = F.to_text

pub returns-clause-to_parameter : goal.returns-clause-to_parameter
returns-clause-to_parameter c = F.to_parameter

pub returns-clause-three_to_two : goal.returns-clause-three_to_two
returns-clause-three_to_two c = F.three_to_two

pub returns-clause-without_key : goal.returns-clause-without_key
returns-clause-without_key c = λ worth. M.without_key

pub returns-clause-of_pairs : goal.returns-clause-of_pairs
returns-clause-of_pairs c = λ worth. M.of_pairs

pub returns-clause-too_many : goal.returns-clause-too_many
returns-clause-too_many c = λ worth. M.too_many
