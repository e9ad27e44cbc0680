use Rattle.cddl_language.proofs.Values.{Laws, some_table, same_values}
use Rattle.cddl_language.proofs.one_table_of_values.Goals as goal

pub returns : goal.returns
returns c =
    let cut = c.cut_out.ensures in
    let one = c.one_meaning.ensures in
    let laws : Laws = record { number_cut = cut.number; text_cut = cut.text; bytes_cut = cut.byte_string; one_number = one.number; one_text = one.text; one_string = one.byte_string } in
    record {
      some = some_table laws;
      same = same_values laws;
    }
