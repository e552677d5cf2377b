use Rattle.hex_io.specs.ListLaws.{ListsOneList}
use Rattle.hex_io.specs.Lists.{lines_of}
use Rattle.hex_io.proofs.EntryLemmas.{same-entries, same-parts}
use Rattle.hex_io.proofs.laws.a_source_lists_one_list.Goals as goal

pub returns : goal.returns
returns c =
    let same : ListsOneList = λ n case s entries others a b. same-entries case (lines_of s) entries others c.a_text_spells_one_list.ensures.one a b in
    record { one = same; parts = λ n case s entries others a b. same-parts entries others (same n case s entries others a b) }
