use Rattle.text.proofs.Writing.{◌then◌}
use Rattle.desk_words.proofs.put_word.Goals as goal

pub returns : goal.returns
returns c =
    c.put_bytes-a.ensures then c.put_decimal.ensures then c.put_bytes.ensures
