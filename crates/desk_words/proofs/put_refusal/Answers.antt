-- `put_refusal` meets its contract. Assumes nothing.
use Rattle.desk_words.specs.Meanings.{refusal_words}
use Rattle.text.proofs.Writing.{◌then◌, text_is, at_most}
use Rattle.desk_words.proofs.put_refusal.Goals as goal

pub returns : goal.returns
unfolding refusal_words
returns c =
    let means = c.meaning.ensures in
    let doubts = c.doubt.ensures in
    c.put_bytes-a.ensures then c.put_short.ensures then c.put_word.ensures
    then text_is (at_most c.put_bytes.ensures means.short) means.words then text_is (at_most c.put_bytes-2.ensures doubts.short) doubts.words
