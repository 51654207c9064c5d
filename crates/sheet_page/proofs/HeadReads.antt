-- The head of a sheet is read as it is meant, whatever the file and the label hold: nothing is lost by quoting.
use mathlib.Core.List.{List}
use mathlib.Core.Path.{refl}
use Prim.Native.Nat.{ℕ}
use Rattle.text.specs.Ascii.{ascii}
use Rattle.file_rules.specs.Slim.{Slim}
use Rattle.sheet_head.specs.Head.{needs_quotes}
use Rattle.sheet_head.proofs.Printable.{is_printable}
use Rattle.sheet_head.proofs.ReadingBack.{number_reads, text_reads}
use Rattle.sheet_lines.specs.Line.{bytes}
use Rattle.sheet_lines.specs.Lines.{number_entry, text_entry}
use Rattle.sheet_page.specs.ReadBack.{AllReadBack}
use Rattle.sheet_page.specs.Sheet.{name_in, title_shown, head_lines}

pub head_reads : (xs : List Slim) (label : List ℕ) → AllReadBack (head_lines xs label)
unfolding head_lines number_entry text_entry bytes needs_quotes is_printable
head_reads xs label =
    let name = text_reads (ascii "name") refl refl (name_in xs) in
    let title = text_reads (ascii "title") refl refl (title_shown xs label) in (
      number_reads (ascii "unit") refl refl _,
      (number_reads (ascii "number") refl refl _, (number_reads (ascii "version") refl refl _, (name, (number_reads (ascii "function") refl refl _, (title, tt))))),
    )
