-- Head lines as a spreadsheet program reads them (request T-03; RFC 4180).
use Rattle.std.specs.Prelude.{List, [], ◌∷◌}
use Rattle.sheet_head.specs.Head.{head_text}
use Rattle.sheet_head.specs.Rfc4180.{ReadBack}
use Rattle.sheet_lines.specs.Line.{SheetLine, entry, row, bytes}

-- a head line is read as one field: its key, `=` and its text; a row is no head line
abbrev pub IsReadBack : SheetLine → Type 0
IsReadBack (entry key text) = ReadBack (bytes (entry key text)) (head_text key text)
IsReadBack (row fields) = ⊥

-- each of some lines is
abbrev pub AllReadBack : List SheetLine → Type 0
AllReadBack [] = Unit {0}
AllReadBack (l ∷ ls) = IsReadBack l × AllReadBack ls
