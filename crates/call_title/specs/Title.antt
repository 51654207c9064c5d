-- What Title hands back: "a part of the file (the text before the first null) or, if that is empty or the file is refused,
-- the whole label, not a copy" (document 01, What the converter takes).
use Rattle.std.specs.Prelude.{cond, List, ◌≡◌, ℕ, ◌+◌, ◌*◌, eqb, length, take, drop, Option, Some, None, Result, Ok, Err}
use Rattle.std.specs.Borrow.{Bor}
use Rattle.words.specs.Words.{bytes_of}
use Rattle.text.specs.Text.{before_null}
use Rattle.file_rules.specs.Slim.{Slim}
use Rattle.call_check.specs.Judge.{surveyed}
use Rattle.call_check.specs.Slims.{slims_in, slim_at}
use Rattle.call_title.specs.declared.Span.{Span}
use Rattle.file_refusal.specs.declared.Refusal.{Refusal}
use Rattle.call_check.specs.declared.judge.State.{State}

-- "03 .. text from word 1": the bytes before the first null, by the file's slim blocks
unfoldable pub title_text : List Slim → List ℕ
title_text xs = before_null (bytes_of (drop 1 (slim_at 0x03 xs).head))

-- n bytes from a byte of the file on
abbrev pub span : ℕ → ℕ → Option Span
span at n = Some (record { at = at; len = n })

-- where a text stands that starts at word 1 of the block at word `start`; none, for the label, where it is empty
unfoldable pub text_at : ℕ → List ℕ → Option Span
text_at start text = cond (eqb (length text) 0) None (span (2 * (start + 1)) (length text))

unfoldable pub title_in : List ℕ → Result State Refusal → Option Span
title_in file (Ok s) = text_at s.starts.title (title_text (slims_in file))
title_in file (Err r) = None

-- where the title of a file stands; none where it is the label
unfoldable pub title_at : List ℕ → Option Span
title_at file = title_in file (surveyed file)

-- ---- a slice as its holder sees it: where it starts, which is a number of memory and an offset in it, and its bytes

abbrev pub Seen : Type 0
Seen = (ℕ × ℕ) × List ℕ

abbrev pub seen : Bor (List ℕ) → Seen
seen r = (r.ref_ptr, r.now)

-- the n bytes of a slice from its byte a on, where they are
unfoldable pub part_of : Bor (List ℕ) → ℕ → ℕ → Seen
part_of r a n = ((r.ref_ptr.0, a + r.ref_ptr.1), take n (drop a r.now))

unfoldable pub handed : Bor (List ℕ) → Bor (List ℕ) → Option Span → Seen
handed file label (Some s) = part_of file s.at s.len
handed file label None = seen label

-- what Title hands back for a file and a label
unfoldable pub title_of : Bor (List ℕ) → Bor (List ℕ) → Seen
title_of file label = handed file label (title_at file.now)

-- the promise of Title: what it hands back is that, place and bytes
abbrev pub Titled : Bor (List ℕ) → Bor (List ℕ) → Bor (List ℕ) → Type 0
Titled file label r = seen r ≡ title_of file label
