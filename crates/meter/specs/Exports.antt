-- How an answer of the four calls stands in the struct that a caller from outside gets: `refusal` is document 01's number, and 0 for
-- success; what an answer does not have is 0 or false, and a start 65,535.
use Rattle.std.specs.Prelude.{true, false, List, ◌≡◌, ℕ, length, drop, replicate, Option, Some, None, Result, Ok, Err}
use Rattle.call_check.specs.Starts.{absent, place_count, starts_in}
use Rattle.call_title.specs.declared.Span.{Span}
use Rattle.sheet_page.specs.Sheet.{sheet_texts}
use Rattle.call_sheet.specs.Reply as SheetCall
use Rattle.call_slim.specs.Copy as SlimCall
use Rattle.meter.specs.declared.CheckReply.{CheckReply}
use Rattle.meter.specs.declared.TitleReply.{TitleReply}
use Rattle.meter.specs.declared.SheetReply.{SheetReply}
use Rattle.meter.specs.declared.SlimReply.{SlimReply}
use Rattle.file_refusal.specs.declared.Refusal.{Refusal}
use Rattle.call_check.specs.declared.check.Outline.{Outline}
use Rattle.paging.specs.declared.fit.Progress.{Progress}

unfoldable pub check_reply : Result Outline Refusal → CheckReply
check_reply (Ok r) =
    record {
      refusal = 0;
      function = r.function;
      starts = starts_in r.starts;
      at = 0;
    }
check_reply (Err r) = record { refusal = r.num; function = 0; starts = replicate place_count absent; at = r.at }

-- Title for a label of n bytes: "the whole label" is its bytes from byte 0 on
unfoldable pub title_reply : ℕ → Option Span → TitleReply
title_reply n (Some s) = record { from_file = true; at = s.at; len = s.len }
title_reply n None = record { from_file = false; at = 0; len = n }

unfoldable pub sheet_struct : Result Progress Refusal → SheetReply
sheet_struct (Ok p) = record { refusal = 0; finished = p.finished; at = 0; lines = p.lines; bytes = p.bytes }
sheet_struct (Err r) = record { refusal = r.num; finished = false; at = r.at; lines = 0; bytes = 0 }

unfoldable pub slim_struct : Result ℕ Refusal → SlimReply
slim_struct (Ok n) = record { refusal = 0; at = 0; bytes = n }
slim_struct (Err r) = record { refusal = r.num; at = r.at; bytes = 0 }

-- the answer and the output of Sheet
pub record SheetGiven (file label : List ℕ) (n : ℕ) (before after : List ℕ) (r : SheetReply) : Type 0 where
  pub answer_is : r ≡ sheet_struct (SheetCall.sheet_reply file label n (length before))
  pub output_is : after ≡ SheetCall.output_by (drop n (sheet_texts file label)) before (SheetCall.sheet_reply file label n (length before))

-- the answer and the output of Slim
pub record SlimGiven (file before after : List ℕ) (r : SlimReply) : Type 0 where
  pub answer_is : r ≡ slim_struct (SlimCall.slim_reply file (length before))
  pub output_is : after ≡ SlimCall.output_by (SlimCall.slim_copy file) before (SlimCall.slim_reply file (length before))
