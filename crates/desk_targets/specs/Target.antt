-- What may stand where a sheet or a slim copy is written: nothing, or what we write there. Anything else stays.
use Rattle.std.specs.Prelude.{Bool, true, false, cond, not, ◌&&◌, ◌||◌, List, [], ◌∷◌, ◌≡◌, ℕ, ◌+◌, ◌*◌, ◌≤◌, eqb, length, take, drop, Result, Ok, Err}
use Rattle.text.specs.Ascii.{ascii}
use Rattle.file_refusal.specs.declared.Refusal.{Refusal}
use Rattle.call_check.specs.declared.judge.State.{State}
use Rattle.call_check.specs.Judge.{surveyed}
use Rattle.call_slim.specs.Copy.{slim_copy}
use Rattle.desk_lines.specs.declared.Errno.{Errno}
use Rattle.desk_lines.specs.declared.Taken.{Taken}
use Rattle.desk_lines.specs.declared.Taken.TheVariants.{Input, NoSheet, NoSlim, Folder, Shut, Claimed}
use Rattle.desk_targets.specs.declared.Form.{Form}
use Rattle.desk_targets.specs.declared.Form.TheVariants.{Sheet, Slim}

-- n bytes were read, as many as there is room for at most, or none
abbrev pub Fits : ℕ → Result ℕ Errno → Type 0
Fits room (Ok n) = n ≤ room
Fits room (Err error) = Unit {0}

-- whether two texts are the same
unfoldable pub same : List ℕ → List ℕ → Bool
same [] [] = true
same [] (b ∷ bs) = false
same (a ∷ rest) [] = false
same (a ∷ rest) (b ∷ bs) = eqb a b && same rest bs

-- "FILE.csv begins with `unit=`"
unfoldable pub is_sheet : List ℕ → Bool
is_sheet bytes = same (take 5 bytes) (ascii "unit=")

-- "FILE.slim is its own slim copy"
unfoldable pub is_itself : List ℕ → Result State Refusal → Bool
is_itself bytes (Ok s) = same (slim_copy bytes) bytes
is_itself bytes (Err r) = false

unfoldable pub is_slim : List ℕ → Bool
is_slim bytes = is_itself bytes (surveyed bytes)

-- "what we write there"
unfoldable pub is_ours : Form → List ℕ → Bool
is_ours Sheet bytes = is_sheet bytes
is_ours Slim bytes = is_slim bytes

unfoldable pub not_ours : Form → Taken
not_ours Sheet = NoSheet
not_ours Slim = NoSlim

-- 40 digits name a file, its device and its inode; those of the files to convert stand one after another in `ids`
abbrev pub IsInput : List ℕ → List ℕ → Bool → Type 0
IsInput ids id r =
    (r ≡ true → (k : ℕ) × (40 * k + 40 ≤ length ids) × (take 40 (drop (40 * k) ids) ≡ id))
    × (r ≡ false → (k : ℕ) → 40 * k + 40 ≤ length ids → take 40 (drop (40 * k) ids) ≡ id → ⊥)

-- "A target is never a file that is named as an input .., unless that file begins with `unit=`"
unfoldable pub is_wanted : Bool → List ℕ → Bool
is_wanted input bytes = input && not (is_sheet bytes)

-- "An older file is replaced only if it is what we write there": a target that was read
unfoldable pub by_bytes : Form → Bool → List ℕ → Result (Unit {0}) Taken
by_bytes form input bytes = cond (is_wanted input bytes) (Err Input) (cond (is_ours form bytes) (Ok tt) (Err (not_ours form)))

-- and one that was not, by the system's number of the error: there is no such file, no such folder, or the name is too long
unfoldable pub is_absent : ℕ → Bool
is_absent error = eqb error 2 || eqb error 20 || eqb error 36

unfoldable pub by_error : Errno → Result (Unit {0}) Taken
by_error error = cond (is_absent error.number) (Ok tt) (cond (eqb error.number 21) (Err Folder) (Err (Shut error)))

unfoldable pub by_reading : Form → Bool → Result ℕ Errno → List ℕ → Result (Unit {0}) Taken
by_reading form input (Ok n) held = by_bytes form input (take n held)
by_reading form input (Err error) held = by_error error

-- a target that was read, and what stands there by it
pub record Read (form : Form) (input : Bool) (held : List ℕ) (t : Result (Unit {0}) Taken) : Type 0 where
  pub got : Result ℕ Errno
  pub reads : t ≡ by_reading form input got held

-- "Two inputs that would give one target ..: the second is not written"
unfoldable pub standing : Form → Bool → Bool → Result ℕ Errno → List ℕ → Result (Unit {0}) Taken
standing form claimed input got held = cond claimed (Err Claimed) (by_reading form input got held)

-- what was found at a target: by whether an earlier file has it, whether it is a file to convert, and what reading it gave
pub record Stood (form : Form) (claimed : Bool) (ids id : List ℕ) (t : Result (Unit {0}) Taken) : Type 0 where
  pub input : Bool
  pub asked : IsInput ids id input
  pub got : Result ℕ Errno
  pub held : List ℕ
  pub stood : t ≡ standing form claimed input got held
