-- The parts of a transform and the numbers that they are written in.
use Rattle.std.specs.Prelude.{ℕ, ◌≤◌, Bool, List, Option, ◌==◌, slice_get, slice_index_or}
use Rattle.transform.specs.declared.parts.Row.{Row}
use Rattle.transform.specs.declared.parts.Record.{Record}

-- what a register holds: a flag
abbrev pub flag : ℕ
flag = 1

-- what a register holds: a whole number
abbrev pub whole : ℕ
whole = 2

-- what a register holds: a number
abbrev pub number : ℕ
number = 3

-- what a register is for: work
abbrev pub work : ℕ
work = 0

-- what a register is for: an in channel
abbrev pub in_role : ℕ
in_role = 1

-- what a register is for: an out channel
abbrev pub out_role : ℕ
out_role = 2

-- what a register is for: a word that a call may set
abbrev pub uniform : ℕ
uniform = 3

-- at most so many rows
abbrev pub most_rows : ℕ
most_rows = 64

-- at most so many records
abbrev pub most_records : ℕ
most_records = 512

-- there may be so many rows
abbrev pub IsRowCount : ℕ → Type 0
IsRowCount n = (1 ≤ n) × (n ≤ most_rows)

-- there may be so many records
abbrev pub IsRecordCount : ℕ → Type 0
IsRecordCount n = (2 ≤ n) × (n ≤ most_records)

-- at most so many words in the table
abbrev pub most_words : ℕ
most_words = 4096

-- so many channels, from 0
abbrev pub channels : ℕ
channels = 8

-- the register holds a flag
abbrev pub is_flag : Row → Bool
is_flag r = r.holds == flag

-- the register holds a whole number
abbrev pub is_whole : Row → Bool
is_whole r = r.holds == whole

-- the register holds a number
abbrev pub is_number : Row → Bool
is_number r = r.holds == number

-- the register starts with an input word
abbrev pub is_in : Row → Bool
is_in r = r.role == in_role

-- the register's last word is written out
abbrev pub is_out : Row → Bool
is_out r = r.role == out_role

-- a call may set the register's start word
abbrev pub is_uniform : Row → Bool
is_uniform r = r.role == uniform

-- what stands for a row where there is none
abbrev pub no_row : Row
no_row = record { holds = 0; role = 0; channel = 0; word = 0 }

-- the row with the number i
abbrev pub row_at : List Row → ℕ → Row
row_at rows i = slice_index_or rows i no_row

-- what stands for a record where there is none
abbrev pub no_record : Record
no_record = record { kind = 0; to = 0; a = 0; b = 0; word = 0; next = 0 }

-- the record at place i
abbrev pub record_at : List Record → ℕ → Record
record_at records i = slice_index_or records i no_record

-- the table's word with the index i, if there is one
abbrev pub word_at : List ℕ → ℕ → Option ℕ
word_at table i = slice_get table i
