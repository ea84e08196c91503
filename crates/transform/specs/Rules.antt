-- The rules that a transform keeps, each a test.
use Rattle.std.specs.Prelude.{◌≡◌, ℕ, Bool, true, if◌then◌else◌, not, ◌&&◌, ◌||◌, List, length, ◌==◌, nat_eq, nat_le, nat_lt}
use Rattle.std.specs.List.{list_any}
use Rattle.transform.specs.Kinds.{fields_of, suits}
use Rattle.transform.specs.Parts.{flag, number, uniform, most_rows, most_records, most_words, channels, is_flag, is_number, is_in, is_out, is_uniform, row_at}
use Rattle.transform.specs.Tests.{within, ◌implies◌}
use Rattle.transform.specs.declared.kind.Fields.{Fields}
use Rattle.transform.specs.declared.kind.Fields.TheVariants.{Word, One, Two, Fork}
use Rattle.transform.specs.declared.kind.RecordKind.{RecordKind}
use Rattle.transform.specs.declared.parts.Row.{Row}
use Rattle.transform.specs.declared.parts.Record.{Record}

-- the number of rows is within its limits
abbrev pub row_count_suits : List Row → Bool
row_count_suits rows = within 1 most_rows (length rows)

-- the type and the role are among those that there are
abbrev pub row_known : Row → Bool
row_known r = within flag number r.holds && nat_le r.role uniform

-- a register of a channel holds a number and names a channel that there is; any other names channel 0
abbrev pub channel_suits : Row → Bool
channel_suits r = if is_in r || is_out r then is_number r && nat_lt r.channel channels else r.channel == 0

-- a flag starts as 0 or 1, and an in register has no start word
abbrev pub word_suits : Row → Bool
word_suits r = (is_flag r implies nat_le r.word 1) && (is_in r implies nat_eq r.word 0)

-- an out row with that channel
abbrev pub out_on : Row → ℕ → Bool
out_on r channel = is_out r && r.channel == channel

-- an out row's channel is no earlier out row's
abbrev pub out_alone : List Row → Row → Bool
out_alone earlier r = is_out r implies not (list_any (λ e. out_on e r.channel) earlier)

-- out rows i and j have one channel
pub record SameOut (rows : List Row) (i j : ℕ) : Type 0 where
  pub first : is_out (row_at rows i) ≡ true
  pub second : is_out (row_at rows j) ≡ true
  pub channel : (row_at rows i).channel ≡ (row_at rows j).channel

-- the number of records is within its limits
abbrev pub record_count_suits : List Record → Bool
record_count_suits records = within 2 most_records (length records)

-- every field is 0
abbrev pub all_zero : Record → Bool
all_zero c = c.kind == 0 && c.to == 0 && c.a == 0 && c.b == 0 && c.word == 0 && c.next == 0

-- what follows is one of n records
abbrev pub leads_inside : Fields → ℕ → Record → Bool
leads_inside Word n c = nat_lt c.next n
leads_inside One n c = nat_lt c.next n
leads_inside Two n c = nat_lt c.next n
leads_inside Fork n c = nat_lt c.next n && nat_lt c.b n

-- the registers that are used are among n, and a field that is not used is 0
abbrev pub record_fields_suit : Fields → ℕ → Record → Bool
record_fields_suit Word n c = nat_lt c.to n && c.a == 0 && c.b == 0
record_fields_suit One n c = nat_lt c.to n && nat_lt c.a n && c.b == 0 && c.word == 0
record_fields_suit Two n c = nat_lt c.to n && nat_lt c.a n && nat_lt c.b n && c.word == 0
record_fields_suit Fork n c = c.to == 0 && nat_lt c.a n && c.word == 0

-- the register is neither an in register nor a uniform
abbrev pub writable : Row → Bool
writable r = not (is_in r || is_uniform r)

-- the register that is written, if one is, may be written
abbrev pub record_writes_suit : Fields → List Row → Record → Bool
record_writes_suit Word rows c = writable (row_at rows c.to)
record_writes_suit One rows c = writable (row_at rows c.to)
record_writes_suit Two rows c = writable (row_at rows c.to)
record_writes_suit Fork rows c = true

-- what follows a step of the kind is one of n records
abbrev pub targets_rule : ℕ → RecordKind → Record → Bool
targets_rule n kind c = leads_inside (fields_of kind) n c

-- a step of the kind uses registers among n, and its other fields are 0
abbrev pub fields_rule : ℕ → RecordKind → Record → Bool
fields_rule n kind c = record_fields_suit (fields_of kind) n c

-- the registers of a step of the kind hold what it takes and gives
abbrev pub types_rule : List Row → RecordKind → Record → Bool
types_rule rows kind c = suits kind (row_at rows c.to).holds (row_at rows c.a).holds (row_at rows c.b).holds c.word

-- a step of the kind writes only what may be written
abbrev pub writes_rule : List Row → RecordKind → Record → Bool
writes_rule rows kind c = record_writes_suit (fields_of kind) rows c

-- the table is not too long
abbrev pub table_length_suits : List ℕ → Bool
table_length_suits table = nat_le (length table) most_words
