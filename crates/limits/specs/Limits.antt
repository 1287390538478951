-- Document 01's limits, as the definitions use them; src/lib.rt has the same for the code. Assumes nothing.
use Rattle.std.specs.Prelude.{ℕ}

-- 3: "line over 4,096 bytes, line end (LF or CR LF) not counted, read or to be listed"
abbrev pub line_limit : ℕ
line_limit = 4096

-- 18: "job or body over 65,536 bytes"
abbrev pub job_limit : ℕ
job_limit = 65536

abbrev pub body_limit : ℕ
body_limit = 65536

-- 18: "text or listing over 1,048,576"
abbrev pub text_limit : ℕ
text_limit = 1048576

abbrev pub listing_limit : ℕ
listing_limit = 1048576

-- 18: "more than 65,536 strings or 1,048,576 string bytes"
abbrev pub string_limit : ℕ
string_limit = 65536

abbrev pub string_bytes_limit : ℕ
string_bytes_limit = 1048576

-- "`strings=` above 4,096 .. is 1"
abbrev pub job_string_limit : ℕ
job_string_limit = 4096

-- "The program lends 65,536 output bytes and 4,096 label entries"
abbrev pub job_output : ℕ
job_output = 65536

abbrev pub job_labels : ℕ
job_labels = 4096
