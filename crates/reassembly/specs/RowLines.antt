-- What worked rows are made of: bytes of one chunk, lines, and a recorded session.
use Rattle.std.specs.Prelude.{ℕ, List, [], ◌∷◌, take, Some, true, false}
use Rattle.reassembly.specs.RecordedLines.{LineByte, Line, End, fin, RecordedConnection}

-- a chunk of five bytes at an instant
abbrev pub hello : ℕ → List LineByte
hello at = record { value = 104; at = at; starts = true } ∷ record { value = 101; at = at; starts = false } ∷ record { value = 108; at = at; starts = false } ∷ record { value = 108; at = at; starts = false } ∷ record { value = 111; at = at; starts = false } ∷ []

abbrev pub four_of_hello : ℕ → List LineByte
four_of_hello at = take 4 (hello at)

abbrev pub line_with : List LineByte → End → Line
line_with bytes end = record { bytes = bytes; end = end }

-- the lines of a plain session, written out by hand
abbrev pub session : RecordedConnection
session = record {
  up = record { line = line_with (hello 1001000) (fin 1002000); lost = 0 };
  down = record { line = line_with [] (fin 1003000); lost = 0 };
  client_base = 1000;
  server_base = Some 5000;
  opened = 1000000;
  mac_client = 2 ∷ 0 ∷ 0 ∷ 0 ∷ 0 ∷ 1 ∷ [];
  mac_server = 2 ∷ 0 ∷ 0 ∷ 0 ∷ 0 ∷ 2 ∷ [];
}
