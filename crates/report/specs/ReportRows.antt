-- Worked rows of a connection's line in the report, with lines that the cut shortened.
use Rattle.std.specs.Prelude.{◌≡◌, ℕ, List, [], ◌∷◌, codes, Some, None, true, false}
use Rattle.conn_table.specs.RowSegments.{client, server}
use Rattle.reassembly.specs.RecordedLines.{LineByte, Line, live, fin, close, reset, RecordedConnection}
use Rattle.reassembly.specs.RowLines.{hello, four_of_hello, line_with, session}
use Rattle.toxic_defs.specs.DeliveredLines.{DeliveredConnection, delivered_connection}
use Rattle.toxic_defs.specs.SessionCut.{cut_line}
use Rattle.report.specs.ReportText.{connection_text}

abbrev pub ho : ℕ → ℕ → List LineByte
ho first second = record { value = 104; at = first; starts = true } ∷ record { value = 111; at = second; starts = true } ∷ []

-- two lines after a proxy, cut
abbrev pub delivered_cut : Line → Line → DeliveredConnection
delivered_cut up down = record { proxy = Some 0; refused = false; up = cut_line 1000000 up down up; down = cut_line 1000000 up down down }

-- the report's line of a session whose lines became these, before the cut
abbrev pub text_of : RecordedConnection → Line → Line → List ℕ
text_of recorded up down = connection_text 0 None client server recorded (delivered_cut up down)

-- ---- as recorded, and refused

abbrev pub SessionTold : Type 0
SessionTold =
    connection_text 0 None client server session (delivered_connection 1000000 42 0 0 None session)
    ≡ codes "0 10.0.0.1:40000 > 10.0.0.2:80 proxy - up 5/5/0 fin+2000 max 0 down 0/0/0 fin+3000 max 0\n"

abbrev pub RefusedTold : Type 0
RefusedTold =
    connection_text 7 None client server session (delivered_connection 1000000 42 0 7 (Some (record { number = 3; enabled = false; up = []; down = [] })) session)
    ≡ codes "7 10.0.0.1:40000 > 10.0.0.2:80 proxy 3 up 0/5/0 refused max 0 down 0/0/0 refused max 0\n"

-- ---- cut

-- a close after four bytes ends both directions
abbrev pub LimitedText : Type 0
LimitedText =
    text_of session (line_with (four_of_hello 1001000) (close 1001000)) (line_with [] (fin 1003000))
    ≡ codes "0 10.0.0.1:40000 > 10.0.0.2:80 proxy 0 up 4/5/0 close+1000 max 0 down 0/0/0 close+1000 max 0\n"

-- a recorded reset cuts what comes later than it
abbrev pub session_reset : RecordedConnection
session_reset = record session {
  up = record { line = line_with (hello 1001000) (reset 1002000); lost = 0 };
  down = record { line = line_with [] (reset 1002000); lost = 0 };
}

abbrev pub ResetText : Type 0
ResetText =
    text_of session_reset (line_with (hello 1101000) (reset 1101000)) (line_with [] (reset 1002000))
    ≡ codes "0 10.0.0.1:40000 > 10.0.0.2:80 proxy 0 up 0/5/0 reset+2000 max 0 down 0/0/0 reset+2000 max 0\n"

-- a line that never ends leaves the other as it is
abbrev pub StoppedText : Type 0
StoppedText =
    text_of session (line_with [] live) (line_with [] (fin 1003000))
    ≡ codes "0 10.0.0.1:40000 > 10.0.0.2:80 proxy 0 up 0/5/0 open max 0 down 0/0/0 fin+3000 max 0\n"

abbrev pub ResetAtOnceText : Type 0
ResetAtOnceText =
    text_of session (line_with [] (reset 1000000)) (line_with [] (fin 1003000))
    ≡ codes "0 10.0.0.1:40000 > 10.0.0.2:80 proxy 0 up 0/5/0 reset+0 max 0 down 0/0/0 reset+0 max 0\n"

-- a close and a reset at one instant both stay
abbrev pub TieText : Type 0
TieText =
    text_of session (line_with (hello 1001000) (close 1001500)) (line_with [] (reset 1001500))
    ≡ codes "0 10.0.0.1:40000 > 10.0.0.2:80 proxy 0 up 5/5/0 close+1500 max 0 down 0/0/0 reset+1500 max 0\n"

-- bytes and a FIN at the closing instant stay
abbrev pub FinStaysText : Type 0
FinStaysText =
    text_of session (line_with (hello 1001500) (fin 1001500)) (line_with [] (close 1001500))
    ≡ codes "0 10.0.0.1:40000 > 10.0.0.2:80 proxy 0 up 5/5/0 fin+1500 max 500 down 0/0/0 close+1500 max 0\n"

-- nothing is delivered at the horizon, and all before it is
abbrev pub AtHorizonText : Type 0
AtHorizonText =
    text_of session (line_with (hello 4294967296000000) (fin 4294967296000000)) (line_with [] (reset 4294967296000000))
    ≡ codes "0 10.0.0.1:40000 > 10.0.0.2:80 proxy 0 up 0/5/0 open max 0 down 0/0/0 open max 0\n"

abbrev pub BeforeHorizonText : Type 0
BeforeHorizonText =
    text_of session (line_with (hello 4294967295999999) live) (line_with [] (reset 4294967296000000))
    ≡ codes "0 10.0.0.1:40000 > 10.0.0.2:80 proxy 0 up 5/5/0 open max 4294967294998999 down 0/0/0 open max 0\n"

-- ---- delays

abbrev pub LaterText : Type 0
LaterText =
    text_of session (line_with (hello 1101000) (fin 1101000)) (line_with [] (fin 1003000))
    ≡ codes "0 10.0.0.1:40000 > 10.0.0.2:80 proxy 0 up 5/5/0 fin+101000 max 100000 down 0/0/0 fin+3000 max 0\n"

-- the delays of two bytes, of which the first is longer, and bytes that were lost
abbrev pub session_lossy : RecordedConnection
session_lossy = record session { down = record { line = line_with (ho 1002000 1004000) live; lost = 12 } }

abbrev pub LongestText : Type 0
LongestText =
    text_of session_lossy (line_with [] live) (line_with (ho 1005000 1006000) live)
    ≡ codes "0 10.0.0.1:40000 > 10.0.0.2:80 proxy 0 up 0/5/0 open max 0 down 2/2/12 open max 3000\n"
