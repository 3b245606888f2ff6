use Rattle.std.proofs.Common.{◌≡◌, ◌∙◌, IfOk}
use Rattle.std.proofs.lemmas.Result.{IfOk-weaker}
use Rattle.conn_table.specs.IndexedConnections.{IndexedConnection, without_indices}
use Rattle.conn_table.specs.Tables.{conn_in}
use Rattle.reassembly.specs.RecordedLines.{recorded_connection}
use Rattle.reassembly.specs.RecordedView.{recorded_view, IsConnectionOf}
use Rattle.reassembly.proofs.Joining.{four_ok}
use Rattle.reassembly.proofs.ConnectionJoin.{AreLines, all_in_file, recorded_is, are_lines}
use Rattle.reassembly.proofs.recordings.lines.Goals as goal

pub recorded_by_members-requires-clause-filed : goal.recorded_by_members-requires-clause-filed
recorded_by_members-requires-clause-filed c =
    all_in_file _ _ _ _ _ _ c.bytes-file.ensures.sound c.payloads_are_in_place.ensures c.requires.of_capture c.bytes-file.ensures.bytes c.as_slice-members.ensures c.requires.shown

-- the result is the definition's for every connection that the table shows as `conn`
told : (c : goal.After-recorded_by_members)
    → IfOk c.recorded_by_members.result (λ r. (x : IndexedConnection) → IsConnectionOf c.args.capture.now x → c.args.conn.now ≡ conn_in c.args.capture.now x → recorded_view r ≡ recorded_connection (without_indices x))
told c =
    four_ok c.recorded_by_members.result c.recorded_by_members.ensures.sides c.recorded_by_members.ensures.opened c.recorded_by_members.ensures.client c.recorded_by_members.ensures.server
    (λ r sides opened client server. (λ x of shown.
    recorded_is _ _ x _ c.args.conn.now _ (recorded_view r) c.bytes-file.ensures.sound c.payloads_are_in_place.ensures of c.bytes-file.ensures.bytes c.as_slice-members.ensures shown sides opened
    (client ∙ c.macs_at-macs.ensures.client) (server ∙ c.macs_at-macs.ensures.server)))

lines_are : (c : goal.After-recorded_by_members) → IfOk c.recorded_by_members.result (λ r. AreLines (recorded_view r))
lines_are c =
    IfOk-weaker c.recorded_by_members.result _ _
    (λ r value. are_lines _ c.args.capture.now c.requires.connection (recorded_view r) c.bytes-file.ensures.sound c.payloads_are_in_place.ensures c.requires.of_capture (value c.requires.connection c.requires.of_capture c.requires.shown)) (told c)

pub returns-clause-value : goal.returns-clause-value
returns-clause-value c = told c

pub returns-clause-up : goal.returns-clause-up
returns-clause-up c = IfOk-weaker c.recorded_by_members.result _ _ (λ r are. are.up) (lines_are c)

pub returns-clause-down : goal.returns-clause-down
returns-clause-down c = IfOk-weaker c.recorded_by_members.result _ _ (λ r are. are.down) (lines_are c)
