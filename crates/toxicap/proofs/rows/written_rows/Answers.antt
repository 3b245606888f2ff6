use Rattle.std.proofs.Common.{refl}
use Rattle.toxicap.specs.{digits, file_header, record_header, headers, ipv4, tcp, tcp_sum, server_base, recorded_side, cut_line, delivered_connection, pieces}
use Rattle.toxicap.specs.{segments_sent_from, frame_bytes, sorted_by_key, written_segments, capture_of, connection_text, contribution}
use Rattle.toxicap.proofs.rows.written_rows.Goals as goal

pub returns-clause-session_written : goal.returns-clause-session_written
unfolding delivered_connection cut_line pieces segments_sent_from frame_bytes sorted_by_key written_segments capture_of headers ipv4 tcp tcp_sum file_header record_header
returns-clause-session_written c = refl

pub returns-clause-refused_written : goal.returns-clause-refused_written
unfolding delivered_connection cut_line pieces segments_sent_from frame_bytes sorted_by_key written_segments capture_of headers ipv4 tcp tcp_sum file_header record_header
returns-clause-refused_written c = refl

pub returns-clause-refused_part : goal.returns-clause-refused_part
unfolding contribution recorded_side server_base delivered_connection connection_text digits pieces segments_sent_from sorted_by_key written_segments
returns-clause-refused_part c = (refl, refl)
