-- The words of other crates that definitions, contracts and proofs use, from one place.
pub use Rattle.command_line.specs.Asking.{IsPlanInRange, ReadsAs}
pub use Rattle.command_line.specs.declared.asked.Asked.{Asked}
pub use Rattle.command_line.specs.declared.error.Stop.{Stop}
pub use Rattle.conn_table.specs.ClassCounts.{counts_of}
pub use Rattle.conn_table.specs.Connections.{Connection, begins_in, connection_of, later_members}
unfoldable pub use Rattle.conn_table.specs.Connections.{beginnings, connections, unopened_count}
pub use Rattle.conn_table.specs.IndexedConnections.{IndexedConnectionsAgree, without_indices}
pub use Rattle.conn_table.specs.IndexedSegments.{IndexedSegment, TimedSegment, indexed_segment, is_segment, same_peer}
unfoldable pub use Rattle.conn_table.specs.IndexedSegments.{indexed_segments}
pub use Rattle.conn_table.specs.Partials.{segments_between}
pub use Rattle.conn_table.specs.RowSegments.{client, row_segment, second_client, server}
pub use Rattle.conn_table.specs.SeenCapture.{SeenCapture, seen_capture, seen_packet}
unfoldable pub use Rattle.conn_table.specs.SeenCapture.{seen_packets}
pub use Rattle.conn_table.specs.Tables.{TableView, conn_in}
unfoldable pub use Rattle.conn_table.specs.Tables.{table_in}
pub use Rattle.conn_table.specs.declared.class_counts.Counts.{Counts}
pub use Rattle.conn_workers.specs.Recordings.{whole_connections, whole_table, Contribution, contribution_of, connections_of, delivery_of, rows, met_proxy, RecordingView, recorded_delivery, recorded_lines, recorded_row, recording_in, recordings_of}
unfoldable pub use Rattle.conn_workers.specs.Recordings.{contribution, deliveries}
pub use Rattle.conn_workers.specs.DeliveryLaws.{LinesAreContributed, RowsAreContributed}
pub use Rattle.conn_workers.specs.RowShares.{HoldLines, text_of, HoldRow, run_summary}
pub use Rattle.conn_workers.specs.declared.deliveries.Delivery.{Delivery}
pub use Rattle.conn_workers.specs.declared.row_shares.RowShare.{RowShare}
pub use Rattle.conn_workers.specs.declared.scenario_texts.ShareTexts.{ShareTexts}
pub use Rattle.conn_workers.specs.declared.summaries.RunSummary.{RunSummary}
pub use Rattle.disks.specs.FileContents.{Held}
pub use Rattle.disks.specs.Histories.{History, LeavesWhole, PublishedAgain, PublishedFile, Publishes, PublishingLeavesWhole, held_after, held_at, held_now}
pub use Rattle.disks.specs.Histories.{with_published}
pub use Rattle.disks.specs.ReadFiles.{ReadFilesView, with_file}
pub use Rattle.disks.specs.Standing.{HasRead, Standing, StandingFile, id_of}
pub use Rattle.disks.specs.declared.disk.DiskFault.{DiskFault}
pub use Rattle.disks.specs.declared.disk.FileId.{FileId}
pub use Rattle.effects.specs.EffectCounts.{effects_in}
pub use Rattle.frame_headers.specs.Frame.{FrameClass, SegmentFields, datagram, frame_class, segment, segment_fields}
pub use Rattle.frame_headers.specs.HeaderLaws.{FieldsFit, HeadersAreSound, IsHeader, IsVlan, SegmentsFit}
unfoldable pub use Rattle.frame_headers.specs.Headers.{headers, ipv4, tcp}
pub use Rattle.frame_headers.specs.Layout.{headers_len, payload_limit}
pub use Rattle.frame_headers.specs.Sum.{sum16}
unfoldable pub use Rattle.frame_headers.specs.Sum.{tcp_sum}
pub use Rattle.frame_headers.specs.declared.peers.Peer.{Peer}
pub use Rattle.frame_headers.specs.declared.written.Header.{Header}
pub use Rattle.hex.specs.Hex.{is_hex_digit}
pub use Rattle.laid_lines.specs.FlatLines.{flat_lines}
pub use Rattle.laid_lines.specs.RecordedLines.{flat_view}
pub use Rattle.lists.specs.Agreement.{Agrees, AgreesUnlessMemory, Refuses}
pub use Rattle.pcap_records.specs.CaptureView.{CaptureView, bytes_of, capture_refusal, contents_of, packet_of}
pub use Rattle.pcap_records.specs.Grammar.{RawRecord, ReadingsSplit, Splits, packet_of_raw, raw_bytes}
pub use Rattle.pcap_records.specs.Heads.{heads_in}
pub use Rattle.pcap_records.specs.Instants.{horizon, instants, microseconds, nanoseconds, ticks_of}
pub use Rattle.pcap_records.specs.Reading.{Contents, Heading, Packet, Reading, capture_limit, checked_heading, file_header_len, heading_by, magic}
pub use Rattle.pcap_records.specs.Reading.{magic_heading, nanosecond_magic, number_in, packet_limit, reading, record_header_len}
unfoldable pub use Rattle.pcap_records.specs.Reading.{file_heading}
pub use Rattle.pcap_records.specs.Writing.{IsWritable, WrittenIsRead, record_bytes, written_capture}
unfoldable pub use Rattle.pcap_records.specs.Writing.{file_header, record_header}
pub use Rattle.pcap_records.specs.declared.fault.CaptureFault.{CaptureFault}
pub use Rattle.pcap_records.specs.declared.fault.CaptureFault.TheVariants.{BadLink, BadVersion, ShortHeader}
pub use Rattle.pcap_records.specs.declared.heading.Order.{Order}
pub use Rattle.pcap_records.specs.declared.heading.Order.TheVariants.{Big, Little}
pub use Rattle.pcap_records.specs.declared.unit.Unit.{Unit}
pub use Rattle.pcap_records.specs.declared.unit.Unit.TheVariants.{Micros, Nanos}
pub use Rattle.reassembly.specs.Positions.{client_of, effective_members, is_answer, is_reset, members_of, server_of, vlan_of}
unfoldable pub use Rattle.reassembly.specs.Positions.{server_base}
pub use Rattle.reassembly.specs.RecordedLines.{End, Line, LineByte, RecordedConnection, RecordedSide, close, fin, live, recorded_connection, reset}
unfoldable pub use Rattle.reassembly.specs.RecordedLines.{recorded_side}
pub use Rattle.reassembly.specs.RowLines.{session}
pub use Rattle.report.specs.ReportText.{end_word, first_classes_text, heading_text, other_classes_text, peer_text, peers_text, proxy_text, side_text, vlan_text}
unfoldable pub use Rattle.report.specs.ReportText.{connection_text, connections_text, counts_text, report_text}
pub use Rattle.report_laws.specs.SeenHeads.{ReportSeesHeads, SummarySeesHeads, DifferInPayloads, ReportSeesLengths, report_of}
pub use Rattle.run_files.specs.Dumps.{dump_reading_from, dumped_bytes, is_dump, is_foreign}
unfoldable pub use Rattle.run_files.specs.Dumps.{dump_reading}
pub use Rattle.run_files.specs.Folders.{CommitsIn, DraftPathsDiffer, FolderView, IsOutside, Leaves, draft_path, failed_stores, in_folder}
pub use Rattle.run_files.specs.Loading.{IsOfFile, LoadsInput, text_at}
pub use Rattle.run_files.specs.RunFault.{fault_text, outcome_of_storing, run_fault, run_fault_of_storing, run_refusal}
pub use Rattle.run_files.specs.SeenTexts.{IsSeenOf, SeesAs}
pub use Rattle.run_files.specs.Streams.{CountedView, joined}
pub use Rattle.run_files.specs.WrittenOutputs.{IsDraftOf, StoredFile, Stores, files_from, reports_of, stored_before}
pub use Rattle.run_files.specs.declared.error.RunFault.{RunFault}
pub use Rattle.run_files.specs.declared.error.RunFault.TheVariants.{BadDump, BadHost, BadScenario, CaptureTooLong, Memory, ReadFailed, ShelfFailed}
pub use Rattle.run_files.specs.declared.error.RunFault.TheVariants.{TooManyScenarios, WriteFailed}
pub use Rattle.run_files.specs.declared.error.StoreFault.{StoreFault}
pub use Rattle.run_files.specs.declared.outputs.Output.{Output}
pub use Rattle.run_files.specs.declared.head_loading.SeenText.{SeenText}
pub use Rattle.scenarios.specs.Hosts.{address, host_for, is_host_name, is_name_byte, look_up}
pub use Rattle.scenarios.specs.Populate.{scenario}
pub use Rattle.scenarios.specs.ProxyLaws.{AddressesAreDotted}
pub use Rattle.scenarios.specs.Refusals.{and_then, with}
pub use Rattle.scenarios.specs.declared.error.Refusal.{Refusal}
pub use Rattle.scenarios.specs.declared.hosts.KnownHost.{KnownHost}
pub use Rattle.scenarios.specs.declared.proxies.Proxy.{Proxy}
pub use Rattle.segment_writer.specs.KeyLaws.{AreNumbered, HasNoKeyTwice, KeysRise, KeysStandOnce, NeverFalls, OneOrder, SortedNeverFalls}
pub use Rattle.segment_writer.specs.KeyOrder.{RisingIsSorted}
pub use Rattle.segment_writer.specs.OrderedLists.{NoneBelow}
pub use Rattle.segment_writer.specs.SentRows.{keys_of}
pub use Rattle.segment_writer.specs.WrittenConnections.{written_connection}
pub use Rattle.segment_writer.specs.WrittenSegments.{Host, Piece, SentSegment, WrittenConnection, WrittenSide, ack_segment, below, down_turn, end_segments}
pub use Rattle.segment_writer.specs.WrittenSegments.{framed_by_client, framed_by_server, framed_segment, header_of, insert_by_key, is_chunk_border}
pub use Rattle.segment_writer.specs.WrittenSegments.{is_key_below, opening_turn, pieces_led_by, refusal_segment, segments_before_horizon, segments_sent_by}
pub use Rattle.segment_writer.specs.WrittenSegments.{syn_ack_segment, syn_segment, up_turn}
unfoldable pub use Rattle.segment_writer.specs.WrittenSegments.{frame_bytes, pieces, segments_sent_from, sorted_by_key, written_segments}
pub use Rattle.segment_writer.specs.declared.framed.Framed.{Framed}
pub use Rattle.std.specs.Borrow.{Bor}
pub use Rattle.std.specs.Fmt.{decimal, digit_glyph, digits_onto}
unfoldable pub use Rattle.std.specs.Fmt.{digits}
pub use Rattle.std.specs.Io.KnownBytes.{Appends, Consumes, IsAtEnd}
pub use Rattle.std.specs.IoError.{error_kind}
pub use Rattle.std.specs.List.{All, AllByRecursion, AllPairs, cons_option, enumerate_from, filter_map, flat_map, list_all, onto_first, position_or_len}
pub use Rattle.std.specs.List.{prefix_len, range_with_len, slice_split, take_while, zip}
pub use Rattle.std.specs.List.Sorted.{IsPermutation}
pub use Rattle.std.specs.Net.Grammar.{IsDotted}
pub use Rattle.std.specs.Net.Text.{dotted_text}
pub use Rattle.std.specs.Option.{option_or}
pub use Rattle.std.specs.String.{string_bytes}
pub use Rattle.std.specs.Thread.{IsSync}
pub use Rattle.std.specs.Vec.Iter.{into_iter_items, into_iter_len}
pub use Rattle.time_merge.specs.MergedCapture.{all_segments, capture_in_turn}
unfoldable pub use Rattle.time_merge.specs.MergedCapture.{capture_of}
pub use Rattle.toxic_defs.specs.DeliveredLines.{DeliveredConnection, MetProxy}
unfoldable pub use Rattle.toxic_defs.specs.DeliveredLines.{delivered_connection}
unfoldable pub use Rattle.toxic_defs.specs.SessionCut.{cut_line}
