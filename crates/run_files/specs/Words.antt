-- The words of other crates that definitions, contracts and proofs use, from one place.
pub use Rattle.disks.specs.DraftPaths.{DraftsAreNamed, IsDraftPath, has_slash, is_draft_name, path_in, slash, unfinished}
pub use Rattle.disks.specs.FileContents.{FileContents, Gives, Held, IsFileAt, Reads, file_len}
pub use Rattle.disks.specs.Histories.{History, PublishedFile, Publishes, failures, held_now, published_file}
pub use Rattle.disks.specs.ReadFiles.{ReadFilesView, with_file}
pub use Rattle.disks.specs.Standing.{ChangesAt, HasRead, Standing, id_of}
pub use Rattle.disks.specs.declared.disk.DiskFault.{DiskFault}
pub use Rattle.hex.specs.Hex.{IsBytes, decode_of, digit_or_error, encode_lower, encode_upper, hex_digit_value, is_hex_digit, pair_value, ◌>>=◌}
unfoldable pub use Rattle.hex.specs.Hex.{decode_pairs}
pub use Rattle.hex.specs.declared.error.FromHexError.{FromHexError}
pub use Rattle.lists.specs.Agreement.{Agrees, AgreesUnlessMemory, Refuses}
pub use Rattle.pcap_records.specs.Blocks.{block_len, block_limit, slice_limit}
unfoldable pub use Rattle.pcap_records.specs.Blocks.{bytes_until_short}
pub use Rattle.pcap_records.specs.CaptureView.{bytes_of, capture_refusal}
pub use Rattle.pcap_records.specs.Heads.{HeadReaderView, Heads, heads_in, no_header}
unfoldable pub use Rattle.pcap_records.specs.Heads.{read_on}
pub use Rattle.pcap_records.specs.Reading.{capture_limit, reading}
pub use Rattle.pcap_records.specs.declared.fault.CaptureFault.{CaptureFault}
pub use Rattle.scenarios.specs.declared.error.Cause.{Cause}
pub use Rattle.std.specs.Borrow.{Bor}
pub use Rattle.std.specs.Char.{digit_value}
pub use Rattle.std.specs.Fmt.{decimal, format_spec}
unfoldable pub use Rattle.std.specs.Fmt.{char_count, digits, padded_integral}
pub use Rattle.std.specs.Io.{ReadsAtMost, WritesAtMost}
pub use Rattle.std.specs.Io.KnownBytes.{Appends, Consumes, IsAtEnd, ReadConsumes, WriteAppends}
pub use Rattle.std.specs.List.{copy_within, flat_map, list_all, position_from, range_with_len}
pub use Rattle.std.specs.Option.{ForSome}
pub use Rattle.std.specs.Result.{result_unwrap_or}
pub use Rattle.std.specs.Str.{bytes_eq}
pub use Rattle.std.specs.Str.Parse.{AllDigits}
pub use Rattle.std.specs.String.{string_bytes}
pub use Rattle.std.specs.Vec.Iter.{into_iter_items}
