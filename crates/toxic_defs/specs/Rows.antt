-- Worked rows of words, toxics and the session cut.
use Rattle.std.specs.Prelude.{◌≡◌, ℕ, zero, suc, Bool, true, false, List, [], ◌∷◌, ◌++◌, map, Some, None}
use Rattle.pcap_records.specs.Instants.{microseconds}
use Rattle.reassembly.specs.RecordedLines.{LineByte, Line, End, live, fin, close, reset}
use Rattle.reassembly.specs.RowLines.{hello, four_of_hello, line_with}
use Rattle.toxic_defs.specs.RandomWords.{word_of}
use Rattle.toxic_defs.specs.Latency.{late_bytes}
use Rattle.toxic_defs.specs.Bandwidth.{rated_bytes}
use Rattle.toxic_defs.specs.Slicer.{paced_bytes}
use Rattle.toxic_defs.specs.SessionCut.{cut_line}
use Rattle.toxic_defs.specs.Toxics.{RatedKind, made_toxic, applies, run, chain}
use Rattle.toxic_defs.specs.declared.words.Key.{Key}
use Rattle.toxic_defs.specs.declared.kinds.Kind.{Kind}
use Rattle.toxic_defs.specs.declared.kinds.Kind.TheVariants.{Latency, Bandwidth, SlowClose, Timeout, ResetPeer, Slicer, LimitData}

abbrev pub byte : ℕ → ℕ → Bool → LineByte
byte value at starts = record { value = value; at = at; starts = starts }

-- ---- words

abbrev pub known_key : Key
known_key = record { seed = 42; s = 0; c = 3; d = 0; t = 6 }

abbrev pub rated : ℕ → Kind → RatedKind
rated ppm kind = record { kind = kind; ppm = ppm }

pub record WordRows : Type 0 where
  -- the first outputs of the reference code's demonstration: state 42, stream 54
  pub known_words : map (word_of known_key) (0 ∷ 1 ∷ 2 ∷ []) ≡ 0xa15c02b7 ∷ 0x7b47f409 ∷ 0xba1d3330 ∷ []
  -- word 0 is 161,783 of a million
  pub word_decides : map (λ ppm. applies (rated ppm (Timeout 0)) known_key) (161783 ∷ 161784 ∷ []) ≡ false ∷ true ∷ []

-- ---- ranges

-- the least and the greatest attributes of each kind
abbrev pub borders : List Kind
borders =
    Latency 0 0 ∷ Latency 1000000000 1000000000 ∷ Bandwidth 1 ∷ Bandwidth 1000000 ∷ SlowClose 0 ∷ SlowClose 1000000000 ∷ Timeout 0 ∷ Timeout 1000000000 ∷ ResetPeer 0 ∷ ResetPeer 1000000000
    ∷ Slicer 1 0 0 ∷ Slicer 1000000000 999999999 1000000000 ∷ LimitData 0 ∷ LimitData 1000000000000 ∷ []

-- attributes next to these, out of range
abbrev pub other_kinds : List Kind
other_kinds =
    Latency 1000000001 0 ∷ Latency 0 1000000001 ∷ Bandwidth 0 ∷ Bandwidth 1000001 ∷ SlowClose 1000000001 ∷ Timeout 1000000001 ∷ ResetPeer 1000000001 ∷ Slicer 0 0 0 ∷ Slicer 1000000001 0 0
    ∷ Slicer 5 5 0 ∷ Slicer 1 0 1000000001 ∷ LimitData 1000000000001 ∷ []

pub record RangeRows : Type 0 where
  pub borders_fit : map (λ kind. made_toxic kind 1000000) borders ≡ map (λ kind. Some (rated 1000000 kind)) borders
  pub others_do_not : map (λ kind. made_toxic kind 0) other_kinds ≡ map (λ kind. None) other_kinds
  pub million_is_all : made_toxic (Timeout 0) 1000001 ≡ None

-- ---- toxics

abbrev pub hello_line : Line
hello_line = line_with (hello 1000) (fin 2000)

abbrev pub two_chunks : ℕ → ℕ → End → Line
two_chunks a b end = line_with (byte 97 a true ∷ byte 98 b true ∷ []) end

-- what a toxic that always applies makes of a line of a connection opened at 0
abbrev pub line_under : Line → Kind → Line
line_under f kind = run microseconds (rated 1000000 kind) known_key 0 f

pub record ToxicRows : Type 0 where
  pub limit_closes : map (line_under hello_line) (LimitData 5 ∷ LimitData 4 ∷ LimitData 0 ∷ []) ≡ hello_line ∷ line_with (four_of_hello 1000) (close 1000) ∷ line_with [] (close 1000) ∷ []
  pub timeout_closes : map (line_under hello_line) (Timeout 0 ∷ Timeout 1 ∷ []) ≡ line_with [] live ∷ line_with [] (close 1000) ∷ []
  -- a byte at the instant of the reset is dropped, a FIN before it stays
  pub peer_resets : map (line_under hello_line) (ResetPeer 0 ∷ ResetPeer 1 ∷ ResetPeer 2 ∷ ResetPeer 3 ∷ [])
      ≡ line_with [] (reset 0) ∷ line_with [] (reset 1000) ∷ line_with (hello 1000) (reset 2000) ∷ hello_line ∷ []
  pub closes_later : line_under hello_line (SlowClose 2) ≡ line_with (hello 1000) (fin 4000)
  -- delays of 100 and 72 milliseconds are drawn; the FIN moves to the last byte
  pub delays_are_drawn : line_under (two_chunks 1000 5000 (fin 6000)) (Latency 100 50) ≡ two_chunks 101000 101000 (fin 101000)
  pub sizes_are_drawn : line_under hello_line (Slicer 3 1 10)
      ≡ line_with (byte 104 1000 true ∷ byte 101 1000 false ∷ byte 108 1010 true ∷ byte 108 1010 false ∷ byte 111 1010 false ∷ []) (fin 2000)
  -- slices of at least 100 bytes: a chunk leaves whole when its last byte does, 1000 microseconds a byte at 1 KB a second
  pub rate_delays : line_under (two_chunks 1000 1500 live) (Bandwidth 1) ≡ two_chunks 2000 3000 live

-- ---- chains

pub record ChainRows : Type 0 where
  -- three toxics, of which the one in the middle never applies
  pub chain_in_turn : chain microseconds (rated 1000000 (Latency 1 0) ∷ rated 0 (Timeout 0) ∷ rated 1000000 (LimitData 4) ∷ []) 0 42 0 3 0 hello_line
      ≡ line_with (byte 104 2000 true ∷ byte 101 2000 false ∷ byte 108 2000 false ∷ byte 108 2000 false ∷ []) (close 2000)
  -- the toxic's number belongs to its key: the seventh toxic draws the known words
  pub chain_counts : chain microseconds (rated 0 (Timeout 0) ∷ rated 0 (Timeout 0) ∷ rated 0 (Timeout 0) ∷ rated 0 (Timeout 0) ∷ rated 0 (Timeout 0) ∷ rated 0 (Timeout 0) ∷ rated 161784 (Latency 100 50) ∷ rated 0 (Timeout 0) ∷ []) 0 42 0 3 0
      (two_chunks 1000 5000 live)
      ≡ two_chunks 101000 101000 live

-- ---- toxics that delay bytes

abbrev pub others : ℕ → ℕ → List LineByte
others zero at = []
others (suc n) at = byte 7 at false ∷ others n at

-- a chunk of n + 1 bytes
abbrev pub chunk : ℕ → ℕ → List LineByte
chunk n at = byte 7 at true ∷ others n at

abbrev pub no_numbers : ℕ → ℕ
no_numbers k = 0

-- number k: only the first delay is long
abbrev pub long_first : ℕ → ℕ
long_first zero = 77
long_first (suc zero) = 100
long_first (suc (suc k)) = 0

pub record DelayRows : Type 0 where
  pub latency_delays : late_bytes microseconds no_numbers 100 0 (chunk 1 1000 ++ chunk 0 5000) ≡ chunk 1 101000 ++ chunk 0 105000
  -- delays of 100 and of 0 milliseconds by the numbers 1 and 2: the second chunk does not overtake the first
  pub none_overtakes : late_bytes microseconds long_first 50 50 (chunk 0 1000 ++ chunk 0 5000 ++ chunk 0 200000) ≡ chunk 0 101000 ++ chunk 0 101000 ++ chunk 0 200000
  -- in the last second a long delay ends at the horizon
  pub latency_stops_at_horizon : late_bytes microseconds no_numbers 1000000000 0 (chunk 0 4294967295000000) ≡ chunk 0 4294967296000000
  -- at 3 KB a second a byte takes a third of a millisecond: fractions of a microsecond are carried on
  pub rate_is_exact : rated_bytes microseconds 3 (chunk 0 1000 ++ chunk 0 1001 ++ chunk 0 1002) ≡ chunk 0 1334 ++ chunk 0 1667 ++ chunk 0 2000
  -- at 1 KB a second slices have 100 bytes or what is left of their chunk
  pub rated_slices : rated_bytes microseconds 1 (chunk 249 1000 ++ chunk 9 2000) ≡ chunk 99 101000 ++ chunk 99 201000 ++ chunk 49 251000 ++ chunk 9 261000
  pub slices_in_turn : paced_bytes microseconds no_numbers 1 0 10 (chunk 1 1000 ++ chunk 0 1005) ≡ chunk 0 1000 ++ chunk 0 1010 ++ chunk 0 1020
  -- slices of 3 and of 2 bytes by the numbers 1 and 2; the next one ends with its chunk
  pub drawn_sizes : paced_bytes microseconds long_first 3 1 10 (chunk 5 1000 ++ chunk 0 5000) ≡ chunk 2 1000 ++ chunk 1 1010 ++ chunk 0 1020 ++ chunk 0 5000

-- ---- the session cut

abbrev pub hey : ℕ → List LineByte
hey at = byte 104 at true ∷ byte 101 at false ∷ byte 121 at false ∷ []

abbrev pub both_cut : Line → Line → Line × Line
both_cut up down = (cut_line microseconds up down up, cut_line microseconds up down down)

pub record CutRows : Type 0 where
  pub close_ends_both : both_cut (line_with (hey 1001000) (close 1001000)) (line_with [] (fin 1003000)) ≡ (line_with (hey 1001000) (close 1001000), line_with [] (close 1001000))
  pub earlier_reset_cuts : both_cut (line_with (hey 1101000) (reset 1101000)) (line_with [] (reset 1002000)) ≡ (line_with [] (reset 1002000), line_with [] (reset 1002000))
  pub live_cuts_nothing : both_cut (line_with [] live) (line_with (hey 1001000) (fin 1003000)) ≡ (line_with [] live, line_with (hey 1001000) (fin 1003000))
  -- a close and a reset at one instant both stay
  pub tie_stays : both_cut (line_with (hey 1001000) (close 1001500)) (line_with [] (reset 1001500)) ≡ (line_with (hey 1001000) (close 1001500), line_with [] (reset 1001500))
  -- bytes and a FIN at the closing instant stay
  pub fin_stays : both_cut (line_with (hey 1001500) (fin 1001500)) (line_with [] (close 1001500)) ≡ (line_with (hey 1001500) (fin 1001500), line_with [] (close 1001500))
  pub nothing_at_horizon : both_cut (line_with (hey 4294967296000000) (fin 4294967296000000)) (line_with [] (reset 4294967296000000)) ≡ (line_with [] live, line_with [] live)
  pub all_before_horizon : both_cut (line_with (hey 4294967295999999) live) (line_with [] (reset 4294967296000000)) ≡ (line_with (hey 4294967295999999) live, line_with [] live)
